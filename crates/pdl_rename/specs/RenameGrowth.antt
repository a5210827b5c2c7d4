-- A renaming lock stays in a circuit when more is added.
use Rattle.std.specs.Prelude.{ℕ, ◌^◌}
use mathlib.Core.Path.{◌∙◌}
use Rattle.pdl_net.specs.declared.Net.TheVariants.{Reg}
use Rattle.pdl_net.specs.Circuit.{Circuit}
use Rattle.pdl_net.specs.Growth.{Keeps}
use Rattle.pdl_lockapi.specs.declared.LockRegs.{LockRegs}
use Rattle.pdl_lock_ring.specs.SlotGrowth.{slots_keep}
use Rattle.pdl_rename.specs.declared.RenameFile.{RenameFile}
use Rattle.pdl_rename.specs.declared.layout.Layout.{Layout}
use Rattle.pdl_rename.specs.Places.{HasMap, HasStore, IsRename, map_at, slots_at, layout_of}

-- the first n registers of the map stay in a circuit when more is added
pub map_keep : (a b : Circuit) (l : Layout) (n : ℕ) → HasMap a l n → Keeps a b → HasMap b l n
map_keep a b l n x y = record {
  map_there = λ k h. y.there (Reg (map_at l k)) (x.map_there k h);
  mapped = λ k h. y.kept (Reg (map_at l k)) (x.map_there k h) ∙ x.mapped k h;
  has_map = λ k h. y.has_reg (map_at l k) (x.has_map k h);
  map_wide = λ k h. y.width (map_at l k) (x.has_map k h) ∙ x.map_wide k h;
}

-- the array stays in a circuit when more is added
pub store_keep : (a b : Circuit) (l : Layout) → HasStore a l → Keeps a b → HasStore b l
store_keep a b l x y = record {
  has_store = y.has_array l.array x.has_store;
  store_word = y.word l.array x.has_store ∙ x.store_word;
  store_depth = y.depth l.array x.has_store ∙ x.store_depth;
}

-- a whole renaming lock stays in a circuit when more is added
pub rename_stays : (q : RenameFile) (a b : Circuit) (r : LockRegs) → Keeps a b → IsRename q a r → IsRename q b r
rename_stays q a b r k i = record {
  count = i.count;
  listed = i.listed;
  some = i.some;
  renaming = i.renaming;
  slots = slots_keep a b (slots_at q.size r) i.slots k;
  map = map_keep a b (layout_of q.size r) (2 ^ r.bits) i.map k;
  store = store_keep a b (layout_of q.size r) i.store k;
}
