-- Slots stay in a circuit when more is added.
use Rattle.std.specs.Prelude.{ℕ, ◌+◌}
use mathlib.Core.Path.{◌∙◌}
use Rattle.pdl_net.specs.declared.Net.TheVariants.{Reg}
use Rattle.pdl_net.specs.Circuit.{Circuit}
use Rattle.pdl_net.specs.Growth.{Keeps}
use Rattle.pdl_lockapi.specs.declared.LockRegs.{LockRegs}
use Rattle.pdl_lock_ring.specs.declared.layout.RingLayout.{RingLayout}
use Rattle.pdl_lock_ring.specs.Slots.{HasSlots, ArePlaced, layout_of, addr_at, has_at, value_at}

-- the slots of a lock stay in a circuit that keeps what it had
pub slots_keep : (a b : Circuit) (l : RingLayout) → HasSlots a l → Keeps a b → HasSlots b l
slots_keep a b l x y = record {
  head_there = y.there (Reg l.from) x.head_there;
  head = y.kept (Reg l.from) x.head_there ∙ x.head;
  has_head = y.has_reg l.from x.has_head;
  head_wide = y.width l.from x.has_head ∙ x.head_wide;
  tail_there = y.there (Reg (l.from + 1)) x.tail_there;
  tail = y.kept (Reg (l.from + 1)) x.tail_there ∙ x.tail;
  has_tail = y.has_reg (l.from + 1) x.has_tail;
  tail_wide = y.width (l.from + 1) x.has_tail ∙ x.tail_wide;
  addr_there = λ k h. y.there (Reg (addr_at l k)) (x.addr_there k h);
  addr = λ k h. y.kept (Reg (addr_at l k)) (x.addr_there k h) ∙ x.addr k h;
  has_addr = λ k h. y.has_reg (addr_at l k) (x.has_addr k h);
  addr_wide = λ k h. y.width (addr_at l k) (x.has_addr k h) ∙ x.addr_wide k h;
  has_there = λ k h. y.there (Reg (has_at l k)) (x.has_there k h);
  holds = λ k h. y.kept (Reg (has_at l k)) (x.has_there k h) ∙ x.holds k h;
  has_has = λ k h. y.has_reg (has_at l k) (x.has_has k h);
  has_wide = λ k h. y.width (has_at l k) (x.has_has k h) ∙ x.has_wide k h;
  value_there = λ k h. y.there (Reg (value_at l k)) (x.value_there k h);
  value = λ k h. y.kept (Reg (value_at l k)) (x.value_there k h) ∙ x.value k h;
  has_value = λ k h. y.has_reg (value_at l k) (x.has_value k h);
  value_wide = λ k h. y.width (value_at l k) (x.has_value k h) ∙ x.value_wide k h;
  has_array = λ m e. y.has_array m (x.has_array m e);
  array_word = λ m e. y.word m (x.has_array m e) ∙ x.array_word m e;
  array_depth = λ m e. y.depth m (x.has_array m e) ∙ x.array_depth m e;
}

-- so many slots that keep values stay in a circuit that keeps what it had
pub placed_stay : (size : ℕ) (a b : Circuit) (r : LockRegs) → Keeps a b → ArePlaced size a r → ArePlaced size b r
placed_stay size a b r k i = record { count = i.count; listed = i.listed; sized = i.sized; slots = slots_keep a b (layout_of size r) i.slots k }
