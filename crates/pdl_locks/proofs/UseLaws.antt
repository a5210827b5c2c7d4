-- What places do, at a location and with a memory.
use Rattle.std.proofs.Common.{◌≡◌, refl, sym, ap, ◌∙◌, ◌+◌, min, Bool, false, ◌&&◌, ◌||◌, List, [], ◌∷◌, ◌++◌, count_by, if◌then◌else◌, arith}
use mathlib.Core.Path.{fun_ext}
use Rattle.std.specs.List.{list_any}
use Rattle.std.proofs.lemmas.List.Folds.{list_any-append}
use Rattle.std.proofs.Math.Bool.{or-false}
use Rattle.std.proofs.lemmas.Bool.{and_right}
use Rattle.std.proofs.lemmas.List.Sums.{fold_push}
use Rattle.pdl_semantics.specs.Tree.{Location, Kind, R, W, Reserve, Block, Release, Write}
use Rattle.pdl_rules.specs.Places.{Place, Statement}
use Rattle.pdl_rules.specs.Locks as spec
use Rattle.pdl_rules.specs.Locks.{hold_after, after_place, reserves_location, writes_location, is_reserve_of, is_write_of, same_kind}
use Rattle.pdl_rules.proofs.SingleWrites.{held_alike, reserves_alike, writes_alike}
use Rattle.pdl_rules.proofs.Counts.{count_push, weight}
use Rattle.pdl_locks.specs.declared.numbers.Keys.TheVariants.{Locations, Memories}
use Rattle.pdl_locks.specs.declared.uses.LocationUse as location
use Rattle.pdl_locks.specs.declared.uses.MemoryUse as memory
use Rattle.pdl_locks.specs.Numbers.{is_at}
use Rattle.pdl_locks.specs.Uses.{IsUsed, IsUsedMemory}
use Rattle.pdl_locks.proofs.UseSteps.{HasLaws}
use Rattle.pdl_word.proofs.Bytes.{bytes_same}

any_more : (f : Place → Bool) (xs : List Place) (x : Place) → list_any f (xs ++ x ∷ []) ≡ (list_any f xs || f x)
any_more f xs x = list_any-append f xs (x ∷ []) ∙ ap (λ b. list_any f xs || b) (or-false (f x))

any_same : (f : Place → Bool) (xs : List Place) (x : Place) → f x ≡ false → list_any f xs ≡ list_any f (xs ++ x ∷ [])
any_same f xs x e = sym (any_more f xs x ∙ ap (λ b. list_any f xs || b) e ∙ or-false (list_any f xs))

count_same : (f : Place → Bool) (xs : List Place) (x : Place) → f x ≡ false → count_by f xs ≡ count_by f (xs ++ x ∷ [])
count_same f xs x e =
    let more = count_push f xs x in
    let none : weight (f x) ≡ 0 = ap weight e in
    omega (arith, more, none)

-- AT A LOCATION

untouched : (l : Location) (h : spec.Hold) (x : Place) → is_at Locations l x ≡ false → after_place l h x ≡ h
untouched l h (Statement (Reserve s m k) bs) e = ap (λ b. if b then spec.Reserved k else h) e
untouched l h (Statement (Block s m) bs) e = ap (λ b. if b then spec.after_block h else h) e
untouched l h (Statement (Release s m) bs) e = ap (λ b. if b then spec.Released else h) e
untouched l h _ e = refl

unreserved : (l : Location) (x : Place) → is_at Locations l x ≡ false → reserves_location l x ≡ false
unreserved l (Statement (Reserve s m k) bs) e = e
unreserved l _ e = refl

unwritten : (l : Location) (x : Place) → is_at Locations l x ≡ false → writes_location l x ≡ false
unwritten l (Statement (Write s m v) bs) e = e
unwritten l _ e = refl

-- what was done at a location is the same of one that is named alike, and stays after a place elsewhere
pub location_laws : HasLaws Locations IsUsed
location_laws = record {
  alike = λ used l m earlier j h. record {
    hold = h.hold ∙ held_alike m l j earlier;
    reserved = h.reserved ∙ ap (λ (f : Place → Bool). list_any f earlier) (fun_ext (reserves_alike m l j));
    writes = h.writes ∙ ap (λ (f : Place → Bool). min 2 (count_by f earlier)) (fun_ext (writes_alike m l j));
  };
  aside = λ used l earlier x e h. record {
    hold = h.hold ∙ sym (fold_push (after_place l) spec.Nothing earlier x ∙ untouched l (hold_after l earlier) x e);
    reserved = h.reserved ∙ any_same (reserves_location l) earlier x (unreserved l x e);
    writes = h.writes ∙ ap (min 2) (count_same (writes_location l) earlier x (unwritten l x e));
  };
}

-- WITH A MEMORY

-- a place with another memory reserves none of it
pub unreserved_memory : (k : Kind) (l : Location) (x : Place) → is_at Memories l x ≡ false → is_reserve_of k l.mem.name x ≡ false
unreserved_memory k l (Statement (Reserve s m j) bs) e = and_right (same_kind k j) _ e
unreserved_memory k l _ e = refl

unwritten_memory : (l : Location) (x : Place) → is_at Memories l x ≡ false → is_write_of l.mem.name x ≡ false
unwritten_memory l (Statement (Write s m v) bs) e = e
unwritten_memory l _ e = refl

-- what was done with a memory is the same of each location in it, and stays after a place with another
pub memory_laws : HasLaws Memories IsUsedMemory
memory_laws = record {
  alike = λ used l m earlier j h. let same = bytes_same m.mem.name l.mem.name j in record {
    reads = h.reads ∙ ap (λ name. min 4 (count_by (is_reserve_of R name) earlier)) same;
    reserves = h.reserves ∙ ap (λ name. min 2 (count_by (is_reserve_of W name) earlier)) same;
    written = h.written ∙ ap (λ name. list_any (is_write_of name) earlier) same;
  };
  aside = λ used l earlier x e h. record {
    reads = h.reads ∙ ap (min 4) (count_same (is_reserve_of R l.mem.name) earlier x (unreserved_memory R l x e));
    reserves = h.reserves ∙ ap (min 2) (count_same (is_reserve_of W l.mem.name) earlier x (unreserved_memory W l x e));
    written = h.written ∙ any_same (is_write_of l.mem.name) earlier x (unwritten_memory l x e);
  };
}
