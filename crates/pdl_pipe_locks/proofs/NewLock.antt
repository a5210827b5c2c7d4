-- A new lock, by what its module has made.
use Rattle.std.proofs.Common.{◌≡◌, ℕ, ◌+◌, ◌^◌, ◌<◌, ◌∙◌, Bool, true, false, List, [], ◌∷◌, length, length-append, get_or, refl, sym, ap, subst, arith}
use Rattle.std.specs.Prelude.{Option, Some, None, is_some, not, if◌then◌else◌}
use Rattle.std.proofs.lemmas.List.{get_or-map, get_or_push, length-map}
use Rattle.pdl_semantics.specs.Tree.{LockKind}
use Rattle.pdl_semantics.specs.Flat.{Mem, is_delayed}
use Rattle.pdl_net.specs.Circuit.{Circuit, Shape, shape_of, shapes_of, no_array, HasArray, array_width, array_depth}
use Rattle.pdl_net.specs.Meaning.{signal, write_signals}
use Rattle.pdl_net.specs.Growth.{ExtendsArrays}
use Rattle.pdl_lockapi.specs.declared.LockRegs.{LockRegs}
use Rattle.pdl_lockapi.specs.Laws.{arrays_of, IsFragment, HasRegNets, HasNoPorts, StartLaw, PlacesLaw, RoomLaw, TicketLaw}
use Rattle.pdl_lockapi.specs.Second.{HasSecondNets, Room2Law}
use Rattle.pdl_lockapi.specs.Forget.{as_lock}
use Rattle.pdl_lockapi.specs.Sizes.{words_in}
use Rattle.pdl_lockapi.proofs.LockKinds.{words_are}
use Rattle.pdl_pipe_walk.specs.declared.locks.MemLock.{MemLock}
use Rattle.pdl_pipe_walk.specs.Locked.{Members, array_of}
use Rattle.pdl_pipe_locks.specs.Suited.{info_of, shape_in, arrays_in}
use Rattle.pdl_pipe_locks.specs.NewMemories.{IsNewLock}
use Rattle.pdl_pipe_locks.proofs.Places.{some_place}

-- ---- arrays by their shapes

-- a circuit has as many arrays as shapes of arrays
pub array_count : (c : Circuit) → length c.arrays ≡ length (shapes_of c)
unfolding shapes_of
array_count c = sym (length-map c.arrays shape_of)

-- a circuit with arrays of these shapes added has as many arrays more
pub array_more : (a b : Circuit) (xs : List Shape) → ExtendsArrays a b xs → length b.arrays ≡ length a.arrays + length xs
array_more a b xs e = omega (arith, array_count a, array_count b, ap length e.shapes, length-append (shapes_of a) xs)

there_by_shape : (c : Circuit) (m : ℕ) → m < length (shapes_of c) → HasArray c m
unfolding HasArray
there_by_shape c m h = omega (arith, array_count c)

width_by_shape : (c : Circuit) (m : ℕ) (d : Shape) → m < length (shapes_of c) → array_width c m ≡ (get_or (shapes_of c) m d).width
unfolding array_width shapes_of
width_by_shape c m d h = sym (ap (λ (s : Shape). s.width) (get_or-map shape_of c.arrays m no_array d (omega (arith, length-map c.arrays shape_of))))

depth_by_shape : (c : Circuit) (m : ℕ) (d : Shape) → m < length (shapes_of c) → array_depth c m ≡ (get_or (shapes_of c) m d).depth
unfolding array_depth shapes_of
depth_by_shape c m d h = sym (ap (λ (s : Shape). s.depth) (get_or-map shape_of c.arrays m no_array d (omega (arith, length-map c.arrays shape_of))))

-- ---- the words of an array

-- the arrays that a memory's lock takes are those of the memory
pub arrays_are : (k : LockKind) (n : ℕ) (name : List ℕ) (m : Mem) → m.lock ≡ as_lock k n → arrays_of k (info_of name m) ≡ arrays_in name m
arrays_are k n name m h =
    ap (λ d. if is_delayed m.kind then [] else record { name = name; width = m.width; depth = d } ∷ [])
    (sym (words_are k n m.depth) ∙ ap (λ x. words_in x m.depth) (sym h))

-- a memory that answers at once has one array, of its shape
pub one_array : (name : List ℕ) (m : Mem) → is_delayed m.kind ≡ false → arrays_in name m ≡ shape_in name m ∷ []
one_array name m e = ap (λ (b : Bool). if b then [] else shape_in name m ∷ []) e

-- an array that is new, of this shape
module _ (b c : Circuit) (x : Shape) (e : ExtendsArrays b c (x ∷ [])) where
  new_shape : get_or (shapes_of c) (length b.arrays) x ≡ x
  new_shape = ap (λ fs. get_or fs (length b.arrays) x) e.shapes ∙ get_or_push (shapes_of b) x x (length b.arrays) (sym (array_count b))

  new_in : length b.arrays < length (shapes_of c)
  new_in = omega (arith, array_count b, ap length e.shapes, length-append (shapes_of b) (x ∷ []))

  -- the new array is there, after those that were
  pub new_there : HasArray c (length b.arrays)
  new_there = there_by_shape c (length b.arrays) new_in

  -- the new array has the width of its shape
  pub new_width : array_width c (length b.arrays) ≡ x.width
  new_width = width_by_shape c (length b.arrays) x new_in ∙ ap (λ (s : Shape). s.width) new_shape

  -- the new array has the depth of its shape
  pub new_depth : array_depth c (length b.arrays) ≡ x.depth
  new_depth = depth_by_shape c (length b.arrays) x new_in ∙ ap (λ (s : Shape). s.depth) new_shape

-- ---- a new lock

-- the one array that is new, where there is one
new_array : (old new : Circuit) (name : List ℕ) (mem : Mem) (r : LockRegs)
    → is_some r.array ≡ not (is_delayed mem.kind) → ExtendsArrays old new (arrays_in name mem) → IsFragment old new r
    → r.array ≡ array_of mem (length old.arrays)
unfolding HasArray
new_array old new name mem r e grows f = at r.array refl (is_delayed mem.kind) refl
  where
    at : (x : Option ℕ) → r.array ≡ x → (b : Bool) → is_delayed mem.kind ≡ b → r.array ≡ array_of mem (length old.arrays)
    at None h true d = h ∙ sym (ap (λ (b : Bool). if b then None else Some (length old.arrays)) d)
    at (Some m) h true d = absurd (cc (e, h, d))
    at None h false d = absurd (cc (e, h, d))
    at (Some m) h false d =
        let lo = f.array_above m h in
        let hi = f.has_array m h in
        let n = array_more old new (arrays_in name mem) grows in
        let one = ap length (one_array name mem d) in
        let same : m ≡ length old.arrays = omega (arith, n, one, lo, hi) in
        h ∙ ap Some same ∙ sym (ap (λ (b : Bool). if b then None else Some (length old.arrays)) d)

-- what a lock's module has made with the next array is a new lock of the memory
pub new_lock : {T : Type 0} (l : Members T) (old new : Circuit) (name : List ℕ) (mem : Mem) (x : MemLock T)
    → mem.lock ≡ as_lock (l.kind x.lock) (l.size x.lock) → ExtendsArrays old new (arrays_in name mem)
    → x.regs.width ≡ mem.width → 2 ^ x.regs.bits ≡ mem.depth → is_some x.regs.array ≡ not (is_delayed mem.kind)
    → l.placed x.lock new x.regs → IsFragment old new x.regs → HasRegNets (l.tickets x.lock) new x.regs
    → HasSecondNets (l.tickets x.lock) new x.regs
    → StartLaw (l.stands x.lock x.regs) (l.kind x.lock) new x.regs
    → PlacesLaw (l.stands x.lock x.regs) (l.kind x.lock) x.regs
    → RoomLaw (l.stands x.lock x.regs) (l.size x.lock) (signal new x.regs.room)
    → Room2Law (l.stands x.lock x.regs) (l.size x.lock) (signal new x.regs.room2)
    → TicketLaw (l.stands x.lock x.regs) (l.tickets x.lock) (signal new x.regs.ticket) → IsNewLock l old new mem x
new_lock l old new name mem x kind grows w d a placed f nets second start places room room2 ticket = record {
  is_in = record {
    is_placed = placed;
    room = nets.room;
    room2 = second.room2;
    ticket = nets.ticket;
    wide = w;
    bits = d;
    array = new_array old new name mem x.regs a grows f;
  };
  laws = record { some = f.some; regs = f.has_reg; start = start; places = places; room = room; room2 = room2; ticket = ticket };
  kind = kind;
  above = f.above;
}

-- nothing writes the array of a new lock
pub new_unwritten : (old new : Circuit) (name : List ℕ) (mem : Mem) (r : LockRegs)
    → is_delayed mem.kind ≡ false → ExtendsArrays old new (arrays_in name mem) → is_some r.array ≡ not (is_delayed mem.kind)
    → IsFragment old new r → HasNoPorts r.array new → write_signals new (length old.arrays) ≡ []
new_unwritten old new name mem r comb grows a f h =
    subst (λ a. HasNoPorts a new) (some_place mem (length old.arrays) r.array (new_array old new name mem r a grows f) comb) h
