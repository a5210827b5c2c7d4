-- The arrays of renaming locks hold words and pending writes apart, in a netlist with its locks and in its needed part.
use Rattle.std.proofs.Common.{◌≡◌, refl, sym, ap, ◌∙◌, subst, ℕ, zero, suc, ◌+◌, ◌-◌, ◌^◌, ◌<◌, ◌≤◌, ◌⊎◌, inl, inr, Bool, true, false, if◌then◌else◌, nat_lt, List, [], ◌∷◌, length, map, arith}
use Rattle.std.specs.Prelude.{Option, Some, None, is_some, slice_index, slice_index_or}
use Rattle.std.proofs.lemmas.Bool.{cases_lt, lt-ltb, le-ltb}
use Rattle.std.proofs.lemmas.List.{length-map}
use Rattle.pdl_word.proofs.Lists.{some_of}
use Rattle.pdl_semantics.specs.Tree as tree
use Rattle.pdl_semantics.specs.Tree.{LockKind, Queue, Bypass, Rename}
use Rattle.pdl_semantics.specs.Flat as flat
use Rattle.pdl_semantics.specs.Flat.{Lock, Pipe, has_lock, is_delayed}
use Rattle.pdl_semantics.specs.Flatten.{flat as flat_of}
use Rattle.pdl_semantics.specs.Stages.{mem_at}
use Rattle.pdl_semantics.specs.Machine.{Pending, lock_of}
use Rattle.pdl_net.specs.declared.Netlist.{Netlist}
use Rattle.pdl_net.specs.Circuit.{State, circuit_of}
use Rattle.pdl_net.specs.Run.{start, state_in}
use Rattle.pdl_net.specs.Well.{IsWell}
use Rattle.pdl_net_needed.specs.Pruned.{pruned}
use Rattle.pdl_net_needed.proofs.ClosedChoices.{closed}
use Rattle.pdl_net_needed.proofs.PrunedOutputs.{start_same}
use Rattle.pdl_image.specs.Images.{IsImage}
use Rattle.pdl_lockapi.specs.Lock.{entry_at}
use Rattle.pdl_lockapi.specs.Laws.{HasPlaces, PlacesLaw}
use Rattle.pdl_lockapi.specs.Forget.{as_lock, forget, forgotten_entries, lock_state_of}
use Rattle.pdl_law_parts.specs.Walk.{is_locked}
use Rattle.pdl_law_parts.specs.Places.{comb_place}
use Rattle.pdl_law_parts.specs.States.{held_after}
use Rattle.pdl_law_follows.specs.Refined.{machine_after}
use Rattle.pdl_pipe_walk.specs.Locked.{Members, some_at, array_of}
use Rattle.pdl_pipe.specs.KeptPlaces.{HoldsApart, IsHeldApart, KeepsPlaces}
use Rattle.pdl_pipe.specs.Locks.{HasLocks, HasLocksOf}
use Rattle.pdl_pipe.proofs.KeptNames.{held_same}

-- ---- one array

-- what a lock says of the value of a pending write
value_same : (es : List Pending) (k : ℕ) → slice_index_or (map (λ e. e.value) es) k None ≡ (entry_at (forgotten_entries es) k).value
value_same [] k = refl
value_same (e ∷ es) zero = refl
value_same (e ∷ es) (suc k) = value_same es k

-- a pending write that has a value is one of them
value_within : (es : List Pending) (k v : ℕ) → slice_index_or (map (λ e. e.value) es) k None ≡ Some v → k < length es
value_within [] k v h = absurd (cc h)
value_within (e ∷ es) zero v h = omega arith
value_within (e ∷ es) (suc k) v h = let l = value_within es k v h in omega (arith, l)

module _ (bits m base depth : ℕ) (s : State) (es : List Pending) (ws : List ℕ) (row : ℕ → ℕ)
    (h : HasPlaces bits m s (lock_state_of base es ws)) (deep : 2 ^ bits ≡ depth)
    (same : (a : ℕ) → a < depth → row a ≡ slice_index ws a) where
  -- the place of an address, and behind the addresses that of a pending write
  abbrev place : ℕ → ℕ
  place i = if nat_lt i depth then h.word i else h.value (i - depth)

  counted : length (forgotten_entries es) ≡ length es
  counted = length-map es forget

  of_word : (i : ℕ) → i < depth → place i ≡ h.word i
  of_word i l = ap (λ b. if b then h.word i else h.value (i - depth)) (lt-ltb i depth l)

  of_value : (i : ℕ) → depth ≤ i → place i ≡ h.value (i - depth)
  of_value i l = ap (λ b. if b then h.word i else h.value (i - depth)) (le-ltb i depth l)

  within : (i : ℕ) → i < depth + length es → place i < length (slice_index_or s.arrays m [])
  within i l = at (cases_lt i depth)
    where
      at : (i < depth) ⊎ (depth ≤ i) → place i < length (slice_index_or s.arrays m [])
      at (inl low) =
          let w = h.word_in i (omega (arith, low, deep)) in
          subst (λ n. n < length (slice_index_or s.arrays m [])) (sym (of_word i low)) (omega (arith, w, h.depth))
      at (inr high) =
          let w = h.value_in (i - depth) (omega (arith, l, high, counted)) in
          subst (λ n. n < length (slice_index_or s.arrays m [])) (sym (of_value i high)) (omega (arith, w, h.depth))

  apart : (i j : ℕ) → i < depth + length es → j < depth + length es → place i ≡ place j → i ≡ j
  apart i j l k e = at (cases_lt i depth) (cases_lt j depth)
    where
      at : (i < depth) ⊎ (depth ≤ i) → (j < depth) ⊎ (depth ≤ j) → i ≡ j
      at (inl low) (inl below) =
          h.words_apart i j (omega (arith, low, deep)) (omega (arith, below, deep)) (sym (of_word i low) ∙ e ∙ of_word j below)
      at (inl low) (inr above) =
          absurd (h.apart i (j - depth) (omega (arith, low, deep)) (omega (arith, k, above, counted)) (sym (of_word i low) ∙ e ∙ of_value j above))
      at (inr high) (inl below) =
          absurd (h.apart j (i - depth) (omega (arith, below, deep)) (omega (arith, l, high, counted)) (sym (of_word j below) ∙ sym e ∙ of_value i high))
      at (inr high) (inr above) =
          let same_value = h.values_apart (i - depth) (j - depth) (omega (arith, l, high, counted)) (omega (arith, k, above, counted))
          (sym (of_value i high) ∙ e ∙ of_value j above) in
          omega (arith, same_value, high, above)

  -- what a renaming lock keeps in its array is held apart there
  held_apart : HoldsApart (slice_index_or s.arrays m []) depth row es
  held_apart = record {
    place = place;
    within = within;
    apart = apart;
    word = λ a l.
        ap (slice_index (slice_index_or s.arrays m [])) (of_word a l) ∙ h.words a (omega (arith, l, deep)) ∙ sym (same a l);
    value = λ k v e.
        let low = value_within es k v e in
        let at : place (depth + k) ≡ h.value k = of_value (depth + k) (omega arith) ∙ ap h.value (let r : depth + k - depth ≡ k = omega arith in r) in
        ap (slice_index (slice_index_or s.arrays m [])) at
        ∙ h.values k v (omega (arith, low, counted)) (sym (value_same es k) ∙ e);
  }

-- ---- all of a netlist

-- a lock of the kind that renames
renames : (k : LockKind) (n size : ℕ) → as_lock k n ≡ flat.Rename size → k ≡ Rename
renames Queue n size e = absurd (cc e)
renames Bypass n size e = absurd (cc e)
renames Rename n size e = refl

-- a memory that answers at once has an array
has_array : (d : Bool) (i : ℕ) → d ≡ false → (if d then None else Some i) ≡ Some i
has_array d i e = ap (λ b. if b then None else Some i) e

-- a netlist with the locks of a pipe keeps words and pending writes apart
pub places_kept : {T : Type 0} (l : Members T) (p : tree.Pipe) (n : Netlist) → HasLocks l p n → KeepsPlaces p n
places_kept l p n h image schedule m is_image low size once renaming =
    let locked : is_locked (flat_of p) m ≡ true = ap has_lock renaming in
    let x = some_of (some_at h.locks m) (h.locked.locked m low ∙ locked) in
    let lock = h.locked.locks m x.0 low x.1 in
    let law = h.lawful.laws m x.0 low x.1 in
    let kind = renames (l.kind x.0.lock) (l.size x.0.lock) size (sym (h.lawful.kinds m x.0 low x.1) ∙ renaming) in
    let places = subst (λ (k : LockKind). PlacesLaw (l.stands x.0.lock x.0.regs) k x.0.regs) kind law.places in
    let used = h.used image schedule 0 m x.0 is_image low x.1 in
    let s : State = state_in (held_after n (start n image) schedule) 0 in
    held_apart x.0.regs.bits (comb_place (flat_of p) m) used.base (mem_at (flat_of p) m).depth s
    (lock_of (machine_after (flat_of p) image schedule) m) used.words ((machine_after (flat_of p) image schedule).arrays m)
    (places (comb_place (flat_of p) m) s (lock_state_of used.base (lock_of (machine_after (flat_of p) image schedule) m) used.words)
    (lock.array ∙ has_array (is_delayed (mem_at (flat_of p) m).kind) (comb_place (flat_of p) m) once) used.stands)
    lock.bits used.same

-- and so does its needed part
pub places_of : {T : Type 0} (l : Members T) (p : tree.Pipe) (n : Netlist) → (h : HasLocksOf l p n) → IsWell (circuit_of h.whole) → KeepsPlaces p n
places_of l p n h well =
    let k = h.part.kept in
    let w = h.whole in
    subst (KeepsPlaces p) (sym h.part.same)
    (λ image schedule m is_image low.
    let held = held_same k w (closed (circuit_of w) k h.part.needed) well (start w image) (start (pruned k w) image) schedule (start_same k w image) in
    subst (λ (xs : List (List ℕ)). IsHeldApart (flat_of p) (machine_after (flat_of p) image schedule) xs m) (sym held.arrays)
    (places_kept l p w h.locks image schedule m is_image low))
