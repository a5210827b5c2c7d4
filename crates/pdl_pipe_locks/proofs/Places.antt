-- The numbers of the memories' arrays: those that answer at once have theirs in order.
use Rattle.std.proofs.Common.{◌≡◌, ℕ, zero, suc, ◌+◌, ◌-◌, ◌<◌, ◌≤◌, ◌∙◌, Bool, true, false, List, [], ◌∷◌, length, refl, sym, ap, subst, arith, inr}
use Rattle.std.specs.Prelude.{Option, Some, None, if◌then◌else◌}
use Rattle.std.proofs.lemmas.List.Sums.{count_by_more_no, count_by_more_yes}
use Rattle.pdl_semantics.specs.Tree.{LockKind}
use Rattle.pdl_semantics.specs.Flat.{Mem, Pipe, is_delayed}
use Rattle.pdl_semantics.specs.Stages.{plain_mem, mem_at}
use Rattle.pdl_net.specs.Circuit.{Circuit, State}
use Rattle.pdl_net.specs.Meaning.{write_signals}
use Rattle.pdl_net.specs.Growth.{Outside}
use Rattle.pdl_lockapi.specs.Laws.{first_array, end_array, HasNoPorts, HasImage}
use Rattle.pdl_law_parts.specs.Places.{comb_place}
use Rattle.pdl_pipe_walk.specs.Locked.{array_of}
use Rattle.pdl_pipe_locks.specs.Suited.{shape_in, arrays_in}

place_comb : (p : Pipe) (i : ℕ) → i < length p.mems → is_delayed (mem_at p i).kind ≡ false → comb_place p (i + 1) ≡ comb_place p i + 1
place_comb p i l e = count_by_more_yes (λ (x : Mem). if is_delayed x.kind then false else true) p.mems i plain_mem l
    (ap (λ (b : Bool). if b then false else true) e)

place_delayed : (p : Pipe) (i : ℕ) → i < length p.mems → is_delayed (mem_at p i).kind ≡ true → comb_place p (i + 1) ≡ comb_place p i
place_delayed p i l e = count_by_more_no (λ (x : Mem). if is_delayed x.kind then false else true) p.mems i plain_mem l
    (ap (λ (b : Bool). if b then false else true) e)

-- one memory more has the array that it has
pub place_more : (p : Pipe) (i : ℕ) (name : List ℕ)
    → i < length p.mems → comb_place p (i + 1) ≡ comb_place p i + length (arrays_in name (mem_at p i))
place_more p i name l = by (is_delayed (mem_at p i).kind) refl
  where
    long : (b : Bool) → is_delayed (mem_at p i).kind ≡ b → length (arrays_in name (mem_at p i)) ≡ length (if b then [] else shape_in name (mem_at p i) ∷ [])
    long b e = ap (λ (b : Bool). length (if b then [] else shape_in name (mem_at p i) ∷ [])) e

    by : (b : Bool) → is_delayed (mem_at p i).kind ≡ b → comb_place p (i + 1) ≡ comb_place p i + length (arrays_in name (mem_at p i))
    by true e = let q = place_delayed p i l e in let n = long true e in omega (arith, q, n)
    by false e = let q = place_comb p i l e in let n = long false e in omega (arith, q, n)

place_grows : (p : Pipe) (i k : ℕ) → i + k ≤ length p.mems → comb_place p i ≤ comb_place p (i + k)
place_grows p i zero l = let e : i + 0 ≡ i = omega arith in subst (λ n. comb_place p i ≤ comb_place p n) (sym e) (omega arith)
place_grows p i (suc k) l =
    let before = place_grows p i k (omega (arith, l)) in
    let more = place_more p (i + k) [] (omega (arith, l)) in
    let e : (i + k) + 1 ≡ i + suc k = omega arith in
    subst (λ n. comb_place p i ≤ comb_place p n) e (omega (arith, before, more))

-- the arrays of later memories have greater numbers
pub place_below : (p : Pipe) (m n : ℕ) → m < n → n ≤ length p.mems → is_delayed (mem_at p m).kind ≡ false → comb_place p m < comb_place p n
place_below p m n l h once =
    let k : ℕ = n - (m + 1) in
    let e : (m + 1) + k ≡ n = omega (arith, l) in
    let here = place_comb p m (omega (arith, l, h)) once in
    let after = place_grows p (m + 1) k (omega (arith, e, h)) in
    subst (λ j. comb_place p m < comb_place p j) e (omega (arith, here, after))

-- ---- the array of a lock

module _ (mem : Mem) (i : ℕ) (o : Option ℕ) (is : o ≡ array_of mem i) where
  by_delay : (b : Bool) → is_delayed mem.kind ≡ b → o ≡ (if b then None else Some i)
  by_delay b e = is ∙ ap (λ (b : Bool). if b then None else Some i) e

  -- the lock of a memory that answers at once has the array of the memory's place
  pub some_place : is_delayed mem.kind ≡ false → o ≡ Some i
  some_place e = by_delay false e

  -- an array that is the lock's is that of the memory's place, and the memory answers at once
  pub own_place : (n : ℕ) → first_array o ≤ n → n < end_array o → (is_delayed mem.kind ≡ false) × (n ≡ i)
  own_place n lo hi = by (is_delayed mem.kind) refl
    where
      by : (b : Bool) → is_delayed mem.kind ≡ b → (is_delayed mem.kind ≡ false) × (n ≡ i)
      by true e = let h : n < 0 = subst (λ z. n < end_array z) (by_delay true e) hi in absurd (omega (arith, h))
      by false e =
          let l : i ≤ n = subst (λ z. first_array z ≤ n) (by_delay false e) lo in
          let h : n < i + 1 = subst (λ z. n < end_array z) (by_delay false e) hi in
          (e, omega (arith, l, h))

  -- where the lock has an array, the memory answers at once and the array is that of its place
  pub at_place : (j : ℕ) → o ≡ Some j → (is_delayed mem.kind ≡ false) × (j ≡ i)
  at_place j e =
      let l : first_array o ≤ j = subst (λ z. first_array z ≤ j) (sym e) (omega arith) in
      let h : j < end_array o = subst (λ z. j < end_array z) (sym e) (omega arith) in
      own_place j l h

  -- what is outside the memory's array, where it has one, is outside the lock's
  pub outside_place : (n : ℕ) → (is_delayed mem.kind ≡ false → Outside i (i + 1) n) → Outside (first_array o) (end_array o) n
  outside_place n h = by (is_delayed mem.kind) refl
    where
      by : (b : Bool) → is_delayed mem.kind ≡ b → Outside (first_array o) (end_array o) n
      by true e = subst (λ z. Outside (first_array z) (end_array z) n) (sym (by_delay true e)) (inr (omega arith))
      by false e = subst (λ z. Outside (first_array z) (end_array z) n) (sym (by_delay false e)) (h e)

  -- where no port writes the memory's array, none writes the lock's
  pub unwritten_place : (c : Circuit) → (is_delayed mem.kind ≡ false → write_signals c i ≡ []) → HasNoPorts o c
  unwritten_place c h = by (is_delayed mem.kind) refl
    where
      by : (b : Bool) → is_delayed mem.kind ≡ b → HasNoPorts o c
      by true e = subst (λ z. HasNoPorts z c) (sym (by_delay true e)) tt
      by false e = subst (λ z. HasNoPorts z c) (sym (by_delay false e)) (h e)

  -- where the memory's array has an image in front, the lock's has it
  pub image_place : (k : LockKind) (s : State) (image : List ℕ) → (is_delayed mem.kind ≡ false → HasImage k (Some i) s image) → HasImage k o s image
  image_place k s image h = by (is_delayed mem.kind) refl
    where
      by : (b : Bool) → is_delayed mem.kind ≡ b → HasImage k o s image
      by true e = subst (λ z. HasImage k z s image) (sym (by_delay true e)) tt
      by false e = subst (λ z. HasImage k z s image) (sym (by_delay false e)) (h e)
