-- What the squashing stages' nets say in a cycle: whether a later thread fails, whether a barrier is clear, whether there is a squash, and which threads it removes.
use Rattle.std.proofs.Common.{◌≡◌, refl, sym, ap, ◌∙◌, subst, ℕ, zero, suc, ◌+◌, ◌-◌, ◌<◌, inl, inr, ⊎_elim, Bool, true, false, ◌&&◌, ◌||◌, not, List, [], ◌∷◌, ◌++◌, length, get_or, Option, Some, None, is_some, arith, nat_lt}
use Rattle.std.specs.Prelude.{if◌then◌else◌, Contains}
use Rattle.std.proofs.lemmas.Bool.{ltb-true, ltb-false, cases_eq, false≢true}
use Rattle.std.proofs.lemmas.List.Elements.{Contains-get_or}
use Rattle.pdl_word.specs.Words.{bit}
use Rattle.pdl_word.specs.Each.{Each}
use Rattle.pdl_word.proofs.Each.{each_from_all}
use Rattle.pdl_semantics.specs.Flat.{Pipe}
use Rattle.pdl_semantics.specs.Stages.{verify_stage}
use Rattle.pdl_semantics.specs.Updates.{listed, update_stage, squash_stages}
use Rattle.pdl_semantics.specs.Machine as machine
use Rattle.pdl_semantics.specs.Machine.{Thread, Deeds}
use Rattle.pdl_semantics.specs.Moves.{no_failure, none_up_to, barrier_clear}
use Rattle.pdl_semantics.specs.Cycle.{squasher, squash_stage, is_kept, merges_by}
use Rattle.pdl_theory_turns.specs.Facts.{Sound}
use Rattle.pdl_net.specs.Circuit.{Circuit, State}
use Rattle.pdl_net.specs.Signal.{Signal}
use Rattle.pdl_net.specs.Well.{Suits}
use Rattle.pdl_squash.specs.Laws.{Drives, none_held}
use Rattle.pdl_machine_facts.specs.Slots.{slot, here, slot_moves, later_acts, stage_moves, moving}
use Rattle.pdl_machine_facts.specs.Cycle.{IsByStages}
use Rattle.pdl_law_parts.specs.Walk.{one, if_on}
use Rattle.pdl_law_parts.specs.Views.{View, Gates}
use Rattle.pdl_law_parts.specs.Stands.{IsSeen}
use Rattle.pdl_law_parts.proofs.Moves.{ready_of}
use Rattle.pdl_law_parts.proofs.Signals.{if_on_at, one_is}
use Rattle.pdl_machine_inflight.specs.InFlight.{InFlight, Some-of, UpdatesTogether}
use Rattle.pdl_machine_inflight.proofs.SquashStages.{v_low, squash_low}
use Rattle.pdl_machine_inflight.proofs.Squashes.{stood_in, failing, squashing, any_squashing, some_squash, told_later, emptied_where, kept_where, clear_high, clear_where, not_clear}
use Rattle.pdl_law_sides.specs.Sides.{Sides, unsquashed, clear_to, barrier_open, emptied_by}
use Rattle.pdl_law_sides.specs.HasSides.{HasRemovals, squash_of}
use Rattle.pdl_law_follows.proofs.SquashFolds.{Tells, any_told, some_told, unsquashed_at, any_both}

-- whether this squasher removes who stands in a stage
abbrev pub removes : Option ℕ → Option Thread → Bool
removes sq None = false
removes sq (Some t) = not (is_kept sq t.number)

-- one of some numbers by its place is one of them
some_of : (xs : List ℕ) (z : ℕ) → Contains xs z → Some-of (λ (y : ℕ). y ≡ z) xs
some_of [] z (k, l, e) = absurd (omega (arith, l))
some_of (x ∷ xs) z (zero, l, e) = inl e
some_of (x ∷ xs) z (suc k, l, e) = inr (some_of xs z (k, (omega (arith, l)), e))

-- what holds of each of some numbers
each_of : (P : ℕ → Type 0) (xs : List ℕ) → ((z : ℕ) → Contains xs z → P z) → Each P xs
each_of P xs h = each_from_all P xs (λ k d l. h (get_or xs k d) (Contains-get_or xs k d l))

-- V is one of the stages that may squash
verify_in : (p : Pipe) (v : ℕ) → verify_stage p.stmts ≡ Some v → Contains (squash_stages p.stmts) v
verify_in p v is = subst (λ o. Contains (listed o ++ listed (update_stage p.stmts)) v) (sym is) (0, omega arith, refl)

module _ (p : Pipe) (sound : Sound p) (together : UpdatesTogether p) (c : Circuit) (vs : ℕ → View) (gates : Gates) (moves : ℕ → Signal) (sides : Sides)
    (removals : HasRemovals p c vs gates moves sides)
    (s : State) (st : machine.State) (bits : List Bool) (suits : Suits c s) (flight : InFlight p st)
    (by : IsByStages p st bits)
    (valid : (k : ℕ) → k < length p.stages → (vs k).valid.value s ≡ bit (is_some (slot st k))) where
  module _ (z : ℕ) (is : Contains (squash_stages p.stmts) z) where
    low_z : z < length p.stages
    low_z = squash_low p sound z (some_of (squash_stages p.stmts) z is)

    drives : IsSeen p vs moves s st bits z
        → Drives (squash_of vs moves z) s (λ k. is_some (slot st k)) (stage_moves p st bits z) (failing p st z (here p st bits z))
    drives seen = record {
      valid = λ k low. valid k (let l = low_z in omega (arith, low, l));
      moves = seen.leaves;
      fails = λ g. at (here p st bits z) refl g;
    }
      where
        at : (o : Option Thread) → here p st bits z ≡ o → stage_moves p st bits z ≡ true → (vs z).ended.fails.value s ≡ bit (failing p st z (here p st bits z))
        at None e g = absurd (false≢true (sym (ap (slot_moves p st bits z) e) ∙ g))
        at (Some t) e g = ((seen.follows t e).so (ready_of p st bits z t by low_z e g)).fails ∙ ap (λ o. bit (failing p st z o)) (sym e)

    squash_at : IsSeen p vs moves s st bits z → (sides.squash z).value s ≡ bit (squashing p st bits z)
    squash_at seen = (removals.law z is).squashes s (λ k. is_some (slot st k)) (stage_moves p st bits z) (failing p st z (here p st bits z)) (drives seen)

    removed_at : IsSeen p vs moves s st bits z → (k : ℕ) → k < z → (sides.removed z k).value s ≡ bit (squashing p st bits z && is_some (slot st k))
    removed_at seen k low =
        (removals.law z is).removes s (λ i. is_some (slot st i)) (stage_moves p st bits z)
        (failing p st z (here p st bits z)) (drives seen) k low

  module _ (v : ℕ) (is : verify_stage p.stmts ≡ Some v) where
    -- up to V nobody stands
    none_from : (k n j : ℕ) → k < j → j + n ≡ v + 1 → ((i : ℕ) → k < i → i < j → slot st i ≡ None)
        → none_held (λ i. is_some (slot st i)) n j ≡ none_up_to (Some v) (later_acts p st bits k)
    none_from k zero j low e h = sym (clear_where p sound st bits flight v is k (λ i l r. h i l (omega (arith, r, e))))
    none_from k (suc n) j low e h = at (slot st j) refl (λ f. none_from k n (j + 1) (omega (arith, low)) (omega (arith, e)) (λ i l r. ⊎_elim
        (λ (same : i ≡ j). ap (slot st) same ∙ f)
        (λ (apart : i ≡ j → ⊥). h i l (omega (arith, r, apart)))
        (cases_eq i j)))
      where
        at : (o : Option Thread) → slot st j ≡ o
            → (slot st j ≡ None → none_held (λ i. is_some (slot st i)) n (j + 1) ≡ none_up_to (Some v) (later_acts p st bits k))
            → (if is_some (slot st j) then false else none_held (λ i. is_some (slot st i)) n (j + 1)) ≡ none_up_to (Some v) (later_acts p st bits k)
        at (Some t) f rest =
            ap (λ (o : Option Thread). if is_some o then false else none_held (λ i. is_some (slot st i)) n (j + 1)) f
            ∙ sym (not_clear p sound st bits flight v is k j t low (omega (arith, e)) f)
        at None f rest = ap (λ (o : Option Thread). if is_some o then false else none_held (λ i. is_some (slot st i)) n (j + 1)) f ∙ rest f

    clear_at : IsSeen p vs moves s st bits v → (k : ℕ) → k < v → (sides.clear v k).value s ≡ bit (none_up_to (Some v) (later_acts p st bits k))
    clear_at seen k low =
        (removals.law v (verify_in p v is)).clears s (λ i. is_some (slot st i)) (stage_moves p st bits v)
        (failing p st v (here p st bits v)) (drives v (verify_in p v is) seen) k (v - k) (omega (arith, low)) low
        ∙ ap bit (none_from k (v - k) (k + 1) (omega arith) (omega (arith, low)) (λ i l r. absurd (omega (arith, l, r))))

  -- condition 1: a stage is told whether a later thread fails
  pub unsquashed_is : (k : ℕ) → ((j : ℕ) → k < j → j < length p.stages → IsSeen p vs moves s st bits j)
      → (unsquashed (squash_stages p.stmts) k sides.squash).value s ≡ bit (no_failure (later_acts p st bits k))
  unsquashed_is k later =
      unsquashed_at s (squashing p st bits) sides.squash k (squash_stages p.stmts)
      (each_of (λ z. nat_lt k z ≡ true → (sides.squash z).value s ≡ bit (squashing p st bits z)) (squash_stages p.stmts)
      (λ z is e. squash_at z is (later z (ltb-true k z e) (low_z z is))))
      ∙ ap bit (sym (told_later p sound together st bits flight k))

  -- condition 6: at a barrier it is told whether all is clear up to V
  pub barrier_is : (k : ℕ) (d : Deeds) (barrier : Signal) → barrier.value s ≡ bit d.barrier
      → ((j : ℕ) → k < j → j < length p.stages → IsSeen p vs moves s st bits j)
      → (barrier_open (verify_stage p.stmts) k barrier (clear_to (verify_stage p.stmts) sides.clear k)).value s
      ≡ bit (barrier_clear p (later_acts p st bits k) d)
  barrier_is k d barrier on later = at (verify_stage p.stmts) refl ∙ ap bit (sym (table d.barrier (none_up_to (verify_stage p.stmts) (later_acts p st bits k))))
    where
      table : (b c : Bool) → (not b || c) ≡ (if b then c else true)
      table true c = refl
      table false c = refl

      all : (b c : Bool) → c ≡ true → 1 ≡ bit (if b then c else true)
      all true c f = ap bit (sym f)
      all false c f = refl

      at : (o : Option ℕ) → verify_stage p.stmts ≡ o
          → (barrier_open o k barrier (clear_to o sides.clear k)).value s
          ≡ bit (if d.barrier then none_up_to (verify_stage p.stmts) (later_acts p st bits k) else true)
      at None e = one_is s ∙ all d.barrier (none_up_to (verify_stage p.stmts) (later_acts p st bits k)) (ap (λ o. none_up_to o (later_acts p st bits k)) e)
      at (Some v) e = side (nat_lt k v) refl ∙ ap (λ o. bit (if d.barrier then none_up_to o (later_acts p st bits k) else true)) (sym e)
        where
          side : (b : Bool) → nat_lt k v ≡ b
              → (if b then if_on barrier (sides.clear v k) else one).value s
              ≡ bit (if d.barrier then none_up_to (Some v) (later_acts p st bits k) else true)
          side true f = let low = ltb-true k v f in
              if_on_at s barrier (sides.clear v k) d.barrier (none_up_to (Some v) (later_acts p st bits k)) on
              (λ g. clear_at v e (later v low (v_low p sound v e)) k low)
          side false f = one_is s ∙ all d.barrier (none_up_to (Some v) (later_acts p st bits k))
              (clear_high p sound st bits flight v e k (ltb-false k v f))

  module _ (seen : (j : ℕ) → j < length p.stages → IsSeen p vs moves s st bits j) where
    -- each of the stages that may squash tells whether it does
    pub squashes_told : Tells s (squashing p st bits) (λ z. true) sides.squash (squash_stages p.stmts)
    squashes_told =
        each_of (λ z. true ≡ true → (sides.squash z).value s ≡ bit (squashing p st bits z)) (squash_stages p.stmts)
        (λ z is e. squash_at z is (seen z (low_z z is)))

    -- the signal of a squash tells whether the machine has one
    pub squash_is : gates.squash.value s ≡ bit (is_some (squasher (moving p st bits)))
    squash_is =
        removals.squash s suits
        ∙ some_told s (squashing p st bits) sides.squash (squash_stages p.stmts) squashes_told
        ∙ ap bit (sym (some_squash p sound together st bits flight))

    -- whether a squash empties the list of a fork
    pub emptied_told : (f : ℕ) → (emptied_by p f (squash_stages p.stmts) sides.squash).value s ≡ bit (merges_by p f (squash_stage (moving p st bits)))
    emptied_told f =
        any_told s (squashing p st bits) (λ z. merges_by p f (Some z)) sides.squash (squash_stages p.stmts)
        (each_of (λ z. merges_by p f (Some z) ≡ true → (sides.squash z).value s ≡ bit (squashing p st bits z)) (squash_stages p.stmts)
        (λ z is e. squash_at z is (seen z (low_z z is))))
        ∙ ap bit (sym (emptied_where p sound together st bits flight f))

    -- whether it removes who stands in a stage
    pub kill_is : (k : ℕ) → k < length p.stages → (gates.kill k).value s ≡ bit (removes (squasher (moving p st bits)) (slot st k))
    kill_is k l =
        removals.kill k l s suits
        ∙ any_told s (λ z. squashing p st bits z && is_some (slot st k)) (nat_lt k) (λ z. sides.removed z k) (squash_stages p.stmts)
        (each_of (λ z. nat_lt k z ≡ true → (sides.removed z k).value s ≡ bit (squashing p st bits z && is_some (slot st k))) (squash_stages p.stmts)
        (λ z is e. removed_at z is (seen z (low_z z is)) k (ltb-true k z e)))
        ∙ ap bit (any_both (nat_lt k) (squashing p st bits) (is_some (slot st k)) (squash_stages p.stmts) ∙ at (slot st k) refl)
      where
        none : (b : Bool) → (b && false) ≡ false
        none true = refl
        none false = refl

        twice : (b : Bool) → (b && true) ≡ not (not b)
        twice true = refl
        twice false = refl

        at : (o : Option Thread) → slot st k ≡ o
            → (any_squashing p st bits (nat_lt k) (squash_stages p.stmts) && is_some o) ≡ removes (squasher (moving p st bits)) o
        at None f = none (any_squashing p st bits (nat_lt k) (squash_stages p.stmts))
        at (Some t) f = twice (any_squashing p st bits (nat_lt k) (squash_stages p.stmts)) ∙ ap not (sym (kept_where p sound together st bits flight k t f))

    -- the kill of a stage tells whether the squash removes the thread that stands there with this cycle's answers
    pub kill_here : (k : ℕ) (t : Thread) → k < length p.stages → here p st bits k ≡ Some t
        → (gates.kill k).value s ≡ bit (not (is_kept (squasher (moving p st bits)) t.number))
    kill_here k t l h =
        let u = stood_in p st bits k t h in
        kill_is k l
        ∙ ap (λ o. bit (removes (squasher (moving p st bits)) o)) u.1
        ∙ ap (λ (x : Thread). bit (not (is_kept (squasher (moving p st bits)) x.number))) u.2
