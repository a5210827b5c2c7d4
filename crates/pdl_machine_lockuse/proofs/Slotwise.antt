-- Where a squash cuts a lock's list, stage by stage.
use Rattle.std.proofs.Common.{◌≡◌, sym, ap, ap₂, ◌∙◌, ℕ, suc, ◌+◌, Bool, List, length, take, Some}
use Rattle.pdl_semantics.specs.Flat.{Arrays, Pipe}
use Rattle.pdl_semantics.specs.Machine.{State, lock_of}
use Rattle.pdl_semantics.specs.Cycle.{with_reserves, all_releases, list_three, entries_left, squasher, first, state_after}
use Rattle.pdl_theory_turns.specs.Facts.{Sound}
use Rattle.pdl_machine_facts.specs.Slots
use Rattle.pdl_theory_states.specs.Strict.{Strict}
use Rattle.pdl_theory_states.specs.Use.{moving, with_new, with_release, ShiftsTail}
use Rattle.pdl_machine_lockuse.specs.Use.{FindsAll, KeepsTail}
use Rattle.pdl_machine_lockuse.specs.Cut.{IsCut}
use Rattle.pdl_machine_lockuse.proofs.Acts.{at_slot, same_count}
use Rattle.pdl_machine_lockuse.proofs.Cuts.{tail_left}
use Rattle.pdl_machine_lockuse.proofs.InRuns.{stages_here, all_here, kept_here, tails_here, cuts_here}
use Rattle.pdl_semantics.specs.PendingLists.{count_older}

module _ (p : Pipe) (sound : Sound p) (strict : Strict p) (image : Arrays) (before : List (List Bool)) (bits : List Bool) where
  abbrev now : State
  now = state_after p (first p image) before

  movers : moving p (state_after p (first p image) before) bits ≡ Slots.moving p (state_after p (first p image) before) bits
  movers = (stages_here p sound strict image before bits).movers

  new_is : (m : ℕ) → with_reserves m (Slots.moving p now bits) (lock_of now m) ≡ with_new p now bits m
  new_is m = ap (λ ms. with_reserves m ms (lock_of now m)) (sym movers)

  three_is : (m : ℕ) → list_three now (Slots.moving p now bits) m ≡ with_release p now bits m
  three_is m = ap (λ ms. list_three now ms m) (sym movers)

  count_new : (t m : ℕ) → count_older t (with_reserves m (Slots.moving p now bits) (lock_of now m)) ≡ count_older t (with_new p now bits m)
  count_new t m = ap (count_older t) (new_is m) ∙ sym (same_count t (with_new p now bits m))

  count_three : (t m : ℕ) → count_older t (list_three now (Slots.moving p now bits) m) ≡ count_older t (with_release p now bits m)
  count_three t m = ap (count_older t) (three_is m) ∙ sym (same_count t (with_release p now bits m))

  -- in each state of a run a squash cuts a lock's list after a thread's own and older pending writes
  pub cut_here : IsCut p (state_after p (first p image) before) bits
  cut_here = record {
    all = λ k t m h low.
        count_new (suc t.number) m ∙ at_slot p now bits (FindsAll p now bits m) (all_here p sound strict image before bits m) k t h low
        ∙ ap length (sym (new_is m));
    kept = λ k t m h low.
        count_new (suc t.number) m ∙ at_slot p now bits (KeepsTail p now bits m) (kept_here p sound strict image before bits m) k t h low
        ∙ same_count (suc t.number) (lock_of now m);
    shifts = λ k t m v h e low.
        ap₂ (λ x y. x + y) (count_three (suc t.number) m)
        (ap (all_releases m) (sym movers))
        ∙ at_slot p now bits (ShiftsTail p now bits m) (tails_here p sound strict image before bits m) k t h v e low ∙ sym (count_new (suc t.number) m);
    left = λ m n h.
        let sq = squasher (Slots.moving p now bits) in
        let three = list_three now (Slots.moving p now bits) m in
        sym (same_count (suc n) (entries_left sq three)) ∙ tail_left sq n three h ∙ same_count (suc n) three;
    cuts = λ m n h.
        ap (entries_left (Some n)) (three_is m) ∙ cuts_here p sound strict image before bits m n (ap squasher movers ∙ h)
        ∙ ap₂ (λ c es. take c es) (sym (count_three (suc n) m)) (sym (three_is m));
  }
