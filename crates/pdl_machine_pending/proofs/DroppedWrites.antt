-- What is left of pending writes where the younger ones are dropped.
use Rattle.std.proofs.Common.{◌≡◌, refl, ap, ℕ, Bool, true, false, if◌then◌else◌, nat_le, List, [], ◌∷◌, Some, map}
use Rattle.std.specs.Prelude.{filter}
use Rattle.pdl_semantics.specs.Machine.{Pending}
use Rattle.pdl_semantics.specs.Cycle.{entries_left}
use Rattle.pdl_machine_pending.specs.declared.pending.Pending as r_pending
use Rattle.pdl_machine_pending.specs.View.{pending_view}

-- the pending writes without those of younger threads are what a squash by this thread leaves
pub left_filtered : (thread : ℕ) (es : List r_pending.Pending)
    → map pending_view (filter (λ (e : r_pending.Pending). nat_le e.thread thread) es) ≡ entries_left (Some thread) (map pending_view es)
left_filtered thread [] = refl
left_filtered thread (e ∷ es) = at (nat_le e.thread thread) (left_filtered thread es)
  where
    at : (b : Bool) → map pending_view (filter (λ (e : r_pending.Pending). nat_le e.thread thread) es) ≡ entries_left (Some thread) (map pending_view es)
        → map pending_view
        (if b then e ∷ filter (λ (e : r_pending.Pending). nat_le e.thread thread) es else filter (λ (e : r_pending.Pending). nat_le e.thread thread) es)
        ≡ (if b then pending_view e ∷ entries_left (Some thread) (map pending_view es) else entries_left (Some thread) (map pending_view es))
    at true h = ap (λ xs. pending_view e ∷ xs) h
    at false h = h
