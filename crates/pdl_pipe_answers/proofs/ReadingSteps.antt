-- Delayed reads of a pipe, found one after the other.
use Rattle.std.proofs.Common.{◌≡◌, refl, ℕ, ◌==◌, Bool, true, false, List, ◌∷◌}
use Rattle.std.specs.Prelude.{Option, Some, None, if◌then◌else◌}
use Rattle.pdl_semantics.specs.Flat as flat
use Rattle.pdl_semantics.specs.Flat.{Op, Stmt}
use Rattle.pdl_semantics.specs.Forms.{on_delayed_read}
use Rattle.pdl_law_sides.specs.Readings.{Reading, reading_in}
use Rattle.pdl_pipe_answers.specs.Readings.{bound_by}

-- the first statement binds x, or the reading is that of the rest
abbrev pub found_or : Option ℕ → ℕ → Option Reading → Option Reading
found_or None k rest = rest
found_or (Some x) k rest = Some (record { stage = k; var = x })

-- the delayed read of a memory is the first statement, where that is one, and else that of the rest
pub reading_next : (m : ℕ) (s : Stmt) (ss : List Stmt) → reading_in m (s ∷ ss) ≡ found_or (bound_by m s.op) s.stage (reading_in m ss)
reading_next m s ss = at s.op
  where
    if_is : (b : Bool) (x : ℕ)
        → (if b then Some (record { stage = s.stage; var = x }) else reading_in m ss) ≡ found_or (if b then Some x else None) s.stage (reading_in m ss)
    if_is true x = refl
    if_is false x = refl

    at : (op : Op)
        → on_delayed_read (λ y n a. if n == m then Some (record { stage = s.stage; var = y }) else reading_in m ss) (reading_in m ss) op
        ≡ found_or (bound_by m op) s.stage (reading_in m ss)
    at (flat.Bind x e) = refl
    at (flat.CombRead x n a) = refl
    at (flat.DelayedRead x n a) = if_is (n == m) x
    at (flat.Write n a e) = refl
    at (flat.ReserveRead n a) = refl
    at (flat.ReserveWrite n a) = refl
    at (flat.Block n a) = refl
    at (flat.Release n a) = refl
    at (flat.Call args) = refl
    at (flat.SpecCall args) = refl
    at (flat.Verify last args) = refl
    at flat.SpecCheck = refl
    at flat.SpecBarrier = refl
    at (flat.AdviceBind x e) = refl
    at (flat.AdviceRead x n a) = refl
    at (flat.AdviceWrite n a e) = refl
