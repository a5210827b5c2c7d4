-- How often a path reserves a memory for writing, where each delayed read has its answer at once.
use Rattle.std.proofs.Common.{◌≡◌, refl, ap, ℕ, suc, ◌==◌, Bool, true, false, cond, if◌then◌else◌, List, [], ◌∷◌}
use Rattle.pdl_semantics.specs.Flat.{Op, Bind, CombRead, DelayedRead, Write, ReserveRead, ReserveWrite, Block, Release, Call, SpecCall, Verify, SpecCheck, SpecBarrier, AdviceBind, AdviceRead, AdviceWrite, Stmt, all_hold}
use Rattle.pdl_semantics.specs.Stages.{onpath, is_write_reserve}
use Rattle.pdl_theory_turns.specs.Alone.{answered_op}
use Rattle.pdl_theory_turns.specs.Scans.{write_reserves}
use Rattle.pdl_theory_turns.specs.Facts.{looked_all}

-- as often as where it doesn't
pub looked_reserves : (path : List ℕ) (m : ℕ) (xs : List Stmt) → write_reserves m (onpath path (looked_all xs)) ≡ write_reserves m (onpath path xs)
looked_reserves path m [] = refl
looked_reserves path m (x ∷ xs) = at (all_hold x.guards path) (looked_reserves path m xs)
  where
    one : (op : Op) (k l : ℕ) → k ≡ l
        → (if is_write_reserve m (answered_op op) then suc k else k) ≡ (if is_write_reserve m op then suc l else l)
    one (Bind y e) k l h = h
    one (CombRead y n a) k l h = h
    one (DelayedRead y n a) k l h = h
    one (Write n a e) k l h = h
    one (ReserveRead n a) k l h = h
    one (ReserveWrite n a) k l h = ap (λ i. if n == m then suc i else i) h
    one (Block n a) k l h = h
    one (Release n a) k l h = h
    one (Call args) k l h = h
    one (SpecCall args) k l h = h
    one (Verify last args) k l h = h
    one SpecCheck k l h = h
    one SpecBarrier k l h = h
    one (AdviceBind y e) k l h = h
    one (AdviceRead y n a) k l h = h
    one (AdviceWrite n a e) k l h = h

    at : (b : Bool) → write_reserves m (onpath path (looked_all xs)) ≡ write_reserves m (onpath path xs)
        → write_reserves m (cond b (record { stage = x.stage; guards = []; op = answered_op x.op } ∷ onpath path (looked_all xs)) (onpath path (looked_all xs)))
        ≡ write_reserves m (cond b (record { stage = x.stage; guards = []; op = x.op } ∷ onpath path xs) (onpath path xs))
    at true h = one x.op _ _ h
    at false h = h
