-- Scans of what is certain on a path, over joined statements.
use Rattle.std.proofs.Common.{◌≡◌, refl, ap₂, ℕ, Bool, true, false, ◌&&◌, ◌||◌, List, [], ◌∷◌, ◌++◌, Option, ◌==◌, cond}
use Rattle.pdl_semantics.specs.Flat.{Stmt}
use Rattle.pdl_semantics.specs.Locks.{commit_value}
use Rattle.pdl_theory_turns.specs.Derived.{Entry, has_entry, oldest_of, released_commits}
use Rattle.pdl_theory_turns.specs.Scans.{Scan, scan_after, scan_after_all}
use Rattle.pdl_theory_turns.specs.GuessScans.{is_barrier, is_sure, all_sure}
use Rattle.pdl_theory_turns.proofs.Writes.{and_left, and_right}

-- THE SCAN OF BARRIERS

-- whether a barrier is among the statements
abbrev pub some_barrier : Bool → List Stmt → Bool
some_barrier b [] = b
some_barrier b (x ∷ xs) = some_barrier (b || is_barrier x.op) xs

-- a barrier was passed after joined statements just where it was after the first ones or in the second
pub barred_append : (b : Bool) (xs ys : List Stmt) → some_barrier b (xs ++ ys) ≡ some_barrier (some_barrier b xs) ys
barred_append b [] ys = refl
barred_append b (x ∷ xs) ys = barred_append (b || is_barrier x.op) xs ys

-- where the releases of joined statements are certain, those of the first ones are
pub sure_first : (v : Option ℕ) (b : Bool) (c : Scan) (xs ys : List Stmt) → all_sure v b c (xs ++ ys) ≡ true → all_sure v b c xs ≡ true
sure_first v b c [] ys h = refl
sure_first v b c (x ∷ xs) ys h =
    ap₂ (λ a d. a && d) (and_left (is_sure v b c x.stage x.op) _ h)
    (sure_first v (b || is_barrier x.op) (scan_after x.op c) xs ys (and_right (is_sure v b c x.stage x.op) _ h))

-- where the releases of joined statements are certain, those of the second ones are, after the first
pub sure_second : (v : Option ℕ) (b : Bool) (c : Scan) (xs ys : List Stmt)
    → all_sure v b c (xs ++ ys) ≡ true → all_sure v (some_barrier b xs) (scan_after_all xs c) ys ≡ true
sure_second v b c [] ys h = h
sure_second v b c (x ∷ xs) ys h = sure_second v (b || is_barrier x.op) (scan_after x.op c) xs ys (and_right (is_sure v b c x.stage x.op) _ h)

-- WHAT A STAGE DOES

-- a release of a location that has no entry commits nothing
pub unreleased : (es : List Entry) (m a : ℕ) → has_entry es m a ≡ false → released_commits es m a ≡ []
unreleased [] m a h = refl
unreleased (e ∷ es) m a h = at ((e.mem == m) && (e.var == a)) h (unreleased es m a)
  where
    at : (b : Bool) → (b || has_entry es m a) ≡ false → (has_entry es m a ≡ false → released_commits es m a ≡ [])
        → cond b (record { mem = m; address = (oldest_of e es).address; value = commit_value (oldest_of e es).value } ∷ []) (released_commits es m a) ≡ []
    at true k f = absurd (cc k)
    at false k f = f k
