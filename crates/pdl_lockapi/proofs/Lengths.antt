-- How many writes are pending after reserves, writes and a release.
use Rattle.std.proofs.Common.{◌≡◌, refl, ap, ◌∙◌, ℕ, suc, ◌+◌, ◌≤◌, Bool, true, false, if◌then◌else◌, ◌==◌, List, [], ◌∷◌, ◌++◌, length, drop, length-append, None, arith}
use Rattle.std.proofs.lemmas.List.{length-drop}
use Rattle.pdl_semantics.specs.Machine.{Pending, Reserved}
use Rattle.pdl_semantics.specs.Moves.{Act}
use Rattle.pdl_semantics.specs.Cycle.{new_entries, with_reserves, with_all_writes}
use Rattle.pdl_semantics.proofs.Facts.{put_all_length}
use Rattle.pdl_lockapi.specs.Forget.{addresses_of, addresses}

-- a thread appends as many as it reserves addresses
pub new_long : (m t : ℕ) (rs : List Reserved) → length (new_entries m t rs) ≡ length (addresses_of m rs)
new_long m t [] = refl
new_long m t (r ∷ rs) = at (r.mem == m) (new_long m t rs)
  where
    at : (b : Bool) → length (new_entries m t rs) ≡ length (addresses_of m rs)
        → length ((if b then record { thread = t; var = r.var; address = r.address; value = None } ∷ [] else []) ++ new_entries m t rs)
        ≡ length ((if b then r.address ∷ [] else []) ++ addresses_of m rs)
    at true h = ap suc h
    at false h = h

-- the threads that move append as many pending writes as they reserve addresses
pub appended_long : (m : ℕ) (ms : List Act) (es : List Pending) → length (with_reserves m ms es) ≡ length es + length (addresses m ms)
appended_long m [] es = omega arith
appended_long m (a ∷ ms) es =
    let rest = appended_long m ms es in
    let sum = length-append (with_reserves m ms es) (new_entries m a.thread.number a.does.reserves) in
    let more = length-append (addresses m ms) (addresses_of m a.does.reserves) in
    let many = new_long m a.thread.number a.does.reserves in
    omega arith

-- writes change no number of pending writes
pub filled_long : (m : ℕ) (ms : List Act) (es : List Pending) → length (with_all_writes m ms es) ≡ length es
filled_long m [] es = refl
filled_long m (a ∷ ms) es = put_all_length m a.thread.number a.does.writes (with_all_writes m ms es) ∙ filled_long m ms es

-- releases leave no more pending writes than there were
pub left_long : (k : ℕ) (es : List Pending) → length (drop k es) ≤ length es
left_long k es = let e = length-drop k es in omega arith
