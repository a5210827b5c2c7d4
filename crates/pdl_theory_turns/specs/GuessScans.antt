-- Facts of an accepted pipe on guesses: scans over the statements of one path that tell who makes the next thread, and that nothing is released before it is certain.
use Rattle.std.specs.Prelude.{ℕ, Bool, true, false, ◌&&◌, ◌||◌, not, List, [], ◌∷◌, Option, Some, None, ◌==◌, nat_lt}
use Rattle.pdl_theory_turns.specs.semantics.Flat.{Op, Bind, CombRead, DelayedRead, Write, ReserveRead, ReserveWrite, Block, Release, Call, SpecCall, Verify, SpecCheck, SpecBarrier, AdviceBind, AdviceRead, AdviceWrite, Stmt}
use Rattle.pdl_theory_turns.specs.semantics.Forms.{on_release}
pub use Rattle.pdl_theory_turns.specs.semantics.Sound.{is_barrier}
pub use Rattle.pdl_theory_turns.specs.semantics.Updates.{is_update}
use Rattle.pdl_theory_turns.specs.Scans.{has_location, scan_after, Scan}

-- whether a stage is V
abbrev pub stands_at : Option ℕ → ℕ → Bool
stands_at None s = false
stands_at (Some v) s = s == v

-- whether a stage stands before V, if there is a V
abbrev pub stands_before : Option ℕ → ℕ → Bool
stands_before None s = false
stands_before (Some v) s = nat_lt s v

-- WHO MAKES THE NEXT THREAD

-- how far a thread is with that: nothing made, a guess that isn't verified, or the next thread made for certain
pub data Making : Type 0 where
  Unmade : Making
  Guessed : Making
  Made : Making

-- how far a thread is with its successor after a statement
abbrev pub next_making : Making → Op → Making
next_making k (Call args) = Made
next_making k (SpecCall args) = Guessed
next_making k (Verify true args) = Made
next_making k (Verify false args) = Guessed
next_making k (Bind x e) = k
next_making k (CombRead x m a) = k
next_making k (DelayedRead x m a) = k
next_making k (Write m a e) = k
next_making k (ReserveRead m a) = k
next_making k (ReserveWrite m a) = k
next_making k (Block m a) = k
next_making k (Release m a) = k
next_making k SpecCheck = k
next_making k SpecBarrier = k
next_making k (AdviceBind x e) = k
next_making k (AdviceRead x m a) = k
next_making k (AdviceWrite m a e) = k

-- how far a thread is with its successor after these statements
abbrev pub making_all : Making → List Stmt → Making
making_all k [] = k
making_all k (x ∷ xs) = making_all (next_making k x.op) xs

-- whether nothing is made yet
abbrev pub is_unmade : Making → Bool
is_unmade Unmade = true
is_unmade _ = false

-- whether a guess is made, and not verified yet
abbrev pub is_guessed : Making → Bool
is_guessed Guessed = true
is_guessed _ = false

-- the next thread is made for certain
abbrev pub is_made : Making → Bool
is_made Made = true
is_made _ = false

-- S1, S2, S3, S6: one call or guess, a guess before V, an update of it before V, and one verify of it, in V
abbrev pub making_ok : Option ℕ → Making → ℕ → Op → Bool
making_ok v k s (Call args) = is_unmade k
making_ok v k s (SpecCall args) = is_unmade k && stands_before v s
making_ok v k s (Verify true args) = is_guessed k && stands_at v s
making_ok v k s (Verify false args) = is_guessed k && stands_before v s
making_ok v k s (Bind x e) = true
making_ok v k s (CombRead x m a) = true
making_ok v k s (DelayedRead x m a) = true
making_ok v k s (Write m a e) = true
making_ok v k s (ReserveRead m a) = true
making_ok v k s (ReserveWrite m a) = true
making_ok v k s (Block m a) = true
making_ok v k s (Release m a) = true
making_ok v k s SpecCheck = true
making_ok v k s SpecBarrier = true
making_ok v k s (AdviceBind x e) = true
making_ok v k s (AdviceRead x m a) = true
making_ok v k s (AdviceWrite m a e) = true

-- these statements make the next thread in order, from this point on
abbrev pub makings_ok : Option ℕ → Making → List Stmt → Bool
makings_ok v k [] = true
makings_ok v k (x ∷ xs) = making_ok v k x.stage x.op && makings_ok v (next_making k x.op) xs

-- S2, S3, S6: a verify or an update stands in another stage than the guess that it asks about

-- the stage of the last guess, after a statement of stage s
abbrev pub guess_stage : Option ℕ → ℕ → Op → Option ℕ
guess_stage g s (SpecCall args) = Some s
guess_stage g s (Bind x e) = g
guess_stage g s (CombRead x m a) = g
guess_stage g s (DelayedRead x m a) = g
guess_stage g s (Write m a e) = g
guess_stage g s (ReserveRead m a) = g
guess_stage g s (ReserveWrite m a) = g
guess_stage g s (Block m a) = g
guess_stage g s (Release m a) = g
guess_stage g s (Call args) = g
guess_stage g s (Verify last args) = g
guess_stage g s SpecCheck = g
guess_stage g s SpecBarrier = g
guess_stage g s (AdviceBind x e) = g
guess_stage g s (AdviceRead x m a) = g
guess_stage g s (AdviceWrite m a e) = g

-- whether a statement of stage s, where it is a verify or an update, stands in another stage than the last guess
abbrev pub check_apart : Option ℕ → ℕ → Op → Bool
check_apart g s (Verify last args) = not (stands_at g s)
check_apart g s (Bind x e) = true
check_apart g s (CombRead x m a) = true
check_apart g s (DelayedRead x m a) = true
check_apart g s (Write m a e) = true
check_apart g s (ReserveRead m a) = true
check_apart g s (ReserveWrite m a) = true
check_apart g s (Block m a) = true
check_apart g s (Release m a) = true
check_apart g s (Call args) = true
check_apart g s (SpecCall args) = true
check_apart g s SpecCheck = true
check_apart g s SpecBarrier = true
check_apart g s (AdviceBind x e) = true
check_apart g s (AdviceRead x m a) = true
check_apart g s (AdviceWrite m a e) = true

-- each check among these statements does, where g is the stage of the last guess before them
abbrev pub checks_apart : Option ℕ → List Stmt → Bool
checks_apart g [] = true
checks_apart g (x ∷ xs) = check_apart g x.stage x.op && checks_apart (guess_stage g x.stage x.op) xs

-- whether no second statement of a kind is among these, where one stands before them or doesn't; S6 asks it of updates
abbrev pub once : (Op → Bool) → Bool → List Stmt → Bool
once test been [] = true
once test been (x ∷ xs) = not (been && test x.op) && once test (been || test x.op) xs

-- CERTAINTY

-- S4: after a barrier, or in V and later, anything is released; else only what was not reserved for writing
abbrev pub is_sure : Option ℕ → Bool → Scan → ℕ → Op → Bool
is_sure v barred c s op = on_release (λ m a. barred || (not (has_location c.held m a) || not (stands_before v s))) true op

-- each release among these statements is certain
abbrev pub all_sure : Option ℕ → Bool → Scan → List Stmt → Bool
all_sure v barred c [] = true
all_sure v barred c (x ∷ xs) = is_sure v barred c x.stage x.op && all_sure v (barred || is_barrier x.op) (scan_after x.op c) xs
