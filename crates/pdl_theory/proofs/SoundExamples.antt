-- Written pipes pass the tests of the whole language.
use Rattle.std.proofs.Common.{◌≡◌, refl, Bool, true, false, List, [], ◌∷◌, None, ℕ}
use Rattle.pdl_semantics.specs.Tree.{W, Queue}
use Rattle.pdl_semantics.specs.Tree
use Rattle.pdl_semantics.specs.Tree.{Queue, Bypass}
use Rattle.pdl_semantics.specs.Flatten.{flat}
use Rattle.pdl_semantics.proofs.Pipes.{two_writes, two_writes_apart, one_stage, shared_guard, count_queue, guess, far_barrier, copy, copy_guessed, count_slow, two_branches, one_branch, forked, everything, dead_read, nested, nested_straight, four_levels, nested_guess, updated, guess_learnt, guess_kept}
use Rattle.pdl_semantics.proofs.Texts.{number, constant, variable, slice, plus, separator, bind, delayed_read, call, spec_barrier, if_else, slow, pipe, write, reserve, block, release, spec_call, verify, update, spec_check, lock, comb}
use Rattle.pdl_semantics.specs.Flat.{Arrays, Pipe, CombRead}
use Rattle.pdl_theory_turns.specs.Derived.{Hint}
use Rattle.pdl_theory_turns.specs.Alone.{Refines, Advances, KeepsPace}
use Rattle.pdl_theory_turns.specs.SoundChecks.{passes_tests}
use Rattle.pdl_theory_turns.proofs.Courses.{Course}
use Rattle.pdl_theory_turns.proofs.CourseOf.{course}
use Rattle.pdl_theory.proofs.Follows.{refines, advances}
use Rattle.pdl_theory.proofs.Rates.{keeps_pace}
use Rattle.pdl_theory.proofs.SoundTests.{sounded}
use Rattle.pdl_theory.proofs.StatedTheorems.{whole_refines, whole_advances, whole_paces, updates_alike, whole_idle}
use Rattle.pdl_semantics.specs.Updates.{CommitsAlike}
use Rattle.pdl_semantics.specs.Promises

one_stage_sounds : passes_tests (flat one_stage) ≡ true
one_stage_sounds = refl

guards_sound : passes_tests (flat shared_guard) ≡ true
guards_sound = refl

queue_sounds : passes_tests (flat (count_queue 1)) ≡ true
queue_sounds = refl

guess_sounds : passes_tests (flat (guess 3)) ≡ true
guess_sounds = refl

guess_learnt_sounds : passes_tests (flat guess_learnt) ≡ true
guess_learnt_sounds = refl

guess_kept_sounds : passes_tests (flat guess_kept) ≡ true
guess_kept_sounds = refl

-- a read of an advisory memory that isn't one of advice fails
advice_read_fails : passes_tests (record (flat guess_learnt) {
  stmts =
      record { stage = 0; guards = []; op = CombRead 0 0 0 } ∷ (flat guess_learnt).stmts;
}) ≡ false
advice_read_fails = refl

far_barrier_sounds : passes_tests (flat far_barrier) ≡ true
far_barrier_sounds = refl

copy_sounds : passes_tests (flat copy) ≡ true
copy_sounds = refl

copy_guessed_sounds : passes_tests (flat copy_guessed) ≡ true
copy_guessed_sounds = refl

count_slow_sounds : passes_tests (flat count_slow) ≡ true
count_slow_sounds = refl

two_branches_sound : passes_tests (flat two_branches) ≡ true
two_branches_sound = refl

-- a second branch with statements in the fork's stage, which stand in the text after later stages
fork_text_sounds : passes_tests (flat (forked (separator ∷ separator ∷ []) (bind "w" (variable "n") ∷ separator ∷ []))) ≡ true
fork_text_sounds = refl

one_branch_sounds : passes_tests (flat one_branch) ≡ true
one_branch_sounds = refl

-- two writes of one memory in one thread, in one stage or apart, whose releases stand in the other order
two_words_sound : passes_tests (flat (two_writes (plus (variable "n") (constant 2 1)))) ≡ true
two_words_sound = refl

one_word_sounds : passes_tests (flat (two_writes (variable "n"))) ≡ true
one_word_sounds = refl

writes_apart_sound : passes_tests (flat (two_writes_apart Bypass 4)) ≡ true
writes_apart_sound = refl

-- one entry is too little room for both
short_room_fails : passes_tests (flat (two_writes_apart Queue 1)) ≡ false
short_room_fails = refl

-- forks in branches of others
nested_sounds : passes_tests (flat nested) ≡ true
nested_sounds = refl

nested_straight_sounds : passes_tests (flat nested_straight) ≡ true
nested_straight_sounds = refl

four_levels_sounds : passes_tests (flat four_levels) ≡ true
four_levels_sounds = refl

nested_guess_sounds : passes_tests (flat nested_guess) ≡ true
nested_guess_sounds = refl

-- a guess that is replaced before its verify
updated_sounds : passes_tests (flat (updated 2)) ≡ true
updated_sounds = refl

-- forks before the update, one of them in another's branch, and one between it and the verify
abbrev nested_updated : Tree.Pipe
nested_updated =
    pipe 2 (comb "m" 4 (lock Queue 4) ∷ [])
    (spec_check ∷ bind "g" (slice "n" 0 0) ∷ bind "h" (slice "n" 1 1) ∷ spec_call "s" (plus (variable "n") (constant 2 1))
    ∷ if_else (variable "g") (separator ∷ []) (separator ∷ if_else (variable "h") (separator ∷ []) [] ∷ separator ∷ separator ∷ []) ∷ separator
    ∷ update "s" (plus (variable "n") (constant 2 2))
    ∷ if_else (variable "h") (separator ∷ []) (separator ∷ separator ∷ []) ∷ separator
    ∷ verify "s" (plus (variable "n") (constant 2 3))
    ∷ reserve "m" "n" W ∷ block "m" "n" ∷ write "m" "n" (constant 8 9) ∷ release "m" "n" ∷ [])

nested_updated_sounds : passes_tests (flat nested_updated) ≡ true
nested_updated_sounds = refl

-- an update after the verify breaks a rule
late_update_fails : passes_tests
    (flat
    (pipe 2 []
    (spec_call "s" (plus (variable "n") (constant 2 1)) ∷ separator ∷ verify "s" (plus (variable "n") (constant 2 2)) ∷ separator
    ∷ update "s" (plus (variable "n") (constant 2 3)) ∷ []))) ≡ false
late_update_fails = refl

everything_sounds : passes_tests (flat everything) ≡ true
everything_sounds = refl

dead_read_sounds : passes_tests (flat dead_read) ≡ true
dead_read_sounds = refl

-- a delayed read before a fork, whose first branch has an `if` on it in a stage that the second passes over
abbrev pub passed_by : Tree.Pipe
passed_by =
    pipe 2 (record (slow "d" 4 None) { width = number 1 } ∷ [])
    (bind "g" (slice "n" 0 0) ∷ delayed_read "x" "d" "n" ∷ call (plus (variable "n") (constant 2 1))
    ∷ if_else (variable "g") (separator ∷ if_else (variable "x") (bind "y" (constant 1 1) ∷ []) [] ∷ []) (separator ∷ separator ∷ []) ∷ separator ∷ [])

passed_by_sounds : passes_tests (flat passed_by) ≡ true
passed_by_sounds = refl

-- an `if` on a delayed read in its stage breaks a rule
early_guard_fails : passes_tests
    (flat
    (pipe 2 (record (slow "d" 4 None) { width = number 1 } ∷ [])
    (delayed_read "x" "d" "n" ∷ call (plus (variable "n") (constant 2 1)) ∷ if_else (variable "x") (bind "y" (constant 1 1) ∷ []) [] ∷ separator ∷ [])))
    ≡ false
early_guard_fails = refl

-- a barrier in a branch breaks a rule
branch_barrier_fails : passes_tests (flat (forked (separator ∷ spec_barrier ∷ separator ∷ []) [])) ≡ false
branch_barrier_fails = refl

-- a pipe that passes the tests of the whole language has the facts that the theorems take
abbrev whole : (p : Pipe) → passes_tests p ≡ true → Course p
whole p h = course p (sounded p h)

copy_guessed_refines : (image : Arrays) (hints : ℕ → Hint) (schedule : List (List Bool)) → Refines (flat copy_guessed) image hints schedule
copy_guessed_refines = refines (flat copy_guessed) (whole (flat copy_guessed) copy_guessed_sounds)

branches_refine : (image : Arrays) (hints : ℕ → Hint) (schedule : List (List Bool)) → Refines (flat two_branches) image hints schedule
branches_refine = refines (flat two_branches) (whole (flat two_branches) two_branches_sound)

slow_advances : (image : Arrays) (hints : ℕ → Hint) (schedule : List (List Bool)) (bits : List Bool) → Advances (flat count_slow) image hints schedule bits
slow_advances = advances (flat count_slow) (whole (flat count_slow) count_slow_sounds)

branches_keep_pace : (image : Arrays) (hints : ℕ → Hint) (schedule : List (List Bool)) → KeepsPace (flat one_branch) image hints schedule
branches_keep_pace = keeps_pace (flat one_branch) (sounded (flat one_branch) one_branch_sounds)

-- every run of the stated machine on the pipe with guesses refines the sequential run
stated_guesses_refine : (image : Arrays) (schedule : List (List Bool)) → Promises.Refines (flat copy_guessed) image schedule
stated_guesses_refine = whole_refines (flat copy_guessed) (sounded (flat copy_guessed) copy_guessed_sounds)

stated_branches_refine : (image : Arrays) (schedule : List (List Bool)) → Promises.Refines (flat two_branches) image schedule
stated_branches_refine = whole_refines (flat two_branches) (sounded (flat two_branches) two_branches_sound)

stated_nested_refines : (image : Arrays) (schedule : List (List Bool)) → Promises.Refines (flat nested) image schedule
stated_nested_refines = whole_refines (flat nested) (sounded (flat nested) nested_sounds)

stated_nested_keep_pace : (image : Arrays) (schedule : List (List Bool)) → Promises.KeepsPace (flat nested) image schedule
stated_nested_keep_pace = whole_paces (flat nested) (sounded (flat nested) nested_sounds)

stated_updated_refines : (image : Arrays) (schedule : List (List Bool)) → Promises.Refines (flat (updated 2)) image schedule
stated_updated_refines = whole_refines (flat (updated 2)) (sounded (flat (updated 2)) updated_sounds)

stated_updated_advances : (image : Arrays) (schedule : List (List Bool)) (bits : List Bool) → Promises.Advances (flat (updated 2)) image schedule bits
stated_updated_advances = whole_advances (flat (updated 2)) (sounded (flat (updated 2)) updated_sounds)

stated_nested_updated_refines : (image : Arrays) (schedule : List (List Bool)) → Promises.Refines (flat nested_updated) image schedule
stated_nested_updated_refines = whole_refines (flat nested_updated) (sounded (flat nested_updated) nested_updated_sounds)

stated_nested_updates_alike : (image : Arrays) (schedule schedule' : List (List Bool)) → CommitsAlike (flat nested_updated) image schedule schedule'
stated_nested_updates_alike = updates_alike (flat nested_updated) (sounded (flat nested_updated) nested_updated_sounds)

stated_updates_alike : (image : Arrays) (schedule schedule' : List (List Bool)) → CommitsAlike (flat (updated 2)) image schedule schedule'
stated_updates_alike = updates_alike (flat (updated 2)) (sounded (flat (updated 2)) updated_sounds)

stated_slow_advances : (image : Arrays) (schedule : List (List Bool)) (bits : List Bool)
    → Promises.Advances (flat count_slow) image schedule bits
stated_slow_advances = whole_advances (flat count_slow) (sounded (flat count_slow) count_slow_sounds)

stated_branches_keep_pace : (image : Arrays) (schedule : List (List Bool)) → Promises.KeepsPace (flat one_branch) image schedule
stated_branches_keep_pace = whole_paces (flat one_branch) (sounded (flat one_branch) one_branch_sounds)

stated_everything_refines : (image : Arrays) (schedule : List (List Bool)) → Promises.Refines (flat everything) image schedule
stated_everything_refines = whole_refines (flat everything) (sounded (flat everything) everything_sounds)

stated_learnt_refines : (image : Arrays) (schedule : List (List Bool)) → Promises.Refines (flat guess_learnt) image schedule
stated_learnt_refines = whole_refines (flat guess_learnt) (sounded (flat guess_learnt) guess_learnt_sounds)

-- what was learnt changes no write
learnt_is_idle : (image other : Arrays) (schedule replies : List (List Bool))
    → Promises.DifferInAdvice (flat guess_learnt) image other → Promises.AdviceIsIdle (flat guess_learnt) image other schedule replies
learnt_is_idle = whole_idle (flat guess_learnt) (sounded (flat guess_learnt) guess_learnt_sounds)
