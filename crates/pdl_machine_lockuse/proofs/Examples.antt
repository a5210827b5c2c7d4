-- Written pipes with guards, guesses, barriers, delayed memories and forks pass the tests.
use Rattle.std.proofs.Common.{◌≡◌, refl, true, [], ◌∷◌, length, Some}
use Rattle.pdl_word.specs.Words.{add}
use Rattle.pdl_semantics.specs.Flatten.{flat}
use Rattle.pdl_semantics.proofs.Pipes.{one_stage, two_stages, under_guard, shared_guard, count_queue, count_late, guess, guess_reserved, far_barrier, copy, copy_guessed, count_slow, two_branches, one_branch}
use Rattle.pdl_semantics.specs.Flat.{Pipe}
use Rattle.pdl_semantics.specs.Machine.{State, lock_of}
use Rattle.pdl_semantics.specs.Cycle.{squasher, all_releases, cycle, first, state_after}
use Rattle.pdl_theory_states.specs.Use.{moving, with_new, with_release}
use Rattle.pdl_machine_lockuse.specs.Careful.{is_careful}
use Rattle.pdl_semantics.specs.PendingLists.{count_older}

one_stage_careful : is_careful (flat one_stage) ≡ true
one_stage_careful = refl

two_stages_careful : is_careful (flat two_stages) ≡ true
two_stages_careful = refl

guard_careful : is_careful (flat under_guard) ≡ true
guard_careful = refl

shared_careful : is_careful (flat shared_guard) ≡ true
shared_careful = refl

queue_careful : is_careful (flat (count_queue 1)) ≡ true
queue_careful = refl

late_careful : is_careful (flat count_late) ≡ true
late_careful = refl

guess_careful : is_careful (flat (guess 3)) ≡ true
guess_careful = refl

reserved_careful : is_careful (flat (guess_reserved 2)) ≡ true
reserved_careful = refl

barrier_careful : is_careful (flat far_barrier) ≡ true
barrier_careful = refl

copy_careful : is_careful (flat copy) ≡ true
copy_careful = refl

orphan_careful : is_careful (flat copy_guessed) ≡ true
orphan_careful = refl

slow_careful : is_careful (flat count_slow) ≡ true
slow_careful = refl

branches_careful : is_careful (flat two_branches) ≡ true
branches_careful = refl

straight_careful : is_careful (flat one_branch) ≡ true
straight_careful = refl

-- A SQUASH

-- the first thread releases its write and drops that of the second one, which its guess had called
abbrev guessed : Pipe
guessed = flat (guess_reserved 2)

abbrev at_squash : State
at_squash = state_after guessed (first guessed (λ m a. 0)) ([] ∷ [] ∷ [])

squashes : squasher (moving guessed at_squash []) ≡ Some 1
unfolding add
squashes = refl

lets_go : all_releases 0 (moving guessed at_squash []) ≡ 1
unfolding add
lets_go = refl

two_pending : length (with_new guessed at_squash [] 0) ≡ 2
unfolding add
two_pending = refl

place : count_older 2 (with_new guessed at_squash [] 0) ≡ 1
unfolding add
place = refl

one_left : length (with_release guessed at_squash [] 0) ≡ 1
unfolding add
one_left = refl

shifted : count_older 2 (with_release guessed at_squash [] 0) ≡ 0
unfolding add
shifted = refl

none_left : lock_of (cycle guessed at_squash []) 0 ≡ []
unfolding add
none_left = refl
