-- Written pipes pass the tests.
use Rattle.std.proofs.Common.{◌≡◌, refl, true}
use Rattle.pdl_semantics.specs.Flatten.{flat}
use Rattle.pdl_semantics.proofs.Pipes.{one_stage, two_stages, under_guard, shared_guard, count_queue, count_late, guess, guess_reserved, far_barrier, copy, copy_guessed, count_slow, two_branches, one_branch, nested, four_levels, nested_guess}
use Rattle.pdl_theory_states.specs.Strict.{is_strict}

one_stage_strict : is_strict (flat one_stage) ≡ true
one_stage_strict = refl

two_stages_strict : is_strict (flat two_stages) ≡ true
two_stages_strict = refl

guard_strict : is_strict (flat under_guard) ≡ true
guard_strict = refl

shared_strict : is_strict (flat shared_guard) ≡ true
shared_strict = refl

queue_strict : is_strict (flat (count_queue 1)) ≡ true
queue_strict = refl

late_strict : is_strict (flat count_late) ≡ true
late_strict = refl

guess_strict : is_strict (flat (guess 3)) ≡ true
guess_strict = refl

reserved_strict : is_strict (flat (guess_reserved 2)) ≡ true
reserved_strict = refl

barrier_strict : is_strict (flat far_barrier) ≡ true
barrier_strict = refl

copy_strict : is_strict (flat copy) ≡ true
copy_strict = refl

orphan_strict : is_strict (flat copy_guessed) ≡ true
orphan_strict = refl

slow_strict : is_strict (flat count_slow) ≡ true
slow_strict = refl

branches_strict : is_strict (flat two_branches) ≡ true
branches_strict = refl

straight_strict : is_strict (flat one_branch) ≡ true
straight_strict = refl

nested_strict : is_strict (flat nested) ≡ true
nested_strict = refl

levels_strict : is_strict (flat four_levels) ≡ true
levels_strict = refl

nested_guess_strict : is_strict (flat nested_guess) ≡ true
nested_guess_strict = refl
