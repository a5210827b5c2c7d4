-- Sound state, computed: it holds in every state of these runs.
use Rattle.std.proofs.Common.{◌≡◌, refl, ℕ, suc, Bool, true, false, ◌&&◌, ◌==◌, List, [], ◌∷◌, map, Option, Some, None, if◌then◌else◌}
use Rattle.pdl_word.specs.Words.{add, sub, and, less, slice, zext, sext, cat, mux}
use Rattle.pdl_semantics.specs.Tree
use Rattle.pdl_semantics.specs.Tree.{Queue, Bypass, Rename}
use Rattle.pdl_semantics.specs.Flat.{Pipe, Arrays, arrays_of}
use Rattle.pdl_semantics.specs.Flatten.{flat}
use Rattle.pdl_semantics.specs.Machine.{Thread, Pending, State}
use Rattle.pdl_semantics.specs.Moves.{all_acts}
use Rattle.pdl_semantics.specs.Cycle.{first, after_acts, ports, state_after}
use Rattle.pdl_semantics.specs.Sound.{is_sound}
use Rattle.pdl_semantics.proofs.Pipes.{two_writes, two_writes_apart, one_stage, two_stages, under_guard, count_up, count_late, guess, guess_reserved, copy, copy_guessed, two_branches, one_branch, count_slow, barrier, far_barrier, without_barrier, nested, nested_straight, four_levels, nested_guess, updated, update_learnt, guess_learnt, guess_kept}
use Rattle.pdl_semantics.proofs.Texts.{variable, constant, plus}
use Rattle.pdl_semantics.proofs.Features.{queue_write_waits, youngest_write_is_read, kind_by_path, bits_by_delayed, port_of_a_stalled_owner, kept_answer, expressions, two_forks_on_one_guard, squash_empties_lists, squash_keeps_later_lists, port_of_an_owner_in_the_other_branch, barrier_up_to_v, barrier_without_v}
use Rattle.pdl_semantics.proofs.FeatureRows.{words}
use Rattle.pdl_semantics.proofs.WrongMachines.{Decides, GoesOn, decides_by, keeps_entries, any_branch, sees_younger, looks_one_stage, asks_at_once, gives_late}
use Rattle.pdl_semantics.proofs.MachineRows.{zeros, idle, bits, copied}

-- whether each state of a run of some machine is sound, from one in which n threads have ended
abbrev sound_from : Decides → GoesOn → Pipe → Arrays → ℕ → State → List (List Bool) → Bool
sound_from decide next p image n st [] = is_sound p image n st
sound_from decide next p image n st (replies ∷ schedule) =
    let these = decide p st replies in
    is_sound p image n st
    && sound_from decide next p image (if (ports p st these).ended then suc n else n) (next p st replies these) schedule

abbrev sound_by : Decides → GoesOn → Tree.Pipe → List (List ℕ) → List (List Bool) → Bool
sound_by decide next p image schedule = sound_from decide next (flat p) (arrays_of image) 0 (first (flat p) (arrays_of image)) schedule

abbrev sound_run : Tree.Pipe → List (List ℕ) → List (List Bool) → Bool
sound_run p image schedule = sound_by all_acts after_acts p image schedule

abbrev mixed : List (List Bool)
mixed = bits (0 ∷ 1 ∷ 1 ∷ 0 ∷ 0 ∷ 1 ∷ 1 ∷ 1 ∷ 0 ∷ 1 ∷ [])

one_stage_sound : sound_run one_stage (zeros ∷ []) (idle 6) ≡ true
unfolding add slice zext
one_stage_sound = refl

two_stages_sound : sound_run two_stages (zeros ∷ []) (idle 6) ≡ true
unfolding add slice zext
two_stages_sound = refl

guard_sound : sound_run under_guard (zeros ∷ []) (idle 6) ≡ true
unfolding add slice zext
guard_sound = refl

two_words_sound : sound_run (two_writes (plus (variable "n") (constant 2 1))) (zeros ∷ []) (idle 4) ≡ true
unfolding add slice zext
two_words_sound = refl

two_writes_sound : sound_run (two_writes_apart Bypass 4) (zeros ∷ []) (idle 9) ≡ true
unfolding add slice zext
two_writes_sound = refl

two_writes_queued : sound_run (two_writes_apart Queue 2) (zeros ∷ []) (idle 9) ≡ true
unfolding add slice zext
two_writes_queued = refl

learnt_sound : sound_run guess_learnt (zeros ∷ zeros ∷ []) (idle 10) ≡ true
unfolding add slice zext
learnt_sound = refl

counted_sound : sound_run guess_kept (zeros ∷ zeros ∷ []) (idle 10) ≡ true
unfolding add slice zext
counted_sound = refl

queue_sound : sound_run (count_up Queue 2) (zeros ∷ []) (idle 9) ≡ true
unfolding add slice zext
queue_sound = refl

bypass_sound : sound_run (count_up Bypass 4) (zeros ∷ []) (idle 9) ≡ true
unfolding add slice zext
bypass_sound = refl

rename_sound : sound_run (count_up Rename 4) (zeros ∷ []) (idle 9) ≡ true
unfolding add slice zext
rename_sound = refl

late_sound : sound_run count_late (zeros ∷ []) (idle 9) ≡ true
unfolding add slice zext
late_sound = refl

right_guess_sound : sound_run (guess 1) (zeros ∷ []) (idle 9) ≡ true
unfolding add slice zext
right_guess_sound = refl

wrong_guess_sound : sound_run (guess 2) (zeros ∷ []) (idle 9) ≡ true
unfolding add slice zext
wrong_guess_sound = refl

reserved_guess_sound : sound_run (guess_reserved 2) (zeros ∷ []) (idle 9) ≡ true
unfolding add slice zext
reserved_guess_sound = refl

barrier_sound : sound_run barrier (zeros ∷ []) (idle 9) ≡ true
unfolding add slice zext
barrier_sound = refl

far_barrier_sound : sound_run far_barrier (zeros ∷ []) (idle 9) ≡ true
unfolding add slice zext
far_barrier_sound = refl

prompt_copy_sound : sound_run copy copied (bits (1 ∷ 1 ∷ 1 ∷ 1 ∷ [])) ≡ true
unfolding add slice zext
prompt_copy_sound = refl

late_copy_sound : sound_run copy copied (bits (0 ∷ 0 ∷ 0 ∷ 1 ∷ 1 ∷ 1 ∷ [])) ≡ true
unfolding add slice zext
late_copy_sound = refl

mixed_copy_sound : sound_run copy copied mixed ≡ true
unfolding add slice zext
mixed_copy_sound = refl

orphan_dropped_sound : sound_run copy_guessed copied (bits (1 ∷ 1 ∷ 0 ∷ 0 ∷ 1 ∷ 1 ∷ 1 ∷ [])) ≡ true
unfolding add slice zext
orphan_dropped_sound = refl

orphan_answered_sound : sound_run copy_guessed copied (bits (1 ∷ 1 ∷ 0 ∷ 1 ∷ 1 ∷ 1 ∷ [])) ≡ true
unfolding add slice zext
orphan_answered_sound = refl

orphan_sound : sound_run copy_guessed copied mixed ≡ true
unfolding add slice zext
orphan_sound = refl

prompt_slow_sound : sound_run count_slow ((0 ∷ 0 ∷ []) ∷ []) (bits (1 ∷ 1 ∷ 1 ∷ 1 ∷ 1 ∷ 1 ∷ [])) ≡ true
unfolding add slice zext
prompt_slow_sound = refl

slow_sound : sound_run count_slow ((0 ∷ 0 ∷ []) ∷ []) mixed ≡ true
unfolding add slice zext
slow_sound = refl

branches_sound : sound_run two_branches (zeros ∷ []) (idle 12) ≡ true
unfolding add slice zext
branches_sound = refl

straight_sound : sound_run one_branch (zeros ∷ []) (idle 12) ≡ true
unfolding add slice zext
straight_sound = refl

updated_sound : sound_run (updated 2) (zeros ∷ []) (idle 9) ≡ true
unfolding add slice zext
updated_sound = refl

update_learnt_sound : sound_run update_learnt (zeros ∷ zeros ∷ []) (idle 13) ≡ true
unfolding add slice zext
update_learnt_sound = refl

updated_wrong_sound : sound_run (updated 3) (zeros ∷ []) (idle 9) ≡ true
unfolding add slice zext
updated_wrong_sound = refl

nested_sound : sound_run nested (zeros ∷ []) (idle 16) ≡ true
unfolding add slice zext
nested_sound = refl

nested_straight_sound : sound_run nested_straight (zeros ∷ []) (idle 16) ≡ true
unfolding add slice zext
nested_straight_sound = refl

four_levels_sound : sound_run four_levels (zeros ∷ []) (idle 16) ≡ true
unfolding add slice zext
four_levels_sound = refl

nested_guess_sound : sound_run nested_guess (zeros ∷ []) (idle 16) ≡ true
unfolding add slice zext
nested_guess_sound = refl

queue_write_waits_sound : sound_run queue_write_waits (words 1) (idle 14) ≡ true
unfolding add slice zext
queue_write_waits_sound = refl

youngest_write_is_read_sound : sound_run youngest_write_is_read (words 1) (idle 14) ≡ true
unfolding add slice zext
youngest_write_is_read_sound = refl

kind_by_path_sound : sound_run kind_by_path (words 1) (idle 14) ≡ true
unfolding add slice zext
kind_by_path_sound = refl

bits_by_delayed_sound : sound_run bits_by_delayed (words 2) mixed ≡ true
unfolding add slice zext
bits_by_delayed_sound = refl

port_of_a_stalled_owner_sound : sound_run port_of_a_stalled_owner (words 2) mixed ≡ true
unfolding add slice zext
port_of_a_stalled_owner_sound = refl

kept_answer_sound : sound_run kept_answer (words 2) mixed ≡ true
unfolding add slice zext
kept_answer_sound = refl

expressions_sound : sound_run expressions (words 2) (idle 14) ≡ true
unfolding add sub and less slice zext sext cat mux
expressions_sound = refl

two_forks_on_one_guard_sound : sound_run two_forks_on_one_guard (words 1) (idle 14) ≡ true
unfolding add slice zext
two_forks_on_one_guard_sound = refl

squash_empties_lists_sound : sound_run squash_empties_lists (words 1) (idle 14) ≡ true
unfolding add slice zext
squash_empties_lists_sound = refl

squash_keeps_later_lists_sound : sound_run squash_keeps_later_lists (words 1) (idle 14) ≡ true
unfolding add slice zext
squash_keeps_later_lists_sound = refl

port_of_an_owner_in_the_other_branch_sound : sound_run port_of_an_owner_in_the_other_branch (words 2) mixed ≡ true
unfolding add slice zext
port_of_an_owner_in_the_other_branch_sound = refl

barrier_up_to_v_sound : sound_run barrier_up_to_v (words 1) (idle 14) ≡ true
unfolding add slice zext
barrier_up_to_v_sound = refl

barrier_without_v_sound : sound_run barrier_without_v (words 1) (idle 14) ≡ true
unfolding add slice zext
barrier_without_v_sound = refl

-- WRONG MACHINES come to states that are not sound

squash_unsound : sound_by all_acts keeps_entries (guess_reserved 2) (zeros ∷ []) (idle 4) ≡ false
unfolding add slice zext
squash_unsound = refl

merge_unsound : sound_by (decides_by any_branch) after_acts two_branches (zeros ∷ []) (idle 6) ≡ false
unfolding add slice zext
merge_unsound = refl

bypass_unsound : sound_by (decides_by sees_younger) after_acts count_late (zeros ∷ []) (idle 7) ≡ false
unfolding add slice zext
bypass_unsound = refl

barrier_unsound : sound_by (decides_by looks_one_stage) after_acts far_barrier (zeros ∷ []) (idle 4) ≡ false
unfolding add slice zext
barrier_unsound = refl

late_reply_unsound : sound_by (decides_by asks_at_once) gives_late copy_guessed copied (bits (1 ∷ 1 ∷ 0 ∷ 0 ∷ 1 ∷ 1 ∷ 1 ∷ [])) ≡ false
unfolding add slice zext
late_reply_unsound = refl

-- A PIPE THAT BREAKS A RULE does so too

without_barrier_unsound : sound_run without_barrier (zeros ∷ []) (idle 5) ≡ false
unfolding add slice zext
without_barrier_unsound = refl

-- STATES THAT NO RUN COMES TO, alike but for one thing

-- each thread in its stage changed
abbrev with_threads : (Thread → Thread) → List (Option Thread) → List (Option Thread)
with_threads change [] = []
with_threads change (None ∷ ts) = None ∷ with_threads change ts
with_threads change (Some t ∷ ts) = Some (change t) ∷ with_threads change ts

-- the state after two cycles, from an image of zeros
abbrev after_two : Tree.Pipe → State
after_two p = state_after (flat p) (first (flat p) (arrays_of (zeros ∷ []))) (idle 2)

abbrev is_sound_with : (State → State) → Tree.Pipe → Bool
is_sound_with change p = is_sound (flat p) (arrays_of (zeros ∷ [])) 0 (change (after_two p))

-- thread 2 gets the number of thread 1, also in pending writes
abbrev as_first : ℕ → ℕ
as_first n = if n == 2 then 1 else n

abbrev all_owned : List Pending → List Pending
all_owned [] = []
all_owned (e ∷ es) = record e { thread = as_first e.thread } ∷ all_owned es

abbrev renumbered : State → State
renumbered st =
    record st {
      stages = with_threads (λ t. record t { number = as_first t.number }) st.stages;
      locks = map all_owned st.locks;
    }

same_number_unsound : is_sound_with renumbered (guess 1) ≡ false
unfolding add slice zext
same_number_unsound = refl

-- thread 2, which follows a wrong guess, keeps an answer that it didn't ask for
abbrev with_answer : Thread → Thread
with_answer t = if t.number == 2 then record t { kept = record { var = 1; word = 9 } ∷ [] } else t

unasked_unsound : is_sound_with (λ st. record st { stages = with_threads with_answer st.stages }) (guess 2) ≡ false
unfolding add slice zext
unasked_unsound = refl

unchanged_sound : is_sound_with (λ st. st) (guess 2) ≡ true
unfolding add slice zext
unchanged_sound = refl
