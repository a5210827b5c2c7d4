-- What the machine prints for written pipes.
use Rattle.std.proofs.Common.{◌≡◌, refl, ℕ, zero, suc, Bool, true, false, List, [], ◌∷◌, ◌++◌, codes, replicate, Option, Some, None}
use Rattle.std.specs.Fmt.{digits}
use Rattle.pdl_word.specs.Words.{add, slice, zext, complement}
use Rattle.pdl_semantics.specs.Tree.{Cat, Queue, Bypass, Rename, W, Pipe}
use Rattle.pdl_semantics.specs.Lines.{run_lines, view_lines, accepted_line}
use Rattle.pdl_semantics.specs.Flat.{arrays_of}
use Rattle.pdl_semantics.specs.Flatten.{flat, width_of}
use Rattle.pdl_semantics.specs.Cycle.{Turn, turns}
use Rattle.pdl_semantics.proofs.Texts.{constant, variable, slice as bits_from, plus, separator, delayed_read, write, reserve, block, release, spec_call, verify, spec_check, lock, comb, slow, pipe}
use Rattle.pdl_semantics.proofs.Pipes.{two_writes, two_writes_apart, two_writes_read, one_write_or_two, one_stage, two_stages, under_guard, shared_guard, count_late, count_up, guess, guess_reserved, copy, copy_guessed, two_branches, one_branch, count_slow, barrier, nested, nested_straight, four_levels, nested_guess, guess_again, updated, guess_learnt, update_learnt, guess_kept}

-- four words that are all 0
abbrev pub zeros : List ℕ
zeros = 0 ∷ 0 ∷ 0 ∷ 0 ∷ []

-- no replies for so many cycles
abbrev pub idle : ℕ → List (List Bool)
idle n = replicate n []

-- a reply bit for one delayed memory
abbrev pub bits : List ℕ → List (List Bool)
bits [] = []
bits (zero ∷ xs) = (false ∷ []) ∷ bits xs
bits (suc n ∷ xs) = (true ∷ []) ∷ bits xs

-- the words of the delayed memory that is copied, and of the other
abbrev pub copied : List (List ℕ)
copied = (10 ∷ 11 ∷ 12 ∷ 0 ∷ []) ∷ zeros ∷ []

one_stage_runs : run_lines one_stage (zeros ∷ []) (idle 3) ≡ codes "1 m 0 00\n2 m 1 01\n3 m 2 02\nend cycles 3 ended 3 waits 0 squashes 0\n"
unfolding digits add slice zext
one_stage_runs = refl

no_cycle : run_lines one_stage (zeros ∷ []) [] ≡ codes "end cycles 0 ended 0 waits 0 squashes 0\n"
unfolding digits add slice zext
no_cycle = refl

arguments_wrap : run_lines one_stage (zeros ∷ []) (idle 17) ≡
    codes "1 m 0 00\n2 m 1 01\n3 m 2 02\n4 m 3 03\n5 m 0 04\n6 m 1 05\n7 m 2 06\n8 m 3 07\n"
    ++ codes "9 m 0 08\n10 m 1 09\n11 m 2 0a\n12 m 3 0b\n13 m 0 0c\n14 m 1 0d\n15 m 2 0e\n16 m 3 0f\n17 m 0 00\n"
    ++ codes "end cycles 17 ended 17 waits 0 squashes 0\n"
unfolding digits add slice zext
arguments_wrap = refl

queue_waits : run_lines (count_up Queue 4) (zeros ∷ [])
    (idle 10) ≡ codes "4 m 0 01\n7 m 0 02\n10 m 0 03\nend cycles 10 ended 3 waits 0 squashes 0\n"
unfolding digits add slice zext
queue_waits = refl

bypass_forwards : run_lines (count_up Bypass 4) (zeros ∷ [])
    (idle 8) ≡ codes "4 m 0 01\n6 m 0 02\n8 m 0 03\nend cycles 8 ended 3 waits 0 squashes 0\n"
unfolding digits add slice zext
bypass_forwards = refl

rename_forwards : run_lines (count_up Rename 4) (zeros ∷ [])
    (idle 8) ≡ codes "4 m 0 01\n6 m 0 02\n8 m 0 03\nend cycles 8 ended 3 waits 0 squashes 0\n"
unfolding digits add slice zext
rename_forwards = refl

-- with room for one write alone
full_queue_waits : run_lines (count_up Queue 1) (zeros ∷ [])
    (idle 8) ≡ codes "4 m 0 01\n8 m 0 02\nend cycles 8 ended 2 waits 0 squashes 0\n"
unfolding digits add slice zext
full_queue_waits = refl

forwards_late : run_lines count_late (zeros ∷ [])
    (idle 10) ≡ codes "5 m 0 01\n7 m 0 02\n9 m 0 03\nend cycles 10 ended 3 waits 0 squashes 0\n"
unfolding digits add slice zext
forwards_late = refl

call_in_second_stage : run_lines two_stages (zeros ∷ []) (idle 3) ≡ codes "1 m 0 00\n3 m 1 01\nend cycles 3 ended 1 waits 0 squashes 0\n"
unfolding digits add slice zext
call_in_second_stage = refl

two_words : run_lines (two_writes (plus (variable "n") (constant 2 1))) (zeros ∷ []) (idle 2) ≡ codes "1 m 0 00\n1 m 1 04\n2 m 2 02\n2 m 3 06\nend cycles 2 ended 2 waits 0 squashes 0\n"
unfolding digits add slice zext
two_words = refl

-- of two writes of one word the second holds
one_word_twice : run_lines (two_writes (variable "n")) (zeros ∷ []) (idle 2) ≡ codes "1 m 0 00\n1 m 0 04\n2 m 2 02\n2 m 2 06\nend cycles 2 ended 2 waits 0 squashes 0\n"
unfolding digits add slice zext
one_word_twice = refl

-- the releases take the oldest entries, whichever stands first in the text
releases_exchanged : run_lines (two_writes_apart Bypass 4) (zeros ∷ []) (idle 8) ≡ codes "3 m 0 01\n3 m 1 10\n4 m 0 02\n4 m 2 11\n6 m 0 03\n6 m 3 12\n7 m 0 04\n7 m 0 13\nend cycles 8 ended 4 waits 0 squashes 0\n"
unfolding digits add slice zext
releases_exchanged = refl

-- the younger of the two is in the array afterwards
second_write_is_read : run_lines two_writes_read (zeros ∷ [])
    (idle 2) ≡ codes "1 m 0 01\n1 m 0 02\n2 m 0 03\n2 m 0 04\nend cycles 2 ended 2 waits 0 squashes 0\n"
unfolding digits add slice zext
second_write_is_read = refl

-- who reserves twice waits until there is room for both
room_for_both : view_lines one_write_or_two (zeros ∷ [])
    (idle 9) ≡ codes "1 M..\n2 SM.\n3 S.M\n4 M..\n5 SM.\n6 S.M\n7 M..\n8 SM.\n9 S.M\n"
unfolding digits add slice zext
room_for_both = refl

one_commit_or_two : run_lines one_write_or_two (zeros ∷ [])
    (idle 9) ≡ codes "3 m 1 04\n6 m 1 01\n6 m 2 05\n9 m 3 06\nend cycles 9 ended 3 waits 0 squashes 0\n"
unfolding digits add slice zext
one_commit_or_two = refl

every_other_writes : run_lines under_guard (zeros ∷ []) (idle 4) ≡ codes "2 m 1 05\n4 m 3 05\nend cycles 4 ended 4 waits 0 squashes 0\n"
unfolding digits add slice zext
every_other_writes = refl

-- the arguments are 0, 1, 2, 1, 2: the second bit decides which branch makes the next thread
either_branch_calls : run_lines shared_guard (zeros ∷ []) (idle 5) ≡ codes "2 m 1 01\n4 m 1 01\nend cycles 5 ended 5 waits 0 squashes 0\n"
unfolding digits add slice complement
either_branch_calls = refl

right_guesses : run_lines (guess 1) (zeros ∷ []) (idle 5) ≡ codes "3 m 0 00\n4 m 1 01\n5 m 2 02\nend cycles 5 ended 3 waits 0 squashes 0\n"
unfolding digits add slice zext
right_guesses = refl

wrong_guesses : run_lines (guess 2) (zeros ∷ []) (idle 9) ≡ codes "3 m 0 00\n6 m 2 02\n9 m 0 04\nend cycles 9 ended 3 waits 0 squashes 3\n"
unfolding digits add slice zext
wrong_guesses = refl

-- the advisory memory learns, and the image may set it; a squash takes no advice back
guesses_learn : run_lines guess_learnt (zeros ∷ zeros ∷ []) (idle 10) ≡ codes "3 m 0 00\n6 m 2 02\n9 m 0 04\n10 m 2 06\nend cycles 10 ended 4 waits 0 squashes 2\n"
unfolding digits add slice zext
guesses_learn = refl

guesses_known : run_lines guess_learnt ((2 ∷ 0 ∷ 2 ∷ 0 ∷ []) ∷ zeros ∷ []) (idle 6) ≡ codes "3 m 0 00\n4 m 2 02\n5 m 0 04\n6 m 2 06\nend cycles 6 ended 4 waits 0 squashes 0\n"
unfolding digits add slice zext
guesses_known = refl

-- of two advisory writes in one cycle that of the lesser stage holds
last_advice_holds : run_lines guess_kept ((2 ∷ 0 ∷ 0 ∷ 0 ∷ []) ∷ zeros ∷ []) (idle 6) ≡ codes "3 m 0 00\n4 m 2 02\n5 m 0 04\n6 m 2 06\nend cycles 6 ended 4 waits 0 squashes 0\n"
unfolding digits add slice zext
last_advice_holds = refl

wrong_guesses_reserved : run_lines (guess_reserved 2) (zeros ∷ [])
    (idle 9) ≡ codes "3 m 0 00\n6 m 2 02\n9 m 0 04\nend cycles 9 ended 3 waits 0 squashes 3\n"
unfolding digits add slice zext
wrong_guesses_reserved = refl

-- cycle 1 is no wait, since nothing is outstanding at its start
late_replies : run_lines copy copied (bits (0 ∷ 0 ∷ 0 ∷ 1 ∷ 1 ∷ 1 ∷ []))
    ≡ codes "4 m 0 0a\n5 m 1 0b\n6 m 2 0c\nend cycles 6 ended 3 waits 2 squashes 0\n"
unfolding digits add slice zext
late_replies = refl

prompt_replies : run_lines copy copied (bits (1 ∷ 1 ∷ 1 ∷ 1 ∷ []))
    ≡ codes "2 m 0 0a\n3 m 1 0b\n4 m 2 0c\nend cycles 4 ended 3 waits 0 squashes 0\n"
unfolding digits add slice zext
prompt_replies = refl

-- the answer of an orphan is dropped, and the next address is asked for in that cycle
orphan_dropped : run_lines copy_guessed copied (bits (1 ∷ 1 ∷ 0 ∷ 0 ∷ 1 ∷ 1 ∷ 1 ∷ []))
    ≡ codes "3 m 0 0a\n7 m 2 0c\nend cycles 7 ended 2 waits 2 squashes 2\n"
unfolding digits add slice zext
orphan_dropped = refl

-- the orphan is answered in the very cycle in which the oldest thread asks
orphan_answered : run_lines copy_guessed copied (bits (1 ∷ 1 ∷ 0 ∷ 1 ∷ 1 ∷ 1 ∷ []))
    ≡ codes "3 m 0 0a\n6 m 2 0c\nend cycles 6 ended 2 waits 1 squashes 2\n"
unfolding digits add slice zext
orphan_answered = refl

branches_meet : run_lines two_branches (zeros ∷ [])
    (idle 8) ≡ codes "5 m 0 00\n6 m 1 01\n7 m 2 02\n8 m 3 03\nend cycles 8 ended 4 waits 0 squashes 0\n"
unfolding digits add slice zext
branches_meet = refl

straight_way_waits : run_lines one_branch (zeros ∷ [])
    (idle 11) ≡ codes "5 m 0 00\n6 m 1 01\n10 m 2 02\n11 m 3 03\nend cycles 11 ended 4 waits 0 squashes 0\n"
unfolding digits add slice zext
straight_way_waits = refl

inner_branches_meet : run_lines nested (zeros ∷ []) (idle 9) ≡ codes "6 m 0 00\n7 m 1 01\n8 m 2 02\n9 m 3 03\nend cycles 9 ended 4 waits 0 squashes 0\n"
unfolding digits add slice zext
inner_branches_meet = refl

-- the second thread waits in its branch of one stage for the first one, which is inside both forks
inner_viewed : view_lines nested (zeros ∷ []) (idle 9) ≡
    codes "1 M.......\n2 M.M.....\n3 MS..M...\n4 SSM..M..\n5 SS.M..M.\n6 MM....SM\n7 MS....MM\n8 MMM....M\n9 MS..M..M\n"
unfolding digits add slice zext
inner_viewed = refl

inner_straight_waits : run_lines nested_straight (zeros ∷ []) (idle 12) ≡ codes "7 m 0 00\n8 m 1 01\n9 m 2 02\n10 m 3 03\nend cycles 12 ended 4 waits 0 squashes 0\n"
unfolding digits add slice zext
inner_straight_waits = refl

four_levels_run : run_lines four_levels (zeros ∷ []) (idle 10) ≡ codes "4 m 0 00\n10 m 1 01\nend cycles 10 ended 2 waits 0 squashes 0\n"
unfolding digits add slice zext
four_levels_run = refl

nested_guess_run : run_lines nested_guess (zeros ∷ []) (idle 16) ≡ codes "5 m 0 09\n11 m 2 09\n16 m 0 09\nend cycles 16 ended 3 waits 0 squashes 3\n"
unfolding digits add slice zext
nested_guess_run = refl

guess_updated : run_lines (updated 2) (zeros ∷ []) (idle 8) ≡ codes "4 m 0 00\n6 m 2 02\n8 m 0 04\nend cycles 8 ended 3 waits 0 squashes 4\n"
unfolding digits add slice zext
guess_updated = refl

-- an update to a wrong guess: the verify squashes too
guess_updated_wrong : run_lines (updated 3) (zeros ∷ []) (idle 8) ≡ codes "4 m 0 00\n8 m 2 02\nend cycles 8 ended 2 waits 0 squashes 4\n"
unfolding digits add slice zext
guess_updated_wrong = refl

-- an update to the present guess: nothing is squashed by it
guess_updated_alike : run_lines (updated 1) (zeros ∷ []) (idle 8) ≡ codes "4 m 0 00\n8 m 2 02\nend cycles 8 ended 2 waits 0 squashes 2\n"
unfolding digits add slice zext
guess_updated_alike = refl

updated_viewed : view_lines (updated 3) (zeros ∷ []) (idle 8) ≡ codes "1 M...\n2 SM..\n3 M.M.\n4 SS.M\n5 M...\n6 SM..\n7 M.M.\n8 SS.M\n"
unfolding digits add slice zext
updated_viewed = refl

-- an update to what is learnt: wrong at first, right once the word is there
update_learns : run_lines update_learnt (zeros ∷ zeros ∷ []) (idle 12) ≡ codes "4 m 0 00\n8 m 2 02\n12 m 0 04\nend cycles 12 ended 3 waits 0 squashes 6\n"
unfolding digits add slice zext
update_learns = refl

update_known : run_lines update_learnt ((2 ∷ 0 ∷ 2 ∷ 0 ∷ []) ∷ zeros ∷ [])
    (idle 8) ≡ codes "4 m 0 00\n6 m 2 02\n8 m 0 04\nend cycles 8 ended 3 waits 0 squashes 4\n"
unfolding digits add slice zext
update_known = refl

guess_not_updated : run_lines (guess_again []) (zeros ∷ []) (idle 8) ≡ codes "4 m 0 00\n8 m 2 02\nend cycles 8 ended 2 waits 0 squashes 2\n"
unfolding digits add slice zext
guess_not_updated = refl

viewed : view_lines (guess 2) (zeros ∷ []) (idle 4) ≡ codes "1 M..\n2 MM.\n3 SSM\n4 M..\n"
unfolding digits add slice zext
viewed = refl

-- each thread but the first waits one cycle for the value of the one before it
forwarding_viewed : view_lines (count_up Bypass 4) (zeros ∷ [])
    (idle 8) ≡ codes "1 M...\n2 MM..\n3 SSM.\n4 MM.M\n5 SSM.\n6 MM.M\n7 SSM.\n8 MM.M\n"
unfolding digits add slice zext
forwarding_viewed = refl

delayed_and_locked : run_lines count_slow ((0 ∷ 0 ∷ []) ∷ [])
    (bits (1 ∷ 1 ∷ 1 ∷ 1 ∷ 1 ∷ 1 ∷ [])) ≡ codes "3 m 0 01\n5 m 0 02\nend cycles 6 ended 2 waits 0 squashes 0\n"
unfolding digits add slice zext
delayed_and_locked = refl

-- in cycle 2 the barrier finds the first thread in stage 1
barrier_waits : run_lines barrier (zeros ∷ []) (idle 3) ≡ codes "1 m 0 07\n3 m 1 07\nend cycles 3 ended 1 waits 0 squashes 0\n"
unfolding digits add slice zext
barrier_waits = refl

stages_of_branches : accepted_line two_branches ≡ codes "accepted stages 6 depth 5\n"
unfolding digits
stages_of_branches = refl

stages_of_nested : accepted_line nested ≡ codes "accepted stages 8 depth 6\n"
unfolding digits
stages_of_nested = refl

stages_of_four_levels : accepted_line four_levels ≡ codes "accepted stages 17 depth 9\n"
unfolding digits
stages_of_four_levels = refl

stages_of_barrier : accepted_line barrier ≡ codes "accepted stages 2 depth 2\n"
unfolding digits
stages_of_barrier = refl

stages_in_line : accepted_line two_stages ≡ codes "accepted stages 2 depth 2\n"
unfolding digits
stages_in_line = refl

one_stage_alone : accepted_line shared_guard ≡ codes "accepted stages 1 depth 1\n"
unfolding digits
one_stage_alone = refl

-- the addresses that the machine asks delayed memories for: an orphan's answer lets the next address through
abbrev asked : List Turn → List (List (Option ℕ))
asked [] = []
asked (t ∷ ts) = t.ports.requests ∷ asked ts

addresses_asked : asked (turns (flat copy_guessed) (arrays_of copied) (bits (1 ∷ 1 ∷ 0 ∷ 0 ∷ 1 ∷ 1 ∷ []))) ≡
    (Some 0 ∷ None ∷ []) ∷ (Some 1 ∷ None ∷ []) ∷ (None ∷ None ∷ []) ∷ (None ∷ None ∷ []) ∷ (Some 2 ∷ None ∷ []) ∷ (Some 3 ∷ None ∷ []) ∷ []
unfolding add slice zext
addresses_asked = refl

-- a slice of no bits, and bits side by side that are too many, count as one
slice_of_no_bits : width_of [] (bits_from "n" 1 2) ≡ 1
slice_of_no_bits = refl

too_many_together : width_of [] (Cat (constant 128 0) (constant 1 0)) ≡ 1
too_many_together = refl

-- the answer for a thread that has guessed wrong may be late
abbrev answered_late : Pipe
answered_late =
    pipe 2 (slow "d" 4 None ∷ comb "m" 4 (lock Queue 1) ∷ [])
    (separator ∷ spec_check ∷ spec_call "s" (plus (variable "n") (constant 2 1)) ∷ separator ∷ delayed_read "x" "d" "n"
    ∷ separator ∷ verify "s" (plus (variable "n") (constant 2 2)) ∷ reserve "m" "n" W ∷ block "m" "n"
    ∷ write "m" "n" (variable "x") ∷ release "m" "n" ∷ [])

-- in cycle 4 a thread stands with a wrong guess, and the younger one moves
wrong_guess_stands : view_lines answered_late copied (bits (1 ∷ 1 ∷ 1 ∷ 0 ∷ 1 ∷ 1 ∷ [])) ≡ codes "1 M...\n2 .M..\n3 M.M.\n4 .M.S\n5 S.SM\n6 M...\n"
unfolding digits add slice zext
wrong_guess_stands = refl
