-- What the machine does in these pipes: the commits of 18 cycles, the view of the stages, the stages and their depth, and what five threads write one after another.
use Rattle.std.proofs.Common.{◌≡◌, refl, ℕ, List, [], ◌∷◌, ◌++◌, codes, replicate}
use Rattle.std.specs.Prelude.{Bool}
use Rattle.std.specs.Fmt.{digits}
use Rattle.pdl_word.specs.Words.{add, sub, and, less, slice, zext, sext, cat, mux}
use Rattle.pdl_semantics.specs.Lines.{run_lines, seq_lines, view_lines, accepted_line}
use Rattle.pdl_semantics.proofs.Features.{queue_write_waits, youngest_write_is_read, kind_by_path, bits_by_delayed, port_of_a_stalled_owner, kept_answer, expressions, two_forks_on_one_guard, squash_empties_lists, squash_keeps_later_lists, port_of_an_owner_in_the_other_branch, barrier_up_to_v, barrier_without_v}
use Rattle.pdl_semantics.proofs.MachineRows.{idle, bits}

-- the words of each memory, of which there are n
abbrev pub words : ℕ → List (List ℕ)
words n = replicate n (3 ∷ 10 ∷ 17 ∷ 24 ∷ [])

-- replies with gaps
abbrev gaps : List (List Bool)
gaps = bits (0 ∷ 1 ∷ 0 ∷ 0 ∷ 1 ∷ 1 ∷ 0 ∷ 1 ∷ 1 ∷ 1 ∷ 0 ∷ 1 ∷ 0 ∷ 1 ∷ 1 ∷ 1 ∷ 1 ∷ 1 ∷ [])

-- a write through a queue waits until no older write of its address is pending
queue_write_waits_commits : run_lines queue_write_waits (words 1) (idle 18) ≡
    codes "3 m 1 00\n5 m 1 01\n7 m 1 02\n9 m 1 03\n11 m 1 00\n13 m 1 01\n15 m 1 02\n17 m 1 03\n"
    ++ codes "end cycles 18 ended 8 waits 0 squashes 0\n"
unfolding digits add slice zext
queue_write_waits_commits = refl

queue_write_waits_view : view_lines queue_write_waits (words 1) (idle 18) ≡
    codes "1 M..\n2 MM.\n3 SSM\n4 MM.\n5 SSM\n6 MM.\n7 SSM\n8 MM.\n9 SSM\n10 MM.\n11 SSM\n12 MM.\n13 SSM\n"
    ++ codes "14 MM.\n15 SSM\n16 MM.\n17 SSM\n18 MM.\n"
unfolding digits add slice zext
queue_write_waits_view = refl

queue_write_waits_stages : accepted_line queue_write_waits ≡
    codes "accepted stages 3 depth 3\n"
unfolding digits add slice zext
queue_write_waits_stages = refl

queue_write_waits_threads : seq_lines queue_write_waits (words 1) 5 ≡
    codes "1 m 1 00\n2 m 1 01\n3 m 1 02\n4 m 1 03\n5 m 1 00\nend threads 5\n"
unfolding digits add slice zext
queue_write_waits_threads = refl

-- a read finds the youngest of several older pending writes
youngest_write_is_read_commits : run_lines youngest_write_is_read (words 1) (idle 18) ≡
    codes "4 m 0 04\n5 m 0 05\n6 m 0 06\n7 m 0 07\n8 m 0 08\n9 m 0 09\n10 m 0 0a\n11 m 0 0b\n12 m 0 0c\n"
    ++ codes "13 m 0 0d\n14 m 0 0e\n15 m 0 0f\n16 m 0 10\n17 m 0 11\n18 m 0 12\n"
    ++ codes "end cycles 18 ended 15 waits 0 squashes 0\n"
unfolding digits add slice zext
youngest_write_is_read_commits = refl

youngest_write_is_read_view : view_lines youngest_write_is_read (words 1) (idle 18) ≡
    codes "1 M...\n2 MM..\n3 MMM.\n4 MMMM\n5 MMMM\n6 MMMM\n7 MMMM\n8 MMMM\n9 MMMM\n10 MMMM\n11 MMMM\n12 MMMM\n"
    ++ codes "13 MMMM\n14 MMMM\n15 MMMM\n16 MMMM\n17 MMMM\n18 MMMM\n"
unfolding digits add slice zext
youngest_write_is_read_view = refl

youngest_write_is_read_stages : accepted_line youngest_write_is_read ≡
    codes "accepted stages 4 depth 4\n"
unfolding digits add slice zext
youngest_write_is_read_stages = refl

youngest_write_is_read_threads : seq_lines youngest_write_is_read (words 1) 5 ≡
    codes "1 m 0 04\n2 m 0 05\n3 m 0 06\n4 m 0 07\n5 m 0 08\nend threads 5\n"
unfolding digits add slice zext
youngest_write_is_read_threads = refl

-- a block or release is of the kind for which its path reserved the location
kind_by_path_commits : run_lines kind_by_path (words 1) (idle 18) ≡
    codes "4 m 1 05\n6 m 3 05\n8 m 1 05\n10 m 3 05\n12 m 1 05\n14 m 3 05\n16 m 1 05\n18 m 3 05\n"
    ++ codes "end cycles 18 ended 16 waits 0 squashes 0\n"
unfolding digits add slice zext
kind_by_path_commits = refl

kind_by_path_view : view_lines kind_by_path (words 1) (idle 18) ≡
    codes "1 M..\n2 MM.\n3 MMM\n4 MMM\n5 MMM\n6 MMM\n7 MMM\n8 MMM\n9 MMM\n10 MMM\n11 MMM\n12 MMM\n13 MMM\n"
    ++ codes "14 MMM\n15 MMM\n16 MMM\n17 MMM\n18 MMM\n"
unfolding digits add slice zext
kind_by_path_view = refl

kind_by_path_stages : accepted_line kind_by_path ≡
    codes "accepted stages 3 depth 3\n"
unfolding digits add slice zext
kind_by_path_stages = refl

kind_by_path_threads : seq_lines kind_by_path (words 1) 5 ≡
    codes "2 m 1 05\n4 m 3 05\nend threads 5\n"
unfolding digits add slice zext
kind_by_path_threads = refl

-- the reply bits count the delayed memories alone
bits_by_delayed_commits : run_lines bits_by_delayed (words 2) gaps ≡
    codes "2 m 0 03\n5 m 1 0a\n6 m 2 11\n8 m 3 18\n9 m 0 03\n10 m 1 0a\n12 m 2 11\n14 m 3 18\n15 m 0 03\n"
    ++ codes "16 m 1 0a\n17 m 2 11\n18 m 3 18\nend cycles 18 ended 12 waits 5 squashes 0\n"
unfolding digits add slice zext
bits_by_delayed_commits = refl

bits_by_delayed_view : view_lines bits_by_delayed (words 2) gaps ≡
    codes "1 M.\n2 MM\n3 SS\n4 SS\n5 MM\n6 MM\n7 SS\n8 MM\n9 MM\n10 MM\n11 SS\n12 MM\n13 SS\n14 MM\n15 MM\n"
    ++ codes "16 MM\n17 MM\n18 MM\n"
unfolding digits add slice zext
bits_by_delayed_view = refl

bits_by_delayed_stages : accepted_line bits_by_delayed ≡
    codes "accepted stages 2 depth 2\n"
unfolding digits add slice zext
bits_by_delayed_stages = refl

bits_by_delayed_threads : seq_lines bits_by_delayed (words 2) 5 ≡
    codes "1 m 0 03\n2 m 1 0a\n3 m 2 11\n4 m 3 18\n5 m 0 03\nend threads 5\n"
unfolding digits add slice zext
bits_by_delayed_threads = refl

-- a port isn't free while the owner of its answered request stands
port_of_a_stalled_owner_commits : run_lines port_of_a_stalled_owner (words 2) gaps ≡
    codes "3 m 0 03\n6 m 0 0a\n8 m 0 11\n10 m 0 18\n12 m 0 03\n14 m 0 0a\n16 m 0 11\n18 m 0 18\n"
    ++ codes "end cycles 18 ended 8 waits 2 squashes 0\n"
unfolding digits add slice zext
port_of_a_stalled_owner_commits = refl

port_of_a_stalled_owner_view : view_lines port_of_a_stalled_owner (words 2) gaps ≡
    codes "1 M..\n2 MM.\n3 SSM\n4 SS.\n5 MM.\n6 SSM\n7 MM.\n8 SSM\n9 MM.\n10 SSM\n11 MM.\n12 SSM\n13 MM.\n"
    ++ codes "14 SSM\n15 MM.\n16 SSM\n17 MM.\n18 SSM\n"
unfolding digits add slice zext
port_of_a_stalled_owner_view = refl

port_of_a_stalled_owner_stages : accepted_line port_of_a_stalled_owner ≡
    codes "accepted stages 3 depth 3\n"
unfolding digits add slice zext
port_of_a_stalled_owner_stages = refl

port_of_a_stalled_owner_threads : seq_lines port_of_a_stalled_owner (words 2) 5 ≡
    codes "1 m 0 03\n2 m 0 0a\n3 m 0 11\n4 m 0 18\n5 m 0 03\nend threads 5\n"
unfolding digits add slice zext
port_of_a_stalled_owner_threads = refl

-- an answer that comes while its owner stands is kept
kept_answer_commits : run_lines kept_answer (words 2) gaps ≡
    codes "4 m 0 03\n7 m 0 0a\n10 m 0 11\n13 m 0 18\n16 m 0 03\nend cycles 18 ended 5 waits 2 squashes 0\n"
unfolding digits add slice zext
kept_answer_commits = refl

kept_answer_view : view_lines kept_answer (words 2) gaps ≡
    codes "1 M...\n2 MM..\n3 SSM.\n4 SS.M\n5 MM..\n6 SSM.\n7 SS.M\n8 MM..\n9 SSM.\n10 SS.M\n11 MM..\n12 SSM.\n"
    ++ codes "13 SS.M\n14 MM..\n15 SSM.\n16 SS.M\n17 MM..\n18 SSM.\n"
unfolding digits add slice zext
kept_answer_view = refl

kept_answer_stages : accepted_line kept_answer ≡
    codes "accepted stages 4 depth 4\n"
unfolding digits add slice zext
kept_answer_stages = refl

kept_answer_threads : seq_lines kept_answer (words 2) 5 ≡
    codes "1 m 0 03\n2 m 0 0a\n3 m 0 11\n4 m 0 18\n5 m 0 03\nend threads 5\n"
unfolding digits add slice zext
kept_answer_threads = refl

-- operators of each kind
expressions_commits : run_lines expressions (words 2) (idle 18) ≡
    codes "1 m 0 00\n1 w 0 033\n2 m 1 02\n2 w 1 077\n3 m 2 fc\n3 w 2 099\n4 m 3 fe\n4 w 3 0dd\n5 m 0 00\n"
    ++ codes "5 w 0 033\n6 m 1 02\n6 w 1 077\n7 m 2 fc\n7 w 2 099\n8 m 3 fe\n8 w 3 0dd\n9 m 0 00\n9 w 0 033\n"
    ++ codes "10 m 1 02\n10 w 1 077\n11 m 2 fc\n11 w 2 099\n12 m 3 fe\n12 w 3 0dd\n13 m 0 00\n13 w 0 033\n"
    ++ codes "14 m 1 02\n14 w 1 077\n15 m 2 fc\n15 w 2 099\n16 m 3 fe\n16 w 3 0dd\n17 m 0 00\n17 w 0 033\n"
    ++ codes "18 m 1 02\n18 w 1 077\nend cycles 18 ended 18 waits 0 squashes 0\n"
unfolding digits add sub and less slice zext sext cat mux
expressions_commits = refl

expressions_view : view_lines expressions (words 2) (idle 18) ≡
    codes "1 M\n2 M\n3 M\n4 M\n5 M\n6 M\n7 M\n8 M\n9 M\n10 M\n11 M\n12 M\n13 M\n14 M\n15 M\n16 M\n17 M\n18 M\n"
unfolding digits add sub and less slice zext sext cat mux
expressions_view = refl

expressions_stages : accepted_line expressions ≡
    codes "accepted stages 1 depth 1\n"
unfolding digits add sub and less slice zext sext cat mux
expressions_stages = refl

expressions_threads : seq_lines expressions (words 2) 5 ≡
    codes "1 m 0 00\n1 w 0 033\n2 m 1 02\n2 w 1 077\n3 m 2 fc\n3 w 2 099\n4 m 3 fe\n4 w 3 0dd\n5 m 0 00\n"
    ++ codes "5 w 0 033\nend threads 5\n"
unfolding digits add sub and less slice zext sext cat mux
expressions_threads = refl

-- two forks on one variable go the same way; the depth counts consistent paths
two_forks_on_one_guard_commits : run_lines two_forks_on_one_guard (words 1) (idle 18) ≡
    codes "6 m 0 00\n7 m 1 01\n11 m 2 02\n12 m 3 03\n16 m 0 00\n17 m 1 01\n"
    ++ codes "end cycles 18 ended 6 waits 0 squashes 0\n"
unfolding digits add slice zext
two_forks_on_one_guard_commits = refl

two_forks_on_one_guard_view : view_lines two_forks_on_one_guard (words 1) (idle 18) ≡
    codes "1 M.......\n2 M..M....\n3 SM..M...\n4 S.M..M..\n5 S..S..M.\n6 M..M...M\n7 M..M...M\n8 SM..M...\n"
    ++ codes "9 S.M..M..\n10 S..S..M.\n11 M..M...M\n12 M..M...M\n13 SM..M...\n14 S.M..M..\n15 S..S..M.\n"
    ++ codes "16 M..M...M\n17 M..M...M\n18 SM..M...\n"
unfolding digits add slice zext
two_forks_on_one_guard_view = refl

two_forks_on_one_guard_stages : accepted_line two_forks_on_one_guard ≡
    codes "accepted stages 8 depth 6\n"
unfolding digits add slice zext
two_forks_on_one_guard_stages = refl

two_forks_on_one_guard_threads : seq_lines two_forks_on_one_guard (words 1) 5 ≡
    codes "1 m 0 00\n2 m 1 01\n3 m 2 02\n4 m 3 03\n5 m 0 00\nend threads 5\n"
unfolding digits add slice zext
two_forks_on_one_guard_threads = refl

-- a squash empties the list of a fork that merges no later than V
squash_empties_lists_commits : run_lines squash_empties_lists (words 1) (idle 18) ≡
    codes "3 m 0 09\n6 m 2 09\n9 m 0 09\n12 m 2 09\n15 m 0 09\n18 m 2 09\n"
    ++ codes "end cycles 18 ended 6 waits 0 squashes 6\n"
unfolding digits add slice zext
squash_empties_lists_commits = refl

squash_empties_lists_view : view_lines squash_empties_lists (words 1) (idle 18) ≡
    codes "1 M....\n2 M..M.\n3 SS..M\n4 M....\n5 M..M.\n6 SS..M\n7 M....\n8 M..M.\n9 SS..M\n10 M....\n"
    ++ codes "11 M..M.\n12 SS..M\n13 M....\n14 M..M.\n15 SS..M\n16 M....\n17 M..M.\n18 SS..M\n"
unfolding digits add slice zext
squash_empties_lists_view = refl

squash_empties_lists_stages : accepted_line squash_empties_lists ≡
    codes "accepted stages 5 depth 4\n"
unfolding digits add slice zext
squash_empties_lists_stages = refl

squash_empties_lists_threads : seq_lines squash_empties_lists (words 1) 5 ≡
    codes "1 m 0 09\n2 m 2 09\n3 m 0 09\n4 m 2 09\n5 m 0 09\nend threads 5\n"
unfolding digits add slice zext
squash_empties_lists_threads = refl

-- a squash keeps the list of a fork after V
squash_keeps_later_lists_commits : run_lines squash_keeps_later_lists (words 1) (idle 18) ≡
    codes "6 m 0 00\n9 m 3 03\n10 m 2 02\n13 m 1 01\n14 m 0 00\n17 m 3 03\n18 m 2 02\n"
    ++ codes "end cycles 18 ended 7 waits 0 squashes 9\n"
unfolding digits add slice zext
squash_keeps_later_lists_commits = refl

squash_keeps_later_lists_view : view_lines squash_keeps_later_lists (words 1) (idle 18) ≡
    codes "1 M.........\n2 SM........\n3 M.....M...\n4 SM.....M..\n5 M.M.....M.\n6 SM.M.....M\n7 M...M.M...\n"
    ++ codes "8 SM...M.M..\n9 M.M.....MM\n10 SM.M.....M\n11 M...M.M...\n12 SM...M.M..\n13 M.M.....MM\n"
    ++ codes "14 SM.M.....M\n15 M...M.M...\n16 SM...M.M..\n17 M.M.....MM\n18 SM.M.....M\n"
unfolding digits add slice zext
squash_keeps_later_lists_view = refl

squash_keeps_later_lists_stages : accepted_line squash_keeps_later_lists ≡
    codes "accepted stages 10 depth 7\n"
unfolding digits add slice zext
squash_keeps_later_lists_stages = refl

squash_keeps_later_lists_threads : seq_lines squash_keeps_later_lists (words 1) 5 ≡
    codes "1 m 0 00\n2 m 3 03\n3 m 2 02\n4 m 1 01\n5 m 0 00\nend threads 5\n"
unfolding digits add slice zext
squash_keeps_later_lists_threads = refl

-- a port is free where its owner moves in a later stage
port_of_an_owner_in_the_other_branch_commits : run_lines port_of_an_owner_in_the_other_branch (words 2) gaps ≡
    codes "5 m 0 03\n8 m 0 0a\n12 m 0 11\n15 m 0 18\nend cycles 18 ended 4 waits 2 squashes 0\n"
unfolding digits add slice zext
port_of_an_owner_in_the_other_branch_commits = refl

port_of_an_owner_in_the_other_branch_view : view_lines port_of_an_owner_in_the_other_branch (words 2) gaps ≡
    codes "1 M.....\n2 M.M...\n3 SS.M..\n4 SS..M.\n5 MM...M\n6 S.SM..\n7 M.S.M.\n8 SSS..M\n9 MSM...\n"
    ++ codes "10 SMSM..\n11 M.SSM.\n12 SSSS.M\n13 SSSM..\n14 SSS.M.\n15 SSS..M\n16 MSM...\n17 SMSM..\n18 M.SSM.\n"
unfolding digits add slice zext
port_of_an_owner_in_the_other_branch_view = refl

port_of_an_owner_in_the_other_branch_stages : accepted_line port_of_an_owner_in_the_other_branch ≡
    codes "accepted stages 6 depth 5\n"
unfolding digits add slice zext
port_of_an_owner_in_the_other_branch_stages = refl

port_of_an_owner_in_the_other_branch_threads : seq_lines port_of_an_owner_in_the_other_branch (words 2) 5 ≡
    codes "1 m 0 03\n2 m 0 0a\n3 m 0 11\n4 m 0 18\n5 m 0 03\nend threads 5\n"
unfolding digits add slice zext
port_of_an_owner_in_the_other_branch_threads = refl

-- a barrier looks as far as V, and no further
barrier_up_to_v_commits : run_lines barrier_up_to_v (words 1) (idle 18) ≡
    codes "4 m 0 03\n6 m 1 03\n8 m 2 03\n10 m 3 03\n12 m 0 03\n14 m 1 03\n16 m 2 03\n18 m 3 03\n"
    ++ codes "end cycles 18 ended 8 waits 0 squashes 0\n"
unfolding digits add slice zext
barrier_up_to_v_commits = refl

barrier_up_to_v_view : view_lines barrier_up_to_v (words 1) (idle 18) ≡
    codes "1 M...\n2 SM..\n3 M.M.\n4 SM.M\n5 M.M.\n6 SM.M\n7 M.M.\n8 SM.M\n9 M.M.\n10 SM.M\n11 M.M.\n12 SM.M\n"
    ++ codes "13 M.M.\n14 SM.M\n15 M.M.\n16 SM.M\n17 M.M.\n18 SM.M\n"
unfolding digits add slice zext
barrier_up_to_v_view = refl

barrier_up_to_v_stages : accepted_line barrier_up_to_v ≡
    codes "accepted stages 4 depth 4\n"
unfolding digits add slice zext
barrier_up_to_v_stages = refl

barrier_up_to_v_threads : seq_lines barrier_up_to_v (words 1) 5 ≡
    codes "1 m 0 03\n2 m 1 03\n3 m 2 03\n4 m 3 03\n5 m 0 03\nend threads 5\n"
unfolding digits add slice zext
barrier_up_to_v_threads = refl

-- in a pipe without verify it holds nobody up
barrier_without_v_commits : run_lines barrier_without_v (words 1) (idle 18) ≡
    codes "3 m 0 03\n4 m 1 03\n5 m 2 03\n6 m 3 03\n7 m 0 03\n8 m 1 03\n9 m 2 03\n10 m 3 03\n11 m 0 03\n"
    ++ codes "12 m 1 03\n13 m 2 03\n14 m 3 03\n15 m 0 03\n16 m 1 03\n17 m 2 03\n18 m 3 03\n"
    ++ codes "end cycles 18 ended 16 waits 0 squashes 0\n"
unfolding digits add slice zext
barrier_without_v_commits = refl

barrier_without_v_view : view_lines barrier_without_v (words 1) (idle 18) ≡
    codes "1 M..\n2 MM.\n3 MMM\n4 MMM\n5 MMM\n6 MMM\n7 MMM\n8 MMM\n9 MMM\n10 MMM\n11 MMM\n12 MMM\n13 MMM\n"
    ++ codes "14 MMM\n15 MMM\n16 MMM\n17 MMM\n18 MMM\n"
unfolding digits add slice zext
barrier_without_v_view = refl

barrier_without_v_stages : accepted_line barrier_without_v ≡
    codes "accepted stages 3 depth 3\n"
unfolding digits add slice zext
barrier_without_v_stages = refl

barrier_without_v_threads : seq_lines barrier_without_v (words 1) 5 ≡
    codes "1 m 0 03\n2 m 1 03\n3 m 2 03\n4 m 3 03\n5 m 0 03\nend threads 5\n"
unfolding digits add slice zext
barrier_without_v_threads = refl
