-- What the sequential meaning prints for written pipes.
use Rattle.std.proofs.Common.{◌≡◌, refl, ℕ, List, [], ◌∷◌, ◌++◌, codes}
use Rattle.std.specs.Fmt.{digits}
use Rattle.pdl_word.specs.Words.{add, slice, zext}
use Rattle.pdl_semantics.specs.Lines.{sequential_lines, seq_lines}
use Rattle.pdl_semantics.proofs.Pipes.{one_stage, guess, guess_learnt, copy, two_branches}

-- four words that are all 0
abbrev pub zeros : List ℕ
zeros = 0 ∷ 0 ∷ 0 ∷ 0 ∷ []

three_cycles : sequential_lines one_stage (zeros ∷ []) 3 ≡
    codes "1 m 0 00\n2 m 1 01\n3 m 2 02\nend cycles 3 ended 3 waits 0 squashes 0\n"
unfolding digits add slice zext
three_cycles = refl

no_cycle : sequential_lines one_stage (zeros ∷ []) 0 ≡ codes "end cycles 0 ended 0 waits 0 squashes 0\n"
unfolding digits
no_cycle = refl

-- the arguments wrap at 4 bits
seventeen_cycles : sequential_lines one_stage (zeros ∷ []) 17 ≡
    codes "1 m 0 00\n2 m 1 01\n3 m 2 02\n4 m 3 03\n5 m 0 04\n6 m 1 05\n7 m 2 06\n8 m 3 07\n"
    ++ codes "9 m 0 08\n10 m 1 09\n11 m 2 0a\n12 m 3 0b\n13 m 0 0c\n14 m 1 0d\n15 m 2 0e\n16 m 3 0f\n17 m 0 00\n"
    ++ codes "end cycles 17 ended 17 waits 0 squashes 0\n"
unfolding digits add slice zext
seventeen_cycles = refl

two_threads : seq_lines one_stage (zeros ∷ []) 2 ≡ codes "1 m 0 00\n2 m 1 01\nend threads 2\n"
unfolding digits add slice zext
two_threads = refl

-- guesses leave no trace
three_guesses : seq_lines (guess 2) (zeros ∷ []) 3 ≡ codes "1 m 0 00\n2 m 2 02\n3 m 0 04\nend threads 3\n"
unfolding digits add slice zext
three_guesses = refl

-- nor does advice
three_learnt : seq_lines guess_learnt ((2 ∷ 0 ∷ 7 ∷ 0 ∷ []) ∷ zeros ∷ []) 3 ≡ codes "1 m 0 00\n2 m 2 02\n3 m 0 04\nend threads 3\n"
unfolding digits add slice zext
three_learnt = refl

three_copies : seq_lines copy ((10 ∷ 11 ∷ 12 ∷ 0 ∷ []) ∷ zeros ∷ []) 3 ≡ codes "1 m 0 0a\n2 m 1 0b\n3 m 2 0c\nend threads 3\n"
unfolding digits add slice zext
three_copies = refl

four_threads : seq_lines two_branches (zeros ∷ []) 4 ≡ codes "1 m 0 00\n2 m 1 01\n3 m 2 02\n4 m 3 03\nend threads 4\n"
unfolding digits add slice zext
four_threads = refl
