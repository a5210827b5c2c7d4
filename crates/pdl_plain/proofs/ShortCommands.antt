-- What `clap` makes of the words after a command's name.
use Rattle.std.proofs.Common.{◌≡◌, refl, ◌∙◌, ℕ, List, [], ◌∷◌}
use Rattle.std.specs.Prelude.{unwrap_or, slice_get}
use Rattle.clap.specs.Walk.{Text, nothing_held}
use Rattle.clap.specs.Simple.{Shape, new_shape}
use Rattle.clap.specs.Faults.{walk_fault, defaults_fault}
use Rattle.pdl_cli_args.specs.Line.{check, seq, asm, build}
use Rattle.pdl_plain.specs.CommandLines.{AreUndashed, no_word, one_more, of_file, of_files, of_count, of_number}
use Rattle.pdl_plain.proofs.WordSteps.{after, on, stray, run_to}
use Rattle.pdl_plain.proofs.CommandStarts.{app}

-- the subcommand of a number
abbrev pub leaf : ℕ → Shape
leaf i = unwrap_or (slice_get app.subs i) (new_shape [])

-- `check`
pub check_words : (words : List Text) → AreUndashed words → run_to (leaf 0) nothing_held 1 words ≡ of_file check words
unfolding walk_fault defaults_fault
check_words [] no_word = refl
check_words (a ∷ []) (one_more a0 no_word) =
    on (leaf 0) nothing_held 1 2 a [] a0 refl refl
    ∙ refl
check_words (a ∷ b ∷ more) (one_more a0 (one_more b0 u)) =
    on (leaf 0) nothing_held 1 2 a (b ∷ more) a0 refl refl
    ∙ stray (leaf 0) (after (leaf 0) nothing_held 1 a) 2 b more b0 refl

-- `asm`
pub asm_words : (words : List Text) → AreUndashed words → run_to (leaf 3) nothing_held 1 words ≡ of_files asm words
unfolding walk_fault defaults_fault
asm_words [] no_word = refl
asm_words (a ∷ []) (one_more a0 no_word) =
    on (leaf 3) nothing_held 1 2 a [] a0 refl refl
    ∙ refl
asm_words (a ∷ b ∷ []) (one_more a0 (one_more b0 no_word)) =
    on (leaf 3) nothing_held 1 2 a (b ∷ []) a0 refl refl
    ∙ on (leaf 3) (after (leaf 3) nothing_held 1 a) 2 3 b [] b0 refl refl
    ∙ refl
asm_words (a ∷ b ∷ c ∷ more) (one_more a0 (one_more b0 (one_more c0 u))) =
    on (leaf 3) nothing_held 1 2 a (b ∷ c ∷ more) a0 refl refl
    ∙ on (leaf 3) (after (leaf 3) nothing_held 1 a) 2 3 b (c ∷ more) b0 refl refl
    ∙ stray (leaf 3) (after (leaf 3) (after (leaf 3) nothing_held 1 a) 2 b) 3 c more c0 refl

-- `gen`
pub gen_words : (words : List Text) → AreUndashed words → run_to (leaf 4) nothing_held 1 words ≡ of_number words
unfolding walk_fault defaults_fault
gen_words [] no_word = refl
gen_words (a ∷ []) (one_more a0 no_word) =
    on (leaf 4) nothing_held 1 2 a [] a0 refl refl
    ∙ refl
gen_words (a ∷ b ∷ more) (one_more a0 (one_more b0 u)) =
    on (leaf 4) nothing_held 1 2 a (b ∷ more) a0 refl refl
    ∙ stray (leaf 4) (after (leaf 4) nothing_held 1 a) 2 b more b0 refl

-- `build`
pub build_words : (words : List Text) → AreUndashed words → run_to (leaf 5) nothing_held 1 words ≡ of_file build words
unfolding walk_fault defaults_fault
build_words [] no_word = refl
build_words (a ∷ []) (one_more a0 no_word) =
    on (leaf 5) nothing_held 1 2 a [] a0 refl refl
    ∙ refl
build_words (a ∷ b ∷ more) (one_more a0 (one_more b0 u)) =
    on (leaf 5) nothing_held 1 2 a (b ∷ more) a0 refl refl
    ∙ stray (leaf 5) (after (leaf 5) nothing_held 1 a) 2 b more b0 refl

-- `seq`
pub seq_words : (words : List Text) → AreUndashed words → run_to (leaf 2) nothing_held 1 words ≡ of_count seq words
unfolding walk_fault defaults_fault
seq_words [] no_word = refl
seq_words (a ∷ []) (one_more a0 no_word) =
    on (leaf 2) nothing_held 1 2 a [] a0 refl refl
    ∙ refl
seq_words (a ∷ b ∷ []) (one_more a0 (one_more b0 no_word)) =
    on (leaf 2) nothing_held 1 2 a (b ∷ []) a0 refl refl
    ∙ on (leaf 2) (after (leaf 2) nothing_held 1 a) 2 3 b [] b0 refl refl
    ∙ refl
seq_words (a ∷ b ∷ c ∷ []) (one_more a0 (one_more b0 (one_more c0 no_word))) =
    on (leaf 2) nothing_held 1 2 a (b ∷ c ∷ []) a0 refl refl
    ∙ on (leaf 2) (after (leaf 2) nothing_held 1 a) 2 3 b (c ∷ []) b0 refl refl
    ∙ on (leaf 2) (after (leaf 2) (after (leaf 2) nothing_held 1 a) 2 b) 3 4 c [] c0 refl refl
    ∙ refl
seq_words (a ∷ b ∷ c ∷ d ∷ more) (one_more a0 (one_more b0 (one_more c0 (one_more d0 u)))) =
    on (leaf 2) nothing_held 1 2 a (b ∷ c ∷ d ∷ more) a0 refl refl
    ∙ on (leaf 2) (after (leaf 2) nothing_held 1 a) 2 3 b (c ∷ d ∷ more) b0 refl refl
    ∙ on (leaf 2) (after (leaf 2) (after (leaf 2) nothing_held 1 a) 2 b) 3 4 c (d ∷ more) c0 refl refl
    ∙ stray (leaf 2) (after (leaf 2) (after (leaf 2) (after (leaf 2) nothing_held 1 a) 2 b) 3 c) 4 d more d0 refl
