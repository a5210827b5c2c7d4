-- What `clap` makes of the words after the name of a command that runs.
use Rattle.std.proofs.Common.{◌≡◌, refl, ◌∙◌, List, [], ◌∷◌, None}
use Rattle.clap.specs.Walk.{Text, nothing_held}
use Rattle.clap.specs.Faults.{walk_fault, defaults_fault}
use Rattle.pdl_cli_args.specs.Line.{run, sim, wave, view}
use Rattle.pdl_plain.specs.CommandLines.{AreUndashed, no_word, one_more, of_count}
use Rattle.pdl_plain.proofs.WordSteps.{after, on, stray, run_to}
use Rattle.pdl_plain.proofs.ShortCommands.{leaf}

-- `run`
pub run_words : (words : List Text) → AreUndashed words → run_to (leaf 1) nothing_held 1 words ≡ of_count (λ source image cycles. run source image cycles None) words
unfolding walk_fault defaults_fault
run_words [] no_word = refl
run_words (a ∷ []) (one_more a0 no_word) =
    on (leaf 1) nothing_held 1 2 a [] a0 refl refl
    ∙ refl
run_words (a ∷ b ∷ []) (one_more a0 (one_more b0 no_word)) =
    on (leaf 1) nothing_held 1 2 a (b ∷ []) a0 refl refl
    ∙ on (leaf 1) (after (leaf 1) nothing_held 1 a) 2 3 b [] b0 refl refl
    ∙ refl
run_words (a ∷ b ∷ c ∷ []) (one_more a0 (one_more b0 (one_more c0 no_word))) =
    on (leaf 1) nothing_held 1 2 a (b ∷ c ∷ []) a0 refl refl
    ∙ on (leaf 1) (after (leaf 1) nothing_held 1 a) 2 3 b (c ∷ []) b0 refl refl
    ∙ on (leaf 1) (after (leaf 1) (after (leaf 1) nothing_held 1 a) 2 b) 3 4 c [] c0 refl refl
    ∙ refl
run_words (a ∷ b ∷ c ∷ d ∷ more) (one_more a0 (one_more b0 (one_more c0 (one_more d0 u)))) =
    on (leaf 1) nothing_held 1 2 a (b ∷ c ∷ d ∷ more) a0 refl refl
    ∙ on (leaf 1) (after (leaf 1) nothing_held 1 a) 2 3 b (c ∷ d ∷ more) b0 refl refl
    ∙ on (leaf 1) (after (leaf 1) (after (leaf 1) nothing_held 1 a) 2 b) 3 4 c (d ∷ more) c0 refl refl
    ∙ stray (leaf 1) (after (leaf 1) (after (leaf 1) (after (leaf 1) nothing_held 1 a) 2 b) 3 c) 4 d more d0 refl

-- `sim`
pub sim_words : (words : List Text) → AreUndashed words → run_to (leaf 6) nothing_held 1 words ≡ of_count (λ netlist image cycles. sim netlist image cycles None) words
unfolding walk_fault defaults_fault
sim_words [] no_word = refl
sim_words (a ∷ []) (one_more a0 no_word) =
    on (leaf 6) nothing_held 1 2 a [] a0 refl refl
    ∙ refl
sim_words (a ∷ b ∷ []) (one_more a0 (one_more b0 no_word)) =
    on (leaf 6) nothing_held 1 2 a (b ∷ []) a0 refl refl
    ∙ on (leaf 6) (after (leaf 6) nothing_held 1 a) 2 3 b [] b0 refl refl
    ∙ refl
sim_words (a ∷ b ∷ c ∷ []) (one_more a0 (one_more b0 (one_more c0 no_word))) =
    on (leaf 6) nothing_held 1 2 a (b ∷ c ∷ []) a0 refl refl
    ∙ on (leaf 6) (after (leaf 6) nothing_held 1 a) 2 3 b (c ∷ []) b0 refl refl
    ∙ on (leaf 6) (after (leaf 6) (after (leaf 6) nothing_held 1 a) 2 b) 3 4 c [] c0 refl refl
    ∙ refl
sim_words (a ∷ b ∷ c ∷ d ∷ more) (one_more a0 (one_more b0 (one_more c0 (one_more d0 u)))) =
    on (leaf 6) nothing_held 1 2 a (b ∷ c ∷ d ∷ more) a0 refl refl
    ∙ on (leaf 6) (after (leaf 6) nothing_held 1 a) 2 3 b (c ∷ d ∷ more) b0 refl refl
    ∙ on (leaf 6) (after (leaf 6) (after (leaf 6) nothing_held 1 a) 2 b) 3 4 c (d ∷ more) c0 refl refl
    ∙ stray (leaf 6) (after (leaf 6) (after (leaf 6) (after (leaf 6) nothing_held 1 a) 2 b) 3 c) 4 d more d0 refl

-- `wave`
pub wave_words : (words : List Text) → AreUndashed words → run_to (leaf 7) nothing_held 1 words ≡ of_count (λ source image cycles. wave source image cycles None) words
unfolding walk_fault defaults_fault
wave_words [] no_word = refl
wave_words (a ∷ []) (one_more a0 no_word) =
    on (leaf 7) nothing_held 1 2 a [] a0 refl refl
    ∙ refl
wave_words (a ∷ b ∷ []) (one_more a0 (one_more b0 no_word)) =
    on (leaf 7) nothing_held 1 2 a (b ∷ []) a0 refl refl
    ∙ on (leaf 7) (after (leaf 7) nothing_held 1 a) 2 3 b [] b0 refl refl
    ∙ refl
wave_words (a ∷ b ∷ c ∷ []) (one_more a0 (one_more b0 (one_more c0 no_word))) =
    on (leaf 7) nothing_held 1 2 a (b ∷ c ∷ []) a0 refl refl
    ∙ on (leaf 7) (after (leaf 7) nothing_held 1 a) 2 3 b (c ∷ []) b0 refl refl
    ∙ on (leaf 7) (after (leaf 7) (after (leaf 7) nothing_held 1 a) 2 b) 3 4 c [] c0 refl refl
    ∙ refl
wave_words (a ∷ b ∷ c ∷ d ∷ more) (one_more a0 (one_more b0 (one_more c0 (one_more d0 u)))) =
    on (leaf 7) nothing_held 1 2 a (b ∷ c ∷ d ∷ more) a0 refl refl
    ∙ on (leaf 7) (after (leaf 7) nothing_held 1 a) 2 3 b (c ∷ d ∷ more) b0 refl refl
    ∙ on (leaf 7) (after (leaf 7) (after (leaf 7) nothing_held 1 a) 2 b) 3 4 c (d ∷ more) c0 refl refl
    ∙ stray (leaf 7) (after (leaf 7) (after (leaf 7) (after (leaf 7) nothing_held 1 a) 2 b) 3 c) 4 d more d0 refl

-- `view`
pub view_words : (words : List Text) → AreUndashed words → run_to (leaf 8) nothing_held 1 words ≡ of_count (λ source image cycles. view source image cycles None) words
unfolding walk_fault defaults_fault
view_words [] no_word = refl
view_words (a ∷ []) (one_more a0 no_word) =
    on (leaf 8) nothing_held 1 2 a [] a0 refl refl
    ∙ refl
view_words (a ∷ b ∷ []) (one_more a0 (one_more b0 no_word)) =
    on (leaf 8) nothing_held 1 2 a (b ∷ []) a0 refl refl
    ∙ on (leaf 8) (after (leaf 8) nothing_held 1 a) 2 3 b [] b0 refl refl
    ∙ refl
view_words (a ∷ b ∷ c ∷ []) (one_more a0 (one_more b0 (one_more c0 no_word))) =
    on (leaf 8) nothing_held 1 2 a (b ∷ c ∷ []) a0 refl refl
    ∙ on (leaf 8) (after (leaf 8) nothing_held 1 a) 2 3 b (c ∷ []) b0 refl refl
    ∙ on (leaf 8) (after (leaf 8) (after (leaf 8) nothing_held 1 a) 2 b) 3 4 c [] c0 refl refl
    ∙ refl
view_words (a ∷ b ∷ c ∷ d ∷ more) (one_more a0 (one_more b0 (one_more c0 (one_more d0 u)))) =
    on (leaf 8) nothing_held 1 2 a (b ∷ c ∷ d ∷ more) a0 refl refl
    ∙ on (leaf 8) (after (leaf 8) nothing_held 1 a) 2 3 b (c ∷ d ∷ more) b0 refl refl
    ∙ on (leaf 8) (after (leaf 8) (after (leaf 8) nothing_held 1 a) 2 b) 3 4 c (d ∷ more) c0 refl refl
    ∙ stray (leaf 8) (after (leaf 8) (after (leaf 8) (after (leaf 8) nothing_held 1 a) 2 b) 3 c) 4 d more d0 refl
