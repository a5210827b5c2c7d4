-- Written pipes that keep the rules have what both theorems take; and trees that no source gives, for which the premises on sources are needed.
use Rattle.std.proofs.Common.{◌≡◌, refl, Bool, true, false, List, [], ◌∷◌, ◌++◌, None}
use Rattle.pdl_semantics.specs.Tree.{Pipe}
use Rattle.pdl_semantics.specs.Flat.{Arrays}
use Rattle.pdl_semantics.specs.Flatten.{flat}
use Rattle.pdl_semantics.specs.Promises.{Refines}
use Rattle.pdl_semantics.proofs.Texts.{constant, variable, slice, separator, bind, call, if_else, pipe}
use Rattle.pdl_semantics.proofs.Pipes.{shared_guard, copy_guessed, count_slow, two_branches, guess_learnt, guess_kept}
use Rattle.pdl_rules.specs.Refusal.{first_broken, limits, after_limits}
use Rattle.pdl_rules.proofs.Unbroken.{keeps_unbroken}
use Rattle.pdl_theory_turns.specs.SoundChecks.{passes_tests}
use Rattle.pdl_theory.proofs.SoundExamples.{passed_by}
use Rattle.pdl_theory.proofs.StatedTheorems.{whole_refines}
use Rattle.pdl_source_paths.specs.Source.{is_source, is_named}
use Rattle.pdl_source_paths.proofs.PipeFacts.{of_source}

-- it is refused by no rule and is as sources are
abbrev rules_of : Pipe → Type 0
rules_of p = (first_broken (limits ++ after_limits) p ≡ None) × (is_source p ≡ true) × (is_named p ≡ true)

guards_keep : rules_of shared_guard
guards_keep = (refl, refl, refl)

branches_keep : rules_of two_branches
branches_keep = (refl, refl, refl)

slow_keeps : rules_of count_slow
slow_keeps = (refl, refl, refl)

guesses_keep : rules_of copy_guessed
guesses_keep = (refl, refl, refl)

passed_keeps : rules_of passed_by
passed_keeps = (refl, refl, refl)

passed_refines : (image : Arrays) (schedule : List (List Bool)) → Refines (flat passed_by) image schedule
passed_refines = whole_refines (flat passed_by) (of_source passed_by (keeps_unbroken passed_by refl) refl refl)

-- with an advisory memory
learnt_keeps : rules_of guess_learnt
learnt_keeps = (refl, refl, refl)

kept_keeps : rules_of guess_kept
kept_keeps = (refl, refl, refl)

learnt_refines : (image : Arrays) (schedule : List (List Bool)) → Refines (flat guess_learnt) image schedule
learnt_refines = whole_refines (flat guess_learnt) (of_source guess_learnt (keeps_unbroken guess_learnt refl) refl refl)

-- two `if`s on expressions at one byte: one guard for the rules, two in the flat form, so none calls where they differ
abbrev at_one_byte : Pipe
at_one_byte = pipe 2 [] (if_else (slice "n" 0 0) (call (variable "n") ∷ []) [] ∷ if_else (slice "n" 1 1) [] (call (variable "n") ∷ []) ∷ [])

one_byte_kept : (first_broken (limits ++ after_limits) at_one_byte ≡ None) × (is_named at_one_byte ≡ true)
one_byte_kept = (refl, refl)

one_byte_unsound : (is_source at_one_byte ≡ false) × (passes_tests (flat at_one_byte) ≡ false)
one_byte_unsound = (refl, refl)

-- a variable with the empty name: its number is that of a guard of the other branch
abbrev without_name : Pipe
without_name =
    pipe 2 [] (bind "g" (slice "n" 0 0) ∷ call (variable "n")
    ∷ if_else (variable "g") (separator ∷ if_else (slice "n" 1 1) [] [] ∷ [])
    (bind "" (slice "n" 0 0) ∷ if_else (variable "") (bind "y" (constant 1 1) ∷ []) [] ∷ [])
    ∷ separator ∷ [])

without_name_kept : (first_broken (limits ++ after_limits) without_name ≡ None) × (is_source without_name ≡ true)
without_name_kept = (refl, refl)

without_name_unsound : (is_named without_name ≡ false) × (passes_tests (flat without_name) ≡ false)
without_name_unsound = (refl, refl)
