-- What S6 asks on a path.
use Rattle.std.proofs.Common.{◌≡◌, ◌∙◌, sym, ap, ℕ, Bool, true, false, not, ◌&&◌, ◌||◌, nat_lt, bytes_eq, List, [], ◌∷◌, ◌++◌, if◌then◌else◌, append-nil, Option}
use Rattle.std.specs.List.{list_any}
use Rattle.std.proofs.lemmas.List.Folds.{list_any-append}
use Rattle.std.proofs.Math.Bool.{or-false}
use Rattle.pdl_rules.specs.Places.{Place, Guard, at_statement, on_path}
use Rattle.pdl_rules.specs.Forms.{updates}
use Rattle.pdl_rules.specs.Parts.{is_some_and}
use Rattle.pdl_rules.specs.Stages.{stage_in, stage_of, stages_that}
use Rattle.pdl_rules.specs.Speculation.{guess_stages, is_guess_of, is_update}
use Rattle.pdl_rules_stages.proofs.PlaceStages.{that_more}
use Rattle.pdl_spec.specs.declared.updated_once.Guess as guess

-- whether an `update` of a guess, in stage k, isn't after the stage of its `spec_call`, isn't before the stage that verifies, or is the path's second one
abbrev pub is_out_of_turn : Option ℕ → List Guard → List Place → ℕ → List ℕ → Bool
is_out_of_turn verified path before k name =
    list_any (λ j. not (nat_lt j k)) (guess_stages path before name)
    || is_some_and (λ v. not (nat_lt k v)) verified
    || list_any (λ y. on_path path y && is_update y) before

-- on this path, in a pipe that verifies in this stage
abbrev pub breaks_updated : Option ℕ → List Guard → List Place → Place → Bool
breaks_updated verified path before x =
    at_statement false (λ s bs. updates (λ g. is_out_of_turn verified path before (stage_in before bs) g.name) s) x

-- the stages of the guesses of this name
abbrev pub stages_of : List ℕ → List guess.Guess → List ℕ
stages_of name [] = []
stages_of name (g ∷ gs) = if bytes_eq g.name name then g.stage ∷ stages_of name gs else stages_of name gs

-- the guesses are those of the path at these places, and the flag says whether an `update` of it stands among them
pub record AreGuessed (path : List Guard) (before : List Place) (guesses : List guess.Guess) (updated : Bool) : Type 0 where
  pub guessed : (name : List ℕ) → stages_of name guesses ≡ guess_stages path before name
  pub passed : updated ≡ list_any (λ y. on_path path y && is_update y) before

-- a place that isn't on the path changes nothing
pub passed_over : (path : List Guard) (before : List Place) (x : Place) (guesses : List guess.Guess) (updated : Bool)
    → on_path path x ≡ false → AreGuessed path before guesses updated
    → AreGuessed path (before ++ x ∷ []) guesses updated
passed_over path before x guesses updated off h = record {
  guessed = λ name.
      h.guessed name
      ∙ sym (that_more (λ y. on_path path y && is_guess_of name y) [] before x
      ∙ ap (λ b. guess_stages path before name ++ (if b && is_guess_of name x then stage_of before x ∷ [] else [])) off
      ∙ append-nil (guess_stages path before name));
  passed =
      h.passed
      ∙ sym (list_any-append (λ y. on_path path y && is_update y) before (x ∷ [])
      ∙ ap (λ b. list_any (λ y. on_path path y && is_update y) before || ((b && is_update x) || false)) off
      ∙ or-false (list_any (λ y. on_path path y && is_update y) before));
}
