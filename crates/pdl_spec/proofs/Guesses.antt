-- Guesses that a path has made, with one place more.
use Rattle.std.proofs.Common.{◌≡◌, ◌∙◌, refl, sym, ap, ap₂, ℕ, Bool, true, false, ◌&&◌, ◌||◌, bytes_eq, List, [], ◌∷◌, ◌++◌, if◌then◌else◌}
use Rattle.std.specs.List.{list_any}
use Rattle.std.proofs.lemmas.List.Folds.{list_any-append}
use Rattle.std.proofs.Math.Bool.{or-false}
use Rattle.pdl_rules.specs.Places.{Place, Guard, on_path}
use Rattle.pdl_rules.specs.Stages.{stage_of}
use Rattle.pdl_rules.specs.Speculation.{guess_stages, is_guess_of, is_update}
use Rattle.pdl_rules_stages.proofs.PlaceStages.{that_more}
use Rattle.pdl_spec.specs.declared.updated_once.Guess as guess
use Rattle.pdl_spec.specs.Updated.{stages_of, AreGuessed}

-- the stages of the guesses of a name, with one guess more
pub one_guess : (name : List ℕ) (gs : List guess.Guess) (g : guess.Guess)
    → stages_of name (gs ++ g ∷ []) ≡ stages_of name gs ++ (if bytes_eq g.name name then g.stage ∷ [] else [])
one_guess name [] g = at (bytes_eq g.name name)
  where
    at : (b : Bool) → (if b then g.stage ∷ [] else []) ≡ [] ++ (if b then g.stage ∷ [] else [])
    at true = refl
    at false = refl
one_guess name (f ∷ gs) g = at (bytes_eq f.name name) (one_guess name gs g)
  where
    at : (b : Bool)
        → stages_of name (gs ++ g ∷ []) ≡ stages_of name gs ++ (if bytes_eq g.name name then g.stage ∷ [] else [])
        → (if b then f.stage ∷ stages_of name (gs ++ g ∷ []) else stages_of name (gs ++ g ∷ []))
        ≡ (if b then f.stage ∷ stages_of name gs else stages_of name gs) ++ (if bytes_eq g.name name then g.stage ∷ [] else [])
    at true e = ap (λ ns. f.stage ∷ ns) e
    at false e = e

-- a place on the path adds the guess that it makes, and is an `update` or none
pub passed_on : (path : List Guard) (before : List Place) (x : Place) (old new : List guess.Guess) (updated : Bool) (stage : ℕ)
    → on_path path x ≡ true → stage ≡ stage_of before x
    → ((name : List ℕ) → stages_of name new ≡ stages_of name old ++ (if is_guess_of name x then stage ∷ [] else []))
    → AreGuessed path before old updated → AreGuessed path (before ++ x ∷ []) new (updated || is_update x)
passed_on path before x old new updated stage is_on e added h = record {
  guessed = λ name.
      added name
      ∙ ap₂ (λ ns n. ns ++ (if is_guess_of name x then n ∷ [] else [])) (h.guessed name) e
      ∙ sym (that_more (λ y. on_path path y && is_guess_of name y) [] before x
      ∙ ap (λ b. guess_stages path before name ++ (if b && is_guess_of name x then stage_of before x ∷ [] else [])) is_on);
  passed =
      ap (λ b. b || is_update x) h.passed
      ∙ sym (list_any-append (λ y. on_path path y && is_update y) before (x ∷ [])
      ∙ ap₂ (λ a b. a || b) refl (or-false (on_path path x && is_update x) ∙ ap (λ b. b && is_update x) is_on));
}
