-- What doesn't hang on the path, out of the rules.
use Rattle.std.proofs.Common.{◌≡◌, refl, ap, ◌∙◌, ℕ, Bool, true, false, not, ◌&&◌, ◌||◌, List, [], ◌∷◌, filter, Option}
use Rattle.std.specs.List.{list_any}
use Rattle.std.proofs.Math.Bool.{and-false}
use Rattle.pdl_kit.specs.declared.rule.Rule.TheVariants.{S4, S5, S6}
use Rattle.pdl_semantics.specs.Tree.{Pipe}
use Rattle.pdl_rules.specs.Places.{Guard, on_path, guards, places, paths}
use Rattle.pdl_rules.specs.Stages.{stage_of}
use Rattle.pdl_rules.specs.Speculation.{verify_stage, releases_unsure, needs_check, is_checked, breaks_s4, breaks_s5}
use Rattle.pdl_rules.specs.Refusal.{broken_line}
use Rattle.pdl_rules_on_paths.specs.Lowest.{line_where, on_some}
use Rattle.pdl_rules_on_paths.proofs.Lines.{rule_lines, same_lines}
use Rattle.pdl_spec.specs.Sure.{is_before, breaks_sure}
use Rattle.pdl_spec.specs.Checked.{breaks_checked}
use Rattle.pdl_spec.specs.Updated.{breaks_updated}

none : (f : List Guard → Bool) (ps : List (List Guard)) → list_any (λ p. f p && false) ps ≡ false
none f [] = refl
none f (p ∷ ps) = ap (λ b. b || list_any (λ q. f q && false) ps) (and-false (f p)) ∙ none f ps

pulled : (a : Bool) (f g : List Guard → Bool) (ps : List (List Guard))
    → list_any (λ p. f p && (a && g p)) ps ≡ (a && list_any (λ p. f p && g p) ps)
pulled true f g ps = refl
pulled false f g ps = none f ps

-- the first line that breaks S4 is the same where a rule with the verifies' stage is asked path by path
pub sure_lines : (p : Pipe) (verified : Option ℕ)
    → verified ≡ verify_stage p
    → line_where (on_some (breaks_sure verified) (guards (places p))) [] (places p) ≡ broken_line S4 p [] (places p)
sure_lines p verified e =
    ap (λ v. line_where (on_some (breaks_sure v) (guards (places p))) [] (places p)) e
    ∙ same_lines (on_some (breaks_sure (verify_stage p)) (guards (places p))) (breaks_s4 p)
    (λ before x. pulled (is_before (verify_stage p) (stage_of before x)) (λ path. on_path path x)
    (λ path. releases_unsure (filter (on_path path) before) x) (paths p))
    [] (places p)
    ∙ rule_lines S4 p [] (places p)

-- the first line that breaks S5 is the same where a rule with the verifies' stage is asked path by path
pub checked_lines : (p : Pipe) (verified : Option ℕ)
    → verified ≡ verify_stage p
    → line_where (on_some (breaks_checked verified) (guards (places p))) [] (places p) ≡ broken_line S5 p [] (places p)
checked_lines p verified e =
    ap (λ v. line_where (on_some (breaks_checked v) (guards (places p))) [] (places p)) e
    ∙ same_lines (on_some (breaks_checked (verify_stage p)) (guards (places p))) (breaks_s5 p)
    (λ before x.
    pulled (needs_check x && is_before (verify_stage p) (stage_of before x)) (λ path. on_path path x)
    (λ path. not (is_checked path before (stage_of before x))) (paths p))
    [] (places p)
    ∙ rule_lines S5 p [] (places p)

-- the first line that breaks S6 is the same where a rule with the verifies' stage is asked path by path
pub updated_lines : (p : Pipe) (verified : Option ℕ)
    → verified ≡ verify_stage p
    → line_where (on_some (breaks_updated verified) (guards (places p))) [] (places p) ≡ broken_line S6 p [] (places p)
updated_lines p verified e = ap (λ v. line_where (on_some (breaks_updated v) (guards (places p))) [] (places p)) e ∙ rule_lines S6 p [] (places p)
