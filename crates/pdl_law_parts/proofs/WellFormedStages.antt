-- A pipe that breaks no rule has at most 64 stages.
use Rattle.std.proofs.Common.{◌≡◌, refl, sym, ap, ◌∙◌, subst, ◌+◌, ◌≤◌, Bool, true, false, ◌&&◌, ◌==◌, List, [], ◌∷◌, ◌++◌, map, length, count_by, arith, append_assoc, append-nil}
use Rattle.std.proofs.lemmas.Bool.{eqb-false}
use Rattle.pdl_kit.specs.declared.rule.Rule.TheVariants.{Z3}
use Rattle.pdl_semantics.specs.Tree.{Pipe}
use Rattle.pdl_semantics.specs.Flatten.{flat}
use Rattle.pdl_rules.specs.Places.{Place, Parameter, Memory, End, StartClause, places, statements}
use Rattle.pdl_rules.specs.Limits.{is_separator, breaks_z3}
use Rattle.pdl_rules.specs.Refusal.{KeepsRules}
use Rattle.pdl_rules.proofs.EachPlace.{Each, each_from}
use Rattle.pdl_rules.proofs.SingleWrites.{weight, count_push}
use Rattle.pdl_source_stages.proofs.Walks.{cut, cut_append, cut_all}
use Rattle.pdl_source_stages.proofs.BodyShape.{body_forked, stage_count}

-- a place that is not a 64th separator
abbrev IsShort : List Place → Place → Type 0
IsShort before x = breaks_z3 before x ≡ false

one_more : (before : List Place) (x : Place) → IsShort before x → cut before ≤ 63 → cut (before ++ x ∷ []) ≤ 63
one_more before x short low = at (is_separator x) refl short
  where
    at : (b : Bool) → is_separator x ≡ b → (b && (count_by is_separator before == 63)) ≡ false → cut (before ++ x ∷ []) ≤ 63
    at true e h =
        let not_yet : (cut before ≡ 63) → ⊥ = λ t. eqb-false (count_by is_separator before) 63 h t in
        let more : cut (before ++ x ∷ []) ≡ cut before + 1 = count_push is_separator before x ∙ ap (λ b. count_by is_separator before + weight b) e in
        omega (arith, more, low, not_yet)
    at false e h =
        let same : cut (before ++ x ∷ []) ≡ cut before + 0 = count_push is_separator before x ∙ ap (λ b. count_by is_separator before + weight b) e in
        omega (arith, same, low)

few_cuts : (xs before : List Place) → Each IsShort before xs → cut before ≤ 63 → cut (before ++ xs) ≤ 63
few_cuts [] before each low = subst (λ l. cut l ≤ 63) (sym (append-nil before)) low
few_cuts (x ∷ xs) before each low =
    subst (λ l. cut l ≤ 63) (append_assoc before (x ∷ []) xs) (few_cuts xs (before ++ x ∷ []) each.1 (one_more before x each.0 low))

-- the flat form of a pipe that keeps the rules has at most 64 stages
pub few_stages : (p : Pipe) → KeepsRules p → length (flat p).stages ≤ 64
few_stages p rules =
    let front = map Parameter p.params ++ map Memory p.mems in
    let body = statements [] p.body in
    let all : cut (places p) ≤ 63 = few_cuts (places p) [] (each_from IsShort (places p) [] (λ before x later e. rules Z3 before x later e)) (omega arith) in
    let ends = cut_append (front ++ body) (End p.end ∷ StartClause p.start ∷ []) in
    let inner = cut_append front body in
    let cuts = cut_all [] p.body in
    let count = stage_count p (body_forked p rules) in
    omega (arith, all, ends, inner, cuts, count)
