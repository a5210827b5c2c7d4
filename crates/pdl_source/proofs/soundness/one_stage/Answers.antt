use Rattle.std.proofs.Common.{◌≡◌, refl, ap, ap₂, ◌∙◌, suc, ◌+◌, true, length}
use Rattle.std.specs.Prelude.{IsTrue}
use Rattle.std.specs.List.{list_all}
use Rattle.std.proofs.lemmas.Bool.{false≢true, and_parts}
use Rattle.pdl_semantics.specs.Tree.{Stmt, Separator, If, Stmts, Nil, Cons, Pipe}
use Rattle.pdl_semantics.specs.Flatten.{flat, separators, separators_in}
use Rattle.pdl_rules.specs.Refusal.{KeepsRules, is_straight, all_straight, answers_at_once, is_one_stage}
use Rattle.pdl_source_stages.proofs.BodyShape.{body_forked, stage_count}
use Rattle.pdl_source_paths.proofs.PipeFacts.{of_source}
use Rattle.pdl_theory.proofs.OneStages.{same_lines}
use Rattle.pdl_source.proofs.soundness.one_stage.Goals as goal

-- a straight statement holds no separator, so a pipe of such has one stage
none_in : (s : Stmt) → is_straight s ≡ true → separators_in s ≡ 0
none_in (Separator sp) h = absurd (false≢true h)
none_in (If sp c when otherwise) h = absurd (false≢true h)
none_in s h = refl

none : (ss : Stmts) → all_straight ss ≡ true → separators ss ≡ 0
none Nil h = refl
none (Cons s ss) h =
    let parts = and_parts (is_straight s) (all_straight ss) h in
    ap₂ (λ a b. a + b) (none_in s parts.0) (none ss parts.1)

one_long : (p : Pipe) → KeepsRules p → IsTrue (is_one_stage p) → length (flat p).stages ≡ 1
one_long p rules one = stage_count p (body_forked p rules) ∙ ap suc (none p.body (and_parts (all_straight p.body) (list_all answers_at_once p.mems) one).0)

pub returns : goal.returns
returns c = λ p rules source names one. same_lines p (of_source p rules source names) (one_long p rules one)
