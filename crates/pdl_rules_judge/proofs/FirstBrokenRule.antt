-- What is told by rules in their order is told by the first of them that is broken.
use Rattle.std.proofs.Common.{◌≡◌, refl, sym, ap, ◌∙◌, subst, List, ◌++◌, Option, Some, None, Result, Ok, Err, option_map}
use Rattle.pdl_kit.specs.declared.rule.Rule.{Rule}
use Rattle.pdl_kit.specs.declared.refusal.Refusal.{Refusal}
use Rattle.pdl_kit.specs.declared.refusal.Refusal.TheVariants.{Refused, NoMemory}
use Rattle.pdl_semantics.specs.Tree.{Pipe}
use Rattle.pdl_rules.specs.Refusal as rules
use Rattle.pdl_rules.specs.Refusal.{first_broken}
use Rattle.pdl_locks.specs.Plan.{Tells}
use Rattle.pdl_rules_judge.specs.OrderedRules.{Answers}
use Rattle.pdl_rules_judge.proofs.LowestRule.{after_kept, first_stays}

-- a rule that is broken refuses
pub told_some : {B : Type 0} (view : B → rules.Refused) (rs : List Rule) (p : Pipe) (b : B) (e : Refusal)
    → Some (view b) ≡ first_broken rs p → e ≡ Refused (view b).rule (view b).line → Tells rs p e
told_some view rs p b e h is = subst (Tells rs p) (sym is) (sym h)

-- the first rules refuse, whatever the others
pub first_tells : (rs others : List Rule) (p : Pipe) (e : Refusal) → Tells rs p e → Tells (rs ++ others) p e
first_tells rs others p (Refused rule line) h = first_stays rs others p (record { rule = rule; line = line }) h
first_tells rs others p NoMemory h = tt

-- after rules that are kept the others answer
pub then_answers : {T : Type 0} (rs others : List Rule) (p : Pipe) (r : Result T Refusal)
    → first_broken rs p ≡ None → Answers others p r → Answers (rs ++ others) p r
then_answers rs others p (Ok x) kept h = after_kept rs others p kept ∙ h
then_answers rs others p (Err (Refused rule line)) kept h = after_kept rs others p kept ∙ h
then_answers rs others p (Err NoMemory) kept h = tt
