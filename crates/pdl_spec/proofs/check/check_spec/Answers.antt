use Rattle.std.proofs.Common.{◌∙◌, [], ap}
use Rattle.pdl_rules.specs.Speculation.{is_verify}
use Rattle.pdl_rules.specs.Stages.{first_stage}
use Rattle.pdl_spec.proofs.check.check_spec.Goals as goal

pub spec_lines-requires-clause-verified : goal.spec_lines-requires-clause-verified
spec_lines-requires-clause-verified c = c.first_stage-verified.ensures ∙ ap (first_stage is_verify []) c.requires.of

pub plan_spec-requires-clause-verified : goal.plan_spec-requires-clause-verified
plan_spec-requires-clause-verified c = c.first_stage-verified.ensures ∙ ap (first_stage is_verify []) c.requires.of
