use Rattle.std.proofs.Common.{◌∙◌, ap, [], is_some}
use Rattle.pdl_syntax_tree.specs.View.{pipe_view}
use Rattle.pdl_rules.specs.Places.{places}
use Rattle.pdl_rules.specs.Speculation.{is_update}
use Rattle.pdl_rules.proofs.FirstPlaces.{first_somewhere}
use Rattle.pdl_check.proofs.accepted.Accepted.spec.Goals as goal

pub returns-clause-updated : goal.returns-clause-updated
returns-clause-updated c =
    ap (λ plan. is_some plan.updated) c.args.self.now.checked ∙ first_somewhere is_update [] (places (pipe_view c.args.self.now.typed.pipe))
