use Rattle.std.proofs.Common.{map}
use Rattle.pdl_paths.specs.Actions.{place_view}
use Rattle.pdl_paths.specs.Guards.{branch_view}
use Rattle.pdl_rules_judge.proofs.ForkCounts.{outer_stage}
use Rattle.pdl_rules_judge.proofs.fork_rules.is_in_outer_stage.Goals as goal

pub returns : goal.returns
returns c =
    outer_stage branch_view (map place_view c.args.before.now) c.args.branches.now c.is_empty.result c.stage_in.result c.stage_in-2.result
    c.is_empty.ensures c.if-is_empty.false c.stage_in.ensures c.stage_in-2.ensures
