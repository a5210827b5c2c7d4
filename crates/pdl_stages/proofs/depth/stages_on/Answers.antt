use Rattle.std.proofs.Common.{sym, length}
use Rattle.pdl_form.specs.View.{stages_view}
use Rattle.pdl_stages.specs.Graph.{of_stages}
use Rattle.pdl_stages.proofs.Depths.{stage_passed}
use Rattle.pdl_stages.proofs.depth.stages_on.Goals as goal

pub loop-count-preserved : goal.loop-count-preserved
loop-count-preserved c =
    stage_passed (of_stages (stages_view c.args.all.now)) c.args.path.now c.loop-count.count
    (length c.args.all.now) c.loop-count.stage c.in-Some.next _ c.loop-count-test.true
    (sym c.in-Some.ensures) c.loop-count.invariant
