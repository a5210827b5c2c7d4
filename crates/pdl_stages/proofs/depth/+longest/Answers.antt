use Rattle.std.proofs.Common.{sym, ◌∙◌}
use Rattle.pdl_form.specs.View.{stages_view}
use Rattle.pdl_stages.specs.Graph.{of_stages}
use Rattle.pdl_stages.proofs.Depths.{over_again}
use Rattle.pdl_stages.proofs.depth.+longest.Goals as goal

pub longest_over-returns-then-contains-clause-value : goal.longest_over-returns-then-contains-clause-value
longest_over-returns-then-contains-clause-value t c =
    c.longest-then-contains.ensures.value
    ∙ over_again (of_stages (stages_view c.args.all.now)) c.args.path.now c.args.x c.args.rest.now (sym c.contains.ensures.value ∙ c.if-contains.true)
