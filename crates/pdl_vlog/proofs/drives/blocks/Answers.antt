use Rattle.std.proofs.Common.{◌∙◌}
use Rattle.pdl_vlog.proofs.Steps.{block_more}
use Rattle.pdl_vlog.proofs.drives.blocks.Goals as goal

pub loop-r-preserved : goal.loop-r-preserved
loop-r-preserved c = block_more _ _ _ _ _ _ c.loop-r-test.true c.in_ok-block.ensures ∙ c.loop-r.invariant
