use Rattle.std.proofs.Common.{ap, ◌∙◌, map}
use Rattle.pdl_paths.specs.Actions.{place_view}
use Rattle.pdl_paths.specs.Declarations.{memory}
use Rattle.pdl_paths.proofs.Walks.{pushed}
use Rattle.pdl_paths.proofs.walk.add_mems.Goals as goal

pub loop-mem-preserved : goal.loop-mem-preserved
unfolding memory
loop-mem-preserved c =
    ap (map place_view) c.in_ok-push.ensures.items
    ∙ pushed place_view memory _ _ _ _ _ _ c.loop-mem.invariant c.loop-mem-test.true c.mem-item.is c.bare.ensures
