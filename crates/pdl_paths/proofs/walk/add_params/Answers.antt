use Rattle.std.proofs.Common.{ap, ◌∙◌, map}
use Rattle.pdl_paths.specs.Actions.{place_view}
use Rattle.pdl_paths.specs.Declarations.{parameter}
use Rattle.pdl_paths.proofs.Walks.{pushed}
use Rattle.pdl_paths.proofs.walk.add_params.Goals as goal

pub loop-param-preserved : goal.loop-param-preserved
unfolding parameter
loop-param-preserved c =
    ap (map place_view) c.in_ok-push.ensures.items
    ∙ pushed place_view parameter _ _ _ _ _ _ c.loop-param.invariant c.loop-param-test.true c.param-item.is c.bare.ensures
