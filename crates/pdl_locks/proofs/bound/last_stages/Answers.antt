use Rattle.std.proofs.Common.{ap₂, ◌∙◌, [], ◌∷◌, ◌++◌}
use Rattle.pdl_syntax_tree.specs.View.{pipe_view}
use Rattle.pdl_paths.specs.Actions.{place_view}
use Rattle.pdl_locks.specs.Bound.{last_at}
use Rattle.pdl_locks.proofs.FirstMatch.{one_more}
use Rattle.pdl_locks.proofs.bound.last_stages.Goals as goal

pub loop-place-preserved : goal.loop-place-preserved
loop-place-preserved c =
    let ps = c.args.places.now in
    c.in_ok-push.ensures.items
    ∙ ap₂ (λ ns n. ns ++ n ∷ []) c.loop-place.invariant c.last_stage.ensures
    ∙ one_more (last_at (pipe_view c.args.pipe.now)) place_view ps c.loop-place.place-index c.place-item.result c.loop-place-test.true c.place-item.is
