use Rattle.std.proofs.Common.{ap, sym, ◌∙◌, []}
use Rattle.pdl_rules.specs.Places.{with_guard}
use Rattle.pdl_paths.specs.Actions.{place_view}
use Rattle.pdl_paths.proofs.Walks.{folded}
use Rattle.pdl_paths.proofs.guards.Guards.of.Goals as goal

pub loop-place-preserved : goal.loop-place-preserved
loop-place-preserved c =
    c.in_ok-add.ensures.ok
    ∙ ap (λ gs. with_guard gs (place_view c.place-item.result)) c.loop-place.invariant
    ∙ sym (folded with_guard [] place_view _ _ _ c.loop-place-test.true c.place-item.is)
