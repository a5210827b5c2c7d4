use Rattle.std.proofs.Common.{ap₂, ◌∙◌, [], ◌∷◌, ◌++◌, map}
use Rattle.pdl_paths.specs.Actions.{place_view}
use Rattle.pdl_locks.specs.Numbers.{number_at}
use Rattle.pdl_locks.proofs.FirstMatch.{one_more}
use Rattle.pdl_locks.proofs.numbers.first_places.Goals as goal

pub loop-place-preserved : goal.loop-place-preserved
loop-place-preserved c =
    let ps = c.args.places.now in
    c.in_ok-push.ensures.items
    ∙ ap₂ (λ ns n. ns ++ n ∷ []) c.loop-place.invariant c.number_at.ensures
    ∙ one_more (number_at c.args.keys (map place_view ps)) place_view ps c.loop-place.place-index c.place-item.result c.loop-place-test.true c.place-item.is
