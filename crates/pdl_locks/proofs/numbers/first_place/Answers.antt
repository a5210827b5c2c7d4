use Rattle.std.proofs.Common.{◌≡◌, sym, ◌∙◌, ◌+◌, map, drop, arith}
use Rattle.pdl_syntax_tree.specs.View.{location_view}
use Rattle.pdl_paths.specs.Actions.{place_view}
use Rattle.pdl_locks.specs.Numbers.{is_at, first_place}
use Rattle.pdl_locks.proofs.FirstMatch.{is_first, is_later}
use Rattle.pdl_locks.proofs.numbers.first_place.Goals as goal

pub returns-then-is_at : goal.returns-then-is_at
returns-then-is_at c =
    let at = location_view c.args.at.now in
    let ps = c.args.places.now in
    let k = c.loop-place.place-index in
    let none : first_place c.args.keys at (map place_view (drop k ps)) ≡ 0 =
    is_first (is_at c.args.keys at) place_view ps k c.place-item.result c.loop-place-test.true c.place-item.is (sym c.is_at.ensures ∙ c.if-is_at.true) in
    omega (arith, c.loop-place.invariant.0, none)

pub loop-place-preserved : goal.loop-place-preserved
loop-place-preserved c =
    let at = location_view c.args.at.now in
    let ps = c.args.places.now in
    let k = c.loop-place.place-index in
    let one : first_place c.args.keys at (map place_view (drop k ps)) ≡ 1 + first_place c.args.keys at (map place_view (drop (k + 1) ps)) =
    is_later (is_at c.args.keys at) place_view ps k c.place-item.result c.loop-place-test.true c.place-item.is (sym c.is_at.ensures ∙ c.if-is_at.false) in
    (omega (arith, c.loop-place.invariant.0, one), omega (arith, c.loop-place.invariant.1))
