use Rattle.std.proofs.Common.{◌≤◌, ◌^◌, ap, sym, ◌∙◌, subst, map, take, length, arith}
use Rattle.std.proofs.Math.Pow.{pow_mono}
use Rattle.pdl_syntax_tree.specs.View.{pipe_view}
use Rattle.pdl_rules.specs.Places.{places, guards}
use Rattle.pdl_paths.specs.Actions.{place_view}
use Rattle.pdl_paths.specs.Masks.{IsMasked}
use Rattle.pdl_paths.proofs.DistinctGuards.{guards_distinct}
use Rattle.pdl_rules_names.specs.Ready.{AreLast, AreMarked}
use Rattle.pdl_rules_names.proofs.LastSeparator.{all_kept, all_marked}
use Rattle.pdl_rules_names.proofs.rules.TooEarlyTextRule.step.Goals as goal
use Rattle.pdl_rules_on_paths.proofs.Nth.{nth, take_next, taken_length}

pub separator_passed-requires : goal.separator_passed-requires
separator_passed-requires c =
    let n = length (guards (places (pipe_view c.args.self.now.pipe.now))) in
    let most : 2 ^ n ≤ 2 ^ 10 = pow_mono {i = n} {j = 10} c.requires.fits.1.few in
    let same = ap length c.as_slice.ensures.value in
    omega (arith, same, c.requires.stands.count, most)

pub returns-then-not-is_separator : goal.returns-then-not-is_separator
returns-then-not-is_separator c =
    let gs = guards (places (pipe_view c.args.self.now.pipe.now)) in
    let xs = map place_view c.args.places.now in
    let k = c.args.k in
    let y = place_view c.index-places-k.result in
    let got = nth place_view c.args.places.now k c.index-places-k.result c.requires.here c.index-places-k.is in
    subst (λ ys. AreLast gs ys c.args.state.now.items) (take_next xs k y got)
    (all_kept gs (take k xs) y c.args.state.now.items (sym c.if-not-is_separator.ensures) c.requires.stands)

pub returns : goal.returns
returns c =
    let ys = places (pipe_view c.args.self.now.pipe.now) in
    let gs = guards ys in
    let xs = map place_view c.args.places.now in
    let k = c.args.k in
    let r = c.index-places-k.result in
    let y = place_view r in
    let got = nth place_view c.args.places.now k r c.requires.here c.index-places-k.is in
    let masked = subst (λ q. IsMasked gs q) (sym c.index-places-k.is) (c.requires.fits.1.masks k r c.requires.here) in
    let many = ap length c.as_slice.ensures.value ∙ c.requires.stands.count in
    let marked = c.in_ok-passed.ensures gs masked (guards_distinct ys) c.requires.fits.1.few many in
    subst (λ zs. AreLast gs zs c.in_ok-passed.passed.items) (take_next xs k y got)
    (all_marked gs (take k xs) y c.args.state.now.items c.in_ok-passed.passed.items k (sym c.if-not-is_separator.ensures) (taken_length xs k y got)
    (subst (λ last. AreMarked gs y k last c.in_ok-passed.passed.items) c.as_slice.ensures.value marked) c.requires.stands)
