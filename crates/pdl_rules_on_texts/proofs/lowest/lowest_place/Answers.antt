use Rattle.std.proofs.Common.{sym, ◌∙◌, map, arith}
use Rattle.pdl_paths.specs.Actions.{place_view}
use Rattle.pdl_rules_on_paths.specs.Lowest.{breaks_at}
use Rattle.pdl_rules_on_texts.proofs.FirstMatch.{found_at, found_nowhere}
use Rattle.pdl_rules_on_texts.proofs.lowest.lowest_place.Goals as goal
use Rattle.pdl_rules_on_paths.proofs.Steps.{one_place}

pub loop-k-init : goal.loop-k-init
loop-k-init g c = (c.in_ok-state.ensures, λ j l. absurd (omega arith))

pub loop-k-preserved : goal.loop-k-preserved
loop-k-preserved g c =
    let test = breaks_at (g.R.TextRule.breaks_on c.args.rule.now) (map place_view c.args.places.now) in (
      c.in_ok-step.ensures,
      one_place test c.loop-k.k c.loop-k.invariant.1 (sym {b = test c.loop-k.k} c.breaks.ensures ∙ c.if-breaks.false),
    )

pub returns-then-breaks : goal.returns-then-breaks
returns-then-breaks g c =
    let test = breaks_at (g.R.TextRule.breaks_on c.args.rule.now) (map place_view c.args.places.now) in
    found_at test _ c.loop-k.k c.loop-k-test.true (sym {b = test c.loop-k.k} c.breaks.ensures ∙ c.if-breaks.true) c.loop-k.invariant.1

pub returns : goal.returns
returns g c =
    let test = breaks_at (g.R.TextRule.breaks_on c.args.rule.now) (map place_view c.args.places.now) in
    found_nowhere test _ c.loop-k.k (omega (arith, c.loop-k-test.false, c.loop-k.auto.k-end)) c.loop-k.invariant.1
