use Rattle.std.proofs.Common.{sym, ◌∙◌}
use Rattle.pdl_rules.specs.Forks.{breaks_fetch_order}
use Rattle.pdl_paths.specs.Actions.{place_view}
use Rattle.pdl_rules_judge.proofs.ForkCounts.{any_found, any_passed}
use Rattle.pdl_rules_judge.proofs.fork_rules.is_fetched.Goals as goal

pub returns-then-is_fetch_of : goal.returns-then-is_fetch_of
returns-then-is_fetch_of c =
    any_found
    (breaks_fetch_order c.args.memory.now) place_view c.args.before.now c.loop-place.place-index c.place-item.result _ c.loop-place-test.true c.place-item.is
    (sym c.is_fetch_of.ensures ∙ c.if-is_fetch_of.true) c.loop-place.invariant

pub loop-place-preserved : goal.loop-place-preserved
loop-place-preserved c =
    any_passed
    (breaks_fetch_order c.args.memory.now) place_view c.args.before.now c.loop-place.place-index c.place-item.result _ c.loop-place-test.true c.place-item.is
    (sym c.is_fetch_of.ensures ∙ c.if-is_fetch_of.false) c.loop-place.invariant
