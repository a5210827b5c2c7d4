use Rattle.std.proofs.Common.{subst}
use Rattle.pdl_paths.specs.Actions.{place_view}
use Rattle.pdl_rules_on_texts.proofs.Nth.{all_taken}
use Rattle.pdl_rules_judge.specs.LimitLines.{AreLines}
use Rattle.pdl_rules_judge.proofs.limits.lines_of.Goals as goal

pub loop-k-init : goal.loop-k-init
loop-k-init c =
    let e = c.new-lines.ensures in
    record {
      lines = λ p. record { z2 = e.z2; z3 = e.z3; z4 = e.z4; z5 = e.z5; z6 = e.z6; z7 = e.z7 };
      counts = c.new-counts.ensures;
      guards = λ h. c.new-guards.ensures;
    }

pub loop-k-preserved : goal.loop-k-preserved
loop-k-preserved c =
    record { lines = λ p. c.with_place-lines.ensures.lines p (c.loop-k.invariant.lines p); counts = c.with-counts.ensures; guards = c.in_ok-add_guard.ensures }

pub add_guard-requires-clause-guards : goal.add_guard-requires-clause-guards
add_guard-requires-clause-guards c = λ e. c.loop-k.invariant.guards (c.with_place-lines.ensures.few e)

pub returns : goal.returns
returns c p = subst (λ xs. AreLines p xs c.loop-k.lines) (all_taken place_view c.args.places.now c.loop-k.k c.loop-k-test.false) (c.loop-k.invariant.lines p)
