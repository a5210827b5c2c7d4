use Rattle.std.proofs.Common.{◌∙◌, ap, map, is_some}
use Rattle.std.proofs.lemmas.Bool.{true≢false}
use Rattle.pdl_paths.specs.Actions.{place_view}
use Rattle.pdl_rules_judge.proofs.GuardSteps.{guards_next}
use Rattle.pdl_rules_judge.proofs.limits.add_guard.Goals as goal
use Rattle.pdl_rules_on_paths.proofs.Nth.{nth}

pub returns-then-is_some : goal.returns-then-is_some
returns-then-is_some c = λ e. absurd (true≢false (c.if-is_some.ensures ∙ ap is_some e))

pub returns : goal.returns
returns c = λ e.
    guards_next (map place_view c.args.places.now) c.args.k (place_view c.index-places-k.result) _ _
    (nth place_view c.args.places.now c.args.k c.index-places-k.result c.requires.here c.index-places-k.is) c.in_ok-add.ensures.ok (c.requires.guards e)
