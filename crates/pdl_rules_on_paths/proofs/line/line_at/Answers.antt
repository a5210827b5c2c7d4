use Rattle.std.proofs.Common.{ap, sym, ◌∙◌, Some, option_map, arith}
use Rattle.pdl_rules.specs.Places.{line_of}
use Rattle.pdl_paths.specs.Actions.{place_view}
use Rattle.pdl_rules_on_paths.proofs.Nth.{nth, past_end}
use Rattle.pdl_rules_on_paths.proofs.line.line_at.Goals as goal

pub returns-then-k-places : goal.returns-then-k-places
returns-then-k-places c =
    ap Some c.line.ensures
    ∙ sym
    (ap (option_map line_of) (nth place_view c.args.places.now c.args.k c.index-places-k.result (omega (arith, c.if-k-places.true)) c.index-places-k.is))

pub returns-else-k-places : goal.returns-else-k-places
returns-else-k-places c =
    sym (ap (option_map line_of) (past_end place_view c.args.places.now c.args.k (omega (arith, c.if-k-places.false))))
