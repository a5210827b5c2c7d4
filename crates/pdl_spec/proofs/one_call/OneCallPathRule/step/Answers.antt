use Rattle.std.proofs.Common.{sym, ◌∙◌}
use Rattle.pdl_paths.specs.Actions.{place_view}
use Rattle.pdl_spec.specs.Called.{called, uncalled}
use Rattle.pdl_spec.proofs.one_call.OneCallPathRule.step.Goals as goal

pub returns-then-is_call : goal.returns-then-is_call
returns-then-is_call c gs path before later suits is_kth is_on stands =
    called path before (place_view c.args.place.now) is_on (sym c.is_call.ensures ∙ c.if-is_call.true)

pub returns : goal.returns
returns c gs path before later suits is_kth is_on stands =
    uncalled path before (place_view c.args.place.now) c.args.state.now is_on (sym c.is_call.ensures ∙ c.if-is_call.false) stands
