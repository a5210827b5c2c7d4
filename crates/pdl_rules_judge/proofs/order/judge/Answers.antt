use Rattle.std.proofs.Common.{◌≡◌, ap, ◌∙◌, map}
use Rattle.pdl_syntax_tree.specs.View.{pipe_view}
use Rattle.pdl_rules.specs.Places.{places}
use Rattle.pdl_rules.specs.Refusal.{limits, after_limits}
use Rattle.pdl_paths.specs.Actions.{place_view}
use Rattle.pdl_rules_judge.proofs.FirstBrokenRule.{first_tells, then_answers}
use Rattle.pdl_rules_judge.proofs.order.judge.Goals as goal

pub within-requires : goal.within-requires
within-requires c =
    let of : map place_view c.as_slice.result.now ≡ places (pipe_view c.args.pipe.now) =
    ap (map place_view) c.as_slice.ensures.value ∙ c.in_ok-places.ensures in
    record { kept = c.in-Ok.ensures (pipe_view c.args.pipe.now) of; of = c.in_ok-places.ensures }

pub returns-in-Ok-clause-answers : goal.returns-in-Ok-clause-answers
returns-in-Ok-clause-answers c =
    let of : map place_view c.as_slice.result.now ≡ places (pipe_view c.args.pipe.now) =
    ap (map place_view) c.as_slice.ensures.value ∙ c.in_ok-places.ensures in
    then_answers limits after_limits (pipe_view c.args.pipe.now) c.within.result (c.in-Ok.ensures (pipe_view c.args.pipe.now) of) c.within.ensures.answers

pub returns-in-Err-clause-answers : goal.returns-in-Err-clause-answers
returns-in-Err-clause-answers c =
    let of : map place_view c.as_slice.result.now ≡ places (pipe_view c.args.pipe.now) =
    ap (map place_view) c.as_slice.ensures.value ∙ c.in_ok-places.ensures in
    first_tells limits after_limits (pipe_view c.args.pipe.now) c.in-Err.refusal (c.in-Err.ensures (pipe_view c.args.pipe.now) of)
