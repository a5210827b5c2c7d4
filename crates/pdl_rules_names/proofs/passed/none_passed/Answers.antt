use Rattle.std.proofs.Common.{ap, ◌∙◌, length, get_or, ◌+◌, arith}
use Rattle.pdl_rules_names.proofs.LastSeparator.{none_last, zeros_more, length_more}
use Rattle.pdl_rules_names.proofs.passed.none_passed.Goals as goal

pub loop-path-init : goal.loop-path-init
loop-path-init c = (ap length c.new-last.ensures.items, λ b. ap (λ xs. get_or xs b 0) c.new-last.ensures.items)

pub loop-path-preserved : goal.loop-path-preserved
loop-path-preserved c = (
  ap length c.in_ok-push.ensures.items ∙ length_more c.loop-path.last.items 0 ∙ ap (λ n. n + 1) c.loop-path.invariant.0,
  λ b. ap (λ xs. get_or xs b 0) c.in_ok-push.ensures.items ∙ zeros_more c.loop-path.last.items c.loop-path.invariant.1 b,
)

pub returns : goal.returns
returns c =
    none_last c.args.guards.now c.loop-path.last.items
    (omega (arith, c.loop-path.invariant.0, c.loop-path-test.false, c.loop-path.auto._path-end, c.path_count-path-end.ensures)) c.loop-path.invariant.1
