use Rattle.std.proofs.Common.{sym, ◌∙◌}
use Rattle.pdl_net.specs.Circuit.{no_reg}
use Rattle.pdl_net_needed.specs.Pruned.{moved_reg}
use Rattle.pdl_net_needed.proofs.Counts.{kept_more, kept_fewer}
use Rattle.pdl_net_needed.proofs.parts.regs.Goals as goal
use Rattle.pdl_net_needed.proofs.parts.regs.Goals.{then-has_reg+in_ok-push, else-has_reg}

pub loop-i-preserved : goal.loop-i-preserved
loop-i-preserved c = elim c.if-has_reg.branch [
  | then-has_reg+in_ok-push w ↦ (
      let e =
      kept_more
      (moved_reg c.args.kept.now) c.args.kept.now.regs c.args.regs.now c.loop-i.i no_reg c.loop-i-test.true
      (sym c.has_reg.ensures ∙ w.if-has_reg.true) in
      cc (w.moved-is, w.in_ok-push.ensures.ok, c.loop-i.invariant, w.reg.ensures, e))
  | else-has_reg w ↦ (
      let e = kept_fewer (moved_reg c.args.kept.now) c.args.kept.now.regs c.args.regs.now c.loop-i.i (sym c.has_reg.ensures ∙ w.if-has_reg.false) in
      cc (w.moved-is, c.loop-i.invariant, e))
]
