use Rattle.std.proofs.Common.{sym, ◌∙◌}
use Rattle.pdl_net_needed.specs.Needed.{no_cell}
use Rattle.pdl_net_needed.specs.Pruned.{moved_cell}
use Rattle.pdl_net_needed.proofs.Counts.{kept_more, kept_fewer}
use Rattle.pdl_net_needed.proofs.parts.cells.Goals as goal
use Rattle.pdl_net_needed.proofs.parts.cells.Goals.{then-has_cell+in_ok-push, else-has_cell}

pub loop-i-preserved : goal.loop-i-preserved
loop-i-preserved c = elim c.if-has_cell.branch [
  | then-has_cell+in_ok-push w ↦ (
      let e =
      kept_more
      (moved_cell c.args.kept.now) c.args.kept.now.cells c.args.cells.now c.loop-i.i no_cell c.loop-i-test.true
      (sym c.has_cell.ensures ∙ w.if-has_cell.true) in
      cc (w.moved-is, w.in_ok-push.ensures.ok, c.loop-i.invariant, w.cell.ensures, e))
  | else-has_cell w ↦ (
      let e = kept_fewer (moved_cell c.args.kept.now) c.args.kept.now.cells c.args.cells.now c.loop-i.i (sym c.has_cell.ensures ∙ w.if-has_cell.false) in
      cc (w.moved-is, c.loop-i.invariant, e))
]
