use Rattle.std.proofs.Common.{◌≡◌, length}
use Rattle.pdl_netrun.proofs.order.CellOrder.all_changes.Given as goal

abbrev pub invariant-loop-i : goal.invariant-loop-i
invariant-loop-i l = length l.changes.items ≡ length l.self.net.now.cells
