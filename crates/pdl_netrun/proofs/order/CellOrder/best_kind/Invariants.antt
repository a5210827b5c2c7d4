use Rattle.std.proofs.Common.{◌≡◌, length}
use Rattle.pdl_netrun.proofs.order.CellOrder.best_kind.Given as goal

abbrev pub invariant-loop-kind : goal.invariant-loop-kind
invariant-loop-kind l = length l.run ≡ length l.initial.run
