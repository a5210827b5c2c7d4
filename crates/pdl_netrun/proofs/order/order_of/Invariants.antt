use Rattle.std.proofs.Common.{◌≡◌, length}
use Rattle.pdl_netrun.specs.Order.{IsOrderOf}
use Rattle.pdl_netrun.proofs.order.order_of.Given as goal

abbrev pub invariant-loop : goal.invariant-loop
invariant-loop l = record {
  order : IsOrderOf l.order;
  net : l.order.net.now ≡ l.net;
  run : length l.run.items ≡ length l.net.cells;
}
