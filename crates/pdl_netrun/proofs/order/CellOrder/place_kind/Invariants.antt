use Rattle.pdl_netrun.specs.Order.{IsOrderOf, IsSameNet}
use Rattle.pdl_netrun.proofs.order.CellOrder.place_kind.Given as goal

abbrev pub invariant-loop-k : goal.invariant-loop-k
invariant-loop-k l = record {
  order : IsOrderOf l.self;
  net : IsSameNet l.initial.self l.self;
}
