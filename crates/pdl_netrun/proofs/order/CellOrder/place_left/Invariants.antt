use Rattle.std.proofs.Common.{ℕ, ◌<◌}
use Rattle.std.specs.Prelude.{slice_index}
use Rattle.pdl_netrun.specs.Order.{IsOrderOf, IsSameNet}
use Rattle.pdl_netrun.proofs.order.CellOrder.place_left.Given as goal

abbrev pub invariant-loop-k : goal.invariant-loop-k
invariant-loop-k l = record {
  order : IsOrderOf l.self;
  net : IsSameNet l.initial.self l.self;
  early : (j : ℕ) → j < l.k → slice_index l.self.places.items j < l.self.next;
}
