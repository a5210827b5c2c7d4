use Rattle.std.proofs.Common.{◌≡◌, ◌≤◌, ◌-◌, [], replicate}
use Rattle.std.specs.Prelude.{vec_len}
use Rattle.pdl_machine_run.specs.View.{order_views}
use Rattle.pdl_machine_run.specs.Ready.{AreOrders}
use Rattle.pdl_machine_run.proofs.setup.no_orders.Given as goal

-- those so far are empty
abbrev pub invariant-loop-alloc : goal.invariant-loop-alloc
invariant-loop-alloc l =
    record {
      none : order_views l.orders.items ≡ replicate (vec_len l.orders) [];
      few : vec_len l.orders ≤ l.count;
      long : AreOrders l.count l.orders.items;
    }

abbrev pub decreases-loop-alloc : goal.decreases-loop-alloc
decreases-loop-alloc l = l.count - vec_len l.orders
