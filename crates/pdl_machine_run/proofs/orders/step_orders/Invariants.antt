use Rattle.std.proofs.Common.{◌≡◌, ◌++◌, ℕ, take, drop}
use Rattle.pdl_form.specs.FormView.{form}
use Rattle.pdl_machine_run.specs.View.{order_views}
use Rattle.pdl_machine_run.specs.Acts.{acts_of}
use Rattle.pdl_machine_run.specs.Orders.{orders_after}
use Rattle.pdl_machine_run.specs.Ready.{AreOrders}
use Rattle.pdl_machine_run.proofs.orders.step_orders.Given as goal

-- the orders so far have stepped, the others are as they were
abbrev pub invariant-loop-f : goal.invariant-loop-f
invariant-loop-f l =
    record {
      done : order_views (take l.f l.orders) ++ orders_after (form l.pipe).pipe (acts_of 0 l.stages) l.f (order_views (drop l.f l.initial.orders))
          ≡ orders_after (form l.pipe).pipe (acts_of 0 l.stages) 0 (order_views l.initial.orders);
      left : drop l.f l.orders ≡ drop l.f l.initial.orders;
      long : (n : ℕ) → AreOrders n l.initial.orders → AreOrders n l.orders;
    }
