use Rattle.std.proofs.Common.{arith}
use Rattle.std.proofs.lemmas.Grind.{common_steps}
use Rattle.pdl_netrun.proofs.Orders.{order_next}
use Rattle.pdl_netrun.proofs.order.CellOrder.place_cell.Goals as goal

pub returns-clause-order : goal.returns-clause-order
returns-clause-order c =
    let o = c.requires.order in
    record {
      regs = o.regs;
      next = grind (arith, common_steps);
      arrays = o.arrays;
      order =
          order_next _ _ _ _ c.args.k c.args.self.now.next o.order c.requires.there c.requires.new o.next c.requires.ready (omega arith)
          (grind (arith, common_steps));
    }
