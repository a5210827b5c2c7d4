use Rattle.std.proofs.Common.{arith, rules, subst, sym}
use Rattle.pdl_net.specs.declared.Netlist.{Netlist}
use Rattle.pdl_net.specs.Circuit.{circuit_of}
use Rattle.pdl_net.specs.Well.{IsWell}
use Rattle.pdl_netrun.proofs.Orders.{reads_before}
use Rattle.pdl_netrun.proofs.order.CellOrder.place_left.Goals as goal

pub place_cell-requires-clause-ready : goal.place_cell-requires-clause-ready
place_cell-requires-clause-ready c =
    let v = c.loop-k.invariant in
    let w = subst (λ (n : Netlist). IsWell (circuit_of n)) (sym v.net) c.requires.well in
    reads_before (circuit_of c.loop-k.self.net.now) c.loop-k.self.places.items c.loop-k.k c.loop-k.self.next w (search rules)
    (let e = v.order.next in omega (arith, e)) v.early
