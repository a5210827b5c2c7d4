use Rattle.std.proofs.Common.{◌++◌, ◌∙◌, ap₂, Vec, Global, arith, subst}
use Rattle.std.proofs.lemmas.Grind.{common_steps}
use Rattle.pdl_net.specs.declared.Netlist.{Netlist}
use Rattle.pdl_net.specs.Circuit.{circuit_of}
use Rattle.pdl_netrun.specs.declared.operation.CellKind.{CellKind}
use Rattle.pdl_netrun.specs.declared.operation.CellOperands.{CellOperands}
use Rattle.pdl_netrun.specs.Steps.{steps_with, steps_of}
use Rattle.pdl_netrun.specs.Order.{IsOrder}
use Rattle.pdl_netrun.proofs.PlanLemmas.{ordered_fits, runs_end}
use Rattle.pdl_netrun.proofs.plan.all_runs.Goals as goal

pub operands_of-operands-requires-clause-fits : goal.operands_of-operands-requires-clause-fits
operands_of-operands-requires-clause-fits c =
    let o = subst (λ (n : Netlist). IsOrder (circuit_of n) c.args.order.now.cells.items c.args.order.now.places.items) c.requires.net c.requires.order.order in
    ordered_fits
    (circuit_of c.args.n.now) c.args.order.now.cells.items c.args.order.now.places.items c.as_slice.result.now c.loop-j.j c.index.result.now c.requires.well o
    (grind (arith, common_steps))
    (grind (arith, common_steps)) c.as_slice.ensures

pub returns : goal.returns
returns c =
    let last = c.ended.result in
    runs_end c.loop-j.runs.items c.push.new.self.items last c.args.order.now.cells.items _ c.loop-j.j
    (grind (arith, common_steps))
    (ap₂ (λ (k : CellKind) (os : Vec CellOperands Global). steps_of c.loop-j.runs.items ++ steps_with k os.items)
    c.ended.ensures.kind c.ended.ensures.operands ∙ c.loop-j.invariant)
    (grind (arith, common_steps))
