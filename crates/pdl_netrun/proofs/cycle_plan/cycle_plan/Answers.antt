use Rattle.std.proofs.Common.{◌∙◌, ap, arith, length, map}
use Rattle.std.proofs.lemmas.Grind.{common_steps}
use Rattle.pdl_net.specs.declared.Netlist.{Netlist}
use Rattle.pdl_net.specs.Circuit.{circuit_of, inputs_of}
use Rattle.pdl_netrun.specs.Order.{place, cell_at}
use Rattle.pdl_netrun.specs.Plan.{step_of_cell}
use Rattle.pdl_netrun.proofs.cycle_plan.cycle_plan.Goals as goal

pub returns : goal.returns
returns c =
    let n = c.args.n.now in
    let o = c.args.order.now in
    let e = c.requires.net in
    let r = c.requires.order.regs ∙ ap (λ (x : Netlist). length (inputs_of (circuit_of x))) e in
    record {
      first_reg = r;
      first_cell = (let l = c.len.ensures in grind (arith, common_steps, r, l));
      runs = c.in_ok-runs.ensures ∙ ap (λ (x : Netlist). map (λ i. step_of_cell (circuit_of n) o.places.items (cell_at (circuit_of x) i)) o.cells.items) e;
      nexts = c.in_ok-nexts.ensures ∙ ap (λ (x : Netlist). map (λ r. place (circuit_of x) o.places.items r.next) n.regs) e;
      writes = c.in_ok-writes.ensures;
    }
