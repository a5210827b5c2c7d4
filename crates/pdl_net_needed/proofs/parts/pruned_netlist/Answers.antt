use Rattle.std.proofs.Common.{map, ap, ◌∙◌}
use Rattle.std.proofs.lemmas.List.Elements.{same_from_all_zip}
use Rattle.pdl_net.specs.declared.Netlist.{Netlist}
use Rattle.pdl_net.specs.Circuit.{circuit_of}
use Rattle.pdl_net_needed.specs.Pruned.{kept_of, moved_port, moved_reg, moved_array, moved_cell, pruned}
use Rattle.pdl_net_needed.proofs.Copies.{same_mem, same_netlist}
use Rattle.pdl_net_needed.proofs.MarkedNets.{ports_marked, regs_marked, cells_marked, arrays_marked}
use Rattle.pdl_net_needed.proofs.parts.pruned_netlist.Goals as goal

pub ports-requires : goal.ports-requires
ports-requires c = ports_marked (circuit_of c.args.n.now) c.args.kept.now c.as_slice.result.now c.requires.well c.requires.kept c.as_slice.ensures

pub regs-requires-clause-within : goal.regs-requires-clause-within
regs-requires-clause-within c =
    regs_marked (circuit_of c.args.n.now) c.args.kept.now c.as_slice-2.result.now c.requires.well c.requires.kept c.as_slice-2.ensures

pub arrays-requires : goal.arrays-requires
arrays-requires c = arrays_marked (circuit_of c.args.n.now) c.args.kept.now c.as_slice-3.result.now c.requires.well c.requires.kept c.as_slice-3.ensures

pub cells-requires-clause-within : goal.cells-requires-clause-within
cells-requires-clause-within c =
    cells_marked (circuit_of c.args.n.now) c.args.kept.now c.as_slice-4.result.now c.requires.well c.requires.kept c.as_slice-4.ensures

pub returns : goal.returns
returns c =
    let p : Netlist =
    record {
      name = c.in_ok-name.name;
      ports = c.in_ok-ports.ports;
      regs = c.in_ok-regs.regs;
      arrays = c.in_ok-arrays.arrays;
      cells = c.in_ok-cells.cells;
      mems = c.in_ok-mems.mems;
    } in
    let k = c.args.kept.now in
    same_netlist p (pruned k c.args.n.now)
    c.in_ok-name.ensures.cases
    (c.in_ok-ports.ensures ∙ ap (map (moved_port k)) c.as_slice.ensures)
    (c.in_ok-regs.ensures ∙ ap (λ rs. map (moved_reg k) (kept_of k.regs rs)) c.as_slice-2.ensures)
    (c.in_ok-arrays.ensures ∙ ap (map (moved_array k)) c.as_slice-3.ensures)
    (c.in_ok-cells.ensures ∙ ap (λ gs. map (moved_cell k) (kept_of k.cells gs)) c.as_slice-4.ensures)
    (same_from_all_zip _ c.args.n.now.mems c.in_ok-mems.mems c.in_ok-mems.ensures.cases (λ x y r. same_mem x y r.0 r.1.0 r.1.1.0 r.1.1.1))
