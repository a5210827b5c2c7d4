use Rattle.std.proofs.Common.{flat_map}
use Rattle.pdl_net.specs.declared.Port.{Port}
use Rattle.pdl_net.specs.Circuit.{circuit_of}
use Rattle.pdl_net_needed.specs.Needed.{shown_by}
use Rattle.pdl_net_needed.proofs.MarkedNets.{ports_within, arrays_within, marking_ready}
use Rattle.pdl_net_needed.proofs.marking.needed_marks.Goals as goal

pub need_ports-requires : goal.need_ports-requires
need_ports-requires c =
    ports_within (circuit_of c.args.n.now) c.in_ok-marking.marking c.as_slice.result.now c.requires c.in_ok-marking.ensures c.as_slice.ensures

pub need_arrays-requires : goal.need_arrays-requires
need_arrays-requires c =
    arrays_within (circuit_of c.args.n.now) c.in_ok-marking.marking c.need_ports.new.self c.as_slice-2.result.now
    (flat_map (λ (p : Port). shown_by p.dir) c.as_slice.result.now) c.requires c.in_ok-marking.ensures c.in_ok-need_ports.ensures c.as_slice-2.ensures

pub close-requires-clause-begun : goal.close-requires-clause-begun
close-requires-clause-begun c =
    marking_ready
    (circuit_of c.args.n.now) c.in_ok-marking.marking c.need_ports.new.self c.need_arrays.new.self c.as_slice.result.now c.as_slice-2.result.now c.in_ok-marking.ensures c.as_slice.ensures c.as_slice-2.ensures c.in_ok-need_ports.ensures c.in_ok-need_arrays.ensures
