-- What stands beside the stages of an emission holds as the law of a netlist asks for it.
use Rattle.std.proofs.Common.{refl}
use Rattle.pdl_port.specs.Laws as port_laws
use Rattle.pdl_order.specs.Laws as order_laws
use Rattle.pdl_law_sides.specs.HasSides.{HasSides}
use Rattle.pdl_pipe_walk.specs.Locked.{Members}
use Rattle.pdl_pipe_beside.specs.Parts.{own_at}
use Rattle.pdl_pipe_nexts.specs.Lines.{line_pipe}
use Rattle.pdl_pipe_emitted.specs.Emitted.{Nets, Emission, locks_of, views_of, moves_of, gates_of, sides_of}
use Rattle.pdl_pipe_emitted.proofs.SidesBegun.{begun_is}
use Rattle.pdl_pipe_emitted.proofs.SidesPorts.{ports_are, orders_are}
use Rattle.pdl_pipe_emitted.proofs.SidesRemoved.{removals_are, tails_are}

module _ {T : Type 0} (l : Members T) (n : Nets T) (em : Emission l n) where
  -- ports, orders, squashes and cuts are as the law asks, and the stages take their answers and go by their gates
  pub has_sides : HasSides (line_pipe n.line) (locks_of l n em) em.d (views_of l n em) (gates_of l n em) (moves_of l n em) (sides_of l n em)
  has_sides = record {
    begun = begun_is l n em;
    gate = λ k low s suits. refl;
    port_owns = own_at port_laws.own n.line.shared.now.ports.now;
    ports = ports_are l n em;
    order_owns = own_at order_laws.own n.orders;
    orders = orders_are l n em;
    removals = removals_are l n em;
    tails = tails_are l n em;
  }
