use Rattle.pdl_net.proofs.Keeps.{extends_trans}
use Rattle.pdl_port.proofs.PortGrowth.{bits_kept}
use Rattle.pdl_tests_of_parts.proofs.OneBit.{bits_as, port_kept}
use Rattle.pdl_tests_of_parts.proofs.sides.ports.emit_driven.Goals as goal

pub emit_port_free-requires-clause-placed : goal.emit_port_free-requires-clause-placed
emit_port_free-requires-clause-placed c =
    port_kept c.emit_port_state.new.b c.emit_drivers.new.b c.in_ok-regs.regs c.in_ok-regs.ensures.placed c.in_ok-step.ensures.extends

pub emit_port_free-requires-clause-moves : goal.emit_port_free-requires-clause-moves
emit_port_free-requires-clause-moves c = bits_as _ _ _ _ c.in_ok-step.ensures.step.moves c.in_ok-regs.ensures.count

pub emit_port_step-requires-clause-placed : goal.emit_port_step-requires-clause-placed
emit_port_step-requires-clause-placed c =
    let a = c.emit_port_state.new.b in
    let b = c.emit_drivers.new.b in
    let d = c.emit_port_free.new.b in
    port_kept a d c.in_ok-regs.regs c.in_ok-regs.ensures.placed (extends_trans a b d c.in_ok-step.ensures.extends c.in_ok-free.ensures.extends)

pub emit_port_step-requires-clause-asked : goal.emit_port_step-requires-clause-asked
emit_port_step-requires-clause-asked c =
    bits_as _ _ _ _
    (bits_kept c.emit_drivers.new.b c.emit_port_free.new.b _ _ c.in_ok-step.ensures.step.asked c.in_ok-free.ensures.extends) c.in_ok-regs.ensures.count

pub emit_port_step-requires-clause-moves : goal.emit_port_step-requires-clause-moves
emit_port_step-requires-clause-moves c =
    bits_as _ _ _ _
    (bits_kept c.emit_drivers.new.b c.emit_port_free.new.b _ _ c.in_ok-step.ensures.step.moves c.in_ok-free.ensures.extends) c.in_ok-regs.ensures.count

pub emit_port_step-requires-clause-removed : goal.emit_port_step-requires-clause-removed
emit_port_step-requires-clause-removed c =
    bits_as _ _ _ _
    (bits_kept c.emit_drivers.new.b c.emit_port_free.new.b _ _ c.in_ok-step.ensures.step.removed c.in_ok-free.ensures.extends) c.in_ok-regs.ensures.count
