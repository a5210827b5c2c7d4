use Rattle.pdl_lock_ring.proofs.Rows.{value_has_no_place}
use Rattle.pdl_lock_ring.proofs.state.emit_layout.Goals as goal

pub emit_registers-requires-clause-places : goal.emit_registers-requires-clause-places
emit_registers-requires-clause-places c = λ e. absurd (value_has_no_place e)
