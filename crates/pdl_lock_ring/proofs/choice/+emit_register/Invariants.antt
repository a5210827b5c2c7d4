use Rattle.pdl_lock_ring.proofs.choice.+emit_register.Given as goal

abbrev pub decreases-emit_register : goal.decreases-emit_register
decreases-emit_register l = l.bits
