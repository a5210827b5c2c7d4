use Rattle.pdl_lock_ring.proofs.youngest.+emit_winner.Given as goal

abbrev pub decreases-emit_winner : goal.decreases-emit_winner
decreases-emit_winner l = l.bits
