use Rattle.pdl_lock_ring.proofs.Sizes.{few_bits}
use Rattle.pdl_lock_ring.proofs.youngest.emit_youngest.Goals as goal

pub emit_winner-requires-clause-bits : goal.emit_winner-requires-clause-bits
emit_winner-requires-clause-bits c = few_bits c.args.l c.requires.sized
