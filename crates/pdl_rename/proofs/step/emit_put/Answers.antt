use Rattle.pdl_lock_ring.proofs.Sizes.{few_bits}
use Rattle.pdl_rename.proofs.step.emit_put.Goals as goal

pub emit_register-requires-clause-bits : goal.emit_register-requires-clause-bits
emit_register-requires-clause-bits c = few_bits c.args.l.slots c.requires.given.sized
