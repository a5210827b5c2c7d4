use Rattle.std.proofs.Common.{arith}
use Rattle.pdl_lock_ring.proofs.SlotWidths.{power_above}
use Rattle.pdl_lock_ring.proofs.look.emit_oldest_slot.Goals as goal

pub emit_shifted-requires-clause-few : goal.emit_shifted-requires-clause-few
emit_shifted-requires-clause-few c = let h = power_above c.args.l.size in omega (arith, h, c.requires.sized.some)
