use Rattle.pdl_net.proofs.Keeps.{extends_keeps}
use Rattle.pdl_tests_of_parts.proofs.locks.bench.emit_looks.Goals as goal

pub emit_look-requires-2-clause-placed : goal.emit_look-requires-2-clause-placed
emit_look-requires-2-clause-placed g c =
    let a = c.args.b.now in
    let b = c.emit_look.new.b in
    g.met.L.LockModule.stays c.args.lock.now a b c.args.regs.now (extends_keeps a b c.in_ok-read.ensures.extends) c.requires.placed
