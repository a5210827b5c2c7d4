use Rattle.pdl_pipe.proofs.NamedParts.{adds_none, adds_more}
use Rattle.pdl_pipe.proofs.beside_names.name_locks.Goals as goal

pub loop-mem-init : goal.loop-mem-init
loop-mem-init g c = adds_none c.args.b.now c.args.line.now c.args.names.now.items

pub loop-mem-preserved : goal.loop-mem-preserved
loop-mem-preserved g c =
    adds_more c.args.b.now c.args.line.now c.args.names.now.items c.loop-mem.names.items c.name_lock.new.names.items
    c.loop-mem.invariant c.in_ok-name_lock.ensures
