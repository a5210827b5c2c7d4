use Rattle.pdl_net.specs.Growth.{Extends}
use Rattle.pdl_net.proofs.Keeps.{extends_trans, extends_keeps}
use Rattle.pdl_lockapi.proofs.Sequential.{no_ports_kept}
use Rattle.pdl_tests_of_parts.proofs.locks.bench.emit_lock.Goals as goal

pub emit_looks-requires-clause-placed : goal.emit_looks-requires-clause-placed
emit_looks-requires-clause-placed g c =
    let b1 = c.emit_state.new.b in
    let b2 = c.emit_look_drive.new.b in
    let b3 = c.emit_port_drive.new.b in
    let x : Extends b1 b3 = extends_trans b1 b2 b3 c.in_ok-looks.ensures.extends c.in_ok-ports.ensures.extends in
    g.met.L.LockModule.stays c.args.lock.now b1 b3 c.in_ok-regs.regs (extends_keeps b1 b3 x) c.in_ok-regs.ensures.placed

pub emit_step-requires-clause-placed : goal.emit_step-requires-clause-placed
emit_step-requires-clause-placed g c =
    let b1 = c.emit_state.new.b in
    let b2 = c.emit_look_drive.new.b in
    let b3 = c.emit_port_drive.new.b in
    let b4 = c.emit_looks.new.b in
    let x : Extends b1 b4 =
    extends_trans b1 b3 b4 (extends_trans b1 b2 b3 c.in_ok-looks.ensures.extends c.in_ok-ports.ensures.extends) c.in_ok-read.ensures.extends in
    g.met.L.LockModule.stays c.args.lock.now b1 b4 c.in_ok-regs.regs (extends_keeps b1 b4 x) c.in_ok-regs.ensures.placed

pub emit_step-requires-clause-empty : goal.emit_step-requires-clause-empty
emit_step-requires-clause-empty g c =
    let b1 = c.emit_state.new.b in
    let b2 = c.emit_look_drive.new.b in
    let b3 = c.emit_port_drive.new.b in
    let b4 = c.emit_looks.new.b in
    let s = c.in_ok-regs.ensures in
    let x : Extends b1 b4 =
    extends_trans b1 b3 b4 (extends_trans b1 b2 b3 c.in_ok-looks.ensures.extends c.in_ok-ports.ensures.extends) c.in_ok-read.ensures.extends in
    no_ports_kept c.in_ok-regs.regs.array b1 b4 s.empty (λ m e. x.writes m (s.fragment.has_array m e))
