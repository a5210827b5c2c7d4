use Rattle.std.proofs.Common.{Bool, ap₂, subst}
use Rattle.pdl_net.specs.Signal.{Signal}
use Rattle.pdl_net.specs.Meaning.{signal}
use Rattle.pdl_net.proofs.Keeps.{extends_keeps, but_extends, but_trans}
use Rattle.pdl_lockapi.specs.Laws.{own, HidesLaw, StepLaw, StepSignals}
use Rattle.pdl_lockapi.specs.Second.{Commit2Law}
use Rattle.pdl_pipe_walk.specs.Locked.{tickets_in}
use Rattle.pdl_pipe_locks.specs.Ports.{ArePorts, signals_of}
use Rattle.pdl_pipe_locks.specs.Round.{is_twice}
use Rattle.pdl_pipe_locks.proofs.PortsFit.{ports_there, ports_fit, ports_mean, unwritten_still}
use Rattle.pdl_pipe_locks.proofs.steps.set_lock.Goals as goal

pub emit_step-requires-clause-placed : goal.emit_step-requires-clause-placed
emit_step-requires-clause-placed g c =
    g.met.L.LockModule.stays c.args.x.now.lock c.args.b.now c.lock_ports.new.b c.args.x.now.regs
    (extends_keeps c.args.b.now c.lock_ports.new.b c.in_ok-ports.ensures.extends) c.requires.placed

pub emit_step-requires-clause-empty : goal.emit_step-requires-clause-empty
emit_step-requires-clause-empty g c =
    unwritten_still c.args.x.now.regs.array c.args.b.now c.lock_ports.new.b c.in_ok-ports.ensures.extends c.requires.array c.requires.empty

pub emit_step-requires-clause-ports : goal.emit_step-requires-clause-ports
emit_step-requires-clause-ports g c =
    let a = c.args.b.now in
    let d = c.lock_ports.new.b in
    let r = c.args.round.now in
    let f = signals_of a (is_twice r c.args.m) r.deeds.now c.args.m (signal a r.squash) (tickets_in a r.tails.now c.args.m) in
    let are : ArePorts d c.in_ok-ports.ports f =
    subst (ArePorts d c.in_ok-ports.ports)
    (ap₂ (λ (b : Bool) (g : Signal). signals_of a b r.deeds.now c.args.m (signal a r.squash) g) c.flag_at-twice.ensures c.variable-tail.ensures.same)
    c.in_ok-ports.ensures.ports in
    ports_there d c.in_ok-ports.ports f are

pub emit_step-requires-clause-fit : goal.emit_step-requires-clause-fit
emit_step-requires-clause-fit g c =
    let a = c.args.b.now in
    let d = c.lock_ports.new.b in
    let r = c.args.round.now in
    let f = signals_of a (is_twice r c.args.m) r.deeds.now c.args.m (signal a r.squash) (tickets_in a r.tails.now c.args.m) in
    let are : ArePorts d c.in_ok-ports.ports f =
    subst (ArePorts d c.in_ok-ports.ports)
    (ap₂ (λ (b : Bool) (g : Signal). signals_of a b r.deeds.now c.args.m (signal a r.squash) g) c.flag_at-twice.ensures c.variable-tail.ensures.same)
    c.in_ok-ports.ensures.ports in
    let x = c.args.x.now in
    ports_fit d x.regs.bits x.regs.width (g.L.LockModule.tickets x.lock) c.in_ok-ports.ports f are c.requires.fit

pub returns-clause-law : goal.returns-clause-law
returns-clause-law g c =
    let a = c.args.b.now in
    let d = c.lock_ports.new.b in
    let r = c.args.round.now in
    let f = signals_of a (is_twice r c.args.m) r.deeds.now c.args.m (signal a r.squash) (tickets_in a r.tails.now c.args.m) in
    let are : ArePorts d c.in_ok-ports.ports f =
    subst (ArePorts d c.in_ok-ports.ports)
    (ap₂ (λ (b : Bool) (g : Signal). signals_of a b r.deeds.now c.args.m (signal a r.squash) g) c.flag_at-twice.ensures c.variable-tail.ensures.same)
    c.in_ok-ports.ensures.ports in
    let L = g.L.LockModule in
    let x = c.args.x.now in
    let e = c.emit_step.new.b in
    let n = c.in_ok-nets.nets in
    subst
    (λ (s : StepSignals). StepLaw (L.stands x.lock x.regs) (L.size x.lock) (L.tickets x.lock)
    (own x.regs) e s (signal e n.commit) (signal e n.addr) (signal e n.value))
    (ports_mean d c.in_ok-ports.ports f are) c.in_ok-nets.ensures.law

pub returns-clause-law2 : goal.returns-clause-law2
returns-clause-law2 g c =
    let a = c.args.b.now in
    let d = c.lock_ports.new.b in
    let r = c.args.round.now in
    let f = signals_of a (is_twice r c.args.m) r.deeds.now c.args.m (signal a r.squash) (tickets_in a r.tails.now c.args.m) in
    let are : ArePorts d c.in_ok-ports.ports f =
    subst (ArePorts d c.in_ok-ports.ports)
    (ap₂ (λ (b : Bool) (g : Signal). signals_of a b r.deeds.now c.args.m (signal a r.squash) g) c.flag_at-twice.ensures c.variable-tail.ensures.same)
    c.in_ok-ports.ensures.ports in
    let L = g.L.LockModule in
    let x = c.args.x.now in
    let e = c.emit_step.new.b in
    let n = c.in_ok-nets.nets in
    subst
    (λ (s : StepSignals). Commit2Law (L.stands x.lock x.regs) (L.size x.lock) (L.tickets x.lock)
    s (signal e n.commit2) (signal e n.addr2) (signal e n.value2))
    (ports_mean d c.in_ok-ports.ports f are) c.in_ok-nets.ensures.law2

pub returns-clause-hides : goal.returns-clause-hides
returns-clause-hides g c =
    let a = c.args.b.now in
    let d = c.lock_ports.new.b in
    let r = c.args.round.now in
    let f = signals_of a (is_twice r c.args.m) r.deeds.now c.args.m (signal a r.squash) (tickets_in a r.tails.now c.args.m) in
    let are : ArePorts d c.in_ok-ports.ports f =
    subst (ArePorts d c.in_ok-ports.ports)
    (ap₂ (λ (b : Bool) (g : Signal). signals_of a b r.deeds.now c.args.m (signal a r.squash) g) c.flag_at-twice.ensures c.variable-tail.ensures.same)
    c.in_ok-ports.ensures.ports in
    let x = c.args.x.now in
    subst (λ (s : StepSignals). HidesLaw (g.L.LockModule.kind_of x.lock) c.emit_step.new.b (own x.regs) s)
    (ports_mean d c.in_ok-ports.ports f are) c.in_ok-nets.ensures.hides

pub returns-in_err-nets-clause-extends : goal.returns-in_err-nets-clause-extends
returns-in_err-nets-clause-extends g c =
    let o = own c.args.x.now.regs in
    but_trans o c.args.b.now c.lock_ports.new.b c.emit_step.new.b
    (but_extends o c.args.b.now c.lock_ports.new.b c.lock_ports.ensures.extends) c.emit_step.ensures.extends
