use Rattle.std.proofs.lemmas.Result.{IfOk-weaker}
use Rattle.pdl_net.specs.Meaning.{signal}
use Rattle.pdl_net.proofs.Keeps.{extends_trans, extends_keeps}
use Rattle.pdl_form.specs.FormView.{form}
use Rattle.pdl_pipe_walk.specs.Locked.{members, locks_in}
use Rattle.pdl_pipe_walk.proofs.MadeLocks.{locked_keep, looked_off, looked_on, looked_join}
use Rattle.pdl_pipe_walk.proofs.locks.look_held.Goals as goal

pub returns-then-are_same-clause-looked : goal.returns-then-are_same-clause-looked
returns-then-are_same-clause-looked g c =
    let a = c.args.b.now in
    looked_on (locks_in (members g.L.LockModule) (form c.args.setting.now.pipe.now).pipe a c.args.setting.now.locks.now) c.args.m (signal a c.args.addr)
    (signal a c.args.ticket) a c.args.setting.now.bits c.args.held c.requires.bits (c.are_same.ensures c.if-are_same.true) _ _ c.in_ok-write.ensures.law

pub returns-then-are_same-2-clause-looked : goal.returns-then-are_same-2-clause-looked
returns-then-are_same-2-clause-looked g c =
    let a = c.args.b.now in
    looked_off (locks_in (members g.L.LockModule) (form c.args.setting.now.pipe.now).pipe a c.args.setting.now.locks.now) c.args.m (signal a c.args.addr)
    (signal a c.args.ticket) a c.args.setting.now.bits c.args.held c.requires.bits (c.are_same-2.ensures c.if-are_same-2.true) _ _ c.in_ok-read.ensures.law

pub look-requires-3-clause-locks : goal.look-requires-3-clause-locks
look-requires-3-clause-locks g c =
    locked_keep (members g.L.LockModule) c.args.b.now c.look-2.new.b
    (extends_keeps c.args.b.now c.look-2.new.b c.look-2.ensures.extends) g.met.L.LockModule.stays
    (form c.args.setting.now.pipe.now).pipe c.args.setting.now.locks.now c.requires.locks

pub returns-in_err-write-2-clause-extends : goal.returns-in_err-write-2-clause-extends
returns-in_err-write-2-clause-extends g c = extends_trans c.args.b.now c.look-2.new.b c.look-3.new.b c.look-2.ensures.extends c.look-3.ensures.extends

pub returns-clause-extends : goal.returns-clause-extends
returns-clause-extends g c =
    extends_trans c.args.b.now c.look-3.new.b c.mux.new.self
    (extends_trans c.args.b.now c.look-2.new.b c.look-3.new.b c.look-2.ensures.extends c.look-3.ensures.extends) c.mux.ensures.extends

pub returns-clause-looked : goal.returns-clause-looked
returns-clause-looked g c =
    let a = c.args.b.now in
    IfOk-weaker c.mux.result _ _
    (λ x m. looked_join
    (locks_in (members g.L.LockModule)
    (form c.args.setting.now.pipe.now).pipe a c.args.setting.now.locks.now) c.args.m a c.look-2.new.b c.look-3.new.b c.mux.new.self c.args.held c.args.addr c.args.ticket c.in_ok-write-2.write.ready c.in_ok-read.read.ready x _ _
    c.look-2.ensures.extends c.look-3.ensures.extends c.requires.held.there c.requires.addr_there c.requires.ticket.there c.in_ok-read.ensures.ready.there c.in_ok-read.ensures.law c.in_ok-write-2.ensures.law m)
    c.mux.ensures.means
