use Rattle.std.proofs.Common.{◌≡◌, ◌+◌, [], length, sym, ap, ◌∙◌, subst, arith, rules}
use Rattle.std.proofs.lemmas.List.{length-map}
use Rattle.pdl_form.specs.FormView.{form}
use Rattle.pdl_form.specs.View.{stage_view}
use Rattle.pdl_net.proofs.Keeps.{extends_keeps, extends_refl, extends_trans}
use Rattle.pdl_pipe_exprs.specs.Nets.{signals_in}
use Rattle.pdl_law_parts.specs.Walk.{Locks}
use Rattle.pdl_pipe_walk.specs.Locked.{members, locks_in}
use Rattle.pdl_pipe_answers.specs.Ports.{answers_in}
use Rattle.pdl_pipe_walk.proofs.MadeLocks.{locked_keep, locks_same}
use Rattle.pdl_pipe_registers.specs.Begun.{AreEnded}
use Rattle.pdl_pipe_registers.specs.Staged.{IsStaged, next_signals}
use Rattle.pdl_pipe_registers.proofs.TicketsMade.{next_same}
use Rattle.pdl_pipe_registers.proofs.StageEnds.{staged_answers}
use Rattle.pdl_pipe_registers.proofs.StagesMade.{StagesSoFar, stages_none, stages_more}
use Rattle.pdl_pipe_registers.proofs.whole.lay_stages.Goals as goal

pub loop-init : goal.loop-init
loop-init g c =
    let a = c.args.b.now in
    let f = form c.args.pipe.now in
    let l = members g.L.LockModule in
    let xs = c.args.locks.now in
    let x = c.args.shared.now in
    let none : c.new-stages.result.items ≡ [] = search rules in
    subst (λ ys. StagesSoFar a a f (next_signals a xs) (answers_in a x.ports.now) (locks_in l f.pipe a xs) x ys 0) (sym none)
    (stages_none a a f (next_signals a xs) (answers_in a x.ports.now) (locks_in l f.pipe a xs) x (extends_refl a) c.requires.shared c.requires.next)

pub lay_stage-requires-clause-locks : goal.lay_stage-requires-clause-locks
lay_stage-requires-clause-locks g c =
    locked_keep (members g.L.LockModule) c.args.b.now c.loop.b
    (extends_keeps c.args.b.now c.loop.b c.loop.invariant.extends) g.met.L.LockModule.stays
    (form c.args.pipe.now).pipe c.args.locks.now c.requires.locks

pub lay_stage-requires-clause-next : goal.lay_stage-requires-clause-next
lay_stage-requires-clause-next g c =
    c.loop.invariant.next
    ∙ sym
    (next_same (members g.L.LockModule) c.args.b.now c.loop.b (extends_keeps c.args.b.now c.loop.b c.loop.invariant.extends)
    (form c.args.pipe.now).pipe c.args.locks.now c.requires.locks)

pub lay_stage-requires-clause-before : goal.lay_stage-requires-clause-before
lay_stage-requires-clause-before g c =
    let b = c.loop.b in
    let f = form c.args.pipe.now in
    subst (AreEnded b f (signals_in b c.args.shared.now.next)) (sym c.as_slice.ensures.value)
    (subst (λ fs. AreEnded b f fs c.loop.stages.items) (sym c.loop.invariant.next) c.loop.invariant.ended)

pub lay_stage-requires-clause-stage : goal.lay_stage-requires-clause-stage
lay_stage-requires-clause-stage g c =
    let e = ap length c.stages-line.ensures in
    let n = length-map c.stages-line.result.now stage_view in
    let t = c.loop-test.true in
    let m = c.loop.invariant.count in
    let v = ap length c.as_slice.ensures.value in
    omega (arith, e, n, t, m, v)

pub loop-preserved : goal.loop-preserved
loop-preserved g c =
    let a = c.args.b.now in
    let b = c.loop.b in
    let d = c.lay_stage.new.b in
    let f = form c.args.pipe.now in
    let l = members g.L.LockModule in
    let xs = c.args.locks.now in
    let x = c.args.shared.now in
    let ss = c.loop.stages.items in
    let t = c.in_ok-s.s in
    let inv = c.loop.invariant in
    let same = locks_same l a b (extends_keeps a b inv.extends) g.met.L.LockModule.stays f.pipe xs c.requires.locks in
    let e = extends_keeps a b inv.extends in
    let now =
    subst
    (λ ys. IsStaged d f (signals_in b x.next) (answers_in b x.ports.now)
    (locks_in l f.pipe b xs) ys (length ys) t) c.as_slice.ensures.value c.in_ok-s.ensures.staged in
    let new = subst (λ (z : Locks). IsStaged d f (next_signals a xs) (answers_in a x.ports.now) z ss (length ss) t) same
    (subst (λ fs. IsStaged d f fs (answers_in a x.ports.now) (locks_in l f.pipe b xs) ss (length ss) t) inv.next
    (staged_answers a b d f (signals_in b x.next) x.ports.now (locks_in l f.pipe b xs) ss (length ss) t e c.requires.shared.ports now)) in
    let more = stages_more a b d f (next_signals a xs) (answers_in a x.ports.now) (locks_in l f.pipe a xs) x ss c.loop.counter t c.lay_stage.ensures.extends new c.in_ok-s.ensures.place c.in_ok-s.ensures.last inv in
    subst
    (λ ys. StagesSoFar a d f (next_signals a xs) (answers_in a x.ports.now) (locks_in l f.pipe a xs) x ys (c.loop.counter + 1))
    (sym c.in_ok-append.ensures) more

pub returns-clause-count : goal.returns-clause-count
returns-clause-count g c =
    let e = ap length c.stages-line.ensures in
    let n = length-map c.stages-line.result.now stage_view in
    let t = c.loop-test.false in
    let m = c.loop.invariant.count in
    omega (arith, e, n, t, m)

pub returns-in_err-s-clause-extends : goal.returns-in_err-s-clause-extends
returns-in_err-s-clause-extends g c = extends_trans c.args.b.now c.loop.b c.lay_stage.new.b c.loop.invariant.extends c.lay_stage.ensures.extends

pub returns-in_err-append-clause-extends : goal.returns-in_err-append-clause-extends
returns-in_err-append-clause-extends g c = extends_trans c.args.b.now c.loop.b c.lay_stage.new.b c.loop.invariant.extends c.lay_stage.ensures.extends
