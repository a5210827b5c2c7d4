use Rattle.std.proofs.Common.{◌<◌, length, refl, sym, ap, ◌∙◌, subst, arith}
use Rattle.pdl_semantics.specs.Stages.{in_stage}
use Rattle.pdl_form.specs.FormView.{form}
use Rattle.pdl_net.specs.Growth.{Keeps}
use Rattle.pdl_net.proofs.Keeps.{extends_keeps, extends_trans, keeps_trans, regs_grow}
use Rattle.pdl_pipe_exprs.specs.Nets.{signals_in, widths_of}
use Rattle.pdl_law_parts.specs.Walk.{Locks}
use Rattle.pdl_pipe_walk.specs.Parts.{walk_in}
use Rattle.pdl_pipe_walk.specs.Locked.{members, locks_in, AreTickets, tickets_in}
use Rattle.pdl_pipe_answers.specs.Ports.{answers_in}
use Rattle.pdl_pipe_walk.specs.Steps.{AreSteps}
use Rattle.pdl_pipe_walk.proofs.NetGrowth.{bits_keep}
use Rattle.pdl_pipe_walk.proofs.MadeLocks.{locked_keep, locks_same}
use Rattle.pdl_pipe_exprs.proofs.NetLists.{length_signals}
use Rattle.pdl_pipe_registers.proofs.Begins.{each_way}
use Rattle.pdl_word.specs.Each.{Each}
use Rattle.pdl_pipe_registers.proofs.TicketsMade.{tickets_fit}
use Rattle.pdl_pipe_registers.proofs.StageEnds.{staged_made}
use Rattle.pdl_pipe_registers.proofs.whole.lay_stage.Goals as goal

pub begin-requires-clause-earlier : goal.begin-requires-clause-earlier
begin-requires-clause-earlier g c =
    let f = form c.args.pipe.now in
    let ss = c.args.before.now in
    let is = c.as_slice.ensures.value ∙ c.in_ok-ways.ensures in
    record {
      ended = c.requires.before;
      ways = is;
      low = subst (Each (λ j. j < length ss)) (sym is) (each_way f.pipe (length ss) (λ j. j < length ss) (λ j l. l));
      count = length_signals c.args.b.now c.args.shared.now.next ∙ c.requires.shared.next_count;
      needs = c.requires.needs;
    }

pub walk-requires-clause-bits : goal.walk-requires-clause-bits
walk-requires-clause-bits g c =
    bits_keep c.args.b.now c.begin.new.b c.args.shared.now.bits (extends_keeps c.args.b.now c.begin.new.b c.begin.ensures.extends) c.requires.shared.bits

pub walk-requires-clause-locks : goal.walk-requires-clause-locks
walk-requires-clause-locks g c =
    locked_keep (members g.L.LockModule) c.args.b.now c.begin.new.b
    (extends_keeps c.args.b.now c.begin.new.b c.begin.ensures.extends) g.met.L.LockModule.stays
    (form c.args.pipe.now).pipe c.args.locks.now c.requires.locks

pub walk-requires-clause-tickets : goal.walk-requires-clause-tickets
walk-requires-clause-tickets g c =
    let nets = c.in_ok-s.ensures.begun.nets in
    subst (AreTickets (members g.L.LockModule) c.begin.new.b c.args.locks.now) (sym c.as_slice-tickets.ensures)
    (tickets_fit (members g.L.LockModule) c.args.b.now c.begin.new.b
    (form c.args.pipe.now).pipe c.args.locks.now c.in_ok-s.s.tickets c.requires.locks nets.tickets
    (nets.tickets_wide ∙ ap widths_of c.requires.next))

pub returns-clause-staged : goal.returns-clause-staged
returns-clause-staged g c =
    let a = c.args.b.now in
    let b = c.begin.new.b in
    let d = c.walk.new.b in
    let f = form c.args.pipe.now in
    let nexts = signals_in a c.args.shared.now.next in
    let ss = c.args.before.now in
    let k = length ss in
    let s = c.in_ok-s.s in
    let t = record s { end = c.walk.new.self } in
    let e : Keeps a b = extends_keeps a b c.begin.ensures.extends in
    let e2 : Keeps b d = extends_keeps b d c.walk.ensures.extends in
    let l = members g.L.LockModule in
    let ls = locks_in l f.pipe a c.args.locks.now in
    let same = locks_same l a b e g.met.L.LockModule.stays f.pipe c.args.locks.now c.requires.locks in
    let steps = subst (λ (x : Locks). AreSteps d f.pipe x (tickets_in b s.tickets) (in_stage k f.pipe.stmts) (walk_in b s.end) (walk_in d c.walk.new.self)) same
    (subst
    (λ ts. AreSteps d f.pipe (locks_in l f.pipe b c.args.locks.now) (tickets_in b ts) (in_stage k f.pipe.stmts)
    (walk_in b s.end) (walk_in d c.walk.new.self)) c.as_slice-tickets.ensures c.in_ok-walk.ensures.steps) in
    staged_made a b d (keeps_trans a b d e e2) e2 f nexts
    (answers_in a c.args.shared.now.ports.now) ls ss k s t c.requires.before
    (omega arith) refl c.in_ok-s.ensures.begun c.in_ok-walk.ensures.walk steps

pub returns-clause-last : goal.returns-clause-last
returns-clause-last g c =
    let last = c.in_ok-s.ensures.begun.frame.last in
    let more = regs_grow c.begin.new.b c.walk.new.b (extends_keeps c.begin.new.b c.walk.new.b c.walk.ensures.extends) in
    omega (arith, last, more)

pub returns-in_err-walk-clause-extends : goal.returns-in_err-walk-clause-extends
returns-in_err-walk-clause-extends g c = extends_trans c.args.b.now c.begin.new.b c.walk.new.b c.begin.ensures.extends c.walk.ensures.extends

pub returns-clause-extends : goal.returns-clause-extends
returns-clause-extends g c = extends_trans c.args.b.now c.begin.new.b c.walk.new.b c.begin.ensures.extends c.walk.ensures.extends
