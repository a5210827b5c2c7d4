use Rattle.std.proofs.lemmas.Result.{IfOk-weaker}
use Rattle.pdl_net.specs.Meaning.{signal}
use Rattle.pdl_net.proofs.KeptWidths.{width_meant}
use Rattle.pdl_form.specs.FormView.{form}
use Rattle.pdl_pipe_exprs.specs.Nets.{signals_in, signal_at}
use Rattle.pdl_law_parts.specs.declared.Mark.TheVariants.{Held}
use Rattle.pdl_pipe_walk.specs.Parts.{parts_in, mark_of}
use Rattle.pdl_pipe_walk.specs.Locked.{members, locks_in}
use Rattle.pdl_pipe_walk.proofs.NetGrowth.{mark_width}
use Rattle.pdl_pipe_walk.proofs.MadeLocks.{looked_as, ticket_bits}
use Rattle.pdl_pipe_walk.proofs.nets.WalkNets.look_ready.Goals as goal

pub look_held-requires-clause-held : goal.look_held-requires-clause-held
look_held-requires-clause-held g c =
    width_meant c.args.b.now _ _ 1 c.is_marked-held.ensures
    (mark_width (parts_in c.args.b.now c.args.self.now).marks Held c.args.m c.args.a c.requires.walk.sized.marks)

pub look_held-requires-clause-ticket : goal.look_held-requires-clause-ticket
look_held-requires-clause-ticket g c =
    width_meant c.args.b.now _ _ _ c.variable-ticket.ensures
    (ticket_bits (members g.L.LockModule) c.args.b.now
    (form c.args.setting.now.pipe.now).pipe c.args.setting.now.locks.now c.requires.locks c.args.m c.requires.at.memory c.requires.locked c.args.setting.now.tickets.now c.requires.tickets)

pub returns-clause-looked : goal.returns-clause-looked
returns-clause-looked g c =
    let a = c.args.b.now in
    let w = c.args.self.now in
    let ls = locks_in (members g.L.LockModule) (form c.args.setting.now.pipe.now).pipe a c.args.setting.now.locks.now in
    let held = mark_of (parts_in a w).marks Held c.args.m c.args.a in
    let addr = signal_at (signals_in a w.vars.items) c.args.a in
    let ticket = signal_at (signals_in a c.args.setting.now.tickets.now) c.args.m in
    IfOk-weaker c.look_held.result _ _
    (λ x h. looked_as ls c.args.m (signal a c.is_marked-held.result) held (signal a c.variable-addr.result) addr
    (signal a c.variable-ticket.result) ticket
    (signal c.look_held.new.b x) c.is_marked-held.ensures.same c.variable-addr.ensures.same c.variable-ticket.ensures.same h)
    c.look_held.ensures.looked
