use Rattle.std.proofs.Common.{◌∙◌, List, ap}
use Rattle.pdl_net.specs.Signal.{Signal}
use Rattle.pdl_net.specs.Meaning.{signal}
use Rattle.pdl_net.proofs.Keeps.{extends_trans, extends_keeps}
use Rattle.pdl_form.specs.FormView.{form}
use Rattle.pdl_form.specs.View.{guards_view}
use Rattle.pdl_pipe_exprs.specs.Nets.{signals_in, signal_at}
use Rattle.pdl_pipe_exprs.specs.Conditions.{taken_signal}
use Rattle.pdl_pipe_exprs.proofs.NetLists.{nets_kept}
use Rattle.pdl_law_parts.specs.declared.Mark.TheVariants.{Held}
use Rattle.pdl_pipe_walk.specs.Parts.{Parts, parts_in, mark_of}
use Rattle.pdl_pipe_walk.specs.Locked.{members, locks_in}
use Rattle.pdl_pipe_walk.proofs.Lists.{on_ok}
use Rattle.pdl_pipe_walk.proofs.WalkGrowth.{walk_more, parts_more, vars_same}
use Rattle.pdl_pipe_walk.proofs.ChangedNets.{ready_same}
use Rattle.pdl_pipe_walk.proofs.MadeLocks.{locked_keep, tickets_keep, looked_as}
use Rattle.pdl_pipe_walk.proofs.nets.WalkNets.block.Goals as goal

pub look_ready-requires-clause-walk : goal.look_ready-requires-clause-walk
look_ready-requires-clause-walk g c =
    walk_more c.args.b.now c.all_taken.new.b c.all_taken.ensures.extends (form c.args.setting.now.pipe.now).pipe
    (form c.args.setting.now.pipe.now).widths c.args.self.now c.requires.walk

pub look_ready-requires-clause-locks : goal.look_ready-requires-clause-locks
look_ready-requires-clause-locks g c =
    locked_keep (members g.L.LockModule) c.args.b.now c.all_taken.new.b
    (extends_keeps c.args.b.now c.all_taken.new.b c.all_taken.ensures.extends) g.met.L.LockModule.stays
    (form c.args.setting.now.pipe.now).pipe c.args.setting.now.locks.now c.requires.locks

pub look_ready-requires-clause-tickets : goal.look_ready-requires-clause-tickets
look_ready-requires-clause-tickets g c =
    tickets_keep (members g.L.LockModule) c.args.b.now c.all_taken.new.b
    (extends_keeps c.args.b.now c.all_taken.new.b c.all_taken.ensures.extends) g.met.L.LockModule.stays
    (form c.args.setting.now.pipe.now).pipe c.args.setting.now.locks.now c.requires.locks c.args.setting.now.tickets.now c.requires.tickets

pub returns-in_err-ready-clause-extends : goal.returns-in_err-ready-clause-extends
returns-in_err-ready-clause-extends g c =
    extends_trans c.args.b.now c.all_taken.new.b c.look_ready.new.b c.all_taken.ensures.extends c.look_ready.ensures.extends

pub wait-requires-clause-walk : goal.wait-requires-clause-walk
wait-requires-clause-walk g c =
    let a = c.args.b.now in
    let one = c.all_taken.new.b in
    let two = c.look_ready.new.b in
    let w = c.args.self.now in
    let first = c.all_taken.ensures.extends in
    let after = c.look_ready.ensures.extends in
    let far = extends_trans a one two first after in
    walk_more a two far (form c.args.setting.now.pipe.now).pipe (form c.args.setting.now.pipe.now).widths w c.requires.walk

pub returns-clause-extends : goal.returns-clause-extends
returns-clause-extends g c =
    let a = c.args.b.now in
    let one = c.all_taken.new.b in
    let two = c.look_ready.new.b in
    let w = c.args.self.now in
    let first = c.all_taken.ensures.extends in
    let after = c.look_ready.ensures.extends in
    let far = extends_trans a one two first after in
    extends_trans a two c.wait.new.b far c.wait.ensures.extends

pub returns-clause-parts : goal.returns-clause-parts
returns-clause-parts g c =
    let a = c.args.b.now in
    let one = c.all_taken.new.b in
    let two = c.look_ready.new.b in
    let w = c.args.self.now in
    let first = c.all_taken.ensures.extends in
    let after = c.look_ready.ensures.extends in
    let far = extends_trans a one two first after in
    let fs = signals_in a w.vars.items in
    on_ok c.wait.result
    (λ q. record {
      look = signal two c.in_ok-ready.ready;
      is_look =
          looked_as
          (locks_in (members g.L.LockModule) (form c.args.setting.now.pipe.now).pipe a c.args.setting.now.locks.now) c.args.m
          (mark_of (parts_in one w).marks Held c.args.m c.args.a)
          (mark_of (parts_in a w).marks Held c.args.m c.args.a)
          (signal_at (signals_in one w.vars.items) c.args.a) (signal_at fs c.args.a)
          (signal_at (signals_in one c.args.setting.now.tickets.now) c.args.m)
          (signal_at (signals_in a c.args.setting.now.tickets.now) c.args.m) (signal two c.in_ok-ready.ready)
          (ap (λ (k : Parts). mark_of k.marks Held c.args.m c.args.a)
          (parts_more a one first (form c.args.setting.now.pipe.now).pipe (form c.args.setting.now.pipe.now).widths w c.requires.walk))
          (ap (λ (l : List Signal). signal_at l c.args.a)
          (vars_same a one first (form c.args.setting.now.pipe.now).pipe (form c.args.setting.now.pipe.now).widths w c.requires.walk))
          (ap (λ (l : List Signal). signal_at l c.args.m) (nets_kept a one c.args.setting.now.tickets.now first c.requires.tickets.there))
          c.in_ok-ready.ensures.looked;
      next =
          q
          ∙ ready_same (signal two c.in_ok-on.on) (taken_signal fs (guards_view c.args.guards.now))
          (signal two c.in_ok-ready.ready) (parts_in two w) (parts_in a w)
          (after.kept c.in_ok-on.on c.in_ok-on.ensures.means.there ∙ c.in_ok-on.ensures.means.same)
          (parts_more a two far (form c.args.setting.now.pipe.now).pipe (form c.args.setting.now.pipe.now).widths w c.requires.walk);
    })
    c.wait.ensures.parts
