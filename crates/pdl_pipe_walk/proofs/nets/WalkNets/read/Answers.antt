use Rattle.std.proofs.Common.{◌∙◌, List, ap, refl}
use Rattle.pdl_net.specs.Signal.{Signal}
use Rattle.pdl_net.specs.Meaning.{signal}
use Rattle.pdl_net.proofs.Keeps.{extends_trans, extends_keeps}
use Rattle.pdl_form.specs.FormView.{form}
use Rattle.pdl_form.specs.View.{guards_view}
use Rattle.pdl_pipe_exprs.specs.Nets.{signals_in, signal_at}
use Rattle.pdl_pipe_exprs.specs.Conditions.{taken_signal}
use Rattle.pdl_pipe_exprs.proofs.NetLists.{nets_there, nets_kept}
use Rattle.pdl_pipe_walk.specs.Parts.{parts_in}
use Rattle.pdl_pipe_walk.specs.Locked.{members, locks_in}
use Rattle.pdl_pipe_walk.proofs.Lists.{on_ok}
use Rattle.pdl_pipe_walk.proofs.WalkGrowth.{walk_more, parts_more, vars_same, reach_at}
use Rattle.pdl_pipe_walk.proofs.ChangedNets.{var_same}
use Rattle.pdl_pipe_walk.proofs.MadeLocks.{locked_keep, tickets_keep, ticket_bits, word_as}
use Rattle.pdl_pipe_walk.proofs.nets.WalkNets.read.Goals as goal

pub variable-addr-requires-clause-walk : goal.variable-addr-requires-clause-walk
variable-addr-requires-clause-walk g c =
    walk_more c.args.b.now c.all_taken.new.b c.all_taken.ensures.extends (form c.args.setting.now.pipe.now).pipe
    (form c.args.setting.now.pipe.now).widths c.args.self.now c.requires.walk

pub variable-ticket-requires-clause-there : goal.variable-ticket-requires-clause-there
variable-ticket-requires-clause-there g c =
    nets_there c.args.b.now c.all_taken.new.b c.args.setting.now.tickets.now c.all_taken.ensures.extends c.requires.tickets.there

pub word-requires-clause-locks : goal.word-requires-clause-locks
word-requires-clause-locks g c =
    locked_keep (members g.L.LockModule) c.args.b.now c.all_taken.new.b
    (extends_keeps c.args.b.now c.all_taken.new.b c.all_taken.ensures.extends) g.met.L.LockModule.stays
    (form c.args.setting.now.pipe.now).pipe c.args.setting.now.locks.now c.requires.locks

pub word-requires-clause-addr_reach : goal.word-requires-clause-addr_reach
word-requires-clause-addr_reach g c =
    let a = c.args.b.now in
    let first_b = c.all_taken.new.b in
    let w = c.args.self.now in
    let first = c.all_taken.ensures.extends in
    let grown = extends_keeps a first_b first in
    reach_at first_b (form c.args.setting.now.pipe.now).pipe (form c.args.setting.now.pipe.now).widths w
    (walk_more a first_b first (form c.args.setting.now.pipe.now).pipe
    (form c.args.setting.now.pipe.now).widths w c.requires.walk) c.args.m c.args.a c.variable-addr.result
    (signal first_b c.variable-addr.result) c.requires.at c.variable-addr.ensures.same

pub word-requires-clause-ticket_wide : goal.word-requires-clause-ticket_wide
word-requires-clause-ticket_wide g c locked =
    let a = c.args.b.now in
    let first_b = c.all_taken.new.b in
    let w = c.args.self.now in
    let first = c.all_taken.ensures.extends in
    let grown = extends_keeps a first_b first in
    ap (λ (f : Signal). f.width) c.variable-ticket.ensures.same
    ∙ ticket_bits (members g.L.LockModule) first_b (form c.args.setting.now.pipe.now).pipe c.args.setting.now.locks.now
    (locked_keep (members g.L.LockModule) a first_b grown g.met.L.LockModule.stays
    (form c.args.setting.now.pipe.now).pipe c.args.setting.now.locks.now c.requires.locks) c.args.m c.requires.at.memory locked c.args.setting.now.tickets.now
    (tickets_keep (members g.L.LockModule) a first_b grown g.met.L.LockModule.stays
    (form c.args.setting.now.pipe.now).pipe c.args.setting.now.locks.now c.requires.locks c.args.setting.now.tickets.now c.requires.tickets)

pub returns-in_err-net-clause-extends : goal.returns-in_err-net-clause-extends
returns-in_err-net-clause-extends g c = extends_trans c.args.b.now c.all_taken.new.b c.word.new.b c.all_taken.ensures.extends c.word.ensures.extends

pub set-requires-clause-walk : goal.set-requires-clause-walk
set-requires-clause-walk g c =
    let a = c.args.b.now in
    let first_b = c.all_taken.new.b in
    let two = c.word.new.b in
    let w = c.args.self.now in
    let first = c.all_taken.ensures.extends in
    let after = c.word.ensures.extends in
    let far = extends_trans a first_b two first after in
    walk_more a two far (form c.args.setting.now.pipe.now).pipe (form c.args.setting.now.pipe.now).widths w c.requires.walk

pub returns-clause-extends : goal.returns-clause-extends
returns-clause-extends g c =
    let a = c.args.b.now in
    let first_b = c.all_taken.new.b in
    let two = c.word.new.b in
    let w = c.args.self.now in
    let first = c.all_taken.ensures.extends in
    let after = c.word.ensures.extends in
    let far = extends_trans a first_b two first after in
    extends_trans a two c.set.new.b far c.set.ensures.extends

pub returns-clause-parts : goal.returns-clause-parts
returns-clause-parts g c =
    let a = c.args.b.now in
    let first_b = c.all_taken.new.b in
    let two = c.word.new.b in
    let w = c.args.self.now in
    let first = c.all_taken.ensures.extends in
    let after = c.word.ensures.extends in
    let far = extends_trans a first_b two first after in
    let fs = signals_in a w.vars.items in
    on_ok c.set.result
    (λ q. record {
      word = signal two c.in_ok-net.net;
      is_word =
          word_as (form c.args.setting.now.pipe.now).pipe
          (locks_in (members g.L.LockModule) (form c.args.setting.now.pipe.now).pipe a c.args.setting.now.locks.now) c.args.m _ _ _ _ _
          (c.variable-addr.ensures.same
          ∙ ap (λ (l : List Signal). signal_at l c.args.a)
          (vars_same a first_b first (form c.args.setting.now.pipe.now).pipe (form c.args.setting.now.pipe.now).widths w c.requires.walk))
          (c.variable-ticket.ensures.same
          ∙ ap (λ (l : List Signal). signal_at l c.args.m) (nets_kept a first_b c.args.setting.now.tickets.now first c.requires.tickets.there))
          (record { plain = c.in_ok-net.ensures.word.plain; ready = c.in_ok-net.ensures.word.ready; looked = c.in_ok-net.ensures.word.looked });
      next =
          q
          ∙ var_same c.args.x (signal two c.in_ok-on.on) (taken_signal fs (guards_view c.args.guards.now))
          (signal two c.in_ok-net.net) (signal two c.in_ok-net.net) (parts_in two w) (parts_in a w)
          (after.kept c.in_ok-on.on c.in_ok-on.ensures.means.there ∙ c.in_ok-on.ensures.means.same) refl
          (parts_more a two far (form c.args.setting.now.pipe.now).pipe (form c.args.setting.now.pipe.now).widths w c.requires.walk);
    })
    c.set.ensures.parts
