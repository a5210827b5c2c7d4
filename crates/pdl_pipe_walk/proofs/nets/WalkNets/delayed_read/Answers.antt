use Rattle.std.proofs.Common.{◌∙◌, List, sym, ap, subst}
use Rattle.pdl_net.specs.Signal.{Signal}
use Rattle.pdl_net.specs.Meaning.{signal}
use Rattle.pdl_form.specs.FormView.{form}
use Rattle.pdl_form.specs.View.{guards_view}
use Rattle.pdl_pipe_exprs.specs.Nets.{signals_in, signal_at}
use Rattle.pdl_pipe_exprs.specs.Conditions.{taken_signal}
use Rattle.pdl_pipe_walk.specs.Parts.{parts_in}
use Rattle.pdl_pipe_walk.specs.Sized.{IsWalk}
use Rattle.pdl_pipe_walk.proofs.Lists.{on_ok}
use Rattle.pdl_pipe_walk.proofs.WalkGrowth.{walk_more, parts_more, vars_same, reach_at}
use Rattle.pdl_pipe_walk.proofs.Updates.{ask_parts}
use Rattle.pdl_pipe_walk.proofs.ChangedNets.{ask_walk, ask_made}
use Rattle.pdl_pipe_walk.proofs.nets.WalkNets.delayed_read.Goals as goal

pub variable-addr-requires-clause-walk : goal.variable-addr-requires-clause-walk
variable-addr-requires-clause-walk g c =
    walk_more c.args.b.now c.all_taken.new.b c.all_taken.ensures.extends (form c.args.setting.now.pipe.now).pipe
    (form c.args.setting.now.pipe.now).widths c.args.self.now c.requires.walk

pub returns-clause-walk : goal.returns-clause-walk
returns-clause-walk g c =
    let a = c.args.b.now in
    let b = c.all_taken.new.b in
    let e = c.all_taken.ensures.extends in
    let w = c.args.self.now in
    let now = walk_more a b e (form c.args.setting.now.pipe.now).pipe (form c.args.setting.now.pipe.now).widths w c.requires.walk in
    on_ok c.push_ask.result
    (λ q. subst (IsWalk b (form c.args.setting.now.pipe.now).pipe (form c.args.setting.now.pipe.now).widths) (sym q)
    (ask_walk b (form c.args.setting.now.pipe.now).pipe
    (form c.args.setting.now.pipe.now).widths w now c.args.m c.args.x c.in_ok-on.on c.variable-addr.result c.in_ok-on.ensures.means.there c.variable-addr.ensures.there c.requires.at.memory c.in_ok-on.ensures.one
    (reach_at b (form c.args.setting.now.pipe.now).pipe
    (form c.args.setting.now.pipe.now).widths w now c.args.m c.args.a c.variable-addr.result
    (signal b c.variable-addr.result) c.requires.at c.variable-addr.ensures.same)))
    c.push_ask.ensures

pub returns-clause-parts : goal.returns-clause-parts
returns-clause-parts g c =
    let a = c.args.b.now in
    let b = c.all_taken.new.b in
    let e = c.all_taken.ensures.extends in
    let w = c.args.self.now in
    let on = taken_signal (signals_in a w.vars.items) (guards_view c.args.guards.now) in
    on_ok c.push_ask.result
    (λ q. ap (parts_in b) q ∙ ask_parts b w (record { mem = c.args.m; var = c.args.x; on = c.in_ok-on.on; addr = c.variable-addr.result })
    ∙ ask_made c.args.m c.args.x c.args.a (parts_in b w) (parts_in a w)
    (signal b c.in_ok-on.on) on (signal b c.variable-addr.result)
    (parts_more a b e (form c.args.setting.now.pipe.now).pipe (form c.args.setting.now.pipe.now).widths w c.requires.walk) c.in_ok-on.ensures.means.same
    (c.variable-addr.ensures.same
    ∙ ap (λ (l : List Signal). signal_at l c.args.a)
    (vars_same a b e (form c.args.setting.now.pipe.now).pipe (form c.args.setting.now.pipe.now).widths w c.requires.walk)))
    c.push_ask.ensures
