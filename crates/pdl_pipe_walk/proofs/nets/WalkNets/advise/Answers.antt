use Rattle.std.proofs.Common.{◌∙◌, ◌^◌, List, sym, ap, subst}
use Rattle.pdl_net.specs.Signal.{Signal}
use Rattle.pdl_net.specs.Meaning.{signal}
use Rattle.pdl_net.proofs.Keeps.{extends_trans}
use Rattle.pdl_form.specs.FormView.{form}
use Rattle.pdl_form.specs.View.{guards_view, expr_view}
use Rattle.pdl_pipe_exprs.specs.Nets.{signals_in, signal_at}
use Rattle.pdl_pipe_exprs.specs.Conditions.{taken_signal}
use Rattle.pdl_pipe_exprs.specs.Values.{value_signal}
use Rattle.pdl_pipe_walk.specs.Parts.{parts_in}
use Rattle.pdl_pipe_walk.specs.Sized.{IsWalk}
use Rattle.pdl_pipe_walk.proofs.Lists.{on_ok}
use Rattle.pdl_pipe_walk.proofs.WalkGrowth.{walk_more, parts_more, vars_same, reach_at}
use Rattle.pdl_pipe_walk.proofs.ChangedNets.{advising_walk, advising_made}
use Rattle.pdl_pipe_walk.proofs.Updates.{advising_parts}
use Rattle.pdl_pipe_walk.proofs.nets.WalkNets.advise.Goals as goal

pub variable-addr-requires-clause-walk : goal.variable-addr-requires-clause-walk
variable-addr-requires-clause-walk c =
    walk_more c.args.b.now c.all_taken.new.b c.all_taken.ensures.extends (form c.args.pipe.now).pipe
    (form c.args.pipe.now).widths c.args.self.now c.requires.walk

pub value-requires-clause-walk : goal.value-requires-clause-walk
value-requires-clause-walk c =
    walk_more c.args.b.now c.all_taken.new.b c.all_taken.ensures.extends (form c.args.pipe.now).pipe
    (form c.args.pipe.now).widths c.args.self.now c.requires.walk

pub returns-clause-walk : goal.returns-clause-walk
returns-clause-walk c =
    let a = c.args.b.now in
    let one = c.all_taken.new.b in
    let two = c.value.new.b in
    let w = c.args.self.now in
    let p = (form c.args.pipe.now).pipe in
    let ws = (form c.args.pipe.now).widths in
    let first = c.all_taken.ensures.extends in
    let after = c.value.ensures.extends in
    let far = extends_trans a one two first after in
    let addr = c.variable-addr.result in
    on_ok c.push_advising.result
    (λ q. subst (IsWalk two p ws) (sym q)
    (advising_walk two p ws w (walk_more a two far p ws w c.requires.walk) c.args.m c.in_ok-on.on addr c.in_ok-value.value
    (after.there c.in_ok-on.on c.in_ok-on.ensures.means.there) (after.there addr c.variable-addr.ensures.there) c.in_ok-value.ensures.means.there
    c.requires.at.memory c.requires.unlocked
    (ap (λ (f : Signal). f.width) (after.kept c.in_ok-on.on c.in_ok-on.ensures.means.there) ∙ c.in_ok-on.ensures.one)
    (ap (λ (f : Signal). 2 ^ f.width) (after.kept addr c.variable-addr.ensures.there)
    ∙ reach_at one p ws w (walk_more a one first p ws w c.requires.walk) c.args.m c.args.a addr (signal one addr) c.requires.at c.variable-addr.ensures.same)
    (c.in_ok-value.ensures.wide ∙ c.requires.wide)))
    c.push_advising.ensures

pub returns-clause-parts : goal.returns-clause-parts
returns-clause-parts c =
    let a = c.args.b.now in
    let one = c.all_taken.new.b in
    let two = c.value.new.b in
    let w = c.args.self.now in
    let p = (form c.args.pipe.now).pipe in
    let ws = (form c.args.pipe.now).widths in
    let first = c.all_taken.ensures.extends in
    let after = c.value.ensures.extends in
    let far = extends_trans a one two first after in
    let addr = c.variable-addr.result in
    let fs = signals_in a w.vars.items in
    let same = vars_same a one first p ws w c.requires.walk in
    on_ok c.push_advising.result
    (λ q. ap (parts_in two) q ∙ advising_parts two w (record { mem = c.args.m; on = c.in_ok-on.on; addr = addr; value = c.in_ok-value.value })
    ∙ advising_made c.args.m c.args.a (parts_in two w) (parts_in a w) (signal two c.in_ok-on.on) (taken_signal fs (guards_view c.args.guards.now))
    (signal two addr) (signal two c.in_ok-value.value) (value_signal fs (expr_view c.args.e.now))
    (parts_more a two far p ws w c.requires.walk)
    (after.kept c.in_ok-on.on c.in_ok-on.ensures.means.there ∙ c.in_ok-on.ensures.means.same)
    (after.kept addr c.variable-addr.ensures.there ∙ c.variable-addr.ensures.same ∙ ap (λ (l : List Signal). signal_at l c.args.a) same)
    (c.in_ok-value.ensures.means.same ∙ ap (λ (l : List Signal). value_signal l (expr_view c.args.e.now)) same))
    c.push_advising.ensures
