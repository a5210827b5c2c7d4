use Rattle.std.proofs.Common.{◌∙◌, List, sym, ap, subst}
use Rattle.pdl_net.specs.Signal.{Signal}
use Rattle.pdl_net.specs.Meaning.{signal}
use Rattle.pdl_net.proofs.Keeps.{extends_trans}
use Rattle.pdl_form.specs.FormView.{form}
use Rattle.pdl_form.specs.View.{guards_view, expr_view}
use Rattle.pdl_pipe_exprs.specs.Nets.{signals_in}
use Rattle.pdl_pipe_exprs.specs.Conditions.{taken_signal}
use Rattle.pdl_pipe_exprs.specs.Values.{value_signal}
use Rattle.pdl_pipe_walk.specs.Parts.{parts_in}
use Rattle.pdl_pipe_walk.specs.Sized.{IsWalk}
use Rattle.pdl_pipe_walk.proofs.Lists.{on_ok}
use Rattle.pdl_pipe_walk.proofs.WalkGrowth.{walk_more, parts_more, vars_same}
use Rattle.pdl_pipe_walk.proofs.ChangedNets.{put_walk, put_same}
use Rattle.pdl_pipe_walk.proofs.Updates.{put_parts}
use Rattle.pdl_pipe_walk.proofs.nets.WalkNets.write.Goals as goal

pub value-requires-clause-walk : goal.value-requires-clause-walk
value-requires-clause-walk g c =
    walk_more c.args.b.now c.all_taken.new.b c.all_taken.ensures.extends (form c.args.setting.now.pipe.now).pipe
    (form c.args.setting.now.pipe.now).widths c.args.self.now c.requires.walk

pub returns-clause-walk : goal.returns-clause-walk
returns-clause-walk g c =
    let a = c.args.b.now in
    let one = c.all_taken.new.b in
    let w = c.args.self.now in
    let first = c.all_taken.ensures.extends in
    let two = c.value.new.b in
    let after = c.value.ensures.extends in
    let far = extends_trans a one two first after in
    on_ok c.push_put.result
    (λ q. subst (IsWalk two (form c.args.setting.now.pipe.now).pipe (form c.args.setting.now.pipe.now).widths) (sym q)
    (put_walk two (form c.args.setting.now.pipe.now).pipe (form c.args.setting.now.pipe.now).widths w
    (walk_more a two far (form c.args.setting.now.pipe.now).pipe (form c.args.setting.now.pipe.now).widths w c.requires.walk) c.args.m c.args.a
    c.in_ok-on.on c.in_ok-value.value
    (after.there c.in_ok-on.on c.in_ok-on.ensures.means.there) c.in_ok-value.ensures.means.there c.requires.low
    (ap (λ (f : Signal). f.width) (after.kept c.in_ok-on.on c.in_ok-on.ensures.means.there) ∙ c.in_ok-on.ensures.one)
    (c.in_ok-value.ensures.wide ∙ c.requires.wide)))
    c.push_put.ensures

pub returns-clause-parts : goal.returns-clause-parts
returns-clause-parts g c =
    let a = c.args.b.now in
    let one = c.all_taken.new.b in
    let w = c.args.self.now in
    let first = c.all_taken.ensures.extends in
    let two = c.value.new.b in
    let far = extends_trans a one two first c.value.ensures.extends in
    let fs = signals_in a w.vars.items in
    on_ok c.push_put.result
    (λ q. ap (parts_in two) q ∙ put_parts two w (record { mem = c.args.m; var = c.args.a; on = c.in_ok-on.on; value = c.in_ok-value.value })
    ∙ put_same c.args.m c.args.a (signal two c.in_ok-on.on) (taken_signal fs (guards_view c.args.guards.now))
    (signal two c.in_ok-value.value) (value_signal fs (expr_view c.args.e.now)) (parts_in two w) (parts_in a w)
    (c.value.ensures.extends.kept c.in_ok-on.on c.in_ok-on.ensures.means.there ∙ c.in_ok-on.ensures.means.same)
    (c.in_ok-value.ensures.means.same
    ∙ ap (λ (l : List Signal). value_signal l (expr_view c.args.e.now))
    (vars_same a one first (form c.args.setting.now.pipe.now).pipe (form c.args.setting.now.pipe.now).widths w c.requires.walk))
    (parts_more a two far (form c.args.setting.now.pipe.now).pipe (form c.args.setting.now.pipe.now).widths w c.requires.walk))
    c.push_put.ensures
