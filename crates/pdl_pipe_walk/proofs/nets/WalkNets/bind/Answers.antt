use Rattle.std.proofs.Common.{◌∙◌, List, ap}
use Rattle.pdl_net.specs.Signal.{Signal}
use Rattle.pdl_net.specs.Meaning.{signal}
use Rattle.pdl_net.proofs.Keeps.{extends_trans}
use Rattle.pdl_form.specs.FormView.{form}
use Rattle.pdl_form.specs.View.{guards_view, expr_view}
use Rattle.pdl_pipe_exprs.specs.Nets.{signals_in}
use Rattle.pdl_pipe_exprs.specs.Conditions.{taken_signal}
use Rattle.pdl_pipe_exprs.specs.Values.{value_signal}
use Rattle.pdl_pipe_walk.specs.Parts.{parts_in}
use Rattle.pdl_pipe_walk.proofs.Lists.{on_ok}
use Rattle.pdl_pipe_walk.proofs.WalkGrowth.{walk_more, parts_more, vars_same}
use Rattle.pdl_pipe_walk.proofs.ChangedNets.{var_same}
use Rattle.pdl_pipe_walk.proofs.nets.WalkNets.bind.Goals as goal

pub value-requires-clause-walk : goal.value-requires-clause-walk
value-requires-clause-walk c =
    walk_more c.args.b.now c.all_taken.new.b c.all_taken.ensures.extends (form c.args.pipe.now).pipe
    (form c.args.pipe.now).widths c.args.self.now c.requires.walk

pub set-requires-clause-walk : goal.set-requires-clause-walk
set-requires-clause-walk c =
    walk_more c.args.b.now c.value.new.b (extends_trans c.args.b.now c.all_taken.new.b c.value.new.b c.all_taken.ensures.extends c.value.ensures.extends)
    (form c.args.pipe.now).pipe (form c.args.pipe.now).widths c.args.self.now c.requires.walk

pub set-requires-clause-net : goal.set-requires-clause-net
set-requires-clause-net c = record { there = c.in_ok-net.ensures.means.there; width = c.in_ok-net.ensures.wide ∙ c.requires.wide }

pub returns-clause-parts : goal.returns-clause-parts
returns-clause-parts c =
    let a = c.args.b.now in
    let one = c.all_taken.new.b in
    let w = c.args.self.now in
    let first = c.all_taken.ensures.extends in
    let two = c.value.new.b in
    let far = extends_trans a one two first c.value.ensures.extends in
    let fs = signals_in a w.vars.items in
    on_ok c.set.result
    (λ q. q
    ∙ var_same c.args.x (signal two c.in_ok-on.on) (taken_signal fs (guards_view c.args.guards.now))
    (signal two c.in_ok-net.net) (value_signal fs (expr_view c.args.e.now)) (parts_in two w) (parts_in a w)
    (c.value.ensures.extends.kept c.in_ok-on.on c.in_ok-on.ensures.means.there ∙ c.in_ok-on.ensures.means.same)
    (c.in_ok-net.ensures.means.same
    ∙ ap (λ (l : List Signal). value_signal l (expr_view c.args.e.now))
    (vars_same a one first (form c.args.pipe.now).pipe (form c.args.pipe.now).widths w c.requires.walk))
    (parts_more a two far (form c.args.pipe.now).pipe (form c.args.pipe.now).widths w c.requires.walk))
    c.set.ensures.parts
