use Rattle.std.proofs.Common.{◌∙◌, List, ap}
use Rattle.pdl_net.specs.Signal.{Signal}
use Rattle.pdl_net.specs.Meaning.{signal}
use Rattle.pdl_net.proofs.Keeps.{extends_trans}
use Rattle.pdl_form.specs.FormView.{form}
use Rattle.pdl_form.specs.View.{guards_view, exprs_view}
use Rattle.pdl_pipe_exprs.specs.Nets.{signals_in}
use Rattle.pdl_pipe_exprs.specs.Conditions.{taken_signal}
use Rattle.pdl_pipe_exprs.specs.Values.{value_signals}
use Rattle.pdl_pipe_walk.specs.Parts.{parts_in}
use Rattle.pdl_pipe_walk.proofs.Lists.{on_ok}
use Rattle.pdl_pipe_walk.proofs.WalkGrowth.{walk_more, parts_more, vars_same}
use Rattle.pdl_pipe_walk.proofs.ChangedNets.{birth_made, call_same}
use Rattle.pdl_pipe_walk.proofs.nets.WalkNets.call.Goals as goal

pub values-requires-clause-walk : goal.values-requires-clause-walk
values-requires-clause-walk c =
    walk_more c.args.b.now c.all_taken.new.b c.all_taken.ensures.extends (form c.args.pipe.now).pipe
    (form c.args.pipe.now).widths c.args.self.now c.requires.walk

pub returns-clause-walk : goal.returns-clause-walk
returns-clause-walk c =
    let a = c.args.b.now in
    let one = c.all_taken.new.b in
    let w = c.args.self.now in
    let first = c.all_taken.ensures.extends in
    let two = c.values.new.b in
    let after = c.values.ensures.extends in
    let far = extends_trans a one two first after in
    let wide = c.in_ok-nets.ensures.wide in
    on_ok c.push_birth.result (λ q. q.0)
    (birth_made two c.push_birth.result (form c.args.pipe.now).pipe
    (form c.args.pipe.now).widths w c.push_birth.new.self c.in_ok-on.on c.in_ok-nets.nets
    (walk_more a two far (form c.args.pipe.now).pipe (form c.args.pipe.now).widths w c.requires.walk)
    (after.there c.in_ok-on.on c.in_ok-on.ensures.means.there)
    (ap (λ (f : Signal). f.width) (after.kept c.in_ok-on.on c.in_ok-on.ensures.means.there) ∙ c.in_ok-on.ensures.one) c.in_ok-nets.ensures.there wide
    c.push_birth.ensures.births c.push_birth.ensures.vars c.push_birth.ensures.marks c.push_birth.ensures.rest)

pub returns-clause-parts : goal.returns-clause-parts
returns-clause-parts c =
    let a = c.args.b.now in
    let one = c.all_taken.new.b in
    let w = c.args.self.now in
    let first = c.all_taken.ensures.extends in
    let two = c.values.new.b in
    let after = c.values.ensures.extends in
    let far = extends_trans a one two first after in
    let fs = signals_in a w.vars.items in
    let wide = c.in_ok-nets.ensures.wide in
    on_ok c.push_birth.result
    (λ q. q.1
    ∙ call_same (signal two c.in_ok-on.on) (taken_signal fs (guards_view c.args.guards.now))
    (signals_in two c.in_ok-nets.nets) (value_signals fs (exprs_view c.args.args.now)) (parts_in two w)
    (parts_in a w)
    (after.kept c.in_ok-on.on c.in_ok-on.ensures.means.there ∙ c.in_ok-on.ensures.means.same)
    (c.in_ok-nets.ensures.means
    ∙ ap (λ (l : List Signal). value_signals l (exprs_view c.args.args.now))
    (vars_same a one first (form c.args.pipe.now).pipe (form c.args.pipe.now).widths w c.requires.walk))
    (parts_more a two far (form c.args.pipe.now).pipe (form c.args.pipe.now).widths w c.requires.walk))
    (birth_made two c.push_birth.result (form c.args.pipe.now).pipe
    (form c.args.pipe.now).widths w c.push_birth.new.self c.in_ok-on.on c.in_ok-nets.nets
    (walk_more a two far (form c.args.pipe.now).pipe (form c.args.pipe.now).widths w c.requires.walk)
    (after.there c.in_ok-on.on c.in_ok-on.ensures.means.there)
    (ap (λ (f : Signal). f.width) (after.kept c.in_ok-on.on c.in_ok-on.ensures.means.there) ∙ c.in_ok-on.ensures.one) c.in_ok-nets.ensures.there wide
    c.push_birth.ensures.births c.push_birth.ensures.vars c.push_birth.ensures.marks c.push_birth.ensures.rest)
