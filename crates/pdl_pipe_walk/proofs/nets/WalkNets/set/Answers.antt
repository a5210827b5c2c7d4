use Rattle.pdl_net.specs.Meaning.{signal}
use Rattle.pdl_form.specs.FormView.{form}
use Rattle.pdl_pipe_walk.proofs.WalkGrowth.{var_low}
use Rattle.pdl_pipe_walk.proofs.ChangedNets.{set_means, set_parts, set_walk}
use Rattle.pdl_pipe_walk.proofs.nets.WalkNets.set.Goals as goal

pub put_var-requires : goal.put_var-requires
put_var-requires c = var_low c.args.b.now (form c.args.pipe.now).pipe (form c.args.pipe.now).widths c.args.self.now c.requires.walk c.args.x c.requires.low

pub returns-clause-parts : goal.returns-clause-parts
returns-clause-parts c =
    let a = c.args.b.now in
    let e = c.put_var.ensures in
    set_parts a c.mux.new.self c.mux.ensures.extends (form c.args.pipe.now).pipe
    (form c.args.pipe.now).widths c.args.self.now c.requires.walk c.put_var.new.self c.args.x c.in_ok-new.new
    (signal a c.args.on)
    (signal a c.args.net)
    (set_means a c.mux.new.self c.in_ok-new.new (signal a c.args.on)
    (signal a c.args.net) _ _ c.variable-old.ensures.same c.in_ok-new.ensures.means) e.vars e.marks e.births e.rest

pub returns-clause-walk : goal.returns-clause-walk
returns-clause-walk c =
    let a = c.args.b.now in
    let e = c.put_var.ensures in
    set_walk a c.mux.new.self c.mux.ensures.extends (form c.args.pipe.now).pipe
    (form c.args.pipe.now).widths c.args.self.now c.requires.walk c.put_var.new.self c.args.x c.in_ok-new.new
    (signal a c.args.on)
    (signal a c.args.net)
    (set_means a c.mux.new.self c.in_ok-new.new (signal a c.args.on)
    (signal a c.args.net) _ _ c.variable-old.ensures.same c.in_ok-new.ensures.means) e.vars e.marks e.births e.rest c.requires.net.width
