use Rattle.std.proofs.Common.{◌∙◌, ap, sym}
use Rattle.pdl_net.specs.Signal.{Signal}
use Rattle.pdl_net.specs.Meaning.{signal}
use Rattle.pdl_form.specs.FormView.{form}
use Rattle.pdl_pipe_walk.specs.Parts.{parts_in}
use Rattle.pdl_pipe_walk.proofs.NetGrowth.{mark_width}
use Rattle.pdl_pipe_walk.proofs.Lists.{on_ok}
use Rattle.pdl_pipe_walk.proofs.ChangedNets.{set_means, mark_parts, mark_walk}
use Rattle.pdl_pipe_walk.proofs.nets.WalkNets.set_mark.Goals as goal

pub mux-requires-clause-widths : goal.mux-requires-clause-widths
mux-requires-clause-widths c =
    c.requires.net.width
    ∙ sym
    (ap (λ (f : Signal). f.width) c.is_marked-old.ensures.same
    ∙ mark_width (parts_in c.args.b.now c.args.self.now).marks c.args.entry.mark c.args.entry.mem c.args.entry.var c.requires.walk.sized.marks)

pub returns-clause-parts : goal.returns-clause-parts
returns-clause-parts c =
    let a = c.args.b.now in
    let e = c.push_mark.ensures in
    on_ok c.push_mark.result
    (λ q. mark_parts a c.mux.new.self c.mux.ensures.extends (form c.args.pipe.now).pipe
    (form c.args.pipe.now).widths c.args.self.now c.requires.walk c.push_mark.new.self c.args.entry.mark c.args.entry.mem c.args.entry.var c.in_ok-net.net
    (signal a c.args.on)
    (signal a c.args.entry.net)
    (set_means a c.mux.new.self c.in_ok-net.net (signal a c.args.on)
    (signal a c.args.entry.net) _ _ c.is_marked-old.ensures.same c.in_ok-net.ensures.means) q e.vars e.births e.rest)
    e.marks

pub returns-clause-walk : goal.returns-clause-walk
returns-clause-walk c =
    let a = c.args.b.now in
    let e = c.push_mark.ensures in
    on_ok c.push_mark.result
    (λ q. mark_walk a c.mux.new.self c.mux.ensures.extends (form c.args.pipe.now).pipe
    (form c.args.pipe.now).widths c.args.self.now c.requires.walk c.push_mark.new.self c.args.entry.mark c.args.entry.mem c.args.entry.var c.in_ok-net.net
    (signal a c.args.on)
    (signal a c.args.entry.net)
    (set_means a c.mux.new.self c.in_ok-net.net (signal a c.args.on)
    (signal a c.args.entry.net) _ _ c.is_marked-old.ensures.same c.in_ok-net.ensures.means) q e.vars e.births e.rest c.requires.net.width)
    e.marks
