use Rattle.pdl_net.specs.Meaning.{signal}
use Rattle.pdl_net.proofs.Keeps.{extends_trans}
use Rattle.pdl_form.specs.FormView.{form}
use Rattle.pdl_pipe_walk.proofs.ChangedNets.{wait_signal, wait_parts, wait_walk}
use Rattle.pdl_pipe_walk.proofs.nets.WalkNets.wait.Goals as goal

pub returns-clause-parts : goal.returns-clause-parts
returns-clause-parts c =
    let a = c.args.b.now in
    let e = extends_trans a c.mux.new.self c.both.new.b c.mux.ensures.extends c.both.ensures.extends in
    wait_parts a c.both.new.b e (form c.args.pipe.now).pipe
    (form c.args.pipe.now).widths c.args.self.now c.requires.walk c.in_ok-ready.ready (signal a c.args.on)
    (signal a c.args.net) c.in_ok-ready.ensures.means.there
    (wait_signal a c.mux.new.self c.both.new.b c.args.self.now.ready c.in_ok-asked.asked c.in_ok-ready.ready c.args.bits.one (signal a c.args.on)
    (signal a c.args.net) c.mux.ensures.extends c.requires.walk.there.ready c.requires.bits.one.same c.in_ok-asked.ensures.means c.in_ok-ready.ensures.means)

pub returns-clause-walk : goal.returns-clause-walk
returns-clause-walk c =
    let a = c.args.b.now in
    let e = extends_trans a c.mux.new.self c.both.new.b c.mux.ensures.extends c.both.ensures.extends in
    wait_walk a c.both.new.b e (form c.args.pipe.now).pipe
    (form c.args.pipe.now).widths c.args.self.now c.requires.walk c.in_ok-ready.ready (signal a c.args.on)
    (signal a c.args.net) c.in_ok-ready.ensures.means.there
    (wait_signal a c.mux.new.self c.both.new.b c.args.self.now.ready c.in_ok-asked.asked c.in_ok-ready.ready c.args.bits.one (signal a c.args.on)
    (signal a c.args.net) c.mux.ensures.extends c.requires.walk.there.ready c.requires.bits.one.same c.in_ok-asked.ensures.means c.in_ok-ready.ensures.means)
    c.requires.net.width
