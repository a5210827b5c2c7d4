use Rattle.std.proofs.Common.{◌≡◌, ◌∙◌, refl, ap, ap₂}
use Rattle.pdl_net.specs.Signal.{mux_signal}
use Rattle.pdl_net.specs.Meaning.{signal}
use Rattle.pdl_net.proofs.Keeps.{extends_trans, extends_keeps}
use Rattle.pdl_form.specs.FormView.{form}
use Rattle.pdl_form.specs.View.{guards_view}
use Rattle.pdl_pipe_exprs.specs.Nets.{signals_in}
use Rattle.pdl_pipe_exprs.specs.Conditions.{taken_signal}
use Rattle.pdl_law_parts.specs.Walk.{one}
use Rattle.pdl_pipe_walk.proofs.Updates.{barrier_parts}
use Rattle.pdl_pipe_walk.proofs.ChangedNets.{barrier_walk}
use Rattle.pdl_pipe_walk.proofs.nets.WalkNets.spec_barrier.Goals as goal

pub returns-clause-walk : goal.returns-clause-walk
returns-clause-walk c =
    let a = c.args.b.now in
    let b = c.all_taken.new.b in
    let d = c.mux.new.self in
    let e = c.all_taken.ensures.extends in
    let w = c.args.self.now in
    let on = taken_signal (signals_in a w.vars.items) (guards_view c.args.guards.now) in
    let means = c.in_ok-barrier.ensures.means in
    let one_is = e.kept c.args.bits.one c.requires.bits.one.there ∙ c.requires.bits.one.same in
    let same : signal d c.in_ok-barrier.barrier ≡ mux_signal on one (signal a w.barrier) =
    means.same ∙ ap (λ f. mux_signal f (signal b c.args.bits.one) (signal b w.barrier)) c.in_ok-on.ensures.means.same
    ∙ ap₂ (mux_signal on) one_is (e.kept w.barrier c.requires.walk.there.barrier) in
    barrier_walk a d (extends_trans a b d e c.mux.ensures.extends)
    (form c.args.pipe.now).pipe (form c.args.pipe.now).widths w c.requires.walk c.in_ok-barrier.barrier
    (mux_signal on one (signal a w.barrier)) means.there same refl

pub returns-clause-parts : goal.returns-clause-parts
returns-clause-parts c =
    let a = c.args.b.now in
    let b = c.all_taken.new.b in
    let d = c.mux.new.self in
    let e = c.all_taken.ensures.extends in
    let w = c.args.self.now in
    let on = taken_signal (signals_in a w.vars.items) (guards_view c.args.guards.now) in
    let means = c.in_ok-barrier.ensures.means in
    let one_is = e.kept c.args.bits.one c.requires.bits.one.there ∙ c.requires.bits.one.same in
    let same : signal d c.in_ok-barrier.barrier ≡ mux_signal on one (signal a w.barrier) =
    means.same ∙ ap (λ f. mux_signal f (signal b c.args.bits.one) (signal b w.barrier)) c.in_ok-on.ensures.means.same
    ∙ ap₂ (mux_signal on) one_is (e.kept w.barrier c.requires.walk.there.barrier) in
    barrier_parts a d
    (extends_keeps a d (extends_trans a b d e c.mux.ensures.extends)) w c.requires.walk.there c.in_ok-barrier.barrier
    (mux_signal on one (signal a w.barrier)) same
