use Rattle.std.proofs.Common.{◌≡◌, ◌∙◌, refl, ap, ap₂}
use Rattle.pdl_net.specs.Signal.{mux_signal}
use Rattle.pdl_net.specs.Meaning.{signal}
use Rattle.pdl_net.proofs.Keeps.{extends_trans, extends_keeps}
use Rattle.pdl_form.specs.FormView.{form}
use Rattle.pdl_law_parts.specs.Walk.{one, both}
use Rattle.pdl_pipe_walk.proofs.Updates.{fails_parts}
use Rattle.pdl_pipe_walk.proofs.ChangedNets.{fails_walk}
use Rattle.pdl_pipe_walk.proofs.nets.WalkNets.fail.Goals as goal

pub returns-clause-walk : goal.returns-clause-walk
returns-clause-walk c =
    let a = c.args.b.now in
    let b = c.both.new.b in
    let d = c.mux.new.self in
    let e = c.both.ensures.extends in
    let w = c.args.self.now in
    let on = signal a c.args.on in
    let wrong = signal a c.args.wrong in
    let means = c.in_ok-fails.ensures.means in
    let one_is = e.kept c.args.bits.one c.requires.bits.one.there ∙ c.requires.bits.one.same in
    let same : signal d c.in_ok-fails.fails ≡ mux_signal (both on wrong) one (signal a w.fails) =
    means.same ∙ ap (λ f. mux_signal f (signal b c.args.bits.one) (signal b w.fails)) c.in_ok-here.ensures.means.same
    ∙ ap₂ (mux_signal (both on wrong)) one_is (e.kept w.fails c.requires.walk.there.fails) in
    fails_walk a d (extends_trans a b d e c.mux.ensures.extends)
    (form c.args.pipe.now).pipe (form c.args.pipe.now).widths w c.requires.walk c.in_ok-fails.fails
    (mux_signal (both on wrong) one (signal a w.fails)) means.there same refl

pub returns-clause-parts : goal.returns-clause-parts
returns-clause-parts c =
    let a = c.args.b.now in
    let b = c.both.new.b in
    let d = c.mux.new.self in
    let e = c.both.ensures.extends in
    let w = c.args.self.now in
    let on = signal a c.args.on in
    let wrong = signal a c.args.wrong in
    let means = c.in_ok-fails.ensures.means in
    let one_is = e.kept c.args.bits.one c.requires.bits.one.there ∙ c.requires.bits.one.same in
    let same : signal d c.in_ok-fails.fails ≡ mux_signal (both on wrong) one (signal a w.fails) =
    means.same ∙ ap (λ f. mux_signal f (signal b c.args.bits.one) (signal b w.fails)) c.in_ok-here.ensures.means.same
    ∙ ap₂ (mux_signal (both on wrong)) one_is (e.kept w.fails c.requires.walk.there.fails) in
    fails_parts a d
    (extends_keeps a d (extends_trans a b d e c.mux.ensures.extends)) w c.requires.walk.there c.in_ok-fails.fails
    (mux_signal (both on wrong) one (signal a w.fails)) same
