use Rattle.std.proofs.Common.{◌≡◌, ◌+◌, ◌-◌, subst, ◌∙◌, arith}
use Rattle.pdl_net.proofs.Keeps.{extends_keeps, extends_trans}
use Rattle.pdl_pipe_beside.proofs.PortSteps.{ports_stand}
use Rattle.pdl_pipe_nexts.specs.Lines.{line_pipe}
use Rattle.pdl_pipe_nexts.proofs.LineGrowth.{line_keep}
use Rattle.pdl_pipe_moves.specs.Signs.{signs_by}
use Rattle.pdl_pipe_moves.specs.Passed.{ArePassed}
use Rattle.pdl_pipe_moves.proofs.AllMoves.{controls_keep}
use Rattle.pdl_pipe_moves.proofs.passing.Passages.pass_down.Goals as goal

pub pass-requires-clause-line : goal.pass-requires-clause-line
pass-requires-clause-line c = line_keep c.args.b.now c.loop-i.b c.args.line.now (extends_keeps c.args.b.now c.loop-i.b c.loop-i.invariant.0) c.requires.line

pub pass-requires-clause-stand : goal.pass-requires-clause-stand
pass-requires-clause-stand c =
    ports_stand c.args.b.now c.loop-i.b (line_pipe c.args.line.now) c.args.line.now.shared.now.ports.now
    (extends_keeps c.args.b.now c.loop-i.b c.loop-i.invariant.0) c.requires.stand

pub pass-requires-clause-controls : goal.pass-requires-clause-controls
pass-requires-clause-controls c =
    controls_keep c.args.b.now c.loop-i.b (line_pipe c.args.line.now) c.args.controls.now
    (extends_keeps c.args.b.now c.loop-i.b c.loop-i.invariant.0) c.requires.controls

pub pass-requires-clause-passed : goal.pass-requires-clause-passed
pass-requires-clause-passed c =
    let b = c.loop-i.b in
    let x = c.args.line.now in
    let t = c.loop-i-test.true in
    let at : c.args.high - c.loop-i.i ≡ c.args.high - 1 - c.loop-i.i + 1 = omega (arith, t) in
    subst (λ k. ArePassed b x (signs_by b x c.args.controls.now) c.loop-i.self.moves.items c.loop-i.self.frees.items k) at c.loop-i.invariant.1

pub loop-i-preserved : goal.loop-i-preserved
loop-i-preserved c =
    let a = c.args.b.now in
    let b = c.loop-i.b in
    let d = c.pass.new.b in
    let x = c.args.line.now in
    let t = c.loop-i-test.true in
    let at : c.args.high - 1 - c.loop-i.i ≡ c.args.high - (c.loop-i.i + 1) = omega (arith, t) in (
      extends_trans a b d c.loop-i.invariant.0 c.pass.ensures.extends,
      subst (λ k. ArePassed d x (signs_by d x c.args.controls.now) c.pass.new.self.moves.items c.pass.new.self.frees.items k) at c.in_ok-pass.ensures.passed,
      λ q l. c.in_ok-pass.ensures.later q (omega (arith, t, l)) ∙ c.loop-i.invariant.2 q l,
    )
