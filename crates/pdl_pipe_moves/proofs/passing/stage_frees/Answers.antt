use Rattle.std.proofs.Common.{sym, subst, ◌+◌}
use Rattle.pdl_net.proofs.Keeps.{extends_keeps, extends_trans}
use Rattle.pdl_pipe_nexts.proofs.LineGrowth.{line_keep}
use Rattle.pdl_pipe_beside.proofs.PortSteps.{ports_stand}
use Rattle.pdl_pipe_nexts.specs.Lines.{line_pipe}
use Rattle.pdl_pipe_moves.specs.Passed.{HaveFree}
use Rattle.pdl_pipe_moves.proofs.FreePorts.{have_keep, free_more}
use Rattle.pdl_pipe_moves.proofs.passing.stage_frees.Goals as goal

pub memory_free-requires-clause-line : goal.memory_free-requires-clause-line
memory_free-requires-clause-line c =
    line_keep c.args.b.now c.loop-m.b c.args.line.now (extends_keeps c.args.b.now c.loop-m.b c.loop-m.invariant.0) c.requires.line

pub memory_free-requires-clause-stand : goal.memory_free-requires-clause-stand
memory_free-requires-clause-stand c =
    ports_stand c.args.b.now c.loop-m.b (line_pipe c.args.line.now) c.args.line.now.shared.now.ports.now
    (extends_keeps c.args.b.now c.loop-m.b c.loop-m.invariant.0) c.requires.stand

pub loop-m-preserved : goal.loop-m-preserved
loop-m-preserved c =
    let a = c.args.b.now in
    let b = c.loop-m.b in
    let d = c.memory_free.new.b in
    let x = c.args.line.now in
    let e = extends_keeps a b c.loop-m.invariant.0 in
    let more = free_more d x c.args.k c.loop-m.nets c.loop-m.m c.in_ok-free.free
    (have_keep b d (extends_keeps b d c.memory_free.ensures.extends) x
    (line_keep a b x e c.requires.line) c.requires.inside
    (ports_stand a b
    (line_pipe x) x.shared.now.ports.now e c.requires.stand) c.args.k c.requires.low c.loop-m.nets c.loop-m.m c.loop-m.invariant.1) c.in_ok-free.ensures.free in (
      extends_trans a b d c.loop-m.invariant.0 c.memory_free.ensures.extends,
      subst (λ ys. HaveFree d x c.args.k ys (c.loop-m.m + 1)) (sym c.in_ok-push.ensures.ok) more,
    )
