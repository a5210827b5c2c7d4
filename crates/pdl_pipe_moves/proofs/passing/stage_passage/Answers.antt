use Rattle.std.proofs.Common.{subst}
use Rattle.pdl_net.proofs.Keeps.{extends_keeps, extends_trans}
use Rattle.pdl_pipe_exprs.specs.Nets.{signals_in, signal_at}
use Rattle.pdl_pipe_answers.specs.Ports.{IsBitFor}
use Rattle.pdl_pipe_moves.specs.Signs.{gate_by, signs_by}
use Rattle.pdl_pipe_beside.proofs.PortSteps.{ports_stand}
use Rattle.pdl_pipe_nexts.specs.Lines.{line_pipe, line_views}
use Rattle.pdl_pipe_nexts.proofs.LineGrowth.{line_keep}
use Rattle.pdl_pipe_moves.proofs.FreePorts.{have_keep}
use Rattle.pdl_pipe_moves.proofs.AllMoves.{controls_keep, moved_so}
use Rattle.pdl_pipe_moves.proofs.passing.stage_passage.Goals as goal

pub gate-requires-clause-line : goal.gate-requires-clause-line
gate-requires-clause-line c =
    line_keep c.args.b.now c.stage_frees.new.b c.args.line.now (extends_keeps c.args.b.now c.stage_frees.new.b c.stage_frees.ensures.extends) c.requires.line

pub gate-requires-clause-controls : goal.gate-requires-clause-controls
gate-requires-clause-controls c =
    controls_keep c.args.b.now c.stage_frees.new.b (line_pipe c.args.line.now) c.args.controls.now
    (extends_keeps c.args.b.now c.stage_frees.new.b c.stage_frees.ensures.extends) c.requires.controls

pub stage_moves-requires-clause-line : goal.stage_moves-requires-clause-line
stage_moves-requires-clause-line c =
    let a = c.args.b.now in
    let b1 = c.stage_frees.new.b in
    let b2 = c.gate.new.b in
    line_keep a b2 c.args.line.now (extends_keeps a b2 (extends_trans a b1 b2 c.stage_frees.ensures.extends c.gate.ensures.extends)) c.requires.line

pub returns-clause-passage : goal.returns-clause-passage
returns-clause-passage c =
    let a = c.args.b.now in
    let b1 = c.stage_frees.new.b in
    let b2 = c.gate.new.b in
    let d = c.stage_moves.new.b in
    let x = c.args.line.now in
    let y = c.args.controls.now in
    let e = extends_keeps a b1 c.stage_frees.ensures.extends in
    let e2 = extends_keeps b1 b2 c.gate.ensures.extends in
    let e3 = extends_keeps b2 d c.stage_moves.ensures.extends in
    let e4 = extends_keeps b1 d (extends_trans b1 b2 d c.gate.ensures.extends c.stage_moves.ensures.extends) in
    let line = line_keep a b1 x e c.requires.line in
    let free = c.in_ok-frees.ensures.free in
    let moves = c.in_ok-moves.ensures.moves in
    let gate =
    subst
    (λ fs. IsBitFor b2 c.in_ok-gate.gate
    (gate_by (line_pipe x) (line_views b1 x) (signs_by b1 x y) (signal_at (signals_in b1 fs)) c.args.k)) c.as_slice.ensures c.in_ok-gate.ensures.on in
    record {
      bit = moves.bit;
      frees =
          have_keep b1 d e4 x line c.requires.inside
          (ports_stand a b1 (line_pipe x) x.shared.now.ports.now e c.requires.stand) c.args.k c.requires.low c.in_ok-frees.frees _ free;
      moves =
          moved_so b1 b2 e2 x y line c.requires.inside
          (controls_keep a b1
          (line_pipe x) y e c.requires.controls) d e3 c.in_ok-frees.frees c.in_ok-gate.gate c.in_ok-moves.moves c.args.k c.requires.low free.bits gate moves;
    }
