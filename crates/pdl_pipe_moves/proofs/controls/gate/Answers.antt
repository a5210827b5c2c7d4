use Rattle.std.proofs.Common.{length, ap, subst}
use Rattle.pdl_net.proofs.Keeps.{extends_keeps, extends_trans}
use Rattle.pdl_pipe_exprs.specs.Nets.{signals_in, signal_at}
use Rattle.pdl_semantics.specs.Updates.{squash_stages}
use Rattle.pdl_law_parts.specs.Walk.{both}
use Rattle.pdl_law_sides.specs.Sides.{all_answered, unsquashed}
use Rattle.pdl_pipe_nexts.specs.Lines.{line_pipe, line_views}
use Rattle.pdl_pipe_answers.specs.Ports.{IsBitFor, answers_in}
use Rattle.pdl_pipe_beside.specs.Squashed.{squashes_in}
use Rattle.pdl_pipe_beside.proofs.OrderSteps.{squashes_keep, squashes_same}
use Rattle.pdl_pipe_moves.specs.Signs.{path_by, signs_by}
use Rattle.pdl_pipe_moves.proofs.GateParts.{answered_same, both_after}
use Rattle.pdl_pipe_moves.proofs.controls.gate.Goals as goal

pub unsquashed-requires-clause-squashes : goal.unsquashed-requires-clause-squashes
unsquashed-requires-clause-squashes c =
    squashes_keep c.args.b.now c.path_open.new.b c.args.controls.now.squashes
    (extends_keeps c.args.b.now c.path_open.new.b c.path_open.ensures.extends) c.requires.controls.squashes

pub returns-clause-on : goal.returns-clause-on
returns-clause-on c =
    let a = c.args.b.now in
    let b1 = c.path_open.new.b in
    let b2 = c.unsquashed.new.b in
    let b3 = c.both_bits.new.b in
    let b4 = c.all_answered.new.b in
    let b5 = c.both_bits-2.new.b in
    let x = c.args.line.now in
    let y = c.args.controls.now in
    let k = c.args.k in
    let p = line_pipe x in
    let path = path_by p (line_views a x) (signs_by a x y) (signal_at (signals_in a c.args.frees.now)) k in
    let g = unsquashed (squash_stages p.stmts) k (squashes_in a p y.squashes) in
    let e1 = extends_keeps a b1 c.path_open.ensures.extends in
    let e3 =
    extends_keeps a b3
    (extends_trans a b1 b3 c.path_open.ensures.extends (extends_trans b1 b2 b3 c.unsquashed.ensures.extends c.both_bits.ensures.extends)) in
    let lets : IsBitFor b2 c.in_ok-unsquashed.unsquashed g =
    subst (IsBitFor b2 c.in_ok-unsquashed.unsquashed)
    (ap (unsquashed (squash_stages p.stmts) k) (squashes_same a b1 p y.squashes e1 c.requires.controls.squashes)) c.in_ok-unsquashed.ensures.on in
    let passes : IsBitFor b3 c.in_ok-passes.passes (both g path) =
    both_after b1 b2 b3 c.in_ok-unsquashed.unsquashed c.in_ok-path.path c.in_ok-passes.passes g path
    (extends_keeps b1 b2 c.unsquashed.ensures.extends) lets c.in_ok-path.ensures.on c.in_ok-passes.ensures.on in
    let answers = all_answered p (answers_in a x.shared.now.ports.now) k (length p.mems) 0 in
    let answered : IsBitFor b4 c.in_ok-answered.answered answers =
    subst (IsBitFor b4 c.in_ok-answered.answered)
    (answered_same a b3 e3 p x.shared.now.ports.now k (length p.mems) 0 c.requires.line.shared.ports) c.in_ok-answered.ensures.on in
    both_after b3 b4 b5 c.in_ok-answered.answered c.in_ok-passes.passes c.in_ok-gate.gate answers (both g path)
    (extends_keeps b3 b4 c.all_answered.ensures.extends) answered passes c.in_ok-gate.ensures.on
