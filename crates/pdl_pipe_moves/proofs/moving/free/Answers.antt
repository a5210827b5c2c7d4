use Rattle.std.proofs.Common.{sym, ap, ◌∙◌, arith}
use Rattle.pdl_net.specs.Signal.{Signal}
use Rattle.pdl_pipe_nexts.proofs.LineGrowth.{bits_there, bit_one}
use Rattle.pdl_pipe_moves.proofs.moving.free.Goals as goal

pub variable-moves-requires-clause-there : goal.variable-moves-requires-clause-there
variable-moves-requires-clause-there c = bits_there c.args.b.now c.args.line.now.moves.now c.requires.line.moves

pub mux-requires-clause-widths : goal.mux-requires-clause-widths
mux-requires-clause-widths c =
    let n = c.requires.line.count in
    let m = c.requires.line.moves_count in
    let l = c.requires.low in
    ap (λ (f : Signal). f.width) c.variable-moves.ensures.same
    ∙ bit_one c.args.b.now c.args.line.now.moves.now c.args.q (omega (arith, n, m, l)) c.requires.line.moves
    ∙ sym (ap (λ (f : Signal). f.width) c.requires.line.shared.bits.one.same)

pub returns-clause-one : goal.returns-clause-one
returns-clause-one c =
    let n = c.requires.line.count in
    let m = c.requires.line.moves_count in
    let l = c.requires.low in
    ap (λ (f : Signal). f.width) c.in_ok-net.ensures.means.same
    ∙ ap (λ (f : Signal). f.width) c.variable-moves.ensures.same
    ∙ bit_one c.args.b.now c.args.line.now.moves.now c.args.q (omega (arith, n, m, l)) c.requires.line.moves
