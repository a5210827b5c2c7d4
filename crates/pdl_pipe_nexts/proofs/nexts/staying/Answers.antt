use Rattle.std.proofs.Common.{arith}
use Rattle.pdl_net.proofs.KeptWidths.{width_kept, width_meant}
use Rattle.pdl_pipe_nexts.proofs.LineGrowth.{bits_there, bit_one}
use Rattle.pdl_pipe_nexts.proofs.nexts.staying.Goals as goal

pub variable-removed-requires-clause-there : goal.variable-removed-requires-clause-there
variable-removed-requires-clause-there c = bits_there c.args.b.now c.args.line.now.kills.now c.requires.line.kills

pub variable-moves-requires-clause-there : goal.variable-moves-requires-clause-there
variable-moves-requires-clause-there c = bits_there c.args.b.now c.args.line.now.moves.now c.requires.line.moves

pub mux-requires-clause-choice : goal.mux-requires-clause-choice
mux-requires-clause-choice c =
    let l = c.requires.low in
    let n = c.requires.line.count in
    let m = c.requires.line.kills_count in
    width_meant c.args.b.now c.variable-removed.result _ 1 c.variable-removed.ensures
    (bit_one c.args.b.now c.args.line.now.kills.now c.args.k (omega (arith, l, n, m)) c.requires.line.kills)

pub mux-requires-2-clause-choice : goal.mux-requires-2-clause-choice
mux-requires-2-clause-choice c =
    let l = c.requires.low in
    let n = c.requires.line.count in
    let m = c.requires.line.moves_count in
    width_kept c.args.b.now c.mux.new.self c.variable-moves.result 1 c.mux.ensures.extends
    (width_meant c.args.b.now c.variable-moves.result _ 1 c.variable-moves.ensures
    (bit_one c.args.b.now c.args.line.now.moves.now c.args.k (omega (arith, l, n, m)) c.requires.line.moves))
