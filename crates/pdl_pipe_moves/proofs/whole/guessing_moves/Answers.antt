use Rattle.pdl_net.proofs.Keeps.{extends_keeps}
use Rattle.pdl_pipe_walk.proofs.NetGrowth.{bits_keep}
use Rattle.pdl_pipe_moves.proofs.MovedStages.{moved_verified}
use Rattle.pdl_pipe_moves.proofs.whole.guessing_moves.Goals as goal

pub returns-clause-moved : goal.returns-clause-moved
returns-clause-moved c =
    let a = c.args.b.now in
    let d = c.verified_moves.new.b in
    let x = c.args.line.now in
    let e = extends_keeps a d c.verified_moves.ensures.extends in
    moved_verified d x c.args.orders.now c.args.v c.in_ok-made.made c.requires.stage c.requires.none
    (bits_keep a d x.shared.now.bits e c.requires.line.shared.bits) c.in_ok-made.ensures.made
