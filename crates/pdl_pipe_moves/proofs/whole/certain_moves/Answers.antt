use Rattle.pdl_net.proofs.Keeps.{extends_keeps}
use Rattle.pdl_pipe_walk.proofs.NetGrowth.{bits_keep}
use Rattle.pdl_pipe_moves.proofs.MovedStages.{moved_certain}
use Rattle.pdl_pipe_moves.proofs.whole.certain_moves.Goals as goal

pub returns-clause-moved : goal.returns-clause-moved
returns-clause-moved c =
    let a = c.args.b.now in
    let d = c.pass_down.new.b in
    let x = c.args.line.now in
    let e = extends_keeps a d c.pass_down.ensures.extends in
    moved_certain d x c.args.orders.now
    (record {
      moves = c.pass_down.new.self.moves;
      frees = c.pass_down.new.self.frees;
      squash = x.shared.now.bits.zero;
      squashes = record { verify = x.shared.now.bits.zero; update = x.shared.now.bits.zero };
      kills = c.in_ok-kills.kills;
      clear = c.in_ok-clear.clear;
    })
    c.args.blank.now c.requires.none (bits_keep a d x.shared.now.bits e c.requires.line.shared.bits) c.requires.line.count c.in_ok-kills.ensures
    c.in_ok-clear.ensures c.in_ok-pass_down.ensures.passed
