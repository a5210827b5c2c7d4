use Rattle.std.proofs.Common.{◌++◌}
use Rattle.pdl_trace.proofs.BytePieces.{prefix_to, faulted}
use Rattle.pdl_trace.proofs.line_out.LineOut.push.Goals as goal

pub returns-in_err-hand_on-clause-bytes : goal.returns-in_err-hand_on-clause-bytes
returns-in_err-hand_on-clause-bytes g c =
    let old = g.S.Sink.written c.args.sink.now in
    let new = g.S.Sink.written c.hand_on.new.sink in
    let prefix = prefix_to old new c.args.self.now c.args.line.now c.room-room.result c.hold-2.new.self c.hold-2.ensures c.in_err-hand_on.ensures.bytes in
    faulted c.from_residual.result old new (c.args.self.now ++ c.args.line.now) c.hand_on.new.self c.from_residual.ensures.0 prefix
