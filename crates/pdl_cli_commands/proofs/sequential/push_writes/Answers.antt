use Rattle.std.proofs.Common.{◌+◌, ◌++◌, ap, arith, drop, map}
use Rattle.std.specs.List.{flat_map}
use Rattle.std.proofs.lemmas.List.{drop_all, drop_more}
use Rattle.pdl_law_parts.specs.Runs.{column_of}
use Rattle.pdl_seq.specs.Runs.{write_line}
use Rattle.pdl_trace.proofs.BytePieces.{step_on, step_off, at_last, faulted}
use Rattle.pdl_cli_commands.proofs.sequential.push_writes.Goals as goal

pub returns-in_err-push_write-clause-bytes : goal.returns-in_err-push_write-clause-bytes
returns-in_err-push_write-clause-bytes g c =
    let o = g.O.Sink.written c.args.out.now in
    let a = g.O.Sink.written c.loop-write.out in
    let b = g.O.Sink.written c.push_write.new.out in
    let line = write_line (map column_of c.args.mems.now) in
    let ws = c.args.writes.now in
    let i = c.loop-write.write-index in
    let all = c.args.lines.now ++ flat_map line ws in
    let rest = flat_map line (drop i ws) in
    let e = ap (flat_map line) (drop_more ws i _ c.loop-write-test.true) in
    faulted c.from_residual.result o b all c.push_write.new.lines c.from_residual.ensures.0
    (step_off o a b all rest c.loop-write.lines _ (flat_map line (drop (i + 1) ws)) e c.loop-write.invariant.way c.in_err-push_write.ensures.bytes)

pub loop-write-preserved : goal.loop-write-preserved
loop-write-preserved g c =
    let o = g.O.Sink.written c.args.out.now in
    let a = g.O.Sink.written c.loop-write.out in
    let b = g.O.Sink.written c.push_write.new.out in
    let line = write_line (map column_of c.args.mems.now) in
    let ws = c.args.writes.now in
    let i = c.loop-write.write-index in
    let all = c.args.lines.now ++ flat_map line ws in
    let rest = flat_map line (drop i ws) in
    let e = ap (flat_map line) (drop_more ws i _ c.loop-write-test.true) in
    record {
      way =
          step_on o a b all rest c.loop-write.lines _
          (flat_map line (drop (i + 1) ws)) e c.loop-write.invariant.way c.push_write.new.lines c.in_ok-push_write.ensures.bytes;
      later = omega (arith, c.loop-write.invariant.later, c.push_write.ensures.cause.later);
    }

pub returns-clause-bytes : goal.returns-clause-bytes
returns-clause-bytes g c =
    let o = g.O.Sink.written c.args.out.now in
    let a = g.O.Sink.written c.loop-write.out in
    let line = write_line (map column_of c.args.mems.now) in
    let ws = c.args.writes.now in
    let i = c.loop-write.write-index in
    let none = ap (flat_map line) (drop_all i ws c.loop-write-test.false) in
    at_last o a (c.args.lines.now ++ flat_map line ws) (flat_map line (drop i ws)) c.loop-write.lines none c.loop-write.invariant.way
