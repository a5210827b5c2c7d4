use Rattle.std.proofs.Common.{◌≡◌, ◌++◌, ap₂, map, subst, sym, ◌∙◌}
use Rattle.pdl_semantics.specs.Lines.{put_line}
use Rattle.pdl_law_parts.specs.Runs.{column_of}
use Rattle.pdl_seq.specs.Runs.{write_line}
use Rattle.pdl_trace.specs.Passed.{Passes}
use Rattle.pdl_cli_commands.proofs.SequentialLines.{column_is}
use Rattle.pdl_cli_commands.proofs.sequential.push_write.Goals as goal

pub returns-clause-bytes : goal.returns-clause-bytes
returns-clause-bytes g c =
    let w = c.args.write in
    let m = c.index-mems-write in
    let same : c.as_bytes.result.now ≡ write_line (map column_of c.args.mems.now) w =
    c.as_bytes.ensures.bytes ∙ c.commit_line-line.ensures
    ∙ ap₂ (λ a column. put_line w.thread column (record { address = a; value = w.value })) c.from-address.ensures
    (sym (column_is c.args.mems.now w.mem m.result c.requires.there m.is)) in
    subst
    (λ l. Passes (g.O.Sink.written c.args.out.now)
    (g.O.Sink.written c.push.new.sink) c.push.result (c.args.lines.now ++ l) c.push.new.self) same c.push.ensures.bytes
