use Rattle.std.proofs.Common.{◌++◌, codes, map, subst}
use Rattle.std.specs.Prelude.{decimal}
use Rattle.pdl_kit.specs.Sinks.{TakesPrefix}
use Rattle.pdl_semantics.specs.Flat.{arrays_of}
use Rattle.pdl_form.specs.FormView.{form}
use Rattle.pdl_law_parts.specs.Runs.{column_of}
use Rattle.pdl_trace.specs.Passed.{HasPassed}
use Rattle.pdl_trace.proofs.BytePieces.{whole_on, text_faulted}
use Rattle.pdl_cli_commands.proofs.SequentialLines.{texts}
use Rattle.pdl_cli_commands.proofs.sequential.print_run.Goals as goal

pub returns-in_err-push_run-clause-bytes : goal.returns-in_err-push_run-clause-bytes
returns-in_err-push_run-clause-bytes g c = λ image h.
    let o = g.O.Sink.written c.args.out.now in
    let a = g.O.Sink.written c.push_run.new.out in
    let text =
    texts (map column_of c.args.mems.now) (form c.args.run.now.pipe).pipe (arrays_of image) c.args.threads
    ++ codes "end threads " ++ decimal c.args.threads ++ codes "\n" in
    text_faulted c.from_residual.result o a text c.from_residual.ensures.0
    (subst (λ l. TakesPrefix o a (l ++ text)) c.new-lines.ensures (c.in_err-push_run.ensures.bytes image h))

pub returns-clause-bytes : goal.returns-clause-bytes
returns-clause-bytes g c = λ image h.
    let o = g.O.Sink.written c.args.out.now in
    let a = g.O.Sink.written c.push_run.new.out in
    let b = g.O.Sink.written c.finish.new.sink in
    let text =
    texts (map column_of c.args.mems.now) (form c.args.run.now.pipe).pipe (arrays_of image) c.args.threads
    ++ codes "end threads " ++ decimal c.args.threads ++ codes "\n" in
    let passed = subst (λ l. HasPassed o a (l ++ text) c.push_run.new.lines) c.new-lines.ensures (c.in_ok-push_run.ensures.bytes image h) in
    whole_on o a b text c.push_run.new.lines passed c.finish.result c.finish.ensures.bytes
