use Rattle.std.proofs.Common.{◌≡◌, ◌∙◌, ◌++◌, ap, codes, map, subst}
use Rattle.std.specs.Prelude.{decimal}
use Rattle.pdl_semantics.specs.Flat.{arrays_of}
use Rattle.pdl_form.specs.FormView.{form}
use Rattle.pdl_law_parts.specs.Runs.{column_of}
use Rattle.pdl_trace.specs.Passed.{Passes}
use Rattle.pdl_trace.proofs.BytePieces.{prefix_front, both_on, faulted}
use Rattle.pdl_cli_commands.proofs.SequentialLines.{texts, last_line}
use Rattle.pdl_cli_commands.proofs.sequential.push_run.Goals as goal

pub returns-in_err-push_threads-clause-bytes : goal.returns-in_err-push_threads-clause-bytes
returns-in_err-push_threads-clause-bytes g c = λ image h.
    let o = g.O.Sink.written c.args.out.now in
    let a = g.O.Sink.written c.push_threads.new.out in
    let front = texts (map column_of c.args.mems.now) (form c.args.run.now.pipe).pipe (arrays_of image) c.args.threads in
    let last = codes "end threads " ++ decimal c.args.threads ++ codes "\n" in
    subst (λ l. Passes o a c.from_residual.result (c.args.lines.now ++ l) c.push_threads.new.lines) (last_line front c.args.threads)
    (faulted c.from_residual.result o a (c.args.lines.now ++ (front ++ last)) c.push_threads.new.lines c.from_residual.ensures.0
    (prefix_front o a c.args.lines.now front last (c.in_err-push_threads.ensures.bytes image h)))

pub returns-clause-bytes : goal.returns-clause-bytes
returns-clause-bytes g c = λ image h.
    let o = g.O.Sink.written c.args.out.now in
    let a = g.O.Sink.written c.push_threads.new.out in
    let b = g.O.Sink.written c.push.new.sink in
    let front = texts (map column_of c.args.mems.now) (form c.args.run.now.pipe).pipe (arrays_of image) c.args.threads in
    let text : front ++ c.as_bytes.result.now ≡ front ++ codes "end threads " ++ decimal c.args.threads ++ codes "\n" =
    ap (λ l. front ++ l) (c.as_bytes.ensures.bytes ∙ c.threads_line-line.ensures) ∙ last_line front c.args.threads in
    subst (λ l. Passes o b c.push.result (c.args.lines.now ++ l) c.push.new.self) text
    (both_on o a b c.args.lines.now front c.as_bytes.result.now c.push_threads.new.lines c.push.new.self
    (c.in_ok-push_threads.ensures.bytes image h) c.push.result c.push.ensures.bytes)
