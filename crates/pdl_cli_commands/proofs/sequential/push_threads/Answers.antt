use Rattle.std.proofs.Common.{◌≡◌, ◌∙◌, ◌+◌, ◌-◌, ◌++◌, ap, arith, length, map}
use Rattle.std.specs.List.{flat_map}
use Rattle.pdl_semantics.specs.Flat.{arrays_of}
use Rattle.pdl_form.specs.FormView.{form}
use Rattle.pdl_law_parts.specs.Runs.{column_of}
use Rattle.pdl_seq.specs.Runs.{write_line}
use Rattle.pdl_trace.proofs.BytePieces.{faulted}
use Rattle.pdl_cli_commands.proofs.SequentialLines.{all_there, texts, told_piece, prefix_grows, thread_on, thread_off}
use Rattle.pdl_cli_commands.proofs.sequential.push_threads.Goals as goal

pub push_writes-requires-clause-there : goal.push_writes-requires-clause-there
push_writes-requires-clause-there g c =
    let run = c.next_thread.new.self in
    let same = ap (λ q. length (form q).pipe.mems) (c.next_thread.ensures.pipe ∙ c.loop-done.invariant.pipe) ∙ c.requires.mems in
    all_there (form run.pipe).pipe c.writes.result.now (length c.args.mems.now) same c.writes.ensures.words

pub returns-in_err-push_writes-clause-bytes : goal.returns-in_err-push_writes-clause-bytes
returns-in_err-push_writes-clause-bytes g c = λ image h.
    let o = g.O.Sink.written c.args.out.now in
    let a = g.O.Sink.written c.loop-done.out in
    let b = g.O.Sink.written c.push_writes.new.out in
    let i = c.loop-done.invariant in
    let run = c.next_thread.new.self in
    let cs = map column_of c.args.mems.now in
    let p = (form c.args.run.now.pipe).pipe in
    let words = arrays_of image in
    let done = c.loop-done._done in
    let threads = c.args.threads in
    let ws = c.writes.result.now in
    let same = ap (λ q. (form q).pipe) (c.next_thread.ensures.pipe ∙ i.pipe) in
    let e =
    told_piece cs run image p done ws (c.next_thread.ensures.run image (i.run image h))
    (c.next_thread.ensures.streams ∙ i.streams) same (c.next_thread.ensures.count ∙ ap (λ n. n + 1) i.count) c.writes.ensures.writes in
    let prefix =
    thread_off o a b c.args.lines.now c.loop-done.lines (flat_map (write_line cs) ws) (texts cs p words done)
    (texts cs p words (done + 1)) e (i.passed image h) c.in_err-push_writes.ensures.bytes in
    let left : threads ≡ (threads - (done + 1)) + (done + 1) = omega (arith, c.loop-done-test.true) in
    faulted c.from_residual.result o b (c.args.lines.now ++ texts cs p words threads) c.push_writes.new.lines c.from_residual.ensures.0
    (prefix_grows o b c.args.lines.now cs p words (done + 1) (threads - (done + 1)) threads left prefix)

pub loop-done-preserved : goal.loop-done-preserved
loop-done-preserved g c =
    let o = g.O.Sink.written c.args.out.now in
    let a = g.O.Sink.written c.loop-done.out in
    let b = g.O.Sink.written c.push_writes.new.out in
    let i = c.loop-done.invariant in
    let run = c.next_thread.new.self in
    let cs = map column_of c.args.mems.now in
    let p = (form c.args.run.now.pipe).pipe in
    let done = c.loop-done._done in
    let ws = c.writes.result.now in
    let pipe = c.next_thread.ensures.pipe ∙ i.pipe in
    let same = ap (λ q. (form q).pipe) pipe in
    let count = c.next_thread.ensures.count ∙ ap (λ n. n + 1) i.count in
    let streams = c.next_thread.ensures.streams ∙ i.streams in
    record {
      run = λ image h. c.next_thread.ensures.run image (i.run image h);
      passed =
          λ image h.
          thread_on o a b c.args.lines.now c.loop-done.lines (flat_map (write_line cs) ws)
          (texts cs p (arrays_of image) done) (texts cs p (arrays_of image) (done + 1))
          (told_piece cs run image p done ws (c.next_thread.ensures.run image (i.run image h)) streams same count c.writes.ensures.writes)
          (i.passed image h) c.push_writes.new.lines c.in_ok-push_writes.ensures.bytes;
      pipe = pipe;
      count = count;
      room = c.next_thread.ensures.threads ∙ i.room;
      streams = streams;
      later = omega (arith, i.later, c.push_writes.ensures.cause.later);
    }
