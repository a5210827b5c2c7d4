use Rattle.std.proofs.Common.{◌≡◌, ◌∙◌, ◌+◌, ◌++◌, ap, arith, drop, flat_map, get_or, sym, []}
use Rattle.std.proofs.lemmas.List.{drop_all}
use Rattle.pdl_trace.proofs.BytePieces.{at_first, at_last, faulted, step_off, step_on}
use Rattle.pdl_wave.specs.Dump.{ended, header}
use Rattle.pdl_netrun_wave.proofs.Texts.{header_length, next_line}
use Rattle.pdl_netrun_wave.proofs.run.push_header.Goals as goal

pub loop-k-init : goal.loop-k-init
loop-k-init g c = record {
  way = at_first (g.S.Sink.written c.args.sink.now) c.args.out.now (flat_map ended (header c.args.heading.now.name.now c.args.heading.now.ports.now));
  later = omega arith;
}

pub returns-in_err-push-clause-bytes : goal.returns-in_err-push-clause-bytes
returns-in_err-push-clause-bytes g c =
    let o = g.S.Sink.written c.args.sink.now in
    let a = g.S.Sink.written c.loop-k.sink in
    let b = g.S.Sink.written c.push.new.sink in
    let lines = header c.args.heading.now.name.now c.args.heading.now.ports.now in
    let k = c.loop-k.k in
    let all = c.args.out.now ++ flat_map ended lines in
    let line : c.as_bytes.result.now ≡ ended (get_or lines k []) = c.as_bytes.ensures.bytes ∙ c.header_line-line.ensures in
    let n = header_length c.args.heading.now.name.now c.args.heading.now.ports.now in
    let e = next_line lines k (omega (arith, n, c.loop-k-test.true)) ∙ ap (λ l. l ++ flat_map ended (drop (k + 1) lines)) (sym line) in
    faulted c.from_residual.result o b all c.push.new.self c.from_residual.ensures.0
    (step_off o a b all (flat_map ended (drop k lines)) c.loop-k.out c.as_bytes.result.now
    (flat_map ended (drop (k + 1) lines)) e c.loop-k.invariant.way c.in_err-push.ensures.bytes)

pub loop-k-preserved : goal.loop-k-preserved
loop-k-preserved g c =
    let o = g.S.Sink.written c.args.sink.now in
    let a = g.S.Sink.written c.loop-k.sink in
    let b = g.S.Sink.written c.push.new.sink in
    let lines = header c.args.heading.now.name.now c.args.heading.now.ports.now in
    let k = c.loop-k.k in
    let all = c.args.out.now ++ flat_map ended lines in
    let line : c.as_bytes.result.now ≡ ended (get_or lines k []) = c.as_bytes.ensures.bytes ∙ c.header_line-line.ensures in
    let n = header_length c.args.heading.now.name.now c.args.heading.now.ports.now in
    let e = next_line lines k (omega (arith, n, c.loop-k-test.true)) ∙ ap (λ l. l ++ flat_map ended (drop (k + 1) lines)) (sym line) in
    record {
      way =
          step_on o a b all (flat_map ended (drop k lines)) c.loop-k.out c.as_bytes.result.now
          (flat_map ended (drop (k + 1) lines)) e c.loop-k.invariant.way c.push.new.self c.in_ok-push.ensures.bytes;
      later = omega (arith, c.loop-k.invariant.later, c.push.ensures.cause.later);
    }

pub returns-clause-bytes : goal.returns-clause-bytes
returns-clause-bytes g c =
    let lines = header c.args.heading.now.name.now c.args.heading.now.ports.now in
    let n = header_length c.args.heading.now.name.now c.args.heading.now.ports.now in
    at_last (g.S.Sink.written c.args.sink.now) (g.S.Sink.written c.loop-k.sink) (c.args.out.now ++ flat_map ended lines)
    (flat_map ended (drop c.loop-k.k lines)) c.loop-k.out
    (ap (flat_map ended) (drop_all c.loop-k.k lines (omega (arith, n, c.loop-k-test.false)))) c.loop-k.invariant.way
