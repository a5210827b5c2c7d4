use Rattle.std.proofs.Common.{◌∙◌, ◌+◌, ◌++◌, ◌<◌, ◌^◌, ℕ, ap, ap₂, arith, drop, get_or, set, subst, sym}
use Rattle.std.proofs.lemmas.List.{append-nil, drop_all, take_all}
use Rattle.pdl_trace.proofs.BytePieces.{at_last, faulted, step_off, step_on}
use Rattle.pdl_wave.specs.Moments.{changes}
use Rattle.pdl_wave.specs.Dump.{width_of}
use Rattle.pdl_wave.proofs.Form.{row_length, value_fits}
use Rattle.pdl_netrun_wave.specs.Cycles.{known, changes_text, port_text}
use Rattle.pdl_netrun_wave.proofs.PortWidths.{outputs_count}
use Rattle.pdl_netrun_wave.proofs.Texts.{port_step, value_taken}
use Rattle.pdl_netrun_wave.proofs.cycles.push_ports.Goals as goal

pub port-value-requires : goal.port-value-requires
port-value-requires g c = let n = outputs_count c.args.sim.now.netlist c.args.ports.now c.requires.shown.own in omega (arith, n, c.loop-i-test.true)

pub push_port-requires-clause-fits : goal.push_port-requires-clause-fits
push_port-requires-clause-fits g c =
    let P : ℕ → Type 0 = λ v. v < 2 ^ width_of c.args.ports.now c.loop-i.i in
    subst P (sym c.port-value.ensures) (value_fits c.args.ports.now c.args.sim.now.last.ports c.loop-i.i c.requires.shown.row c.loop-i-test.true)

pub returns-in_err-push_port-clause-bytes : goal.returns-in_err-push_port-clause-bytes
returns-in_err-push_port-clause-bytes g c =
    let o = g.S.Sink.written c.args.sink.now in
    let a = g.S.Sink.written c.loop-i.sink in
    let b = g.S.Sink.written c.push_port.new.sink in
    let ports = c.args.ports.now in
    let row = c.args.sim.now.last.ports in
    let i = c.loop-i.i in
    let was = known c.args.first c.args.before.now in
    let all = c.args.out.now ++ changes_text ports (changes 0 was row) in
    let piece = port_text ports c.has_changed.result i c.port-value.result in
    let after = changes_text ports (changes (i + 1) was (drop (i + 1) row)) in
    let n = row_length ports row c.requires.shown.row in
    let e =
    port_step ports c.args.first c.args.before.now row i
    (get_or c.loop-i.before i 0) c.port-value.result c.has_changed.result (omega (arith, n, c.loop-i-test.true))
    (omega (arith, n, c.requires.before))
    (ap (λ vs. get_or vs i 0) c.loop-i.invariant.before) c.port-value.ensures c.has_changed.ensures in
    faulted c.from_residual.result o b all c.push_port.new.out c.from_residual.ensures.0
    (step_off o a b all (changes_text ports (changes i was (drop i row))) c.loop-i.out piece after e c.loop-i.invariant.way c.in_err-push_port.ensures.bytes)

pub loop-i-preserved : goal.loop-i-preserved
loop-i-preserved g c =
    let o = g.S.Sink.written c.args.sink.now in
    let a = g.S.Sink.written c.loop-i.sink in
    let b = g.S.Sink.written c.push_port.new.sink in
    let ports = c.args.ports.now in
    let row = c.args.sim.now.last.ports in
    let i = c.loop-i.i in
    let was = known c.args.first c.args.before.now in
    let all = c.args.out.now ++ changes_text ports (changes 0 was row) in
    let piece = port_text ports c.has_changed.result i c.port-value.result in
    let after = changes_text ports (changes (i + 1) was (drop (i + 1) row)) in
    let n = row_length ports row c.requires.shown.row in
    let e =
    port_step ports c.args.first c.args.before.now row i
    (get_or c.loop-i.before i 0) c.port-value.result c.has_changed.result (omega (arith, n, c.loop-i-test.true))
    (omega (arith, n, c.requires.before))
    (ap (λ vs. get_or vs i 0) c.loop-i.invariant.before) c.port-value.ensures c.has_changed.ensures in
    record {
      way =
          step_on o a b all
          (changes_text ports
          (changes i was (drop i row))) c.loop-i.out piece after e c.loop-i.invariant.way c.push_port.new.out c.in_ok-push_port.ensures.bytes;
      later = omega (arith, c.loop-i.invariant.later, c.push_port.ensures.cause.later);
      before =
          ap₂ (λ vs v. set vs i v) c.loop-i.invariant.before c.port-value.ensures
          ∙ value_taken c.args.before.now row i (omega (arith, n, c.loop-i-test.true)) (omega (arith, n, c.requires.before));
    }

pub returns-clause-bytes : goal.returns-clause-bytes
returns-clause-bytes g c =
    let ports = c.args.ports.now in
    let row = c.args.sim.now.last.ports in
    let was = known c.args.first c.args.before.now in
    let n = row_length ports row c.requires.shown.row in
    let i = c.loop-i.i in
    at_last (g.S.Sink.written c.args.sink.now) (g.S.Sink.written c.loop-i.sink)
    (c.args.out.now ++ changes_text ports (changes 0 was row))
    (changes_text ports (changes i was (drop i row))) c.loop-i.out
    (ap (λ vs. changes_text ports (changes i was vs)) (drop_all i row (omega (arith, n, c.loop-i-test.false)))) c.loop-i.invariant.way

pub returns-clause-before : goal.returns-clause-before
returns-clause-before g c =
    let row = c.args.sim.now.last.ports in
    let n = row_length c.args.ports.now row c.requires.shown.row in
    let i = c.loop-i.i in
    c.loop-i.invariant.before
    ∙ ap₂ (λ xs ys. xs ++ ys) (take_all i row (omega (arith, n, c.loop-i-test.false)))
    (drop_all i c.args.before.now (omega (arith, c.requires.before, c.loop-i-test.false)))
    ∙ append-nil row
