use Rattle.std.proofs.Common.{◌≤◌, ◌++◌, drop, flat_map}
use Rattle.pdl_trace.proofs.BytePieces.{IsUnderWay}
use Rattle.pdl_wave.specs.Dump.{ended, header}
use Rattle.pdl_netrun_wave.proofs.run.push_header.Given as goal

-- some lines are passed on, and the others are to come
abbrev pub invariant-loop-k : goal.invariant-loop-k
invariant-loop-k g l = record {
  way : IsUnderWay (g.S.Sink.written l.fn.sink) (g.S.Sink.written l.sink)
      (l.fn.out ++ flat_map ended (header l.heading.name.now l.heading.ports.now))
      (flat_map ended (drop l.k (header l.heading.name.now l.heading.ports.now))) l.out;
  later : g.S.Sink.faults l.fn.sink ≤ g.S.Sink.faults l.sink;
}
