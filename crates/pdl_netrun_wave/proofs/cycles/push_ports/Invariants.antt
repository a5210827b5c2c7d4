use Rattle.std.proofs.Common.{◌≡◌, ◌≤◌, ◌++◌, take, drop}
use Rattle.pdl_trace.proofs.BytePieces.{IsUnderWay}
use Rattle.pdl_wave.specs.Moments.{changes}
use Rattle.pdl_netrun_wave.specs.Cycles.{known, changes_text}
use Rattle.pdl_netrun_wave.proofs.cycles.push_ports.Given as goal

-- some changes are passed on, and the others are to come
abbrev pub invariant-loop-i : goal.invariant-loop-i
invariant-loop-i g l = record {
  way : IsUnderWay (g.S.Sink.written l.fn.sink) (g.S.Sink.written l.sink)
      (l.fn.out ++ changes_text l.ports (changes 0 (known l.first l.fn.before) l.sim.last.ports))
      (changes_text l.ports (changes l.i (known l.first l.fn.before) (drop l.i l.sim.last.ports))) l.out;
  later : g.S.Sink.faults l.fn.sink ≤ g.S.Sink.faults l.sink;
  before : l.before ≡ take l.i l.sim.last.ports ++ drop l.i l.fn.before;
}
