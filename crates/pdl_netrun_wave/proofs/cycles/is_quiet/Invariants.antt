use Rattle.std.proofs.Common.{◌≡◌, drop}
use Rattle.pdl_wave.specs.Moments.{changes}
use Rattle.pdl_wave.specs.Wave.{is_none}
use Rattle.pdl_netrun_wave.proofs.cycles.is_quiet.Given as goal

-- no port so far changed
abbrev pub invariant-loop-i : goal.invariant-loop-i
invariant-loop-i l = is_none (changes 0 l.before l.sim.last.ports) ≡ is_none (changes l.i l.before (drop l.i l.sim.last.ports))
