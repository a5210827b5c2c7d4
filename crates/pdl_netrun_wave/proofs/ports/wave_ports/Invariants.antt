use Rattle.std.proofs.Common.{◌≡◌, ◌++◌, drop}
use Rattle.std.specs.Prelude.{filter_map}
use Rattle.pdl_netrun_wave.specs.Dumped.{wave_port}
use Rattle.pdl_netrun_wave.proofs.ports.wave_ports.Given as goal

-- those so far, and those to come
abbrev pub invariant-loop-port : goal.invariant-loop-port
invariant-loop-port l = l.ports.items ++ filter_map wave_port (drop l.port-index l.port-items) ≡ filter_map wave_port l.port-items
