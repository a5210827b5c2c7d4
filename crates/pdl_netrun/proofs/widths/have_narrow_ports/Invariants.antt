use Rattle.std.proofs.Common.{◌≤◌, take, All}
use Rattle.pdl_netrun.proofs.widths.have_narrow_ports.Given as goal

abbrev pub invariant-loop-port : goal.invariant-loop-port
invariant-loop-port l = All (λ p. p.width ≤ 64) (take l.port-index l.ports)
