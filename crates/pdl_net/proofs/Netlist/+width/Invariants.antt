use Rattle.std.proofs.Common.{◌≡◌, ◌≤◌}
use Rattle.pdl_net.specs.Circuit.{circuit_of}
use Rattle.pdl_net.specs.Meaning.{signal, IsThere}
use Rattle.pdl_net.specs.Width.{place}
use Rattle.pdl_net.proofs.Netlist.+width.Given as goal

abbrev pub decreases-width : goal.decreases-width
decreases-width l = place l.net

abbrev pub invariant-loop-bits : goal.invariant-loop-bits
invariant-loop-bits l = record {
  there : IsThere (circuit_of l.self) l.at;
  within : place l.at ≤ place l.fn.net;
  same : (signal (circuit_of l.self) l.at).width ≡ (signal (circuit_of l.self) l.fn.net).width;
}

abbrev pub decreases-loop-bits : goal.decreases-loop-bits
decreases-loop-bits l = place l.at
