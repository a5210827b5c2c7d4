-- Outputs, added one after the other.
use Rattle.std.proofs.Common.{◌≡◌, ℕ, List, ◌++◌, map, drop}
use Rattle.pdl_net.specs.declared.Port.{Port}
use Rattle.pdl_net.specs.Circuit.{Circuit}
use Rattle.pdl_net.specs.Growth.{ExtendsPorts}
use Rattle.pdl_pipe_ports.specs.declared.outputs.OutNet.{OutNet}
use Rattle.pdl_law_parts.specs.Compiled.{port_in}
use Rattle.pdl_pipe_ports.specs.ToldOutputs.{output_of, OutsThere}

abbrev ports_of : Circuit → List OutNet → List Port
ports_of c os = map (port_in c) (map output_of os)

-- the first i of these outputs are added
pub record AreAdded (a b : Circuit) (os : List OutNet) (i : ℕ) : Type 0 where
  pub added : List Port
  pub extends : ExtendsPorts a b added
  pub whole : added ++ ports_of a (drop i os) ≡ ports_of a os
  pub there : OutsThere a (drop i os)
