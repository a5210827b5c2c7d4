use Rattle.pdl_net.specs.Circuit.{circuit_of}
use Rattle.pdl_net_needed.specs.Needed.{KeepsNeeded}
use Rattle.pdl_net_needed.proofs.PrunedFacts.{all_as}
use Rattle.pdl_net_needed.proofs.needed.Goals as goal

pub returns : goal.returns
returns c = all_as (KeepsNeeded (circuit_of c.args.net.now)) c.in_ok-marks.marks c.numbered.result c.in_ok-marks.ensures c.numbered.ensures
