use Rattle.pdl_semantics.specs.Cycle.{first, state_after}
use Rattle.pdl_machine_lockuse.proofs.InUse.{all_room}
use Rattle.pdl_machine_lockuse.proofs.InRuns.{once_here, lets_here}
use Rattle.pdl_machine_lockuse.proofs.writes.Goals as goal

pub returns : goal.returns
returns c = record {
  room = λ p image before bits. all_room p (state_after p (first p image) before) bits;
  once = λ p sound strict m image before bits. once_here p sound strict image before bits m;
  blocks = λ p sound strict careful image before bits. lets_here p sound strict image before bits careful;
}
