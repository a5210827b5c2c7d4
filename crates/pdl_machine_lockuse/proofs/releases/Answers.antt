use Rattle.pdl_semantics.specs.Moves.{all_acts}
use Rattle.pdl_semantics.specs.Cycle.{first, state_after}
use Rattle.pdl_machine_lockuse.proofs.ReleaseOrder.{uses_older}
use Rattle.pdl_machine_lockuse.proofs.InRuns.{owns_here, written_here, awaits_here, older_here}
use Rattle.pdl_machine_lockuse.proofs.releases.Goals as goal

pub returns : goal.returns
returns c = record {
  own = λ p sound strict m image before bits. owns_here p sound strict image before bits m;
  written = λ p sound strict m image before bits. written_here p sound strict image before bits m;
  older = λ p sound strict m image before bits. older_here p sound strict image before bits m;
  to_come = λ p sound strict m image before bits.
      let st = state_after p (first p image) before in uses_older p sound strict st bits m (all_acts p st bits) (older_here p sound strict image before bits m);
  awaited = λ p sound strict m image before bits. awaits_here p sound strict image before bits m;
}
