use Rattle.pdl_machine_lockuse.proofs.InRuns.{all_here, kept_here, tails_here, left_here, cuts_here}
use Rattle.pdl_machine_lockuse.proofs.Slotwise.{cut_here}
use Rattle.pdl_machine_lockuse.proofs.squashes.Goals as goal

pub returns : goal.returns
returns c = record {
  all = λ p sound strict m image before bits. all_here p sound strict image before bits m;
  kept = λ p sound strict m image before bits. kept_here p sound strict image before bits m;
  shifts = λ p sound strict m image before bits. tails_here p sound strict image before bits m;
  left = λ p sound strict m image before bits. left_here p sound strict image before bits m;
  cuts = λ p sound strict m image before bits. cuts_here p sound strict image before bits m;
  by_stages = cut_here;
}
