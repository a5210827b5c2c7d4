use Rattle.pdl_semantics.specs.Flatten.{flat}
use Rattle.pdl_semantics.proofs.UpdateFree.{updates_idle}
use Rattle.pdl_theory.proofs.StatedTheorems.{whole_refines, whole_advances, whole_paces, whole_same, whole_idle, updates_alike}
use Rattle.pdl_source_paths.proofs.PipeFacts.{of_source}
use Rattle.pdl_source.proofs.ThinRules.{keeps_without}
use Rattle.pdl_source.proofs.soundness.accepted.Goals as goal

pub returns : goal.returns
returns c = record {
  refines = λ p rules source names. whole_refines (flat p) (of_source p rules source names);
  oldest_moves = λ p rules source names. whole_advances (flat p) (of_source p rules source names);
  keeps_pace = λ p rules source names. whole_paces (flat p) (of_source p rules source names);
  simulation = λ p rules source names. whole_same (flat p) (of_source p rules source names);
  advice = λ p rules source names. whole_idle (flat p) (of_source p rules source names);
  updates = λ p rules source names image schedule replies.
      updates_idle p image schedule replies (updates_alike (flat p) (of_source p rules source names) image schedule replies);
  free = keeps_without;
}
