use Rattle.std.proofs.Common.{◌∙◌, sym, ap}
use Rattle.pdl_semantics.specs.Flatten.{flat}
use Rattle.pdl_image.specs.Images.{image}
use Rattle.pdl_law_follows.specs.Memories.{taken_in_order}
use Rattle.pdl_law_follows.proofs.Lines.{shows_turns}
use Rattle.pdl_law_follows.proofs.Sequential.{refines, moves, ends, runs}
use Rattle.pdl_law_follows.proofs.FollowsMade.{declared}
use Rattle.pdl_law_follows.proofs.Images.{same_image}
use Rattle.pdl_law_follows.proofs.followed.Goals as goal

pub returns : goal.returns
returns c = record {
  turns = shows_turns;
  writes = refines;
  moves = moves;
  ends = ends;
  runs = runs;
  images = λ p rules n follows text. same_image p (declared p rules).distinct text ∙ ap (λ ms. taken_in_order (flat p) (image ms text)) (sym follows.mems);
}
