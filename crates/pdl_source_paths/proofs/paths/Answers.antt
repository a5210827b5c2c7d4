use Rattle.pdl_semantics.specs.Flatten.{flat}
use Rattle.pdl_theory_turns.specs.Facts.{at_once}
use Rattle.pdl_theory_turns.proofs.Passes
use Rattle.pdl_source_paths.proofs.PathTests.{parts}
use Rattle.pdl_source_paths.proofs.paths.Goals as goal

pub returns : goal.returns
returns c = record {
  accepted = λ p rules source path. Passes.accepted (at_once (flat p)) (parts p rules source) path;
  makings = λ p rules source path. Passes.path_makings (at_once (flat p)) (parts p rules source) path;
  apart = λ p rules source path. Passes.path_apart (at_once (flat p)) (parts p rules source) path;
  made = λ p rules source path. Passes.path_made (at_once (flat p)) (parts p rules source) path;
  sure = λ p rules source path. Passes.path_sure (at_once (flat p)) (parts p rules source) path;
}
