use Rattle.std.proofs.Common.{ℕ, ◌<◌}
use Rattle.pdl_pipe.specs.declared.names.Role.TheVariants.{Guess}
use Rattle.pdl_pipe.specs.Names.{IsNamed}
use Rattle.pdl_pipe.specs.NamedNets.{AddsNames}
use Rattle.pdl_pipe.proofs.stage_names.name_guess.Given as goal

-- names are added, and the first arguments have theirs
abbrev pub invariant-loop-place : goal.invariant-loop-place
invariant-loop-place l = record {
  adds : AddsNames l.b l.line l.fn.names.items l.names.items;
  has : (i : ℕ) → i < l.place → IsNamed l.names.items (Guess l.stage i);
}
