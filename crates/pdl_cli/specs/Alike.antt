-- Commands that do the same, each with a first file of its own.
use Rattle.std.specs.Prelude.{◌↔◌, ◌∷◌, List, ℕ}
use Rattle.pdl_kit.specs.declared.rule.Rule.{Rule}
use Rattle.pdl_cli_args.specs.Line.{Command}
use Rattle.pdl_cli_failure.specs.declared.failure.Position.{Position}
use Rattle.pdl_cli_commands.specs.Commands.{Writes, IsWrongFor}

-- with these texts of their first files, and the same texts of the others, two commands write the same, and are refused by the same rules at the same positions
pub record DoTheSame (c d : Command) (first second : List ℕ) : Type 0 where
  pub writes : (others : List (List ℕ)) (text : List ℕ) → Writes c (first ∷ others) text ↔ Writes d (second ∷ others) text
  pub refused : (others : List (List ℕ)) (rule : Rule) (position : Position)
      → IsWrongFor c (first ∷ others) rule position ↔ IsWrongFor d (second ∷ others) rule position
