-- The lines of the rules on calls and guesses, as one walk gives them.
use Rattle.std.specs.Prelude.{ℕ, Option}
use Rattle.pdl_kit.specs.declared.rule.Rule.TheVariants.{S1, S2, S4, S5, S6}
use Rattle.pdl_semantics.specs.Tree.{Pipe}
use Rattle.pdl_rules_walk.specs.declared.both.Both.{Both}
use Rattle.pdl_locks.specs.Facts.{IsLine}
use Rattle.pdl_spec.specs.declared.lines.SpecLines.{SpecLines}

-- the lines of S1 and S2, those of S4 and S5, and that of S6
abbrev pub Lines : Type 0
Lines = Both (Both (Both (Option ℕ) (Option ℕ)) (Both (Option ℕ) (Option ℕ))) (Option ℕ)

-- the lines of the five rules, each by its name
abbrev pub named_lines : Lines → SpecLines
named_lines lines = record {
  one_call = lines.first.first.first;
  verified_once = lines.first.first.second;
  released_sure = lines.first.second.first;
  checked_first = lines.first.second.second;
  updated_once = lines.second;
}

-- the lines of the five rules are those at which the pipe breaks them
pub record AreLines (p : Pipe) (lines : SpecLines) : Type 0 where
  pub one_call : IsLine p S1 lines.one_call
  pub verified_once : IsLine p S2 lines.verified_once
  pub released_sure : IsLine p S4 lines.released_sure
  pub checked_first : IsLine p S5 lines.checked_first
  pub updated_once : IsLine p S6 lines.updated_once
