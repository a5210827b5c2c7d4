-- What is counted along the text.
use Rattle.std.specs.Prelude.{◌≡◌, List, count_by}
use Rattle.pdl_rules.specs.Places.{Place}
use Rattle.pdl_rules.specs.Limits.{is_statement, is_separator, is_memory, is_binding}
use Rattle.pdl_rules_judge.specs.declared.counts.Counts.{Counts}

-- how many of each there are among these places
pub record AreCounts (xs : List Place) (c : Counts) : Type 0 where
  pub statements : c.statements ≡ count_by is_statement xs
  pub separators : c.separators ≡ count_by is_separator xs
  pub memories : c.memories ≡ count_by is_memory xs
  pub bindings : c.bindings ≡ count_by is_binding xs
