-- The definitions of a pipe.
use Rattle.std.specs.Prelude.{List}
use Rattle.pdl_rules.specs.Places.{Place}
use Rattle.pdl_rules.specs.Names.{variable_at, memory_at, guess_at, name_at}
use Rattle.pdl_rules_names.specs.First.{AreFirst}
use Rattle.pdl_rules_names.specs.declared.index.Index.{Index}

-- each name has, by its kind and of whatever kind, the number of the first of these places that defines it
pub record IsIndex (index : Index) (xs : List Place) : Type 0 where
  pub variables : AreFirst variable_at xs index.variables
  pub memories : AreFirst memory_at xs index.memories
  pub guesses : AreFirst guess_at xs index.guesses
  pub names : AreFirst name_at xs index.names
