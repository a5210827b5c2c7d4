-- Variables of at most widest bits.
use Rattle.std.specs.Prelude.{Bool, List, nat_le}
use Rattle.std.specs.List.{list_all}
use Rattle.pdl_semantics.specs.Flatten.{Var}
use Rattle.pdl_word.specs.Words.{widest}

-- the variables have at most widest bits
abbrev pub are_narrow : List Var → Bool
are_narrow vs = list_all (λ (v : Var). nat_le v.width widest) vs
