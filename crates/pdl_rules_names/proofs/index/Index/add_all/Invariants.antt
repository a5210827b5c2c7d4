use Rattle.std.proofs.Common.{map, take}
use Rattle.pdl_paths.specs.Actions.{place_view}
use Rattle.pdl_rules_names.specs.Index.{IsIndex}
use Rattle.pdl_rules_names.proofs.index.Index.add_all.Given as goal

abbrev pub invariant-loop-k : goal.invariant-loop-k
invariant-loop-k l = IsIndex l.self (take l.k (map place_view l.places))
