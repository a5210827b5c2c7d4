-- What the rules on locks are asked with, and the lines at which a pipe breaks them.
use Rattle.std.specs.Prelude.{◌≡◌, ℕ, List, [], map, Option}
use Rattle.pdl_kit.specs.declared.rule.Rule.{Rule}
use Rattle.pdl_kit.specs.declared.rule.Rule.TheVariants.{L1, L3, L4, L5, L6, L7, L8}
use Rattle.pdl_semantics.specs.Tree.{Pipe}
use Rattle.pdl_rules.specs.Places.{places}
use Rattle.pdl_rules.specs.Refusal.{broken_line}
use Rattle.pdl_paths.specs.declared.place.Place as r_place
use Rattle.pdl_paths.specs.Actions.{place_view}
use Rattle.pdl_rules_stages.specs.Stages.{stages_in}
use Rattle.pdl_locks.specs.declared.numbers.Keys.TheVariants.{Locations, Memories}
use Rattle.pdl_locks.specs.declared.facts.LockFacts as facts
use Rattle.pdl_locks.specs.declared.walk.PerRule.{PerRule}
use Rattle.pdl_locks.specs.Numbers.{AreNumbered}
use Rattle.pdl_locks.specs.Bound.{last_at}

-- the facts are those of the places of a pipe
pub record AreFacts (p : Pipe) (rows : List r_place.Place) (known : facts.LockFacts) : Type 0 where
  pub by_text : known.stages.items ≡ stages_in (map place_view rows)
  pub locations : AreNumbered Locations rows known.locations.items (map place_view rows)
  pub memories : AreNumbered Memories rows known.memories.items (map place_view rows)
  pub released : known.last.items ≡ map (last_at p) (map place_view rows)

-- the lines of the rules that are asked on paths
abbrev pub Lines : Type 0
Lines = PerRule (Option ℕ) (Option ℕ) (Option ℕ) (Option ℕ)

-- the line is that at which the pipe breaks the rule
abbrev pub IsLine : Pipe → Rule → Option ℕ → Type 0
IsLine p rule line = line ≡ broken_line rule p [] (places p)

-- for each of the rules L1 and L3 to L8, the line is that at which the pipe breaks it
pub record AreLines (p : Pipe) (lines : Lines) : Type 0 where
  pub held : IsLine p L1 lines.held
  pub read_first : IsLine p L3 lines.read_first
  pub few_reserves : IsLine p L4 lines.few_reserves
  pub reserved_once : IsLine p L5 lines.reserved_once
  pub written_once : IsLine p L6 lines.written_once
  pub released : IsLine p L7 lines.released
  pub bound : IsLine p L8 lines.bound
