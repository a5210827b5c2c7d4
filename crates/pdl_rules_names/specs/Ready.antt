-- What is known when the definitions on paths are asked for.
use Rattle.std.specs.Prelude.{◌≡◌, ℕ, suc, ◌<◌, ◌≤◌, ◌^◌, Bool, not, ◌&&◌, ◌||◌, nat_lt, List, [], length, map, drop, get_or, if◌then◌else◌, None}
use Rattle.std.specs.List.{list_any}
use Rattle.pdl_kit.specs.declared.rule.Rule.TheVariants as rules
use Rattle.pdl_syntax_tree.specs.View.{pipe_view}
use Rattle.pdl_syntax_tree.specs.declared.tree.Pipe as r_pipe
use Rattle.pdl_rules.specs.Places.{Place, Guard, on_path, places, guards}
use Rattle.pdl_rules.specs.Limits.{is_separator}
use Rattle.pdl_rules.specs.Names.{is_delayed}
use Rattle.pdl_rules.specs.Refusal.{broken_line}
use Rattle.pdl_paths.specs.declared.place.Place as r_place
use Rattle.pdl_paths.specs.Actions.{place_view}
use Rattle.pdl_paths.specs.Masks.{AreMasked, path_of}
use Rattle.pdl_rules_names.specs.Index.{IsIndex}
use Rattle.pdl_rules_names.specs.declared.index.Index.{Index}

-- whether a place is a separator on the path
abbrev pub is_separator_on : List Guard → Place → Bool
is_separator_on path y = is_separator y && on_path path y

-- whether the d-th of these places, which is y, gives what it defines after the last of them on the path
abbrev pub given_on : List Guard → List Place → ℕ → Place → Bool
given_on path before d y = on_path path y && (not (is_delayed y) || list_any (is_separator_on path) (drop (suc d) before))

-- the number is greater than those of the places after which a separator stands on the path, and than no others
abbrev pub IsLast : List Guard → List Place → ℕ → Type 0
IsLast path before m = (d : ℕ) → nat_lt d m ≡ list_any (is_separator_on path) (drop (suc d) before)

-- on each path, by its bits
pub record AreLast (gs : List Guard) (before : List Place) (last : List ℕ) : Type 0 where
  pub count : length last ≡ 2 ^ length gs
  pub each : (b : ℕ) → b < 2 ^ length gs → IsLast (path_of gs b) before (get_or last b 0)

-- on each path that leads through a place the number is the place's, and on the others it is as it was
pub record AreMarked (gs : List Guard) (x : Place) (k : ℕ) (last new : List ℕ) : Type 0 where
  pub count : length new ≡ 2 ^ length gs
  pub each : (b : ℕ) → b < 2 ^ length gs → get_or new b 0 ≡ (if on_path (path_of gs b) x then k else get_or last b 0)

-- the places are the pipe's, and the index is theirs
pub record Suits (p : r_pipe.Pipe) (index : Index) (xs : List r_place.Place) : Type 0 where
  pub all : map place_view xs ≡ places (pipe_view p)
  pub first : IsIndex index (map place_view xs)

-- the places are the pipe's, with masks of its guards, at most ten, and no name is defined twice
pub record SuitsPaths (p : r_pipe.Pipe) (index : Index) (xs : List r_place.Place) : Type 0 where
  pub names : Suits p index xs
  pub few : length (guards (places (pipe_view p))) ≤ 10
  pub masks : AreMasked (guards (places (pipe_view p))) xs
  pub once : broken_line rules.N2 (pipe_view p) [] (places (pipe_view p)) ≡ None
