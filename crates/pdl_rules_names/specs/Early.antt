-- Uses that come before what they use.
use Rattle.std.specs.Prelude.{◌<◌, Bool, ℕ, List, length, map, take, slice_get}
use Rattle.pdl_semantics.specs.Tree.{Pipe}
use Rattle.pdl_syntax_tree.specs.View.{pipe_view}
use Rattle.pdl_rules.specs.Places.{Place, places, guards}
use Rattle.pdl_rules.specs.Parts.{is_some_and}
use Rattle.pdl_rules.specs.Names.{Use, is_too_early}
use Rattle.pdl_paths.specs.Actions.{place_view}
use Rattle.pdl_rules_names.specs.Ready.{SuitsPaths, AreLast}
use Rattle.pdl_rules_names.specs.declared.early.Early.{Early}

-- whether a use at the k-th of these places is too early
abbrev pub early_at : Pipe → List Place → ℕ → Use → Bool
early_at p xs k u = is_some_and (λ x. is_too_early p (take k xs) x u) (slice_get xs k)

-- whether a use at the place at hand is too early
abbrev pub is_early : Early → Use → Bool
is_early e u = early_at (pipe_view e.pipe.now) (map place_view e.places.now) e.k u

-- what it knows is so
pub record IsReady (e : Early) : Type 0 where
  pub here : e.k < length e.places.now
  pub suits : SuitsPaths e.pipe.now e.index.now e.places.now
  pub last : AreLast (guards (places (pipe_view e.pipe.now))) (take e.k (map place_view e.places.now)) e.last.now
