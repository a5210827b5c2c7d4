use Rattle.std.proofs.Common.{◌≡◌, ◌<◌, ℕ, false, ◌&&◌, not, map, take}
use Rattle.pdl_syntax_tree.specs.View.{pipe_view}
use Rattle.pdl_rules.specs.Places.{places, guards, on_path}
use Rattle.pdl_paths.specs.Actions.{place_view}
use Rattle.pdl_paths.specs.Masks.{path_of}
use Rattle.pdl_rules_names.specs.Ready.{given_on}
use Rattle.pdl_rules_names.proofs.early.Early.is_ungiven.Given as goal

-- it is given on the paths so far
abbrev pub invariant-loop-b : goal.invariant-loop-b
invariant-loop-b l =
    (b : ℕ) → b < l.b
    → (on_path (path_of (guards (places (pipe_view l.self.pipe.now))) b) (place_view l.place)
    && not
    (given_on (path_of (guards (places (pipe_view l.self.pipe.now))) b) (take l.self.k (map place_view l.self.places.now)) l.d (place_view l.definition)))
    ≡ false
