-- Reads that are bound too late.
use Rattle.std.proofs.Common.{◌≡◌, refl, sym, ap, ap₂, ◌∙◌, ℕ, suc, ◌<◌, Bool, true, false, ◌&&◌, nat_lt, List, [], ◌∷◌, ◌++◌, map, take, drop, length, if◌then◌else◌, None, arith}
use Rattle.std.proofs.lemmas.List.{length-map}
use Rattle.pdl_semantics.specs.Tree.{Pipe}
use Rattle.pdl_rules.specs.Places.{Place, Guard, places, places_after}
use Rattle.pdl_rules.specs.Parts.{is_some_and}
use Rattle.pdl_rules.specs.Locks.{is_locked}
use Rattle.pdl_rules.specs.Stages.{first_stage, releases_memory, is_bound_late, next_on, stage_after}
use Rattle.pdl_paths.specs.declared.place.Place as r_place
use Rattle.pdl_paths.specs.Actions.{place_view}
use Rattle.pdl_locks.specs.Bound.{last_of}

-- a read of a locked memory is bound too late in a stage after that of the memory's releases
pub late_as : (p : Pipe) (m : List ℕ) (s : ℕ) → is_some_and (λ c. nat_lt c s) (last_of p m) ≡ is_bound_late p m s
late_as p m s = at (is_locked p.mems m)
  where
    at : (b : Bool)
        → is_some_and (λ c. nat_lt c s) (if b then first_stage (releases_memory m) [] (places p) else None)
        ≡ (b && is_some_and (λ c. nat_lt c s) (first_stage (releases_memory m) [] (places p)))
    at true = refl
    at false = refl

-- the places round one
taken_front : (before later : List Place) (x : Place) → take (length before) (before ++ x ∷ later) ≡ before
taken_front [] later x = refl
taken_front (y ∷ before) later x = ap (λ ys. y ∷ ys) (taken_front before later x)

longer : (before later : List Place) (x : Place) → length before < length (before ++ x ∷ later)
longer [] later x = omega arith
longer (y ∷ before) later x = let rest = longer before later x in omega arith

-- the place after the first k is one of the rows of places
pub is_within : (rows : List r_place.Place) (before later : List Place) (x : Place) (k : ℕ)
    → before ++ x ∷ later ≡ map place_view rows → k ≡ length before → k < length rows
is_within rows before later x k seen e =
    let more = longer before later x in
    let same : length (before ++ x ∷ later) ≡ length rows = ap length seen ∙ length-map rows place_view in
    omega arith

-- the stage that comes next on a path after a place, by the rows and by the places of the pipe
pub next_as : (p : Pipe) (path : List Guard) (rows : List r_place.Place) (before later : List Place) (x : Place) (k : ℕ)
    → before ++ x ∷ later ≡ places p → before ++ x ∷ later ≡ map place_view rows → k ≡ length before
    → next_on path (stage_after (take k (map place_view rows))) (drop (suc k) (map place_view rows))
    ≡ next_on path (stage_after before) (places_after p before)
next_as p path rows before later x k text seen e =
    ap₂ (λ n ys. next_on path (stage_after (take n ys)) (drop (suc n) ys)) e (sym seen)
    ∙ ap₂ (λ b ys. next_on path (stage_after b) (drop (suc (length before)) ys)) (taken_front before later x) text
