-- When the ports of a run change, and what a port shows in a cycle by its changes alone.
use Rattle.std.specs.Prelude.{ℕ, suc, ◌==◌, nat_le, Bool, true, not, List, [], ◌∷◌, Option, Some, None, slice_get, if◌then◌else◌}
use Rattle.std.specs.Option.{option_or}

-- a port, by its number from 0, and the value that it takes
pub record Change : Type 0 where
  pub port : ℕ
  pub value : ℕ

-- a time, and the changes at it
pub record Moment : Type 0 where
  pub time : ℕ
  pub changes : List Change

-- whether a value is another than before, if there was one before
abbrev pub differs : Option ℕ → ℕ → Bool
differs None v = true
differs (Some u) v = not (u == v)

-- ---- from the values to the changes

-- the ports, from the i-th on, whose values differ from those before
abbrev pub changes : ℕ → List ℕ → List ℕ → List Change
changes i before [] = []
changes i before (v ∷ vs) = if differs (slice_get before i) v then record { port = i; value = v } ∷ changes (suc i) before vs else changes (suc i) before vs

-- the moment of a cycle in which a port changes, before the moments after it
abbrev pub with_moment : ℕ → List Change → List Moment → List Moment
with_moment cycle [] later = later
with_moment cycle (x ∷ xs) later = record { time = cycle; changes = x ∷ xs } ∷ later

-- the moments from a cycle on, where the values before it and those in each cycle are given
abbrev pub moments : ℕ → List ℕ → List (List ℕ) → List Moment
moments cycle before [] = []
moments cycle before (now ∷ rest) = with_moment cycle (changes 0 before now) (moments (suc cycle) now rest)

-- the moments of a run with these values in its cycles: in cycle 1 each port changes, and of the other cycles those count in which some port does
abbrev pub run_moments : List (List ℕ) → List Moment
run_moments [] = []
run_moments (now ∷ rest) = record { time = 1; changes = changes 0 [] now } ∷ moments 2 now rest

-- ---- from the changes to the values

-- the value that a port takes by changes, if it is among them
abbrev pub taken : ℕ → List Change → Option ℕ
taken port [] = None
taken port (x ∷ xs) = if x.port == port then Some x.value else taken port xs

-- the value of a port in a cycle: that of its last change at a time not above the cycle
abbrev pub value_in : List Moment → ℕ → ℕ → Option ℕ
value_in [] cycle port = None
value_in (m ∷ later) cycle port = option_or (value_in later cycle port) (if nat_le m.time cycle then taken port m.changes else None)
