-- The threads that may come into a stage out of other ones, by nets.
use Rattle.std.specs.Prelude.{◌≡◌, ℕ, List, [], ◌∷◌, ⊤}
use Rattle.pdl_semantics.specs.Flat.{Pipe}
use Rattle.pdl_net.specs.declared.Net.{Net}
use Rattle.pdl_net.specs.Circuit.{Circuit, State}
use Rattle.pdl_net.specs.Signal.{Signal}
use Rattle.pdl_net.specs.Meaning.{signal}
use Rattle.pdl_net.specs.HasWidth.{HasWidth}
use Rattle.pdl_law_parts.specs.Walk.{is_on}
use Rattle.pdl_law_parts.specs.Views.{View, out_of}
use Rattle.pdl_pipe_nexts.specs.declared.arrivals.Arrival.{Arrival}

-- a net tells whether the thread of stage j moves into stage q
pub record Comes (c : Circuit) (p : Pipe) (vs : ℕ → View) (moves : ℕ → Signal) (q j : ℕ) (x : Net) : Type 0 where
  pub bit : HasWidth c x 1
  pub on : (s : State) → is_on (signal c x) s ≡ is_on (out_of p vs moves q j).comes s

-- a thread that may come out of stage j
pub record IsArrival (c : Circuit) (p : Pipe) (vs : ℕ → View) (moves : ℕ → Signal) (q j : ℕ) (a : Arrival) : Type 0 where
  pub from : a.from ≡ j
  pub comes : Comes c p vs moves q j a.comes

-- one out of each of these stages, in order
abbrev pub AreArrivals : Circuit → Pipe → (ℕ → View) → (ℕ → Signal) → ℕ → List ℕ → List Arrival → Type 0
AreArrivals c p vs moves q [] [] = ⊤
AreArrivals c p vs moves q (j ∷ js) (a ∷ xs) = IsArrival c p vs moves q j a × AreArrivals c p vs moves q js xs
AreArrivals c p vs moves q _ _ = ⊥
