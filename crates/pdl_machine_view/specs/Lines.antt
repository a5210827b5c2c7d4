-- The lines of a view, of a machine that runs on.
use Rattle.std.specs.Prelude.{ℕ, zero, suc, ◌+◌, ◌*◌, ◌==◌, List, [], ◌∷◌, ◌++◌, map, codes, decimal, slice_index}
use Rattle.pdl_semantics.specs.Flat.{Pipe}
use Rattle.pdl_semantics.specs.Machine.{State}
use Rattle.pdl_semantics.specs.Cycle.{letter, turns_from, view}
use Rattle.pdl_semantics.specs.Lines.{view_from}
use Rattle.pdl_machine_facts.specs.Ports.{delayed_count, replies_of}

-- the letter of a stage, by its two ports: whether it holds a thread, and whether that moves
abbrev pub letter_at : List ℕ → ℕ → ℕ
letter_at shown stage = letter (slice_index shown (2 * stage) == 1) (slice_index shown (2 * stage + 1) == 1)

-- the letters of so many stages from one on
abbrev pub letters_from : List ℕ → ℕ → ℕ → List ℕ
letters_from shown stage zero = []
letters_from shown stage (suc left) = letter_at shown stage ∷ letters_from shown (stage + 1) left

-- the line of a cycle: its number, and the letter of each stage
abbrev pub cycle_line : ℕ → List ℕ → ℕ → List ℕ
cycle_line cycle shown stages = (decimal cycle ++ codes " ") ++ (letters_from shown 0 stages ++ codes "\n")

-- the lines of the stated machine of a pipe that runs on from a state with these reply bits, of which the first has this number
abbrev pub lines_from : ℕ → Pipe → State → List ℕ → List ℕ
lines_from cycle p st schedule = view_from cycle (view (turns_from p st (map (replies_of (delayed_count p)) schedule)))
