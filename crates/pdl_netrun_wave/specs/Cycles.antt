-- The lines of a dump, cycle by cycle.
use Rattle.std.specs.Prelude.{◌≡◌, ℕ, suc, ◌<◌, ◌≤◌, ◌==◌, Bool, true, false, List, [], ◌∷◌, ◌++◌, length, map, flat_map, All, if◌then◌else◌}
use Rattle.pdl_net.specs.declared.Netlist.{Netlist}
use Rattle.pdl_net.specs.Circuit.{circuit_of, inputs_of}
use Rattle.pdl_net.specs.Holds.{Holds}
use Rattle.pdl_net.specs.Run.{Held, delayed_mems}
use Rattle.pdl_net.specs.Well.{IsWell}
use Rattle.pdl_netrun.specs.Outside.{WordsFit, CommitsFit}
use Rattle.pdl_netrun.specs.Sim.{Run}
use Rattle.pdl_wave.specs.declared.port.WavePort.{WavePort}
use Rattle.pdl_wave.specs.Moments.{Change, Moment, changes, with_moment}
use Rattle.pdl_wave.specs.Dump.{IsRow, ended, change_line, moment_lines}
use Rattle.pdl_netrun_wave.specs.Dumped.{wave_ports}

-- the values before a cycle: none before the first
abbrev pub known : Bool → List ℕ → List ℕ
known first before = if first then [] else before

-- the moment of a cycle: that of the first one, or of one in which some port changes
abbrev pub cycle_moments : Bool → ℕ → List ℕ → List ℕ → List Moment
cycle_moments true cycle before now = record { time = cycle; changes = changes 0 [] now } ∷ []
cycle_moments false cycle before now = with_moment cycle (changes 0 before now) []

-- the text of changes, line by line
abbrev pub changes_text : List WavePort → List Change → List ℕ
changes_text ports xs = flat_map ended (map (change_line ports) xs)

-- the text of moments, line by line
abbrev pub moments_text : List WavePort → List Moment → List ℕ
moments_text ports ms = flat_map ended (flat_map (moment_lines ports) ms)

-- the text of a cycle
abbrev pub cycle_text : List WavePort → ℕ → List ℕ → List ℕ → List ℕ
cycle_text ports cycle before now = moments_text ports (cycle_moments (cycle == 1) cycle before now)

-- the text of the i-th port in a cycle: its value, if it changed
abbrev pub port_text : List WavePort → Bool → ℕ → ℕ → List ℕ
port_text ports changed i now = if changed then ended (change_line ports (record { port = i; value = now })) else []

-- the text of the cycles from one on, with the values before it and those in each
abbrev pub cycles_text : List WavePort → ℕ → List ℕ → List (List ℕ) → List ℕ
cycles_text ports cycle before [] = []
cycles_text ports cycle before (now ∷ rest) = cycle_text ports cycle before now ++ cycles_text ports (suc cycle) now rest

-- ports that can be dumped: fewer than 8,930, of 1 to 128 bits
pub record AreDumpable (ports : List WavePort) : Type 0 where
  pub few : length ports < 8930
  pub low : All (λ p. 1 ≤ p.width) ports
  pub high : All (λ p. p.width ≤ 128) ports

-- the ports of a simulator, whose last cycle has values that fit them
pub record IsShownBy (ports : List WavePort) (run : Run) : Type 0 where
  pub own : ports ≡ wave_ports run.netlist
  pub row : IsRow ports run.last.ports

-- a netlist in a state whose registers and arrays fit it, and whose delayed memories fit their inputs, whatever they commit
pub record IsFit (n : Netlist) (h : Held) : Type 0 where
  pub well : IsWell (circuit_of n)
  pub holds : Holds (circuit_of n) h.regs h.arrays
  pub words : WordsFit (inputs_of (circuit_of n)) h.stores
  pub commits : CommitsFit (circuit_of n) (inputs_of (circuit_of n)) (delayed_mems n)
