-- The text of a run of a netlist.
use Rattle.std.specs.Prelude.{◌≡◌, ◌<◌, ℕ, List, All, length, map}
use Rattle.std.specs.List.{range_with_len}
use Rattle.pdl_semantics.specs.Lines.{Cycle}
use Rattle.pdl_net.specs.declared.Netlist.{Netlist}
use Rattle.pdl_net.specs.Run.{Held, mem_at, nports_from}
use Rattle.pdl_image.specs.Delays.{bits_in}
use Rattle.pdl_law_parts.specs.Runs.{cycle_of, commit_mems, shown_lines}
use Rattle.pdl_netrun_lines.specs.declared.print.Schedule.{Schedule}

-- the cycles of a run with these reply bits, from a state on
abbrev pub cycles_from : Netlist → Held → List ℕ → List Cycle
cycles_from n h replies = map (cycle_of n) (nports_from n h replies)

-- the text of a run: what the netlist commits, and the end line
abbrev pub run_text : Netlist → List (List ℕ) → List ℕ → List ℕ
run_text n image replies = shown_lines n image replies

-- the numbers of the memories with a commit port, in the order of these ports
pub record AreOrdered (n : Netlist) (order : List ℕ) : Type 0 where
  pub there : All (λ i. i < length n.mems) order
  pub mems : map (mem_at n) order ≡ commit_mems n

-- the reply bits of so many cycles, of which the first has this number, by the rows of a delay file
abbrev pub replies_from : List ℕ → ℕ → ℕ → List ℕ
replies_from rows first cycles = map (bits_in rows) (range_with_len first cycles)

-- the reply bits of a run of so many cycles: those of the rows, and after the last row each is 1
abbrev pub schedule : List ℕ → ℕ → List ℕ
schedule rows cycles = replies_from rows 1 cycles

-- the reply bits of the run that is asked for
abbrev pub replies_of : Schedule → List ℕ
replies_of s = schedule s.delays.now s.cycles
