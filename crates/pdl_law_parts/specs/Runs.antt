-- A netlist shows what the machine of a pipe shows.
use Rattle.std.specs.Prelude.{ℕ, ◌-◌, ◌==◌, Bool, List, [], ◌∷◌, ◌++◌, Option, Some, None, map, filter_map, find, length, slice_index, codes, bytes_eq}
use Rattle.pdl_kit.specs.declared.mem_info.MemInfo.{MemInfo}
use Rattle.pdl_semantics.specs.Lines.{Column, Put, Cycle, lines}
use Rattle.pdl_net.specs.declared.Netlist.{Netlist}
use Rattle.pdl_net.specs.Circuit.{Output, circuit_of, outputs_of}
use Rattle.pdl_net.specs.Run.{Shown, nports, commit_of, commit2_of}

-- what is seen of a cycle: the values of the ports, and whether it is a wait
pub record Seen : Type 0 where
  pub ports : List ℕ
  pub wait : Bool

-- what is seen of a cycle that a netlist shows
abbrev pub seen_of : Shown → Seen
seen_of x = record { ports = x.ports; wait = x.waited }

-- a memory as lines show it
abbrev pub column_of : MemInfo → Column
column_of m = record { name = m.name; width = m.width }

-- a commit, where there is one, as lines show it
abbrev pub puts_of : Option (ℕ × ℕ) → List Put
puts_of None = []
puts_of (Some (address, value)) = record { address = address; value = value } ∷ []

-- what a memory of this name commits in a cycle that shows these ports, as lines show it: the first commit before the second
abbrev pub puts_in : Netlist → List ℕ → List ℕ → List Put
puts_in n ports name = puts_of (commit_of (circuit_of n) ports name) ++ puts_of (commit2_of (circuit_of n) ports name)

-- how many outputs there are; `ended` and `squash` are the last two of them
abbrev pub output_count : Netlist → ℕ
output_count n = length (outputs_of (circuit_of n))

-- a cycle by what these memories commit, by the names of their ports
abbrev pub cycle_by : Netlist → List MemInfo → Shown → Cycle
cycle_by n mems seen = record {
  puts = map (λ (m : MemInfo). puts_in n seen.ports m.name) mems;
  ended = slice_index seen.ports (output_count n - 2) == 1;
  wait = seen.waited;
  squash = slice_index seen.ports (output_count n - 1) == 1;
}

-- the memory whose commit port has this name
abbrev pub commit_mem : List MemInfo → List ℕ → Option MemInfo
commit_mem mems port = find (λ (m : MemInfo). bytes_eq port (codes "c_" ++ m.name)) mems

-- the memories with a commit port, in the order of these ports
abbrev pub commit_mems : Netlist → List MemInfo
commit_mems n = filter_map (λ (o : Output). commit_mem n.mems o.name) (outputs_of (circuit_of n))

-- a cycle as lines show it
abbrev pub cycle_of : Netlist → Shown → Cycle
cycle_of n seen = cycle_by n (commit_mems n) seen

-- the lines of a run
abbrev pub shown_lines : Netlist → List (List ℕ) → List ℕ → List ℕ
shown_lines n image schedule =
    lines (map column_of (commit_mems n)) (map (cycle_of n) (nports n image schedule))
