-- What a netlist shows in each cycle, with an environment that keeps its delayed memories.
use Rattle.std.specs.Prelude.{ℕ, ◌-◌, ◌/◌, ◌%◌, ◌==◌, Bool, true, false, ◌||◌, if◌then◌else◌, List, [], ◌∷◌, ◌++◌, length, map, replicate, take, drop, filter, slice_index, slice_index_or, slice_set, Option, Some, None, codes, bytes_eq}
use Rattle.std.specs.List.{position_from}
use Rattle.pdl_kit.specs.declared.mem_info.MemInfo.{MemInfo}
use Rattle.pdl_net.specs.declared.Array.{Array}
use Rattle.pdl_net.specs.declared.Netlist.{Netlist}
use Rattle.pdl_net.specs.Circuit.{Circuit, State, circuit_of, outputs_of}
use Rattle.pdl_net.specs.Cycle.{output_values, next_regs, next_arrays}

-- a delayed memory in the environment: its words, and the address of the outstanding request
pub record Store : Type 0 where
  pub words : List ℕ
  pub request : Option ℕ

-- the registers, arrays and delayed memories at the start of a cycle
pub record Held : Type 0 where
  pub regs : List ℕ
  pub arrays : List (List ℕ)
  pub stores : List Store

-- what is seen of a cycle: the values of the outputs in order, and whether some request waits for its answer
pub record Shown : Type 0 where
  pub ports : List ℕ
  pub waited : Bool

-- the reply bit of the first delayed memory; those of the others are in the higher bits
abbrev pub reply : ℕ → Bool
reply bits = bits % 2 == 1

-- a delayed memory's two inputs: 1 and the word asked for, where a request is outstanding and the reply bit is 1; else 0 and 0
abbrev pub answer : List ℕ → Option ℕ → Bool → List ℕ
answer words (Some a) true = 1 ∷ slice_index words a ∷ []
answer words _ _ = 0 ∷ 0 ∷ []

-- the inputs of all of them, in order
abbrev pub answers : List Store → ℕ → List ℕ
answers [] bits = []
answers (m ∷ ms) bits = answer m.words m.request (reply bits) ++ answers ms (bits / 2)

-- a request is outstanding and isn't answered
abbrev pub is_waiting : Option ℕ → Bool → Bool
is_waiting (Some a) false = true
is_waiting _ _ = false

-- whether an outstanding request of one of the delayed memories isn't answered
abbrev pub some_waits : List Store → ℕ → Bool
some_waits [] bits = false
some_waits (m ∷ ms) bits = is_waiting m.request (reply bits) || some_waits ms (bits / 2)

-- the state of the circuit in a cycle with these reply bits
abbrev pub state_in : Held → ℕ → State
state_in h bits = record { inputs = answers h.stores bits; regs = h.regs; arrays = h.arrays }

-- what is seen of a cycle that begins so, with these reply bits
abbrev pub shown_ports : Netlist → Held → ℕ → Shown
shown_ports n h bits = record { ports = output_values (circuit_of n) (state_in h bits); waited = some_waits h.stores bits }

-- the value of the output at a place, 0 where there is none
abbrev pub value_at : List ℕ → Option ℕ → ℕ
value_at ports (Some i) = slice_index ports i
value_at ports None = 0

-- the place of the first output of this name
abbrev pub place_of : Circuit → List ℕ → Option ℕ
place_of c name = position_from (λ o. bytes_eq o.name name) 0 (outputs_of c)

-- the value of the output of this name, 0 where there is none
abbrev pub port_value : Circuit → List ℕ → List ℕ → ℕ
port_value c ports name = value_at ports (place_of c name)

-- what a memory commits: an address and a value, where its commit port is 1
abbrev pub commit_of : Circuit → List ℕ → List ℕ → Option (ℕ × ℕ)
commit_of c ports mem =
    if port_value c ports (codes "c_" ++ mem) == 1 then Some (port_value c ports (codes "ca_" ++ mem), port_value c ports (codes "cd_" ++ mem)) else None

-- what a memory commits after that in the same cycle: an address and a value, where its second commit port is 1
abbrev pub commit2_of : Circuit → List ℕ → List ℕ → Option (ℕ × ℕ)
commit2_of c ports mem =
    if port_value c ports (codes "c2_" ++ mem) == 1
    then Some (port_value c ports (codes "ca2_" ++ mem), port_value c ports (codes "cd2_" ++ mem))
    else None

-- what a memory is asked for: an address, where its request port is 1
abbrev pub request_of : Circuit → List ℕ → List ℕ → Option ℕ
request_of c ports mem = if port_value c ports (codes "q_" ++ mem) == 1 then Some (port_value c ports (codes "qa_" ++ mem)) else None

-- the words after a commit
abbrev pub committed_words : List ℕ → Option (ℕ × ℕ) → List ℕ
committed_words words None = words
committed_words words (Some (a, v)) = slice_set words a v

-- a request of this cycle is the outstanding one, in place of any other; without one an answered request is over and any other stays
abbrev pub outstanding : Option ℕ → Bool → Option ℕ → Option ℕ
outstanding old answered (Some a) = Some a
outstanding old true None = None
outstanding old false None = old

-- the delayed memories, with these names, after a cycle that shows these ports
abbrev pub next_stores : Circuit → List ℕ → List MemInfo → List Store → ℕ → List Store
next_stores c ports [] stores bits = []
next_stores c ports (i ∷ infos) [] bits = []
next_stores c ports (i ∷ infos) (m ∷ ms) bits =
    record {
      words = committed_words (committed_words m.words (commit_of c ports i.name)) (commit2_of c ports i.name);
      request = outstanding m.request (reply bits) (request_of c ports i.name);
    }
    ∷ next_stores c ports infos ms (bits / 2)

-- the delayed memories, in order
abbrev pub delayed_mems : Netlist → List MemInfo
delayed_mems n = filter (λ m. m.delayed) n.mems

-- the registers, arrays and delayed memories after a cycle with these reply bits
abbrev pub next : Netlist → Held → ℕ → Held
next n h bits = record {
  regs = next_regs (circuit_of n) (state_in h bits);
  arrays = next_arrays (circuit_of n) (state_in h bits);
  stores = next_stores (circuit_of n) (shown_ports n h bits).ports (delayed_mems n) h.stores bits;
}

-- words, and zeros after them up to a depth
abbrev pub filled_words : ℕ → List ℕ → List ℕ
filled_words depth words = words ++ replicate (depth - length words) 0

-- each array with its part of an image
abbrev pub loaded_arrays : List Array → List (List ℕ) → List (List ℕ)
loaded_arrays [] image = []
loaded_arrays (a ∷ rest) image = filled_words a.depth (slice_index_or image 0 []) ∷ loaded_arrays rest (drop 1 image)

-- the start of the first cycle: reset values, and the image, whose first parts are those of the delayed memories and whose others are those of the arrays
abbrev pub start : Netlist → List (List ℕ) → Held
start n image = record {
  regs = map (λ r. r.reset) n.regs;
  arrays = loaded_arrays n.arrays (drop (length (delayed_mems n)) image);
  stores = map (λ words. record { words = words; request = None }) (take (length (delayed_mems n)) image);
}

-- what is seen in each cycle of a schedule, from a cycle's start on
abbrev pub nports_from : Netlist → Held → List ℕ → List Shown
nports_from n h [] = []
nports_from n h (bits ∷ schedule) = shown_ports n h bits ∷ nports_from n (next n h bits) schedule

-- what is seen in each cycle: an image has a list of words for each memory of the netlist, and a schedule the reply bits of each cycle
abbrev pub nports : Netlist → List (List ℕ) → List ℕ → List Shown
nports n image schedule = nports_from n (start n image) schedule

-- the memory past the last one
abbrev pub no_mem : MemInfo
no_mem = record { name = []; width = 0; depth = 0; delayed = false }

-- the m-th memory
abbrev pub mem_at : Netlist → ℕ → MemInfo
mem_at n m = slice_index_or n.mems m no_mem

-- what the m-th memory commits in a cycle
abbrev pub committed_by : Netlist → Shown → ℕ → Option (ℕ × ℕ)
committed_by n seen m = commit_of (circuit_of n) seen.ports (mem_at n m).name

-- what the m-th memory commits in a cycle after that
abbrev pub committed2_by : Netlist → Shown → ℕ → Option (ℕ × ℕ)
committed2_by n seen m = commit2_of (circuit_of n) seen.ports (mem_at n m).name
