-- Netlists that break none of the rules V2 to V5.
use Rattle.std.specs.Prelude.{◌≡◌, ◌≢◌, ℕ, ◌*◌, ◌^◌, ◌≤◌, ◌⊎◌, Bool, true, false, List, [], ◌∷◌, ◌++◌, length, map, flat_map, find, All, AllPairs, Contains, Option, Some, None, codes, decimal, bytes_eq, if◌then◌else◌}
use Rattle.std.specs.List.{range_with_len}
use Rattle.pdl_kit.specs.declared.mem_info.MemInfo.{MemInfo}
use Rattle.pdl_net.specs.declared.Dir.{Dir}
use Rattle.pdl_net.specs.declared.Dir.TheVariants.{In, Out}
use Rattle.pdl_net.specs.declared.Port.{Port}
use Rattle.pdl_net.specs.declared.Array.{Array}
use Rattle.pdl_net.specs.declared.Netlist.{Netlist}
use Rattle.pdl_net.specs.Circuit.{circuit_of}
use Rattle.pdl_net.specs.Well.{IsWell}

-- a port without the net that drives it
pub record Head : Type 0 where
  pub name : List ℕ
  pub width : ℕ
  pub input : Bool

-- whether a port is an input
abbrev pub is_input : Dir → Bool
is_input In = true
is_input (Out x) = false

-- a port without the net that drives it, if it is an output
abbrev pub head_of : Port → Head
head_of p = record { name = p.name; width = p.width; input = is_input p.dir }

-- the head of an input
abbrev pub input : List ℕ → ℕ → Head
input name width = record { name = name; width = width; input = true }

-- the head of an output
abbrev pub output : List ℕ → ℕ → Head
output name width = record { name = name; width = width; input = false }

-- a memory as its ports tell it: its name, the bits of a word, the bits of an address, and whether a cycle may commit two of its writes
pub record PortMem : Type 0 where
  pub name : List ℕ
  pub width : ℕ
  pub bits : ℕ
  pub twice : Bool

-- the inputs by which a delayed memory answers: whether it does, and the word
abbrev pub reply_ports : PortMem → List Head
reply_ports m = input (codes "p_" ++ m.name) 1 ∷ input (codes "pd_" ++ m.name) m.width ∷ []

-- the widths of the inputs by which a delayed memory answers
abbrev pub reply_widths : PortMem → List ℕ
reply_widths m = 1 ∷ m.width ∷ []

-- of a stage: whether it holds a thread, and whether this one moves
abbrev pub stage_ports : ℕ → List Head
stage_ports k = output (codes "v_" ++ decimal k) 1 ∷ output (codes "g_" ++ decimal k) 1 ∷ []

-- of a locked memory: whether it commits, the address, and the word
abbrev pub first_ports : PortMem → List Head
first_ports m = output (codes "c_" ++ m.name) 1 ∷ output (codes "ca_" ++ m.name) m.bits ∷ output (codes "cd_" ++ m.name) m.width ∷ []

-- and the same of a second commit of the cycle
abbrev pub second_ports : PortMem → List Head
second_ports m = output (codes "c2_" ++ m.name) 1 ∷ output (codes "ca2_" ++ m.name) m.bits ∷ output (codes "cd2_" ++ m.name) m.width ∷ []

-- of a locked memory: what it commits, and what it commits second where a cycle may commit two of its writes
abbrev pub commit_ports : PortMem → List Head
commit_ports m = first_ports m ++ (if m.twice then second_ports m else [])

-- of a delayed memory: whether it is asked, and the address
abbrev pub request_ports : PortMem → List Head
request_ports m = output (codes "q_" ++ m.name) 1 ∷ output (codes "qa_" ++ m.name) m.bits ∷ []

-- the ports of a pipe with so many stages and with these memories
abbrev pub pipe_ports : ℕ → List PortMem → List PortMem → List Head
pipe_ports stages delayed locked =
    flat_map reply_ports delayed
    ++ flat_map stage_ports (range_with_len 0 stages)
    ++ flat_map commit_ports locked
    ++ flat_map request_ports delayed
    ++ (output (codes "ended") 1 ∷ output (codes "squash") 1 ∷ [])

-- an address has 1 to 16 bits
pub record IsAddress (m : PortMem) : Type 0 where
  pub low : 1 ≤ m.bits
  pub high : m.bits ≤ 16

-- an array of a memory that isn't delayed: that of a locked memory has its width and its depth or twice that, any other has a depth up to 65,536
pub record IsPipeArray (delayed locked : List PortMem) (a : Array) : Type 0 where
  pub inside : All (λ m. m.name ≢ a.name) delayed
  pub width : All (λ m. m.name ≡ a.name → a.width ≡ m.width) locked
  pub depth : All (λ m. m.name ≡ a.name → (a.depth ≡ 2 ^ m.bits) ⊎ (a.depth ≡ 2 * 2 ^ m.bits)) locked
  pub unlocked : All (λ m. m.name ≢ a.name) locked → a.depth ≤ 65536

-- a locked memory has the name of a delayed one or of an array
abbrev pub IsKept : List PortMem → List Array → PortMem → Type 0
IsKept delayed arrays m = Contains (map (λ d. d.name) delayed) m.name ⊎ Contains (map (λ a. a.name) arrays) m.name

-- a delayed memory, as its ports tell it
abbrev pub delayed_info : PortMem → MemInfo
delayed_info m = record { name = m.name; width = m.width; depth = 2 ^ m.bits; delayed = true }

-- the memory of an array, by the ports of the locked memory of its name, if there is one
abbrev pub comb_info : Array → Option PortMem → MemInfo
comb_info a None = record { name = a.name; width = a.width; depth = a.depth; delayed = false }
comb_info a (Some m) = record { name = a.name; width = m.width; depth = 2 ^ m.bits; delayed = false }

-- the memories that ports and arrays tell: the delayed ones in the order of their inputs, then the others in the order of their arrays
abbrev pub mems_of : List PortMem → List PortMem → List Array → List MemInfo
mems_of delayed locked arrays = map delayed_info delayed ++ map (λ a. comb_info a (find (λ m. bytes_eq m.name a.name) locked)) arrays

-- V5: the ports, arrays and memories are those of a pipe
pub record IsPipe (n : Netlist) : Type 0 where
  pub stages : ℕ
  pub delayed : List PortMem
  pub locked : List PortMem
  pub few : 1 ≤ stages
  pub many : stages ≤ 64
  pub ports : map head_of n.ports ≡ pipe_ports stages delayed locked
  pub delayed_addresses : All IsAddress delayed
  pub locked_addresses : All IsAddress locked
  pub agree : (d l : PortMem) → Contains delayed d → Contains locked l → d.name ≡ l.name → (d.width ≡ l.width) × (d.bits ≡ l.bits)
  pub arrays : All (IsPipeArray delayed locked) n.arrays
  pub kept : All (IsKept delayed n.arrays) locked
  pub mems : n.mems ≡ mems_of delayed locked n.arrays
  pub count : length n.mems ≤ 16

-- a netlist that breaks none of V2 to V5: each cell, register, array and output is driven by nets that are there, with the right widths; no two ports and no two arrays have one name; and it is that of a pipe
pub record IsWellFormed (n : Netlist) : Type 0 where
  pub well : IsWell (circuit_of n)
  pub port_names : AllPairs (λ a b. a ≢ b) (map (λ p. p.name) n.ports)
  pub array_names : AllPairs (λ a b. a ≢ b) (map (λ a. a.name) n.arrays)
  pub pipe : IsPipe n
