-- What V5 asks of a shape and of arrays, as tests.
use Rattle.std.specs.Prelude.{◌≤◌, ◌==◌, ℕ, ◌+◌, ◌*◌, ◌^◌, Bool, true, false, ◌&&◌, ◌||◌, not, nat_le, cond, List, [], ◌∷◌, length, find, bytes_eq, codes, Option, Some, None}
use Rattle.std.specs.List.{list_any, list_all}
use Rattle.pdl_kit.specs.declared.mem_info.MemInfo.{MemInfo}
use Rattle.pdl_net.specs.declared.Array.{Array}
use Rattle.pdl_net.specs.declared.Netlist.{Netlist}
use Rattle.pdl_net.specs.Pipe.{Head, PortMem, output, pipe_ports, mems_of}
use Rattle.pdl_vread_pipe.specs.declared.shape.Shape.{Shape}
use Rattle.pdl_vread_pipe.specs.ToldParts.{told}
use Rattle.pdl_vread_pipe.specs.ExpectedPorts.{heads, after}

-- a memory has this name
abbrev pub is_named : List ℕ → PortMem → Bool
is_named x m = bytes_eq m.name x

-- the first memory of a name
abbrev pub find_named : List ℕ → List PortMem → Option PortMem
find_named x ms = find (is_named x) ms

-- an address has at most 16 bits
abbrev pub IsShort : PortMem → Type 0
IsShort m = m.bits ≤ 16

-- an address has 1 to 16 bits
abbrev pub has_address : PortMem → Bool
has_address m = nat_le 1 m.bits && nat_le m.bits 16

-- two memories have words of one width and addresses of as many bits
abbrev pub same_sizes : PortMem → PortMem → Bool
same_sizes d l = d.width == l.width && d.bits == l.bits

-- two memories of one name have the same sizes
abbrev pub agrees : PortMem → PortMem → Bool
agrees d l = cond (bytes_eq d.name l.name) (same_sizes d l) true

-- a memory agrees with each of the locked ones that has its name
abbrev pub all_agree : List PortMem → PortMem → Bool
all_agree locked d = list_all (agrees d) locked

-- the depth of so many address bits, or twice that
abbrev pub has_depth : ℕ → ℕ → Bool
has_depth bits depth = depth == 2 ^ bits || depth == 2 * 2 ^ bits

-- an array of a locked memory has its width, and its depth or twice that
abbrev pub fits_lock : Array → PortMem → Bool
fits_lock a m = cond (bytes_eq m.name a.name) (a.width == m.width && has_depth m.bits a.depth) true

-- an array is one of a memory that isn't delayed
abbrev pub is_array : List PortMem → List PortMem → Array → Bool
is_array delayed locked a =
    not (list_any (is_named a.name) delayed)
    && (list_all (fits_lock a) locked && (list_any (is_named a.name) locked || nat_le a.depth 65536))

-- a locked memory has the name of a delayed one or of an array
abbrev pub is_kept : List PortMem → List Array → PortMem → Bool
is_kept delayed arrays m = list_any (is_named m.name) delayed || list_any (λ a. bytes_eq a.name m.name) arrays

-- no ports are left
abbrev pub is_over : Option (List Head) → Bool
is_over (Some []) = true
is_over (Some (h ∷ hs)) = false
is_over None = false

-- the last ports of each pipe
abbrev pub last_ports : List Head
last_ports = output (codes "ended") 1 ∷ output (codes "squash") 1 ∷ []

-- the ports are those of the shape
abbrev pub has_ports : List Head → Shape → Bool
has_ports hs s = is_over (after (pipe_ports s.stages s.delayed s.locked) hs)

-- how many stages and memories there are
abbrev pub has_counts : Shape → List Array → Bool
has_counts s arrays = nat_le 1 s.stages && (nat_le s.stages 64 && nat_le (length s.delayed + length arrays) 16)

-- the memories of the shape, and the arrays
abbrev pub has_mems : Shape → List Array → Bool
has_mems s arrays =
    list_all has_address s.delayed
    && (list_all has_address s.locked
    && (list_all (all_agree s.locked) s.delayed && (list_all (is_array s.delayed s.locked) arrays && list_all (is_kept s.delayed arrays) s.locked)))

-- the ports and arrays of a netlist are those of a pipe of this shape
abbrev pub is_pipe : Netlist → Shape → Bool
is_pipe n s = has_counts s n.arrays && (has_ports (heads n.ports) s && has_mems s n.arrays)

-- the memories of a netlist that is a pipe's
unfoldable pub judged : Netlist → Option (List MemInfo)
judged n = cond (is_pipe n (told (heads n.ports))) (Some (mems_of (told (heads n.ports)).delayed (told (heads n.ports)).locked n.arrays)) None
