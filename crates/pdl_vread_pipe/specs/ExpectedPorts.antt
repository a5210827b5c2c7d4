-- Ports that are compared with expected ones, one after another.
use Rattle.std.specs.Prelude.{◌≡◌, ◌==◌, ℕ, Bool, ◌&&◌, not, List, [], ◌∷◌, ◌++◌, map, cond, bytes_eq, Option, Some, None}
use Rattle.std.specs.Option.{option_map, option_copied}
use denote.Ref.{Bor}
use Rattle.pdl_net.specs.declared.Port.{Port}
use Rattle.pdl_net.specs.Pipe.{Head, PortMem, head_of, output}

-- a port is what is expected
abbrev pub same : Head → Head → Bool
same e h = bytes_eq h.name e.name && (h.width == e.width && cond e.input h.input (not h.input))

-- what is left of ports that begin with the expected ones
abbrev pub after : List Head → List Head → Option (List Head)
after [] hs = Some hs
after (e ∷ es) [] = None
after (e ∷ es) (h ∷ hs) = cond (same e h) (after es hs) None

-- ports without the nets that drive them
abbrev pub heads : List Port → List Head
heads ports = map head_of ports

-- the three ports of a commit, by their prefixes: whether there is one, the address, and the value
abbrev pub three_ports : List ℕ → List ℕ → List ℕ → PortMem → List Head
three_ports enable addr value m = output (enable ++ m.name) 1 ∷ output (addr ++ m.name) m.bits ∷ output (value ++ m.name) m.width ∷ []

-- the ports begin with the expected ones, and these are left of them; or they don't, and nothing is answered
abbrev pub Leaves : List Head → List Port → Option (Bor (List Port)) → Type 0
Leaves es ports r = option_map heads (option_copied r) ≡ after es (heads ports)
