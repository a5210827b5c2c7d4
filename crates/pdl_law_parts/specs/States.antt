-- The registers and arrays of a netlist after some cycles of a run.
use Rattle.std.specs.Prelude.{ℕ, List, [], ◌∷◌}
use Rattle.pdl_net.specs.declared.Netlist.{Netlist}
use Rattle.pdl_net.specs.Run.{Held, next}

-- after the cycles of a schedule, from a cycle's start on
abbrev pub held_after : Netlist → Held → List ℕ → Held
held_after n h [] = h
held_after n h (bits ∷ schedule) = held_after n (next n h bits) schedule
