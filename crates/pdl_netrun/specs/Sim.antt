-- What a caller sees of a simulator.
use Rattle.std.specs.Prelude.{ℕ, List, length, replicate, false}
use Rattle.pdl_net.specs.declared.Netlist.{Netlist}
use Rattle.pdl_net.specs.Circuit.{circuit_of, outputs_of}
use Rattle.pdl_net.specs.Run.{Held, Shown, Store, start, shown_ports, next}

-- the netlist, the state at the start of the next cycle, and what the last cycle showed
pub record Run : Type 0 where
  pub netlist : Netlist
  pub held : Held
  pub last : Shown

-- what is shown before the first cycle: all ports are 0 and nothing waits
abbrev pub nothing : Netlist → Shown
nothing n = record { ports = replicate (length (outputs_of (circuit_of n))) 0; waited = false }

-- a run before the first cycle, where registers, arrays and delayed memories hold this
abbrev pub run_at : Netlist → List ℕ → List (List ℕ) → List Store → Run
run_at n regs arrays stores = record { netlist = n; held = record { regs = regs; arrays = arrays; stores = stores }; last = nothing n }

-- a run at the start of the first cycle
abbrev pub run_at_start : Netlist → List (List ℕ) → Run
run_at_start n image = record { netlist = n; held = start n image; last = nothing n }

-- a run after a cycle with these reply bits
abbrev pub run_after : Run → ℕ → Run
run_after r bits = record { netlist = r.netlist; held = next r.netlist r.held bits; last = shown_ports r.netlist r.held bits }
