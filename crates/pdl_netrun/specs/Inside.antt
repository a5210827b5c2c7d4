-- The fields of a simulator.
use Rattle.std.specs.Prelude.{◌≡◌, ℕ, ◌+◌, ◌*◌, ◌≤◌, Bool, true, false, List, length, map, replicate, slice_index, vec_capacity}
use Rattle.pdl_net.specs.Circuit.{circuit_of, outputs_of}
use Rattle.pdl_net.specs.Well.{IsWell}
use Rattle.pdl_net.specs.Holds.{Holds}
use Rattle.pdl_net.specs.Run.{delayed_mems}
use Rattle.pdl_netrun.specs.Order.{place, first_place, IsOrder, AllEarly}
use Rattle.pdl_netrun.specs.Plan.{HasConstants}
use Rattle.pdl_netrun.specs.Held.{AreWithin, IsPlan, bits_of, held_lists}
use Rattle.pdl_netrun.specs.Outside.{AddressesFit, AddressesSeen, AreOutside, stores_of}
use Rattle.pdl_netrun.specs.Places.{places_of}
use Rattle.pdl_netrun.specs.Sim.{Run}
use Rattle.pdl_netrun.specs.declared.sim.Sim.TheInside.{Inside}

-- the values at these places in the last cycle, 0 before the first one
abbrev pub seen_at : Bool → List ℕ → List ℕ → List ℕ
seen_at true vs ds = map (slice_index vs) ds
seen_at false vs ds = replicate (length ds) 0

-- what a caller sees
abbrev pub run_of : Inside → Run
run_of a = record {
  netlist = a.net.now;
  held = record { regs = (held_lists a.held).next; arrays = (held_lists a.held).arrays; stores = stores_of a.outside.items };
  last = record { ports = seen_at a.shown (held_lists a.held).values a.drivers.items; waited = a.waits };
}

-- the plan is that of the netlist in some order of its cells, and the values of constants stand
pub record IsReady (a : Inside) : Type 0 where
  pub order : List ℕ
  pub places : List ℕ
  pub well : IsWell (circuit_of a.net.now)
  pub outside : AreOutside (circuit_of a.net.now) (delayed_mems a.net.now) a.outside.items
  pub inputs : 2 * length a.outside.items ≤ vec_capacity a.inputs
  pub ordered : IsOrder (circuit_of a.net.now) order places
  pub all : AllEarly (circuit_of a.net.now) places (length (held_lists a.held).values)
  pub plan : IsPlan (circuit_of a.net.now) order places a.plan
  pub drivers : a.drivers.items ≡ map (λ o. place (circuit_of a.net.now) places o.net) (outputs_of (circuit_of a.net.now))
  pub commits : a.commits.items ≡ map (λ m. places_of (circuit_of a.net.now) m.name) a.net.now.mems
  pub room : length (held_lists a.held).values ≡ first_place (circuit_of a.net.now) + length order
  pub constants : HasConstants (circuit_of a.net.now) places (length (held_lists a.held).values) (held_lists a.held).values
  pub holds : Holds (circuit_of a.net.now) (held_lists a.held).next (held_lists a.held).arrays
  pub within : AreWithin (bits_of a.held) (circuit_of a.net.now)
  pub addresses : AddressesFit (circuit_of a.net.now)
  pub seen : AddressesSeen (circuit_of a.net.now) (run_of a).last.ports
