-- Where a memory of a pipe stands in its netlist: the delayed memories stand first, and each that answers at once has an array.
use Rattle.std.specs.Prelude.{ℕ, ◌+◌, true, false, if◌then◌else◌, count_by, take}
use Rattle.pdl_semantics.specs.Flat.{Mem, Pipe, is_delayed}
use Rattle.pdl_semantics.specs.Stages.{mem_at, reply_place}
pub use Rattle.pdl_machine_facts.specs.Ports.{delayed_count}

-- the place of one that isn't delayed among those that aren't: the number of its array
abbrev pub comb_place : Pipe → ℕ → ℕ
comb_place p m = count_by (λ (x : Mem). if is_delayed x.kind then false else true) (take m p.mems)

-- the place of a memory in a netlist, whose delayed memories stand first
abbrev pub net_place : Pipe → ℕ → ℕ
net_place p m = if is_delayed (mem_at p m).kind then reply_place p m else delayed_count p + comb_place p m
