-- The memories of a pipe as its netlist has them: the delayed ones first, then those that answer at once, each in declared order.
use Rattle.std.specs.Prelude.{ℕ, Bool, List, ◌++◌, map, filter, Result, Ok, Err}
use Rattle.pdl_kit.specs.declared.mem_info.MemInfo.{MemInfo}
use Rattle.pdl_semantics.specs.Tree.{Mem}
use Rattle.pdl_semantics.specs.Flat.{Pipe, is_delayed}
use Rattle.pdl_rules.specs.Refusal.{answers_at_once}
use Rattle.pdl_rules.specs.Memories.{info_of}
use Rattle.pdl_law_parts.specs.Places.{delayed_count}
use Rattle.pdl_law_sides.specs.WholeNetlist.{in_order, replies_of}

-- a memory is delayed
abbrev pub answers_late : Mem → Bool
answers_late m = is_delayed m.kind

-- the delayed memories, which stand in the environment
abbrev pub delayed_of : List Mem → List Mem
delayed_of ms = filter answers_late ms

-- the memories that answer at once, each of which has an array
abbrev pub comb_of : List Mem → List Mem
comb_of ms = filter answers_at_once ms

-- the memories of a netlist
abbrev pub net_infos : List Mem → List MemInfo
net_infos ms = map info_of (delayed_of ms) ++ map info_of (comb_of ms)

-- a schedule as the machine of a pipe takes it: in each cycle a bit for each delayed memory, in declared order
abbrev pub replies_in : Pipe → List ℕ → List (List Bool)
replies_in p schedule = map (replies_of (delayed_count p)) schedule

-- an image of a netlist's memories, where there is one, in the pipe's order
abbrev pub taken_in_order : {E : Type 0} → Pipe → Result (List (List ℕ)) E → Result (List (List ℕ)) E
taken_in_order p (Ok image) = Ok (in_order p image)
taken_in_order p (Err e) = Err e
