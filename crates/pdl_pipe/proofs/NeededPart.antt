-- The needed part of a netlist follows the pipe that the netlist follows.
use Rattle.std.proofs.Common.{◌≡◌, ℕ, List, map}
use Rattle.pdl_semantics.specs.Tree as tree
use Rattle.pdl_net.specs.declared.Netlist.{Netlist}
use Rattle.pdl_net.specs.Circuit.{shape_of, shapes_of}
use Rattle.pdl_net.specs.Pipe.{IsWellFormed}
use Rattle.pdl_net.specs.Run.{nports}
use Rattle.pdl_net_needed.specs.Pruned.{HasSameFrame}
use Rattle.pdl_law_follows.specs.Follows.{Follows}
use Rattle.pdl_law_follows.proofs.FollowsLike.{follows_like}

arrays_same : (n q : Netlist) → HasSameFrame n q → map shape_of q.arrays ≡ map shape_of n.arrays
unfolding shapes_of
arrays_same n q f = f.arrays

-- one netlist shows in each cycle what the other shows
abbrev pub ShowsSame : Netlist → Netlist → Type 0
ShowsSame n q = (image : List (List ℕ)) (schedule : List ℕ) → nports q image schedule ≡ nports n image schedule

-- the needed part of a netlist follows the pipe
pub needed_follows : (p : tree.Pipe) (n q : Netlist) → Follows p n → IsWellFormed q → ShowsSame n q → HasSameFrame n q → Follows p q
needed_follows p n q h well shows frame = follows_like p n q well frame.name frame.ports frame.mems (arrays_same n q frame) shows h
