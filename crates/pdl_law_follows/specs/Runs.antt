-- A netlist whose runs have the commits and the lines of the machine of a pipe.
use Rattle.std.specs.Prelude.{◌≡◌, ℕ, List, map}
use Rattle.pdl_semantics.specs.Tree as tree
use Rattle.pdl_semantics.specs.Flat.{arrays_of}
use Rattle.pdl_semantics.specs.Flatten.{flat}
use Rattle.pdl_semantics.specs.Cycle.{turns}
use Rattle.pdl_semantics.specs.Lines.{turn_cycles, run_lines}
use Rattle.pdl_rules.specs.Memories.{infos_of}
use Rattle.pdl_net.specs.declared.Netlist.{Netlist}
use Rattle.pdl_net.specs.Run.{nports}
use Rattle.pdl_image.specs.Images.{IsImage}
use Rattle.pdl_law_parts.specs.Runs.{cycle_by, shown_lines}
use Rattle.pdl_law_sides.specs.WholeNetlist.{in_order}
use Rattle.pdl_law_follows.specs.Memories.{replies_in}

-- from each image of its memories and with each schedule of replies, in each cycle each memory of the pipe, in declared order, commits what the machine's does, and the lines are the machine's
pub record ShowsTurns (p : tree.Pipe) (n : Netlist) : Type 0 where
  pub cycles : (image : List (List ℕ)) (schedule : List ℕ)
      → IsImage n.mems image
      → map (cycle_by n (infos_of p.mems)) (nports n image schedule)
      ≡ turn_cycles (turns (flat p) (arrays_of (in_order (flat p) image)) (replies_in (flat p) schedule))
  pub lines : (image : List (List ℕ)) (schedule : List ℕ)
      → IsImage n.mems image
      → shown_lines n image schedule ≡ run_lines p (in_order (flat p) image) (replies_in (flat p) schedule)
