-- All that is promised of a run.
use Rattle.std.specs.Prelude.{◌≡◌, ℕ, ◌<◌, Bool, List, length, take, slice_index}
use Rattle.pdl_semantics.specs.Tree as tree
use Rattle.pdl_semantics.specs.Flat.{Arrays, arrays_of}
use Rattle.pdl_semantics.specs.Flatten.{flat}
use Rattle.pdl_semantics.specs.Lines.{run_lines}
use Rattle.pdl_semantics.specs.Promises.{Refines, Advances, KeepsPace, DifferInAdvice, AdviceIsIdle}
use Rattle.pdl_semantics.specs.UpdateFree.{UpdatesAreIdle}
use Rattle.pdl_net.specs.declared.Netlist.{Netlist}
use Rattle.pdl_law_parts.specs.Places.{delayed_count}
use Rattle.pdl_law_parts.specs.Runs.{shown_lines}
use Rattle.pdl_law_sides.specs.WholeNetlist.{in_order, replies_of}
use Rattle.pdl_law_follows.specs.Memories.{replies_in}

-- a run of a netlist, from an image of its memories with a schedule of replies, and of the machine of a pipe
pub record IsRunOf (p : tree.Pipe) (n : Netlist) (image : List (List ℕ)) (schedule : List ℕ) : Type 0 where
  -- what is printed of the netlist are the machine's lines
  pub lines : shown_lines n image schedule ≡ run_lines p (in_order (flat p) image) (replies_in (flat p) schedule)
  -- each memory's commits have the sequential writes of the threads that ended, and are a prefix of the sequential writes
  pub refines : Refines (flat p) (arrays_of (in_order (flat p) image)) (replies_in (flat p) schedule)
  -- in each cycle that is no wait the oldest thread moves
  pub moves : (k : ℕ) → k < length schedule
      → Advances (flat p) (arrays_of (in_order (flat p) image)) (replies_in (flat p) (take k schedule))
      (replies_of (delayed_count (flat p)) (slice_index schedule k))
  -- and so enough threads end
  pub pace : KeepsPace (flat p) (arrays_of (in_order (flat p) image)) (replies_in (flat p) schedule)
  -- without its updates the source writes the same, and what both commit, each with any replies, begins one list
  pub updates : (replies : List (List Bool)) → UpdatesAreIdle p (arrays_of (in_order (flat p) image)) (replies_in (flat p) schedule) replies
  -- from another image, which differs in advisory memories alone, the threads write the same, and of what both runs commit, each with any replies, one begins with the other
  pub advice : (other : Arrays) (replies : List (List Bool))
      → DifferInAdvice (flat p) (arrays_of (in_order (flat p) image)) other
      → AdviceIsIdle (flat p) (arrays_of (in_order (flat p) image)) other (replies_in (flat p) schedule) replies
