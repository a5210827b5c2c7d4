-- A netlist that follows a pipe, and what a compiler establishes for that.
use Rattle.std.specs.Prelude.{◌≡◌, ℕ, ◌<◌, true, false, map, length}
use Rattle.pdl_semantics.specs.Tree as tree
use Rattle.pdl_semantics.specs.Flat.{is_delayed}
use Rattle.pdl_semantics.specs.Flatten.{flat}
use Rattle.pdl_semantics.specs.Stages.{mem_at}
use Rattle.pdl_semantics.specs.SecondWrites.{reserves_twice}
use Rattle.pdl_net.specs.declared.Netlist.{Netlist}
use Rattle.pdl_net.specs.Circuit.{circuit_of, shape_of}
use Rattle.pdl_net.specs.Signal.{Signal}
use Rattle.pdl_net.specs.Well.{IsWell}
use Rattle.pdl_net.specs.Pipe.{head_of, pipe_ports, IsWellFormed}
use Rattle.pdl_law_parts.specs.Walk.{Locks}
use Rattle.pdl_law_parts.specs.Views.{View, Gates}
use Rattle.pdl_law_parts.specs.Places.{comb_place}
use Rattle.pdl_law_parts.specs.DeclaredMems.{locked_of, port_mem, mem_names, shape_of_mem, AreBitsWide, CommitsFit}
use Rattle.pdl_law_sides.specs.Sides.{Sides}
use Rattle.pdl_law_sides.specs.WholeNetlist.{IsWhole, ShowsWhole}
use Rattle.pdl_law_follows.specs.Memories.{delayed_of, comb_of, net_infos}

-- a netlist that follows a pipe: it is well formed, has the pipe's name, ports and memories, and shows what the machine shows
pub record Follows (p : tree.Pipe) (n : Netlist) : Type 0 where
  pub name : n.name ≡ p.name.name
  -- it breaks none of the rules of netlists
  pub well_formed : IsWellFormed n
  -- its ports by name, width and direction: replies of each delayed memory, each stage, commits of each memory with a lock, requests of each delayed memory, and two more
  pub ports : map head_of n.ports
      ≡ pipe_ports (length (flat p).stages) (map (port_mem false) (delayed_of p.mems)) (locked_of (λ m. reserves_twice m (flat p).stmts) 0 p.mems)
  -- its memories with widths and depths, the delayed ones first, and of each other one the array, with as many words as its lock keeps
  pub mems : n.mems ≡ net_infos p.mems
  pub arrays : map shape_of n.arrays ≡ map shape_of_mem (comb_of p.mems)
  -- for each image and each schedule of replies each port of each cycle is the machine's, and the same cycles are waits
  pub shows : ShowsWhole (flat p) n

-- a netlist that is made of a pipe in signals
pub record IsMade (p : tree.Pipe) (ls : Locks) (vs : ℕ → View) (gates : Gates) (moves : ℕ → Signal) (sides : Sides) (n : Netlist) : Type 1 where
  pub name : n.name ≡ p.name.name
  pub compiled : IsWhole (flat p) (mem_names p.mems) ls vs gates moves sides (circuit_of n)
  -- each cell, register, array and output is driven by nets that are there, with the right widths
  pub well : IsWell (circuit_of n)
  pub wide : AreBitsWide vs gates moves (length (flat p).stages)
  pub commits : CommitsFit compiled.laid.commits 0 p.mems
  pub requests : (m : ℕ) → m < length (flat p).mems → is_delayed (mem_at (flat p) m).kind ≡ true → (compiled.asks m).enable.width ≡ 1
  -- a memory that answers at once has the array of its place among these
  pub in_order : (m : ℕ) → m < length (flat p).mems → is_delayed (mem_at (flat p) m).kind ≡ false → ls.array m ≡ comb_place (flat p) m
  pub mems : n.mems ≡ net_infos p.mems
  pub arrays : map shape_of n.arrays ≡ map shape_of_mem (comb_of p.mems)
