-- A netlist that is made of a source of the whole language.
use Rattle.std.specs.Prelude.{ℕ}
use Rattle.pdl_semantics.specs.Tree as tree
use Rattle.pdl_semantics.specs.Flatten.{flat}
use Rattle.pdl_net.specs.declared.Netlist.{Netlist}
use Rattle.pdl_net.specs.Circuit.{circuit_of}
use Rattle.pdl_net.specs.Signal.{Signal}
use Rattle.pdl_net.specs.Pipe.{IsWellFormed}
use Rattle.pdl_law_parts.specs.Walk.{Locks}
use Rattle.pdl_law_parts.specs.Views.{View, Gates}
use Rattle.pdl_law_parts.specs.DeclaredMems.{mem_names}
use Rattle.pdl_law_sides.specs.Sides.{Sides}
use Rattle.pdl_law_sides.specs.WholeNetlist.{IsWhole, HasWholeMems}

-- a netlist of a source of the whole language: it has the parts that the law asks for, is well formed, and has the pipe's memories
pub record IsMadeWhole (p : tree.Pipe) (ls : Locks) (vs : ℕ → View) (gates : Gates) (moves : ℕ → Signal) (sides : Sides) (n : Netlist) : Type 1 where
  -- its stages, its locks, what stands beside them, and its ports, by their laws
  pub compiled : IsWhole (flat p) (mem_names p.mems) ls vs gates moves sides (circuit_of n)
  -- it breaks none of the rules of netlists
  pub formed : IsWellFormed n
  pub mems : HasWholeMems (flat p) (mem_names p.mems) ls n
