use Rattle.std.proofs.Common.{◌≡◌, ◌++◌, drop}
use Rattle.pdl_pipe.specs.Names.{names_kept}
use Rattle.pdl_pipe.proofs.netlist.kept_names.Given as goal

-- the names that are kept of the first ones are found
abbrev pub invariant-loop-x : goal.invariant-loop-x
invariant-loop-x l = l.found.items ++ names_kept l.kept (drop l.x-index l.names) ≡ names_kept l.kept l.names
