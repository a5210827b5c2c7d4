use Rattle.pdl_pipe.specs.NamedNets.{AddsNames}
use Rattle.pdl_pipe.proofs.beside_names.name_ports.Given as goal

-- names are added
abbrev pub invariant-loop-mem : goal.invariant-loop-mem
invariant-loop-mem l = AddsNames l.b l.line l.fn.names.items l.names.items
