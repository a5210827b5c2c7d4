use Rattle.pdl_pipe.specs.NamedNets.{AddsNames}
use Rattle.pdl_pipe.proofs.beside_names.name_orders.Given as goal

-- names are added
abbrev pub invariant-loop-stage : goal.invariant-loop-stage
invariant-loop-stage l = AddsNames l.b l.line l.fn.names.items l.names.items
