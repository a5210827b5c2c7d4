use Rattle.pdl_pipe.specs.NamedNets.{AddsNames}
use Rattle.pdl_pipe.proofs.beside_names.name_order_regs.Given as goal

-- names are added
abbrev pub invariant-loop-place : goal.invariant-loop-place
invariant-loop-place l = AddsNames l.b l.line l.fn.names.items l.names.items
