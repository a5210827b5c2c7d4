use Rattle.pdl_pipe.specs.NamedNets.{AddsNames}
use Rattle.pdl_pipe.proofs.stage_names.name_items.Given as goal

-- names are added
abbrev pub invariant-loop-item : goal.invariant-loop-item
invariant-loop-item l = AddsNames l.b l.line l.fn.names.items l.names.items
