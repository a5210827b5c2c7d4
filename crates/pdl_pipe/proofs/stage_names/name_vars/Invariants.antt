use Rattle.std.proofs.Common.{ℕ, ◌<◌}
use Rattle.pdl_pipe_nexts.specs.Lines.{line_pipe}
use Rattle.pdl_pipe.specs.declared.names.Role.TheVariants.{Keeps}
use Rattle.pdl_pipe.specs.Names.{IsLive}
use Rattle.pdl_pipe.specs.NamedNets.{AddsNames, HasVarNames}
use Rattle.pdl_pipe.proofs.stage_names.name_vars.Given as goal

-- names are added, and the first variables have theirs
abbrev pub invariant-loop-var : goal.invariant-loop-var
invariant-loop-var l = record {
  adds : AddsNames l.b l.line l.fn.names.items l.names.items;
  has : (v : ℕ) → v < l.var → IsLive (line_pipe l.line) (Keeps l.stage v) → HasVarNames l.b l.line l.names.items l.stage v;
}
