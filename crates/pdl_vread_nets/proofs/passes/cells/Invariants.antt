use Rattle.std.proofs.Common.{◌≡◌, drop}
use Rattle.pdl_vread_nets.specs.Scopes.{IsScope}
use Rattle.pdl_vread_nets.specs.Wired as spec
use Rattle.pdl_vread_nets.proofs.passes.cells.Given as goal

abbrev pub invariant-loop-decl : goal.invariant-loop-decl
invariant-loop-decl l = record {
  done : spec.after l.cells (spec.cells_from l.fn.scope.file.now l.decl-index (drop l.decl-index l.decls)) ≡ spec.cells_from l.fn.scope.file.now 0 l.decls;
  scope : IsScope l.scope;
  file : l.scope.file.now ≡ l.fn.scope.file.now;
  count : l.scope.cells.count ≡ l.decl-index;
}
