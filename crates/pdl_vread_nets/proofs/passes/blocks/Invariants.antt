use Rattle.std.proofs.Common.{◌≡◌, drop}
use Rattle.pdl_vread_nets.specs.Wired as spec
use Rattle.pdl_vread_nets.proofs.passes.blocks.Given as goal

-- what is done and what is to come are the whole
abbrev pub invariant-loop-decl : goal.invariant-loop-decl
invariant-loop-decl l =
    spec.after l.blocks (spec.blocks_of l.scope.file.now l.scope.cells.count (drop l.decl-index l.decls))
    ≡ spec.blocks_of l.scope.file.now l.scope.cells.count l.decls
