use Rattle.std.proofs.Common.{◌≡◌, drop}
use Rattle.pdl_vread_nets.specs.Wired as spec
use Rattle.pdl_vread_nets.proofs.passes.reg_blocks.Given as goal

-- what is done and what is to come are the whole
abbrev pub invariant-loop-block : goal.invariant-loop-block
invariant-loop-block l =
    spec.after l.drives (spec.all_regs l.scope.file.now l.scope.cells.count (drop l.block-index l.blocks))
    ≡ spec.all_regs l.scope.file.now l.scope.cells.count l.blocks
