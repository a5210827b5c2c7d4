use Rattle.std.proofs.Common.{◌≡◌, drop}
use Rattle.pdl_vread.specs.Built as spec
use Rattle.pdl_vread.proofs.build.writes_of.Given as goal

abbrev pub invariant-loop-block : goal.invariant-loop-block
invariant-loop-block l = spec.writes l.array (drop l.block-index l.blocks) ≡ spec.writes l.array l.blocks
