use Rattle.std.proofs.Common.{◌∙◌}
use Rattle.std.proofs.lemmas.Bool.{le-ltb}
use Rattle.pdl_vread_pipe.proofs.Depths.{beyond}
use Rattle.pdl_vread_pipe.proofs.memories.reaches.Goals as goal

pub returns-else-bits-lt64 : goal.returns-else-bits-lt64
returns-else-bits-lt64 c = le-ltb c.args.bits 64 c.if-bits-lt64.false ∙ beyond c.args.bits c.args.depth c.if-bits-lt64.false c.ranges.depth.fits
