use Rattle.std.proofs.Common.{◌∙◌}
use Rattle.std.proofs.lemmas.Bool.{le-ltb}
use Rattle.pdl_vread_rules.proofs.Reach.{beyond}
use Rattle.pdl_vread_rules.proofs.widths.reaches.Goals as goal

pub returns-else-width-lt64 : goal.returns-else-width-lt64
returns-else-width-lt64 c = le-ltb c.args.width 64 c.if-width-lt64.false ∙ beyond c.args.width c.args.depth c.if-width-lt64.false c.ranges.depth.fits
