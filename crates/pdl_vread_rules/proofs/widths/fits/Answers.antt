use Rattle.std.proofs.Common.{◌∙◌, sym}
use Rattle.pdl_vread_rules.proofs.ConstantWidths.{fits_word}
use Rattle.pdl_vread_rules.proofs.widths.fits.Goals as goal

pub returns-then-is_width : goal.returns-then-is_width
returns-then-is_width c = fits_word c.args.value c.args.width c.mask.result c.mask.ensures (sym c.is_width.ensures ∙ c.if-is_width.true)
