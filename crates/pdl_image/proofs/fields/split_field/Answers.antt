use Rattle.std.proofs.Common.{sym}
use Rattle.pdl_image.proofs.Parts.{fields_whole}
use Rattle.pdl_image.proofs.fields.split_field.Goals as goal

pub returns-in-None : goal.returns-in-None
returns-in-None c = fields_whole _ (sym c.in-None.ensures.value)
