use Rattle.std.proofs.Common.{◌∙◌, refl, sym}
use Rattle.pdl_vread.proofs.read.add_mems.Goals as goal

pub returns-in-None : goal.returns-in-None
returns-in-None c = (refl, refl, λ ms p. let k = sym c.in-None.is ∙ c.in_ok-mems.ensures.only ms p in cc)
