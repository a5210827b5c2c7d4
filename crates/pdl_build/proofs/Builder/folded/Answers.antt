use Rattle.std.proofs.Common.{subst}
use Rattle.pdl_net.specs.Well.{IsWell}
use Rattle.pdl_build.proofs.Folds.{constant_fits}
use Rattle.pdl_build.proofs.Builder.folded.Goals as goal

pub returns-in-Some-clause-fits : goal.returns-in-Some-clause-fits
returns-in-Some-clause-fits c =
    constant_fits c.args.self.now c.args.cell c.cell_width.result c.in-Some.value
    (subst IsWell c.self.view_is c.self.invariant.well) c.requires c.cell_width.ensures c.in-Some.ensures
