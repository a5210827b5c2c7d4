use Rattle.std.proofs.Common.{◌∙◌, ap, sym}
use Rattle.std.specs.Prelude.{slice_get}
use Rattle.std.specs.Option.{option_copied}
use Rattle.pdl_build.proofs.distinct.DistinctCells.place.Goals as goal

pub returns-in-Some-clause-found : goal.returns-in-Some-clause-found
returns-in-Some-clause-found c =
    ap (λ v. slice_get v c.in-Some.place.now) (sym c.self.view_is)
    ∙ c.self.invariant.only c.in-Some.place.now c.args.cell (sym c.get.ensures.value ∙ ap option_copied c.in-Some.is)
