use Rattle.std.proofs.Common.{subst}
use Rattle.std.proofs.lemmas.Option.{slice_get_within, get_or_from_slice_get}
use Rattle.pdl_net.specs.Circuit.{Circuit}
use Rattle.pdl_net.specs.declared.Net.TheVariants.{Cell as CellNet}
use Rattle.pdl_net.specs.Meaning.{Means, cell_signal, signal}
use Rattle.pdl_build.specs.Parts.{circuit_of_parts}
use Rattle.pdl_build.proofs.Equal.{means_equal}
use Rattle.pdl_build.proofs.Builder.place.Goals as goal

pub returns-in-Some-clause-means : goal.returns-in-Some-clause-means
returns-in-Some-clause-means c =
    let k = circuit_of_parts c.self.inside in
    let at = c.in-Some.at in
    let P : Circuit → Type 0 = λ v. Means v (CellNet at) (cell_signal v (signal v) c.args.cell) in
    subst P c.self.view_is
    (means_equal k at c.args.cell c.args.cell c.self.invariant.well (slice_get_within k.cells at c.args.cell c.in-Some.ensures.found)
    (get_or_from_slice_get k.cells at c.args.cell c.args.cell c.in-Some.ensures.found))
