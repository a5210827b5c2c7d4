use Rattle.std.proofs.Common.{◌≡◌, ap, ◌∙◌, subst}
use Rattle.std.proofs.lemmas.Option.{get_or_from_slice_get}
use Rattle.pdl_net.specs.Circuit.{Circuit}
use Rattle.pdl_net.specs.declared.Cell.TheVariants.{Const}
use Rattle.pdl_net.specs.Meaning.{cell_signal, signal}
use Rattle.pdl_net.specs.Well.{Fits}
use Rattle.pdl_build.specs.FoldedCells.{is_const, is_constant}
use Rattle.pdl_build.specs.Parts.{circuit_of_parts}
use Rattle.pdl_build.proofs.Equal.{means_equal}
use Rattle.pdl_build.proofs.NetCells.{cell_there, known_fits}
use Rattle.pdl_build.proofs.Builder.cell_of.Goals as goal

pub at-requires : goal.at-requires
at-requires c = cell_there (circuit_of_parts c.self.inside) c.args.self.now c.args.net c.in-Cell.k c.self.view_is c.in-Cell.is c.requires

pub returns-in-Cell-clause-fits : goal.returns-in-Cell-clause-fits
returns-in-Cell-clause-fits c =
    let k = circuit_of_parts c.self.inside in
    let low = cell_there k c.args.self.now c.args.net c.in-Cell.k c.self.view_is c.in-Cell.is c.requires in
    let P : Circuit → Type 0 = λ v. Fits v c.at.result in
    subst P c.self.view_is
    (known_fits k c.in-Cell.k c.at.result c.self.invariant.well low (get_or_from_slice_get k.cells c.in-Cell.k c.at.result (Const 0 0) c.at.ensures))

pub returns-in-Cell-clause-same : goal.returns-in-Cell-clause-same
returns-in-Cell-clause-same c =
    let k = circuit_of_parts c.self.inside in
    let low = cell_there k c.args.self.now c.args.net c.in-Cell.k c.self.view_is c.in-Cell.is c.requires in
    let m =
    means_equal k c.in-Cell.k c.at.result (Const 0 0) c.self.invariant.well low
    (get_or_from_slice_get k.cells c.in-Cell.k c.at.result (Const 0 0) c.at.ensures) in
    let P : Circuit → Type 0 = λ v. signal v c.args.net ≡ cell_signal v (signal v) c.at.result in
    subst P c.self.view_is (ap (signal k) c.in-Cell.is ∙ m.same)

pub returns-in-Cell-clause-constant : goal.returns-in-Cell-clause-constant
returns-in-Cell-clause-constant c =
    let k = circuit_of_parts c.self.inside in
    let P : Circuit → Type 0 = λ v. is_constant v.cells c.args.net ≡ is_const c.at.result in
    subst P c.self.view_is
    (ap (is_constant k.cells) c.in-Cell.is ∙ ap is_const (get_or_from_slice_get k.cells c.in-Cell.k c.at.result (Const 0 0) c.at.ensures))
