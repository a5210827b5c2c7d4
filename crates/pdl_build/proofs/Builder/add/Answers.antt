use Rattle.std.proofs.Common.{◌≡◌, false, IsTrue, sym, subst, ap, ◌∙◌}
use Rattle.pdl_net.specs.Circuit.{Circuit}
use Rattle.pdl_net.specs.Meaning.{cell_signal, signal}
use Rattle.pdl_net.specs.Well.{Fits}
use Rattle.pdl_build.specs.FoldedCells.{is_foldable}
use Rattle.pdl_build.specs.Rules.{IsBelow}
use Rattle.pdl_build.proofs.Folds.{folded_pushed}
use Rattle.pdl_build.specs.Parts.{circuit_of_parts}
use Rattle.pdl_build.proofs.CellGrowth.{well_cell, extents_cell, means_cell, extends_cell}
use Rattle.pdl_build.proofs.Builder.add.Goals as goal

pub invariant_of-self-in-Ok : goal.invariant_of-self-in-Ok
invariant_of-self-in-Ok c =
    let b = c.self.inside in
    let k = circuit_of_parts b in
    let g = c.args.cell in
    let F : Circuit → Type 0 = λ v. Fits v g in
    let H : Circuit → Type 0 = λ v. is_foldable v.cells g ≡ false in
    let f = subst F (sym c.self.view_is) c.requires.fits in
    let e = c.cell_width-width.ensures ∙ ap (λ (v : Circuit). (cell_signal v (signal v) g).width) (sym c.self.view_is) in
    let P : Circuit → Type 0 = λ v. IsTrue c.cell_below-is_below.result → IsBelow (cell_signal v (signal v) g) in
    let low = subst P (sym c.self.view_is) c.cell_below-is_below.ensures in
    record {
      well = rw c.in-Ok.ensures.ok (well_cell k g c.self.invariant.well f);
      folded = rw c.in-Ok.ensures.ok (folded_pushed b.cells g c.self.invariant.folded (subst H (sym c.self.view_is) c.requires.folded));
      extents =
          rw (c.in-Ok.ensures.ok, c.in_ok-push.ensures.items)
          (extents_cell k g b.input_widths.items b.extents.items
          (record { width = c.cell_width-width.result; is_below = c.cell_below-is_below.result }) c.self.invariant.well f c.self.invariant.extents
          (record { width = e; below = low }));
    }

pub returns-in-Ok-clause-means : goal.returns-in-Ok-clause-means
returns-in-Ok-clause-means c =
    let P : Circuit → Type 0 = λ v. Fits v c.args.cell in
    rw (c.in-Ok.ensures.ok, ← c.self.view_is, c.len-at.ensures)
    (means_cell (circuit_of_parts c.self.inside) c.args.cell c.self.invariant.well (subst P (sym c.self.view_is) c.requires.fits))

pub returns-in-Ok-clause-extends : goal.returns-in-Ok-clause-extends
returns-in-Ok-clause-extends c =
    rw (c.in-Ok.ensures.ok, ← c.self.view_is) (extends_cell (circuit_of_parts c.self.inside) c.args.cell c.self.invariant.well)
