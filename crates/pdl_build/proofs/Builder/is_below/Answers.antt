use Rattle.std.proofs.Common.{◌∙◌, ap, sym}
use Rattle.std.proofs.lemmas.List.{get_or_default}
use Rattle.pdl_build.specs.declared.Extent.{Extent}
use Rattle.pdl_build.specs.Parts.{circuit_of_parts, no_cell}
use Rattle.pdl_build.proofs.Widths.{cell_in, cell_below}
use Rattle.pdl_build.proofs.Builder.is_below.Goals as goal

pub index-requires : goal.index-requires
index-requires c =
    let b = c.self.inside in
    rw b.extents.ok.0
    (cell_in
    (circuit_of_parts b) c.args.self.now b.input_widths.items b.extents.items c.args.net c.in-Cell.k c.self.invariant.extents c.self.view_is c.in-Cell.is c.requires)

pub returns-in-Cell : goal.returns-in-Cell
returns-in-Cell c = λ e.
    let b = c.self.inside in
    let k = c.in-Cell.k in
    let h = c.self.invariant.extents in
    let lt = cell_in (circuit_of_parts b) c.args.self.now b.input_widths.items b.extents.items c.args.net k h c.self.view_is c.in-Cell.is c.requires in
    let i = c.index.ensures ∙ get_or_default b.extents.items k c.index.result.now no_cell lt in
    cell_below
    (circuit_of_parts b) c.args.self.now b.input_widths.items b.extents.items c.args.net k h c.self.view_is c.in-Cell.is c.requires
    (sym (ap (λ (n : Extent). n.is_below) i) ∙ e)
