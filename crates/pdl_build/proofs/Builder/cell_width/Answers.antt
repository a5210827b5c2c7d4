use Rattle.std.proofs.Common.{arith}
use Rattle.pdl_build.specs.Parts.{circuit_of_parts}
use Rattle.pdl_build.proofs.Widths.{slice_fits}
use Rattle.pdl_build.proofs.Builder.cell_width.Goals as goal

pub overflow_add-result : goal.overflow_add-result
overflow_add-result c =
    let h =
    slice_fits
    (circuit_of_parts c.self.inside) c.args.self.now c.args.cell c.in-Slice.a c.in-Slice.high c.in-Slice.low c.self.invariant.well c.self.view_is c.in-Slice.is c.requires in
    omega (arith, h)
