use Rattle.std.proofs.Common.{sym, subst}
use Rattle.pdl_vlog.specs.Layout as spec
use Rattle.pdl_vlog.proofs.Steps.{array_widths}
use Rattle.pdl_vlog.proofs.write.declared.Goals as goal

pub arrays-requires : goal.arrays-requires
arrays-requires c = subst spec.HaveArrayWidths (sym c.as_slice-3.ensures) (array_widths c.args.n.now c.requires.well)
