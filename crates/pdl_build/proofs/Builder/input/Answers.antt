use Rattle.pdl_build.specs.Change.{input_port}
use Rattle.pdl_build.specs.Parts.{circuit_of_parts}
use Rattle.pdl_build.proofs.CellGrowth.{well_input, extents_input, means_input, extends_port}
use Rattle.pdl_build.proofs.Builder.input.Goals as goal

pub invariant_of-self-in-Ok : goal.invariant_of-self-in-Ok
invariant_of-self-in-Ok c =
    let b = c.self.inside in
    let k = circuit_of_parts b in
    record {
      well = rw c.in-Ok.ensures.ok (well_input k c.args.name.now c.args.width c.self.invariant.well c.requires.low c.requires.high);
      extents =
          rw (c.in-Ok.ensures.ok, c.in_ok-push.ensures.items)
          (extents_input k c.args.name.now c.args.width b.input_widths.items b.extents.items c.self.invariant.well c.self.invariant.extents);
      folded = c.self.invariant.folded;
    }

pub returns-in-Ok-clause-means : goal.returns-in-Ok-clause-means
returns-in-Ok-clause-means c =
    rw (c.in-Ok.ensures.ok, ← c.self.view_is, c.len-at.ensures, c.self.inside.input_widths.ok.0, c.self.invariant.extents.inputs)
    (means_input (circuit_of_parts c.self.inside) c.args.name.now c.args.width)

pub returns-in-Ok-clause-extends : goal.returns-in-Ok-clause-extends
returns-in-Ok-clause-extends c =
    let k = circuit_of_parts c.self.inside in
    rw (c.in-Ok.ensures.ok, ← c.self.view_is) (extends_port k (input_port c.args.name.now c.args.width) c.self.invariant.well)
