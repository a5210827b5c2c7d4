use Rattle.pdl_build.specs.Parts.{circuit_of_parts}
use Rattle.pdl_build.proofs.RegisterGrowth.{well_array, extents_array, is_new_array, extends_array}
use Rattle.pdl_build.proofs.Builder.array.Goals as goal

pub invariant_of-self-2 : goal.invariant_of-self-2
invariant_of-self-2 c =
    let b = c.self.inside in
    let k = circuit_of_parts b in
    record {
      well =
          rw (c.in_ok-push.ensures.items, c.in_ok-name.ensures.cases, c.new-writes.ensures)
          (well_array k c.args.name.now c.args.width c.args.depth c.self.invariant.well c.requires.low c.requires.high c.requires.depth);
      extents =
          rw (c.in_ok-push.ensures.items, c.in_ok-name.ensures.cases, c.new-writes.ensures)
          (extents_array k c.args.name.now c.args.width c.args.depth b.input_widths.items b.extents.items c.self.invariant.well c.self.invariant.extents);
      folded = c.self.invariant.folded;
    }

pub returns-clause-has : goal.returns-clause-has
returns-clause-has c =
    rw (c.in_ok-push.ensures.items, c.in_ok-name.ensures.cases, c.new-writes.ensures, c.len-at.ensures, c.self.inside.arrays.ok.0)
    (is_new_array (circuit_of_parts c.self.inside) c.args.name.now c.args.width c.args.depth)

pub returns-clause-extends : goal.returns-clause-extends
returns-clause-extends c =
    rw (c.in_ok-push.ensures.items, c.in_ok-name.ensures.cases, c.new-writes.ensures, ← c.self.view_is)
    (extends_array (circuit_of_parts c.self.inside) c.args.name.now c.args.width c.args.depth c.self.invariant.well)
