use Rattle.pdl_build.specs.Parts.{circuit_of_parts}
use Rattle.pdl_build.proofs.RegisterGrowth.{well_reg, extents_reg, is_new_reg, extends_reg}
use Rattle.pdl_build.proofs.Builder.reg.Goals as goal

pub invariant_of-self-2 : goal.invariant_of-self-2
invariant_of-self-2 c =
    let b = c.self.inside in
    let k = circuit_of_parts b in
    record {
      well =
          rw (c.in_ok-push.ensures.items, c.len-at.ensures, b.regs.ok.0)
          (well_reg k c.args.width c.args.reset c.self.invariant.well c.requires.low c.requires.high c.requires.fits);
      extents =
          rw (c.in_ok-push.ensures.items, c.len-at.ensures, b.regs.ok.0)
          (extents_reg k c.args.width c.args.reset b.input_widths.items b.extents.items c.self.invariant.well c.self.invariant.extents);
      folded = c.self.invariant.folded;
    }

pub returns-clause-has : goal.returns-clause-has
returns-clause-has c =
    rw (c.in_ok-push.ensures.items, c.len-at.ensures, c.self.inside.regs.ok.0) (is_new_reg (circuit_of_parts c.self.inside) c.args.width c.args.reset)

pub returns-clause-extends : goal.returns-clause-extends
returns-clause-extends c =
    rw (c.in_ok-push.ensures.items, ← c.self.view_is, c.len-at.ensures, c.self.inside.regs.ok.0)
    (extends_reg (circuit_of_parts c.self.inside) c.args.width c.args.reset c.self.invariant.well)
