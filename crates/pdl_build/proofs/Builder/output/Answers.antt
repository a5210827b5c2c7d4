use Rattle.std.proofs.Common.{◌≡◌, length, sym, subst, ap, ◌∙◌, arith}
use Rattle.pdl_net.specs.Circuit.{Circuit, outputs_of}
use Rattle.pdl_net.specs.Meaning.{IsThere, signal}
use Rattle.pdl_build.specs.Parts.{circuit_of_parts}
use Rattle.pdl_build.proofs.CellGrowth.{well_output, extents_output, extends_port, count_ports}
use Rattle.pdl_build.proofs.Widths.{wide}
use Rattle.pdl_build.specs.Change.{output_port}
use Rattle.pdl_build.proofs.Builder.output.Goals as goal

pub overflow_sub-at : goal.overflow_sub-at
overflow_sub-at c =
    let b = c.self.inside in
    let n = count_ports b.ports.items in
    let i = ap length c.self.invariant.extents.inputs in
    omega (arith, n, i, c.len.ensures, c.len-2.ensures, b.ports.ok.0, b.input_widths.ok.0)

pub invariant_of-self-2 : goal.invariant_of-self-2
invariant_of-self-2 c =
    let b = c.self.inside in
    let k = circuit_of_parts b in
    let T : Circuit → Type 0 = λ v. IsThere v c.args.net in
    let t = subst T (sym c.self.view_is) c.requires in
    let z = wide k c.self.invariant.well c.args.net t in
    let e = c.width-width.ensures.value ∙ ap (λ (v : Circuit). (signal v c.args.net).width) (sym c.self.view_is) in
    record {
      well = rw (c.in_ok-push_port.ensures.ok, e) (well_output k c.args.name.now c.args.net c.self.invariant.well t z.low z.high);
      extents =
          rw (c.in_ok-push_port.ensures.ok, e)
          (extents_output k c.args.name.now c.args.net b.input_widths.items b.extents.items c.self.invariant.well c.self.invariant.extents);
      folded = c.self.invariant.folded;
    }

pub returns-clause-place : goal.returns-clause-place
returns-clause-place c =
    let b = c.self.inside in
    let n = count_ports b.ports.items in
    let i = ap length c.self.invariant.extents.inputs in
    let o : length (outputs_of c.args.self.now) ≡ length (outputs_of (circuit_of_parts b)) = ap (λ v. length (outputs_of v)) (sym c.self.view_is) in
    omega (arith, n, i, o, c.len.ensures, c.len-2.ensures, b.ports.ok.0, b.input_widths.ok.0)

pub returns-clause-extends : goal.returns-clause-extends
returns-clause-extends c =
    let k = circuit_of_parts c.self.inside in
    let e = c.width-width.ensures.value ∙ ap (λ (v : Circuit). (signal v c.args.net).width) (sym c.self.view_is) in
    rw (c.in_ok-push_port.ensures.ok, e, ← c.self.view_is) (extends_port k (output_port k c.args.name.now c.args.net) c.self.invariant.well)
