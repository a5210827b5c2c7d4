use Rattle.std.proofs.Common.{sym, subst, ap, ◌∙◌}
use Rattle.pdl_net.specs.Circuit.{Circuit, HasReg, reg_width}
use Rattle.pdl_net.specs.HasWidth.{HasWidth}
use Rattle.pdl_net.specs.Meaning.{IsThere, signal, next_signal}
use Rattle.pdl_net.specs.Well.{IsWell}
use Rattle.pdl_net.specs.Growth.{ExtendsBut}
use Rattle.pdl_build.specs.Change.{one_reg}
use Rattle.pdl_build.specs.Parts.{circuit_of_parts, HaveExtents}
use Rattle.pdl_build.proofs.RegisterGrowth.{well_next, extents_next, next_set, extends_next, next_same, has_reg_below}
use Rattle.pdl_build.proofs.Builder.next.Goals as goal

pub index_mut-requires : goal.index_mut-requires
index_mut-requires c =
    let P : Circuit → Type 0 = λ v. HasReg v c.args.reg in
    rw c.self.inside.regs.ok.0 (has_reg_below (circuit_of_parts c.self.inside) c.args.reg (subst P (sym c.self.view_is) c.requires.has))

pub invariant_of-self : goal.invariant_of-self
invariant_of-self c =
    let b = c.self.inside in
    let k = circuit_of_parts b in
    let w = c.self.invariant.well in
    let e = sym c.self.view_is in
    let H : Circuit → Type 0 = λ v. HasReg v c.args.reg in
    let W : Circuit → Type 0 = λ v. HasWidth v c.args.net (reg_width v c.args.reg) in
    let D : Circuit → Type 0 = λ v. HaveExtents v b.input_widths.items b.extents.items in
    let h = subst H e c.requires.has in
    let same = sym (next_same k c.args.reg c.args.net c.index_mut.result.now h c.index_mut.ensures.value) in
    record {
      well = subst IsWell same (well_next k c.args.reg c.args.net h (subst W e c.requires.net) w);
      extents = subst D same (extents_next k c.args.reg c.args.net b.input_widths.items b.extents.items h w c.self.invariant.extents);
      folded = c.self.invariant.folded;
    }

pub returns-clause-set : goal.returns-clause-set
returns-clause-set c =
    let k = circuit_of_parts c.self.inside in
    let H : Circuit → Type 0 = λ v. HasReg v c.args.reg in
    let T : Circuit → Type 0 = λ v. IsThere v c.args.net in
    let e = sym c.self.view_is in
    let h = subst H e c.requires.has in
    ap (λ v. next_signal v c.args.reg) (next_same k c.args.reg c.args.net c.index_mut.result.now h c.index_mut.ensures.value)
    ∙ next_set k c.args.reg c.args.net h (subst T e c.requires.net.there) c.self.invariant.well
    ∙ ap (λ v. signal v c.args.net) c.self.view_is

pub returns-clause-extends : goal.returns-clause-extends
returns-clause-extends c =
    let k = circuit_of_parts c.self.inside in
    let H : Circuit → Type 0 = λ v. HasReg v c.args.reg in
    let h = subst H (sym c.self.view_is) c.requires.has in
    let Q : Circuit → Type 0 = λ v. ExtendsBut (one_reg c.args.reg) k v in
    rw (← c.self.view_is)
    (subst Q (sym (next_same k c.args.reg c.args.net c.index_mut.result.now h c.index_mut.ensures.value))
    (extends_next k c.args.reg c.args.net h c.self.invariant.well))
