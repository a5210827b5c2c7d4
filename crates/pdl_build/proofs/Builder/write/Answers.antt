use Rattle.std.proofs.Common.{◌++◌, [], ◌∷◌, length, sym, subst, ap, ◌∙◌}
use Rattle.std.proofs.lemmas.List.{get_or_default}
use Rattle.pdl_net.specs.declared.Array.{Array}
use Rattle.pdl_net.specs.Circuit.{Circuit, array_at, no_array, HasArray}
use Rattle.pdl_net.specs.Meaning.{write_signal, write_signals}
use Rattle.pdl_net.specs.Well.{IsWell, IsWellWrite}
use Rattle.pdl_net.specs.Growth.{ExtendsBut}
use Rattle.pdl_build.specs.Change.{one_array, write_port}
use Rattle.pdl_build.specs.Parts.{circuit_of_parts, HaveExtents}
use Rattle.pdl_build.proofs.RegisterGrowth.{well_write, extents_write, writes_more, extends_write, write_same, well_port_write, has_array_below}
use Rattle.pdl_build.proofs.Builder.write.Goals as goal

pub index_mut-written-requires : goal.index_mut-written-requires
index_mut-written-requires c =
    let H : Circuit → Type 0 = λ v. HasArray v c.args.array in
    rw c.self.inside.arrays.ok.0 (has_array_below (circuit_of_parts c.self.inside) c.args.array (subst H (sym c.self.view_is) c.requires.has))

pub invariant_of-self-2 : goal.invariant_of-self-2
invariant_of-self-2 c =
    let b = c.self.inside in
    let k = circuit_of_parts b in
    let p = write_port c.args.enable c.args.addr c.args.value in
    let H : Circuit → Type 0 = λ v. HasArray v c.args.array in
    let F : Circuit → Type 0 = λ v. IsWellWrite v (array_at v c.args.array) p in
    let e = sym c.self.view_is in
    let h = subst H e c.requires.has in
    let f =
    subst F e
    (well_port_write c.args.self.now c.args.array p c.requires.enable c.requires.addr_there c.requires.addr_reach c.requires.value) in
    let same = write_same k c.args.array p c.index_mut-written.result.now h c.index_mut-written.ensures.value in
    let D : Circuit → Type 0 = λ v. HaveExtents v b.input_widths.items b.extents.items in
    record {
      well = rw c.in_ok-push.ensures.ok (subst IsWell (sym same) (well_write k c.args.array p h f c.self.invariant.well));
      extents =
          rw c.in_ok-push.ensures.ok
          (subst D (sym same) (extents_write k c.args.array p b.input_widths.items b.extents.items h c.self.invariant.well c.self.invariant.extents));
      folded = c.self.invariant.folded;
    }

pub returns-clause-place : goal.returns-clause-place
returns-clause-place c =
    let k = circuit_of_parts c.self.inside in
    let H : Circuit → Type 0 = λ v. HasArray v c.args.array in
    let h = has_array_below k c.args.array (subst H (sym c.self.view_is) c.requires.has) in
    c.len-at.ensures
    ∙ ap (λ (a : Array). length a.writes)
    (c.index_mut-written.ensures.value ∙ get_or_default c.self.inside.arrays.items c.args.array c.index_mut-written.result.now no_array h)
    ∙ ap (λ (v : Circuit). length (array_at v c.args.array).writes) c.self.view_is

pub returns-clause-writes : goal.returns-clause-writes
returns-clause-writes c =
    let k = circuit_of_parts c.self.inside in
    let p = write_port c.args.enable c.args.addr c.args.value in
    let H : Circuit → Type 0 = λ v. HasArray v c.args.array in
    let F : Circuit → Type 0 = λ v. IsWellWrite v (array_at v c.args.array) p in
    let e = sym c.self.view_is in
    let h = subst H e c.requires.has in
    let f =
    subst F e
    (well_port_write c.args.self.now c.args.array p c.requires.enable c.requires.addr_there c.requires.addr_reach c.requires.value) in
    let same = write_same k c.args.array p c.index_mut-written.result.now h c.index_mut-written.ensures.value in
    rw c.in_ok-push.ensures.ok
    (ap (λ v. write_signals v c.args.array) same ∙ writes_more k c.args.array p h f c.self.invariant.well
    ∙ ap (λ v. write_signals v c.args.array ++ write_signal v p ∷ []) c.self.view_is)

pub returns-clause-extends : goal.returns-clause-extends
returns-clause-extends c =
    let k = circuit_of_parts c.self.inside in
    let p = write_port c.args.enable c.args.addr c.args.value in
    let H : Circuit → Type 0 = λ v. HasArray v c.args.array in
    let h = subst H (sym c.self.view_is) c.requires.has in
    let same = write_same k c.args.array p c.index_mut-written.result.now h c.index_mut-written.ensures.value in
    let Q : Circuit → Type 0 = λ v. ExtendsBut (one_array c.args.array) k v in
    rw (c.in_ok-push.ensures.ok, ← c.self.view_is) (subst Q (sym same) (extends_write k c.args.array p h c.self.invariant.well))
