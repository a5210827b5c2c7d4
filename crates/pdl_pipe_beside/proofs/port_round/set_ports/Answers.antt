use Rattle.std.proofs.Common.{◌≡◌, ◌+◌, ◌<◌, ◌∙◌, length, sym, ap, arith, subst}
use Rattle.std.proofs.lemmas.List.{length-map}
use Rattle.pdl_form.specs.FormView.{form}
use Rattle.pdl_form.specs.View.{mem_view}
use Rattle.pdl_port.specs.Laws.{own as port_own}
use Rattle.pdl_pipe_walk.proofs.NetGrowth.{bits_keep}
use Rattle.pdl_pipe_beside.specs.Parts.{own_at, ExtendsParts}
use Rattle.pdl_pipe_beside.proofs.PartLists.{extends_more, parts_wider}
use Rattle.pdl_pipe_beside.proofs.EndGrowth.{ends_keep}
use Rattle.pdl_pipe_beside.proofs.PortSteps.{ports_stand, stepped_more, all_stepped, no_arrays}
use Rattle.pdl_pipe_beside.proofs.port_round.set_ports.Goals as goal

pub set_port-requires-clause-bits : goal.set_port-requires-clause-bits
set_port-requires-clause-bits c = bits_keep c.args.b.now c.loop-m.b c.args.round.now.bits c.loop-m.invariant.extends.keeps c.requires.bits

pub set_port-requires-clause-ends : goal.set_port-requires-clause-ends
set_port-requires-clause-ends c =
    ends_keep c.args.b.now c.loop-m.b c.loop-m.invariant.extends.keeps (form c.args.round.now.pipe.now) c.args.round.now.ends.now c.requires.ends

pub set_port-requires-clause-ports : goal.set_port-requires-clause-ports
set_port-requires-clause-ports c =
    ports_stand c.args.b.now c.loop-m.b (form c.args.round.now.pipe.now).pipe c.args.ports.now c.loop-m.invariant.extends.keeps c.requires.ports

pub loop-m-preserved : goal.loop-m-preserved
loop-m-preserved c =
    let f = form c.args.round.now.pipe.now in
    let a = c.args.b.now in
    let b = c.loop-m.b in
    let d = c.set_port.new.b in
    let m = c.loop-m.m in
    let qs = c.args.ports.now in
    let v = c.loop-m.invariant in
    let s = c.in_ok-set_port.ensures in
    let count : length c.mems-m-end.result.now ≡ length f.pipe.mems = sym (length-map c.mems-m-end.result.now mem_view) ∙ ap length c.mems-m-end.ensures.mems in
    let low : m < length f.pipe.mems = omega (arith, c.loop-m-test.true, count) in
    record {
      stepped = stepped_more a f c.args.round.now.ends.now qs c.requires.ports c.requires.ends b d m low v.extends.keeps s.extends s.stepped v.stepped;
      extends = extends_more (own_at port_own qs) m a b d (no_arrays qs m) v.extends s.extends;
    }

pub returns-clause-stepped : goal.returns-clause-stepped
returns-clause-stepped c =
    let f = form c.args.round.now.pipe.now in
    let count : length c.mems-m-end.result.now ≡ length f.pipe.mems = sym (length-map c.mems-m-end.result.now mem_view) ∙ ap length c.mems-m-end.ensures.mems in
    let n : c.loop-m.m ≡ length f.pipe.mems = omega (arith, c.loop-m-test.false, c.loop-m.auto.m-end, count) in
    all_stepped c.args.b.now c.loop-m.b f.pipe c.args.round.now.ends.now c.args.ports.now c.loop-m.m n c.requires.leads c.loop-m.invariant.stepped

pub returns-clause-extends : goal.returns-clause-extends
returns-clause-extends c =
    let f = form c.args.round.now.pipe.now in
    let count : length c.mems-m-end.result.now ≡ length f.pipe.mems = sym (length-map c.mems-m-end.result.now mem_view) ∙ ap length c.mems-m-end.ensures.mems in
    let n : c.loop-m.m ≡ length f.pipe.mems = omega (arith, c.loop-m-test.false, c.loop-m.auto.m-end, count) in
    subst (λ i. ExtendsParts (own_at port_own c.args.ports.now) i c.args.b.now c.loop-m.b) n c.loop-m.invariant.extends

pub returns-in_err-set_port-clause-extends : goal.returns-in_err-set_port-clause-extends
returns-in_err-set_port-clause-extends c =
    let f = form c.args.round.now.pipe.now in
    let owns = own_at port_own c.args.ports.now in
    let m = c.loop-m.m in
    let count : length c.mems-m-end.result.now ≡ length f.pipe.mems = sym (length-map c.mems-m-end.result.now mem_view) ∙ ap length c.mems-m-end.ensures.mems in
    let low : m < length f.pipe.mems = omega (arith, c.loop-m-test.true, count) in
    parts_wider owns (m + 1) (length f.pipe.mems) c.args.b.now c.set_port.new.b (omega (arith, low))
    (extends_more owns m c.args.b.now c.loop-m.b c.set_port.new.b (no_arrays c.args.ports.now m) c.loop-m.invariant.extends c.set_port.ensures.extends)
