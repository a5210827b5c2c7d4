use Rattle.std.proofs.Common.{◌≡◌, ◌+◌, ◌∙◌, List, length, sym, ap, arith, subst}
use Rattle.std.proofs.lemmas.List.{length-map}
use Rattle.std.specs.Prelude.{Option}
use Rattle.pdl_form.specs.FormView.{form}
use Rattle.pdl_form.specs.View.{mem_view}
use Rattle.pdl_net.proofs.Keeps.{extends_keeps, extends_trans, regs_grow}
use Rattle.pdl_port.specs.declared.PortRegs.{PortRegs}
use Rattle.pdl_port.specs.Laws.{own as port_own}
use Rattle.pdl_pipe_beside.specs.Parts.{AreParts}
use Rattle.pdl_pipe_beside.specs.Ports.{has_port}
use Rattle.pdl_pipe_beside.proofs.PartLists.{parts_more}
use Rattle.pdl_pipe_beside.proofs.PortParts.{inputs_keep, has_port_stays, has_answers}
use Rattle.pdl_pipe_beside.proofs.ports.lay_ports.Goals as goal

pub lay_memory_port-requires-clause-inputs : goal.lay_memory_port-requires-clause-inputs
lay_memory_port-requires-clause-inputs c =
    let a = c.args.b.now in
    let b = c.loop-m.b in
    inputs_keep a b (extends_keeps a b c.loop-m.invariant.extends) (form c.args.pipe.now).pipe c.args.inputs.now c.requires.inputs

pub loop-m-preserved : goal.loop-m-preserved
loop-m-preserved c =
    let p = (form c.args.pipe.now).pipe in
    let a = c.args.b.now in
    let b = c.loop-m.b in
    let d = c.lay_memory_port.new.b in
    let xs = c.args.inputs.now in
    let m = c.loop-m.m in
    let v = c.loop-m.invariant in
    let s = c.in_ok-port.ensures in
    let k = extends_keeps b d s.extends in
    let more =
    parts_more port_own (has_port b p xs) (has_port d p xs)
    (length a.regs) b d c.loop-m.ports.items c.in_ok-port.port m (has_port_stays b d k p xs) (regs_grow b d k)
    (regs_grow a b (extends_keeps a b v.extends)) s.new s.port v.ports in
    record {
      ports =
          subst (λ (qs : List (Option PortRegs)). AreParts port_own (has_port d p xs) (length a.regs) (length d.regs) qs (m + 1))
          (sym c.in_ok-push.ensures.items) more;
      extends = extends_trans a b d v.extends s.extends;
    }

pub returns-clause-answers : goal.returns-clause-answers
returns-clause-answers c =
    let p = (form c.args.pipe.now).pipe in
    let a = c.args.b.now in
    let b = c.loop-m.b in
    let xs = c.args.inputs.now in
    let count : length c.mems-m-end.result.now ≡ length p.mems = sym (length-map c.mems-m-end.result.now mem_view) ∙ ap length c.mems-m-end.ensures.mems in
    let n : c.loop-m.m ≡ length p.mems = omega (arith, c.loop-m-test.false, c.loop-m.auto.m-end, count) in
    let parts = subst (λ i. AreParts port_own (has_port b p xs) (length a.regs) (length b.regs) c.loop-m.ports.items i) n c.loop-m.invariant.ports in
    has_answers b p xs (length a.regs) (length b.regs) c.loop-m.ports.items c.requires.leads parts
