use Rattle.std.proofs.Common.{◌≡◌, ◌∙◌, ℕ, ◌+◌, ◌*◌, ◌++◌, List, take, flat_map, sym, ap, subst, arith}
use Rattle.std.specs.Prelude.{Option}
use Rattle.pdl_semantics.specs.Flat.{Mem}
use Rattle.pdl_semantics.specs.Stages.{mem_at, reply_place}
use Rattle.pdl_form.specs.FormView.{form}
use Rattle.pdl_form.specs.declared.form.FlatMem as r_mem
use Rattle.pdl_form.specs.View.{mem_view}
use Rattle.pdl_form_types.specs.Stmts.{IsTypedMem}
use Rattle.pdl_net.specs.declared.Port.{Port}
use Rattle.pdl_net.specs.Growth.{ExtendsPorts}
use Rattle.pdl_net.proofs.Keeps.{ports_keeps}
use Rattle.pdl_pipe_locks.proofs.MadeMemories.{mem_count, mem_is, typed_at}
use Rattle.pdl_pipe_beside.specs.declared.PortInput.{PortInput}
use Rattle.pdl_pipe_ports.specs.Inputs.{mem_ports, IsReplyOf, AreReplies}
use Rattle.pdl_pipe_ports.proofs.InputLists.{ports_trans, mems_more, ports_all, inputs_place, replies_more}
use Rattle.pdl_pipe_ports.proofs.inputs.reply_inputs.Goals as goal

pub memory_input-requires : goal.memory_input-requires
memory_input-requires c =
    let p = (form c.args.pipe.now).pipe in
    let ms = c.mems-mems.result.now in
    let i = c.loop-mem.mem-index in
    let count = mem_count p ms c.mems-mems.ensures.mems in
    let is = mem_is p ms i c.mem-item.result c.mems-mems.ensures.mems c.loop-mem-test.true c.mem-item.is in
    subst IsTypedMem (sym is) (typed_at p.mems i (omega (arith, count, c.loop-mem-test.true)) c.requires.mems)

pub loop-mem-preserved : goal.loop-mem-preserved
loop-mem-preserved c =
    let p = (form c.args.pipe.now).pipe in
    let ms = c.mems-mems.result.now in
    let m = c.mem-item.result in
    let i = c.loop-mem.mem-index in
    let a = c.args.b.now in
    let b = c.loop-mem.b in
    let d = c.memory_input.new.b in
    let o = c.in_ok-input.input in
    let v = c.loop-mem.invariant in
    let s = c.in_ok-input.ensures in
    let count = mem_count p ms c.mems-mems.ensures.mems in
    let is = mem_is p ms i m c.mems-mems.ensures.mems c.loop-mem-test.true c.mem-item.is in
    let new : IsReplyOf d (mem_at p i) (2 * reply_place p i) o =
    subst (λ (x : Mem). IsReplyOf d x (2 * reply_place p i) o) is (subst (λ (n : ℕ). IsReplyOf d (mem_view m) n o) v.place s.input) in
    let more : flat_map mem_ports (take i ms) ++ mem_ports m ≡ flat_map mem_ports (take (i + 1) ms) =
    ap (λ (x : r_mem.FlatMem). flat_map mem_ports (take i ms) ++ mem_ports x) c.mem-item.is ∙ sym (mems_more ms i m c.loop-mem-test.true) in
    record {
      inputs =
          subst (λ (xs : List (Option PortInput)). AreReplies d p xs (i + 1)) (sym c.in_ok-push.ensures.items)
          (replies_more b d p c.loop-mem.found.items o i (ports_keeps b d (mem_ports m) s.extends) new v.inputs);
      place = inputs_place p b d m i (omega (arith, count, c.loop-mem-test.true)) is s.extends.ports v.place;
      extends = subst (λ (ps : List Port). ExtendsPorts a d ps) more (ports_trans a b d (flat_map mem_ports (take i ms)) (mem_ports m) v.extends s.extends);
      regs = s.regs ∙ v.regs;
    }

pub returns-clause-ports : goal.returns-clause-ports
returns-clause-ports c names told =
    let f = form c.args.pipe.now in
    let ms = c.mems-mems.result.now in
    let i = c.loop-mem.mem-index in
    let e = ports_all f ms i names c.mems-mems.ensures.mems c.mems-mems.ensures.names c.loop-mem-test.false told in
    c.loop-mem.invariant.extends.ports ∙ ap (λ (ps : List Port). ps ++ flat_map mem_ports (take i ms)) c.requires.first ∙ e

pub returns-clause-extends : goal.returns-clause-extends
returns-clause-extends c names told =
    let f = form c.args.pipe.now in
    let ms = c.mems-mems.result.now in
    let i = c.loop-mem.mem-index in
    let e = ports_all f ms i names c.mems-mems.ensures.mems c.mems-mems.ensures.names c.loop-mem-test.false told in
    subst (λ (ps : List Port). ExtendsPorts c.args.b.now c.loop-mem.b ps) e c.loop-mem.invariant.extends
