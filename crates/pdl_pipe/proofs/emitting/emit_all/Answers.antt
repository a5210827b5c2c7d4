use Rattle.std.proofs.Common.{sym, ◌∙◌, subst, length, []}
use Rattle.pdl_net.proofs.Keeps.{extends_refl}
use Rattle.pdl_form.specs.FormView.{form}
use Rattle.pdl_pipe_walk.specs.Locked.{members}
use Rattle.pdl_pipe_ports.specs.Inputs.{AreReplies}
use Rattle.pdl_pipe_beside.specs.Ports.{AreInputs, has_port}
use Rattle.pdl_pipe_beside.specs.Parts.{AreParts}
use Rattle.pdl_port.specs.Laws.{own as port_own}
use Rattle.pdl_pipe.specs.Emitted.{HasMemoriesIn}
use Rattle.pdl_pipe.proofs.NetlistStart.{empty_shapes, no_arrays, inputs_now, memories_now}
use Rattle.pdl_pipe.proofs.emitting.emit_all.Goals as goal

pub lay_memories-requires-clause-none : goal.lay_memories-requires-clause-none
lay_memories-requires-clause-none g c = no_arrays c.reply_inputs.new.b (c.in_ok-inputs.ensures.shapes ∙ empty_shapes c.args.b.now c.requires.empty)

pub lay_ports-requires-clause-inputs : goal.lay_ports-requires-clause-inputs
lay_ports-requires-clause-inputs g c =
    let a = c.reply_inputs.new.b in
    let b = c.lay_memories.new.b in
    let d = c.new.new.b in
    let f = form c.args.pipe.now in
    let l = members g.L.LockModule in
    let xs = c.in_ok-made.made.items in
    let ins = c.as_slice.result.now in
    let replies = subst (λ ys. AreReplies a f.pipe ys (length f.pipe.mems)) (sym c.as_slice.ensures.value) c.in_ok-inputs.ensures.inputs in
    subst (AreInputs d f.pipe) (sym c.as_slice-2.ensures.value)
    (c.in_ok-reads.ensures.inputs d
    (inputs_now l g.met.L.LockModule.stays a b d d f c.in_ok-bits.bits xs ins c.in_ok-reads.reads.items [] c.in_ok-made.ensures.extends c.in_ok-bits.ensures.extends
    (extends_refl d) replies))

pub emit_stages-requires-clause-memories : goal.emit_stages-requires-clause-memories
emit_stages-requires-clause-memories g c =
    let a = c.reply_inputs.new.b in
    let b = c.lay_memories.new.b in
    let d = c.new.new.b in
    let e = c.lay_ports.new.b in
    let f = form c.args.pipe.now in
    let l = members g.L.LockModule in
    let xs = c.in_ok-made.made.items in
    let ins = c.as_slice.result.now in
    let reads = c.in_ok-reads.reads.items in
    let qs = c.in_ok-ports.ports.items in
    let made = c.in_ok-made.ensures in
    let replies = subst (λ ys. AreReplies a f.pipe ys (length f.pipe.mems)) (sym c.as_slice.ensures.value) c.in_ok-inputs.ensures.inputs in
    let parts =
    subst
    (λ ys. AreParts port_own (has_port e f.pipe ys) (length d.regs)
    (length e.regs) qs (length f.pipe.mems)) c.as_slice-2.ensures.value c.in_ok-ports.ensures.ports in
    let can = c.requires.can in
    subst (λ ys. HasMemoriesIn l e f c.in_ok-bits.bits ys c.as_slice-4.result.now) (sym c.as_slice-3.ensures.value)
    (subst (HasMemoriesIn l e f c.in_ok-bits.bits xs) (sym c.as_slice-4.ensures.value)
    (memories_now l g.met.L.LockModule.stays a b d e f c.in_ok-bits.bits xs ins reads qs made.extends c.in_ok-bits.ensures.extends c.lay_ports.ensures.extends made.locked made.lawful made.unwritten c.in_ok-bits.ensures.bits replies
    (λ m r is. let k = can.reads.known m r is in
    (k.0, k.1)) can.onward c.in_ok-reads.ensures.read parts c.in_ok-ports.ensures.answers c.in_ok-inputs.ensures.ports
    (c.in_ok-inputs.ensures.shapes ∙ empty_shapes c.args.b.now c.requires.empty)))

pub emit_stages-requires-clause-twice : goal.emit_stages-requires-clause-twice
emit_stages-requires-clause-twice g c = c.as_slice-flags.ensures.value ∙ c.in_ok-twice.ensures
