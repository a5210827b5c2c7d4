use Rattle.std.proofs.Common.{sym, subst}
use Rattle.pdl_net.specs.Growth.{Extends}
use Rattle.pdl_net.specs.Meaning.{signal}
use Rattle.pdl_net.proofs.Keeps.{extends_trans}
use Rattle.pdl_net.proofs.KeptWidths.{width_kept}
use Rattle.pdl_port.specs.declared.PortRegs.{PortRegs}
use Rattle.pdl_port.specs.declared.layout.PortLayout.{PortLayout}
use Rattle.pdl_port.specs.Laws.{AnswerLaw, answer_signals}
use Rattle.pdl_port.specs.Places.{Stands}
use Rattle.pdl_port.proofs.PortGrowth.{places_kept}
use Rattle.pdl_port.proofs.Law.{answer_law}
use Rattle.pdl_port.proofs.PlacedRegisters.{AreListed, layout_is, are_placed, is_fragment, answers_are}
use Rattle.pdl_port.proofs.state.emit_port_state.Goals as goal

pub returns-clause-placed : goal.returns-clause-placed
returns-clause-placed c =
    let a = c.args.b.now in
    let b = c.emit_registers.new.b in
    let d = c.emit_answers.new.b in
    let q = c.requires in
    let l : PortLayout = record { from = c.reg_count.result; places = c.args.next_stages } in
    let r : PortRegs = record { regs = c.in_ok-regs.regs; reply = c.args.reply; word = c.args.word; answers = c.in_ok-answers.answers } in
    let listed : AreListed l r =
    record { count = c.in_ok-regs.ensures.count; listed = c.in_ok-regs.ensures.listed; answers = c.in_ok-answers.ensures.answers.count } in
    let y = c.in_ok-answers.ensures.extends in
    let x : Extends a d = extends_trans a b d c.in_ok-emit_registers.ensures.extends y in
    are_placed d l r listed c.in_ok-emit_registers.ensures.small (places_kept b d l l.places c.in_ok-emit_registers.ensures.places y)
    (width_kept a d r.reply 1 x q.reply)

pub returns-clause-fragment : goal.returns-clause-fragment
returns-clause-fragment c =
    let a = c.args.b.now in
    let b = c.emit_registers.new.b in
    let d = c.emit_answers.new.b in
    let l : PortLayout = record { from = c.reg_count.result; places = c.args.next_stages } in
    let r : PortRegs = record { regs = c.in_ok-regs.regs; reply = c.args.reply; word = c.args.word; answers = c.in_ok-answers.answers } in
    let listed : AreListed l r =
    record { count = c.in_ok-regs.ensures.count; listed = c.in_ok-regs.ensures.listed; answers = c.in_ok-answers.ensures.answers.count } in
    is_fragment a b d l r listed c.reg_count.ensures c.in_ok-emit_registers.ensures.count c.in_ok-answers.ensures.extends

pub returns-clause-answers : goal.returns-clause-answers
returns-clause-answers c =
    let a = c.args.b.now in
    let b = c.emit_registers.new.b in
    let d = c.emit_answers.new.b in
    let q = c.requires in
    let l : PortLayout = record { from = c.reg_count.result; places = c.args.next_stages } in
    let r : PortRegs = record { regs = c.in_ok-regs.regs; reply = c.args.reply; word = c.args.word; answers = c.in_ok-answers.answers } in
    let listed : AreListed l r =
    record { count = c.in_ok-regs.ensures.count; listed = c.in_ok-regs.ensures.listed; answers = c.in_ok-answers.ensures.answers.count } in
    let x = c.in_ok-emit_registers.ensures.extends in
    let y = c.in_ok-answers.ensures.extends in
    let P : PortLayout → Type 0 = λ g. AnswerLaw (Stands g) c.args.next_stages (signal d r.reply) (signal d r.word) (answer_signals d r) in
    subst P (sym (layout_is l r listed)) (answer_law l (signal d r.reply) (signal d r.word) (answer_signals d r)
    (answers_are b d l r c.in_ok-answers.ensures.answers (y.kept r.reply (x.there r.reply q.reply.there)) (y.kept r.word (x.there r.word q.word.there))))
