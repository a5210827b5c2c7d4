use Rattle.std.proofs.Common.{ℕ, ◌+◌, sym, ap, subst}
use Rattle.pdl_net.specs.Growth.{Own}
use Rattle.pdl_order.specs.declared.layout.OrderLayout.{OrderLayout}
use Rattle.pdl_order.specs.Laws.{first_reg, step_signals, StepLaw}
use Rattle.pdl_order.specs.Words.{layout_of, stands}
use Rattle.pdl_order.specs.Nets.{NextWords}
use Rattle.pdl_order.proofs.Law.{step_law}
use Rattle.pdl_order.proofs.step.emit_order_step.Goals as goal

pub returns-clause-law : goal.returns-clause-law
returns-clause-law c =
    let d = c.emit_words.new.b in
    let r = c.args.r.now in
    let f = step_signals c.args.b.now c.args.p.now in
    let own_of : ℕ → Own = λ n. record { from = first_reg r; to = first_reg r + n; first = 0; last = 0 } in
    let P : OrderLayout → Type 0 = λ l. NextWords d l f in
    let Q : Own → Type 0 = λ o. StepLaw (stands r) r.stages o d f in
    subst Q (ap own_of (sym c.requires.placed.count))
    (step_law d (layout_of r) f c.requires.placed.words.low (subst P c.of-l.ensures c.in_ok-emit_words.ensures.next))
