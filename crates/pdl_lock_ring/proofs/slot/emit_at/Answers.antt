use Rattle.std.proofs.Common.{◌≡◌, ap, ◌∙◌}
use Rattle.pdl_net.specs.Signal.{Signal}
use Rattle.pdl_net.specs.Meaning.{signal}
use Rattle.pdl_net.proofs.Keeps.{extends_keeps}
use Rattle.pdl_lockapi.specs.Laws.{StepSignals, step_signals}
use Rattle.pdl_lockapi.proofs.LockGrowth.{same_signals}
use Rattle.pdl_lock_ring.specs.Steps.{content_of}
use Rattle.pdl_lock_ring.proofs.RingGrowth.{means_as}
use Rattle.pdl_lock_ring.proofs.slot.emit_at.Goals as goal

pub returns-clause-content : goal.returns-clause-content
returns-clause-content c =
    let a = c.args.b.now in
    let b1 = c.emit_addr_of.new.b in
    let l = c.args.l in
    let p = c.args.p.now in
    let x = c.in_ok-addr.ensures.extends in
    let s : step_signals b1 p ≡ step_signals a p = same_signals a b1 p c.requires.ready.given.ports (extends_keeps a b1 x) in
    means_as c.emit_content_of.new.b c.in_ok-content.content _ _ c.in_ok-content.ensures.means
    (ap (λ (g : StepSignals). content_of l g (signal b1 c.args.ticket)) s
    ∙ ap (content_of l (step_signals a p)) (x.kept c.args.ticket c.requires.ticket.there))
