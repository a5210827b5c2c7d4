use Rattle.std.proofs.Common.{◌≡◌, ap, inl, ◌∙◌, arith}
use Rattle.pdl_net.specs.Growth.{Extends}
use Rattle.pdl_net.proofs.Keeps.{extends_trans, extends_keeps}
use Rattle.pdl_lockapi.specs.Laws.{StepSignals, step_signals}
use Rattle.pdl_lockapi.proofs.LockGrowth.{same_signals}
use Rattle.pdl_lock_ring.specs.Steps.{tail_after}
use Rattle.pdl_lock_ring.proofs.RingGrowth.{later_is, slots_kept}
use Rattle.pdl_lock_ring.proofs.step.emit_ends.Goals as goal

pub returns-clause-next : goal.returns-clause-next
returns-clause-next c =
    let a = c.args.b.now in
    let b1 = c.emit_head.new.b in
    let b2 = c.emit_tail.new.b in
    let b3 = c.next.new.self in
    let l = c.args.l in
    let p = c.args.p.now in
    let f = step_signals a p in
    let x1 = c.in_ok-head.ensures.extends in
    let x2 = c.in_ok-tail.ensures.extends in
    let x12 : Extends a b2 = extends_trans a b1 b2 x1 x2 in
    let z = slots_kept a b2 l c.requires.ready.given.slots x12 in
    let e : step_signals b1 p ≡ f = same_signals a b1 p c.requires.ready.given.ports (extends_keeps a b1 x1) in
    let y3 = c.next.ensures.extends in
    let y4 = c.next-2.ensures.extends in
    record {
      head = y4.nexts l.from (y3.has_reg l.from z.has_head) (inl (omega arith)) ∙ c.next.ensures.set ∙ later_is b1 b2 _ _ x2 c.in_ok-head.ensures.means;
      tail = c.next-2.ensures.set ∙ y3.kept _ c.in_ok-tail.ensures.means.there ∙ c.in_ok-tail.ensures.means.same ∙ ap (λ (g : StepSignals). tail_after l g) e;
    }
