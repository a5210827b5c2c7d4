use Rattle.std.proofs.Common.{◌≡◌, ◌∙◌, ◌+◌, ◌*◌, ◌<◌, sym, ap, arith}
use Rattle.pdl_net.proofs.Keeps.{but_keeps, but_trans, but_extends, extends_refl}
use Rattle.pdl_lockapi.specs.Laws.{StepSignals, step_signals}
use Rattle.pdl_lockapi.proofs.LockGrowth.{same_signals}
use Rattle.pdl_lock_ring.specs.Slots.{value_at}
use Rattle.pdl_lock_ring.specs.Steps.{own_contents}
use Rattle.pdl_lock_ring.proofs.RingGrowth.{slots_kept_but, ports_kept_but}
use Rattle.pdl_lock_ring.proofs.StepCalls.{reg_in_row}
use Rattle.pdl_rename.specs.Nets.{next_place}
use Rattle.pdl_rename.proofs.Turns.{freed_later, places_none, places_more}
use Rattle.pdl_rename.proofs.places.emit_places.Goals as goal

pub loop-k-init : goal.loop-k-init
loop-k-init c = record {
  extends = but_extends (own_contents c.args.l.slots) c.args.b.now c.args.b.now (extends_refl c.args.b.now);
  next = places_none c.args.b.now c.args.l (step_signals c.args.b.now c.args.p.now);
}

pub emit_place-requires-clause-given : goal.emit_place-requires-clause-given
emit_place-requires-clause-given c =
    ports_kept_but (own_contents c.args.l.slots) c.args.b.now c.loop-k.b c.args.l.slots c.args.p.now c.requires.given c.loop-k.invariant.extends

pub emit_place-requires-clause-freed : goal.emit_place-requires-clause-freed
emit_place-requires-clause-freed c =
    let a = c.args.b.now in
    let b = c.loop-k.b in
    let p = c.args.p.now in
    let y = but_keeps (own_contents c.args.l.slots) a b c.loop-k.invariant.extends in
    let s : step_signals b p ≡ step_signals a p = same_signals a b p c.requires.given.ports y in
    freed_later a b c.args.l (step_signals a p) (step_signals b p) c.args.f (sym s) y c.requires.freed

pub loop-k-preserved : goal.loop-k-preserved
loop-k-preserved c =
    let a = c.args.b.now in
    let b = c.loop-k.b in
    let d = c.emit_place.new.b in
    let l = c.args.l in
    let p = c.args.p.now in
    let k = c.loop-k.k in
    let x = c.loop-k.invariant.extends in
    let y = c.in_ok-emit_place.ensures.extends in
    let s : step_signals b p ≡ step_signals a p = same_signals a b p c.requires.given.ports (but_keeps (own_contents l.slots) a b x) in
    let lt : k < l.slots.size = omega arith in
    record {
      extends =
          but_trans (own_contents l.slots) a b d x
          (reg_in_row (l.slots.from + 2 + 2 * l.slots.size) l.slots.size (value_at l.slots k) b d (omega arith) (omega (arith, lt)) y);
      next =
          places_more b d l (step_signals a p) k lt
          (slots_kept_but (own_contents l.slots) a b l.slots c.requires.given.slots x) c.loop-k.invariant.next y
          (c.in_ok-emit_place.ensures.next ∙ ap (λ (g : StepSignals). next_place l g k) s);
    }
