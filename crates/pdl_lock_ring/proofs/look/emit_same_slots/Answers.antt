use Rattle.std.proofs.Common.{◌≡◌, ◌≢◌, ◌+◌, ◌-◌, ap, ap₂, sym, ◌∙◌, arith}
use Rattle.pdl_net.specs.Signal.{Signal, cat_signal}
use Rattle.pdl_net.specs.Meaning.{signal}
use Rattle.pdl_net.proofs.Keeps.{extends_trans}
use Rattle.pdl_net.proofs.KeptWidths.{width_kept}
use Rattle.pdl_lock_ring.specs.Choices.{bits_signal}
use Rattle.pdl_lock_ring.specs.Looks.{same_at, same_slots}
use Rattle.pdl_lock_ring.proofs.RingGrowth.{slots_kept, means_as}
use Rattle.pdl_lock_ring.proofs.SlotBits.{bits_more}
use Rattle.pdl_lock_ring.proofs.look.emit_same_slots.Goals as goal

pub emit_same-requires-in-loop-k-clause-slots : goal.emit_same-requires-in-loop-k-clause-slots
emit_same-requires-in-loop-k-clause-slots c = slots_kept c.args.b.now c.loop-k.b c.args.l c.requires.slots c.loop-k.invariant.extends

pub emit_same-requires-in-loop-k-clause-addr : goal.emit_same-requires-in-loop-k-clause-addr
emit_same-requires-in-loop-k-clause-addr c = width_kept c.args.b.now c.loop-k.b c.args.addr c.args.l.bits c.loop-k.invariant.extends c.requires.addr

pub loop-k-preserved : goal.loop-k-preserved
loop-k-preserved c =
    let a = c.args.b.now in
    let b0 = c.loop-k.b in
    let b1 = c.emit_same-in-loop-k.new.b in
    let b2 = c.cat.new.self in
    let l = c.args.l in
    let k = c.loop-k.k in
    let f = same_at l (signal a c.args.addr) in
    let i = c.loop-k.invariant in
    let x1 = c.in_ok-same.ensures.extends in
    let x2 = c.in_ok-slots-2.ensures.extends in
    let addr : signal b0 c.args.addr ≡ signal a c.args.addr = i.extends.kept c.args.addr c.requires.addr.there in
    let same : signal b1 c.in_ok-same.same ≡ f k = c.in_ok-same.ensures.means.same ∙ ap (λ g. same_at l g k) addr in
    let slots : signal b1 c.loop-k.slots ≡ bits_signal f (k - 1) = x1.kept c.loop-k.slots i.slots.there ∙ i.slots.same in
    let some : k ≢ 0 = λ e. omega (arith, e, c.loop-k.auto.k) in
    let whole : cat_signal (signal b1 c.in_ok-same.same) (signal b1 c.loop-k.slots) ≡ bits_signal f (k + 1 - 1) =
    ap₂ cat_signal same slots ∙ sym (bits_more f k some) ∙ ap (bits_signal f) (omega arith) in
    let one : (signal b1 c.in_ok-same.same).width ≡ 1 = ap (λ (g : Signal). g.width) same in
    let wide : (signal b1 c.loop-k.slots).width ≡ k = ap (λ (g : Signal). g.width) (x1.kept c.loop-k.slots i.slots.there) ∙ i.wide in
    let width : (signal b2 c.in_ok-slots-2.slots).width ≡ (signal b1 c.in_ok-same.same).width + (signal b1 c.loop-k.slots).width =
    ap (λ (g : Signal). g.width) c.in_ok-slots-2.ensures.means.same in
    record {
      extends = extends_trans a b1 b2 (extends_trans a b0 b1 i.extends x1) x2;
      wide = omega (arith, width, one, wide);
      slots = means_as b2 c.in_ok-slots-2.slots _ _ c.in_ok-slots-2.ensures.means whole;
    }

pub returns-clause-means : goal.returns-clause-means
unfolding same_slots
returns-clause-means c =
    let l = c.args.l in
    let e : c.loop-k.k ≡ l.size = omega (arith, c.loop-k-test.false, c.loop-k.auto.k-end, c.requires.sized.some) in
    means_as c.loop-k.b c.loop-k.slots _ _ c.loop-k.invariant.slots
    (ap (λ n. bits_signal (same_at l (signal c.args.b.now c.args.addr)) (n - 1)) e)
