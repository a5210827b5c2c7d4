use Rattle.std.proofs.Common.{◌≡◌, sym, subst}
use Rattle.pdl_net.proofs.Keeps.{extends_keeps, extends_trans, means_kept}
use Rattle.pdl_lockapi.specs.Laws.{step_signals}
use Rattle.pdl_lockapi.proofs.LockGrowth.{same_signals}
use Rattle.pdl_lock_ring.specs.Asks.{IsAsked, IsAskedNext}
use Rattle.pdl_lock_ring.proofs.RingGrowth.{ports_kept}
use Rattle.pdl_lock_ring.proofs.Reserves.{asked_none, asked_more}
use Rattle.pdl_lock_ring.proofs.taken.emit_asked.Goals as goal

pub loop-k-init : goal.loop-k-init
loop-k-init c =
    let a = c.args.b.now in
    let b = c.constant.new.self in
    let d = c.constant-2.new.self in
    let y = c.in_ok-none.ensures.extends in
    record {
      extends = extends_trans a b d c.in_ok-zero.ensures.extends y;
      asked =
          asked_none d c.args.l (step_signals a c.args.p.now) c.in_ok-zero.zero c.in_ok-none.none
          (means_kept b d _ _ y c.in_ok-zero.ensures.means) c.in_ok-none.ensures.means;
    }

pub emit_ask-requires-clause-given : goal.emit_ask-requires-clause-given
emit_ask-requires-clause-given c = ports_kept c.args.b.now c.loop-k.b c.args.l c.args.p.now c.requires.given c.loop-k.invariant.extends

pub emit_ask-requires-clause-asked : goal.emit_ask-requires-clause-asked
emit_ask-requires-clause-asked c =
    let a = c.args.b.now in
    let b = c.loop-k.b in
    let p = c.args.p.now in
    let s : step_signals b p ≡ step_signals a p = same_signals a b p c.requires.given.ports (extends_keeps a b c.loop-k.invariant.extends) in
    subst (λ g. IsAsked b c.args.l g c.loop-k.k c.loop-k.asked) (sym s) c.loop-k.invariant.asked

pub loop-k-preserved : goal.loop-k-preserved
loop-k-preserved c =
    let a = c.args.b.now in
    let b = c.loop-k.b in
    let d = c.emit_ask.new.b in
    let l = c.args.l in
    let p = c.args.p.now in
    let i = c.loop-k.invariant in
    let s : step_signals b p ≡ step_signals a p = same_signals a b p c.requires.given.ports (extends_keeps a b i.extends) in
    let next = subst (λ g. IsAskedNext b d l g c.loop-k.k c.loop-k.asked c.in_ok-asked.asked) s c.in_ok-asked.ensures.asked in
    record {
      extends = extends_trans a b d i.extends c.in_ok-asked.ensures.extends;
      asked = asked_more b d l (step_signals a p) c.loop-k.k c.loop-k.asked c.in_ok-asked.asked i.asked next;
    }
