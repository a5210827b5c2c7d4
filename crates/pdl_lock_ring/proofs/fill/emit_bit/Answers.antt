use Rattle.std.proofs.Common.{◌≡◌, subst, arith}
use Rattle.pdl_net.specs.Meaning.{Means}
use Rattle.pdl_lockapi.specs.Laws.{step_signals}
use Rattle.pdl_net.proofs.Keeps.{extends_keeps, extends_trans, means_keeps}
use Rattle.pdl_lockapi.proofs.LockGrowth.{same_signals}
use Rattle.pdl_lock_ring.proofs.RingGrowth.{ports_kept, ready_kept}
use Rattle.pdl_lock_ring.specs.Steps.{filled_bit}
use Rattle.pdl_lock_ring.proofs.Fills.{filling}
use Rattle.pdl_lock_ring.proofs.fill.emit_bit.Goals as goal

pub emit_match-requires-clause-given : goal.emit_match-requires-clause-given
emit_match-requires-clause-given c = ports_kept c.args.b.now c.loop-j.b c.args.l c.args.p.now c.requires.ready.given c.loop-j.invariant.extends

pub loop-j-preserved : goal.loop-j-preserved
loop-j-preserved c =
    let e : step_signals c.loop-j.b c.args.p.now ≡ step_signals c.args.b.now c.args.p.now =
    same_signals c.args.b.now c.loop-j.b c.args.p.now c.requires.ready.given.ports (extends_keeps c.args.b.now c.loop-j.b c.loop-j.invariant.extends) in
    record {
      extends = grind arith;
      one = grind arith;
      bit = grind (arith, filling);
    }

pub emit_emptied-requires-clause-ready : goal.emit_emptied-requires-clause-ready
emit_emptied-requires-clause-ready c = ready_kept c.args.b.now c.constant.new.self c.args.l c.args.p.now c.args.t c.requires.ready c.in_ok-one.ensures.extends

pub loop-j-init : goal.loop-j-init
loop-j-init c =
    let a = c.args.b.now in
    let b1 = c.constant.new.self in
    let b2 = c.emit_emptied.new.b in
    let l = c.args.l in
    let x1 = c.in_ok-one.ensures.extends in
    let x2 = c.in_ok-bit.ensures.extends in
    let e : step_signals b1 c.args.p.now ≡ step_signals a c.args.p.now = same_signals a b1 c.args.p.now c.requires.ready.given.ports (extends_keeps a b1 x1) in
    record {
      extends = extends_trans a b1 b2 x1 x2;
      one = means_keeps b1 b2 _ _ (extends_keeps b1 b2 x2) c.in_ok-one.ensures.means;
      bit = subst (λ f. Means b2 c.in_ok-bit.bit (filled_bit l f c.args.k 0)) e c.in_ok-bit.ensures.means;
    }
