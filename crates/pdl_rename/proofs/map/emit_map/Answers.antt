use Rattle.std.proofs.Common.{◌≡◌, ◌∙◌, ◌<◌, sym, ap, arith}
use Rattle.pdl_net.proofs.Keeps.{but_keeps, but_trans, but_extends, extends_refl}
use Rattle.pdl_lockapi.specs.Laws.{StepSignals, step_signals}
use Rattle.pdl_lockapi.proofs.LockGrowth.{same_signals}
use Rattle.pdl_lock_ring.proofs.RingGrowth.{ports_kept_but, oldest_later}
use Rattle.pdl_lock_ring.proofs.StepCalls.{reg_in_row}
use Rattle.pdl_rename.specs.Places.{map_at}
use Rattle.pdl_rename.specs.Nets.{own_map, next_map}
use Rattle.pdl_rename.proofs.MadeRegisters.{map_kept_but}
use Rattle.pdl_rename.proofs.Turns.{map_none, map_more}
use Rattle.pdl_rename.proofs.map.emit_map.Goals as goal

pub loop-a-init : goal.loop-a-init
loop-a-init c = record {
  extends = but_extends (own_map c.args.l) c.args.b.now c.args.b.now (extends_refl c.args.b.now);
  next = map_none c.args.b.now c.args.l (step_signals c.args.b.now c.args.p.now);
}

pub emit_word-requires-clause-map : goal.emit_word-requires-clause-map
emit_word-requires-clause-map c = map_kept_but (own_map c.args.l) c.args.b.now c.loop-a.b c.args.l c.args.l.depth c.requires.map c.loop-a.invariant.extends

pub emit_word-requires-clause-given : goal.emit_word-requires-clause-given
emit_word-requires-clause-given c =
    ports_kept_but (own_map c.args.l) c.args.b.now c.loop-a.b c.args.l.slots c.args.p.now c.requires.given c.loop-a.invariant.extends

pub emit_word-requires-clause-oldest : goal.emit_word-requires-clause-oldest
emit_word-requires-clause-oldest c =
    let a = c.args.b.now in
    let b = c.loop-a.b in
    let p = c.args.p.now in
    let k = but_keeps (own_map c.args.l) a b c.loop-a.invariant.extends in
    let s : step_signals b p ≡ step_signals a p = same_signals a b p c.requires.given.ports k in
    oldest_later a b c.args.l.slots (step_signals a p) (step_signals b p) c.args.o (sym s) k c.requires.oldest

pub loop-a-preserved : goal.loop-a-preserved
loop-a-preserved c =
    let a = c.args.b.now in
    let b = c.loop-a.b in
    let d = c.emit_word.new.b in
    let l = c.args.l in
    let p = c.args.p.now in
    let k = c.loop-a.a in
    let x = c.loop-a.invariant.extends in
    let y = c.in_ok-emit_word.ensures.extends in
    let s : step_signals b p ≡ step_signals a p = same_signals a b p c.requires.given.ports (but_keeps (own_map l) a b x) in
    let lt : k < l.depth = omega arith in
    record {
      extends = but_trans (own_map l) a b d x (reg_in_row l.map l.depth (map_at l k) b d (omega arith) (omega (arith, lt)) y);
      next =
          map_more b d l (step_signals a p) k lt
          (map_kept_but (own_map l) a b l l.depth c.requires.map x) c.loop-a.invariant.next y
          (c.in_ok-emit_word.ensures.next ∙ ap (λ (g : StepSignals). next_map l g k) s);
    }
