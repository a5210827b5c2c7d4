use Rattle.std.proofs.Common.{◌≡◌, arith}
use Rattle.pdl_lockapi.specs.Laws.{step_signals}
use Rattle.pdl_net.proofs.Keeps.{extends_keeps}
use Rattle.pdl_lockapi.proofs.LockGrowth.{same_signals}
use Rattle.pdl_lock_ring.proofs.RingGrowth.{ports_kept}
use Rattle.pdl_lock_ring.proofs.Fills.{filling}
use Rattle.pdl_lock_ring.proofs.fill.emit_value.Goals as goal

pub emit_put-requires-clause-given : goal.emit_put-requires-clause-given
emit_put-requires-clause-given c = ports_kept c.args.b.now c.loop-j.b c.args.l c.args.p.now c.requires.given c.loop-j.invariant.extends

pub loop-j-preserved : goal.loop-j-preserved
loop-j-preserved c =
    let e : step_signals c.loop-j.b c.args.p.now ≡ step_signals c.args.b.now c.args.p.now =
    same_signals c.args.b.now c.loop-j.b c.args.p.now c.requires.given.ports (extends_keeps c.args.b.now c.loop-j.b c.loop-j.invariant.extends) in
    record {
      extends = grind arith;
      value_width = grind arith;
      value = grind (arith, filling);
    }
