use Rattle.std.proofs.Common.{◌+◌, sym, ap, ◌∙◌}
use Rattle.pdl_net.specs.Signal.{Signal}
use Rattle.pdl_net.proofs.Keeps.{but_keeps}
use Rattle.pdl_pipe_exprs.specs.Nets.{signal_at}
use Rattle.pdl_pipe_exprs.proofs.NetLists.{there_keeps, signals_keep}
use Rattle.pdl_pipe_registers.specs.Stages.{end_of}
use Rattle.pdl_pipe_nexts.specs.Nexts.{regs_of}
use Rattle.pdl_pipe_nexts.proofs.ConnectedRegisters.{has_low, set_more, net_there, net_is}
use Rattle.pdl_pipe_nexts.proofs.connecting.set_stage.Goals as goal

pub next-requires-clause-has : goal.next-requires-clause-has
next-requires-clause-has c =
    let a = c.args.b.now in
    let b = c.loop-i.b in
    let s = c.args.s.now in
    let e = but_keeps (regs_of s.regs.valid (end_of s.regs)) a b c.loop-i.invariant.extends in
    let r = s.regs.valid + c.loop-i.i in
    e.has_reg r (has_low a r (c.requires.fits c.loop-i.i c.loop-i-test.true).0)

pub next-requires-clause-net : goal.next-requires-clause-net
next-requires-clause-net c =
    let a = c.args.b.now in
    let b = c.loop-i.b in
    let s = c.args.s.now in
    let i = c.loop-i.i in
    let nets = c.args.nets.now in
    let r = s.regs.valid + i in
    let e = but_keeps (regs_of s.regs.valid (end_of s.regs)) a b c.loop-i.invariant.extends in
    let fit = c.requires.fits i c.loop-i-test.true in
    record {
      there = net_there b nets i c.net_at.result c.loop-i-test.true c.net_at.ensures (there_keeps a b nets e c.requires.there);
      width =
          ap (λ (g : Signal). g.width)
          (net_is b nets i c.net_at.result c.loop-i-test.true c.net_at.ensures ∙ ap (λ fs. signal_at fs i) (signals_keep a b nets e c.requires.there))
          ∙ fit.1 ∙ sym (e.width r (has_low a r fit.0));
    }

pub loop-i-preserved : goal.loop-i-preserved
loop-i-preserved c =
    set_more c.args.b.now c.loop-i.b c.next.new.self c.args.s.now c.args.nets.now c.loop-i.i c.net_at.result c.loop-i-test.true c.requires.count c.requires.there c.requires.fits
    (net_is c.loop-i.b c.args.nets.now c.loop-i.i c.net_at.result c.loop-i-test.true c.net_at.ensures) c.next.ensures.set c.next.ensures.extends c.loop-i.invariant
