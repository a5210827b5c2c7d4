use Rattle.std.proofs.Common.{◌<◌, length, sym, ap, ◌∙◌, subst, arith}
use Rattle.pdl_net.proofs.Keeps.{but_keeps}
use Rattle.pdl_pipe_exprs.specs.Nets.{signals_in}
use Rattle.pdl_pipe_registers.specs.Stages.{end_of}
use Rattle.pdl_pipe_registers.proofs.Begins.{next_keep}
use Rattle.pdl_pipe_nexts.specs.Lines.{line_form}
use Rattle.pdl_pipe_nexts.specs.Nexts.{regs_of, FitsRegs, AreSet}
use Rattle.pdl_pipe_nexts.proofs.LineGrowth.{line_keep}
use Rattle.pdl_pipe_nexts.proofs.ConnectedRegisters.{all_keep, fits_regs, takes_now, connected_more}
use Rattle.pdl_pipe_nexts.proofs.connecting.set_stages.Goals as goal

pub set_stage-requires-clause-count : goal.set_stage-requires-clause-count
set_stage-requires-clause-count c =
    let k = c.loop-k.k in
    let s = c.stage_of.result.now in
    let t = c.loop-k-test.true in
    let n = c.len-k-end.ensures in
    let h = c.loop-k.invariant.1.each k s c.index.result.now (omega (arith, t, n)) (sym c.stage_of.ensures) (sym c.index.ensures) in
    ap length c.as_slice.ensures ∙ h.count

pub set_stage-requires-clause-fits : goal.set_stage-requires-clause-fits
set_stage-requires-clause-fits c =
    let a = c.args.b.now in
    let b = c.loop-k.b in
    let x = c.args.line.now in
    let k = c.loop-k.k in
    let s = c.stage_of.result.now in
    let t = c.loop-k-test.true in
    let n = c.len-k-end.ensures in
    let count = c.loop-k.invariant.1.count in
    let e = but_keeps (regs_of 0 (length a.regs)) a b (c.loop-k.invariant.0.extends 0 c.requires.apart) in
    let line = line_keep a b x e c.requires.line in
    let h = c.loop-k.invariant.1.each k s c.index.result.now (omega (arith, t, n)) (sym c.stage_of.ensures) (sym c.index.ensures) in
    subst (FitsRegs b s) (sym c.as_slice.ensures)
    (fits_regs a b x k s c.index.result.now (signals_in b x.shared.now.next)
    (next_keep a b (line_form x) x.shared.now e c.requires.line.shared)
    (line.stages k s (omega (arith, t, n, count)) (sym c.stage_of.ensures)) h)

pub loop-k-preserved : goal.loop-k-preserved
loop-k-preserved c =
    let a = c.args.b.now in
    let b = c.loop-k.b in
    let d = c.set_stage.new.b in
    let x = c.args.line.now in
    let k = c.loop-k.k in
    let s = c.stage_of.result.now in
    let t = c.loop-k-test.true in
    let n = c.len-k-end.ensures in
    let count = c.loop-k.invariant.1.count in
    let low : k < length x.stages.now = omega (arith, t, n, count) in
    let e = but_keeps (regs_of 0 (length a.regs)) a b (c.loop-k.invariant.0.extends 0 c.requires.apart) in
    let line = line_keep a b x e c.requires.line in
    let nets = c.index.result.now in
    let h = c.loop-k.invariant.1.each k s nets (omega (arith, t, n)) (sym c.stage_of.ensures) (sym c.index.ensures) in
    let set = subst (AreSet b d s) c.as_slice.ensures c.set_stage.ensures.set in (
      connected_more a b d x k s (signals_in b x.shared.now.next) low
          (sym c.stage_of.ensures) c.requires.apart line.stages c.set_stage.ensures.extends
          (takes_now a b d x k s nets h set) c.loop-k.invariant.0,
      all_keep a b d x c.in_ok-nexts.nexts.items (but_keeps (regs_of s.regs.valid (end_of s.regs)) b d c.set_stage.ensures.extends) c.loop-k.invariant.1,
    )
