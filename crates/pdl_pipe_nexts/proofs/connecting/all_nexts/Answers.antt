use Rattle.std.proofs.Common.{◌+◌, ◌∷◌, [], length, sym, ap, ◌∙◌, subst, arith}
use Rattle.std.proofs.lemmas.List.{length-append}
use Rattle.pdl_net.proofs.Keeps.{extends_keeps, extends_trans}
use Rattle.pdl_pipe_nexts.proofs.LineGrowth.{line_keep}
use Rattle.pdl_pipe_nexts.proofs.ConnectedRegisters.{FirstNexts, first_more, nexts_as}
use Rattle.pdl_pipe_nexts.proofs.connecting.all_nexts.Goals as goal

pub stage_nexts-requires-clause-line : goal.stage_nexts-requires-clause-line
stage_nexts-requires-clause-line c =
    line_keep c.args.b.now c.loop-k.b c.args.line.now (extends_keeps c.args.b.now c.loop-k.b c.loop-k.invariant.0) c.requires.line

pub loop-k-preserved : goal.loop-k-preserved
loop-k-preserved c =
    let a = c.args.b.now in
    let b = c.loop-k.b in
    let d = c.stage_nexts.new.b in
    let x = c.args.line.now in
    let xs = c.loop-k.nexts.items in
    let k = c.loop-k.k in
    let new = c.in_ok-nets.nets in
    let e = extends_keeps a b c.loop-k.invariant.0 in
    let count = c.loop-k.invariant.2 in
    let t = c.loop-k-test.true in
    let more = first_more a b d x xs new k (sym count) (extends_keeps b d c.stage_nexts.ensures.extends) c.loop-k.invariant.3
    (λ s is. nexts_as a b d x k s new e c.requires.line (c.requires.line.stages k s (omega (arith, t)) is) (c.in_ok-nets.ensures.nexts s is)) in
    let pushed = c.in_ok-push.ensures.items in (
      extends_trans a b d c.loop-k.invariant.0 c.stage_nexts.ensures.extends,
      c.stage_nexts.ensures.regs ∙ c.loop-k.invariant.1,
      ap length pushed ∙ length-append xs (new ∷ []) ∙ ap (λ n. n + 1) count,
      subst (λ ys. FirstNexts a d x ys (k + 1)) (sym pushed) more,
    )

pub returns-clause-nexts : goal.returns-clause-nexts
returns-clause-nexts c =
    let t = c.loop-k-test.false in
    let h = c.loop-k.auto.k-end in
    let n = c.loop-k.invariant.2 in
    record { count = omega (arith, t, h, n); each = λ k s nets l is at. c.loop-k.invariant.3 k s nets (omega (arith, l, n)) is at }
