use Rattle.std.proofs.Common.{◌≡◌, ◌+◌, ◌∙◌, ◌++◌, ◌∷◌, [], ℕ, ◌<◌, length, sym, ap, subst, arith}
use Rattle.std.proofs.lemmas.List.{length-append}
use Rattle.pdl_net.specs.Meaning.{signal}
use Rattle.pdl_net.proofs.Keeps.{extends_keeps, extends_trans}
use Rattle.pdl_pipe_exprs.specs.Nets.{NetsThere, signals_in, signal_at}
use Rattle.pdl_pipe_exprs.proofs.NetLists.{net_more, there_keeps, signals_keep}
use Rattle.pdl_pipe_nexts.proofs.pipe_registers.Lists.{up_to}
use Rattle.pdl_pipe_nexts.proofs.pipe_registers.Begins.{signal_old, signal_new}
use Rattle.pdl_pipe_nexts.proofs.LineGrowth.{line_keep}
use Rattle.pdl_pipe_tails.specs.Reserved.{IsAfterAll}
use Rattle.pdl_pipe_tails.proofs.Rows.{after_from}
use Rattle.pdl_pipe_tails.proofs.reserved.next_after.Goals as goal

pub after_all-requires-clause-line : goal.after_all-requires-clause-line
after_all-requires-clause-line c =
    line_keep c.args.b.now c.loop-m.b c.args.line.now (extends_keeps c.args.b.now c.loop-m.b c.loop-m.invariant.extends) c.requires.line

pub loop-m-preserved : goal.loop-m-preserved
loop-m-preserved c =
    let a = c.args.b.now in
    let b = c.loop-m.b in
    let d = c.after_all.new.b in
    let x = c.args.line.now in
    let m = c.loop-m.m in
    let xs = c.loop-m.nets in
    let new = c.in_ok-net.net in
    let v = c.loop-m.invariant in
    let bd = extends_keeps b d c.after_all.ensures.extends in
    let pushed = c.in_ok-push.ensures.ok in
    let n = v.count in
    let old : (i : ℕ) → i < length xs → signal_at (signals_in d (xs ++ new ∷ [])) i ≡ signal_at (signals_in b xs) i =
    λ i l. signal_old d xs new i l ∙ ap (λ fs. signal_at fs i) (signals_keep b d xs bd v.there) in
    record {
      there = subst (NetsThere d) (sym pushed) (net_more d xs new (there_keeps b d xs bd v.there) c.in_ok-net.ensures.there);
      count = ap length pushed ∙ length-append xs (new ∷ []) ∙ ap (λ i. i + 1) n;
      after = subst (λ ys. (i : ℕ) → i < m + 1 → IsAfterAll a x i (signal_at (signals_in d ys) i)) (sym pushed)
          (up_to (λ i. IsAfterAll a x i (signal_at (signals_in d (xs ++ new ∷ [])) i)) m
          (λ i l. subst (IsAfterAll a x i) (sym (old i (omega (arith, l, n)))) (v.after i l))
          (subst (IsAfterAll a x m) (sym (signal_new d xs new m (sym n)))
          (after_from a b x m (signal d new) (extends_keeps a b v.extends) c.requires.line c.in_ok-net.ensures.after)));
      extends = extends_trans a b d v.extends c.after_all.ensures.extends;
      regs = c.after_all.ensures.regs ∙ v.regs;
    }

pub returns-clause-after : goal.returns-clause-after
returns-clause-after c =
    let t = c.loop-m-test.false in
    let h = c.loop-m.auto.m-end in
    let n = c.loop-m.invariant.count in
    let e = c.len-m-end.ensures in
    record {
      there = c.loop-m.invariant.there;
      count = omega (arith, t, h, n, e);
      after = λ m l. c.loop-m.invariant.after m (omega (arith, l, n));
    }
