use Rattle.std.proofs.Common.{◌≡◌, ◌∙◌, ◌+◌, ◌<◌, arith, ap, sym, subst, ℕ, List, length, get_or, drop}
use Rattle.std.specs.Prelude.{slice_set}
use Rattle.std.proofs.lemmas.Grind.{common_steps}
use Rattle.std.proofs.lemmas.List.{length-set}
use Rattle.pdl_word.specs.Words.{widest}
use Rattle.pdl_netrun.specs.RunKinds.{kind_in}
use Rattle.pdl_netrun.specs.Steps.{StepsFit, steps_with, after_kind, after_steps, array_words}
use Rattle.pdl_netrun.proofs.Steps.{cells_fit, cells_more, given}
use Rattle.pdl_netrun.proofs.wide_walk.walk_run.Goals as goal

pub loop-k-preserved : goal.loop-k-preserved
loop-k-preserved c =
    let run = c.args.run.now in
    let kind = kind_in run.kind in
    let os = run.operands.items in
    let first = c.args.first in
    let k = c.loop-k.k in
    let o = c.index.result.now in
    let vs = c.loop-k.values in
    let ws = array_words c.args.arrays.now in
    let i = c.loop-k.invariant in
    let l : k < length os = (let t = c.loop-k-test.true in let n = c.len-k-end.ensures in grind (arith, common_steps, t, n)) in
    let same : o ≡ get_or os k o = (let e = c.index.ensures in grind (arith, common_steps, e)) in
    let e : slice_set vs (first + k) c.value.result ≡ after_kind kind o (first + k) vs ws =
    ap (slice_set vs (first + k)) c.value.ensures
    ∙ sym (given run.kind o (first + k) vs ws (sym c.is_constant.ensures ∙ c.if-is_constant.false)) in
    record {
      rest =
          ap (λ (x : List ℕ). after_steps (steps_with kind (drop (k + 1) os)) (first + (k + 1)) x ws) e
          ∙ cells_more kind os first k o vs ws l same ∙ i.rest;
      fit =
          subst (λ (x : List ℕ). StepsFit widest (steps_with kind (drop (k + 1) os)) (first + (k + 1)) x ws) (sym e)
          (cells_fit widest kind os first k o vs ws l same i.fit).1;
      count = length-set vs (first + k) c.value.result ∙ i.count;
    }
