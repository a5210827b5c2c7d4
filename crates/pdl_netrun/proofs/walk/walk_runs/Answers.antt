use Rattle.std.proofs.Common.{◌≡◌, ◌<◌, arith, refl, ◌∙◌, subst, sym, ap, List, ℕ, ◌+◌, ◌-◌, take, drop, length}
use Rattle.std.proofs.lemmas.Grind.{common_steps}
use Rattle.pdl_netrun.specs.declared.walk.CellRun.{CellRun}
use Rattle.pdl_netrun.specs.RunKinds.{kind_in}
use Rattle.pdl_netrun.specs.Steps.{StepsFit, steps_with, steps_of, after_steps, array_words}
use Rattle.pdl_netrun.proofs.Steps.{left_runs, run_fits, run_rest, run_length, after_length}
use Rattle.pdl_netrun.proofs.walk.walk_runs.Goals as goal

pub walk_run-requires-clause-fit : goal.walk_run-requires-clause-fit
walk_run-requires-clause-fit c =
    let t = c.loop-left-test.true in
    let s = c.is_empty.ensures in
    let some : 0 < length c.loop-left.left.now = grind (arith, common_steps, t, s) in
    (run_fits 64 c.loop-left.left.now 0 _ c.loop-left.at c.index-left-0.result c.loop-left.values
    (array_words c.args.arrays.now) some c.index-left-0.is refl c.loop-left.invariant.fit).0

pub loop-left-preserved : goal.loop-left-preserved
loop-left-preserved c =
    let t = c.loop-left-test.true in
    let s = c.is_empty.ensures in
    let left = c.loop-left.left.now in
    let some : 0 < length left = grind (arith, common_steps, t, s) in
    let r = c.index-left-0.result in
    let vs = c.loop-left.values in
    let ws = array_words c.args.arrays.now in
    let size = length c.as_slice.result.now in
    let n = ap length c.as_slice.ensures.value in
    let f = run_fits 64 left 0 size c.loop-left.at r vs ws some c.index-left-0.is n c.loop-left.invariant.fit in
    let m = run_length left 0 r some c.index-left-0.is in
    let e = c.walk_run.ensures in
    let k : take (length left - 1) (drop 1 left) ≡ drop 1 left = left_runs left 1 in
    let steps = ap (λ (l : List CellRun). length (steps_of l)) k in
    record {
      room = omega (arith, m, n, steps, c.loop-left.invariant.room);
      rest =
          ap (λ (l : List CellRun). after_steps (steps_of l) (c.loop-left.at + size) c.walk_run.new.values ws) k
          ∙ ap (λ x. after_steps (steps_of (drop 1 left)) (c.loop-left.at + size) x ws) e
          ∙ run_rest left 0 size c.loop-left.at r vs ws some c.index-left-0.is n
          ∙ c.loop-left.invariant.rest;
      fit =
          subst (λ (l : List CellRun). StepsFit 64 (steps_of l) (c.loop-left.at + size) c.walk_run.new.values ws) (sym k)
          (subst (λ (x : List ℕ). StepsFit 64 (steps_of (drop 1 left)) (c.loop-left.at + size) x ws) (sym e) f.1);
      count = ap length e ∙ after_length (steps_with (kind_in r.kind) r.operands.items) c.loop-left.at vs ws ∙ c.loop-left.invariant.count;
    }
