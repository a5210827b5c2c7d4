use Rattle.std.proofs.Common.{◌≡◌, ◌≤◌, ◌<◌, ◌+◌, ◌-◌, ◌∙◌, ap, ℕ, length, drop, get_or, arith}
use Rattle.pdl_semantics.specs.Cycle.{next_thread}
use Rattle.pdl_form.specs.FormView.{form}
use Rattle.pdl_machine_run.specs.declared.stage.Stage as r_stage
use Rattle.pdl_machine_run.specs.View.{thread_in}
use Rattle.pdl_machine_run.specs.Acts.{all_of}
use Rattle.pdl_machine_run.proofs.StageMoves.{moved}
use Rattle.pdl_machine_run.proofs.moves.move_on.Goals as goal

pub loop-k-preserved : goal.loop-k-preserved
loop-k-preserved c =
    let p = (form c.args.pipe.now).pipe in
    let init = c.args.stages.now in
    let now = c.loop-k.stages in
    let new = c.pass.new.stages in
    let j = c.loop-k.k - 1 in
    let next : c.loop-k.k ≡ j + 1 = omega arith in
    let long = c.loop-k.invariant.count in
    let same = c.pass.auto.stages in
    let less : j < length init = omega arith in
    let done : (q : ℕ) (d : r_stage.Stage) → j + 1 ≤ q → q < length now
    → thread_in (get_or now q d).slot ≡ next_thread p q (all_of (j + 1) (drop (j + 1) init)) =
    λ q d low high. c.loop-k.invariant.done q d (omega (arith, low, next)) high ∙ ap (λ i. next_thread p q (all_of i (drop i init))) next in
    let left : (i : ℕ) (d : r_stage.Stage) → i < j + 1 → get_or now i d ≡ get_or init i d = λ i d low. c.loop-k.invariant.left i d (omega (arith, low, next)) in
    record {
      small = omega arith;
      count = omega arith;
      done =
          λ q d low high. moved p c.requires.leads j init now new less c.requires.count long left done c.pass.ensures.there c.pass.ensures.here q d low
          (omega (arith, high, same));
      left = λ q d low. c.pass.ensures.before q d low ∙ left q d (omega (arith, low));
      wide = λ f h. c.pass.ensures.wide f (c.loop-k.invariant.wide f h);
    }
