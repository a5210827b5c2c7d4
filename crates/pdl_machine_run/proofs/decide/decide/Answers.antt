use Rattle.std.proofs.Common.{◌≡◌, ◌<◌, ◌+◌, ◌-◌, ◌∙◌, refl, length, get_or, arith}
use Rattle.std.proofs.lemmas.List.{length-set}
use Rattle.pdl_form.specs.FormView.{form}
use Rattle.pdl_machine_run.specs.declared.stage.Stage as r_stage
use Rattle.pdl_machine_run.proofs.StageMoves.{map_set}
use Rattle.pdl_machine_run.proofs.Movers.{decided_more}
use Rattle.pdl_machine_run.proofs.decide.decide.Goals as goal

pub loop-k-preserved : goal.loop-k-preserved
loop-k-preserved c =
    let now = c.loop-k.stages in
    let j = c.loop-k.k - 1 in
    let d = c.index-stages-k.result in
    let m = c.may_move-moves.result in
    let y : r_stage.Stage = record (get_or now j d) { moves = m } in
    let less : j < length now = omega arith in
    let next : c.loop-k.k ≡ j + 1 = omega arith in
    let long = length-set now j y in
    record {
      small = omega arith;
      count = long ∙ c.loop-k.invariant.count;
      done =
          decided_more (form c.args.pipe.now).pipe c.args.beside.now c.args.replies.now now j c.loop-k.k m d less next
          (c.may_move-moves.ensures d) c.loop-k.invariant.done;
      slots = map_set (λ (x : r_stage.Stage). x.slot) now j y d less refl ∙ c.loop-k.invariant.slots;
      deeds = map_set (λ (x : r_stage.Stage). x.deeds) now j y d less refl ∙ c.loop-k.invariant.deeds;
    }
