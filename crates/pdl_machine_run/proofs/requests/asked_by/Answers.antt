use Rattle.std.proofs.Common.{◌≡◌, ◌<◌, ◌+◌, ◌-◌, ◌∙◌, ap, drop, length, arith}
use Rattle.pdl_semantics.specs.Cycle.{asked_by}
use Rattle.pdl_machine_run.specs.View.{request_view}
use Rattle.pdl_machine_run.specs.Acts.{acts_of}
use Rattle.pdl_machine_run.proofs.ActLists.{asked_here}
use Rattle.pdl_machine_run.proofs.requests.asked_by.Goals as goal

pub loop-k-preserved : goal.loop-k-preserved
loop-k-preserved c =
    let m = c.args.m in
    let xs = c.args.stages.now in
    let old = request_view c.args.old in
    let j = c.loop-k.k - 1 in
    let here : j < length xs = omega arith in
    let next : c.loop-k.k ≡ j + 1 = omega arith in
    let done = c.loop-k.invariant.done ∙ ap (λ i. asked_by m (acts_of i (drop i xs)) old) next in
    record {
      small = omega arith;
      done =
          asked_here m j xs c.index-stages-k.result old (request_view c.loop-k.request) (request_view c.asked_in_stage-request.result) here
          c.index-stages-k.is done (c.asked_in_stage-request.ensures j);
    }
