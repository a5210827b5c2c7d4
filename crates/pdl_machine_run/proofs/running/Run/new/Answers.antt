use Rattle.std.proofs.Common.{[], ap, ◌∙◌, ℕ, List, length, arith}
use Rattle.std.proofs.lemmas.List.{length-replicate, length-map}
use Rattle.pdl_semantics.specs.Flat.{arrays_of}
use Rattle.pdl_form.specs.FormView.{form}
use Rattle.pdl_form.specs.View.{stage_view, mem_view}
use Rattle.pdl_machine_run.proofs.FirstState.{first_is, first_ready, first_beside}
use Rattle.pdl_machine_run.proofs.running.Run.new.Goals as goal

pub returns-clause-first : goal.returns-clause-first
returns-clause-first c =
    first_is (form c.args.pipe.now) c.requires.run c.args.image.now c.requires.image c.in_ok-beside.beside c.in_ok-beside.ensures _ c.in_ok-stages.ensures.seats

pub returns-clause-runs : goal.returns-clause-runs
returns-clause-runs c =
    let f = form c.args.pipe.now in
    let b = c.in_ok-beside.beside in
    let begun = c.in_ok-stages.ensures in
    let ready = first_ready f c.requires.run c.args.image.now c.requires.image b c.in_ok-beside.ensures c.in_ok-stages.stages.items begun.seats begun.wide in
    let first = first_is f c.requires.run c.args.image.now c.requires.image b c.in_ok-beside.ensures _ begun.seats in
    let shown = c.in_ok-shown.ensures in
    let mems = c.in_ok-beside.ensures.count in
    let stage_count = ap length c.stages.ensures in
    let stages_map = length-map c.stages.result.now stage_view in
    let mem_count = ap length c.mems.ensures.mems in
    let mems_map = length-map c.mems.result.now mem_view in
    record {
      ready = ready;
      ahead = c.in_ok-way.ensures.wide;
      beside = first_beside f c.requires.run c.args.image.now c.requires.image b c.in_ok-beside.ensures;
      reached = (arrays_of c.args.image.now, [], first);
      room = omega (arith, shown.room, mems, ready.count, stage_count, stages_map, mem_count, mems_map);
      outputs = ap (λ (vs : List ℕ). length vs) shown.items ∙ length-replicate _ 0 ∙ c.outputs-count.ensures;
    }
