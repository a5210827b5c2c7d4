use Rattle.std.proofs.Common.{◌∙◌, ◌++◌, ap, ℕ, Option, if◌then◌else◌, [], arith}
use Rattle.pdl_machine_run.specs.Acts.{acts_of}
use Rattle.pdl_machine_facts.specs.Ports.{request_values}
use Rattle.pdl_machine_run.specs.Requests.{requests_shown}
use Rattle.pdl_semantics.specs.Flat.{is_delayed}
use Rattle.pdl_form.specs.View.{mem_view, mems_view}
use Rattle.pdl_machine_run.proofs.PortValues.{requests_more}
use Rattle.pdl_machine_run.proofs.requests.show_requests.Goals as goal

pub loop-m-preserved : goal.loop-m-preserved
loop-m-preserved c =
    let x = c.index-mems-m.result in
    let ms = acts_of 0 c.args.stages.now in
    let mems = c.args.mems.now in
    record {
      shown =
          requests_more mems c.loop-m.m x ms c.show_request.new.shown.items c.loop-m.shown.items
          (c.args.shown.now.items ++ requests_shown 0 ms (mems_view mems)) c.loop-m-test.true c.index-mems-m.is
          (c.show_request.ensures.shown
          ∙ ap (λ (o : Option ℕ). c.loop-m.shown.items ++ (if is_delayed (mem_view x).kind then request_values o else [])) c.address_asked.ensures)
          c.loop-m.invariant.shown;
      room = omega arith;
      capacity = c.show_request.ensures.capacity ∙ c.loop-m.invariant.capacity;
    }
