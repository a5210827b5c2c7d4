use Rattle.std.proofs.Common.{◌∙◌, sym, ap, ℕ, List, Some}
use Rattle.pdl_semantics.specs.Cycle.{born_thread}
use Rattle.pdl_form.specs.FormView.{form}
use Rattle.pdl_machine_run.proofs.setup.first_stage.Goals as goal

pub returns-clause-stands : goal.returns-clause-stands
returns-clause-stands c =
    let p = (form c.args.pipe.now).pipe in
    c.begin.ensures.thread p (sym c.in_ok-first.ensures.wide.slot.count) ∙ ap (λ (args : List ℕ). born_thread p 1 (Some args)) c.start.ensures

pub returns-clause-wide : goal.returns-clause-wide
returns-clause-wide c =
    let wide = c.in_ok-first.ensures.wide in
    record { slot = c.begin.ensures.wide (form c.args.pipe.now) wide.slot; count = wide.count; deeds = wide.deeds }
