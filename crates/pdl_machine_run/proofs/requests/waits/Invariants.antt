use Rattle.std.proofs.Common.{◌≡◌, map, drop}
use Rattle.pdl_form.specs.FormView.{form}
use Rattle.pdl_machine_run.specs.View.{request_view}
use Rattle.pdl_semantics.specs.Cycle as stated
use Rattle.pdl_machine_run.proofs.requests.waits.Given as goal

-- the requests left decide
abbrev pub invariant-loop-m : goal.invariant-loop-m
invariant-loop-m l =
    stated.waits_from (form l.pipe).pipe l.replies l.m (map request_view (drop l.m l.requests))
    ≡ stated.waits_from (form l.pipe).pipe l.replies 0 (map request_view l.requests)
