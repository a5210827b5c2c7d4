use Rattle.std.proofs.Common.{◌≡◌, map, drop}
use Rattle.pdl_machine_run.specs.View.{ask_view, request_view}
use Rattle.pdl_semantics.specs.Cycle as stated
use Rattle.pdl_machine_run.proofs.requests.asked_of.Given as goal

-- the reads left decide
abbrev pub invariant-loop-ask : goal.invariant-loop-ask
invariant-loop-ask l =
    stated.asked_of l.m l.thread (map ask_view (drop l.ask-index l.asks)) (request_view l.old)
    ≡ stated.asked_of l.m l.thread (map ask_view l.asks) (request_view l.old)
