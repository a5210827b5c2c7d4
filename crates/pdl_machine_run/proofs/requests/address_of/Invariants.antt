use Rattle.std.proofs.Common.{◌≡◌, map, drop}
use Rattle.pdl_machine_run.specs.View.{ask_view}
use Rattle.pdl_semantics.specs.Cycle as stated
use Rattle.pdl_machine_run.proofs.requests.address_of.Given as goal

-- the reads left decide
abbrev pub invariant-loop-ask : goal.invariant-loop-ask
invariant-loop-ask l = stated.address_of l.m (map ask_view (drop l.ask-index l.asks)) l.rest ≡ stated.address_of l.m (map ask_view l.asks) l.rest
