use Rattle.std.proofs.Common.{◌≡◌, ◌++◌, map, drop}
use Rattle.std.specs.Prelude.{vec_len, vec_capacity}
use Rattle.pdl_machine_run.specs.View.{awaited_view, ask_view}
use Rattle.pdl_semantics.specs.Cycle as stated
use Rattle.pdl_machine_run.proofs.moves.await_asks.Given as goal

-- the reads so far are awaited
abbrev pub invariant-loop-ask : goal.invariant-loop-ask
invariant-loop-ask l =
    record {
      done : map awaited_view l.awaits.items ++ stated.awaited_of (map ask_view (drop l.ask-index l.asks)) ≡ stated.awaited_of (map ask_view l.asks);
      count : vec_len l.awaits ≡ l.ask-index;
      capacity : vec_capacity l.awaits ≡ vec_capacity l.initial.awaits;
    }
