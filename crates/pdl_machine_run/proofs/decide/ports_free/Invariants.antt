use Rattle.std.proofs.Common.{◌≡◌, map, drop}
use Rattle.pdl_form.specs.FormView.{form}
use Rattle.pdl_machine_run.specs.View.{ask_view}
use Rattle.pdl_machine_run.specs.Outside.{outside}
use Rattle.pdl_machine_run.specs.Acts.{all_of}
use Rattle.pdl_semantics.specs.Flat.{list_all}
use Rattle.pdl_semantics.specs.Machine as machine
use Rattle.pdl_semantics.specs.Moves as moves
use Rattle.pdl_machine_run.proofs.decide.ports_free.Given as goal

-- the delayed reads left decide
abbrev pub invariant-loop-ask : goal.invariant-loop-ask
invariant-loop-ask l =
    list_all
    (λ (q : machine.Ask). moves.is_free (machine.request_of (outside l.beside) q.mem)
    (machine.is_answered (form l.pipe).pipe l.replies q.mem) (all_of l.first (drop l.first l.stages)))
    (map ask_view (drop l.ask-index l.asks))
    ≡ list_all
    (λ (q : machine.Ask). moves.is_free (machine.request_of (outside l.beside) q.mem)
    (machine.is_answered (form l.pipe).pipe l.replies q.mem) (all_of l.first (drop l.first l.stages)))
    (map ask_view (l.asks))
