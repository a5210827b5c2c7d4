-- The state of a machine, of which the program keeps the threads by their stages, and what stands beside the stages.
use Rattle.std.specs.Prelude.{ℕ, List, [], map, Option}
use Rattle.pdl_semantics.specs.Flat.{Arrays, arrays_of}
use Rattle.pdl_semantics.specs.Machine.{Thread, State}
use Rattle.pdl_machine_pending.specs.Memory.{Memory}
use Rattle.pdl_machine_run.specs.declared.beside.Beside as r_beside
use Rattle.pdl_machine_run.specs.View.{request_view, order_views}

-- the words of these memories
abbrev pub arrays_in : List Memory → Arrays
arrays_in xs = arrays_of (map (λ (x : Memory). x.words) xs)

-- the state in which these threads stand in the stages, and this beside them, where the next thread has this number
abbrev pub state_of : List (Option Thread) → r_beside.Beside → ℕ → State
state_of os b next =
    record {
      stages = os;
      arrays = arrays_in b.memories.items;
      locks = map (λ (x : Memory). x.pending) b.memories.items;
      forks = order_views b.orders.items;
      requests = map request_view b.requests.items;
      next = next;
    }

-- of which only what stands beside the stages counts
abbrev pub outside : r_beside.Beside → State
outside b = state_of [] b 0
