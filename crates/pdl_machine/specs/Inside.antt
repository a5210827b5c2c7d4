-- The fields of a machine.
use Rattle.std.specs.Prelude.{◌≡◌, ◌≤◌, ◌+◌, map, length}
use Rattle.pdl_form.specs.FormView.{form}
use Rattle.pdl_machine_pending.specs.Memory.{Memory}
use Rattle.pdl_machine_run.specs.View.{seats, request_view, order_views}
use Rattle.pdl_machine_facts.specs.Ports.{delayed_count}
use Rattle.pdl_machine_run.specs.Running.{IsRunnable}
use Rattle.pdl_machine_run.specs.Runs.{IsRunning}
use Rattle.pdl_machine.specs.declared.machine.Machine.TheInside.{Inside}
use Rattle.pdl_machine.specs.Running.{Running}

-- a machine as callers see it
abbrev pub running : Inside → Running
running m =
    record {
      pipe = m.accepted.now.typed.pipe;
      stages = seats m.run.stages.items;
      words = map (λ (x : Memory). x.words) m.run.beside.memories.items;
      locks = map (λ (x : Memory). x.pending) m.run.beside.memories.items;
      forks = order_views m.run.beside.orders.items;
      requests = map request_view m.run.beside.requests.items;
      next = m.run.next;
      cycles = m.cycles;
      shown = m.run.shown.items;
      waited = m.run.waited;
    }

-- its pipe can run, it is between two cycles, there is a reply for each delayed memory, and no more threads were called than cycles were run
pub record IsReady (m : Inside) : Type 0 where
  pub runnable : IsRunnable (form m.accepted.now.flat)
  pub runs : IsRunning (form m.accepted.now.flat) m.run
  pub replies : length m.replies.items ≡ delayed_count (form m.accepted.now.flat).pipe
  pub next : m.run.next ≤ m.cycles + 2
