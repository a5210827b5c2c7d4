use Rattle.std.proofs.Common.{◌≡◌, ◌≤◌, ◌+◌, ◌-◌, ◌*◌, ◌++◌, drop, length}
use Rattle.std.specs.Prelude.{vec_len, vec_capacity}
use Rattle.pdl_form.specs.View.{mems_view}
use Rattle.pdl_machine_run.specs.Acts.{acts_of}
use Rattle.pdl_machine_run.specs.Requests.{requests_shown}
use Rattle.pdl_machine_run.proofs.requests.show_requests.Given as goal

-- the requests so far are shown
abbrev pub invariant-loop-m : goal.invariant-loop-m
invariant-loop-m l =
    record {
      shown : l.shown.items ++ requests_shown l.m (acts_of 0 l.stages) (mems_view (drop l.m l.mems))
          ≡ l.initial.shown.items ++ requests_shown 0 (acts_of 0 l.stages) (mems_view l.mems);
      room : vec_len l.shown + 2 * (length l.mems - l.m) ≤ vec_capacity l.shown;
      capacity : vec_capacity l.shown ≡ vec_capacity l.initial.shown;
    }
