use Rattle.std.proofs.Common.{◌≡◌, ◌≤◌, ◌-◌, map, replicate}
use Rattle.std.specs.Prelude.{vec_len}
use Rattle.pdl_machine_run.specs.View.{request_view}
use Rattle.pdl_semantics.specs.Machine as machine
use Rattle.pdl_machine_run.proofs.setup.no_requests.Given as goal

-- there is none so far
abbrev pub invariant-loop-requests : goal.invariant-loop-requests
invariant-loop-requests l =
    record {
      none : map request_view l.requests.items ≡ replicate (vec_len l.requests) machine.NoRequest;
      few : vec_len l.requests ≤ l.count;
    }

abbrev pub decreases-loop-requests : goal.decreases-loop-requests
decreases-loop-requests l = l.count - vec_len l.requests
