use Rattle.std.proofs.Common.{◌≡◌, ◌≤◌, ◌-◌, None, replicate}
use Rattle.std.specs.Prelude.{vec_len}
use Rattle.pdl_locks.proofs.turns.none_reserved.Given as goal

-- there is none so far
abbrev pub invariant-loop-first : goal.invariant-loop-first
invariant-loop-first l =
    record {
      none : l.first.items ≡ replicate (vec_len l.first) None;
      few : vec_len l.first ≤ l.count;
    }

abbrev pub decreases-loop-first : goal.decreases-loop-first
decreases-loop-first l = l.count - vec_len l.first
