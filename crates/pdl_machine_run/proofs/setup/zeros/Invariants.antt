use Rattle.std.proofs.Common.{◌≡◌, ◌≤◌, ◌-◌, replicate}
use Rattle.std.specs.Prelude.{vec_len, vec_capacity}
use Rattle.pdl_machine_run.proofs.setup.zeros.Given as goal

-- those so far are zeros
abbrev pub invariant-loop-words : goal.invariant-loop-words
invariant-loop-words l =
    record {
      zeros : l.words.items ≡ replicate (vec_len l.words) 0;
      few : vec_len l.words ≤ l.count;
      room : l.room ≤ vec_capacity l.words;
    }

abbrev pub decreases-loop-words : goal.decreases-loop-words
decreases-loop-words l = l.count - vec_len l.words
