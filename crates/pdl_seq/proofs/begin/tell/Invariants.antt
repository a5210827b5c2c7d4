use Rattle.std.proofs.Common.{◌≡◌, ◌+◌, ◌++◌, map, take}
use Rattle.std.specs.Prelude.{vec_len, vec_capacity}
use Rattle.pdl_seq.specs.Turns.{commits_view}
use Rattle.pdl_seq.specs.Runs.{numbered_write}
use Rattle.pdl_seq.proofs.begin.tell.Given as goal

-- those so far are told
abbrev pub invariant-loop-commit : goal.invariant-loop-commit
invariant-loop-commit l =
    record {
      writes : l.writes.items ≡ l.initial.writes.items ++ map (numbered_write l.thread) (commits_view (take l.commit-index l.commits));
      count : vec_len l.writes ≡ vec_len l.initial.writes + l.commit-index;
      capacity : vec_capacity l.writes ≡ vec_capacity l.initial.writes;
    }
