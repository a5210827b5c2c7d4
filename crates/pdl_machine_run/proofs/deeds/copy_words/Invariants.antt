use Rattle.std.proofs.Common.{◌≡◌, ◌++◌, drop}
use Rattle.std.specs.Prelude.{vec_len, vec_capacity}
use Rattle.pdl_machine_run.proofs.deeds.copy_words.Given as goal

-- the words so far are copied
abbrev pub invariant-loop-word : goal.invariant-loop-word
invariant-loop-word l =
    record {
      copied : l.to.items ++ drop l.word-index l.from ≡ l.from;
      count : vec_len l.to ≡ l.word-index;
      capacity : vec_capacity l.to ≡ vec_capacity l.initial.to;
    }
