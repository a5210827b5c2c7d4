use Rattle.std.proofs.Common.{◌≡◌, ◌≤◌, ◌+◌, ◌-◌, ◌*◌, ◌++◌, ◌||◌, drop, vec_len, vec_capacity}
use Rattle.pdl_net.specs.Run.{answers, some_waits}
use Rattle.pdl_netrun.specs.Outside.{stores_of}
use Rattle.pdl_netrun.proofs.outside.answer_all.Given as goal

abbrev pub invariant-loop-memory : goal.invariant-loop-memory
invariant-loop-memory l = record {
  room : vec_len l.inputs + 2 * (l.memory-index-end - l.memory-index) ≤ vec_capacity l.inputs;
  capacity : vec_capacity l.inputs ≡ vec_capacity l.initial.inputs;
  inputs : answers (stores_of l.memories) l.replies ≡ l.inputs.items ++ answers (stores_of (drop l.memory-index l.memories)) l.bits;
  waits : some_waits (stores_of l.memories) l.replies ≡ (l.waiting || some_waits (stores_of (drop l.memory-index l.memories)) l.bits);
}
