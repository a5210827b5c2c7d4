use Rattle.std.proofs.Common.{◌≡◌, ℕ, ◌+◌, ◌<◌, length, get_or}
use Rattle.pdl_port.proofs.state.numbers.Given as goal

abbrev pub invariant-loop-k : goal.invariant-loop-k
invariant-loop-k l = record {
  count : length l.found ≡ l.k;
  listed : (k : ℕ) → k < l.k → get_or l.found k 0 ≡ l.from + k;
}
