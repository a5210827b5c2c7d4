use Rattle.std.proofs.Common.{◌≡◌, ◌+◌, ◌*◌, ◌-◌, ◌/◌, ◌^◌, ◌++◌, length}
use Rattle.pdl_trace.proofs.line.Line.push_hex.Given as goal
use Rattle.pdl_word.specs.Digits.{hex}

-- the highest digits are there
abbrev pub invariant-loop-done : goal.invariant-loop-done
invariant-loop-done l = record {
  text : l.self ≡ l.fn.self ++ hex l.done (l.value / 2 ^ (4 * (l.count - l.done)));
  len : length l.self ≡ length l.fn.self + l.done;
}
