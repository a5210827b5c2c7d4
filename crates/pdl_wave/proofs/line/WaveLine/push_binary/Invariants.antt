use Rattle.std.proofs.Common.{◌≡◌, ◌+◌, ◌-◌, ◌/◌, ◌^◌, ◌++◌, length}
use Rattle.pdl_wave.proofs.line.WaveLine.push_binary.Given as goal
use Rattle.pdl_wave.specs.Dump.{binary}

-- the highest digits are there
abbrev pub invariant-loop-done : goal.invariant-loop-done
invariant-loop-done l = record {
  text : l.self ≡ l.fn.self ++ binary l.done (l.value / 2 ^ (l.count - l.done));
  len : length l.self ≡ length l.fn.self + l.done;
}
