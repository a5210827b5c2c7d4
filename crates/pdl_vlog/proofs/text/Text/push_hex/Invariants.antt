use Rattle.std.proofs.Common.{◌≡◌, ◌*◌, ◌-◌, ◌/◌, ◌^◌, ◌++◌}
use Rattle.pdl_vlog.proofs.text.Text.push_hex.Given as goal
use Rattle.pdl_word.specs.Digits.{hex}

-- the highest digits are there
abbrev pub invariant-loop-done : goal.invariant-loop-done
invariant-loop-done l = l.self ≡ l.fn.self ++ hex l.done (l.value / 2 ^ (4 * (l.count - l.done)))
