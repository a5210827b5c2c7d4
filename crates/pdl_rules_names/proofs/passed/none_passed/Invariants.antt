use Rattle.std.proofs.Common.{◌≡◌, ℕ, length, get_or}
use Rattle.pdl_rules_names.proofs.passed.none_passed.Given as goal

-- one 0 for each path so far
abbrev pub invariant-loop-path : goal.invariant-loop-path
invariant-loop-path l = (length l.last.items ≡ l._path) × ((b : ℕ) → get_or l.last.items b 0 ≡ 0)
