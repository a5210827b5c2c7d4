use Rattle.std.proofs.Common.{◌≡◌, ℕ, ◌<◌, ◌≤◌, Bool, List, length, slice_index}
use Rattle.pdl_net_needed.specs.Pruned.{kept_before}
use Rattle.pdl_net_needed.proofs.kept.numbers.Given as goal

pub record IsCounted (marks : List Bool) (ns : List ℕ) (n i : ℕ) : Type 0 where
  pub count : length ns ≡ i
  pub each : (j : ℕ) → j < i → slice_index ns j ≡ kept_before marks j
  pub next : n ≡ kept_before marks i
  pub few : n ≤ i

abbrev pub invariant-loop-i : goal.invariant-loop-i
invariant-loop-i l = IsCounted l.marks l.numbers.items l.next l.i
