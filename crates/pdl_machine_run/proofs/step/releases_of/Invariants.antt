use Rattle.std.proofs.Common.{◌≡◌, ◌+◌, ◌≤◌, drop}
use Rattle.pdl_semantics.specs.Cycle as stated
use Rattle.pdl_machine_run.proofs.step.releases_of.Given as goal

-- those so far are counted
abbrev pub invariant-loop-number : goal.invariant-loop-number
invariant-loop-number l =
    (l.count + stated.releases_of l.m (drop l.number-index l.numbers) ≡ stated.releases_of l.m l.numbers) × (l.count ≤ l.number-index)
