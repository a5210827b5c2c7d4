use Rattle.std.proofs.Common.{◌≡◌, drop}
use Rattle.std.specs.List.{list_any}
use Rattle.pdl_locks.specs.Uses.{is_open}
use Rattle.pdl_locks.proofs.at_locations.is_some_open.Given as goal

-- none of those so far is open
abbrev pub invariant-loop-number : goal.invariant-loop-number
invariant-loop-number l = list_any (is_open l.uses) (drop l.number-index l.numbers) ≡ list_any (is_open l.uses) l.numbers
