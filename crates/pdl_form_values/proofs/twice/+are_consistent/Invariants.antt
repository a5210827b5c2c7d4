use Rattle.std.proofs.Common.{length, ◌+◌}
use Rattle.pdl_form_values.proofs.twice.+are_consistent.Given as goal

-- one guard fewer in each round
abbrev pub decreases-are_consistent : goal.decreases-are_consistent
decreases-are_consistent l = length l.these.now + length l.those.now
