use Rattle.std.proofs.Common.{length, ◌+◌, ◌*◌}
use Rattle.pdl_stages.proofs.depth.+longest.Given as goal

-- one guard fewer in each round of three calls
abbrev pub decreases-longest : goal.decreases-longest
decreases-longest l = 3 * length l.guards.now

abbrev pub decreases-longest_over : goal.decreases-longest_over
decreases-longest_over l = 3 * length l.rest.now + 2

abbrev pub decreases-longest_where : goal.decreases-longest_where
decreases-longest_where l = 3 * length l.rest.now + 1
