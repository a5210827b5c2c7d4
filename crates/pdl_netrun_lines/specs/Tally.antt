-- How many cycles of a run are of some kind.
use Rattle.std.specs.Prelude.{ℕ, ◌+◌, Bool, List, count_by, if◌then◌else◌}
use Rattle.pdl_semantics.specs.Lines.{Cycle}
use Rattle.pdl_netrun_lines.specs.declared.print.RunCounts.{RunCounts}

-- 1 for true, and 0 for false
abbrev pub one_if : Bool → ℕ
one_if b = if b then 1 else 0

-- counts with one cycle more
abbrev pub tallied_of : RunCounts → Cycle → RunCounts
tallied_of n c = record {
  ended = n.ended + one_if c.ended;
  waits = n.waits + one_if c.wait;
  squashes = n.squashes + one_if c.squash;
}

-- the counts of some cycles
abbrev pub counts_of : List Cycle → RunCounts
counts_of cs = record {
  ended = count_by (λ (c : Cycle). c.ended) cs;
  waits = count_by (λ (c : Cycle). c.wait) cs;
  squashes = count_by (λ (c : Cycle). c.squash) cs;
}
