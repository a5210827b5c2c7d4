use Rattle.std.proofs.Common.{◌≡◌, ℕ, ◌<◌}
use Rattle.std.specs.Prelude.{slice_index}
use Rattle.pdl_pipe_registers.specs.Items.{ended_item}
use Rattle.pdl_pipe_registers.specs.Begun.{earlier_views}
use Rattle.pdl_pipe_registers.proofs.guess.end_alike.Given as goal

-- the first of them end alike
abbrev pub invariant-loop-i : goal.invariant-loop-i
invariant-loop-i l =
    (k : ℕ) → k < l.i
    → ended_item (earlier_views l.b l.earlier (slice_index l.earlier.ways.now k)) l.first
    ≡ ended_item (earlier_views l.b l.earlier (slice_index l.earlier.ways.now k)) l.second
