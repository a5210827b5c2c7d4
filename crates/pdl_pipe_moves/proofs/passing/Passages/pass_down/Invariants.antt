use Rattle.std.proofs.Common.{◌≡◌, ℕ, ◌-◌, ◌≤◌}
use Rattle.pdl_squash.specs.Laws.{net_at}
use Rattle.pdl_net.specs.Growth.{Extends}
use Rattle.pdl_pipe_moves.specs.Signs.{signs_by}
use Rattle.pdl_pipe_moves.specs.Passed.{ArePassed}
use Rattle.pdl_pipe_moves.proofs.passing.Passages.pass_down.Given as goal

-- the last stages
abbrev pub invariant-loop-i : goal.invariant-loop-i
invariant-loop-i l =
    Extends l.fn.b l.b × ArePassed l.b l.line (signs_by l.b l.line l.controls) l.self.moves.items l.self.frees.items (l.high - l.i)
    × ((q : ℕ) → l.high ≤ q → net_at l.self.moves.items q ≡ net_at l.fn.self.moves.items q)
