use Rattle.std.proofs.Common.{◌≡◌}
use Rattle.pdl_machine_facts.specs.Slots.{ways}
use Rattle.pdl_net.specs.Growth.{Extends}
use Rattle.pdl_pipe_nexts.specs.Lines.{line_pipe, line_views, line_moves}
use Rattle.pdl_pipe_nexts.specs.Arrivals.{AreArrivals}
use Rattle.pdl_pipe_nexts.proofs.NextsMade.{NextsSoFar}
use Rattle.pdl_pipe_nexts.proofs.nexts.stage_nexts.Given as goal

-- the nets of the first items are there
abbrev pub invariant-loop-i : goal.invariant-loop-i
invariant-loop-i l =
    Extends l.fn.b l.b × (l.b.regs ≡ l.fn.b.regs)
    × AreArrivals l.b (line_pipe l.line) (line_views l.fn.b l.line) (line_moves l.fn.b l.line) l.k (ways (line_pipe l.line) l.k) l.arrivals
    × NextsSoFar l.fn.b l.b l.line l.k l.s l.nets l.i
