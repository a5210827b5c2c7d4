use Rattle.std.proofs.Common.{◌≡◌, take}
use Rattle.pdl_net.specs.Growth.{Extends}
use Rattle.pdl_pipe_nexts.specs.Lines.{line_pipe, line_views, line_moves}
use Rattle.pdl_pipe_nexts.specs.Arrivals.{AreArrivals}
use Rattle.pdl_pipe_nexts.proofs.arrivals.threads_into.Given as goal

-- those out of the first of the stages that may lead here
abbrev pub invariant-loop-j : goal.invariant-loop-j
invariant-loop-j l =
    Extends l.fn.b l.b × (l.b.regs ≡ l.fn.b.regs)
    × AreArrivals l.b (line_pipe l.line) (line_views l.fn.b l.line) (line_moves l.fn.b l.line) l.q (take l.j-index l.j-items) l.list
