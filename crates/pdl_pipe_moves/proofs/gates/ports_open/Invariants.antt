use Rattle.std.proofs.Common.{◌≡◌, ◌-◌, map, drop, length}
use Rattle.pdl_net.specs.Growth.{Extends}
use Rattle.pdl_pipe_exprs.specs.Nets.{signals_in, signal_at}
use Rattle.pdl_pipe_walk.specs.Parts.{ask_in}
use Rattle.pdl_pipe_answers.specs.Ports.{IsBitFor}
use Rattle.pdl_pipe_moves.specs.Gates.{opens_by}
use Rattle.pdl_pipe_moves.proofs.gates.ports_open.Given as goal

-- the last requests
abbrev pub invariant-loop-i : goal.invariant-loop-i
invariant-loop-i l =
    Extends l.fn.b l.b × (l.b.regs ≡ l.fn.b.regs)
    × IsBitFor l.b l.net (opens_by (signal_at (signals_in l.fn.b l.frees)) (map (ask_in l.fn.b) (drop (length l.asks - l.i) l.asks)))
