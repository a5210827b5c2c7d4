use Rattle.std.proofs.Common.{◌≡◌, map, take}
use Rattle.pdl_pipe_registers.specs.Begun.{ticket_net}
use Rattle.pdl_pipe_registers.proofs.tickets.next_tickets.Given as goal

-- the first locks' tickets
abbrev pub invariant-loop-lock : goal.invariant-loop-lock
invariant-loop-lock g l = l.nets ≡ map (ticket_net l.none) (take l.lock-index l.locks)
