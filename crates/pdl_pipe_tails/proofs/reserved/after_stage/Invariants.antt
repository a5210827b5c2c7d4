use Rattle.std.proofs.Common.{◌≡◌, map, take}
use Rattle.pdl_net.specs.Meaning.{signal, IsThere}
use Rattle.pdl_net.specs.Growth.{Extends}
use Rattle.pdl_law_parts.specs.Ports.{reserves_to}
use Rattle.pdl_pipe_walk.specs.Parts.{reservation_in}
use Rattle.pdl_pipe_tails.specs.Reserved.{IsAfter}
use Rattle.pdl_pipe_tails.proofs.reserved.after_stage.Given as goal

-- the ticket after the first reservations
abbrev pub invariant-loop-r : goal.invariant-loop-r
invariant-loop-r l = record {
  there : IsThere l.b l.net;
  after : IsAfter (signal l.fn.b l.fn.ticket) (signal l.b l.net)
      (reserves_to l.mem (signal l.fn.b l.moves) (map (reservation_in l.fn.b) (take l.r-index l.reserves)));
  extends : Extends l.fn.b l.b;
  regs : l.b.regs ≡ l.fn.b.regs;
}
