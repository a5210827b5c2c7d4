use Rattle.std.proofs.Common.{◌≡◌, ◌-◌, length, map, drop}
use Rattle.pdl_net.specs.Growth.{Extends}
use Rattle.pdl_net.specs.Meaning.{Means, signal}
use Rattle.pdl_law_sides.specs.Sides.{asks_memory}
use Rattle.pdl_pipe_walk.specs.Parts.{ask_in}
use Rattle.pdl_pipe_beside.proofs.asks.asks_memory.Given as goal

-- the last requests
abbrev pub invariant-loop-i : goal.invariant-loop-i
invariant-loop-i l = record {
  means : Means l.b l.net (asks_memory l.m (signal l.fn.b l.moves) (map (ask_in l.fn.b) (drop (length l.asks - l.i) l.asks)));
  one : (signal l.b l.net).width ≡ 1;
  extends : Extends l.fn.b l.b;
  regs : l.b.regs ≡ l.fn.b.regs;
}
