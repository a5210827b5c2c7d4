use Rattle.std.proofs.Common.{◌-◌, length, map, drop}
use Rattle.pdl_net.specs.Growth.{Extends}
use Rattle.pdl_net.specs.Meaning.{Means}
use Rattle.pdl_law_parts.specs.Walk.{reserved_signal}
use Rattle.pdl_pipe_walk.specs.Parts.{reservation_in}
use Rattle.pdl_pipe_walk.proofs.reserves.reserved.Given as goal

-- the net tells of the last reservations
abbrev pub invariant-loop-i : goal.invariant-loop-i
invariant-loop-i l = record {
  extends : Extends l.fn.b l.b;
  means : Means l.b l.net (reserved_signal l.m (map (reservation_in l.fn.b) (drop (length l.reserves - l.i) l.reserves)));
}
