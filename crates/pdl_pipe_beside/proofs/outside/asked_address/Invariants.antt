use Rattle.std.proofs.Common.{◌≡◌, ◌-◌, length, map, drop}
use Rattle.pdl_net.specs.Signal.{const_signal}
use Rattle.pdl_net.specs.Growth.{Extends}
use Rattle.pdl_net.specs.Meaning.{Means, signal}
use Rattle.pdl_pipe_walk.specs.Parts.{ask_in}
use Rattle.pdl_pipe_beside.specs.Requests.{address_from}
use Rattle.pdl_pipe_beside.proofs.outside.asked_address.Given as goal

-- the last requests
abbrev pub invariant-loop-i : goal.invariant-loop-i
invariant-loop-i l = record {
  means : Means l.b l.net (address_from l.m (signal l.fn.b l.moves) (const_signal l.width 0) (map (ask_in l.fn.b) (drop (length l.asks - l.i) l.asks)));
  wide : (signal l.b l.net).width ≡ l.width;
  extends : Extends l.fn.b l.b;
}
