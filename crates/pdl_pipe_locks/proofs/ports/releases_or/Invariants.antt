use Rattle.std.proofs.Common.{◌-◌, length, map, drop}
use Rattle.pdl_net.specs.Growth.{Extends}
use Rattle.pdl_net.specs.Meaning.{signal}
use Rattle.pdl_pipe_walk.specs.Parts.{letting_in}
use Rattle.pdl_pipe_locks.specs.Ports.{releases_signal, releases_after, AreReleases}
use Rattle.pdl_pipe_locks.proofs.ports.releases_or.Given as goal

abbrev pub invariant-loop-i : goal.invariant-loop-i
invariant-loop-i l = record {
  extends : Extends l.fn.b l.b;
  means : AreReleases l.b l.nets
      (releases_after l.twice l.m (signal l.fn.b l.moves) (map (letting_in l.fn.b) (drop (length l.lettings - l.i) l.lettings))
      (releases_signal l.fn.b l.fn.rest));
}
