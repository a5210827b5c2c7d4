use Rattle.std.proofs.Common.{◌-◌, length}
use Rattle.pdl_net.specs.Growth.{Extends}
use Rattle.pdl_pipe_locks.specs.Deeds.{views_in, moves_in}
use Rattle.pdl_pipe_locks.specs.Ports.{releases_of, AreReleases}
use Rattle.pdl_pipe_locks.proofs.ports.releases.Given as goal

abbrev pub invariant-loop-i : goal.invariant-loop-i
invariant-loop-i l = record {
  extends : Extends l.fn.b l.b;
  means : AreReleases l.b l.nets (releases_of l.twice l.m (views_in l.fn.b l.deeds) (moves_in l.fn.b l.deeds) l.i (length l.deeds - l.i));
}
