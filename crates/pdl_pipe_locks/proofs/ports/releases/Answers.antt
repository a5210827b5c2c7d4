use Rattle.std.proofs.Common.{◌-◌, List, length, map, sym, subst, arith}
use Rattle.pdl_net.specs.Meaning.{signal}
use Rattle.pdl_net.proofs.Keeps.{extends_keeps, extends_refl, extends_trans}
use Rattle.pdl_pipe_exprs.proofs.NetLists.{bits_kept}
use Rattle.pdl_pipe_walk.specs.declared.nets.LettingNet.{LettingNet}
use Rattle.pdl_pipe_walk.specs.Parts.{letting_in}
use Rattle.pdl_pipe_locks.specs.declared.ports.ReleaseNets.{ReleaseNets}
use Rattle.pdl_pipe_locks.specs.Deeds.{views_in, moves_in}
use Rattle.pdl_pipe_locks.specs.Ports.{IsGivenLetting, IsGiven, releases_signal, releases_after, releases_of, AreReleases}
use Rattle.pdl_pipe_locks.proofs.PortStages.{each_at, given_kept}
use Rattle.pdl_pipe_locks.proofs.Releases.{released_one, released_none, have_releases, released_more}
use Rattle.pdl_pipe_locks.proofs.ports.releases.Goals as goal
use Rattle.pdl_word.specs.Each.{Each}

pub loop-i-init : goal.loop-i-init
loop-i-init c =
    let a = c.args.b.now in
    let ds = c.args.deeds.now in
    let zeros : ReleaseNets = record { first = c.args.bits.zero; second = c.args.bits.zero } in
    record {
      extends = extends_refl a;
      means = released_none c.args.twice a c.args.m (views_in a ds) (moves_in a ds) (length ds - 0) zeros c.requires.bits.zero c.requires.bits.zero;
    }

pub releases_or-requires-clause-bits : goal.releases_or-requires-clause-bits
releases_or-requires-clause-bits c = bits_kept c.args.b.now c.loop-i.b c.args.bits c.loop-i.invariant.extends c.requires.bits

pub releases_or-requires-clause-given : goal.releases_or-requires-clause-given
releases_or-requires-clause-given c =
    let k = extends_keeps c.args.b.now c.loop-i.b c.loop-i.invariant.extends in
    let ds = c.args.deeds.now in
    let d = c.deed_at-deed.result in
    let given =
    each_at (IsGiven c.args.b.now c.args.m) ds (length ds - 1 - c.loop-i.i) d (omega (arith, c.loop-i-test.true)) c.deed_at-deed.ensures c.requires.given in
    subst (λ (xs : List LettingNet). Each (IsGivenLetting c.loop-i.b) xs) (sym c.as_slice-lettings.ensures)
    (given_kept c.args.b.now c.loop-i.b k c.args.m d given).lettings

pub releases_or-requires-clause-moves : goal.releases_or-requires-clause-moves
releases_or-requires-clause-moves c =
    let k = extends_keeps c.args.b.now c.loop-i.b c.loop-i.invariant.extends in
    let ds = c.args.deeds.now in
    let d = c.deed_at-deed.result in
    let given =
    each_at (IsGiven c.args.b.now c.args.m) ds (length ds - 1 - c.loop-i.i) d (omega (arith, c.loop-i-test.true)) c.deed_at-deed.ensures c.requires.given in
    (given_kept c.args.b.now c.loop-i.b k c.args.m d given).moves

pub releases_or-requires-clause-rest : goal.releases_or-requires-clause-rest
releases_or-requires-clause-rest c =
    let a = c.args.b.now in
    let ds = c.args.deeds.now in
    let left = length ds - c.loop-i.i in
    have_releases c.loop-i.b c.loop-i.nets (releases_of c.args.twice c.args.m (views_in a ds) (moves_in a ds) c.loop-i.i left) c.loop-i.invariant.means
    (released_one c.args.twice c.args.m (views_in a ds) (moves_in a ds) c.loop-i.i left)

pub loop-i-preserved : goal.loop-i-preserved
loop-i-preserved c =
    let a = c.args.b.now in
    let b = c.loop-i.b in
    let e = c.releases_or.new.b in
    let m = c.args.m in
    let d = c.deed_at-deed.result in
    let v = c.loop-i.invariant in
    let means =
    subst
    (λ (xs : List LettingNet). AreReleases e c.in_ok-nets.nets
    (releases_after c.args.twice m (signal b d.moves) (map (letting_in b) xs) (releases_signal b c.loop-i.nets)))
    c.as_slice-lettings.ensures c.in_ok-nets.ensures.means in
    record {
      extends = extends_trans a b e v.extends c.in_ok-nets.ensures.extends;
      means =
          released_more c.args.twice a b e m c.args.deeds.now c.loop-i.i d c.loop-i.nets c.in_ok-nets.nets
          (extends_keeps a b v.extends) c.loop-i-test.true c.deed_at-deed.ensures c.requires.given v.means means;
    }
