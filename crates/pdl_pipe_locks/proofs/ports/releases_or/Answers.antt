use Rattle.std.proofs.Common.{◌-◌, length, map, drop, arith}
use Rattle.pdl_net.specs.Meaning.{signal}
use Rattle.pdl_net.proofs.Keeps.{extends_keeps, extends_refl, extends_trans}
use Rattle.pdl_net.proofs.KeptWidths.{width_kept}
use Rattle.pdl_pipe_exprs.proofs.NetLists.{bits_kept}
use Rattle.pdl_pipe_walk.specs.Parts.{letting_in}
use Rattle.pdl_pipe_locks.specs.Ports.{IsGivenLetting, releases_signal, releases_after}
use Rattle.pdl_pipe_locks.proofs.PortLists.{given_lettings}
use Rattle.pdl_pipe_locks.proofs.PortStages.{each_at}
use Rattle.pdl_pipe_locks.proofs.Releases.{lets_one, have_releases, lets_begin, lets_more, lets_end}
use Rattle.pdl_pipe_locks.proofs.ports.releases_or.Goals as goal

pub loop-i-init : goal.loop-i-init
loop-i-init c =
    let a = c.args.b.now in
    record {
      extends = extends_refl a;
      means = lets_begin c.args.twice a c.args.m (signal a c.args.moves) c.args.lettings.now c.args.rest c.requires.rest;
    }

pub release_or-requires-clause-bits : goal.release_or-requires-clause-bits
release_or-requires-clause-bits c = bits_kept c.args.b.now c.loop-i.b c.args.bits c.loop-i.invariant.extends c.requires.bits

pub release_or-requires-clause-given : goal.release_or-requires-clause-given
release_or-requires-clause-given c =
    let k = extends_keeps c.args.b.now c.loop-i.b c.loop-i.invariant.extends in
    let xs = c.args.lettings.now in
    each_at (IsGivenLetting c.loop-i.b) xs (length xs - 1 - c.loop-i.i) c.letting_at-x.result
    (omega (arith, c.loop-i-test.true)) c.letting_at-x.ensures
    (given_lettings c.args.b.now c.loop-i.b k xs c.requires.given)

pub release_or-requires-clause-moves : goal.release_or-requires-clause-moves
release_or-requires-clause-moves c = width_kept c.args.b.now c.loop-i.b c.args.moves 1 c.loop-i.invariant.extends c.requires.moves

pub release_or-requires-clause-rest : goal.release_or-requires-clause-rest
release_or-requires-clause-rest c =
    let a = c.args.b.now in
    let xs = c.args.lettings.now in
    let rest = releases_signal a c.args.rest in
    let back = map (letting_in a) (drop (length xs - c.loop-i.i) xs) in
    have_releases c.loop-i.b c.loop-i.nets (releases_after c.args.twice c.args.m (signal a c.args.moves) back rest) c.loop-i.invariant.means
    (lets_one c.args.twice c.args.m (signal a c.args.moves) back rest (c.requires.rest.first.width, c.requires.rest.second.width))

pub loop-i-preserved : goal.loop-i-preserved
loop-i-preserved c =
    let a = c.args.b.now in
    let b = c.loop-i.b in
    let d = c.release_or.new.b in
    let v = c.loop-i.invariant in
    let k = extends_keeps a b v.extends in
    record {
      extends = extends_trans a b d v.extends c.in_ok-nets.ensures.extends;
      means =
          lets_more c.args.twice a b d c.args.m (signal a c.args.moves)
          (signal b c.args.moves) c.args.lettings.now c.loop-i.i c.letting_at-x.result c.loop-i.nets c.in_ok-nets.nets
          (releases_signal a c.args.rest) k c.loop-i-test.true c.letting_at-x.ensures c.requires.given
          (k.kept c.args.moves c.requires.moves.there) v.means c.in_ok-nets.ensures.means;
    }

pub returns-clause-means : goal.returns-clause-means
returns-clause-means c =
    let a = c.args.b.now in
    lets_end c.args.twice a c.loop-i.b c.args.m (signal a c.args.moves) c.args.lettings.now c.loop-i.i c.loop-i.nets
    (releases_signal a c.args.rest) c.loop-i-test.false c.loop-i.invariant.means
