use Rattle.std.proofs.Common.{sym, subst, eq-eqb}
use Rattle.std.proofs.lemmas.Bool.{ne_eqb}
use Rattle.pdl_net.specs.Meaning.{signal}
use Rattle.pdl_net.proofs.Keeps.{extends_keeps, keeps_trans}
use Rattle.pdl_pipe_walk.specs.Parts.{letting_in}
use Rattle.pdl_law_parts.specs.Walk.{both}
use Rattle.pdl_pipe_locks.specs.Ports.{releases_signal, AreReleases}
use Rattle.pdl_pipe_locks.proofs.Releases.{releases_kept, told_same, other_release, own_release, with_release}
use Rattle.pdl_pipe_locks.proofs.ports.release_or.Goals as goal

pub returns-then-x-m-clause-means : goal.returns-then-x-m-clause-means
returns-then-x-m-clause-means c =
    let a = c.args.b.now in
    let x = letting_in a c.args.x.now in
    subst (AreReleases a c.args.rest)
    (sym (other_release c.args.twice c.args.m (signal a c.args.moves) x (releases_signal a c.args.rest) (ne_eqb x.mem c.args.m c.if-x-m.true)))
    (told_same a c.args.rest c.requires.rest)

pub second_or-requires-clause-rest : goal.second_or-requires-clause-rest
second_or-requires-clause-rest c =
    let k = keeps_trans c.args.b.now c.both.new.b c.mux.new.self (extends_keeps c.args.b.now c.both.new.b c.in_ok-on.ensures.extends)
    (extends_keeps c.both.new.b c.mux.new.self c.in_ok-first.ensures.extends) in
    releases_kept c.args.b.now c.mux.new.self c.args.rest k c.requires.rest

pub returns-clause-means : goal.returns-clause-means
returns-clause-means c =
    let a = c.args.b.now in
    let x = letting_in a c.args.x.now in
    subst (AreReleases c.second_or.new.b (record { first = c.in_ok-first.first; second = c.in_ok-second.second }))
    (sym (own_release c.args.twice c.args.m (signal a c.args.moves) x (releases_signal a c.args.rest) (eq-eqb x.mem c.args.m c.if-x-m.false)))
    (with_release a c.both.new.b c.mux.new.self c.second_or.new.b c.args.bits c.args.twice (both (signal a c.args.moves) x.on)
    c.in_ok-on.on c.args.rest c.in_ok-first.first c.in_ok-second.second c.requires.bits c.requires.rest c.in_ok-on.ensures.extends
    c.in_ok-on.ensures.means c.in_ok-first.ensures.extends c.in_ok-first.ensures.means c.in_ok-second.ensures.extends c.in_ok-second.ensures.means)
