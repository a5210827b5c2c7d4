use Rattle.std.proofs.Common.{List, length, ◌∙◌, ap, subst}
use Rattle.pdl_net.proofs.Keeps.{extends_keeps, extends_trans}
use Rattle.pdl_lockapi.specs.Laws.{TicketSignal}
use Rattle.pdl_law_parts.specs.Ports.{all_reserves, all_puts}
use Rattle.pdl_pipe_locks.specs.Deeds.{views_in, moves_in}
use Rattle.pdl_pipe_locks.specs.Ports.{AreWrites, ReleaseSignals}
use Rattle.pdl_pipe_locks.proofs.PortLists.{are_reserves_kept, are_writes_kept}
use Rattle.pdl_pipe_locks.proofs.PortStages.{given_all, all_puts_kept, released_kept}
use Rattle.pdl_pipe_locks.proofs.ports.lock_ports.Goals as goal

pub write_ports-requires-clause-given : goal.write_ports-requires-clause-given
write_ports-requires-clause-given c =
    given_all c.args.b.now c.reserve_ports.new.b
    (extends_keeps c.args.b.now c.reserve_ports.new.b c.in_ok-reserves.ensures.extends) c.args.m c.args.deeds.now c.requires.given

pub releases-requires-clause-given : goal.releases-requires-clause-given
releases-requires-clause-given c =
    let x = extends_trans c.args.b.now c.reserve_ports.new.b c.write_ports.new.b c.in_ok-reserves.ensures.extends c.in_ok-writes.ensures.extends in
    given_all c.args.b.now c.write_ports.new.b (extends_keeps c.args.b.now c.write_ports.new.b x) c.args.m c.args.deeds.now c.requires.given

pub returns-clause-ports : goal.returns-clause-ports
returns-clause-ports c =
    let a = c.args.b.now in
    let b = c.reserve_ports.new.b in
    let d = c.write_ports.new.b in
    let e = c.releases.new.b in
    let m = c.args.m in
    let twice = c.args.twice in
    let ds = c.args.deeds.now in
    let x = c.in_ok-reserves.ensures.extends in
    let y = c.in_ok-writes.ensures.extends in
    let z = c.in_ok-releases.ensures.extends in
    let told = c.in_ok-releases.ensures.means in
    let ad = extends_trans a b d x y in
    let be = extends_trans b d e y z in
    let ae = extends_trans a d e ad z in
    let ps = c.in_ok-writes.writes in
    let writes =
    subst (λ (fs : List TicketSignal). AreWrites d ps fs)
    (all_puts_kept twice a b (extends_keeps a b x) m ds (length ds) c.requires.given) c.in_ok-writes.ensures.are in
    let released = released_kept twice a d (extends_keeps a d ad) m ds (length ds) c.requires.given in
    record {
      reserves =
          are_reserves_kept b e (extends_keeps b e be) c.in_ok-reserves.reserves
          (all_reserves m (views_in a ds) (moves_in a ds) (length ds) 0) c.in_ok-reserves.ensures.are;
      writes = are_writes_kept d e (extends_keeps d e z) ps (all_puts twice m (views_in a ds) (moves_in a ds) (length ds) 0) writes;
      release = record { there = told.first.there; same = told.first.same ∙ ap (λ (t : ReleaseSignals). t.first) released };
      release2 = record { there = told.second.there; same = told.second.same ∙ ap (λ (t : ReleaseSignals). t.second) released };
      squash = record { there = ae.there c.args.squash.on c.requires.squash; same = ae.kept c.args.squash.on c.requires.squash };
      tail = record { there = ae.there c.args.squash.tail c.requires.tail; same = ae.kept c.args.squash.tail c.requires.tail };
    }
