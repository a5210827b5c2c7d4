use Rattle.std.proofs.Common.{get_or, refl}
use Rattle.pdl_net.specs.declared.Net.TheVariants.{Input}
use Rattle.pdl_net.proofs.Keeps.{extends_keeps, extends_trans}
use Rattle.pdl_net.proofs.KeptWidths.{width_kept}
use Rattle.pdl_pipe_exprs.proofs.NetLists.{bits_kept}
use Rattle.pdl_pipe_walk.specs.declared.nets.ReserveNet.{ReserveNet}
use Rattle.pdl_pipe_locks.specs.Ports.{IsGivenReserve}
use Rattle.pdl_pipe_locks.proofs.PortLists.{given_reserves, reserves_step, reserves_end}
use Rattle.pdl_pipe_locks.proofs.ports.push_reserves.Goals as goal
use Rattle.pdl_word.proofs.Each.{each_get}

abbrev no_reserve : ReserveNet
no_reserve = record { mem = 0; var = 0; on = Input 0; addr = Input 0 }

pub push_reserve-requires-clause-bits : goal.push_reserve-requires-clause-bits
push_reserve-requires-clause-bits c = bits_kept c.args.b.now c.loop-r.b c.args.bits c.loop-r.invariant.extends c.requires.bits

pub push_reserve-requires-clause-given : goal.push_reserve-requires-clause-given
push_reserve-requires-clause-given c =
    let k = extends_keeps c.args.b.now c.loop-r.b c.loop-r.invariant.extends in
    each_get (IsGivenReserve c.loop-r.b) c.args.reserves.now c.loop-r.r-index no_reserve c.loop-r-test.true
    (given_reserves c.args.b.now c.loop-r.b k c.args.reserves.now c.requires.given)

pub push_reserve-requires-clause-moves : goal.push_reserve-requires-clause-moves
push_reserve-requires-clause-moves c = width_kept c.args.b.now c.loop-r.b c.args.moves 1 c.loop-r.invariant.extends c.requires.moves

pub loop-r-preserved : goal.loop-r-preserved
loop-r-preserved c =
    let a = c.args.b.now in
    let b = c.loop-r.b in
    let d = c.push_reserve.new.b in
    let i = c.loop-r.r-index in
    let rs = c.args.reserves.now in
    let v = c.loop-r.invariant in
    let given = each_get (IsGivenReserve a) rs i no_reserve c.loop-r-test.true c.requires.given in
    record {
      extends = extends_trans a b d v.extends c.in_ok-push_reserve.ensures.extends;
      adds = reserves_step a b d c.args.ports.now c.loop-r.ports c.push_reserve.new.ports c.args.m c.args.moves rs i no_reserve (get_or rs i no_reserve)
          (extends_keeps a b v.extends) c.requires.moves.there c.loop-r-test.true refl given v.adds c.in_ok-push_reserve.ensures.adds;
    }

pub returns-clause-adds : goal.returns-clause-adds
returns-clause-adds c =
    reserves_end c.args.b.now c.loop-r.b c.args.ports.now c.loop-r.ports c.args.m c.args.moves c.args.reserves.now c.loop-r.r-index c.loop-r-test.false c.loop-r.invariant.adds
