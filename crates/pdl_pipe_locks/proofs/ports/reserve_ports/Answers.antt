use Rattle.std.proofs.Common.{◌-◌, List, length, map, sym, subst, arith}
use Rattle.pdl_net.specs.Meaning.{signal}
use Rattle.pdl_net.proofs.Keeps.{extends_keeps, extends_trans}
use Rattle.pdl_pipe_exprs.proofs.NetLists.{bits_kept}
use Rattle.pdl_law_parts.specs.Ports.{reserves_to}
use Rattle.pdl_pipe_walk.specs.declared.nets.ReserveNet.{ReserveNet}
use Rattle.pdl_pipe_walk.specs.Parts.{reservation_in}
use Rattle.pdl_pipe_locks.specs.Ports.{IsGivenReserve, IsGiven, AddsReserves}
use Rattle.pdl_pipe_locks.proofs.PortStages.{each_at, given_kept, reserves_more}
use Rattle.pdl_pipe_locks.proofs.ports.reserve_ports.Goals as goal
use Rattle.pdl_word.specs.Each.{Each}

pub push_reserves-requires-clause-bits : goal.push_reserves-requires-clause-bits
push_reserves-requires-clause-bits c = bits_kept c.args.b.now c.loop-i.b c.args.bits c.loop-i.invariant.extends c.requires.bits

pub push_reserves-requires-clause-given : goal.push_reserves-requires-clause-given
push_reserves-requires-clause-given c =
    let k = extends_keeps c.args.b.now c.loop-i.b c.loop-i.invariant.extends in
    let ds = c.args.deeds.now in
    let d = c.deed_at-deed.result in
    let given =
    each_at (IsGiven c.args.b.now c.args.m) ds (length ds - 1 - c.loop-i.i) d (omega (arith, c.loop-i-test.true)) c.deed_at-deed.ensures c.requires.given in
    subst (λ (rs : List ReserveNet). Each (IsGivenReserve c.loop-i.b) rs) (sym c.as_slice.ensures)
    (given_kept c.args.b.now c.loop-i.b k c.args.m d given).reserves

pub push_reserves-requires-clause-moves : goal.push_reserves-requires-clause-moves
push_reserves-requires-clause-moves c =
    let k = extends_keeps c.args.b.now c.loop-i.b c.loop-i.invariant.extends in
    let ds = c.args.deeds.now in
    let d = c.deed_at-deed.result in
    let given =
    each_at (IsGiven c.args.b.now c.args.m) ds (length ds - 1 - c.loop-i.i) d (omega (arith, c.loop-i-test.true)) c.deed_at-deed.ensures c.requires.given in
    (given_kept c.args.b.now c.loop-i.b k c.args.m d given).moves

pub loop-i-preserved : goal.loop-i-preserved
loop-i-preserved c =
    let a = c.args.b.now in
    let b = c.loop-i.b in
    let e = c.push_reserves.new.b in
    let m = c.args.m in
    let d = c.deed_at-deed.result in
    let v = c.loop-i.invariant in
    let ps = c.loop-i.ports in
    let qs = c.push_reserves.new.ports in
    let adds =
    subst
    (λ (rs : List ReserveNet). AddsReserves b e ps qs
    (reserves_to m (signal b d.moves) (map (reservation_in b) rs))) c.as_slice.ensures c.in_ok-push_reserves.ensures.adds in
    record {
      extends = extends_trans a b e v.extends c.in_ok-push_reserves.ensures.extends;
      are =
          reserves_more a b e m c.args.deeds.now c.loop-i.i d ps qs
          (extends_keeps a b v.extends) c.loop-i-test.true c.deed_at-deed.ensures c.requires.given v.are adds;
    }
