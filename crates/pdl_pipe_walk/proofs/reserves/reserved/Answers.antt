use Rattle.std.proofs.Common.{◌-◌, length, sym, subst, arith}
use Rattle.pdl_net.specs.HasWidth.{HasWidth}
use Rattle.pdl_net.proofs.Keeps.{extends_keeps, extends_refl, extends_trans}
use Rattle.pdl_net.proofs.KeptWidths.{width_kept, width_meant}
use Rattle.pdl_pipe_exprs.proofs.NetLists.{bits_kept}
use Rattle.pdl_pipe_walk.specs.declared.nets.ReserveNet.{ReserveNet}
use Rattle.pdl_pipe_walk.proofs.Lists.{each_at}
use Rattle.pdl_pipe_walk.proofs.Reserved.{reserved_one, reserved_begin, reserved_more, reserved_end}
use Rattle.pdl_pipe_walk.proofs.reserves.reserved.Goals as goal

pub loop-i-init : goal.loop-i-init
loop-i-init c =
    let a = c.args.b.now in
    record { extends = extends_refl a; means = reserved_begin a c.args.m c.args.reserves.now c.args.bits.zero c.requires.bits.zero }

pub reserved_or-requires-clause-bits : goal.reserved_or-requires-clause-bits
reserved_or-requires-clause-bits c = bits_kept c.args.b.now c.loop-i.b c.args.bits c.loop-i.invariant.extends c.requires.bits

pub reserved_or-requires-clause-on : goal.reserved_or-requires-clause-on
reserved_or-requires-clause-on c =
    let a = c.args.b.now in
    let rs = c.args.reserves.now in
    let r = c.reserve_at-r.result in
    width_kept a c.loop-i.b r.on 1 c.loop-i.invariant.extends
    (subst (λ (x : ReserveNet). HasWidth a x.on 1) (sym c.reserve_at-r.ensures)
    (each_at (λ (x : ReserveNet). HasWidth a x.on 1) rs (length rs - 1 - c.loop-i.i) r (omega (arith, c.loop-i-test.true)) c.requires.given))

pub reserved_or-requires-clause-rest : goal.reserved_or-requires-clause-rest
reserved_or-requires-clause-rest c = width_meant c.loop-i.b c.loop-i.net _ 1 c.loop-i.invariant.means (reserved_one c.args.m _)

pub loop-i-preserved : goal.loop-i-preserved
loop-i-preserved c =
    let a = c.args.b.now in
    let b = c.loop-i.b in
    let d = c.reserved_or.new.b in
    let v = c.loop-i.invariant in
    record {
      extends = extends_trans a b d v.extends c.in_ok-net.ensures.extends;
      means =
          reserved_more a b d c.args.m c.args.reserves.now c.loop-i.i c.reserve_at-r.result c.loop-i.net c.in_ok-net.net
          (extends_keeps a b v.extends) c.loop-i-test.true c.reserve_at-r.ensures c.requires.given v.means c.in_ok-net.ensures.means;
    }

pub returns-clause-means : goal.returns-clause-means
returns-clause-means c =
    reserved_end c.args.b.now c.loop-i.b c.args.m c.args.reserves.now c.loop-i.i c.loop-i.net c.loop-i-test.false c.loop-i.invariant.means
