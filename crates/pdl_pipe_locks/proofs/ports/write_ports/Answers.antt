use Rattle.std.proofs.Common.{◌-◌, List, length, map, sym, subst, arith}
use Rattle.pdl_net.specs.Meaning.{signal}
use Rattle.pdl_net.proofs.Keeps.{extends_keeps, extends_trans}
use Rattle.pdl_pipe_exprs.proofs.NetLists.{bits_kept}
use Rattle.pdl_law_parts.specs.Ports.{tickets_to, puts_to}
use Rattle.pdl_pipe_walk.specs.declared.nets.PutNet.{PutNet}
use Rattle.pdl_pipe_walk.specs.Parts.{put_in}
use Rattle.pdl_pipe_locks.specs.Deeds.{view_in}
use Rattle.pdl_pipe_locks.specs.Ports.{IsGivenPut, IsGiven, AddsWrites}
use Rattle.pdl_pipe_locks.proofs.PortStages.{each_at, given_kept, writes_more}
use Rattle.pdl_pipe_locks.proofs.ports.write_ports.Goals as goal
use Rattle.pdl_word.specs.Each.{Each}

pub push_writes-requires-clause-bits : goal.push_writes-requires-clause-bits
push_writes-requires-clause-bits c = bits_kept c.args.b.now c.loop-i.b c.args.bits c.loop-i.invariant.extends c.requires.bits

pub push_writes-requires-clause-puts : goal.push_writes-requires-clause-puts
push_writes-requires-clause-puts c =
    let k = extends_keeps c.args.b.now c.loop-i.b c.loop-i.invariant.extends in
    let ds = c.args.deeds.now in
    let d = c.deed_at-deed.result in
    let given =
    each_at (IsGiven c.args.b.now c.args.m) ds (length ds - 1 - c.loop-i.i) d (omega (arith, c.loop-i-test.true)) c.deed_at-deed.ensures c.requires.given in
    subst (λ (xs : List PutNet). Each (IsGivenPut c.loop-i.b) xs) (sym c.as_slice-puts.ensures) (given_kept c.args.b.now c.loop-i.b k c.args.m d given).puts

pub push_writes-requires-clause-given : goal.push_writes-requires-clause-given
push_writes-requires-clause-given c =
    let k = extends_keeps c.args.b.now c.loop-i.b c.loop-i.invariant.extends in
    let ds = c.args.deeds.now in
    let d = c.deed_at-deed.result in
    let given =
    each_at (IsGiven c.args.b.now c.args.m) ds (length ds - 1 - c.loop-i.i) d (omega (arith, c.loop-i-test.true)) c.deed_at-deed.ensures c.requires.given in
    given_kept c.args.b.now c.loop-i.b k c.args.m d given

pub loop-i-preserved : goal.loop-i-preserved
loop-i-preserved c =
    let a = c.args.b.now in
    let b = c.loop-i.b in
    let e = c.push_writes.new.b in
    let m = c.args.m in
    let d = c.deed_at-deed.result in
    let v = c.loop-i.invariant in
    let ps = c.loop-i.ports in
    let qs = c.push_writes.new.ports in
    let adds =
    subst
    (λ (xs : List PutNet). AddsWrites b e ps qs
    (puts_to m (signal b d.moves) (tickets_to c.args.twice m (view_in b d)) (map (put_in b) xs))) c.as_slice-puts.ensures c.in_ok-push_writes.ensures.adds in
    record {
      extends = extends_trans a b e v.extends c.in_ok-push_writes.ensures.extends;
      are =
          writes_more c.args.twice a b e m c.args.deeds.now c.loop-i.i d ps qs
          (extends_keeps a b v.extends) c.loop-i-test.true c.deed_at-deed.ensures c.requires.given v.are adds;
    }
