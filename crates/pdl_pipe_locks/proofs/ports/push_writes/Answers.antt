use Rattle.std.proofs.Common.{get_or, refl, ap}
use Rattle.pdl_net.specs.declared.Net.TheVariants.{Input}
use Rattle.pdl_net.proofs.Keeps.{extends_keeps, extends_trans}
use Rattle.pdl_pipe_exprs.proofs.NetLists.{bits_kept}
use Rattle.pdl_law_parts.specs.Views.{View}
use Rattle.pdl_law_parts.specs.Ports.{tickets_to}
use Rattle.pdl_pipe_walk.specs.declared.nets.PutNet.{PutNet}
use Rattle.pdl_pipe_locks.specs.Deeds.{view_in}
use Rattle.pdl_pipe_locks.specs.Ports.{IsGivenPut}
use Rattle.pdl_pipe_locks.proofs.PortLists.{given_puts, writes_step, writes_end}
use Rattle.pdl_pipe_locks.proofs.PortStages.{view_same, given_kept}
use Rattle.pdl_pipe_locks.proofs.ports.push_writes.Goals as goal
use Rattle.pdl_word.proofs.Each.{each_get}

abbrev no_put : PutNet
no_put = record { mem = 0; var = 0; on = Input 0; value = Input 0 }

pub push_write-requires-clause-bits : goal.push_write-requires-clause-bits
push_write-requires-clause-bits c = bits_kept c.args.b.now c.loop-x.b c.args.bits c.loop-x.invariant.extends c.requires.bits

pub push_write-requires-clause-put : goal.push_write-requires-clause-put
push_write-requires-clause-put c =
    let k = extends_keeps c.args.b.now c.loop-x.b c.loop-x.invariant.extends in
    each_get (IsGivenPut c.loop-x.b) c.args.puts.now c.loop-x.x-index no_put c.loop-x-test.true
    (given_puts c.args.b.now c.loop-x.b k c.args.puts.now c.requires.puts)

pub push_write-requires-clause-given : goal.push_write-requires-clause-given
push_write-requires-clause-given c =
    given_kept c.args.b.now c.loop-x.b (extends_keeps c.args.b.now c.loop-x.b c.loop-x.invariant.extends) c.args.m c.args.deed.now c.requires.given

pub loop-x-preserved : goal.loop-x-preserved
loop-x-preserved c =
    let a = c.args.b.now in
    let b = c.loop-x.b in
    let d = c.push_write.new.b in
    let i = c.loop-x.x-index in
    let xs = c.args.puts.now in
    let y = get_or xs i no_put in
    let v = c.loop-x.invariant in
    let m = c.args.m in
    let deed = c.args.deed.now in
    let k = extends_keeps a b v.extends in
    let given = each_get (IsGivenPut a) xs i no_put c.loop-x-test.true c.requires.puts in
    record {
      extends = extends_trans a b d v.extends c.in_ok-push_write.ensures.extends;
      adds = writes_step a b d c.args.ports.now c.loop-x.ports c.push_write.new.ports m deed.moves
          (tickets_to c.args.twice m (view_in a deed)) (tickets_to c.args.twice m (view_in b deed)) xs i no_put y
          k c.requires.given.moves.there
          (ap (λ (w : View). tickets_to c.args.twice m w y.var) (view_same a b deed k c.requires.given.tickets c.requires.given.walk))
          c.loop-x-test.true refl given v.adds c.in_ok-push_write.ensures.adds;
    }

pub returns-clause-adds : goal.returns-clause-adds
returns-clause-adds c =
    writes_end c.args.b.now c.loop-x.b c.args.ports.now c.loop-x.ports c.args.m c.args.deed.now.moves
    (tickets_to c.args.twice c.args.m (view_in c.args.b.now c.args.deed.now)) c.args.puts.now c.loop-x.x-index c.loop-x-test.false c.loop-x.invariant.adds
