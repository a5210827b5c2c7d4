use Rattle.std.proofs.Common.{flat_map, take}
use Rattle.pdl_net.specs.declared.Net.TheVariants.{Input}
use Rattle.pdl_net.specs.declared.WritePort.{WritePort}
use Rattle.pdl_net_needed.specs.Needed.{read_by}
use Rattle.pdl_net_needed.proofs.AddedMarks.{adds_read, within_read}
use Rattle.pdl_net_needed.proofs.marking.Marking.need_writes.Goals as goal

no_write : WritePort
no_write = record { enable = Input 0; addr = Input 0; value = Input 0 }

pub need_write-requires : goal.need_write-requires
unfolding no_write
need_write-requires c =
    within_read read_by c.args.ports.now c.loop-i.i no_write c.args.self.now c.loop-i.self
    (flat_map read_by (take c.loop-i.i c.args.ports.now)) c.loop-i-test.true c.loop-i.invariant c.requires

pub loop-i-preserved : goal.loop-i-preserved
unfolding no_write
loop-i-preserved c =
    adds_read read_by c.args.ports.now c.loop-i.i no_write c.args.self.now c.loop-i.self c.need_write.new.self c.loop-i-test.true c.loop-i.invariant c.in_ok-need_write.ensures
