use Rattle.std.proofs.Common.{◌≡◌, None, Some, arith, get_or, subst}
use Rattle.pdl_net.specs.Pipe.{PortMem, commit_ports}
use Rattle.pdl_vread_pipe.specs.ExpectedPorts.{after, heads}
use Rattle.pdl_vread_pipe.proofs.Strips.{flat_more, flat_stop}
use Rattle.pdl_vread_pipe.proofs.ports.commits.Goals as goal

pub returns-in_err-left : goal.returns-in_err-left
returns-in_err-left c =
    let k = c.loop-mem.mem-index in
    let hs = heads c.loop-mem.left.now in
    let none : None ≡ after (commit_ports (get_or c.args.mems.now k c.mem-item.result)) hs =
    subst (λ (m : PortMem). None ≡ after (commit_ports m) hs) c.mem-item.is c.in_err-left.ensures in
    let e = flat_stop commit_ports c.args.mems.now k c.mem-item.result hs _ c.loop-mem-test.true none c.loop-mem.invariant in
    grind (arith, e)

pub loop-mem-preserved : goal.loop-mem-preserved
loop-mem-preserved c =
    let k = c.loop-mem.mem-index in
    let hs = heads c.loop-mem.left.now in
    let ls = heads c.in_ok-left.left.now in
    let some : Some ls ≡ after (commit_ports (get_or c.args.mems.now k c.mem-item.result)) hs =
    subst (λ (m : PortMem). Some ls ≡ after (commit_ports m) hs) c.mem-item.is c.in_ok-left.ensures in
    flat_more commit_ports c.args.mems.now k c.mem-item.result hs ls _ c.loop-mem-test.true some c.loop-mem.invariant
