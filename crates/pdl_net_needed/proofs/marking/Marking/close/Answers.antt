use Rattle.std.proofs.Common.{sym, subst}
use Rattle.pdl_net.specs.Circuit.{circuit_of}
use Rattle.pdl_net_needed.specs.Needed.{KeepsNeeded}
use Rattle.pdl_net_needed.specs.Marking.{Work}
use Rattle.pdl_net_needed.proofs.MarkedNets.{marking_more, marking_done}
use Rattle.pdl_net_needed.proofs.marking.Marking.close.Goals as goal

pub loop-net-preserved : goal.loop-net-preserved
loop-net-preserved c =
    marking_more
    (circuit_of c.args.n.now) c.loop-net.self c.next_waiting.new.self c.need_sources.new.self c.in-Some.net c.loop-net.invariant c.in-Some.ensures.0 c.in-Some.ensures.1 c.in_ok-need_sources.ensures

pub returns : goal.returns
returns c =
    subst (λ (w : Work). KeepsNeeded (circuit_of c.args.n.now) w.kept) (sym c.in_default.ensures.1)
    (marking_done (circuit_of c.args.n.now) c.loop-net.self c.loop-net.invariant c.in_default.ensures.0)
