use Rattle.std.proofs.Common.{◌≤◌, arith, subst, All}
use Rattle.std.proofs.lemmas.Grind.{common_steps}
use Rattle.std.proofs.lemmas.List.{take_all}
use Rattle.std.proofs.lemmas.List.Elements.{All-more}
use Rattle.pdl_net.specs.declared.Port.{Port}
use Rattle.pdl_netrun.proofs.widths.have_narrow_ports.Goals as goal

pub loop-port-preserved : goal.loop-port-preserved
loop-port-preserved c =
    All-more (λ (p : Port). p.width ≤ 64) c.args.ports.now c.loop-port.port-index c.port-item.result c.loop-port-test.true c.loop-port.invariant
    (let e = c.port-item.is in grind (arith, common_steps, e))

pub returns : goal.returns
returns c = λ t.
    subst (All (λ (p : Port). p.width ≤ 64)) (take_all c.loop-port.port-index c.args.ports.now c.loop-port-test.false) c.loop-port.invariant
