use Rattle.std.proofs.Common.{subst}
use Rattle.pdl_net.specs.Growth.{Own, ExtendsBut}
use Rattle.pdl_port.specs.declared.layout.PortLayout.{PortLayout}
use Rattle.pdl_port.specs.Laws.{places, step_signals, StepLaw}
use Rattle.pdl_port.specs.Places.{layout_of, stands}
use Rattle.pdl_port.specs.Nets.{NextPort, own_all}
use Rattle.pdl_port.proofs.Law.{step_law}
use Rattle.pdl_port.proofs.PlacedRegisters.{own_is}
use Rattle.pdl_port.proofs.step.emit_port_step.Goals as goal

pub returns-clause-law : goal.returns-clause-law
returns-clause-law c =
    let a = c.args.b.now in
    let d = c.emit_all.new.b in
    let r = c.args.r.now in
    let f = step_signals a r c.args.p.now in
    let P : PortLayout → Type 0 = λ l. NextPort d l f in
    let Q : Own → Type 0 = λ o. StepLaw (stands r) (places r) o d f in
    subst Q (own_is r c.requires.placed.count) (step_law d (layout_of r) f (subst P c.of-l.ensures c.in_ok-emit_all.ensures.next))

pub returns-clause-extends : goal.returns-clause-extends
returns-clause-extends c =
    let a = c.args.b.now in
    let d = c.emit_all.new.b in
    let r = c.args.r.now in
    let P : PortLayout → Type 0 = λ l. ExtendsBut (own_all l) a d in
    let Q : Own → Type 0 = λ o. ExtendsBut o a d in
    subst Q (own_is r c.requires.placed.count) (subst P c.of-l.ensures c.emit_all.ensures.extends)
