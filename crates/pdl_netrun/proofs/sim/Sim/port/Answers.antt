use Rattle.std.proofs.Common.{◌∙◌, ap, arith}
use Rattle.std.specs.Prelude.{slice_index}
use Rattle.std.proofs.lemmas.Grind.{common_steps}
use Rattle.pdl_netrun.specs.Sim.{Run}
use Rattle.pdl_netrun.proofs.Cycles.{driver_now, port_now}
use Rattle.pdl_netrun.proofs.sim.Sim.port.Goals as goal

pub value-requires : goal.value-requires
value-requires c = driver_now c.self.inside c.self.invariant c.args.i _ (grind (arith, common_steps)) (grind (arith, common_steps))

pub returns-then-self : goal.returns-then-self
returns-then-self c =
    port_now c.self.inside c.args.i _ _
    (grind (arith, common_steps)) (grind (arith, common_steps)) c.if-self.true c.value.ensures
    ∙ ap (λ (r : Run). slice_index r.last.ports c.args.i) c.self.view_is
