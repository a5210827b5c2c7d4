use Rattle.std.proofs.Common.{◌<◌, ◌^◌, arith, subst}
use Rattle.std.proofs.lemmas.Grind.{common_steps}
use Rattle.pdl_net.specs.Run.{value_at}
use Rattle.pdl_netrun.specs.Sim.{Run}
use Rattle.pdl_netrun.proofs.Cycles.{addresses_now}
use Rattle.pdl_netrun.proofs.sim.Sim.commit.Goals as goal

pub committed-requires : goal.committed-requires
committed-requires c =
    let p = c.index.result.now in
    let a =
    addresses_now c.self.inside c.self.invariant c.args.m p (grind (arith, common_steps)) (let e = c.index.ensures in grind (arith, common_steps, e)) in
    subst (λ (r : Run). value_at r.last.ports p.first.addr < 2 ^ 64) c.self.view_is a.0
