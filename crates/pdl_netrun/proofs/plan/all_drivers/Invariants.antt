use Rattle.std.proofs.Common.{◌≡◌, ◌++◌, drop, map, filter_map}
use Rattle.pdl_net.specs.Circuit.{port_output}
use Rattle.pdl_netrun.specs.Order.{place_in}
use Rattle.pdl_netrun.proofs.plan.all_drivers.Given as goal

abbrev pub invariant-loop-i : goal.invariant-loop-i
invariant-loop-i l =
    l.places.items ++ map (λ o. place_in l.order o.net) (filter_map port_output (drop l.i l.n.ports))
    ≡ map (λ o. place_in l.order o.net) (filter_map port_output l.n.ports)
