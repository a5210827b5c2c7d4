use Rattle.std.proofs.Common.{◌≡◌, take, map}
use Rattle.pdl_netrun.specs.Order.{place_in}
use Rattle.pdl_netrun.proofs.plan.all_nexts.Given as goal

abbrev pub invariant-loop-r : goal.invariant-loop-r
invariant-loop-r l = l.places.items ≡ map (λ r. place_in l.order r.next) (take l.r l.n.regs)
