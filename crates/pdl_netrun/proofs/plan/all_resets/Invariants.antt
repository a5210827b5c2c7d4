use Rattle.std.proofs.Common.{◌≡◌, take, map}
use Rattle.pdl_netrun.proofs.plan.all_resets.Given as goal

abbrev pub invariant-loop-reg : goal.invariant-loop-reg
invariant-loop-reg l = l.resets.items ≡ map (λ r. r.reset) (take l.reg-index l.n.regs)
