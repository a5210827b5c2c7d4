use Rattle.std.proofs.Common.{take, map}
use Rattle.pdl_vread_nets.specs.Places.{AreFirsts}
use Rattle.pdl_vread_nets.proofs.scope.regs_of.Given as goal

abbrev pub invariant-loop-reg : goal.invariant-loop-reg
invariant-loop-reg l = AreFirsts (map (λ d. d.name) (take l.reg-index l.regs)) l.places
