use Rattle.std.proofs.Common.{◌≤◌, take, All}
use Rattle.pdl_netrun.proofs.widths.have_narrow_regs.Given as goal

abbrev pub invariant-loop-reg : goal.invariant-loop-reg
invariant-loop-reg l = All (λ p. p.width ≤ 64) (take l.reg-index l.regs)
