use Rattle.std.proofs.Common.{◌≤◌, arith, subst, All}
use Rattle.std.proofs.lemmas.Grind.{common_steps}
use Rattle.std.proofs.lemmas.List.{take_all}
use Rattle.std.proofs.lemmas.List.Elements.{All-more}
use Rattle.pdl_net.specs.declared.Reg.{Reg}
use Rattle.pdl_net.specs.Circuit.{no_reg}
use Rattle.pdl_netrun.proofs.widths.have_narrow_regs.Goals as goal

pub loop-reg-preserved : goal.loop-reg-preserved
loop-reg-preserved c =
    All-more (λ (p : Reg). p.width ≤ 64) c.args.regs.now c.loop-reg.reg-index no_reg c.loop-reg-test.true c.loop-reg.invariant (grind (arith, common_steps))

pub returns : goal.returns
returns c = λ t.
    subst (All (λ (p : Reg). p.width ≤ 64)) (take_all c.loop-reg.reg-index c.args.regs.now c.loop-reg-test.false) c.loop-reg.invariant
