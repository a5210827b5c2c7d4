use Rattle.std.proofs.Common.{◌≤◌, ℕ, arith, subst, All}
use Rattle.std.proofs.lemmas.Grind.{common_steps}
use Rattle.std.proofs.lemmas.List.{take_all}
use Rattle.std.proofs.lemmas.List.Elements.{All-more}
use Rattle.pdl_netrun.proofs.widths.are_narrow.Goals as goal

pub loop-width-preserved : goal.loop-width-preserved
loop-width-preserved c =
    All-more (λ (w : ℕ). w ≤ 64) c.args.widths.now c.loop-width.width-index 0 c.loop-width-test.true c.loop-width.invariant (grind (arith, common_steps))

pub returns : goal.returns
returns c = λ t.
    subst (All (λ (w : ℕ). w ≤ 64)) (take_all c.loop-width.width-index c.args.widths.now c.loop-width-test.false) c.loop-width.invariant
