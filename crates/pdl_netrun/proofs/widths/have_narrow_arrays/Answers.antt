use Rattle.std.proofs.Common.{◌≤◌, arith, subst, All}
use Rattle.std.proofs.lemmas.Grind.{common_steps}
use Rattle.std.proofs.lemmas.List.{take_all}
use Rattle.std.proofs.lemmas.List.Elements.{All-more}
use Rattle.pdl_net.specs.declared.Array.{Array}
use Rattle.pdl_netrun.proofs.widths.have_narrow_arrays.Goals as goal

pub loop-array-preserved : goal.loop-array-preserved
loop-array-preserved c =
    All-more (λ (p : Array). p.width ≤ 64) c.args.arrays.now c.loop-array.array-index c.array-item.result c.loop-array-test.true c.loop-array.invariant
    (let e = c.array-item.is in grind (arith, common_steps, e))

pub returns : goal.returns
returns c = λ t.
    subst (All (λ (p : Array). p.width ≤ 64)) (take_all c.loop-array.array-index c.args.arrays.now c.loop-array-test.false) c.loop-array.invariant
