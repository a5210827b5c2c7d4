use Rattle.std.proofs.Common.{refl, arith}
use Rattle.pdl_rules_names.proofs.OuterBranches.{one_branch, all_branches}
use Rattle.pdl_rules_names.proofs.branches.is_prefix.Goals as goal

pub loop-i-init : goal.loop-i-init
loop-i-init c = λ path h. refl

pub loop-i-preserved : goal.loop-i-preserved
loop-i-preserved c path h =
    one_branch path c.args.outer.now c.args.inner.now c.loop-i.i c.index-outer-i.result c.index-inner-i.result c.loop-i-test.true
    (omega (arith, c.loop-i-test.true, c.if-outer-inner.false)) c.index-outer-i.is c.index-inner-i.is
    (c.is_same.ensures path c.if-not-is_same.false) h (c.loop-i.invariant path h)

pub returns : goal.returns
returns c path e h = all_branches path c.args.outer.now c.loop-i.i c.loop-i-test.false (c.loop-i.invariant path h)
