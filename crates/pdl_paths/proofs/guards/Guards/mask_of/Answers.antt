use Rattle.std.proofs.Common.{ap, sym, ◌∙◌}
use Rattle.pdl_paths.specs.Guards.{branch_view}
use Rattle.pdl_paths.specs.Masks.{with_branch, with_number, everywhere}
use Rattle.pdl_paths.proofs.Walks.{folded}
use Rattle.pdl_paths.proofs.guards.Guards.mask_of.Goals as goal

pub loop-branch-preserved : goal.loop-branch-preserved
loop-branch-preserved c =
    let b = branch_view c.branch-item.result in
    c.with-mask.ensures
    ∙ ap (λ n. with_number n b.truth c.loop-branch.mask) c.number.ensures
    ∙ ap (λ m. with_branch c.args.self.now m b) c.loop-branch.invariant
    ∙ sym (folded (with_branch c.args.self.now) everywhere branch_view _ _ _ c.loop-branch-test.true c.branch-item.is)
