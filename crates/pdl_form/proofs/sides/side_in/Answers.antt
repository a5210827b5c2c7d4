use Rattle.std.proofs.Common.{◌≡◌, ap, ◌∙◌, Bool, Option, is_some}
use Rattle.pdl_semantics.specs.Stages.{sides_of}
use Rattle.pdl_form.specs.Sides.{first_of}
use Rattle.pdl_form.specs.View.{branch_view, branches_view}
use Rattle.pdl_form.proofs.SideLists.{first_of_four, some_side}
use Rattle.pdl_form.proofs.sides.side_in.Goals as goal

pub returns-clause-value : goal.returns-clause-value
returns-clause-value c =
    let bs = c.args.branches in
    first_of_four c.args.f (branch_view bs.first) (branch_view bs.second) (branch_view bs.third) (branch_view bs.fourth)
    c.side_of.result c.side_of-2.result c.side_of-3.result c.side_of-4.result c.or_side-inner.result c.or_side-outer.result c.or_side.result
    c.side_of.ensures c.side_of-2.ensures c.side_of-3.ensures c.side_of-4.ensures c.or_side-inner.ensures c.or_side-outer.ensures c.or_side.ensures

pub returns-clause-is : goal.returns-clause-is
returns-clause-is c =
    let bs = c.args.branches in
    let value : c.or_side.result ≡ first_of (sides_of c.args.f (branches_view bs)) =
    first_of_four c.args.f (branch_view bs.first) (branch_view bs.second) (branch_view bs.third) (branch_view bs.fourth)
    c.side_of.result c.side_of-2.result c.side_of-3.result c.side_of-4.result c.or_side-inner.result c.or_side-outer.result c.or_side.result
    c.side_of.ensures c.side_of-2.ensures c.side_of-3.ensures c.side_of-4.ensures c.or_side-inner.ensures c.or_side-outer.ensures c.or_side.ensures in
    ap (λ (o : Option Bool). is_some o) value ∙ some_side c.args.f (branches_view bs)
