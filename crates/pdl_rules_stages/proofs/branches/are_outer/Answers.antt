use Rattle.std.proofs.Common.{◌∙◌, sym, ap, ◌+◌, ◌<◌, ◌&&◌, map, drop, length, arith}
use Rattle.std.proofs.lemmas.List.{length-map}
use Rattle.pdl_rules.specs.Stages.{are_outer}
use Rattle.pdl_paths.specs.Guards.{branch_view}
use Rattle.pdl_rules_stages.proofs.PlaceStages.{longer, outer_here}
use Rattle.pdl_rules_stages.proofs.branches.are_outer.Goals as goal
use Rattle.pdl_rules_on_paths.proofs.Nth.{nth}

pub returns-then-outer-branches : goal.returns-then-outer-branches
returns-then-outer-branches c =
    let xs = map branch_view c.args.outer.now in
    let ys = map branch_view c.args.branches.now in
    let more : length ys < length xs = omega (arith, length-map c.args.outer.now branch_view, length-map c.args.branches.now branch_view) in
    sym (longer xs ys more)

pub returns-then-not-same_branch : goal.returns-then-not-same_branch
returns-then-not-same_branch c =
    let xs = map branch_view c.args.outer.now in
    let ys = map branch_view c.args.branches.now in
    let k = c.loop-k.k in
    let got = nth branch_view c.args.outer.now k c.index-outer-k.result (omega arith) c.index-outer-k.is in
    let got_too = nth branch_view c.args.branches.now k c.index-branches-k.result (omega arith) c.index-branches-k.is in
    sym (ap (λ b. b && are_outer (drop (k + 1) xs) (drop (k + 1) ys)) (sym c.same_branch.ensures ∙ c.if-not-same_branch.true))
    ∙ sym (outer_here xs ys k _ _ got got_too)
    ∙ c.loop-k.invariant

pub loop-k-preserved : goal.loop-k-preserved
loop-k-preserved c =
    let xs = map branch_view c.args.outer.now in
    let ys = map branch_view c.args.branches.now in
    let k = c.loop-k.k in
    let got = nth branch_view c.args.outer.now k c.index-outer-k.result (omega arith) c.index-outer-k.is in
    let got_too = nth branch_view c.args.branches.now k c.index-branches-k.result (omega arith) c.index-branches-k.is in
    sym (ap (λ b. b && are_outer (drop (k + 1) xs) (drop (k + 1) ys)) (sym c.same_branch.ensures ∙ c.if-not-same_branch.false))
    ∙ sym (outer_here xs ys k _ _ got got_too)
    ∙ c.loop-k.invariant
