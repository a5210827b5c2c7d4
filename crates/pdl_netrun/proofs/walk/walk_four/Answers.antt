use Rattle.std.proofs.Common.{ap, ◌∙◌, ◌+◌, drop, arith}
use Rattle.pdl_netrun.specs.Steps.{steps_with, after_steps, array_words}
use Rattle.pdl_netrun.proofs.Steps.{halves_after, left_all}
use Rattle.pdl_netrun.proofs.walk.walk_four.Goals as goal

pub returns : goal.returns
returns g c =
    let kind = g.K.CellOperation.kind in
    let os = c.args.operands.now in
    let ws = array_words c.args.arrays.now in
    c.walk_two-2.ensures
    ∙ ap (λ l. after_steps (steps_with kind l) (c.args.first + 2) c.walk_two.new.values ws) (left_all os 2)
    ∙ ap (λ x. after_steps (steps_with kind (drop 2 os)) (c.args.first + 2) x ws) c.walk_two.ensures
    ∙ halves_after kind os 2 c.args.first c.args.values.now ws (let e = c.requires.four in omega (arith, e))
