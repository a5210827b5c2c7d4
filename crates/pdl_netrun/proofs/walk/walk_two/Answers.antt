use Rattle.std.proofs.Common.{ap, ◌∙◌, ◌+◌, drop, arith}
use Rattle.pdl_netrun.specs.Steps.{steps_with, after_steps, array_words}
use Rattle.pdl_netrun.proofs.Steps.{halves_after, left_all}
use Rattle.pdl_netrun.proofs.walk.walk_two.Goals as goal

pub returns : goal.returns
returns g c =
    let kind = g.K.CellOperation.kind in
    let os = c.args.operands.now in
    let ws = array_words c.args.arrays.now in
    c.walk_one-2.ensures
    ∙ ap (λ l. after_steps (steps_with kind l) (c.args.first + 1) c.walk_one.new.values ws) (left_all os 1)
    ∙ ap (λ x. after_steps (steps_with kind (drop 1 os)) (c.args.first + 1) x ws) c.walk_one.ensures
    ∙ halves_after kind os 1 c.args.first c.args.values.now ws (let e = c.requires.two in omega (arith, e))
