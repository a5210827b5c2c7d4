use Rattle.std.proofs.Common.{◌<◌, sym, subst, length, arith}
use Rattle.pdl_machine_run.specs.Ready.{AreStages}
use Rattle.pdl_machine_run.proofs.StageMoves.{stages_set, stages_swap}
use Rattle.pdl_machine_run.proofs.moves.go.Goals as goal

pub returns-clause-wide : goal.returns-clause-wide
returns-clause-wide c f h =
    let xs = c.args.stages.now in
    let k = c.args.k in
    let here : k < length xs = omega arith in
    let swapped : AreStages f c.swap.new.self = subst (AreStages f) (sym c.swap.ensures.after) (stages_swap xs k c.args.q here c.requires.stage f h) in
    let long = c.swap.ensures.len in
    let x = c.index-stages-k.result in
    stages_set f c.swap.new.self k c.vacate.new.stage swapped (c.vacate.ensures.wide f (swapped k x (omega arith)))
