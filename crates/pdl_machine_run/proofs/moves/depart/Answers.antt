use Rattle.pdl_machine_run.proofs.StageMoves.{stages_set}
use Rattle.pdl_machine_run.proofs.moves.depart.Goals as goal

pub returns-in-None-clause-wide : goal.returns-in-None-clause-wide
returns-in-None-clause-wide c f h =
    stages_set f c.args.stages.now c.args.k c.vacate.new.stage h (c.vacate.ensures.wide f (h c.args.k c.index-stages-k.result c.requires.stage))
