use Rattle.pdl_pipe.proofs.NamedParts.{adds_none, adds_more}
use Rattle.pdl_pipe.proofs.beside_names.name_before.Goals as goal

pub loop-stage-init : goal.loop-stage-init
loop-stage-init c = adds_none c.args.b.now c.args.line.now c.args.names.now.items

pub loop-stage-preserved : goal.loop-stage-preserved
loop-stage-preserved c =
    adds_more c.args.b.now c.args.line.now c.args.names.now.items c.loop-stage.names.items c.name_row.new.names.items
    c.loop-stage.invariant c.in_ok-name_row.ensures
