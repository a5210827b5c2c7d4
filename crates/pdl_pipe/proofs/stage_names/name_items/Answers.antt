use Rattle.pdl_pipe.proofs.NamedParts.{adds_none, adds_more}
use Rattle.pdl_pipe.proofs.stage_names.name_items.Goals as goal

pub loop-item-init : goal.loop-item-init
loop-item-init c = adds_none c.args.b.now c.args.line.now c.args.names.now.items

pub loop-item-preserved : goal.loop-item-preserved
loop-item-preserved c =
    adds_more c.args.b.now c.args.line.now c.args.names.now.items c.loop-item.names.items c.name_item.new.names.items
    c.loop-item.invariant c.in_ok-name_item.ensures
