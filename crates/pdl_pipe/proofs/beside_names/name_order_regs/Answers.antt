use Rattle.pdl_pipe.proofs.NamedParts.{adds_none, adds_more}
use Rattle.pdl_pipe.proofs.beside_names.name_order_regs.Goals as goal

pub loop-place-init : goal.loop-place-init
loop-place-init c = adds_none c.args.b.now c.args.line.now c.args.names.now.items

pub loop-place-preserved : goal.loop-place-preserved
loop-place-preserved c =
    adds_more c.args.b.now c.args.line.now c.args.names.now.items c.loop-place.names.items c.name_reg.new.names.items
    c.loop-place.invariant c.in_ok-name_reg.ensures
