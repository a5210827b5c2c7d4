use Rattle.std.proofs.Common.{◌∙◌}
use Rattle.pdl_vread_nets.proofs.Steps.{net_cell, net_reg, net_input}
use Rattle.pdl_vread_nets.proofs.scope.Scope.net.Goals as goal

pub returns-in-Some : goal.returns-in-Some
returns-in-Some c = net_cell c.args.self.now.file.now _ _ _ (c.in-Some.ensures _ c.requires.cells)

pub returns-in-Some-find : goal.returns-in-Some-find
returns-in-Some-find c = net_reg c.args.self.now.file.now _ _ _ (c.in-None.ensures _ c.requires.cells) (c.in-Some-find.ensures _ c.requires.regs)

pub returns-in-None-find : goal.returns-in-None-find
returns-in-None-find c =
    c.input.ensures ∙ net_input c.args.self.now.file.now _ _ (c.in-None.ensures _ c.requires.cells) (c.in-None-find.ensures _ c.requires.regs)
