use Rattle.pdl_rules_judge.proofs.order.ask_widths.Goals as goal

pub widths_broken-requires : goal.widths_broken-requires
widths_broken-requires c = record { variables = c.requires.variables; places = c.requires.of }
