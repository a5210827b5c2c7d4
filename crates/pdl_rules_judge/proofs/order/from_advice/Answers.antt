use Rattle.pdl_rules_judge.proofs.order.from_advice.Goals as goal

pub advice_broken-requires : goal.advice_broken-requires
advice_broken-requires c = record { variables = c.requires.known.variables; places = c.requires.known.of }
