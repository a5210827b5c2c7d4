use Rattle.pdl_vread_text.proofs.Rules.{one_stopped, none_chosen}
use Rattle.pdl_vread_text.proofs.read.take_rule.Goals as goal

pub returns-in-Err : goal.returns-in-Err
returns-in-Err c = one_stopped _ _ _ _ _ _ c.args.draft.now c.args.draft.now _ c.in-Some.ensures c.fields.ensures c.in-Err.ensures

pub returns-in-None : goal.returns-in-None
returns-in-None c = none_chosen _ _ c.in-None.ensures
