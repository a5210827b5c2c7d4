use Rattle.pdl_plain.proofs.Separators.{last, next}
use Rattle.pdl_plain.proofs.stages_by_text.Goals as goal

pub returns-clause-last : goal.returns-clause-last
returns-clause-last c = last

pub returns-clause-next : goal.returns-clause-next
returns-clause-next c = next
