use Rattle.std.proofs.Common.{sym}
use Rattle.std.proofs.lemmas.List.{take-map}
use Rattle.pdl_form.specs.View.{mem_view}
use Rattle.pdl_machine_run.proofs.answers.front.Goals as goal

pub returns-then-n-mems : goal.returns-then-n-mems
returns-then-n-mems c = sym (take-map mem_view c.args.n c.args.mems.now)
