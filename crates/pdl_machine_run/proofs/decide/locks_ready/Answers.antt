use Rattle.pdl_form.specs.FormView.{form}
use Rattle.pdl_machine_run.proofs.decide.locks_ready.Goals as goal

pub returns : goal.returns
returns c = c.locks_in.ensures (form c.args.pipe.now).pipe c.args.beside.now c.requires.memories c.as_slice.ensures.value
