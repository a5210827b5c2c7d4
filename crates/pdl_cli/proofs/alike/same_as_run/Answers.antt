use Rattle.pdl_cli.proofs.SameRun.{same_run}
use Rattle.pdl_cli.proofs.alike.same_as_run.Goals as goal

pub returns : goal.returns
returns c = λ source text netlist source_name image' cycles delays b. same_run source text netlist source_name image' cycles delays b
