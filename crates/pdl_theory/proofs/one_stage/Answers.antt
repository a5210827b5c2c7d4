use Rattle.pdl_theory.proofs.OneStages.{whole_threads, same_lines}
use Rattle.pdl_theory.proofs.one_stage.Goals as goal

pub returns : goal.returns
returns c = record { threads = whole_threads; lines = same_lines }
