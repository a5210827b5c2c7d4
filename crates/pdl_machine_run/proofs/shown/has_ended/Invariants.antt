use Rattle.std.proofs.Common.{◌≡◌, drop}
use Rattle.pdl_form.specs.FormView.{form}
use Rattle.pdl_machine_run.specs.Acts.{acts_of, one_ends}
use Rattle.pdl_machine_run.proofs.shown.has_ended.Given as goal

-- the stages left decide
abbrev pub invariant-loop-k : goal.invariant-loop-k
invariant-loop-k l = one_ends (form l.pipe).pipe (acts_of l.k (drop l.k l.stages)) ≡ one_ends (form l.pipe).pipe (acts_of 0 l.stages)
