use Rattle.std.proofs.Common.{◌≡◌, drop}
use Rattle.pdl_form.specs.FormView.{form}
use Rattle.pdl_machine_run.specs.Acts.{acts_of}
use Rattle.pdl_semantics.specs.Cycle as stated
use Rattle.pdl_machine_run.proofs.orders.has_left.Given as goal

-- the stages left decide
abbrev pub invariant-loop-k : goal.invariant-loop-k
invariant-loop-k l = stated.has_left (form l.pipe).pipe l.f (acts_of l.k (drop l.k l.stages)) ≡ stated.has_left (form l.pipe).pipe l.f (acts_of 0 l.stages)
