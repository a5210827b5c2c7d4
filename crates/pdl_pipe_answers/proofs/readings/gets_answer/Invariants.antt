use Rattle.std.proofs.Common.{◌≡◌, ◌-◌, length}
use Rattle.pdl_form.specs.FormView.{form}
use Rattle.pdl_pipe_answers.specs.Readings.{gets_some, gets_answer}
use Rattle.pdl_pipe_answers.proofs.readings.gets_answer.Given as goal

-- the first memories don't
abbrev pub invariant-loop-m : goal.invariant-loop-m
invariant-loop-m l = gets_some (form l.pipe).pipe l.stage l.x (length (form l.pipe).pipe.mems - l.m) l.m ≡ gets_answer (form l.pipe).pipe l.stage l.x
