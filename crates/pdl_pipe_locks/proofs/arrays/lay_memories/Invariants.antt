use Rattle.pdl_form.specs.FormView.{form}
use Rattle.pdl_pipe_walk.specs.Locked.{members}
use Rattle.pdl_pipe_locks.proofs.MadeMemories.{AreMadeTo}
use Rattle.pdl_pipe_locks.proofs.arrays.lay_memories.Given as goal

-- the first memories are made
abbrev pub invariant-loop-m : goal.invariant-loop-m
invariant-loop-m g l = record { made : AreMadeTo (members g.L.LockModule) l.fn.b l.b (form l.pipe).names (form l.pipe).pipe l.made.items l.m }
