use Rattle.std.proofs.Common.{◌≡◌, ◌++◌}
use Rattle.pdl_form.specs.FormView.{form}
use Rattle.pdl_machine_facts.specs.Slots.{ways}
use Rattle.pdl_pipe_registers.proofs.WaysMade.{ways_left}
use Rattle.pdl_pipe_registers.proofs.ways.ways_into.Given as goal

-- with those that are left they are all
abbrev pub invariant-loop-j : goal.invariant-loop-j
invariant-loop-j l = l.list.items ++ ways_left (form l.pipe).pipe l.q l.j ≡ ways (form l.pipe).pipe l.q
