use Rattle.std.proofs.Common.{◌≡◌, ◌++◌, drop}
use Rattle.pdl_form.specs.FormView.{form}
use Rattle.pdl_semantics.specs.SecondWrites as writes
use Rattle.pdl_form_values.proofs.twice.all_twice.Given as goal

-- the memories left are told last
abbrev pub invariant-loop-m : goal.invariant-loop-m
invariant-loop-m l =
    l.twice.items ++ writes.all_twice (form l.pipe).pipe.stmts l.m (drop l.m (form l.pipe).pipe.mems)
    ≡ writes.all_twice (form l.pipe).pipe.stmts 0 (form l.pipe).pipe.mems
