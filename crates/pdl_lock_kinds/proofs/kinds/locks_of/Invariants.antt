use Rattle.std.proofs.Common.{◌≡◌, ◌++◌, drop}
use Rattle.pdl_form.specs.View.{mems_view}
use Rattle.pdl_lock_kinds.specs.AskedLocks.{locks_asked}
use Rattle.pdl_lock_kinds.proofs.kinds.locks_of.Given as goal

-- the locks so far, and those of the memories that are left
abbrev pub invariant-loop-m : goal.invariant-loop-m
invariant-loop-m l = l.locks.items ++ locks_asked (mems_view (drop l.m-index l.mems)) ≡ locks_asked (mems_view l.mems)
