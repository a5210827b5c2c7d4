use Rattle.std.proofs.Common.{◌≡◌, drop}
use Rattle.pdl_semantics.specs.Machine as machine
use Rattle.pdl_machine_run.proofs.stmts.same_args.Given as goal

-- the arguments left decide
abbrev pub invariant-loop-i : goal.invariant-loop-i
invariant-loop-i l = machine.same_args (drop l.i l.these) (drop l.i l.those) ≡ machine.same_args l.these l.those
