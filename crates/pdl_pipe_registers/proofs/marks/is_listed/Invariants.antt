use Rattle.std.proofs.Common.{◌≡◌, drop}
use Rattle.pdl_pipe_registers.specs.Begun.{is_listed}
use Rattle.pdl_pipe_registers.proofs.marks.is_listed.Given as goal

-- none before is
abbrev pub invariant-loop-x : goal.invariant-loop-x
invariant-loop-x l = is_listed (drop l.x-index l.marks) l.at.mark l.at.mem l.at.var ≡ is_listed l.marks l.at.mark l.at.mem l.at.var
