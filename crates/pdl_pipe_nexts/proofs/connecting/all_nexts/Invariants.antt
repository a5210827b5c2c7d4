use Rattle.std.proofs.Common.{◌≡◌, length}
use Rattle.pdl_net.specs.Growth.{Extends}
use Rattle.pdl_pipe_nexts.proofs.ConnectedRegisters.{FirstNexts}
use Rattle.pdl_pipe_nexts.proofs.connecting.all_nexts.Given as goal

-- the nets of the first stages are there
abbrev pub invariant-loop-k : goal.invariant-loop-k
invariant-loop-k l = Extends l.fn.b l.b × (l.b.regs ≡ l.fn.b.regs) × (length l.nexts.items ≡ l.k) × FirstNexts l.fn.b l.b l.line l.nexts.items l.k
