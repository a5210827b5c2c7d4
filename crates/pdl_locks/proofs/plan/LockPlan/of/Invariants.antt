use Rattle.std.proofs.Common.{◌≡◌, map, take}
use Rattle.pdl_syntax_tree.specs.View.{mem_view, pipe_view}
use Rattle.pdl_locks.specs.Plan.{stages_of}
use Rattle.pdl_locks.proofs.plan.LockPlan.of.Given as goal

-- the stages of the memories so far
abbrev pub invariant-loop-mem : goal.invariant-loop-mem
invariant-loop-mem l = l.mems.items ≡ map (stages_of (pipe_view l.pipe)) (map mem_view (take l.mem-index l.mem-items))
