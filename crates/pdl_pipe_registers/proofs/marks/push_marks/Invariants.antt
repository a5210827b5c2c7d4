use Rattle.std.proofs.Common.{take}
use Rattle.pdl_form.specs.FormView.{form}
use Rattle.pdl_pipe_exprs.specs.Nets.{signals_in}
use Rattle.pdl_pipe_registers.specs.Begun.{earlier_views, earlier_count}
use Rattle.pdl_pipe_registers.proofs.MarksBegun.{MarksSoFar, AreSeen}
use Rattle.pdl_pipe_registers.proofs.marks.push_marks.Given as goal

-- the first marks are listed
abbrev pub invariant-loop-i : goal.invariant-loop-i
invariant-loop-i l =
    MarksSoFar l.fn.b l.b (form l.pipe) (signals_in l.fn.b l.shared.next) (earlier_views l.fn.b l.earlier)
    (earlier_count l.earlier) l.fn.regs l.fn.marks l.regs l.marks
    × AreSeen (form l.pipe) (earlier_count l.earlier) (take l.i l.from.end.marks.items) l.marks
