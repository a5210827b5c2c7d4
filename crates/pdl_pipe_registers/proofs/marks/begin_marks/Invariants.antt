use Rattle.std.proofs.Common.{[], take}
use Rattle.pdl_word.specs.Each.{Each}
use Rattle.pdl_form.specs.FormView.{form}
use Rattle.pdl_pipe_exprs.specs.Nets.{signals_in}
use Rattle.pdl_pipe_registers.specs.Begun.{earlier_views, earlier_count, HasAllMarks}
use Rattle.pdl_pipe_registers.proofs.MarksBegun.{MarksSoFar}
use Rattle.pdl_pipe_registers.proofs.marks.begin_marks.Given as goal

-- those out of the first stages that may lead here are listed
abbrev pub invariant-loop-j : goal.invariant-loop-j
invariant-loop-j l =
    MarksSoFar l.fn.b l.b (form l.pipe) (signals_in l.fn.b l.shared.next) (earlier_views l.fn.b l.earlier) (earlier_count l.earlier) l.fn.regs [] l.regs l.marks
    × Each (λ j. HasAllMarks (form l.pipe).pipe (earlier_count l.earlier) (earlier_views l.fn.b l.earlier j) l.marks) (take l.j-index l.earlier.ways.now)
