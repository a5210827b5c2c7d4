use Rattle.std.proofs.Common.{take, length}
use Rattle.pdl_form.specs.FormView.{form}
use Rattle.pdl_pipe_exprs.specs.Nets.{signals_in}
use Rattle.pdl_law_parts.specs.Lives.{verifies_from}
use Rattle.pdl_pipe_registers.specs.declared.nets.Item.TheVariants.{Guess}
use Rattle.pdl_pipe_registers.specs.Begun.{earlier_count, IsSparedAfter}
use Rattle.pdl_pipe_registers.proofs.Begins.{SoFar}
use Rattle.pdl_pipe_registers.proofs.guess.begin_guess.Given as goal

-- the first arguments are begun
abbrev pub invariant-loop-i : goal.invariant-loop-i
invariant-loop-i l =
    SoFar l.fn.b l.b (form l.pipe) (signals_in l.fn.b l.shared.next)
    (earlier_count l.earlier) l.fn.regs l.regs Guess (λ i. verifies_from (form l.pipe).pipe (earlier_count l.earlier))
    (λ i. IsSparedAfter l.fn.b (form l.pipe) l.earlier l.vars (Guess i))
    (take l.i (take (length (form l.pipe).pipe.start) (form l.pipe).widths)) l.nets
