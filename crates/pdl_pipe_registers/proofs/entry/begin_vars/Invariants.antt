use Rattle.std.proofs.Common.{take}
use Rattle.pdl_form.specs.FormView.{form}
use Rattle.pdl_pipe_exprs.specs.Nets.{signals_in}
use Rattle.pdl_law_parts.specs.Lives.{lives_from}
use Rattle.pdl_pipe_registers.specs.declared.nets.Item.TheVariants.{Var}
use Rattle.pdl_pipe_registers.specs.Begun.{earlier_count, IsSettledAfter}
use Rattle.pdl_pipe_registers.proofs.Begins.{SoFar}
use Rattle.pdl_pipe_registers.proofs.entry.begin_vars.Given as goal

-- the first variables are begun
abbrev pub invariant-loop-x : goal.invariant-loop-x
invariant-loop-x l =
    SoFar l.fn.b l.b (form l.pipe) (signals_in l.fn.b l.shared.next)
    (earlier_count l.earlier) l.fn.regs l.regs Var (lives_from (form l.pipe).pipe (earlier_count l.earlier))
    (λ x. IsSettledAfter l.fn.b (form l.pipe) l.earlier (Var x)) (take l.x (form l.pipe).widths) l.nets
