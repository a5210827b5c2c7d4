use Rattle.std.proofs.Common.{◌≡◌, ℕ, ◌<◌, take}
use Rattle.pdl_form.specs.FormView.{form}
use Rattle.pdl_net.specs.Growth.{Extends}
use Rattle.pdl_pipe_exprs.specs.Nets.{signals_in, signal_at}
use Rattle.pdl_pipe_answers.specs.law_sides.Sides.{with_answer}
use Rattle.pdl_pipe_answers.specs.Ports.{answers_in}
use Rattle.pdl_pipe_registers.proofs.Begins.{HasNets}
use Rattle.pdl_pipe_registers.proofs.entry.begin_answers.Given as goal

-- the first variables with their answers
abbrev pub invariant-loop-x : goal.invariant-loop-x
invariant-loop-x l =
    Extends l.fn.b l.b × (l.b.regs ≡ l.fn.b.regs) × HasNets l.b (take l.x (form l.pipe).widths) l.nets
    × ((y : ℕ) → y < l.x
    → signal_at (signals_in l.b l.nets) y
    ≡ with_answer (form l.pipe).pipe (answers_in l.fn.b l.shared.ports.now) l.stage y (signal_at (signals_in l.fn.b l.vars) y))
