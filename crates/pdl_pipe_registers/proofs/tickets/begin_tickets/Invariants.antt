use Rattle.std.proofs.Common.{◌≡◌, ℕ, ◌<◌, false, take}
use Rattle.pdl_form.specs.FormView.{form}
use Rattle.pdl_pipe_exprs.specs.Nets.{signals_in, signal_at, widths_of}
use Rattle.pdl_pipe_lives.specs.Needs.{goes_with}
use Rattle.pdl_law_parts.specs.Views.{View}
use Rattle.pdl_pipe_registers.specs.declared.nets.Item.TheVariants.{Ticket}
use Rattle.pdl_pipe_registers.specs.Stages.{IsSettled}
use Rattle.pdl_pipe_registers.proofs.Begins.{SoFar}
use Rattle.pdl_pipe_registers.proofs.tickets.begin_tickets.Given as goal

-- the first tickets are begun
abbrev pub invariant-loop-m : goal.invariant-loop-m
invariant-loop-m l =
    ((us : ℕ → View)
    → SoFar l.fn.b l.b (form l.pipe)
    (signals_in l.fn.b l.shared.next) l.stage l.fn.regs l.regs Ticket (goes_with (form l.pipe).pipe l.stage)
    (λ m. IsSettled (form l.pipe).pipe us l.stage (Ticket m))
    (take l.m (widths_of (signals_in l.fn.b l.shared.next))) l.nets)
    × ((i : ℕ) → i < l.m → goes_with (form l.pipe).pipe l.stage i ≡ false → signal_at (signals_in l.b l.nets) i ≡ signal_at (signals_in l.fn.b l.shared.next) i)
