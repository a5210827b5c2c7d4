-- The stages of an emission are those of the law, and begin as the law says.
use Rattle.std.proofs.Common.{ℕ, ◌<◌, length, refl}
use Rattle.pdl_net.specs.Well.{IsWell}
use Rattle.pdl_law_parts.specs.Views.{moves_where}
use Rattle.pdl_law_parts.specs.Compiled.{Same, IsStage, IsStart}
use Rattle.pdl_pipe_walk.specs.Locked.{Members}
use Rattle.pdl_pipe_answers.specs.Ports.{answers_in}
use Rattle.pdl_pipe_registers.specs.Staged.{next_signals}
use Rattle.pdl_pipe_nexts.specs.Lines.{line_pipe}
use Rattle.pdl_pipe_emitted.specs.MadeLine.{AreNextTickets, IsLineMade}
use Rattle.pdl_pipe_emitted.proofs.LineGrowth.{locks_next, line_made}
use Rattle.pdl_pipe_emitted.proofs.StageMade.{is_stage}
use Rattle.pdl_pipe_emitted.proofs.StartMade.{is_start}
use Rattle.pdl_pipe_emitted.specs.Emitted.{Nets, Emission, locks_of, views_of, moves_of, gates_of}
use Rattle.pdl_pipe_emitted.proofs.LaidGrowth.{keeps_ac, keeps_ce, keeps_ed, stage_nexts}

module _ {T : Type 0} (l : Members T) (n : Nets T) (em : Emission l n) where
  -- the tickets that stages take where their threads have none are the locks' next ones
  pub next_tickets : AreNextTickets (line_pipe n.line) (locks_of l n em) (next_signals em.a n.locks)
  next_tickets = locks_next l em.a (line_pipe n.line) n.locks em.layout.locked

  module _ (well : IsWell em.d) where
    -- the line was made, and its registers were left alone since
    pub made_line : IsLineMade em.a em.c em.d n.line (next_signals em.a n.locks) (answers_in em.a n.line.shared.now.ports.now) (locks_of l n em)
    made_line =
        line_made em.a em.c em.e em.d n.line (next_signals em.a n.locks) (answers_in em.a n.line.shared.now.ports.now)
        (locks_of l n em) em.high (length em.a.regs)
        em.layout.staged em.layout.apart (keeps_ac l n em) em.line (keeps_ce l n em) em.takes (keeps_ed l n em) well (stage_nexts l n em)

    -- at the start stage 0 holds the first thread's arguments, and no location is marked
    pub begins_made : IsStart (line_pipe n.line) em.d (views_of l n em)
    begins_made =
        is_start em.a em.c em.d n.line (next_signals em.a n.locks) (answers_in em.a n.line.shared.now.ports.now) (locks_of l n em) em.can.begins made_line

    -- stage k is as the law of a netlist asks, where its move is the one by the gates and the moves of later stages
    pub stage_made : (k : ℕ) → k < length (line_pipe n.line).stages
        → Same em.d (moves_of l n em k) (moves_where (line_pipe n.line) (views_of l n em) (gates_of l n em).gate (moves_of l n em) k)
        → IsStage (line_pipe n.line) (locks_of l n em) em.d (views_of l n em) (gates_of l n em) (moves_of l n em) k
    stage_made k low leaves =
        is_stage em.a em.c em.d n.line (next_signals em.a n.locks) (answers_in em.a n.line.shared.now.ports.now) (locks_of l n em) em.can.begins made_line
        (gates_of l n em) next_tickets k low refl leaves
