-- Stages begin with the answers of their ports in all later circuits.
use Rattle.std.proofs.Common.{◌≡◌, refl, sym, ap, ◌∙◌, subst, ℕ, zero, suc, ◌<◌, ◌≤◌, inl, inr, ◌⊎◌, length, arith, List}
use Rattle.std.specs.Prelude.{Option, Some, None, if◌then◌else◌}
use Rattle.std.proofs.lemmas.Bool.{cases_lt, ne_eqb}
use Rattle.std.proofs.lemmas.List.{get_or_past}
use Rattle.pdl_semantics.specs.Flat.{Pipe}
use Rattle.pdl_form.specs.Form.{Form}
use Rattle.pdl_net.specs.Signal.{Signal, no_signal}
use Rattle.pdl_pipe_exprs.specs.Nets.{signals_in, signal_at}
use Rattle.pdl_pipe_exprs.proofs.NetLists.{length_widths}
use Rattle.pdl_port.specs.declared.PortRegs.{PortRegs}
use Rattle.pdl_port.specs.Laws.{AnswerSignals}
use Rattle.pdl_machine_inflight.specs.Readings.{Reading, Reads, reading, places}
use Rattle.pdl_law_parts.specs.Views.{View}
use Rattle.pdl_law_parts.specs.Compiled.{Same}
use Rattle.pdl_law_sides.specs.Sides.{place_answer, memory_answer, some_answer, with_answer}
use Rattle.pdl_pipe_walk.specs.Locked.{Members, locks_in}
use Rattle.pdl_pipe_answers.specs.Ports.{answers_in}
use Rattle.pdl_pipe_answers.proofs.PortAnswers.{answer_same}
use Rattle.pdl_pipe_registers.specs.declared.nets.StageNets.{StageNets}
use Rattle.pdl_pipe_registers.specs.Stages.{IsThereBegun}
use Rattle.pdl_pipe_registers.specs.Staged.{AreStaged, IsStaged, next_signals}
use Rattle.pdl_pipe_registers.proofs.Lists.{view_at, some_stage}
use Rattle.pdl_pipe_nexts.specs.Lines.{line_form, line_pipe}
use Rattle.pdl_pipe_emitted.proofs.LineGrowth.{made_keep}
use Rattle.pdl_pipe_emitted.specs.Emitted.{Nets, Emission, views_of}
use Rattle.pdl_pipe_emitted.proofs.SidesGrowth.{keeps_ac, keeps_ad}

-- ---- a variable that the pipe hasn't

module _ (p : Pipe) (reads : Reads p) (answers : ℕ → ℕ → AnswerSignals) (k x : ℕ) (past : p.vars ≤ x) where
  memory_past : (m : ℕ) (rest : Signal) → memory_answer p answers k x m (reading p m) rest ≡ rest
  memory_past m rest = at (reading p m) refl
    where
      at : (o : Option Reading) → reading p m ≡ o → memory_answer p answers k x m o rest ≡ rest
      at None is = refl
      at (Some r) is =
          let known = (reads.known m r is).2 in
          ap (λ b. if b then place_answer (answers m) k (places p r) 0 rest else rest) (ne_eqb r.var x (λ e. absurd (omega (arith, known, past, e))))

  some_past : (n m : ℕ) (rest : Signal) → some_answer p answers k x n m rest ≡ rest
  some_past zero m rest = refl
  some_past (suc n) m rest = memory_past m (some_answer p answers k x n (suc m) rest) ∙ some_past n (suc m) rest

  -- gets no answer
  answer_past : (rest : Signal) → with_answer p answers k x rest ≡ rest
  answer_past rest = some_past (length p.mems) 0 rest

-- ---- all stages

module _ {T : Type 0} (l : Members T) (n : Nets T) (em : Emission l n) where
  abbrev p : Pipe
  p = line_pipe n.line

  abbrev f : Form
  f = line_form n.line

  abbrev ports : List (Option PortRegs)
  ports = n.line.shared.now.ports.now

  abbrev nexts : List Signal
  nexts = next_signals em.a n.locks

  -- the stages are as they were made
  pub made_now : AreStaged em.c f nexts (answers_in em.a ports) (locks_in l p em.a n.locks) n.line.stages.now
  made_now = made_keep f nexts (answers_in em.a ports) (locks_in l p em.a n.locks) n.line.stages.now em.a em.c (keeps_ac l n em) em.layout.staged

  past_end : (s : StageNets) (x : ℕ) → IsThereBegun em.c f nexts s → length f.widths ≤ x
      → (signal_at (signals_in em.c s.begun) x ≡ no_signal) × (signal_at (signals_in em.c s.vars) x ≡ no_signal)
  past_end s x nets past =
      let begun = ap length nets.begun_wide in
      let vars = ap length nets.vars_wide in
      let b = length_widths (signals_in em.c s.begun) in
      let v = length_widths (signals_in em.c s.vars) in (
        get_or_past (signals_in em.c s.begun) x no_signal (omega (arith, begun, b, past)),
        get_or_past (signals_in em.c s.vars) x no_signal (omega (arith, vars, v, past)),
      )

  begun_now : (k x : ℕ) (s : StageNets) → IsStaged em.c f nexts (answers_in em.a ports) (locks_in l p em.a n.locks) n.line.stages.now k s
      → signal_at (signals_in em.c s.begun) x ≡ with_answer p (answers_in em.d ports) k x (signal_at (signals_in em.c s.vars) x)
  begun_now k x s st = at (cases_lt x (length f.widths))
    where
      at : (x < length f.widths) ⊎ (length f.widths ≤ x)
          → signal_at (signals_in em.c s.begun) x ≡ with_answer p (answers_in em.d ports) k x (signal_at (signals_in em.c s.vars) x)
      at (inl low) = st.answered x low ∙ sym (answer_same em.a em.d (keeps_ad l n em) p ports k x (signal_at (signals_in em.c s.vars) x) em.layout.shared.ports)
      at (inr high) =
          let vars = em.can.typed.vars in
          let ends = past_end s x st.nets high in
          ends.0
          ∙ sym (answer_past p em.can.reads (answers_in em.d ports) k x (omega (arith, vars, high)) no_signal)
          ∙ sym (ap (with_answer p (answers_in em.d ports) k x) ends.1)

  -- each variable of a stage is as it was kept, with this cycle's answer
  pub begun_is : (k x : ℕ) → k < length p.stages
      → Same em.d ((views_of l n em k).begun.vars x) (with_answer p (answers_in em.d ports) k x ((views_of l n em k).kept x))
  begun_is k x low =
      let count = em.layout.count in
      let l' : k < length n.line.stages.now = omega (arith, low, count) in
      let some = some_stage n.line.stages.now k l' in
      let s = some.0 in
      subst (λ (u : View). Same em.d (u.begun.vars x) (with_answer p (answers_in em.d ports) k x (u.kept x)))
      (sym (view_at em.c n.line.stages.now k s l' some.1))
      (λ t suits. ap (λ (f : Signal). f.value t) (begun_now k x s (made_now k s l' some.1)))
