-- The squashes of an emission: whom they remove, and where they cut each lock.
use Rattle.std.proofs.Common.{◌≡◌, refl, sym, ap, ◌∙◌, subst, ℕ, ◌<◌, true, List, length}
use mathlib.Core.Path.{fun_ext}
use Rattle.std.proofs.lemmas.Bool.{false≢true}
use Rattle.std.specs.Prelude.{Option, Some, None, is_some, Contains}
use Rattle.pdl_semantics.specs.Flat.{Pipe}
use Rattle.pdl_semantics.specs.Stages.{verify_stage}
use Rattle.pdl_semantics.specs.Updates.{squash_stages}
use Rattle.pdl_net.specs.declared.Net.{Net}
use Rattle.pdl_net.specs.Circuit.{Circuit}
use Rattle.pdl_net.specs.Signal.{Signal}
use Rattle.pdl_net.specs.Meaning.{signal}
use Rattle.pdl_net.specs.Growth.{Keeps}
use Rattle.pdl_lockapi.specs.Laws.{TicketLaw}
use Rattle.pdl_pipe_exprs.specs.Nets.{signals_in, signal_at}
use Rattle.pdl_pipe_exprs.proofs.NetLists.{signals_keep}
use Rattle.pdl_squash.specs.Laws.{SquashLaw}
use Rattle.pdl_law_parts.specs.Walk.{Locks, is_locked, zero_bit}
use Rattle.pdl_law_parts.specs.Views.{View, Gates}
use Rattle.pdl_law_parts.proofs.StageLooks.{lock_there}
use Rattle.pdl_law_sides.specs.Sides.{Sides}
use Rattle.pdl_law_sides.specs.HasSides.{squash_of, HasRemovals, HasTails}
use Rattle.pdl_pipe_walk.specs.declared.locks.MemLock.{MemLock}
use Rattle.pdl_pipe_walk.specs.Locked.{Members, some_at, of_lock, locks_in}
use Rattle.pdl_pipe_answers.specs.Ports.{answers_in}
use Rattle.pdl_pipe_beside.proofs.SquashFolds.{verify_has}
use Rattle.pdl_pipe_registers.specs.Staged.{next_signals}
use Rattle.pdl_pipe_nexts.specs.Lines.{line_form, line_pipe, line_views, line_kills}
use Rattle.pdl_pipe_nexts.proofs.LineGrowth.{bits_there, line_keep, views_same, all_moves_same}
use Rattle.pdl_pipe_emitted.proofs.LineGrowth.{made_views_same}
use Rattle.pdl_pipe_tails.specs.Tails.{HasCut, AreTails, IsNextOf}
use Rattle.pdl_pipe_tails.proofs.LineTails.{has_tails}
use Rattle.pdl_pipe_emitted.specs.Emitted.{Nets, Emission, locks_of, views_of, moves_of, gates_of, sides_of}
use Rattle.pdl_pipe_emitted.proofs.SidesGrowth.{keeps_ab, keeps_ac, keeps_ae, keeps_bc, keeps_bf, keeps_ce, keeps_fd, tails_alone}
use Rattle.pdl_pipe_emitted.proofs.SidesPorts.{moves_first}
use Rattle.pdl_pipe_emitted.proofs.LaidStages.{next_tickets}

module _ {T : Type 0} (l : Members T) (n : Nets T) (em : Emission l n) where
  abbrev p : Pipe
  p = line_pipe n.line

  abbrev vs : ℕ → View
  vs = views_of l n em

  abbrev moves : ℕ → Signal
  moves = moves_of l n em

  abbrev gates : Gates
  gates = gates_of l n em

  abbrev sides : Sides
  sides = sides_of l n em

  abbrev ls : Locks
  ls = locks_of l n em

  -- ---- the line before the requests

  views_from : (y : Circuit) → Keeps em.a y → line_views y n.line ≡ line_views em.a n.line
  views_from y keeps =
      let answers = answers_in em.a n.line.shared.now.ports.now in
      made_views_same (line_form n.line) (next_signals em.a n.locks) answers (locks_in l p em.a n.locks) n.line.stages.now em.a y keeps em.layout.staged

  -- the stages have the same views before the requests as after them
  pub views_first : line_views em.b n.line ≡ vs
  views_first = views_from em.b (keeps_ab l n em) ∙ sym (views_from em.c (keeps_ac l n em))

  kills_first : (k : ℕ) → signal_at (signals_in em.b n.moves.kills.items) k ≡ line_kills em.c n.line k
  kills_first k =
      sym (ap (λ fs. signal_at fs k) (signals_keep em.b em.c n.moves.kills.items (keeps_bc l n em) (bits_there em.b n.moves.kills.items em.moved.kills)))
      ∙ ap (λ (xs : List Net). signal_at (signals_in em.c xs) k) (sym em.line_kills_are)

  -- ---- who is removed

  removes : (z : ℕ) → Contains (squash_stages p.stmts) z → SquashLaw (squash_of vs moves z) (sides.squash z) (sides.removed z) (sides.clear z)
  removes z is =
      subst (λ (vs : ℕ → View). SquashLaw (squash_of vs moves z) (sides.squash z) (sides.removed z) (sides.clear z)) views_first
      (subst (λ (ms : ℕ → Signal). SquashLaw (squash_of (line_views em.b n.line) ms z) (sides.squash z) (sides.removed z) (sides.clear z))
      (fun_ext (moves_first l n em)) (em.moved.law z is))

  -- each stage that may squash keeps its law, and all together squash and remove where one does
  pub removals_are : HasRemovals p em.d vs gates moves sides
  removals_are = record {
    law = removes;
    squash = λ s suits. ap (λ (f : Signal). f.value s) em.moved.either;
    kill = λ k low s suits. ap (λ (f : Signal). f.value s) (sym (kills_first k) ∙ em.moved.joined k low);
  }

  -- ---- where locks are cut

  -- a lock's ticket tells its state
  ticket_law : (m : ℕ) (o : Option (MemLock T)) → some_at n.locks m ≡ o → m < length p.mems → is_some o ≡ true
      → TicketLaw (of_lock (λ x. l.stands x.lock x.regs) (λ s y. Unit {0}) o) (of_lock (λ x. l.tickets x.lock) 1 o)
      (of_lock (λ x. signal em.a x.regs.ticket) zero_bit o)
  ticket_law m None at low e = absurd (false≢true e)
  ticket_law m (Some x) at low e = (em.layout.lawful.laws m x low at).ticket

  next_of : (m : ℕ) → is_locked p m ≡ true → IsNextOf em.e n.line ls m
  next_of m locked =
      let low = lock_there p m locked in
      let next = next_tickets l n em m locked in
      record {
        ticket =
            ap (λ fs. signal_at fs m) (signals_keep em.a em.e n.line.shared.now.next (keeps_ae l n em) em.layout.shared.next_there ∙ em.layout.next)
            ∙ next.1;
        wide = next.2;
        law = ticket_law m (some_at n.locks m) refl low (em.layout.locked.locked m low ∙ locked);
      }

  -- a squash of the stage that verifies cuts each lock where the law asks for it
  pub tails_are : (v : ℕ) → verify_stage p.stmts ≡ Some v → HasTails p ls em.d vs gates moves sides v
  tails_are v is =
      let line = line_keep em.c em.e n.line (keeps_ce l n em) em.line in
      let verify = n.moves.squashes.verify in
      let made : AreTails em.e em.f n.line verify n.tails v = subst (λ o. HasCut em.e em.f n.line verify n.tails o) is em.cut in
      let squash : sides.squash v ≡ signal em.f verify =
      verify_has (verify_stage p.stmts) v (signal em.b verify) (signal em.b n.moves.squashes.update) is
      ∙ sym ((keeps_bf l n em).kept verify em.moved.squashes.verify.there) in
      subst (λ (vs : ℕ → View). HasTails p ls em.d vs gates moves sides v) (views_same em.c em.e n.line (keeps_ce l n em) em.line)
      (subst (λ (ms : ℕ → Signal). HasTails p ls em.d (line_views em.e n.line) gates ms sides v) (all_moves_same em.c em.e n.line (keeps_ce l n em) em.line)
      (has_tails em.e em.f em.d n.line verify n.tails v ls line made is (keeps_fd l n em) (tails_alone l n em) next_of gates sides refl squash (λ m. refl)))
