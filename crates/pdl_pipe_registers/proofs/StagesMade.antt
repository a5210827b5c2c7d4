-- The stages of a pipe, made one after the other.
use Rattle.std.proofs.Common.{◌≡◌, ℕ, ◌+◌, ◌<◌, ◌≤◌, List, [], ◌∷◌, ◌++◌, length, refl, sym, ap, ◌∙◌, arith}
use Rattle.std.proofs.lemmas.List.{get_or_append_left, length-append}
use Rattle.pdl_form.specs.Form.{Form}
use Rattle.pdl_net.specs.Circuit.{Circuit}
use Rattle.pdl_net.specs.Signal.{Signal}
use Rattle.pdl_net.specs.Growth.{Keeps, Extends}
use Rattle.pdl_net.proofs.Keeps.{extends_keeps, extends_trans, regs_grow}
use Rattle.pdl_pipe_exprs.specs.Nets.{signals_in}
use Rattle.pdl_pipe_exprs.proofs.NetLists.{signals_keep}
use Rattle.pdl_port.specs.Laws.{AnswerSignals}
use Rattle.pdl_law_parts.specs.Walk.{Locks}
use Rattle.pdl_pipe_registers.specs.declared.nets.Shared.{Shared}
use Rattle.pdl_pipe_registers.specs.declared.nets.StageNets.{StageNets}
use Rattle.pdl_pipe_registers.specs.Stages.{end_of, IsAt}
use Rattle.pdl_pipe_registers.specs.Begun.{IsShared, IsEnded, AreEnded}
use Rattle.pdl_pipe_registers.specs.Staged.{IsStaged, AreStaged, AreApart}
use Rattle.pdl_pipe_registers.proofs.Begins.{shared_keep, ends_keep}
use Rattle.pdl_pipe_registers.proofs.StageEnds.{all_staged, at_more}
use Rattle.pdl_word.proofs.Each.{each_push}

apart_none : (low high : ℕ) → AreApart low high []
apart_none low high = record {
  from = λ k s l. absurd (omega (arith, l));
  to = λ k s l. absurd (omega (arith, l));
  apart = λ j k s t q l. absurd (omega (arith, l));
}

apart_more : (low mid high : ℕ) (ss : List StageNets) (t : StageNets)
    → low ≤ mid → t.regs.valid ≡ mid → end_of t.regs ≤ high → AreApart low mid ss → AreApart low high (ss ++ t ∷ [])
apart_more low mid high ss t l place last h = record {
  from = at_more (λ k s. low ≤ s.regs.valid) ss t h.from (omega (arith, l, place));
  to = at_more (λ k s. end_of s.regs ≤ high) ss t (λ k s q is. let m = h.to k s q is in omega (arith, m, place, last)) last;
  apart = λ j k s u q m at is.
      at_more (λ n v. (i : ℕ) (r : StageNets) → i < n → IsAt (ss ++ t ∷ []) i r → end_of r.regs ≤ v.regs.valid) ss t
      (λ n v b on i r below here. h.apart i n r v below b (sym (get_or_append_left ss (t ∷ []) r i (omega (arith, below, b))) ∙ here) on)
      (λ i r below here. let to = h.to i r below (sym (get_or_append_left ss (t ∷ []) r i below) ∙ here) in omega (arith, to, place)) k u m is j s q at;
}

-- the first i stages stand with their rows
pub record StagesSoFar (a c : Circuit) (f : Form) (nexts : List Signal) (answers : ℕ → ℕ → AnswerSignals) (ls : Locks)
    (x : Shared) (ss : List StageNets) (i : ℕ) : Type 0 where
  pub extends : Extends a c
  pub shared : IsShared c f x
  pub next : signals_in c x.next ≡ nexts
  pub count : length ss ≡ i
  pub staged : AreStaged c f nexts answers ls ss
  pub ended : AreEnded c f nexts ss
  pub apart : AreApart (length a.regs) (length c.regs) ss

-- no stage is made as yet where what all stages share is there
pub stages_none : (a c : Circuit) (f : Form) (nexts : List Signal) (answers : ℕ → ℕ → AnswerSignals) (ls : Locks) (x : Shared)
    → Extends a c → IsShared c f x → signals_in c x.next ≡ nexts → StagesSoFar a c f nexts answers ls x [] 0
stages_none a c f nexts answers ls x e h next = record {
  extends = e;
  shared = h;
  next = next;
  count = refl;
  staged = λ k s l. absurd (omega (arith, l));
  ended = tt;
  apart = apart_none (length a.regs) (length c.regs);
}

-- with one stage more, whose registers are new, the first i + 1 stages are made
pub stages_more : (a c d : Circuit) (f : Form) (nexts : List Signal) (answers : ℕ → ℕ → AnswerSignals) (ls : Locks)
    (x : Shared) (ss : List StageNets) (i : ℕ) (t : StageNets)
    → Extends c d → IsStaged d f nexts answers ls ss (length ss) t → t.regs.valid ≡ length c.regs
    → end_of t.regs ≤ length d.regs → StagesSoFar a c f nexts answers ls x ss i
    → StagesSoFar a d f nexts answers ls x (ss ++ t ∷ []) (i + 1)
stages_more a c d f nexts answers ls x ss i t cd new place last h =
    let e : Keeps c d = extends_keeps c d cd in
    record {
      extends = extends_trans a c d h.extends cd;
      shared = shared_keep c d f x e h.shared;
      next = signals_keep c d x.next e h.shared.next_there ∙ h.next;
      count = length-append ss (t ∷ []) ∙ ap (λ n. n + 1) h.count;
      staged = all_staged c d f nexts answers ls ss t e h.ended h.staged new;
      ended =
          each_push (IsEnded d f nexts) ss t
          (ends_keep c d f nexts ss e h.ended) record { walk = new.walk; tickets = new.nets.tickets; tickets_wide = new.nets.tickets_wide };
      apart = apart_more (length a.regs) (length c.regs) (length d.regs) ss t (regs_grow a c (extends_keeps a c h.extends)) place last h.apart;
    }
