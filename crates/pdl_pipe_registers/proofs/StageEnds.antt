-- A stage after its statements, and how it stays while the circuit and the list of stages grow.
use Rattle.std.proofs.Common.{◌≡◌, ℕ, ◌<◌, ◌≤◌, List, [], ◌∷◌, ◌++◌, map, length, get_or, refl, sym, ap, ◌∙◌, subst, arith}
use Rattle.std.proofs.lemmas.List.{get_or_append_left, length-append, length-map, map-append}
use Rattle.std.proofs.Math.Seq.{get_or-append_seam}
use Rattle.pdl_semantics.specs.Flat.{Pipe, Stmt}
use Rattle.pdl_semantics.specs.Stages.{in_stage}
use Rattle.pdl_form.specs.Form.{Form}
use Rattle.pdl_net.specs.Circuit.{Circuit}
use Rattle.pdl_net.specs.Signal.{Signal}
use Rattle.pdl_net.specs.Meaning.{IsThere}
use Rattle.pdl_net.specs.Growth.{Keeps}
use Rattle.pdl_net.proofs.Keeps.{keeps_trans}
use Rattle.pdl_net.specs.Well.{IsWell}
use Rattle.pdl_pipe_exprs.specs.Nets.{NetsThere, signals_in, signal_at, widths_of}
use Rattle.pdl_pipe_exprs.proofs.NetLists.{there_keeps, signals_keep}
use Rattle.std.specs.Prelude.{Option}
use Rattle.pdl_port.specs.declared.PortRegs.{PortRegs}
use Rattle.pdl_port.specs.Laws.{AnswerSignals}
use Rattle.pdl_pipe_answers.specs.Ports.{answers_in, HasAnswers}
use Rattle.pdl_pipe_answers.proofs.PortAnswers.{answer_same}
use Rattle.pdl_law_parts.specs.Walk.{Locks, Walk, AreRows}
use Rattle.pdl_pipe_answers.specs.law_sides.Sides.{with_answer}
use Rattle.pdl_pipe_walk.specs.declared.nets.MarkNet.{MarkNet}
use Rattle.pdl_pipe_walk.specs.Parts.{Parts, MarkSignal, walk_of, walk_in}
use Rattle.pdl_pipe_walk.specs.Locked.{tickets_in}
use Rattle.pdl_pipe_walk.specs.Sized.{IsWalk}
use Rattle.pdl_pipe_walk.specs.Steps.{AreSteps}
use Rattle.pdl_pipe_walk.proofs.NetGrowth.{marks_keep, parts_keep, walk_keep}
use Rattle.pdl_pipe_registers.specs.declared.nets.Item.{Item}
use Rattle.pdl_pipe_registers.specs.declared.nets.Item.TheVariants.{Var, Mark, Ticket, Guess}
use Rattle.pdl_pipe_registers.specs.declared.nets.StageNets.{StageNets}
use Rattle.pdl_pipe_registers.specs.Items.{kept_item, ended_item}
use Rattle.pdl_pipe_registers.specs.Stages.{begun_parts, view_in, views_in, no_view, IsThereBegun, HasTickets, HasKept, HasAnswered, IsBegun, IsBegunBy, IsSpared, IsAt}
use Rattle.pdl_pipe_registers.specs.Begun.{AreEnded}
use Rattle.pdl_pipe_registers.specs.Staged.{IsStaged, AreStaged}
use Rattle.pdl_pipe_registers.proofs.Lists.{up_to}
use Rattle.pdl_pipe_registers.proofs.RegisterGrowth.{registers_keep, by_weaker}
use Rattle.pdl_pipe_registers.proofs.Begins.{ends_same, spared_as}
use Rattle.pdl_word.specs.Each.{Each}
use Rattle.pdl_word.proofs.Each.{each_weaker}

module _ (c d : Circuit) (e : Keeps c d) where
  -- what a stage begins with is there in a circuit that keeps its nets
  pub begun_keep : (f : Form) (nexts : List Signal) (s : StageNets) → IsThereBegun c f nexts s → IsThereBegun d f nexts s
  begun_keep f nexts s h = record {
    vars = there_keeps c d s.vars e h.vars;
    vars_wide = ap widths_of (signals_keep c d s.vars e h.vars) ∙ h.vars_wide;
    begun = there_keeps c d s.begun e h.begun;
    begun_wide = ap widths_of (signals_keep c d s.begun e h.begun) ∙ h.begun_wide;
    marks = each_weaker (λ (x : MarkNet). IsThere c x.net) (λ x. IsThere d x.net) (λ x t. e.there x.net t) s.marks h.marks;
    marks_one = subst (Each (λ (x : MarkSignal). x.signal.width ≡ 1)) (sym (marks_keep c d e s.marks h.marks)) h.marks_one;
    tickets = there_keeps c d s.tickets e h.tickets;
    tickets_wide = ap widths_of (signals_keep c d s.tickets e h.tickets) ∙ h.tickets_wide;
    guess = there_keeps c d s.guess e h.guess;
    guess_wide = ap widths_of (signals_keep c d s.guess e h.guess) ∙ h.guess_wide;
  }

  -- a stage begins with the same signals in a circuit that keeps its nets
  pub begun_parts_keep : (f : Form) (nexts : List Signal) (s : StageNets) → IsThereBegun c f nexts s → begun_parts d s ≡ begun_parts c s
  begun_parts_keep f nexts s h =
      let e1 = signals_keep c d s.begun e h.begun in
      let e2 = marks_keep c d e s.marks h.marks in
      let e3 = signals_keep c d s.guess e h.guess in
      cc (e1, e2, e3)

  kept_item_keep : (f : Form) (nexts : List Signal) (s : StageNets) (i : Item) → IsThereBegun c f nexts s
      → kept_item (view_in d s) i ≡ kept_item (view_in c s) i
  kept_item_keep f nexts s (Var x) h = ap (λ fs. signal_at fs x) (signals_keep c d s.vars e h.vars)
  kept_item_keep f nexts s (Mark mark m v) h = ap (λ (w : Walk). w.marks mark m v) (ap walk_of (begun_parts_keep f nexts s h))
  kept_item_keep f nexts s (Ticket m) h = ap (λ fs. signal_at fs m) (signals_keep c d s.tickets e h.tickets)
  kept_item_keep f nexts s (Guess i) h = ap (λ fs. signal_at fs i) (signals_keep c d s.guess e h.guess)

  next_keep : (p : Pipe) (nexts : List Signal) (k : ℕ) (s : StageNets) → NetsThere c s.tickets → HasTickets c p nexts k s → HasTickets d p nexts k s
  next_keep p nexts k s t h = λ m l q. ap (λ fs. signal_at fs m) (signals_keep c d s.tickets e t) ∙ h m l q

  answered_keep : (f : Form) (nexts : List Signal) (answers : ℕ → ℕ → AnswerSignals) (k : ℕ) (s : StageNets)
      → IsThereBegun c f nexts s → HasAnswered c f answers k s → HasAnswered d f answers k s
  answered_keep f nexts answers k s t h = λ x l.
      ap (λ fs. signal_at fs x) (signals_keep c d s.begun e t.begun) ∙ h x l
      ∙ ap (λ fs. with_answer f.pipe answers k x (signal_at fs x)) (sym (signals_keep c d s.vars e t.vars))

  -- what it needs no register for, by the views of the stages before it, as they stood in an earlier circuit
  kept_keep : (a : Circuit) (f : Form) (nexts : List Signal) (ss : List StageNets) (k : ℕ) (s t : StageNets) → Keeps a d
      → AreEnded a f nexts ss → k ≤ length ss → ((i : Item) → kept_item (view_in d t) i ≡ kept_item (view_in c s) i)
      → signals_in d t.vars ≡ signals_in c s.vars → t.regs ≡ s.regs
      → HasKept c f nexts (views_in a ss) k s → HasKept d f nexts (views_in d ss) k t
  kept_keep a f nexts ss k s t ad ends low same vars regs h = λ i need.
      let S = IsSpared f.pipe (views_in d ss) k (signals_in d t.vars) i in
      subst (λ g. IsBegunBy f nexts t.regs i g S) (sym (same i))
      (subst (λ r. IsBegunBy f nexts r i (kept_item (view_in c s) i) S) (sym regs)
      (by_weaker f nexts s.regs i (kept_item (view_in c s) i) (IsSpared f.pipe (views_in a ss) k (signals_in c s.vars) i) S
      (λ z. spared_as f.pipe (views_in a ss) (views_in d ss) k (signals_in c s.vars)
      (signals_in d t.vars) i (kept_item (view_in c s) i)
      (λ y j l. ends_same a d f nexts ss y ad ends j (omega (arith, l, low))) vars z)
      (h i need)))

  rows_keep : (f : Form) (nexts : List Signal) (ls : Locks) (xs : List Stmt) (s : StageNets) → IsThereBegun c f nexts s → IsWalk c f.pipe f.widths s.end
      → AreSteps c f.pipe ls (tickets_in c s.tickets) xs (view_in c s).begun (walk_in c s.end) → (z : Circuit)
      → Keeps d z → IsWell z → AreRows z f.pipe ls (tickets_in d s.tickets) xs (view_in d s).begun (walk_in d s.end)
  rows_keep f nexts ls xs s h w steps z k well =
      subst (λ (fs : List Signal). AreRows z f.pipe ls (λ m. signal_at fs m) xs (view_in d s).begun (walk_in d s.end))
      (sym (signals_keep c d s.tickets e h.tickets))
      (subst (λ (q : Parts). AreRows z f.pipe ls (tickets_in c s.tickets) xs (walk_of q) (walk_in d s.end)) (sym (begun_parts_keep f nexts s h))
      (subst (λ (q : Parts). AreRows z f.pipe ls (tickets_in c s.tickets) xs (view_in c s).begun (walk_of q))
      (sym (parts_keep c d e s.end w.there)) (steps z (keeps_trans c d z e k) well)))

  -- a stage stands with its rows in a circuit that keeps its nets and those of the stages before it
  pub staged_keep : (f : Form) (nexts : List Signal) (answers : ℕ → ℕ → AnswerSignals) (ls : Locks) (ss : List StageNets) (k : ℕ) (s : StageNets)
      → AreEnded c f nexts ss → k ≤ length ss → IsStaged c f nexts answers ls ss k s
      → IsStaged d f nexts answers ls ss k s
  staged_keep f nexts answers ls ss k s ends low h = record {
    registers = registers_keep c d f nexts k s.regs e h.registers;
    own = h.own;
    nets = begun_keep f nexts s h.nets;
    tickets = next_keep f.pipe nexts k s h.nets.tickets h.tickets;
    kept = kept_keep c f nexts ss k s s e ends low (λ i. kept_item_keep f nexts s i h.nets) (signals_keep c d s.vars e h.nets.vars) refl h.kept;
    answered = answered_keep f nexts answers k s h.nets h.answered;
    rows = rows_keep f nexts ls (in_stage k f.pipe.stmts) s h.nets h.walk h.rows;
    walk = walk_keep c d e f.pipe f.widths s.end h.walk;
  }

-- ---- a stage that was walked

-- another end
abbrev with_end : StageNets → StageNets → StageNets
with_end s t = record s { end = t.end }

module _ (a c d : Circuit) (ad : Keeps a d) (e : Keeps c d) (f : Form) (nexts : List Signal)
    (answers : ℕ → ℕ → AnswerSignals) (ls : Locks) (ss : List StageNets) (k : ℕ) (s t : StageNets)
    (ends : AreEnded a f nexts ss) (low : k ≤ length ss) (is : t ≡ with_end s t)
    (h : IsBegun c f nexts answers (views_in a ss) k s) where
  kept_at : (i : Item) → kept_item (view_in d (with_end s t)) i ≡ kept_item (view_in c s) i
  kept_at (Var x) = ap (λ fs. signal_at fs x) (signals_keep c d s.vars e h.nets.vars)
  kept_at (Mark mark m v) = ap (λ (w : Walk). w.marks mark m v) (ap walk_of (begun_parts_keep c d e f nexts s h.nets))
  kept_at (Ticket m) = ap (λ fs. signal_at fs m) (signals_keep c d s.tickets e h.nets.tickets)
  kept_at (Guess i) = ap (λ fs. signal_at fs i) (signals_keep c d s.guess e h.nets.guess)

  -- a begun stage that the steps of its rows lead to another end stands with its rows
  pub staged_made : IsWalk d f.pipe f.widths t.end
      → AreSteps d f.pipe ls (tickets_in c s.tickets) (in_stage k f.pipe.stmts) (walk_in c s.end) (walk_in d t.end)
      → IsStaged d f nexts answers ls ss k t
  staged_made walk steps =
      subst (IsStaged d f nexts answers ls ss k) (sym is) record {
        registers = registers_keep c d f nexts k s.regs e h.frame.registers;
        own = h.own;
        nets = let q = begun_keep c d e f nexts s h.nets in record {
          vars = q.vars;
          vars_wide = q.vars_wide;
          begun = q.begun;
          begun_wide = q.begun_wide;
          marks = q.marks;
          marks_one = q.marks_one;
          tickets = q.tickets;
          tickets_wide = q.tickets_wide;
          guess = q.guess;
          guess_wide = q.guess_wide;
        };
        tickets = next_keep c d e f.pipe nexts k s h.nets.tickets h.tickets;
        kept = kept_keep c d e a f nexts ss k s (with_end s t) ad ends low kept_at (signals_keep c d s.vars e h.nets.vars) refl h.kept;
        answered = answered_keep c d e f nexts answers k s h.nets h.answered;
        rows = λ z q well.
            subst (λ (fs : List Signal). AreRows z f.pipe ls (λ m. signal_at fs m) (in_stage k f.pipe.stmts) (walk_of (begun_parts d s)) (walk_in d t.end))
            (sym (signals_keep c d s.tickets e h.nets.tickets))
            (subst (λ (w : Walk). AreRows z f.pipe ls (tickets_in c s.tickets) (in_stage k f.pipe.stmts) w (walk_in d t.end))
            (h.walk ∙ sym (ap walk_of (begun_parts_keep c d e f nexts s h.nets))) (steps z q well));
        walk = walk;
      }

-- ---- one stage more

view_front : (c : Circuit) (ss : List StageNets) (t : StageNets) (j : ℕ) → j < length ss → views_in c (ss ++ t ∷ []) j ≡ views_in c ss j
view_front c ss t j l =
    ap (λ vs. get_or vs j no_view) (map-append (view_in c) ss (t ∷ []))
    ∙ get_or_append_left (map (view_in c) ss) (view_in c t ∷ []) no_view j (let n = length-map ss (view_in c) in omega (arith, l, n))

staged_front : (c : Circuit) (f : Form) (nexts : List Signal) (answers : ℕ → ℕ → AnswerSignals) (ls : Locks)
    (ss : List StageNets) (t : StageNets) (k : ℕ) (s : StageNets)
    → k ≤ length ss → IsStaged c f nexts answers ls ss k s → IsStaged c f nexts answers ls (ss ++ t ∷ []) k s
staged_front c f nexts answers ls ss t k s l h = record {
  registers = h.registers;
  own = h.own;
  nets = h.nets;
  tickets = h.tickets;
  kept = λ i need.
      by_weaker f nexts s.regs i _ (IsSpared f.pipe (views_in c ss) k (signals_in c s.vars) i)
      (IsSpared f.pipe (views_in c (ss ++ t ∷ [])) k (signals_in c s.vars) i)
      (λ z. spared_as f.pipe (views_in c ss) (views_in c (ss ++ t ∷ [])) k (signals_in c s.vars)
      (signals_in c s.vars) i (kept_item (view_in c s) i)
      (λ y j q. ap (λ v. ended_item v y) (view_front c ss t j (omega (arith, q, l)))) refl z)
      (h.kept i need);
  answered = h.answered;
  rows = h.rows;
  walk = h.walk;
}

-- what holds of each stage of a list holds of each of a longer one
pub at_more : (P : ℕ → StageNets → Type 0) (ss : List StageNets) (t : StageNets)
    → ((k : ℕ) (s : StageNets) → k < length ss → IsAt ss k s → P k s) → P (length ss) t → (k : ℕ) (s : StageNets)
    → k < length (ss ++ t ∷ []) → IsAt (ss ++ t ∷ []) k s → P k s
at_more P ss t old new k s l is =
    up_to (λ j. (u : StageNets) → IsAt (ss ++ t ∷ []) j u → P j u) (length ss)
    (λ j q u at. old j u q (sym (get_or_append_left ss (t ∷ []) u j q) ∙ at))
    (λ u at. subst (P (length ss)) (sym (get_or-append_seam ss t [] u) ∙ at) new) k (let n = length-append ss (t ∷ []) in omega (arith, l, n)) s is

-- where all stages stand with their rows and one more does after them, all with that one do
pub all_staged : (c d : Circuit) (f : Form) (nexts : List Signal) (answers : ℕ → ℕ → AnswerSignals) (ls : Locks)
    (ss : List StageNets) (t : StageNets)
    → Keeps c d → AreEnded c f nexts ss → AreStaged c f nexts answers ls ss
    → IsStaged d f nexts answers ls ss (length ss) t → AreStaged d f nexts answers ls (ss ++ t ∷ [])
all_staged c d f nexts answers ls ss t e ends h new =
    at_more (IsStaged d f nexts answers ls (ss ++ t ∷ [])) ss t
    (λ k s l is. staged_front d f nexts answers ls ss t k s (omega (arith, l))
    (staged_keep c d e f nexts answers ls ss k s ends (omega (arith, l)) (h k s l is)))
    (staged_front d f nexts answers ls ss t (length ss) t (omega arith) new)

-- ---- by the answers as they stood before

-- a stage stands with its rows by the answers of its ports as they stood in an earlier circuit
pub staged_answers : (a b c : Circuit) (f : Form) (nexts : List Signal) (ports : List (Option PortRegs)) (ls : Locks)
    (ss : List StageNets) (k : ℕ) (t : StageNets)
    → Keeps a b → HasAnswers a f.pipe ports → IsStaged c f nexts (answers_in b ports) ls ss k t
    → IsStaged c f nexts (answers_in a ports) ls ss k t
staged_answers a b c f nexts ports ls ss k t e has h = record {
  registers = h.registers;
  own = h.own;
  nets = h.nets;
  tickets = h.tickets;
  kept = h.kept;
  answered = λ x l. h.answered x l ∙ answer_same a b e f.pipe ports k x (signal_at (signals_in c t.vars) x) has;
  rows = h.rows;
  walk = h.walk;
}
