-- Stages, their views and what their registers take stay while the circuit grows.
use Rattle.std.proofs.Common.{◌≡◌, ℕ, ◌<◌, ◌≤◌, true, List, length, get_or, refl, sym, ap, ◌∙◌, subst, arith}
use Rattle.std.proofs.lemmas.Bool.{false≢true}
use mathlib.Core.Path.{fun_ext}
use Rattle.std.proofs.lemmas.List.{get_or_default}
use Rattle.std.specs.Prelude.{Option, Some, None, is_some}
use Rattle.pdl_semantics.specs.Flat.{Pipe}
use Rattle.pdl_form.specs.Form.{Form}
use Rattle.pdl_form_types.specs.Stmts.{AreForks}
use Rattle.pdl_net.specs.Circuit.{Circuit}
use Rattle.pdl_net.specs.Signal.{Signal}
use Rattle.pdl_net.specs.Meaning.{signal, next_signal}
use Rattle.pdl_net.specs.Growth.{Keeps}
use Rattle.pdl_net.specs.Well.{IsWell}
use Rattle.pdl_net.proofs.Keeps.{keeps_trans}
use Rattle.pdl_pipe_exprs.specs.Nets.{signals_in}
use Rattle.pdl_port.specs.Laws.{AnswerSignals}
use Rattle.pdl_law_parts.specs.Walk.{Locks, is_locked, zero_bit}
use Rattle.pdl_law_parts.proofs.StageLooks.{lock_there}
use Rattle.pdl_pipe_walk.specs.declared.locks.MemLock.{MemLock}
use Rattle.pdl_pipe_walk.specs.Locked.{Members, some_at, of_lock, AreLocked, locks_in}
use Rattle.pdl_pipe_walk.proofs.Lists.{map_each}
use Rattle.pdl_pipe_registers.specs.declared.nets.StageNets.{StageNets}
use Rattle.pdl_pipe_registers.specs.Stages.{reg_of, view_in, views_in, no_view, IsAt}
use Rattle.pdl_pipe_registers.specs.Begun.{IsShared, IsEnded, AreEnded}
use Rattle.pdl_pipe_registers.specs.Staged.{IsStaged, AreStaged, AreApart, next_signals}
use Rattle.pdl_pipe_registers.proofs.StageEnds.{staged_keep}
use Rattle.pdl_pipe_registers.proofs.TicketsMade.{next_at}
use Rattle.pdl_pipe_nexts.specs.declared.line.StageLine.{StageLine}
use Rattle.pdl_pipe_nexts.specs.Lines.{IsBit, IsStageNow, IsLineIn, line_form, line_pipe, line_views, line_moves, line_kills}
use Rattle.pdl_pipe_nexts.specs.Nexts.{TakesNext}
use Rattle.pdl_pipe_nexts.proofs.LineGrowth.{all_moves_same, kills_same, stage_now, view_same, views_same}
use Rattle.pdl_pipe_emitted.specs.MadeLine.{AreNextTickets, IsLineMade}
use Rattle.pdl_word.specs.Each.{Each}
use Rattle.pdl_word.proofs.Each.{each_from_all}

-- what holds of the stage at each number holds of each
each_stage : (P : StageNets → Type 0) (ss : List StageNets) → ((k : ℕ) (s : StageNets) → k < length ss → IsAt ss k s → P s) → Each P ss
each_stage P ss h = each_from_all P ss (λ k d l. h k (get_or ss k d) l (get_or_default ss k (get_or ss k d) d l))

module _ (f : Form) (nexts : List Signal) (answers : ℕ → ℕ → AnswerSignals) (ls : Locks) (ss : List StageNets) where
  stage_is : (a : Circuit) (k : ℕ) (s : StageNets) → IsStaged a f nexts answers ls ss k s → IsStageNow a f nexts k s
  stage_is a k s h = record { registers = h.registers; own = h.own; nets = h.nets; walk = h.walk }

  -- stages that stand with their rows are there as they end, with their tickets
  pub are_ended : (a : Circuit) → AreStaged a f nexts answers ls ss → AreEnded a f nexts ss
  are_ended a all = each_stage (IsEnded a f nexts) ss (λ k s l is. stage_now a f nexts k s (stage_is a k s (all k s l is)))

  module _ (a b : Circuit) (e : Keeps a b) (all : AreStaged a f nexts answers ls ss) where
    -- stages that were made have the views that they had
    pub made_views_same : views_in b ss ≡ views_in a ss
    made_views_same =
        ap (λ vs k. get_or vs k no_view)
        (map_each (view_in b) (view_in a) (λ s. view_in b s ≡ view_in a s)
        (λ s h. h) ss (each_stage (λ s. view_in b s ≡ view_in a s) ss (λ k s l is. view_same a b f nexts k s e (stage_is a k s (all k s l is)))))

    -- stages that were made are as they were made
    pub made_keep : AreStaged b f nexts answers ls ss
    made_keep = λ k s l is. staged_keep a b e f nexts answers ls ss k s (are_ended a all) (omega (arith, l)) (all k s l is)

-- a line of stages that were made, with nets for its moves and removals
pub line_there : (a c : Circuit) (x : StageLine) (nexts : List Signal) (answers : ℕ → ℕ → AnswerSignals) (ls : Locks)
    → AreStaged a (line_form x) nexts answers ls x.stages.now → Keeps a c → length x.stages.now ≡ length (line_pipe x).stages
    → IsShared c (line_form x) x.shared.now → signals_in c x.shared.now.next ≡ nexts → AreForks (line_form x).widths (line_pipe x).stages
    → length (line_pipe x).start ≤ length (line_form x).widths → length x.moves.now ≡ length x.stages.now → Each (IsBit c) x.moves.now
    → length x.kills.now ≡ length x.stages.now → Each (IsBit c) x.kills.now → IsLineIn c x
line_there a c x nexts answers ls all e count shared next forks params moves_count moves kills_count kills = record {
  shared = shared;
  count = count;
  stages = λ k s l is.
      subst (λ fs. IsStageNow c (line_form x) fs k s) (sym next)
      (stage_is (line_form x) nexts answers ls x.stages.now c k s (made_keep (line_form x) nexts answers ls x.stages.now a c e all k s l is));
  moves_count = moves_count;
  moves = moves;
  kills_count = kills_count;
  kills = kills;
  forks = forks;
  params = params;
}

-- whether threads are removed is what it was
all_kills_same : (a b : Circuit) (x : StageLine) → Keeps a b → IsLineIn a x → line_kills b x ≡ line_kills a x
all_kills_same a b x e h = fun_ext (kills_same a b x e h)

-- ---- next tickets

-- the next ticket of a lock has the bits of its tickets
ticket_wide : {T : Type 0} (l : Members T) (a : Circuit) (p : Pipe) (xs : List (Option (MemLock T))) → AreLocked l a p xs
    → (m : ℕ) → is_locked p m ≡ true → ((locks_in l p a xs).ticket m).width ≡ (locks_in l p a xs).bits m
ticket_wide {T} l a p xs h m e = at (some_at xs m) refl (h.locked m (lock_there p m e) ∙ e)
  where
    at : (o : Option (MemLock T)) → some_at xs m ≡ o → is_some o ≡ true
        → (of_lock (λ (x : MemLock T). signal a x.regs.ticket) zero_bit o).width ≡ of_lock (λ (x : MemLock T). l.tickets x.lock) 1 o
    at None q s = absurd (false≢true s)
    at (Some x) q s = (h.locks m x (lock_there p m e) q).ticket.width

-- the next tickets of the locks are those of the memories with locks
pub locks_next : {T : Type 0} (l : Members T) (a : Circuit) (p : Pipe) (xs : List (Option (MemLock T))) → AreLocked l a p xs
    → AreNextTickets p (locks_in l p a xs) (next_signals a xs)
locks_next l a p xs h = λ m e. (lock_there p m e, next_at l a p xs h m (lock_there p m e), ticket_wide l a p xs h m e)

-- ---- what registers take

-- a stage's registers still take it where they were left alone
takes_later : (c e d : Circuit) (x : StageLine) (k : ℕ) (s : StageNets) (low high : ℕ) → AreApart low high x.stages.now
    → k < length x.stages.now → IsAt x.stages.now k s
    → ((r : ℕ) → low ≤ r → r < high → next_signal d r ≡ next_signal e r) → TakesNext c e x k s → TakesNext c d x k s
takes_later c e d x k s low high apart l is same h =
    let from = apart.from k s l is in
    let to = apart.to k s l is in
    record {
      valid = λ t. ap (λ (f : Signal). f.value t) (same s.regs.valid from (omega (arith, to))) ∙ h.valid t;
      kept = λ i q t. ap (λ (f : Signal). f.value t) (same (reg_of s.regs i) (omega (arith, from)) (omega (arith, to, q))) ∙ h.kept i q t;
    }

-- a line that was connected in circuit e, and whose registers were left alone then
pub line_made : (a c e d : Circuit) (x : StageLine) (nexts : List Signal) (answers : ℕ → ℕ → AnswerSignals) (ls : Locks) (low high : ℕ)
    → AreStaged a (line_form x) nexts answers ls x.stages.now → AreApart low high x.stages.now → Keeps a c
    → IsLineIn c x → Keeps c e
    → ((k : ℕ) (s : StageNets) → k < length x.stages.now → IsAt x.stages.now k s → TakesNext c e x k s) → Keeps e d
    → IsWell d → ((r : ℕ) → low ≤ r → r < high → next_signal d r ≡ next_signal e r)
    → IsLineMade a c d x nexts answers ls
line_made a c e d x nexts answers ls low high staged apart ac line ce takes ed well same = record {
  staged = staged;
  before = ac;
  line = line;
  after = keeps_trans c e d ce ed;
  well = well;
  takes = λ k s l is. takes_later c e d x k s low high apart l is same (takes k s l is);
}

-- ---- a made line looks the same in all its circuits

module _ (a c d : Circuit) (x : StageLine) (nexts : List Signal) (answers : ℕ → ℕ → AnswerSignals) (ls : Locks)
    (made : IsLineMade a c d x nexts answers ls) where
  -- the stages have in the circuit of their connection the views with which they were made
  pub views_before : line_views c x ≡ line_views a x
  views_before = made_views_same (line_form x) nexts answers ls x.stages.now a c made.before made.staged

  -- the stages have in the later circuit the views that they had when they were connected
  pub views_after : line_views d x ≡ line_views c x
  views_after = views_same c d x made.after made.line

  -- whether threads move is told in the later circuit by the signals of the connection
  pub moves_after : line_moves d x ≡ line_moves c x
  moves_after = all_moves_same c d x made.after made.line

  -- whether threads are removed is told in the later circuit by the signals of the connection
  pub kills_after : line_kills d x ≡ line_kills c x
  kills_after = all_kills_same c d x made.after made.line
