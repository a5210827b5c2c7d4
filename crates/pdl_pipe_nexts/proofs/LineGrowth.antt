-- The nets of a line, and how they stay while the circuit grows.
use Rattle.std.proofs.Common.{◌≡◌, refl, sym, ap, ap₂, ◌∙◌, subst, ℕ, zero, suc, ◌<◌, List, [], ◌∷◌, map, length, get_or, arith}
use Rattle.std.specs.Prelude.{Option}
use Rattle.std.proofs.lemmas.List.{get_or_default}
use Rattle.pdl_form.specs.Form.{Form}
use Rattle.pdl_net.specs.declared.Net.{Net}
use Rattle.pdl_net.specs.Circuit.{Circuit}
use Rattle.pdl_net.specs.Signal.{Signal, mux_signal, reg_signal}
use Rattle.pdl_net.specs.Growth.{Keeps}
use Rattle.pdl_net.proofs.KeptWidths.{width_keeps}
use Rattle.pdl_pipe_exprs.specs.Nets.{NetsThere, signals_in, signal_at}
use Rattle.pdl_pipe_exprs.proofs.NetLists.{signals_keep}
use Rattle.pdl_law_parts.specs.Walk.{zero_bit}
use Rattle.pdl_law_parts.specs.Views.{View, comers, first_coming}
use Rattle.pdl_pipe_walk.specs.Parts.{Parts, parts_in, walk_of}
use Rattle.pdl_pipe_walk.proofs.NetGrowth.{parts_keep, walk_keep}
use Rattle.pdl_pipe_registers.specs.declared.nets.StageNets.{StageNets}
use Rattle.pdl_pipe_registers.specs.Stages.{view_in, no_view, begun_parts, IsAt}
use Rattle.pdl_pipe_registers.specs.Begun.{IsEnded}
use Rattle.pdl_pipe_registers.proofs.Lists.{view_at, some_stage}
use Rattle.pdl_pipe_registers.proofs.RegisterGrowth.{registers_keep}
use Rattle.pdl_pipe_registers.proofs.Begins.{shared_keep, next_keep}
use Rattle.pdl_pipe_registers.proofs.StageEnds.{begun_keep, begun_parts_keep}
use Rattle.pdl_pipe_nexts.specs.declared.line.StageLine.{StageLine}
use Rattle.pdl_pipe_nexts.specs.Lines.{IsBit, IsStageNow, IsLineIn, line_form, line_pipe, line_views, line_moves, line_kills}
use Rattle.pdl_pipe_nexts.specs.Brings.{brought_signal}
use Rattle.pdl_pipe_nexts.specs.Nexts.{arriving, staying}
use Rattle.pdl_pipe_registers.specs.declared.nets.Item.{Item}
use Rattle.pdl_word.specs.Each.{Each}

-- ---- bits

-- nets of 1 bit each are there
pub bits_there : (c : Circuit) (xs : List Net) → Each (IsBit c) xs → NetsThere c xs
bits_there c [] h = tt
bits_there c (x ∷ xs) h = (h.0.there, bits_there c xs h.1)

-- the k-th of some nets of 1 bit has 1 bit
pub bit_one : (c : Circuit) (xs : List Net) (k : ℕ) → k < length xs → Each (IsBit c) xs → (signal_at (signals_in c xs) k).width ≡ 1
bit_one c [] k l h = absurd (omega (arith, l))
bit_one c (x ∷ xs) zero l h = h.0.width
bit_one c (x ∷ xs) (suc k) l h = bit_one c xs k (omega (arith, l)) h.1

bits_keep : (a b : Circuit) (e : Keeps a b) (xs : List Net) → Each (IsBit a) xs → Each (IsBit b) xs
bits_keep a b e [] h = tt
bits_keep a b e (x ∷ xs) h = (width_keeps a b x 1 e h.0, bits_keep a b e xs h.1)

-- ---- stages

-- a stage of a line is there as it ends, with its tickets
pub stage_now : (c : Circuit) (f : Form) (nexts : List Signal) (k : ℕ) (s : StageNets) → IsStageNow c f nexts k s → IsEnded c f nexts s
stage_now c f nexts k s h = record { walk = h.walk; tickets = h.nets.tickets; tickets_wide = h.nets.tickets_wide }

stage_keep : (a b : Circuit) (f : Form) (nexts : List Signal) (k : ℕ) (s : StageNets) → Keeps a b
    → IsStageNow a f nexts k s → IsStageNow b f nexts k s
stage_keep a b f nexts k s e h = record {
  registers = registers_keep a b f nexts k s.regs e h.registers;
  own = h.own;
  nets = begun_keep a b e f nexts s h.nets;
  walk = walk_keep a b e f.pipe f.widths s.end h.walk;
}

-- the nets of a line stay in a circuit that keeps what stands in theirs
pub line_keep : (a b : Circuit) (x : StageLine) → Keeps a b → IsLineIn a x → IsLineIn b x
line_keep a b x e h = record {
  shared = shared_keep a b (line_form x) x.shared.now e h.shared;
  count = h.count;
  stages = λ k s l is.
      subst (λ fs. IsStageNow b (line_form x) fs k s) (sym (next_keep a b (line_form x) x.shared.now e h.shared))
      (stage_keep a b (line_form x) (signals_in a x.shared.now.next) k s e (h.stages k s l is));
  moves_count = h.moves_count;
  moves = bits_keep a b e x.moves.now h.moves;
  kills_count = h.kills_count;
  kills = bits_keep a b e x.kills.now h.kills;
  forks = h.forks;
  params = h.params;
}

module _ (a b : Circuit) (x : StageLine) (e : Keeps a b) (h : IsLineIn a x) where
  -- stage j ends with the same signals
  pub ended_same : (j : ℕ) → j < length x.stages.now → (line_views b x j).ended ≡ (line_views a x j).ended
  ended_same j l =
      let some = some_stage x.stages.now j l in
      let s = some.0 in
      let now = h.stages j s l some.1 in
      ap (λ (v : View). v.ended) (view_at b x.stages.now j s l some.1)
      ∙ ap walk_of (parts_keep a b e s.end now.walk.there)
      ∙ sym (ap (λ (v : View). v.ended) (view_at a x.stages.now j s l some.1))

  -- stage j keeps its tickets
  pub tickets_same : (j : ℕ) → j < length x.stages.now → (line_views b x j).tickets ≡ (line_views a x j).tickets
  tickets_same j l =
      let some = some_stage x.stages.now j l in
      let s = some.0 in
      let now = h.stages j s l some.1 in
      ap (λ (v : View). v.tickets) (view_at b x.stages.now j s l some.1)
      ∙ ap (λ fs m. signal_at fs m) (signals_keep a b s.tickets e now.nets.tickets)
      ∙ sym (ap (λ (v : View). v.tickets) (view_at a x.stages.now j s l some.1))

  -- whether the thread of stage j moves is told by the same signal
  pub moves_same : (j : ℕ) → line_moves b x j ≡ line_moves a x j
  moves_same j = ap (λ fs. signal_at fs j) (signals_keep a b x.moves.now e (bits_there a x.moves.now h.moves))

  -- whether the thread of stage j is removed is told by the same signal
  pub kills_same : (j : ℕ) → line_kills b x j ≡ line_kills a x j
  kills_same j = ap (λ fs. signal_at fs j) (signals_keep a b x.kills.now e (bits_there a x.kills.now h.kills))

-- ---- all stages look as they did

map_same : {X : Type 0} (f g : StageNets → X) (ss : List StageNets)
    → ((k : ℕ) (s : StageNets) → k < length ss → IsAt ss k s → f s ≡ g s) → map f ss ≡ map g ss
map_same f g [] h = refl
map_same f g (s ∷ ss) h = ap₂ (λ y ys. y ∷ ys) (h 0 s (omega arith) refl) (map_same f g ss (λ k t l is. h (suc k) t (omega (arith, l)) is))

abbrev view_from : ℕ → List Signal → List Signal → Parts → Parts → View
view_from r vars tickets begun ended =
    record { valid = reg_signal 1 r; kept = λ x. signal_at vars x; tickets = λ m. signal_at tickets m; begun = walk_of begun; ended = walk_of ended }

-- a stage of a line has the same view in a circuit that keeps its nets
pub view_same : (a b : Circuit) (f : Form) (nexts : List Signal) (k : ℕ) (s : StageNets) → Keeps a b
    → IsStageNow a f nexts k s → view_in b s ≡ view_in a s
view_same a b f nexts k s e h =
    ap₂ (λ (vars tickets : List Signal). view_from s.regs.valid vars tickets (begun_parts b s) (parts_in b s.end))
    (signals_keep a b s.vars e h.nets.vars) (signals_keep a b s.tickets e h.nets.tickets)
    ∙ ap₂ (λ (begun ended : Parts). view_from s.regs.valid (signals_in a s.vars) (signals_in a s.tickets) begun ended)
    (begun_parts_keep a b e f nexts s h.nets) (parts_keep a b e s.end h.walk.there)

module _ (a b : Circuit) (x : StageLine) (e : Keeps a b) (h : IsLineIn a x) where
  -- all stages have the views that they had
  pub views_same : line_views b x ≡ line_views a x
  views_same =
      ap (λ vs k. get_or vs k no_view)
      (map_same (view_in b) (view_in a) x.stages.now (λ k s l is. view_same a b (line_form x) (signals_in a x.shared.now.next) k s e (h.stages k s l is)))

  -- whether threads move is told for all stages by the signals that told it
  pub all_moves_same : line_moves b x ≡ line_moves a x
  all_moves_same = ap (λ fs k. signal_at fs k) (signals_keep a b x.moves.now e (bits_there a x.moves.now h.moves))

  -- what arrives in stage k is the same signal
  pub arriving_same : (k : ℕ) (what : Option Item) (rest : Signal) → arriving b x k what rest ≡ arriving a x k what rest
  arriving_same k what rest =
      ap₂ (λ (vs : ℕ → View) (ms : ℕ → Signal). first_coming (brought_signal what) (comers (line_pipe x) vs ms k) rest) views_same all_moves_same

  -- whether stage k still holds its thread is told by the same signal
  pub staying_same : (k : ℕ) (s : StageNets) → staying b x k s ≡ staying a x k s
  staying_same k s =
      ap₂ (λ (f g : Signal). mux_signal f zero_bit (mux_signal g zero_bit (reg_signal 1 s.regs.valid))) (moves_same a b x e h k) (kills_same a b x e h k)

-- one stage stands at a number
pub at_same : (ss : List StageNets) (k : ℕ) (s t : StageNets) → k < length ss → IsAt ss k s → IsAt ss k t → s ≡ t
at_same ss k s t l e f = sym e ∙ get_or_default ss k s t l ∙ f
