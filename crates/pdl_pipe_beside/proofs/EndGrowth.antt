-- Stages after their statements, one by its number, and while the circuit grows.
use Rattle.std.proofs.Common.{◌≡◌, ℕ, zero, suc, ◌+◌, ◌<◌, ◌∙◌, List, [], ◌∷◌, ◌++◌, length, length-append, map, sym, ap, subst, arith}
use borrow.Author.Count.{below_more}
use Rattle.std.specs.Prelude.{slice_index, slice_index_or}
use Rattle.std.proofs.lemmas.List.{get_or-map, get_or_append_left, get_or_push}
use Rattle.pdl_semantics.specs.Flat as flat
use Rattle.pdl_semantics.specs.Flat.{Stage, Next, Pipe}
use Rattle.pdl_semantics.specs.Stages.{last_stage}
use Rattle.pdl_form.specs.Form.{Form}
use Rattle.pdl_form_types.specs.Stmts.{IsFork, AreForks}
use Rattle.pdl_net.specs.declared.Net.{Net}
use Rattle.pdl_net.specs.declared.Net.TheVariants.{Input}
use Rattle.pdl_net.specs.Circuit.{Circuit}
use Rattle.pdl_net.specs.Signal.{Signal, no_signal}
use Rattle.pdl_net.specs.Meaning.{IsThere, signal}
use Rattle.pdl_net.specs.Growth.{Keeps, Extends}
use Rattle.pdl_net.specs.HasWidth.{HasWidth}
use Rattle.pdl_net.proofs.Keeps.{extends_keeps}
use Rattle.pdl_net.proofs.KeptWidths.{width_keeps}
use Rattle.pdl_port.specs.Laws.{net_at, signal_at}
use Rattle.pdl_port.proofs.PortGrowth.{bits_kept}
use Rattle.pdl_pipe_walk.specs.declared.nets.AskNet.{AskNet}
use Rattle.pdl_pipe_walk.specs.Parts.{Parts, ask_in, walk_of}
use Rattle.pdl_pipe_walk.specs.Sized.{IsSizedAsk}
use Rattle.pdl_pipe_walk.proofs.NetGrowth.{parts_keep, walk_keep}
use Rattle.pdl_pipe_walk.proofs.Lists.{map_each}
use Rattle.pdl_word.specs.Each.{Each}
use Rattle.pdl_word.proofs.Each.{each_get, each_weaker}
use Rattle.pdl_pipe_beside.specs.declared.ends.StageEnd.{StageEnd}
use Rattle.pdl_pipe_beside.specs.Ends.{view_of, no_view, view_in, ends_in, move_in, kill_in, moves_in, kills_in, IsEnd, AreEnds}
use Rattle.pdl_pipe_beside.specs.Steps.{IsAskNet, AreNetsOf}

-- ---- the stage of a number

-- the nets of stage k after its statements are there, where those of all stages are
pub end_is : (c : Circuit) (f : Form) (es : List StageEnd) (k : ℕ) (e : StageEnd) → AreEnds c f es
    → k < length f.pipe.stages → e ≡ slice_index_or es k e → IsEnd c f e
end_is c f es k e h low at = subst (IsEnd c f) (sym at) (each_get (IsEnd c f) es k e (omega (arith, low, h.count)) h.each)

module _ (c : Circuit) (es : List StageEnd) (k : ℕ) (e : StageEnd) (low : k < length es) (at : e ≡ slice_index_or es k e) where
  -- the view of number k is that of stage k's nets
  pub view_at : ends_in c es k ≡ view_in c e
  view_at = get_or-map (view_in c) es k e no_view low ∙ ap (view_in c) (sym at)

  -- whether the thread of stage k moves is told by that stage's net
  pub move_at : signal c e.moves ≡ moves_in c es k
  move_at = ap (move_in c) at ∙ sym (get_or-map (move_in c) es k e no_signal low)

  -- whether the thread of stage k is removed is told by that stage's net
  pub kill_at : signal c e.killed ≡ kills_in c es k
  kill_at = ap (kill_in c) at ∙ sym (get_or-map (kill_in c) es k e no_signal low)

asks_are : (c : Circuit) (p : Pipe) (qs : List AskNet) → Each (λ (q : AskNet). IsThere c q.on × IsThere c q.addr) qs
    → Each (IsSizedAsk p) (map (ask_in c) qs) → Each (IsAskNet c) qs
asks_are c p [] t s = tt
asks_are c p (q ∷ qs) t s = (record { there = t.0.0; width = s.0.1 }, asks_are c p qs t.1 s.1)

-- the conditions of all requests of a stage are there, with 1 bit
pub end_asks : (c : Circuit) (f : Form) (e : StageEnd) → IsEnd c f e → Each (IsAskNet c) e.ended.now.asks
end_asks c f e h = asks_are c f.pipe e.ended.now.asks h.walk.there.asks h.walk.sized.asks

-- where all stages that fork do so by a variable of 1 bit, stage k does
pub fork_at : (ws : List ℕ) (ss : List Stage) (k : ℕ) → k < length ss → AreForks ws ss → IsFork ws (slice_index_or ss k last_stage).next
fork_at ws [] k l h = absurd (omega (arith, l))
fork_at ws (s ∷ ss) zero l h = h.0
fork_at ws (s ∷ ss) (suc k) l h = fork_at ws ss k (omega (arith, l)) h.1

-- ---- stages stay

module _ (a b : Circuit) (k : Keeps a b) (f : Form) where
  end_keeps : (e : StageEnd) → IsEnd a f e → IsEnd b f e
  end_keeps e h = record {
    walk = walk_keep a b k f.pipe f.widths e.ended.now h.walk;
    moves = width_keeps a b e.moves 1 k h.moves;
    killed = width_keeps a b e.killed 1 k h.killed;
  }

  -- the nets of all stages after their statements are there in a circuit that keeps what stands in theirs
  pub ends_keep : (es : List StageEnd) → AreEnds a f es → AreEnds b f es
  ends_keep es h = record { count = h.count; each = each_weaker (IsEnd a f) (IsEnd b f) end_keeps es h.each }

  -- all stages have the views that they had
  pub views_same : (es : List StageEnd) → AreEnds a f es → map (view_in b) es ≡ map (view_in a) es
  views_same es h =
      map_each (view_in b) (view_in a) (IsEnd a f) (λ e x. ap (λ (w : Parts). view_of (walk_of w)) (parts_keep a b k e.ended.now x.walk.there)) es h.each

  -- whether the threads of all stages move is told by the signals that told it
  pub moves_same : (es : List StageEnd) → AreEnds a f es → map (move_in b) es ≡ map (move_in a) es
  moves_same es h = map_each (move_in b) (move_in a) (IsEnd a f) (λ e x. k.kept e.moves x.moves.there) es h.each

  -- whether the threads of all stages are removed is told by the signals that told it
  pub kills_same : (es : List StageEnd) → AreEnds a f es → map (kill_in b) es ≡ map (kill_in a) es
  kills_same es h = map_each (kill_in b) (kill_in a) (IsEnd a f) (λ e x. k.kept e.killed x.killed.there) es h.each

-- the nets of all stages after their statements stay while the circuit grows
pub ends_kept : (f : Form) (es : List StageEnd) (a b : Circuit) → AreEnds a f es → Extends a b → AreEnds b f es
ends_kept f es a b h e = ends_keep a b (extends_keeps a b e) f es h

-- a stage that forks does so by a variable of 1 bit
pub fork_var : (ws : List ℕ) (n : Next) (x first second : ℕ)
    → n ≡ flat.Forks x first second → IsFork ws n → (x < length ws) × (slice_index ws x ≡ 1)
fork_var ws n x first second e h = subst (IsFork ws) e h

-- ---- nets of bits, one more

-- after the nets of n bits stands a net for the next one
pub nets_more : (a b : Circuit) (nets : List Net) (n : ℕ) (f : ℕ → Signal) (x : Net) → AreNetsOf a nets n f
    → Extends a b → HasWidth b x 1 → signal b x ≡ f n → AreNetsOf b (nets ++ x ∷ []) (n + 1) f
nets_more a b nets n f x h e bit same =
    let g = bits_kept a b nets n h.bits e in
    let old : (k : ℕ) → k < n → net_at (nets ++ x ∷ []) k ≡ net_at nets k = λ k l. get_or_append_left nets (x ∷ []) (Input 0) k (omega (arith, l, g.count)) in
    let last : net_at (nets ++ x ∷ []) n ≡ x = get_or_push nets x (Input 0) n g.count in
    record {
      bits = record {
        count = length-append nets (x ∷ []) ∙ ap (λ k. k + 1) g.count;
        each =
            below_more (λ k. HasWidth b (net_at (nets ++ x ∷ []) k) 1) n (λ k l. subst (λ y. HasWidth b y 1) (sym (old k l)) (g.each k l))
            (subst (λ y. HasWidth b y 1) (sym last) bit);
      };
      same = below_more (λ k. signal_at b (nets ++ x ∷ []) k ≡ f k) n
          (λ k l. ap (signal b) (old k l) ∙ e.kept (net_at nets k) (h.bits.each k l).there ∙ h.same k l)
          (ap (signal b) last ∙ same);
    }
