-- What the locks of an emission are told is what its stages do.
use Rattle.std.proofs.Common.{◌≡◌, refl, sym, ap, ap₂, ◌∙◌, ℕ, zero, suc, ◌+◌, ◌<◌, List, [], ◌∷◌, ◌++◌, length, arith}
use Rattle.std.specs.Prelude.{slice_index_or}
use Rattle.std.proofs.lemmas.List.{get_or-map, get_or_default}
use Rattle.pdl_net.specs.declared.Net.TheVariants.{Input}
use Rattle.pdl_net.specs.Circuit.{Circuit}
use Rattle.pdl_net.specs.Signal.{Signal, no_signal}
use Rattle.pdl_net.specs.Meaning.{WriteSignal, signal}
use Rattle.pdl_net.specs.Growth.{Keeps}
use Rattle.pdl_pipe_exprs.specs.Nets.{signal_at}
use Rattle.pdl_pipe_exprs.proofs.NetLists.{signals_keep, signal_of}
use Rattle.pdl_law_parts.specs.Walk.{Walk}
use Rattle.pdl_law_parts.specs.Views.{View}
use Rattle.pdl_law_parts.specs.Ports.{advises_to, all_advises}
use Rattle.pdl_pipe_walk.specs.Parts.{walk_in, walk_of}
use Rattle.pdl_pipe_walk.specs.Locked.{Members, tickets_in}
use Rattle.pdl_pipe_registers.proofs.Lists.{view_at, some_stage}
use Rattle.pdl_pipe_nexts.specs.Lines.{line_pipe}
use Rattle.pdl_pipe_nexts.proofs.LineGrowth.{ended_same, tickets_same, moves_same}
use Rattle.pdl_pipe_locks.specs.declared.deeds.StageDeeds.{StageDeeds}
use Rattle.pdl_pipe_locks.specs.Deeds as deeds
use Rattle.pdl_pipe_locks.specs.Advised.{advises_in}
use Rattle.pdl_pipe_locks.specs.Deeds.{no_parts, view_with, AreOf, AreGatesOf}
use Rattle.pdl_pipe_emitted.specs.Emitted.{Nets, Emission, views_of, moves_of, gates_of}
use Rattle.pdl_pipe_emitted.proofs.LaidGrowth.{keeps_bh, keeps_ch, keeps_cj, keeps_fh}

-- the deeds of a stage stand at each number
some_deeds : (ds : List StageDeeds) (k : ℕ) → k < length ds → (d : StageDeeds) × (slice_index_or ds k d ≡ d)
some_deeds [] k l = absurd (omega (arith, l))
some_deeds (d ∷ ds) zero l = (d, refl)
some_deeds (d ∷ ds) (suc k) l = some_deeds ds k (omega (arith, l))

-- what they are told of it
module _ (c : Circuit) (ds : List StageDeeds) (k : ℕ) (d : StageDeeds) (low : k < length ds) (at : slice_index_or ds k d ≡ d) where
  told_view : deeds.views_in c ds k ≡ deeds.view_in c d
  told_view = get_or-map (deeds.view_in c) ds k d (view_with (λ m. no_signal) (walk_of no_parts)) low ∙ ap (deeds.view_in c) at

  told_moves : deeds.moves_in c ds k ≡ signal c d.moves
  told_moves = get_or-map (λ (x : StageDeeds). signal c x.moves) ds k d no_signal low ∙ ap (λ (x : StageDeeds). signal c x.moves) at

-- stages with the same ends and moves write the same by advice
advises_alike : (m : ℕ) (vs us : ℕ → View) (f g : ℕ → Signal) (n k total : ℕ) → k + n ≡ total → ((i : ℕ) → i < total → f i ≡ g i)
    → ((i : ℕ) → i < total → (vs i).ended ≡ (us i).ended) → all_advises m vs f n k ≡ all_advises m us g n k
advises_alike m vs us f g zero k total e moves ended = refl
advises_alike m vs us f g (suc n) k total e moves ended =
    ap₂ (λ (xs ys : List WriteSignal). xs ++ ys) (advises_alike m vs us f g n (suc k) total (omega (arith, e)) moves ended)
    (ap₂ (λ (x : Signal) (w : Walk). advises_to m x w.advises) (moves k (omega (arith, e))) (ended k (omega (arith, e))))

module _ {T : Type 0} (l : Members T) (n : Nets T) (em : Emission l n) where
  module _ (h : Circuit) (keeps : Keeps em.c h) (k : ℕ) (low : k < length n.deeds) where
    stage_low : k < length n.line.stages.now
    stage_low = let count = em.deeds.count in omega (arith, low, count)

    same_moves : moves_of l n em k ≡ deeds.moves_in h n.deeds k
    same_moves =
        let there : k < length n.line.moves.now = (let count = em.line.moves_count in omega (arith, stage_low, count)) in
        let x = slice_index_or n.line.moves.now k (Input 0) in
        let (d, at) = some_deeds n.deeds k low in
        sym (moves_same em.c h n.line keeps em.line k)
        ∙ sym (signal_of h n.line.moves.now k (Input 0) there)
        ∙ ap (signal h) (sym (em.deeds.moves k x d low (get_or_default n.line.moves.now k x (Input 0) there) at))
        ∙ sym (told_moves h n.deeds k d low at)

    same_ended : (views_of l n em k).ended ≡ (deeds.views_in h n.deeds k).ended
    same_ended =
        let (s, is) = some_stage n.line.stages.now k stage_low in
        let (d, at) = some_deeds n.deeds k low in
        sym (ended_same em.c h n.line keeps em.line k stage_low)
        ∙ ap (λ (v : View). v.ended) (view_at h n.line.stages.now k s stage_low is)
        ∙ ap (walk_in h) (sym (em.deeds.ended k s d low is at))
        ∙ ap (λ (v : View). v.ended) (sym (told_view h n.deeds k d low at))

    same_tickets : (views_of l n em k).tickets ≡ (deeds.views_in h n.deeds k).tickets
    same_tickets =
        let (s, is) = some_stage n.line.stages.now k stage_low in
        let (d, at) = some_deeds n.deeds k low in
        sym (tickets_same em.c h n.line keeps em.line k stage_low)
        ∙ ap (λ (v : View). v.tickets) (view_at h n.line.stages.now k s stage_low is)
        ∙ ap (tickets_in h) (sym (em.deeds.tickets k s d low is at))
        ∙ ap (λ (v : View). v.tickets) (sym (told_view h n.deeds k d low at))

  -- each stage's end, tickets and move are those of its deeds, in each circuit that keeps the stages
  are_in : (h : Circuit) → Keeps em.c h → AreOf h n.deeds (views_of l n em) (moves_of l n em)
  are_in h keeps = record {
    moves = same_moves h keeps;
    ended = same_ended h keeps;
    tickets = λ k m low. ap (λ (f : ℕ → Signal). f m) (same_tickets h keeps k low);
  }

  -- so it is once the advisory writes are made
  pub are_of : AreOf em.h n.deeds (views_of l n em) (moves_of l n em)
  are_of = are_in em.h (keeps_ch l n em)

  -- the squash and its tails are those of the gates
  pub are_gates : AreGatesOf em.h (line_pipe n.line) n.moves.squash n.tails.cut (gates_of l n em)
  are_gates = record {
    squash = sym ((keeps_bh l n em).kept n.moves.squash em.moved.squash.there);
    tail = λ m low. ap (λ (fs : List Signal). signal_at fs m) (sym (signals_keep em.f em.h n.tails.cut (keeps_fh l n em) em.row.there));
  }

  -- one for each stage of the pipe
  pub deeds_count : length n.deeds ≡ length (line_pipe n.line).stages
  deeds_count = em.deeds.count ∙ em.line.count

  -- the arrays of advisory memories take what the stages of the netlist write
  pub advised_as : (m : ℕ) → advises_in em.j n.deeds m ≡ all_advises m (views_of l n em) (moves_of l n em) (length (line_pipe n.line).stages) 0
  advised_as m =
      let are = are_in em.j (keeps_cj l n em) in
      sym (advises_alike m (views_of l n em) (deeds.views_in em.j n.deeds) (moves_of l n em) (deeds.moves_in em.j n.deeds) (length n.deeds) 0 (length n.deeds)
      (omega arith) are.moves are.ended)
      ∙ ap (λ i. all_advises m (views_of l n em) (moves_of l n em) i 0) deeds_count
