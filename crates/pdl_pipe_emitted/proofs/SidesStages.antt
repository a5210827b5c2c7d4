-- The stages of an emission as what stands beside them takes them.
use Rattle.std.proofs.Common.{◌≡◌, refl, sym, ap, ◌∙◌, ℕ, zero, suc, ◌<◌, List, [], ◌∷◌, length, arith}
use Rattle.std.specs.Prelude.{slice_index_or}
use Rattle.pdl_semantics.specs.Flat.{Pipe}
use Rattle.pdl_net.specs.declared.Net.{Net}
use Rattle.pdl_net.specs.Circuit.{Circuit}
use Rattle.pdl_net.specs.Meaning.{signal}
use Rattle.pdl_net.specs.Growth.{Keeps}
use Rattle.pdl_net.proofs.Keeps.{keeps_trans}
use Rattle.pdl_pipe_exprs.specs.Nets.{signals_in, signal_at}
use Rattle.pdl_pipe_exprs.proofs.NetLists.{signal_of}
use Rattle.pdl_law_parts.specs.Views.{View}
use Rattle.pdl_pipe_walk.specs.Locked.{Members}
use Rattle.pdl_pipe_walk.specs.Parts.{walk_in}
use Rattle.pdl_pipe_beside.specs.declared.ends.StageEnd.{StageEnd}
use Rattle.pdl_pipe_beside.specs.Ends.{ends_in, moves_in, kills_in}
use Rattle.pdl_pipe_beside.specs.Beside.{AreStagesOf}
use Rattle.pdl_pipe_beside.proofs.EndGrowth as ends_kept
use Rattle.pdl_pipe_beside.proofs.OrderSteps.{squashes_same}
use Rattle.pdl_pipe_registers.specs.declared.nets.StageNets.{StageNets}
use Rattle.pdl_pipe_registers.specs.Stages.{IsAt}
use Rattle.pdl_pipe_registers.proofs.Lists.{view_at}
use Rattle.pdl_pipe_nexts.specs.Lines.{line_pipe}
use Rattle.pdl_pipe_nexts.proofs.LineGrowth.{ended_same, moves_same, kills_same}
use Rattle.pdl_pipe_emitted.specs.Emitted.{Nets, Emission, views_of, moves_of, gates_of, sides_of}
use Rattle.pdl_pipe_emitted.proofs.SidesGrowth.{keeps_bc}

-- an element stands at each number of a list
pub some_of : {X : Type 0} (xs : List X) (k : ℕ) → k < length xs → (x : X) × (slice_index_or xs k x ≡ x)
some_of [] k l = absurd (omega (arith, l))
some_of (x ∷ xs) zero l = (x, refl)
some_of (x ∷ xs) (suc k) l = some_of xs k (omega (arith, l))

-- the signal of the net that stands at a number
pub at_signal : (c : Circuit) (xs : List Net) (k : ℕ) (x : Net)
    → k < length xs → slice_index_or xs k x ≡ x → signal c x ≡ signal_at (signals_in c xs) k
at_signal c xs k x l is = ap (signal c) (sym is) ∙ signal_of c xs k x l

module _ {T : Type 0} (l : Members T) (n : Nets T) (em : Emission l n) where
  abbrev p : Pipe
  p = line_pipe n.line

  module _ (y : Circuit) (keeps : Keeps em.c y) (k : ℕ) (low : k < length p.stages) where
    in_stages : k < length n.line.stages.now
    in_stages = let count = em.line.count in omega (arith, low, count)

    in_ends : k < length n.ends
    in_ends = let count = em.ends.count in let here = in_stages in omega (arith, here, count)

    the_stage : (s : StageNets) × IsAt n.line.stages.now k s
    the_stage = some_of n.line.stages.now k in_stages

    the_end : (e : StageEnd) × (slice_index_or n.ends k e ≡ e)
    the_end = some_of n.ends k in_ends

    ended_is : (views_of l n em k).ended ≡ (ends_in y n.ends k).ended
    ended_is =
        let s = the_stage in
        let e = the_end in
        sym (ended_same em.c y n.line keeps em.line k in_stages)
        ∙ ap (λ (v : View). v.ended) (view_at y n.line.stages.now k s.0 in_stages s.1)
        ∙ ap (walk_in y) (sym (em.ends.ended k s.0 e.0 in_ends s.1 e.1))
        ∙ sym (ap (λ (v : View). v.ended) (ends_kept.view_at y n.ends k e.0 in_ends (sym e.1)))

    move_is : moves_of l n em k ≡ moves_in y n.ends k
    move_is =
        let count = em.line.moves_count in
        let here = in_stages in
        let inside : k < length n.line.moves.now = omega (arith, here, count) in
        let m = some_of n.line.moves.now k inside in
        let e = the_end in
        sym (moves_same em.c y n.line keeps em.line k)
        ∙ sym (at_signal y n.line.moves.now k m.0 inside m.1)
        ∙ ap (signal y) (sym (em.ends.moves k m.0 e.0 in_ends m.1 e.1))
        ∙ ends_kept.move_at y n.ends k e.0 in_ends (sym e.1)

    kill_is : (gates_of l n em).kill k ≡ kills_in y n.ends k
    kill_is =
        let count = em.line.kills_count in
        let here = in_stages in
        let inside : k < length n.line.kills.now = omega (arith, here, count) in
        let m = some_of n.line.kills.now k inside in
        let e = the_end in
        sym (kills_same em.c y n.line keeps em.line k)
        ∙ sym (at_signal y n.line.kills.now k m.0 inside m.1)
        ∙ ap (signal y) (sym (em.ends.killed k m.0 e.0 in_ends m.1 e.1))
        ∙ ends_kept.kill_at y n.ends k e.0 in_ends (sym e.1)

  -- in each circuit after all nets the stages are those of the law
  pub are_stages : (y : Circuit) → Keeps em.c y
      → AreStagesOf y p n.ends n.moves.squashes (views_of l n em) (gates_of l n em) (moves_of l n em) (sides_of l n em).squash
  are_stages y keeps = record {
    ends = λ k low. ended_is y keeps k low;
    move = λ k low. move_is y keeps k low;
    kills = λ k low. kill_is y keeps k low;
    squashes = sym (squashes_same em.b y p n.moves.squashes (keeps_trans em.b em.c y (keeps_bc l n em) keeps) em.moved.squashes);
  }
