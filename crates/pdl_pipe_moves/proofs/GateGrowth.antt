-- A gate stays while the circuit grows, and goes by what it asks alone.
use Rattle.std.proofs.Common.{◌≡◌, ◌<◌, ℕ, ap, ◌∙◌, length}
use Rattle.pdl_semantics.specs.Flat.{Pipe}
use Rattle.pdl_semantics.specs.Stages.{verify_stage}
use Rattle.pdl_semantics.specs.Updates.{squash_stages}
use Rattle.pdl_net.specs.Circuit.{Circuit}
use Rattle.pdl_net.specs.Signal.{Signal}
use Rattle.pdl_net.specs.Growth.{Keeps}
use Rattle.pdl_pipe_exprs.specs.Nets.{signals_in, signal_at}
use Rattle.pdl_pipe_exprs.proofs.NetLists.{signals_keep}
use Rattle.pdl_law_parts.specs.Walk.{both}
use Rattle.pdl_law_parts.specs.Views.{View}
use Rattle.pdl_law_sides.specs.Sides.{unsquashed, barrier_open}
use Rattle.pdl_pipe_beside.proofs.OrderSteps.{squashes_same}
use Rattle.pdl_pipe_nexts.specs.declared.line.StageLine.{StageLine}
use Rattle.pdl_pipe_nexts.specs.Lines.{line_pipe, line_views, IsLineIn}
use Rattle.pdl_pipe_nexts.proofs.LineGrowth.{views_same, bits_there}
use Rattle.pdl_pipe_moves.specs.declared.controls.Controls.{Controls}
use Rattle.pdl_pipe_moves.specs.Inside.{LeadsInside}
use Rattle.pdl_pipe_moves.specs.Gates.{opens_by}
use Rattle.pdl_pipe_moves.specs.Signs.{gate_by, signs_by, IsControlled}
use Rattle.pdl_pipe_moves.proofs.GateParts.{answered_same, turns_way}

-- a gate by its parts
gate_parts : (p : Pipe) (v : View) (k : ℕ) (frees : ℕ → Signal) (f g : Signal) (h i : ℕ → Signal) (j l m n : Signal) → f ≡ g → h ≡ i → j ≡ l → m ≡ n
    → both f
    (both (unsquashed (squash_stages p.stmts) k h) (both (opens_by frees v.ended.asks) (both (barrier_open (verify_stage p.stmts) k v.ended.barrier j) m)))
    ≡ both g
    (both (unsquashed (squash_stages p.stmts) k i) (both (opens_by frees v.ended.asks) (both (barrier_open (verify_stage p.stmts) k v.ended.barrier l) n)))
gate_parts p v k frees f g h i j l m n a b c d = cc (a, b, c, d)

module _ (a b : Circuit) (e : Keeps a b) (x : StageLine) (y : Controls) (line : IsLineIn a x)
    (inside : LeadsInside (line_pipe x)) (h : IsControlled a (line_pipe x) y) where
  clear_same : (k : ℕ) → signal_at (signals_in b y.clear.now) k ≡ signal_at (signals_in a y.clear.now) k
  clear_same k = ap (λ fs. signal_at fs k) (signals_keep a b y.clear.now e (bits_there a y.clear.now h.clear))

  -- the gate of stage k is the same signal in the circuit that grew, by the same free ports
  pub gate_same : (frees : ℕ → Signal) (k : ℕ) → k < length (line_pipe x).stages
      → gate_by (line_pipe x) (line_views b x) (signs_by b x y) frees k ≡ gate_by (line_pipe x) (line_views a x) (signs_by a x y) frees k
  gate_same frees k low =
      ap (λ (vs : ℕ → View). gate_by (line_pipe x) vs (signs_by b x y) frees k) (views_same a b x e line)
      ∙ gate_parts (line_pipe x)
      (line_views a x k) k frees _ _ _ _ _ _ _ _
      (answered_same a b e (line_pipe x) x.shared.now.ports.now k (length (line_pipe x).mems) 0 line.shared.ports)
      (squashes_same a b (line_pipe x) y.squashes e h.squashes) (clear_same k)
      (turns_way a b e (line_pipe x) y.orders.now k (line_views a x k).ended inside low h.turns)
