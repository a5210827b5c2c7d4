-- Turns stay while the circuit grows.
use Rattle.std.proofs.Common.{◌≡◌, ◌==◌, ◌<◌, ℕ, Bool, refl, sym, ap, ap₂, ◌∙◌, length, List}
use Rattle.std.specs.Prelude.{Option, Some, None, if◌then◌else◌}
use Rattle.pdl_semantics.specs.Flat.{Pipe}
use Rattle.pdl_semantics.specs.Stages.{stage_at, sides_of}
use Rattle.pdl_form.specs.Sides.{first_of}
use Rattle.pdl_net.specs.Circuit.{Circuit, State}
use Rattle.pdl_net.specs.Signal.{Signal, mux_signal}
use Rattle.pdl_net.specs.Growth.{Keeps}
use Rattle.pdl_net.proofs.KeptWidths.{width_keeps}
use Rattle.pdl_order.specs.declared.OrderRegs.{OrderRegs}
use Rattle.pdl_law_parts.specs.Walk.{is_on}
use Rattle.pdl_law_parts.proofs.Signals.{mux_by}
use Rattle.pdl_pipe_beside.specs.Beside.{order_first, order_empty}
use Rattle.pdl_pipe_walk.specs.Locked.{some_at}
use Rattle.pdl_pipe_answers.specs.Ports.{IsOnAs}
use Rattle.pdl_pipe_moves.specs.Gates.{turn_by, merge_by, turn_in, IsOrderThere, HasTurns}
use Rattle.pdl_pipe_answers.proofs.Bits.{at_bit}

module _ (a b : Circuit) (e : Keeps a b) where
  there_keep : (o : Option OrderRegs) → IsOrderThere a o → IsOrderThere b o
  there_keep None h = h
  there_keep (Some r) h = record {
    first = width_keeps a b r.first 1 e h.first;
    empty = width_keeps a b r.empty 1 e h.empty;
  }

  -- each fork that is merged still has its order
  pub turns_keep : (p : Pipe) (rs : List (Option OrderRegs)) → HasTurns a p rs → HasTurns b p rs
  turns_keep p rs h = λ q f l is. ((h q f l is).0, there_keep (some_at rs f) (h q f l is).1)

  by_same : (o : Option OrderRegs) (from : Option Bool) → IsOrderThere a o
      → turn_by (order_first b o) (order_empty b o) from ≡ turn_by (order_first a o) (order_empty a o) from
  by_same None from h = refl
  by_same (Some r) from h = ap₂ (λ f g. turn_by f g from) (e.kept r.first h.first.there) (e.kept r.empty h.empty.there)

  -- whether it is the turn of stage k's thread to go into stage q is told by the same signal
  pub turn_same : (p : Pipe) (rs : List (Option OrderRegs)) (k q : ℕ) → q < length p.stages → HasTurns a p rs → turn_in b p rs k q ≡ turn_in a p rs k q
  turn_same p rs k q l h = at (stage_at p q).merges refl
    where
      at : (o : Option ℕ) → (stage_at p q).merges ≡ o → merge_by b rs o (stage_at p k).branches ≡ merge_by a rs o (stage_at p k).branches
      at None is = refl
      at (Some f) is = by_same (some_at rs f) (first_of (sides_of f (stage_at p k).branches)) (h q f l is).1

mux_on : (c f g : Signal) (s : State) → is_on (mux_signal c f g) s ≡ (if is_on c s then is_on f s else is_on g s)
mux_on c f g s = ap (λ n. n == 1) (mux_by s c f g) ∙ at_bit (is_on c s) (f.value s) (g.value s)

-- choices by one condition between bits that are 1 together are 1 together
pub mux_as : (c d f g h k : Signal) → c ≡ d → IsOnAs f h → IsOnAs g k → IsOnAs (mux_signal c f g) (mux_signal d h k)
mux_as c d f g h k e x y s =
    ap (λ w. is_on (mux_signal w f g) s) e ∙ mux_on d f g s ∙ ap₂ (λ (u v : Bool). if is_on d s then u else v) (x s) (y s) ∙ sym (mux_on d h k s)
