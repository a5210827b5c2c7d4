-- Parts of a gate that are made one after another.
use Rattle.std.proofs.Common.{◌≡◌, ◌<◌, ℕ, zero, suc, refl, ap, ap₂, ◌∙◌, length, List, [], ◌∷◌, map, arith}
use Rattle.std.specs.Prelude.{Option}
use Rattle.pdl_word.specs.Each.{Each}
use Rattle.pdl_semantics.specs.Flat as flat
use Rattle.pdl_semantics.specs.Flat.{Next, Pipe}
use Rattle.pdl_semantics.specs.Stages.{stage_at}
use Rattle.pdl_net.specs.declared.Net.{Net}
use Rattle.pdl_net.specs.Circuit.{Circuit}
use Rattle.pdl_net.specs.Signal.{Signal, mux_signal}
use Rattle.pdl_net.specs.Meaning.{signal, IsThere}
use Rattle.pdl_net.specs.Growth.{Keeps}
use Rattle.pdl_net.proofs.KeptWidths.{width_keeps}
use Rattle.pdl_order.specs.declared.OrderRegs.{OrderRegs}
use Rattle.pdl_port.specs.declared.PortRegs.{PortRegs}
use Rattle.pdl_law_parts.specs.Walk.{Walk, both, is_on}
use Rattle.pdl_law_parts.specs.Views.{way_on}
use Rattle.pdl_law_sides.specs.Sides.{all_answered}
use Rattle.pdl_pipe_walk.specs.declared.nets.AskNet.{AskNet}
use Rattle.pdl_pipe_walk.specs.Parts.{ask_in}
use Rattle.pdl_pipe_walk.specs.Sized.{IsSizedAsk}
use Rattle.pdl_pipe_answers.specs.Ports.{HasAnswers, IsBit, IsBitFor, answers_in}
use Rattle.pdl_pipe_answers.proofs.Bits.{both_as, memory_answered_same}
use Rattle.pdl_pipe_moves.specs.Inside.{LeadsInside}
use Rattle.pdl_pipe_moves.specs.Gates.{turn_in, IsAsked, HasTurns}
use Rattle.pdl_pipe_moves.proofs.StageWays.{straight_low, first_low, second_low}
use Rattle.pdl_pipe_moves.proofs.TurnGrowth.{turn_same}

-- ---- both of two parts, of which the second is made later

-- a net that is 1 where a signal is has 1 bit
pub bit_of : (c : Circuit) (x : Net) (f : Signal) → IsBitFor c x f → IsBit c x
bit_of c x f h = h.bit

-- a net of 1 bit is one as well in a circuit that keeps what stands in its own
pub bit_keep : (a b : Circuit) (x : Net) → Keeps a b → IsBit a x → IsBit b x
bit_keep a b x e h = width_keeps a b x 1 e h

-- nets of 1 bit are such as well in a circuit that keeps what stands in theirs
pub bits_keep : (a b : Circuit) (xs : List Net) → Keeps a b → Each (IsBit a) xs → Each (IsBit b) xs
bits_keep a b [] e h = tt
bits_keep a b (x ∷ xs) e h = (bit_keep a b x e h.0, bits_keep a b xs e h.1)

-- a net that is 1 where two nets are, of which the second is from an earlier circuit, is 1 where both signals are
pub both_after : (a b c : Circuit) (x y z : Net) (f g : Signal) → Keeps a b → IsBitFor b x f → IsBitFor a y g
    → IsBitFor c z (both (signal b x) (signal b y)) → IsBitFor c z (both f g)
both_after a b c x y z f g e h k r = record {
  bit = r.bit;
  on = λ s. r.on s ∙ both_as (signal b x) (signal b y) f g h.on (λ t. ap (λ (i : Signal). is_on i t) (e.kept y k.bit.there) ∙ k.on t) s;
}

-- ---- while the circuit grows

module _ (a b : Circuit) (e : Keeps a b) where
  -- whether the thread of stage k awaits no answer of n memories is told by the same signal in both circuits
  pub answered_same : (p : Pipe) (ports : List (Option PortRegs)) (k n m : ℕ) → HasAnswers a p ports
      → all_answered p (answers_in b ports) k n m ≡ all_answered p (answers_in a ports) k n m
  answered_same p ports k zero m h = refl
  answered_same p ports k (suc n) m h = ap₂ both (memory_answered_same a b e p ports k m h) (answered_same p ports k n (suc m) h)

  -- requests of which the conditions are there
  pub asks_same : (qs : List AskNet) → Each (λ (x : AskNet). IsThere a x.on × IsThere a x.addr) qs → map (ask_in b) qs ≡ map (ask_in a) qs
  asks_same [] h = refl
  asks_same (q ∷ qs) h =
      ap₂ (λ x xs. x ∷ xs) (ap₂ (λ f g. record { mem = q.mem; var = q.var; on = f; addr = g }) (e.kept q.on h.0.0) (e.kept q.addr h.0.1)) (asks_same qs h.1)

  -- the way on asks for turns into stages of the pipe alone
  pub turns_way : (p : Pipe) (rs : List (Option OrderRegs)) (k : ℕ) (w : Walk) → LeadsInside p → k < length p.stages → HasTurns a p rs
      → way_on (stage_at p k).next (turn_in b p rs k) w ≡ way_on (stage_at p k).next (turn_in a p rs k) w
  turns_way p rs k w inside low h = at (stage_at p k).next refl
    where
      at : (n : Next) → (stage_at p k).next ≡ n → way_on n (turn_in b p rs k) w ≡ way_on n (turn_in a p rs k) w
      at flat.Ends is = refl
      at (flat.Goes to) is = turn_same a b e p rs k to (straight_low p inside k low to is) h
      at (flat.Forks x first second) is =
          ap₂ (λ f g. mux_signal (w.vars x) f g)
          (turn_same a b e p rs k first (first_low p inside k low x first second is) h)
          (turn_same a b e p rs k second (second_low p inside k low x first second is) h)

-- ---- requests

-- each sized request has its condition of 1 bit, and a net for whether its memory's port is free
pub are_asked : (c : Circuit) (p : Pipe) (frees : List Net) (qs : List AskNet)
    → length frees ≡ length p.mems → Each (λ (x : AskNet). IsThere c x.on × IsThere c x.addr) qs
    → Each (IsSizedAsk p) (map (ask_in c) qs) → Each (IsAsked c frees) qs
are_asked c p frees [] e h s = tt
are_asked c p frees (q ∷ qs) e h s =
    (record { on = record { there = h.0.0; width = s.0.1 }; mem = (let l = s.0.0 in omega (arith, l, e)) }, are_asked c p frees qs e h.1 s.1)
