-- Bits that are 1 together.
use Rattle.std.proofs.Common.{◌≡◌, refl, sym, ap, ap₂, ◌∙◌, ◌==◌, ℕ, suc, ◌+◌, ◌-◌, ◌<◌, Bool, true, false, List, length, arith}
use Rattle.std.specs.Prelude.{Option, Some, None, if◌then◌else◌}
use Rattle.pdl_semantics.specs.Flat as flat
use Rattle.pdl_semantics.specs.Flat.{Next, Pipe}
use Rattle.pdl_semantics.specs.Stages.{mem_at, stage_at}
use Rattle.pdl_net.specs.Circuit.{Circuit, State}
use Rattle.pdl_net.specs.Signal.{Signal}
use Rattle.pdl_net.specs.Growth.{Keeps}
use Rattle.pdl_law_sides.specs.Walk.{one, zero_bit, both, is_on}
use Rattle.pdl_law_sides.proofs.Signals.{mux_by, one_is, zero_is}
use Rattle.pdl_port.specs.declared.PortRegs.{PortRegs}
use Rattle.pdl_port.specs.Laws.{AnswerSignals, HasAnswerNets, answer_signals, places as port_places}
use Rattle.pdl_law_sides.specs.Readings.{Reading, reading, places, places_of}
use Rattle.pdl_law_sides.specs.Sides.{place_answered, memory_answered, all_answered}
use Rattle.pdl_pipe_answers.specs.Ports.{port_at, port_answers, answers_in, IsPortFor, HasAnswers, IsOnAs, answered_where}
use Rattle.pdl_pipe_answers.proofs.PortAnswers.{at_place}

-- beside a one, and beside a zero
pub bit_on : (b : Bool) → ((if b then 1 else 0) == 1) ≡ b
bit_on true = refl
bit_on false = refl

-- a bit is 1 just where it and after it a one are
pub both_one : (f : Signal) → IsOnAs f (both f one)
both_one f s = sym (ap (λ n. n == 1) (mux_by s f one zero_bit ∙ ap₂ (λ a b. if is_on f s then a else b) (one_is s) (zero_is s)) ∙ bit_on (is_on f s))

-- a bit is 1 just where a one and after it this bit are
pub one_both : (f : Signal) → IsOnAs f (both one f)
one_both f s = sym (ap (λ n. n == 1) (mux_by s one f zero_bit ∙ ap (λ n. if n == 1 then f.value s else zero_bit.value s) (one_is s)))

-- what is 1 together with what is
pub at_bit : (b : Bool) (x z : ℕ) → ((if b then x else z) == 1) ≡ (if b then x == 1 else z == 1)
at_bit true x z = refl
at_bit false x z = refl

-- both of two bits are 1 where the first is and the second is
pub both_on : (f g : Signal) (s : State) → is_on (both f g) s ≡ (if is_on f s then is_on g s else is_on zero_bit s)
both_on f g s = ap (λ n. n == 1) (mux_by s f g zero_bit) ∙ at_bit (is_on f s) (g.value s) (zero_bit.value s)

-- two bits are both 1 just where two others are that are each 1 together with them
pub both_as : (f g h k : Signal) → IsOnAs f h → IsOnAs g k → IsOnAs (both f g) (both h k)
both_as f g h k e d s = both_on f g s ∙ ap₂ (λ (a b : Bool). if a then b else is_on zero_bit s) (e s) (d s) ∙ sym (both_on h k s)

-- ---- while the circuit grows

module _ (a b : Circuit) (e : Keeps a b) where
  place_answered_same : (w : ℕ) (r : PortRegs) (k : ℕ) (next : Next) → port_places r ≡ length (places_of next)
      → HasAnswerNets a w r
      → place_answered (answer_signals b r) k (places_of next) 0 ≡ place_answered (answer_signals a r) k (places_of next) 0
  place_answered_same w r k flat.Ends n h = refl
  place_answered_same w r k (flat.Goes to) n h =
      ap (λ (y : AnswerSignals). if to == k then both y.answered one else one) (at_place a b e w r 0 (omega (arith, n)) h)
  place_answered_same w r k (flat.Forks x first second) n h =
      ap₂
      (λ (y z : AnswerSignals). if first == k
      then both y.answered (if second == k then both z.answered one else one)
      else (if second == k then both z.answered one else one))
      (at_place a b e w r 0 (omega (arith, n)) h) (at_place a b e w r 1 (omega (arith, n)) h)

  -- whether the thread of stage k awaits no answer of memory m is told by the same signal in both circuits
  pub memory_answered_same : (p : Pipe) (ports : List (Option PortRegs)) (k m : ℕ) → HasAnswers a p ports
      → memory_answered p (answers_in b ports) k m (reading p m) ≡ memory_answered p (answers_in a ports) k m (reading p m)
  memory_answered_same p ports k m h = at (reading p m) refl
    where
      at : (o : Option Reading) → reading p m ≡ o → memory_answered p (answers_in b ports) k m o ≡ memory_answered p (answers_in a ports) k m o
      at None is = refl
      at (Some r) is = by (port_at ports m) (h.each m r is)
        where
          by : (o : Option PortRegs) → IsPortFor a p m r o
              → place_answered (port_answers b o) k (places p r) 0 ≡ place_answered (port_answers a o) k (places p r) 0
          by None q = absurd q
          by (Some y) q = place_answered_same (mem_at p m).width y k (stage_at p r.stage).next q.0 q.1

-- ---- one memory more

-- a thread awaits none of the last i + 1 memories where it awaits none of the first of them and of the rest
pub answered_more : (p : Pipe) (f : ℕ → ℕ → AnswerSignals) (k n i m : ℕ)
    → i < n → m ≡ n - 1 - i
    → both (memory_answered p f k m (reading p m)) (all_answered p f k i (n - i)) ≡ all_answered p f k (i + 1) (n - (i + 1))
answered_more p f k n i m l is =
    let count : i + 1 ≡ suc i = omega arith in
    let from : n - (i + 1) ≡ m = omega (arith, l, is) in
    let next : n - i ≡ suc m = omega (arith, l, is) in
    ap (λ j. both (memory_answered p f k m (reading p m)) (all_answered p f k i j)) next ∙ sym (ap₂ (λ c j. all_answered p f k c j) count from)

-- rests that are 1 together stay so beside the answer of a place
pub where_as : (here : Bool) (a : AnswerSignals) (f g : Signal) → IsOnAs f g → IsOnAs (answered_where here a f) (answered_where here a g)
where_as true a f g h = both_as a.answered f a.answered g (λ s. refl) h
where_as false a f g h = h
