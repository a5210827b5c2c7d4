-- What the ports of delayed memories answer, memory by memory, while the circuit grows.
use Rattle.std.proofs.Common.{◌≡◌, refl, sym, ap, ap₂, ◌∙◌, ℕ, zero, suc, ◌+◌, ◌-◌, ◌<◌, ◌==◌, Bool, true, false, ◌&&◌, ◌||◌, List, length, arith}
use Rattle.std.specs.Prelude.{Option, Some, None, if◌then◌else◌}
use Rattle.std.proofs.lemmas.Bool.{false≢true}
use Rattle.pdl_semantics.specs.Flat as flat
use Rattle.pdl_semantics.specs.Flat.{Next, Pipe}
use Rattle.pdl_semantics.specs.Stages.{mem_at, stage_at}
use Rattle.pdl_law_sides.specs.Slots.{leads_to}
use Rattle.pdl_net.specs.Circuit.{Circuit}
use Rattle.pdl_net.specs.Signal.{Signal, mux_signal}
use Rattle.pdl_net.specs.Growth.{Keeps}
use Rattle.pdl_net.proofs.KeptWidths.{width_keeps}
use Rattle.pdl_port.specs.declared.PortRegs.{PortRegs}
use Rattle.pdl_port.specs.Laws.{AnswerSignals, HasAnswerNets, answer_at, answer_signals, places as port_places}
use Rattle.pdl_law_sides.specs.Readings.{Reading, reading, places, places_of}
use Rattle.pdl_law_sides.specs.Sides.{place_answer, memory_answer, some_answer, with_answer}
use Rattle.pdl_pipe_answers.specs.Readings.{gets_one, gets_some, gets_answer}
use Rattle.pdl_pipe_answers.specs.Ports.{port_at, answers_in, IsPortFor, HasAnswers}

-- ---- one memory more

-- a variable may get an answer of memories m and later ones where it may get one of m or of those after it
pub gets_more : (p : Pipe) (k x n m : ℕ)
    → m < n → gets_some p k x (n - m) m ≡ (gets_one p k x (reading p m) || gets_some p k x (n - (m + 1)) (m + 1))
gets_more p k x n m l =
    let e : n - m ≡ suc (n - (m + 1)) = omega (arith, l) in
    let next : suc m ≡ m + 1 = omega arith in
    ap (λ i. gets_some p k x i m) e ∙ ap (λ i. gets_one p k x (reading p m) || gets_some p k x (n - (m + 1)) i) next

-- the last i + 1 of n memories
pub answer_more : (p : Pipe) (f : ℕ → ℕ → AnswerSignals) (k x n i m : ℕ) (rest : Signal)
    → i < n → m ≡ n - 1 - i
    → memory_answer p f k x m (reading p m) (some_answer p f k x i (n - i) rest) ≡ some_answer p f k x (i + 1) (n - (i + 1)) rest
answer_more p f k x n i m rest l is =
    let count : i + 1 ≡ suc i = omega arith in
    let from : n - (i + 1) ≡ m = omega (arith, l, is) in
    let next : n - i ≡ suc m = omega (arith, l, is) in
    ap (λ j. memory_answer p f k x m (reading p m) (some_answer p f k x i j rest)) next
    ∙ sym (ap₂ (λ c j. some_answer p f k x c j rest) count from)

-- ---- a variable for which no answer comes

place_none : (f : ℕ → AnswerSignals) (k : ℕ) (next : Next) (rest : Signal)
    → leads_to next k ≡ false → place_answer f k (places_of next) 0 rest ≡ rest
place_none f k flat.Ends rest e = refl
place_none f k (flat.Goes to) rest e = ap (λ b. if b then mux_signal (f 0).given (f 0).value rest else rest) e
place_none f k (flat.Forks x first second) rest e = at (first == k) (second == k) e
  where
    at : (b d : Bool) → (b || d) ≡ false
        → (if b
        then mux_signal (f 0).given (f 0).value (if d then mux_signal (f 1).given (f 1).value rest else rest)
        else (if d then mux_signal (f 1).given (f 1).value rest else rest))
        ≡ rest
    at true d h = absurd (false≢true (sym h))
    at false true h = absurd (false≢true (sym h))
    at false false h = refl

memory_none : (p : Pipe) (f : ℕ → ℕ → AnswerSignals) (k x m : ℕ) (o : Option Reading) (rest : Signal)
    → gets_one p k x o ≡ false → memory_answer p f k x m o rest ≡ rest
memory_none p f k x m None rest e = refl
memory_none p f k x m (Some r) rest e = at (r.var == x) e
  where
    at : (b : Bool) → (b && leads_to (stage_at p r.stage).next k) ≡ false → (if b then place_answer (f m) k (places p r) 0 rest else rest) ≡ rest
    at true h = place_none (f m) k (stage_at p r.stage).next rest h
    at false h = refl

some_none : (p : Pipe) (f : ℕ → ℕ → AnswerSignals) (k x n m : ℕ) (rest : Signal)
    → gets_some p k x n m ≡ false → some_answer p f k x n m rest ≡ rest
some_none p f k x zero m rest e = refl
some_none p f k x (suc n) m rest e = at (gets_one p k x (reading p m)) (gets_some p k x n (suc m)) refl refl e (some_none p f k x n (suc m) rest)
  where
    at : (b d : Bool) → gets_one p k x (reading p m) ≡ b → gets_some p k x n (suc m) ≡ d → (b || d) ≡ false
        → (gets_some p k x n (suc m) ≡ false → some_answer p f k x n (suc m) rest ≡ rest)
        → memory_answer p f k x m (reading p m) (some_answer p f k x n (suc m) rest) ≡ rest
    at true d g h z later = absurd (false≢true (sym z))
    at false true g h z later = absurd (false≢true (sym z))
    at false false g h z later = memory_none p f k x m (reading p m) (some_answer p f k x n (suc m) rest) g ∙ later h

-- a variable for which no answer comes is what it was kept as
pub answer_none : (p : Pipe) (f : ℕ → ℕ → AnswerSignals) (k x : ℕ) (kept : Signal)
    → gets_answer p k x ≡ false → with_answer p f k x kept ≡ kept
answer_none p f k x kept e = some_none p f k x (length p.mems) 0 kept e

-- ---- ports stay

module _ (a b : Circuit) (e : Keeps a b) where
  nets_keep : (w : ℕ) (r : PortRegs) → HasAnswerNets a w r → HasAnswerNets b w r
  nets_keep w r h = record {
    answered = λ k l. width_keeps a b (answer_at r k).answered 1 e (h.answered k l);
    given = λ k l. width_keeps a b (answer_at r k).given 1 e (h.given k l);
    value = λ k l. width_keeps a b (answer_at r k).value w e (h.value k l);
  }

  port_keep : (p : Pipe) (m : ℕ) (r : Reading) (o : Option PortRegs) → IsPortFor a p m r o → IsPortFor b p m r o
  port_keep p m r None h = h
  port_keep p m r (Some q) h = (h.0, nets_keep (mem_at p m).width q h.1)

  -- each memory that is read delayed still has a port for its read
  pub answers_keep : (p : Pipe) (ports : List (Option PortRegs)) → HasAnswers a p ports → HasAnswers b p ports
  answers_keep p ports h = record { count = h.count; each = λ m r is. port_keep p m r (port_at ports m) (h.each m r is) }

  -- what each place is told is what it was
  pub at_place : (w : ℕ) (r : PortRegs) (i : ℕ) → i < port_places r → HasAnswerNets a w r → answer_signals b r i ≡ answer_signals a r i
  at_place w r i l h =
      ap₂ (λ (f : Signal) (g : Signal × Signal). (let z : AnswerSignals = record { answered = f; given = g.0; value = g.1 } in z))
      (e.kept (answer_at r i).answered (h.answered i l).there)
      (ap₂ (λ (f g : Signal). (f, g)) (e.kept (answer_at r i).given (h.given i l).there) (e.kept (answer_at r i).value (h.value i l).there))

  -- the answer that comes into stage k through the places after the reading stage is the same signal in both circuits
  pub place_same : (w : ℕ) (r : PortRegs) (k : ℕ) (next : Next) (rest : Signal)
      → port_places r ≡ length (places_of next) → HasAnswerNets a w r
      → place_answer (answer_signals b r) k (places_of next) 0 rest ≡ place_answer (answer_signals a r) k (places_of next) 0 rest
  place_same w r k flat.Ends rest n h = refl
  place_same w r k (flat.Goes to) rest n h =
      ap (λ (y : AnswerSignals). if to == k then mux_signal y.given y.value rest else rest) (at_place w r 0 (omega (arith, n)) h)
  place_same w r k (flat.Forks x first second) rest n h =
      ap₂
      (λ (y z : AnswerSignals). if first == k
      then mux_signal y.given y.value (if second == k then mux_signal z.given z.value rest else rest)
      else (if second == k then mux_signal z.given z.value rest else rest))
      (at_place w r 0 (omega (arith, n)) h) (at_place w r 1 (omega (arith, n)) h)

  -- the answer of memory m for a variable in stage k is the same signal in both circuits
  pub memory_same : (p : Pipe) (ports : List (Option PortRegs)) (k x m : ℕ) (rest : Signal) → HasAnswers a p ports
      → memory_answer p (answers_in b ports) k x m (reading p m) rest ≡ memory_answer p (answers_in a ports) k x m (reading p m) rest
  memory_same p ports k x m rest h = at (reading p m) refl
    where
      at : (o : Option Reading) → reading p m ≡ o → memory_answer p (answers_in b ports) k x m o rest ≡ memory_answer p (answers_in a ports) k x m o rest
      at None is = refl
      at (Some r) is = by (port_at ports m) (h.each m r is)
        where
          by : (o : Option PortRegs) → IsPortFor a p m r o
              → (if r.var == x then place_answer (Rattle.pdl_pipe_answers.specs.Ports.port_answers b o) k (places p r) 0 rest else rest)
              ≡ (if r.var == x then place_answer (Rattle.pdl_pipe_answers.specs.Ports.port_answers a o) k (places p r) 0 rest else rest)
          by None q = absurd q
          by (Some y) q = ap (λ (g : Signal). if r.var == x then g else rest) (place_same (mem_at p m).width y k (stage_at p r.stage).next rest q.0 q.1)

  some_same : (p : Pipe) (ports : List (Option PortRegs)) (k x n m : ℕ) (rest : Signal) → HasAnswers a p ports
      → some_answer p (answers_in b ports) k x n m rest ≡ some_answer p (answers_in a ports) k x n m rest
  some_same p ports k x zero m rest h = refl
  some_same p ports k x (suc n) m rest h =
      memory_same p ports k x m (some_answer p (answers_in b ports) k x n (suc m) rest) h
      ∙ ap (memory_answer p (answers_in a ports) k x m (reading p m)) (some_same p ports k x n (suc m) rest h)

  -- a variable with this cycle's answers is the same signal in both circuits
  pub answer_same : (p : Pipe) (ports : List (Option PortRegs)) (k x : ℕ) (kept : Signal) → HasAnswers a p ports
      → with_answer p (answers_in b ports) k x kept ≡ with_answer p (answers_in a ports) k x kept
  answer_same p ports k x kept h = some_same p ports k x (length p.mems) 0 kept h
