-- Who comes into a stage: what the nets of a line say of it.
use Rattle.std.proofs.Common.{◌≡◌, refl, sym, ap, ap₂, ◌∙◌, subst, ℕ, zero, suc, ◌<◌, ◌==◌, Bool, true, false, List, [], ◌∷◌, ◌++◌, length, arith}
use Rattle.std.specs.Prelude.{slice_index, slice_index_or, if◌then◌else◌}
use Rattle.pdl_semantics.specs.Flat as flat
use Rattle.pdl_semantics.specs.Flat.{Next, Pipe, Stage}
use Rattle.pdl_semantics.specs.Stages.{stage_at, last_stage}
use Rattle.pdl_form_types.specs.Stmts.{AreForks, IsFork}
use Rattle.pdl_net.specs.declared.Net.{Net}
use Rattle.pdl_net.specs.Circuit.{Circuit, State}
use Rattle.pdl_net.specs.Signal.{Signal}
use Rattle.pdl_net.specs.Growth.{Keeps}
use Rattle.pdl_net.proofs.KeptWidths.{width_keeps}
use Rattle.pdl_law_parts.specs.Walk.{Walk, one, zero_bit, both, is_on}
use Rattle.pdl_law_parts.specs.Views.{View, out_of, branch}
use Rattle.pdl_law_parts.proofs.Signals.{mux_by, one_is, zero_is}
use Rattle.pdl_pipe_nexts.specs.declared.arrivals.Arrival.{Arrival}
use Rattle.pdl_pipe_nexts.specs.Arrivals.{Comes, IsArrival, AreArrivals}
use Rattle.pdl_pipe_registers.proofs.Bits.{bit_on}

-- ---- forks

-- a fork goes by a variable of 1 bit
pub fork_at : (ws : List ℕ) (ss : List Stage) (k x first second : ℕ)
    → k < length ss → AreForks ws ss → (slice_index_or ss k last_stage).next ≡ flat.Forks x first second
    → (x < length ws) × (slice_index ws x ≡ 1)
fork_at ws [] k x first second l h e = absurd (omega (arith, l))
fork_at ws (s ∷ ss) zero x first second l h e = subst (IsFork ws) e h.0
fork_at ws (s ∷ ss) (suc k) x first second l h e = fork_at ws ss k x first second (omega (arith, l)) h.1 e

-- ---- straight on

none_on : (b : Bool) → ((if b then 0 else 0) == 1) ≡ false
none_on true = refl
none_on false = refl

-- beside a one, and beside a zero
pub both_one : (f : Signal) (s : State) → is_on f s ≡ is_on (both f one) s
both_one f s = sym (ap (λ n. n == 1) (mux_by s f one zero_bit ∙ ap₂ (λ a b. if is_on f s then a else b) (one_is s) (zero_is s)) ∙ bit_on (is_on f s))

both_zero : (f : Signal) (s : State) → is_on zero_bit s ≡ is_on (both f zero_bit) s
both_zero f s =
    ap (λ n. n == 1) (zero_is s)
    ∙ sym (ap (λ n. n == 1) (mux_by s f zero_bit zero_bit ∙ ap₂ (λ a b. if is_on f s then a else b) (zero_is s) (zero_is s)) ∙ none_on (is_on f s))

module _ (p : Pipe) (vs : ℕ → View) (moves : ℕ → Signal) (q j : ℕ) where
  -- a thread that moves out of a stage which leads to this one alone comes here
  pub straight : (to : ℕ) → (stage_at p j).next ≡ flat.Goes to → (to == q) ≡ true → (s : State) → is_on (moves j) s ≡ is_on (out_of p vs moves q j).comes s
  straight to e here s =
      both_one (moves j) s
      ∙ sym
      (ap (λ (f : Signal). is_on (both (moves j) f) s) (ap (λ (n : Next). branch n q (vs j).ended) e ∙ ap (λ (b : Bool). if b then one else zero_bit) here))

  -- out of a stage which leads to another one alone no thread comes here
  pub elsewhere : (to : ℕ) → (stage_at p j).next ≡ flat.Goes to → (to == q) ≡ false → (s : State) → is_on zero_bit s ≡ is_on (out_of p vs moves q j).comes s
  elsewhere to e there s =
      both_zero (moves j) s
      ∙ sym
      (ap (λ (f : Signal). is_on (both (moves j) f) s)
      (ap (λ (n : Next). branch n q (vs j).ended) e ∙ ap (λ (b : Bool). if b then one else zero_bit) there))

  -- out of a stage in which threads end none comes here
  pub nowhere : (stage_at p j).next ≡ flat.Ends → (s : State) → is_on zero_bit s ≡ is_on (out_of p vs moves q j).comes s
  nowhere e s = both_zero (moves j) s ∙ sym (ap (λ (f : Signal). is_on (both (moves j) f) s) (ap (λ (n : Next). branch n q (vs j).ended) e))

-- ---- lists of arrivals

comes_keep : (a c : Circuit) (p : Pipe) (vs : ℕ → View) (moves : ℕ → Signal) (q j : ℕ) (x : Net) → Keeps a c
    → Comes a p vs moves q j x → Comes c p vs moves q j x
comes_keep a c p vs moves q j x e h = record {
  bit = width_keeps a c x 1 e h.bit;
  on = λ s. ap (λ (f : Signal). is_on f s) (e.kept x h.bit.there) ∙ h.on s;
}

-- threads that may come into a stage stay so in a circuit that keeps their nets
pub arrivals_keep : (a c : Circuit) (p : Pipe) (vs : ℕ → View) (moves : ℕ → Signal) (q : ℕ) (js : List ℕ) (xs : List Arrival)
    → Keeps a c → AreArrivals a p vs moves q js xs → AreArrivals c p vs moves q js xs
arrivals_keep a c p vs moves q [] [] e h = tt
arrivals_keep a c p vs moves q [] (x ∷ xs) e h = absurd h
arrivals_keep a c p vs moves q (j ∷ js) [] e h = absurd h
arrivals_keep a c p vs moves q (j ∷ js) (x ∷ xs) e h = let here = h.0 in
    (record { from = here.from; comes = comes_keep a c p vs moves q j x.comes e here.comes }, arrivals_keep a c p vs moves q js xs e h.1)

-- with a thread that may come out of one stage more there is one for each of these stages
pub arrivals_push : (c : Circuit) (p : Pipe) (vs : ℕ → View) (moves : ℕ → Signal) (q : ℕ) (js : List ℕ)
    (xs : List Arrival) (j : ℕ) (x : Arrival)
    → AreArrivals c p vs moves q js xs → IsArrival c p vs moves q j x
    → AreArrivals c p vs moves q (js ++ j ∷ []) (xs ++ x ∷ [])
arrivals_push c p vs moves q [] [] j x h new = (new, tt)
arrivals_push c p vs moves q [] (y ∷ ys) j x h new = absurd h
arrivals_push c p vs moves q (i ∷ is) [] j x h new = absurd h
arrivals_push c p vs moves q (i ∷ is) (y ∷ ys) j x h new = (h.0, arrivals_push c p vs moves q is ys j x h.1 new)

-- so who comes is the same by other views that end alike
pub comes_as : (c : Circuit) (p : Pipe) (vs us : ℕ → View) (f g : ℕ → Signal) (q j : ℕ) (x : Net)
    → (vs j).ended ≡ (us j).ended → f j ≡ g j → Comes c p vs f q j x → Comes c p us g q j x
comes_as c p vs us f g q j x v m h = record {
  bit = h.bit;
  on = λ s. h.on s ∙ ap₂ (λ (w : Walk) (t : Signal). is_on (both t (branch (stage_at p j).next q w)) s) v m;
}
