-- What the signals of a squash say where its ports are driven.
use Rattle.std.proofs.Common.{◌≡◌, ℕ, zero, suc, ◌+◌, ◌-◌, ◌<◌, ◌≤◌, Bool, true, false, refl, ap, ◌∙◌, arith}
use Rattle.std.specs.Prelude.{◌&&◌, if◌then◌else◌}
use Rattle.pdl_word.specs.Words.{bit}
use Rattle.pdl_net.specs.Circuit.{State}
use Rattle.pdl_net.specs.Signal.{Signal, const_signal, const_value}
use Rattle.pdl_squash.specs.Laws.{SquashSignals, Drives, none_held, SquashLaw}
use Rattle.pdl_squash.specs.Nets.{squash_signal, removed_signal, none_signal, clear_signal}
use Rattle.pdl_net.proofs.Signals.{mux_at}

squashes : (f : SquashSignals) (s : State) (held : ℕ → Bool) (moves fails : Bool) → Drives f s held moves fails
    → (squash_signal f).value s ≡ bit (moves && fails)
unfolding const_value
squashes f s held true fails d = mux_at f.moves f.fails (const_signal 1 0) s true d.moves ∙ d.fails refl
squashes f s held false fails d = mux_at f.moves f.fails (const_signal 1 0) s false d.moves

held_too : (x y : Bool) → (if x then bit y else 0) ≡ bit (x && y)
held_too true y = refl
held_too false y = refl

removes : (f : SquashSignals) (s : State) (held : ℕ → Bool) (moves fails : Bool) → Drives f s held moves fails → (k : ℕ)
    → k < f.stage → (removed_signal f k).value s ≡ bit (moves && fails && held k)
unfolding const_value
removes f s held moves fails d k h =
    mux_at (squash_signal f) (f.valid k) (const_signal 1 0) s (moves && fails) (squashes f s held moves fails d)
    ∙ ap (λ n. if moves && fails then n else 0) (d.valid k (omega arith)) ∙ held_too (moves && fails) (held k)

none_more : (x : Bool) (y : Bool) → (if x then 0 else bit y) ≡ bit (if x then false else y)
none_more true y = refl
none_more false y = refl

nones : (f : SquashSignals) (s : State) (held : ℕ → Bool) (moves fails : Bool) → Drives f s held moves fails → (n k : ℕ)
    → k + n ≤ f.stage + 1 → (none_signal f n k).value s ≡ bit (none_held held n k)
unfolding const_value none_signal
nones f s held moves fails d zero k h = refl
nones f s held moves fails d (suc n) k h =
    mux_at (f.valid k) (const_signal 1 0) (none_signal f n (k + 1)) s (held k) (d.valid k (omega arith))
    ∙ ap (λ v. if held k then 0 else v) (nones f s held moves fails d n (k + 1) (omega arith))
    ∙ none_more (held k) (none_held held n (k + 1))

clears : (f : SquashSignals) (s : State) (held : ℕ → Bool) (moves fails : Bool) → Drives f s held moves fails
    → (k n : ℕ) → k + 1 + n ≡ f.stage + 1 → k < f.stage → (clear_signal f k).value s ≡ bit (none_held held n (k + 1))
clears f s held moves fails d k n e h =
    let l : f.stage - k ≡ n = omega arith in
    ap (λ m. (none_signal f m (k + 1)).value s) l ∙ nones f s held moves fails d n (k + 1) (omega arith)

-- nets that mean the signals of a squash keep its law
pub squash_law : (f : SquashSignals) (squash : Signal) (removed clear : ℕ → Signal)
    → squash ≡ squash_signal f → ((k : ℕ) → 0 ≤ k → k < f.stage → removed k ≡ removed_signal f k)
    → ((k : ℕ) → 0 ≤ k → k < f.stage → clear k ≡ clear_signal f k) → SquashLaw f squash removed clear
squash_law f squash removed clear e r c = record {
  squashes = λ s held moves fails d. ap (λ (g : Signal). g.value s) e ∙ squashes f s held moves fails d;
  removes = λ s held moves fails d k h. ap (λ (g : Signal). g.value s) (r k (omega arith) h) ∙ removes f s held moves fails d k h;
  clears = λ s held moves fails d k n i h. ap (λ (g : Signal). g.value s) (c k (omega arith) h) ∙ clears f s held moves fails d k n i h;
}
