-- What calls guess, and whether a verify finds it wrong, one argument after the other.
use Rattle.std.proofs.Common.{◌≡◌, ℕ, zero, suc, ◌+◌, ◌<◌, ◌≤◌, Bool, true, false, ◌&&◌, ◌||◌, not, ◌==◌, List, [], ◌∷◌, ◌++◌, length, get_or, take, drop, refl, sym, ap, ap₂, ◌∙◌, arith}
use Rattle.std.specs.Prelude.{if◌then◌else◌}
use Rattle.std.proofs.lemmas.List.{take_more, drop_more}
use Rattle.pdl_word.specs.Words.{bit, differ}
use Rattle.pdl_semantics.specs.Machine.{same_args}
use Rattle.pdl_net.specs.declared.BinOp.TheVariants.{Ne}
use Rattle.pdl_net.specs.Circuit.{State}
use Rattle.pdl_net.specs.Signal.{Signal, no_signal, mux_signal, bin_signal, bin_value}
use Rattle.pdl_pipe_exprs.specs.Nets.{signal_at, widths_of}
use Rattle.pdl_pipe_exprs.proofs.NetLists.{length_widths, width_at}
use Rattle.pdl_law_parts.specs.Walk.{one, zero_bit, values_at}
use Rattle.pdl_law_parts.proofs.Signals.{mux_at, one_is, zero_is}
use Rattle.pdl_pipe_walk.specs.Guesses.{choices, or_differ, differ_from, differ_signal}

-- lists of equal widths have equal lengths
pub same_length : (fs gs : List Signal) → widths_of fs ≡ widths_of gs → length fs ≡ length gs
same_length fs gs e = sym (length_widths fs) ∙ ap length e ∙ length_widths gs

-- the i-th of two lists of signals with equal widths are equally wide
pub same_width : (fs gs : List Signal) (i : ℕ) → widths_of fs ≡ widths_of gs → (signal_at fs i).width ≡ (signal_at gs i).width
same_width fs gs i e = sym (width_at fs i) ∙ ap (λ ws. get_or ws i 0) e ∙ width_at gs i

-- ---- choices

-- there are as many choices as signals in each list, where both lists have the same length
pub choices_length : (on : Signal) (fs gs : List Signal) → length fs ≡ length gs → length (choices on fs gs) ≡ length gs
choices_length on [] [] e = refl
choices_length on [] (g ∷ gs) e = absurd (omega (arith, e))
choices_length on (f ∷ fs) [] e = absurd (omega (arith, e))
choices_length on (f ∷ fs) (g ∷ gs) e = ap suc (choices_length on fs gs (omega (arith, e)))

-- the choices are as wide as the first signals, where both lists have the same length
pub choices_widths : (on : Signal) (fs gs : List Signal) → length fs ≡ length gs → widths_of (choices on fs gs) ≡ widths_of fs
choices_widths on [] gs e = refl
choices_widths on (f ∷ fs) [] e = absurd (omega (arith, e))
choices_widths on (f ∷ fs) (g ∷ gs) e = ap (λ ws. f.width ∷ ws) (choices_widths on fs gs (omega (arith, e)))

-- the i-th choice is that of the i-th signals
pub choice_at : (on : Signal) (fs gs : List Signal) (i : ℕ)
    → i < length fs → length fs ≡ length gs
    → get_or (choices on fs gs) i no_signal ≡ mux_signal on (signal_at fs i) (signal_at gs i)
choice_at on [] gs i l e = absurd (omega (arith, l))
choice_at on (f ∷ fs) [] i l e = absurd (omega (arith, e))
choice_at on (f ∷ fs) (g ∷ gs) zero l e = refl
choice_at on (f ∷ fs) (g ∷ gs) (suc i) l e = choice_at on fs gs i (omega (arith, l)) (omega (arith, e))

-- the first i choices and that of the next two signals are the first i + 1
pub choices_more : (on : Signal) (fs gs : List Signal) (i : ℕ) (done : List Signal) (f : Signal)
    → i < length fs → length fs ≡ length gs → done ≡ take i (choices on fs gs)
    → f ≡ mux_signal on (signal_at fs i) (signal_at gs i) → done ++ f ∷ [] ≡ take (i + 1) (choices on fs gs)
choices_more on fs gs i done f l e h k =
    ap₂ (λ ds g. ds ++ g ∷ []) h (k ∙ sym (choice_at on fs gs i l e))
    ∙ sym (take_more (choices on fs gs) i no_signal (let n = choices_length on fs gs e in omega (arith, l, e, n)))

module _ (s : State) (on : Signal) where
  -- where the condition is 1 the choices have the values of the first signals
  pub choices_on : (fs gs : List Signal) → length fs ≡ length gs → on.value s ≡ bit true → values_at s (choices on fs gs) ≡ values_at s fs
  choices_on [] gs e h = refl
  choices_on (f ∷ fs) [] e h = absurd (omega (arith, e))
  choices_on (f ∷ fs) (g ∷ gs) e h = ap₂ (λ v vs. v ∷ vs) (mux_at s on f g true h) (choices_on fs gs (omega (arith, e)) h)

  -- where the condition is 0 the choices have the values of the second signals
  pub choices_off : (fs gs : List Signal) → length fs ≡ length gs → on.value s ≡ bit false → values_at s (choices on fs gs) ≡ values_at s gs
  choices_off [] [] e h = refl
  choices_off [] (g ∷ gs) e h = absurd (omega (arith, e))
  choices_off (f ∷ fs) [] e h = absurd (omega (arith, e))
  choices_off (f ∷ fs) (g ∷ gs) e h = ap₂ (λ v vs. v ∷ vs) (mux_at s on f g false h) (choices_off fs gs (omega (arith, e)) h)

-- ---- differences

-- with the next two signals compared, those after them are left, and the whole is the same
pub differ_more : (fs gs : List Signal) (i : ℕ) (d d' whole : Signal)
    → i < length fs → length fs ≡ length gs → d' ≡ or_differ d (signal_at fs i) (signal_at gs i)
    → differ_from d (drop i fs) (drop i gs) ≡ whole → differ_from d' (drop (i + 1) fs) (drop (i + 1) gs) ≡ whole
differ_more fs gs i d d' whole l e h k =
    ap (λ x. differ_from x (drop (i + 1) fs) (drop (i + 1) gs)) h
    ∙ sym (ap₂ (differ_from d) (drop_more fs i no_signal l) (drop_more gs i no_signal (omega (arith, l, e)))) ∙ k

-- after all signals are compared, the signal is the whole
pub differ_all : (fs gs : List Signal) (i : ℕ) (d whole : Signal)
    → length fs ≤ i → differ_from d (drop i fs) (drop i gs) ≡ whole → d ≡ whole
differ_all [] gs zero d whole l h = h
differ_all [] gs (suc i) d whole l h = h
differ_all (f ∷ fs) gs zero d whole l h = absurd (omega (arith, l))
differ_all (f ∷ fs) [] (suc i) d whole l h = sym (none (drop i fs)) ∙ h
  where
    none : (xs : List Signal) → differ_from d xs [] ≡ d
    none [] = refl
    none (x ∷ xs) = refl
differ_all (f ∷ fs) (g ∷ gs) (suc i) d whole l h = differ_all fs gs i d whole (omega (arith, l)) h

or_differ_value : (s : State) (d f g : Signal) (b : Bool)
    → d.value s ≡ bit b → (or_differ d f g).value s ≡ bit (b || not (f.value s == g.value s))
unfolding bin_value differ
or_differ_value s d f g b h = mux_at s (bin_signal Ne f g) one d (not (f.value s == g.value s)) refl ∙ by (not (f.value s == g.value s)) b h
  where
    by : (x b : Bool) → d.value s ≡ bit b → (if x then one.value s else d.value s) ≡ bit (b || x)
    by true true h = one_is s
    by true false h = one_is s
    by false true h = h
    by false false h = h

differ_value : (s : State) (fs gs : List Signal) (d : Signal) (b : Bool)
    → length fs ≡ length gs → d.value s ≡ bit b
    → (differ_from d fs gs).value s ≡ bit (b || not (same_args (values_at s fs) (values_at s gs)))
differ_value s [] [] d true e h = h
differ_value s [] [] d false e h = h
differ_value s [] (g ∷ gs) d b e h = absurd (omega (arith, e))
differ_value s (f ∷ fs) [] d b e h = absurd (omega (arith, e))
differ_value s (f ∷ fs) (g ∷ gs) d b e h =
    differ_value s fs gs (or_differ d f g) (b || not (f.value s == g.value s)) (omega (arith, e)) (or_differ_value s d f g b h)
    ∙ ap bit (by b (f.value s == g.value s) (same_args (values_at s fs) (values_at s gs)))
  where
    by : (b x y : Bool) → ((b || not x) || not y) ≡ (b || not (x && y))
    by true x y = refl
    by false true y = refl
    by false false y = refl

-- the signal of a difference tells whether the values of two lists aren't the same
pub wrong_value : (s : State) (fs gs : List Signal)
    → length fs ≡ length gs → (differ_signal fs gs).value s ≡ bit (not (same_args (values_at s fs) (values_at s gs)))
wrong_value s fs gs e = differ_value s fs gs zero_bit false e (zero_is s)
