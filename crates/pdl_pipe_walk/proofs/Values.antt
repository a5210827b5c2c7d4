-- The signal of a typed expression has its value where a walk's variables have these signals.
use Rattle.std.proofs.Common.{◌≡◌, ℕ, List, [], ◌∷◌, sym, ap, ◌∙◌}
use Rattle.pdl_semantics.specs.Flat.{Expr}
use Rattle.pdl_net.specs.Circuit.{State}
use Rattle.pdl_net.specs.Signal.{Signal}
use Rattle.pdl_pipe_exprs.specs.Nets.{signal_at, widths_of}
use Rattle.pdl_form_types.specs.Exprs.{IsTyped, AreTyped}
use Rattle.pdl_pipe_exprs.specs.Values.{value_signal, value_signals, values_in, AreBounded}
use Rattle.pdl_pipe_exprs.proofs.SignalValues.{value_at, signal_value}
use Rattle.pdl_law_parts.specs.Walk.{Walk, HasValue, HaveValues}
use Rattle.pdl_law_parts.proofs.Establish.{value_agrees}

-- the signal of a typed expression has its value, where a walk's variables have these signals
pub has_value : (s : State) (fs : List Signal) (w : Walk)
    → ((x : ℕ) → w.vars x ≡ signal_at fs x) → AreBounded s fs → (e : Expr) → IsTyped (widths_of fs) e
    → HasValue e w (value_signal fs e) s
has_value s fs w same h e t env g =
    signal_value s fs h e t ∙ sym (value_agrees e env (values_in s fs) (λ x u. g x u ∙ ap (λ (f : Signal). f.value s) (same x) ∙ sym (value_at s fs x)))

-- the signals of typed expressions have their values, where a walk's variables have these signals
pub have_values : (s : State) (fs : List Signal) (w : Walk)
    → ((x : ℕ) → w.vars x ≡ signal_at fs x) → AreBounded s fs → (es : List Expr) → AreTyped (widths_of fs) es
    → HaveValues es w (value_signals fs es) s
have_values s fs w same h [] t = tt
have_values s fs w same h (e ∷ es) t = (has_value s fs w same h e t.0, have_values s fs w same h es t.1)
