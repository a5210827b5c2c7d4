-- The arguments of a call.
use Rattle.std.proofs.Common.{◌≡◌, ℕ, ◌≤◌, List, [], ◌∷◌, length, refl, ap₂, ◌∙◌, arith}
use Rattle.std.specs.Prelude.{take}
use Rattle.pdl_semantics.specs.Flat.{Expr}
use Rattle.pdl_form_types.specs.Exprs.{AreTyped}
use Rattle.pdl_form_types.specs.Stmts.{AreArguments}
use Rattle.pdl_net.specs.Signal.{Signal}
use Rattle.pdl_pipe_exprs.specs.Nets.{widths_of}
use Rattle.pdl_pipe_exprs.specs.Values.{value_signals}
use Rattle.pdl_pipe_exprs.proofs.Operands.{value_width}
use Rattle.pdl_word.proofs.Lists.{take_few}
use Rattle.pdl_form_types.proofs.Arguments.{args_count}

-- arguments that have the parameters' widths are typed
pub arguments_typed : (ws ns : List ℕ) (es : List Expr) → AreArguments ws ns es → AreTyped ws es
arguments_typed ws [] [] h = tt
arguments_typed ws [] (e ∷ es) h = absurd h
arguments_typed ws (n ∷ ns) [] h = tt
arguments_typed ws (n ∷ ns) (e ∷ es) h = (h.0, arguments_typed ws ns es h.2)

-- the signals of arguments that have the parameters' widths have these widths
pub arguments_wide : (fs : List Signal) (ns : List ℕ) (es : List Expr) → AreArguments (widths_of fs) ns es
    → widths_of (value_signals fs es) ≡ ns
arguments_wide fs [] [] h = refl
arguments_wide fs [] (e ∷ es) h = absurd h
arguments_wide fs (n ∷ ns) [] h = absurd h
arguments_wide fs (n ∷ ns) (e ∷ es) h = ap₂ (λ m ms. m ∷ ms) (value_width fs e h.0 ∙ h.1) (arguments_wide fs ns es h.2)

-- arguments with the widths of the first variables are no more than the variables
pub arguments_few : (ws : List ℕ) (n : ℕ) (es : List Expr) → AreArguments ws (take n ws) es → length es ≤ length ws
arguments_few ws n es h = omega (arith, args_count ws (take n ws) es h, take_few n ws)
