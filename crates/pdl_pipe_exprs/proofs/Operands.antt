-- Signals of typed expressions have their widths, also where operands are made one after another.
use Rattle.std.proofs.Common.{◌≡◌, ◌+◌, List, refl, sym, ap, ap₂, ◌∙◌, subst, arith}
use Rattle.pdl_semantics.specs.Flatten.{op_width}
use Rattle.pdl_net.specs.declared.Net.{Net}
use Rattle.pdl_net.specs.Circuit.{Circuit}
use Rattle.pdl_net.specs.Signal.{Signal}
use Rattle.pdl_net.specs.Meaning.{signal, Means}
use Rattle.pdl_net.specs.Growth.{Extends}
use Rattle.pdl_build.proofs.Extensions.{zext_width, sext_width}
use Rattle.pdl_build.proofs.Operators.{op_widths}
use Rattle.pdl_pipe_exprs.specs.Nets.{NetsThere, signals_in, widths_of}
use Rattle.pdl_semantics.specs.Flat.{Expr, Constant, Variable, Slice, Not, Binary, Cat, LessSigned, ZeroExtend, SignExtend, Choose}
use Rattle.pdl_form_types.specs.Exprs.{width_in, IsTyped}
use Rattle.pdl_pipe_exprs.specs.Values.{value_signal}
use Rattle.pdl_pipe_exprs.proofs.NetLists.{nets_there, nets_kept, width_at}

-- the signal of a typed expression has its width
pub value_width : (fs : List Signal) (e : Expr) → IsTyped (widths_of fs) e → (value_signal fs e).width ≡ width_in (widths_of fs) e
value_width fs (Constant width value) t = refl
value_width fs (Variable x) t = sym (width_at fs x)
value_width fs (Slice x high low) t = refl
value_width fs (Not width a) t = value_width fs a t.0 ∙ t.1
value_width fs (Binary op width a b) t = op_widths op (value_signal fs a).width ∙ ap (op_width op) (value_width fs a t.0 ∙ t.2)
value_width fs (Cat a width b) t = ap₂ (λ m n. m + n) (value_width fs a t.0) (value_width fs b t.1 ∙ t.2)
value_width fs (LessSigned width a b) t = refl
value_width fs (ZeroExtend wide a) t = zext_width wide (value_signal fs a) (omega (arith, value_width fs a t.0, t.1))
value_width fs (SignExtend width wide a) t = sext_width wide (value_signal fs a) (omega (arith, value_width fs a t.0, t.1, t.2))
value_width fs (Choose c a b) t = value_width fs a t.1

-- ---- operands one after another: what was typed and what is meant stays as the circuit grows

typed_kept : (old new : Circuit) (vs : List Net) (e : Expr) → Extends old new → NetsThere old vs
    → IsTyped (widths_of (signals_in old vs)) e → IsTyped (widths_of (signals_in new vs)) e
typed_kept old new vs e x t h = subst (λ (fs : List Signal). IsTyped (widths_of fs) e) (sym (nets_kept old new vs x t)) h

-- the operand that comes next is typed as well in the circuit that grew
pub next_typed : (old new : Circuit) (vs : List Net) (e : Expr) → Extends old new → NetsThere old vs
    → IsTyped (widths_of (signals_in old vs)) e → NetsThere new vs × IsTyped (widths_of (signals_in new vs)) e
next_typed old new vs e x t h = (nets_there old new vs x t, typed_kept old new vs e x t h)

-- the net of the first operand: the circuit was `old` as it began, `now` as it was made, and is `new`
pub first : (old now new : Circuit) (vs : List Net) (e f : Expr) (a : Net)
    → f ≡ e → Extends now new → Means now a (value_signal (signals_in old vs) f)
    → signal new a ≡ value_signal (signals_in old vs) e
first old now new vs e f a q y m = y.kept a m.there ∙ m.same ∙ ap (value_signal (signals_in old vs)) q

-- the net of the last operand: the circuit was `mid` as it began
pub last : (old mid new : Circuit) (vs : List Net) (e f : Expr) (a : Net)
    → f ≡ e → Extends old mid → NetsThere old vs → Means new a (value_signal (signals_in mid vs) f)
    → signal new a ≡ value_signal (signals_in old vs) e
last old mid new vs e f a q x t m = m.same ∙ ap₂ value_signal (nets_kept old mid vs x t) q

-- the net of an operand between: the circuit was `mid` as it began, `now` as it was made, and is `new`
pub between : (old mid now new : Circuit) (vs : List Net) (e f : Expr) (a : Net)
    → f ≡ e → Extends old mid → Extends now new → NetsThere old vs → Means now a (value_signal (signals_in mid vs) f)
    → signal new a ≡ value_signal (signals_in old vs) e
between old mid now new vs e f a q x y t m = y.kept a m.there ∙ last old mid now vs e f a q x t m

-- the width of a net that has the signal of an expression
pub made_width : (c : Circuit) (a : Net) (fs : List Signal) (e : Expr)
    → signal c a ≡ value_signal fs e → IsTyped (widths_of fs) e → (signal c a).width ≡ width_in (widths_of fs) e
made_width c a fs e m h = ap (λ (f : Signal). f.width) m ∙ value_width fs e h

-- a net with a signal that is another one's
pub means_as : (c : Circuit) (a : Net) (f g : Signal) → f ≡ g → Means c a f → Means c a g
means_as c a f g e m = record { there = m.there; same = m.same ∙ e }
