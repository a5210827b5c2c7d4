-- The signal of a typed expression has a value within its width, and that of the expression.
use Rattle.std.proofs.Common.{◌≡◌, ℕ, zero, suc, ◌<◌, ◌≤◌, List, [], ◌∷◌, refl, sym, ap, ap₂, ◌∙◌, arith, lit≤}
use Rattle.std.specs.Prelude.{length, slice_index}
use Rattle.pdl_semantics.specs.Flat.{value_of, Expr, Constant, Variable, Slice, Not, Binary, Cat, LessSigned, ZeroExtend, SignExtend, Choose}
use Rattle.pdl_word.specs.Words as words
use Rattle.pdl_word.proofs.Bounds.{less_below, complement_below, slice_below, cat_below, zext_below, sext_below, mux_below}
use Rattle.pdl_net.specs.declared.Net.{Net}
use Rattle.pdl_net.specs.Well.{IsBounded}
use Rattle.pdl_net.specs.Circuit.{Circuit, State}
use Rattle.pdl_net.specs.Signal.{Signal, const_value, not_value, bin_value, mux_value, slice_value, cat_value}
use Rattle.pdl_net.specs.Meaning.{signal, Means}
use Rattle.pdl_build.specs.Operators.{zext_signal, sext_signal, raised_signal}
use Rattle.pdl_build.proofs.Extensions.{zext_width, sext_width, zext_value, sext_value}
use Rattle.pdl_build.proofs.Operators.{op_bounded, bounded_at, op_value, lts_value}
use Rattle.pdl_pipe_exprs.specs.Nets.{signal_at, widths_of}
use Rattle.pdl_form_types.specs.Exprs.{IsTyped}
use Rattle.pdl_pipe_exprs.specs.Values.{value_signal, values_in, AreBounded, IsValue}
use Rattle.pdl_pipe_exprs.proofs.NetLists.{width_at, length_widths}
use Rattle.pdl_pipe_exprs.proofs.Operands.{value_width}
use Rattle.pdl_word.proofs.Numbers.{as_wide}

-- BOUNDS

-- a variable of a typed expression
var_bounded : (s : State) (fs : List Signal) (x : ℕ) → AreBounded s fs → x < length (widths_of fs) → IsBounded s (signal_at fs x)
var_bounded s fs x h l = h x (omega (arith, l, length_widths fs))

signal_bounded : (s : State) (fs : List Signal) → AreBounded s fs → (e : Expr) → IsTyped (widths_of fs) e → IsBounded s (value_signal fs e)
unfolding const_value not_value mux_value slice_value cat_value bin_value
signal_bounded s fs h (Constant width value) t = record { low = t.0; high = t.1; fits = t.2 }
signal_bounded s fs h (Variable x) t = var_bounded s fs x h t
signal_bounded s fs h (Slice x high low) t =
    let p = var_bounded s fs x h t.0 in
    let w = width_at fs x in
    record { low = omega (arith, t.1); high = omega (arith, t.1, t.2, p.high, w); fits = slice_below high low ((signal_at fs x).value s) }
signal_bounded s fs h (Not width a) t =
    let p = signal_bounded s fs h a t.0 in
    record { low = p.low; high = p.high; fits = complement_below (value_signal fs a).width ((value_signal fs a).value s) }
signal_bounded s fs h (Binary op width a b) t =
    op_bounded s op (value_signal fs a) (value_signal fs b)
    (value_width fs a t.0 ∙ t.2 ∙ sym (value_width fs b t.1 ∙ t.3)) (signal_bounded s fs h a t.0)
    (signal_bounded s fs h b t.1)
signal_bounded s fs h (Cat a width b) t =
    let p = signal_bounded s fs h a t.0 in
    let q = signal_bounded s fs h b t.1 in
    record {
      low = omega (arith, p.low);
      high = omega (arith, t.2, t.3, value_width fs a t.0, value_width fs b t.1);
      fits = cat_below (value_signal fs a).width (value_signal fs b).width ((value_signal fs a).value s) ((value_signal fs b).value s) p.fits q.fits;
    }
signal_bounded s fs h (LessSigned width a b) t =
    record { low = lit≤ tt; high = lit≤ tt; fits = less_below ((raised_signal (value_signal fs a)).value s) ((raised_signal (value_signal fs b)).value s) }
signal_bounded s fs h (ZeroExtend wide a) t =
    let p = signal_bounded s fs h a t.0 in
    let w = value_width fs a t.0 in
    let fit : (value_signal fs a).width ≤ wide = omega (arith, w, t.1) in
    bounded_at s (zext_signal wide (value_signal fs a)) wide (zext_width wide (value_signal fs a) fit) (omega (arith, p.low, fit)) t.2
    (rw (zext_value wide (value_signal fs a) s) (zext_below (value_signal fs a).width wide ((value_signal fs a).value s) fit p.fits))
signal_bounded s fs h (SignExtend width wide a) t =
    let p = signal_bounded s fs h a t.0 in
    let w = value_width fs a t.0 in
    let fit : (value_signal fs a).width ≤ wide = omega (arith, w, t.1, t.2) in
    bounded_at s (sext_signal wide (value_signal fs a)) wide (sext_width wide (value_signal fs a) fit) (omega (arith, p.low, fit)) t.3
    (rw (sext_value wide (value_signal fs a) s p.low fit p.fits) (sext_below (value_signal fs a).width wide ((value_signal fs a).value s)))
signal_bounded s fs h (Choose c a b) t =
    let p = signal_bounded s fs h a t.1 in
    let q = signal_bounded s fs h b t.2 in
    let e : (value_signal fs b).width ≡ (value_signal fs a).width = value_width fs b t.2 ∙ sym t.4 ∙ sym (value_width fs a t.1) in
    record {
      low = p.low;
      high = p.high;
      fits =
          mux_below (value_signal fs a).width ((value_signal fs c).value s) ((value_signal fs a).value s)
          ((value_signal fs b).value s) p.fits (as_wide ((value_signal fs b).value s) (value_signal fs b).width (value_signal fs a).width e q.fits);
    }

-- VALUES

-- the i-th of the values of signals is the value of the i-th signal
pub value_at : (s : State) (fs : List Signal) (i : ℕ) → slice_index (values_in s fs) i ≡ (signal_at fs i).value s
value_at s [] i = refl
value_at s (f ∷ fs) zero = refl
value_at s (f ∷ fs) (suc i) = value_at s fs i

-- the signal of a typed expression has its value, where the variables' values are within their widths
pub signal_value : (s : State) (fs : List Signal) → AreBounded s fs → (e : Expr) → IsTyped (widths_of fs) e
    → (value_signal fs e).value s ≡ value_of e (values_in s fs)
unfolding const_value not_value mux_value slice_value cat_value bin_value
signal_value s fs h (Constant width value) t = refl
signal_value s fs h (Variable x) t = sym (value_at s fs x)
signal_value s fs h (Slice x high low) t = ap (words.slice high low) (sym (value_at s fs x))
signal_value s fs h (Not width a) t = ap₂ words.complement (value_width fs a t.0 ∙ t.1) (signal_value s fs h a t.0)
signal_value s fs h (Binary op width a b) t =
    op_value op (value_signal fs a).width ((value_signal fs a).value s) ((value_signal fs b).value s)
    ∙ rw (value_width fs a t.0 ∙ t.2, signal_value s fs h a t.0, signal_value s fs h b t.1) refl
signal_value s fs h (Cat a width b) t = rw (value_width fs b t.1 ∙ t.2, signal_value s fs h a t.0, signal_value s fs h b t.1) refl
signal_value s fs h (LessSigned width a b) t =
    lts_value s (value_signal fs a) (value_signal fs b) width (value_of a (values_in s fs))
    (value_of b (values_in s fs)) (value_width fs a t.0 ∙ t.2) (value_width fs b t.1 ∙ t.3)
    (signal_value s fs h a t.0) (signal_value s fs h b t.1)
signal_value s fs h (ZeroExtend wide a) t = zext_value wide (value_signal fs a) s ∙ ap words.zext (signal_value s fs h a t.0)
signal_value s fs h (SignExtend width wide a) t =
    let p = signal_bounded s fs h a t.0 in
    let w = value_width fs a t.0 ∙ t.1 in
    let fit : (value_signal fs a).width ≤ wide = omega (arith, w, t.2) in
    sext_value wide (value_signal fs a) s p.low fit p.fits ∙ ap₂ (λ m v. words.sext m wide v) w (signal_value s fs h a t.0)
signal_value s fs h (Choose c a b) t = rw (signal_value s fs h c t.0, signal_value s fs h a t.1, signal_value s fs h b t.2) refl

-- a net that means the signal of a typed expression has its value
pub net_value : (c : Circuit) (x : Net) (fs : List Signal) (e : Expr) → IsTyped (widths_of fs) e
    → Means c x (value_signal fs e) → IsValue fs e (signal c x)
net_value c x fs e t m s h = ap (λ (f : Signal). f.value s) m.same ∙ signal_value s fs h e t
