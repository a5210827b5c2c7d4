-- The operators of the language as signals: their widths, bounds and values.
use Rattle.std.proofs.Common.{◌≡◌, ℕ, ◌^◌, ◌<◌, ◌≤◌, refl, sym, arith, lit≤}
use Rattle.pdl_semantics.specs.Tree.{BinaryOp, Add, Sub, Mul, And, Or, Xor, Equal, Differ, Less, ShiftLeft, ShiftRight}
use Rattle.pdl_semantics.specs.Flatten.{op_width}
use Rattle.pdl_semantics.specs.Flat.{operator_value}
use Rattle.pdl_word.specs.Words as words
use Rattle.pdl_word.proofs.Bounds.{add_below, sub_below, mul_below, and_below, or_below, xor_below, equal_below, differ_below, less_below, shl_below, shr_below}
use Rattle.pdl_net.specs.declared.BinOp.TheVariants as net_op
use Rattle.pdl_net.specs.Well.{IsBounded}
use Rattle.pdl_net.specs.Circuit.{State}
use Rattle.pdl_net.specs.Signal.{Signal, bin_signal, bin_width, bin_word, const_value, bin_value}
use Rattle.pdl_build.specs.Operators.{op_of, raised_signal}
use Rattle.pdl_word.proofs.Numbers.{as_wide}
use Rattle.pdl_word.specs.Words.{widest}

-- WIDTHS

-- an operator's cell has the width that the language gives its result
pub op_widths : (op : BinaryOp) (w : ℕ) → bin_width (op_of op) w ≡ op_width op w
op_widths Add w = refl
op_widths Sub w = refl
op_widths Mul w = refl
op_widths And w = refl
op_widths Or w = refl
op_widths Xor w = refl
op_widths Equal w = refl
op_widths Differ w = refl
op_widths Less w = refl
op_widths ShiftLeft w = refl
op_widths ShiftRight w = refl

-- BOUNDS

-- an operator's signal has 1 to widest bits and fits them where both operands do, which are equally wide
pub op_bounded : (s : State) (op : BinaryOp) (a b : Signal)
    → a.width ≡ b.width → IsBounded s a → IsBounded s b → IsBounded s (bin_signal (op_of op) a b)
unfolding bin_value
op_bounded s Add a b e p q = record { low = p.low; high = p.high; fits = add_below a.width (a.value s) (b.value s) }
op_bounded s Sub a b e p q = record { low = p.low; high = p.high; fits = sub_below a.width (a.value s) (b.value s) }
op_bounded s Mul a b e p q = record { low = p.low; high = p.high; fits = mul_below a.width (a.value s) (b.value s) }
op_bounded s And a b e p q = record { low = p.low; high = p.high; fits = and_below a.width (a.value s) (b.value s) p.fits }
op_bounded s Or a b e p q =
    record { low = p.low; high = p.high; fits = or_below a.width (a.value s) (b.value s) p.fits (as_wide (b.value s) b.width a.width (sym e) q.fits) }
op_bounded s Xor a b e p q =
    record { low = p.low; high = p.high; fits = xor_below a.width (a.value s) (b.value s) p.fits (as_wide (b.value s) b.width a.width (sym e) q.fits) }
op_bounded s Equal a b e p q = record { low = lit≤ tt; high = lit≤ tt; fits = equal_below (a.value s) (b.value s) }
op_bounded s Differ a b e p q = record { low = lit≤ tt; high = lit≤ tt; fits = differ_below (a.value s) (b.value s) }
op_bounded s Less a b e p q = record { low = lit≤ tt; high = lit≤ tt; fits = less_below (a.value s) (b.value s) }
op_bounded s ShiftLeft a b e p q = record { low = p.low; high = p.high; fits = shl_below a.width (a.value s) (b.value s) }
op_bounded s ShiftRight a b e p q = record { low = p.low; high = p.high; fits = shr_below a.width (a.value s) (b.value s) p.fits }

-- a signal of n bits with a value that fits them
pub bounded_at : (s : State) (f : Signal) (n : ℕ) → f.width ≡ n → 1 ≤ n → n ≤ widest → f.value s < 2 ^ n → IsBounded s f
bounded_at s f n e l h v = record { low = omega (arith, e); high = omega (arith, e); fits = as_wide (f.value s) n f.width (sym e) v }

-- VALUES

-- an operator's cell makes of two words what the language's operator does
pub op_value : (op : BinaryOp) (w a b : ℕ) → bin_word (op_of op) w a b ≡ operator_value op w a b
op_value Add w a b = refl
op_value Sub w a b = refl
op_value Mul w a b = refl
op_value And w a b = refl
op_value Or w a b = refl
op_value Xor w a b = refl
op_value Equal w a b = refl
op_value Differ w a b = refl
op_value Less w a b = refl
op_value ShiftLeft w a b = refl
op_value ShiftRight w a b = refl

-- a comparison of words raised by half of the range
pub lts_value : (s : State) (a b : Signal) (w x y : ℕ)
    → a.width ≡ w → b.width ≡ w → a.value s ≡ x → b.value s ≡ y
    → (bin_signal net_op.Lt (raised_signal a) (raised_signal b)).value s ≡ words.lts w x y
unfolding raised_signal bin_value const_value words.lts words.less words.add
lts_value s a b w x y p q e f = rw (p, q, e, f) refl
