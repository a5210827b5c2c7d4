-- What is below the power of two of its width whatever it reads: cells that cut their value, and those that read what is below.
use Rattle.std.proofs.Common.{◌≡◌, ℕ, ◌<◌, ◌^◌, true, sym, subst}
use Rattle.pdl_word.proofs.Numbers.{as_wide}
use Rattle.pdl_word.proofs.Bounds.{add_below, sub_below, mul_below, and_below, or_below, xor_below, complement_below, equal_below, differ_below, less_below, shl_below, shr_below, slice_below, mux_below, cat_below, rep_below}
use Rattle.std.proofs.lemmas.Nat.{and_comm}
use Rattle.pdl_word.specs.Words as words
use Rattle.pdl_net.specs.declared.BinOp.{BinOp}
use Rattle.pdl_net.specs.declared.BinOp.TheVariants.{Add, Sub, Mul, And, Or, Xor, Eq, Ne, Lt, Shl, Shr}
use Rattle.pdl_net.specs.Signal.{Signal, const_value, const_signal, not_value, not_signal, bin_value, bin_signal, mux_value, mux_signal, slice_value, slice_signal, cat_value, cat_signal, rep_value, rep_signal}
use Rattle.pdl_build.specs.Rules.{IsBelow, is_cut}

-- a constant is below the power of two of its width, where its value fits that width
pub constant : (w v : ℕ) → v < 2 ^ w → IsBelow (const_signal w v)
unfolding const_value
constant w v h s = h

-- a complement is below the power of two of its width, whatever it reads
pub complement : (a : Signal) → IsBelow (not_signal a)
unfolding not_value
complement a s = complement_below a.width (a.value s)

-- a slice is below the power of two of its width, whatever it reads
pub part : (high low : ℕ) (a : Signal) → IsBelow (slice_signal high low a)
unfolding slice_value
part high low a s = slice_below high low (a.value s)

-- the result of an operator that cuts its value is below, whatever it reads
pub cut : (op : BinOp) (a b : Signal) → is_cut op ≡ true → IsBelow (bin_signal op a b)
unfolding bin_value
cut Add a b e s = add_below a.width (a.value s) (b.value s)
cut Sub a b e s = sub_below a.width (a.value s) (b.value s)
cut Mul a b e s = mul_below a.width (a.value s) (b.value s)
cut And a b e s = absurd (cc)
cut Or a b e s = absurd (cc)
cut Xor a b e s = absurd (cc)
cut Eq a b e s = equal_below (a.value s) (b.value s)
cut Ne a b e s = differ_below (a.value s) (b.value s)
cut Lt a b e s = less_below (a.value s) (b.value s)
cut Shl a b e s = shl_below a.width (a.value s) (b.value s)
cut Shr a b e s = absurd (cc)

-- a word of one signal, as one of another that is as wide
as_of : (a b : Signal) → a.width ≡ b.width → IsBelow b → (n : ℕ) → n < 2 ^ b.width → n < 2 ^ a.width
as_of a b e h n l = as_wide n b.width a.width (sym e) l

-- the result of any operator is below where both operands are, which are equally wide
pub both : (op : BinOp) (a b : Signal) → a.width ≡ b.width → IsBelow a → IsBelow b → IsBelow (bin_signal op a b)
unfolding bin_value
both Add a b e f g = cut Add a b cc
both Sub a b e f g = cut Sub a b cc
both Mul a b e f g = cut Mul a b cc
both And a b e f g = λ s. and_below a.width (a.value s) (b.value s) (f s)
both Or a b e f g = λ s. or_below a.width (a.value s) (b.value s) (f s) (as_of a b e g (b.value s) (g s))
both Xor a b e f g = λ s. xor_below a.width (a.value s) (b.value s) (f s) (as_of a b e g (b.value s) (g s))
both Eq a b e f g = cut Eq a b cc
both Ne a b e f g = cut Ne a b cc
both Lt a b e f g = cut Lt a b cc
both Shl a b e f g = cut Shl a b cc
both Shr a b e f g = λ s. shr_below a.width (a.value s) (b.value s) (f s)

-- the conjunction of two words is below where the first of them is
pub masked : (a b : Signal) → IsBelow a → IsBelow (bin_signal And a b)
unfolding bin_value
masked a b f s = and_below a.width (a.value s) (b.value s) (f s)

-- the conjunction of two words that are equally wide is below where the second of them is
pub masked_by : (a b : Signal) → a.width ≡ b.width → IsBelow b → IsBelow (bin_signal And a b)
unfolding bin_value words.and
masked_by a b e g s =
    let P : ℕ → Type 0 = λ n. n < 2 ^ a.width in
    subst P (and_comm (b.value s) (a.value s)) (and_below a.width (b.value s) (a.value s) (as_of a b e g (b.value s) (g s)))

-- a shift to the right is below where the shifted word is
pub shifted : (a b : Signal) → IsBelow a → IsBelow (bin_signal Shr a b)
unfolding bin_value
shifted a b f s = shr_below a.width (a.value s) (b.value s) (f s)

-- a choice is below where both its arms are, which are equally wide
pub chosen : (c a b : Signal) → a.width ≡ b.width → IsBelow a → IsBelow b → IsBelow (mux_signal c a b)
unfolding mux_value
chosen c a b e f g s = mux_below a.width (c.value s) (a.value s) (b.value s) (f s) (as_of a b e g (b.value s) (g s))

-- two words joined are below where each of them is
pub joined : (a b : Signal) → IsBelow a → IsBelow b → IsBelow (cat_signal a b)
unfolding cat_value
joined a b f g s = cat_below a.width b.width (a.value s) (b.value s) (f s) (g s)

-- copies of a word are below where it is
pub repeated : (k : ℕ) (a : Signal) → IsBelow a → IsBelow (rep_signal k a)
unfolding rep_value
repeated k a f s = rep_below a.width k (a.value s) (f s)
