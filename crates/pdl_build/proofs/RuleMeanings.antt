-- What stands for a cell by a rule means what the cell would.
use Rattle.std.proofs.Common.{◌≡◌, ℕ, ◌+◌, ◌-◌, ◌*◌, ◌^◌, ◌<◌, ◌≤◌, Bool, IsTrue, [], sym, ap, ◌∙◌, subst, arith, lit≤}
use mathlib.Core.Path.{fun_ext}
use Rattle.pdl_word.specs.Words as words
use Rattle.pdl_word.proofs.Laws.{complement_twice, slice_whole, slice_twice, mux_one, mux_other}
use Rattle.pdl_word.proofs.Copies.{rep_once}
use Rattle.pdl_word.proofs.Numbers.{as_wide}
use Rattle.pdl_build.proofs.OneBit.{mux_turned}
use Rattle.pdl_net.specs.declared.BinOp.{BinOp}
use Rattle.pdl_net.specs.declared.BinOp.TheVariants.{Add, Sub, Mul, And, Or, Xor, Eq, Ne, Lt, Shl, Shr}
use Rattle.pdl_net.specs.declared.Cell.TheVariants.{Const}
use Rattle.pdl_net.specs.Circuit.{Circuit, State}
use Rattle.pdl_net.specs.Signal.{Signal, Value, const_value, const_signal, not_value, not_signal, bin_width, bin_value, bin_signal, mux_value, mux_signal, slice_value, slice_signal, rep_value, rep_signal}
use Rattle.pdl_net.specs.Well.{Fits, IsWidth}
use Rattle.pdl_build.specs.declared.rules.OperatorRule.{OperatorRule}
use Rattle.pdl_build.specs.declared.rules.OperatorRule.TheVariants.{First, Second, Complement, Number}
use Rattle.pdl_build.specs.Rules.{Gives, IsBelow}
use Rattle.pdl_word.specs.Words.{widest}

-- OPERATORS

-- where the second operand's signal is a constant, the rule for that constant gives the answer in each state
pub on_constant_at : (r : OperatorRule) (op : BinOp) (w v : ℕ) (t : Bool) (a b : Signal)
    → w ≡ a.width → b.value ≡ const_value v → ((x : ℕ) → (IsTrue t → x < 2 ^ w) → Gives r op w x v)
    → (IsTrue t → IsBelow a) → (s : State) → Gives r op a.width (a.value s) (b.value s)
unfolding const_value
on_constant_at r op w v t a b e f g h s =
    let P : ℕ → Type 0 = λ n. Gives r op n (a.value s) (b.value s) in
    let Q : ℕ → Type 0 = λ y. Gives r op w (a.value s) y in
    let y : b.value s ≡ v = ap (λ (z : Value). z s) f in
    subst P e (subst Q (sym y) (g (a.value s) (λ i. as_wide (a.value s) a.width w (sym e) (h i s))))

-- where the first operand's signal is a constant, the rule for that constant gives the answer in each state
pub after_constant_at : (r : OperatorRule) (op : BinOp) (w v : ℕ) (t : Bool) (a b : Signal)
    → w ≡ a.width → a.width ≡ b.width → a.value ≡ const_value v → ((y : ℕ) → (IsTrue t → y < 2 ^ w) → Gives r op w v y)
    → (IsTrue t → IsBelow b) → (s : State) → Gives r op a.width (a.value s) (b.value s)
unfolding const_value
after_constant_at r op w v t a b e wide f g h s =
    let P : ℕ → Type 0 = λ n. Gives r op n (a.value s) (b.value s) in
    let Q : ℕ → Type 0 = λ x. Gives r op w x (b.value s) in
    let x : a.value s ≡ v = ap (λ (z : Value). z s) f in
    subst P e (subst Q (sym x) (g (b.value s) (λ i. as_wide (b.value s) b.width w (sym (e ∙ wide)) (h i s))))

-- a state without inputs, registers and arrays
abbrev pub at_rest : State
at_rest = record { inputs = []; regs = []; arrays = [] }

module _ (op : BinOp) (a b : Signal) where
  -- the first operand's signal is the operator's, where the rule gives the first operand in every state
  pub first_same : ((s : State) → Gives First op a.width (a.value s) (b.value s)) → a ≡ bin_signal op a b
  unfolding bin_value
  first_same g =
      let n : bin_width op a.width ≡ a.width = (g at_rest).0 in
      ap (λ (v : Value). record { width = a.width; value = v }) (fun_ext (λ s. sym (g s).1))
      ∙ ap (λ (m : ℕ). record { width = m; value = bin_value op a.width a.value b.value }) (sym n)

  -- the second operand's signal is the operator's, where the rule gives the second in every state and both have one width
  pub second_same : a.width ≡ b.width → ((s : State) → Gives Second op a.width (a.value s) (b.value s)) → b ≡ bin_signal op a b
  unfolding bin_value
  second_same e g =
      let n : bin_width op a.width ≡ b.width = (g at_rest).0 ∙ e in
      ap (λ (v : Value). record { width = b.width; value = v }) (fun_ext (λ s. sym (g s).1))
      ∙ ap (λ (m : ℕ). record { width = m; value = bin_value op a.width a.value b.value }) (sym n)

  -- the complement of the first operand is the operator's signal, where the rule gives the complement in every state
  pub complement_same : ((s : State) → Gives Complement op a.width (a.value s) (b.value s)) → not_signal a ≡ bin_signal op a b
  unfolding bin_value not_value
  complement_same g =
      let n : bin_width op a.width ≡ a.width = (g at_rest).0 in
      ap (λ (v : Value). record { width = a.width; value = v }) (fun_ext (λ s. sym (g s).1))
      ∙ ap (λ (m : ℕ). record { width = m; value = bin_value op a.width a.value b.value }) (sym n)

  -- a constant of the answer's width is the operator's signal, where the rule gives its number in every state
  pub number_same : (w n : ℕ) → w ≡ bin_width op a.width
      → ((s : State) → Gives (Number n) op a.width (a.value s) (b.value s)) → const_signal w n ≡ bin_signal op a b
  unfolding bin_value const_value
  number_same w n e g =
      ap (λ (v : Value). record { width = w; value = v }) (fun_ext (λ s. sym (g s).1))
      ∙ ap (λ (m : ℕ). record { width = m; value = bin_value op a.width a.value b.value }) e

bin_wide : (op : BinOp) (w : ℕ) → 1 ≤ w → w ≤ widest → IsWidth (bin_width op w)
bin_wide Add w l h = record { low = l; high = h }
bin_wide Sub w l h = record { low = l; high = h }
bin_wide Mul w l h = record { low = l; high = h }
bin_wide And w l h = record { low = l; high = h }
bin_wide Or w l h = record { low = l; high = h }
bin_wide Xor w l h = record { low = l; high = h }
bin_wide Eq w l h = record { low = lit≤ tt; high = lit≤ tt }
bin_wide Ne w l h = record { low = lit≤ tt; high = lit≤ tt }
bin_wide Lt w l h = record { low = lit≤ tt; high = lit≤ tt }
bin_wide Shl w l h = record { low = l; high = h }
bin_wide Shr w l h = record { low = l; high = h }

-- a number below that is told for an operator's result fits as a constant, where words have 1 to widest bits
pub number_fits : (c : Circuit) (op : BinOp) (w n u : ℕ) → w ≡ bin_width op u → 1 ≤ u → u ≤ widest → n < 2 ^ bin_width op u → Fits c (Const w n)
number_fits c op w n u e l h f =
    let b = bin_wide op u l h in
    (omega (arith, b.low, e), omega (arith, b.high, e), as_wide n (bin_width op u) w (sym e) f)

-- COMPLEMENTS

-- what a complement is taken of is the complement of that complement, where it is below
pub not_twice : (a x : Signal) → a ≡ not_signal x → IsBelow x → x ≡ not_signal a
unfolding not_value
not_twice a x e b =
    ap (λ (v : Value). record { width = x.width; value = v }) (fun_ext (λ s. sym (complement_twice x.width (x.value s) (b s))))
    ∙ ap not_signal (sym e)

-- CHOICES

-- a choice between 1 and 0 by a bit is the bit, where it is below
pub choice_same : (c a b : Signal)
    → c.width ≡ 1 → a.width ≡ 1 → IsBelow c → a.value ≡ const_value 1 → b.value ≡ const_value 0 → c ≡ mux_signal c a b
unfolding mux_value const_value
choice_same c a b n m below e f =
    let P : ℕ → Type 0 = λ k. (s : State) → c.value s < 2 ^ k in
    let two = subst P n below in
    let v : c.value ≡ mux_value c.value a.value b.value =
    fun_ext (λ s. sym (mux_one (c.value s) (two s)))
    ∙ ap (λ (u : Value). mux_value c.value u (const_value 0)) (sym e) ∙ ap (mux_value c.value a.value) (sym f) in
    ap (λ (u : Value). record { width = c.width; value = u }) v
    ∙ ap (λ (k : ℕ). record { width = k; value = mux_value c.value a.value b.value }) (n ∙ sym m)

-- a choice between 0 and 1 by a bit is the bit's complement, where it is below
pub choice_other : (c a b : Signal)
    → c.width ≡ 1 → a.width ≡ 1 → IsBelow c → a.value ≡ const_value 0 → b.value ≡ const_value 1
    → not_signal c ≡ mux_signal c a b
unfolding mux_value const_value not_value
choice_other c a b n m below e f =
    let P : ℕ → Type 0 = λ k. (s : State) → c.value s < 2 ^ k in
    let two = subst P n below in
    let v : not_value c.width c.value ≡ mux_value c.value a.value b.value =
    ap (λ k. not_value k c.value) n ∙ fun_ext (λ s. sym (mux_other (c.value s) (two s)))
    ∙ ap (λ (u : Value). mux_value c.value u (const_value 1)) (sym e) ∙ ap (mux_value c.value a.value) (sym f) in
    ap (λ (u : Value). record { width = c.width; value = u }) v
    ∙ ap (λ (k : ℕ). record { width = k; value = mux_value c.value a.value b.value }) (n ∙ sym m)

-- the choice of a complement, with its arms exchanged
pub choice_turned : (c x a b : Signal)
    → c ≡ not_signal x → c.width ≡ 1 → IsBelow x → a.width ≡ b.width → mux_signal x b a ≡ mux_signal c a b
unfolding mux_value not_value
choice_turned c x a b e n below w =
    let one : x.width ≡ 1 = sym (ap (λ (f : Signal). f.width) e) ∙ n in
    let P : ℕ → Type 0 = λ k. (s : State) → x.value s < 2 ^ k in
    let two = subst P one below in
    let v : mux_value x.value b.value a.value ≡ mux_value (not_value x.width x.value) a.value b.value =
    fun_ext (λ s. mux_turned (x.value s) (a.value s) (b.value s) (two s)) ∙ ap (λ k. mux_value (not_value k x.value) a.value b.value) (sym one) in
    ap (λ (u : Value). record { width = b.width; value = u }) v
    ∙ ap (λ (k : ℕ). record { width = k; value = mux_value (not_value x.width x.value) a.value b.value }) (sym w)
    ∙ ap (λ (f : Signal). mux_signal f a b) (sym e)

-- PARTS AND COPIES

-- the slice of all bits of a signal is the signal, where it is below
pub whole_same : (a : Signal) (high low : ℕ) → low ≡ 0 → high ≡ a.width - 1 → 1 ≤ a.width → IsBelow a → a ≡ slice_signal high low a
unfolding slice_value
whole_same a high low z h l b =
    let n : a.width ≡ high + 1 - low = omega (arith, z, h, l) in
    ap (λ (v : Value). record { width = a.width; value = v })
    (fun_ext
    (λ s. sym (slice_whole a.width (a.value s) l (b s)) ∙ ap (λ k. words.slice k 0 (a.value s)) (sym h) ∙ ap (λ k. words.slice high k (a.value s)) (sym z)))
    ∙ ap (λ (k : ℕ). record { width = k; value = slice_value high low a.value }) n

-- a slice of a slice is one slice of what that was taken from
pub part_same : (a x : Signal) (high low h l : ℕ)
    → a ≡ slice_signal high low x → l ≤ h → h < a.width → slice_signal (low + h) (low + l) x ≡ slice_signal h l a
unfolding slice_value
part_same a x high low h l e order top =
    let w : a.width ≡ high + 1 - low = ap (λ (f : Signal). f.width) e in
    let n : low + h + 1 - (low + l) ≡ h + 1 - l = omega arith in
    ap (λ (k : ℕ). record { width = k; value = slice_value (low + h) (low + l) x.value }) n
    ∙ ap (λ (v : Value). record { width = h + 1 - l; value = v }) (fun_ext (λ s. sym (slice_twice high low h l (x.value s) order (omega (arith, w, top)))))
    ∙ ap (slice_signal h l) (sym e)

-- one copy of a signal is the signal
pub copy_same : (a : Signal) → a ≡ rep_signal 1 a
unfolding rep_value
copy_same a =
    let n : a.width ≡ 1 * a.width = omega arith in
    ap (λ (v : Value). record { width = a.width; value = v }) (fun_ext (λ s. rep_once a.width (a.value s)))
    ∙ ap (λ (k : ℕ). record { width = k; value = rep_value a.width 1 a.value }) n
