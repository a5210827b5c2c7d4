-- Cells whose operands are all constants: none are left, and what they give.
use Rattle.std.proofs.Common.{◌≡◌, ℕ, zero, suc, ◌<◌, ◌^◌, Bool, true, false, ◌&&◌, List, [], ◌∷◌, ◌++◌, length, get_or, refl, sym, ap, ◌∙◌, subst, arith, length-append, ⊎_elim}
use Rattle.std.proofs.lemmas.List.{get_or_append_left, get_or_push}
use Rattle.std.proofs.lemmas.Bool.{cases_lt}
use Rattle.pdl_word.specs.Words.{complement, mux, slice, cat, rep}
use Rattle.pdl_word.proofs.Numbers.{as_wide}
use Rattle.pdl_net.specs.declared.Net.{Net}
use Rattle.pdl_net.specs.declared.Net.TheVariants.{Input, Reg as RegNet, Cell as CellNet}
use Rattle.pdl_net.specs.declared.BinOp.{BinOp}
use Rattle.pdl_net.specs.declared.Cell.{Cell}
use Rattle.pdl_net.specs.declared.Cell.TheVariants.{Const, Not, Bin, Mux, Slice, Cat, Rep, Read}
use Rattle.pdl_net.specs.Circuit.{Circuit}
use Rattle.pdl_net.specs.Signal.{Value, const_value, not_value, bin_word, bin_value, mux_value, slice_value, cat_value, rep_value}
use Rattle.pdl_net.specs.Meaning.{IsThere, cell_signal, signal}
use Rattle.pdl_net.specs.Well.{Fits, IsWell}
use Rattle.pdl_net.proofs.Bounds.{bounded, cell_bounded}
use Rattle.pdl_build.specs.FoldedCells.{is_const, cell_in, is_constant, is_foldable, AreFolded}
use Rattle.pdl_build.proofs.Widths.{nothing, nothing_suits}

-- ONE CELL MORE

constant_at : (cells : List Cell) (g : Cell) (k : ℕ)
    → is_const (get_or cells k (Const 0 0)) ≡ false → is_const (get_or (cells ++ g ∷ []) k (Const 0 0)) ≡ false
constant_at [] g k e = absurd (cc)
constant_at (x ∷ xs) g zero e = e
constant_at (x ∷ xs) g (suc k) e = constant_at xs g k e

constant_still : (cells : List Cell) (g : Cell) (x : Net) → is_constant cells x ≡ false → is_constant (cells ++ g ∷ []) x ≡ false
constant_still cells g (Input i) e = refl
constant_still cells g (RegNet r) e = refl
constant_still cells g (CellNet k) e = constant_at cells g k e

-- a conjunction is false where its first part is
pub and_left : (a b : Bool) → a ≡ false → (a && b) ≡ false
and_left true b e = absurd (cc)
and_left false b e = refl

-- a conjunction is false where its second part is
pub and_right : (a b : Bool) → b ≡ false → (a && b) ≡ false
and_right true b e = e
and_right false b e = refl

and_still : (a b c d : Bool) → (a ≡ false → c ≡ false) → (b ≡ false → d ≡ false) → (a && b) ≡ false → (c && d) ≡ false
and_still true b c d f g e = and_right c d (g e)
and_still false b c d f g e = and_left c d (f refl)

foldable_still : (cells : List Cell) (g h : Cell) → is_foldable cells h ≡ false → is_foldable (cells ++ g ∷ []) h ≡ false
foldable_still cells g (Const w v) e = refl
foldable_still cells g (Not a) e = constant_still cells g a e
foldable_still cells g (Bin op a b) e = and_still _ _ _ _ (constant_still cells g a) (constant_still cells g b) e
foldable_still cells g (Mux c a b) e = and_still _ _ _ _ (constant_still cells g c) (and_still _ _ _ _ (constant_still cells g a) (constant_still cells g b)) e
foldable_still cells g (Slice a high low) e = constant_still cells g a e
foldable_still cells g (Cat a b) e = and_still _ _ _ _ (constant_still cells g a) (constant_still cells g b) e
foldable_still cells g (Rep k a) e = constant_still cells g a e
foldable_still cells g (Read m a) e = refl

-- among cells of which none could be a constant, there is none with one more that couldn't be
pub folded_pushed : (cells : List Cell) (g : Cell) → AreFolded cells → is_foldable cells g ≡ false → AreFolded (cells ++ g ∷ [])
folded_pushed cells g f e =
    let P : Cell → Type 0 = λ h. is_foldable (cells ++ g ∷ []) h ≡ false in
    record {
      each = λ k l. ⊎_elim
          (λ (lt : k < length cells). subst P (sym (get_or_append_left cells (g ∷ []) (Const 0 0) k lt))
          (foldable_still cells g (cell_in cells k) (f.each k lt)))
          (λ ge. let n : length cells ≡ k = omega (arith, length-append cells (g ∷ [])) in
          subst P (sym (get_or_push cells g (Const 0 0) k n)) (foldable_still cells g g e))
          (cases_lt k (length cells));
    }

-- VALUES OF CONSTANTS

-- the complement of a constant is the constant of its word's complement
pub not_of : (w x : ℕ) (f : Value) → f ≡ const_value x → not_value w f ≡ const_value (complement w x)
unfolding not_value const_value
not_of w x f e = ap (not_value w) e

-- an operator on two constants gives the constant that it makes of their words
pub bin_of : (op : BinOp) (w x y : ℕ) (f g : Value)
    → f ≡ const_value x → g ≡ const_value y → bin_value op w f g ≡ const_value (bin_word op w x y)
unfolding bin_value const_value
bin_of op w x y f g e h = ap (λ u. bin_value op w u g) e ∙ ap (bin_value op w (const_value x)) h

-- a choice between constants by a constant is the constant that it chooses
pub mux_of : (c x y : ℕ) (t f g : Value)
    → t ≡ const_value c → f ≡ const_value x → g ≡ const_value y → mux_value t f g ≡ const_value (mux c x y)
unfolding mux_value const_value
mux_of c x y t f g d e h = ap (λ u. mux_value u f g) d ∙ ap (λ u. mux_value (const_value c) u g) e ∙ ap (mux_value (const_value c) (const_value x)) h

-- a slice of a constant is the constant of its word's slice
pub slice_of : (high low x : ℕ) (f : Value) → f ≡ const_value x → slice_value high low f ≡ const_value (slice high low x)
unfolding slice_value const_value
slice_of high low x f e = ap (slice_value high low) e

-- two constants joined are the constant of their words joined
pub cat_of : (v x y : ℕ) (f g : Value) → f ≡ const_value x → g ≡ const_value y → cat_value v f g ≡ const_value (cat v x y)
unfolding cat_value const_value
cat_of v x y f g e h = ap (λ u. cat_value v u g) e ∙ ap (cat_value v (const_value x)) h

-- copies of a constant are the constant of its word's copies
pub rep_of : (u k x : ℕ) (f : Value) → f ≡ const_value x → rep_value u k f ≡ const_value (rep u k x)
unfolding rep_value const_value
rep_of u k x f e = ap (rep_value u k) e

-- the constant of a cell that is always this value
pub constant_fits : (c : Circuit) (g : Cell) (w v : ℕ) → IsWell c → Fits c g
    → w ≡ (cell_signal c (signal c) g).width → (cell_signal c (signal c) g).value ≡ const_value v → Fits c (Const w v)
unfolding const_value
constant_fits c g w v h f e s =
    let b = cell_bounded c (nothing c) (IsThere c) (signal c) h (nothing_suits c) (bounded c (nothing c) h (nothing_suits c)) g f in
    let x : (cell_signal c (signal c) g).value (nothing c) ≡ v = ap (λ (z : Value). z (nothing c)) s in
    let P : ℕ → Type 0 = λ y. y < 2 ^ w in
    (omega (arith, b.low, e), omega (arith, b.high, e), subst P x (as_wide _ _ w (sym e) b.fits))
