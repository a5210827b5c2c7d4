-- Expressions that are typed have values of their width, and their operators find operands of theirs.
use Rattle.std.proofs.Common.{◌≡◌, sym, subst, ℕ, suc, zero, ◌^◌, ◌<◌, List, [], ◌∷◌, length, slice_index, arith, ap, refl}
use Rattle.pdl_word.proofs.Bounds as bounds
use Rattle.pdl_semantics.specs.Tree.{BinaryOp, Add, Sub, Mul, And, Or, Xor, Equal, Differ, Less, ShiftLeft, ShiftRight}
use Rattle.pdl_semantics.specs.Flat.{Expr, Constant, Variable, Slice, Not, Binary, Cat, LessSigned, ZeroExtend, SignExtend, Choose, operator_value, value_of, values_of}
use Rattle.pdl_semantics.specs.Flatten.{op_width}
use Rattle.pdl_form_types.specs.Exprs.{width_in, IsTyped}
use Rattle.pdl_form_types.specs.Stmts.{AreWidths, AreArguments}
use Rattle.pdl_form_values.specs.Safe.{IsWidth, IsSafe, AreSafe}
use Rattle.pdl_form_values.specs.Widths.{Fit}
use Rattle.pdl_word.proofs.Numbers.{as_wide}

applied_fits : (op : BinaryOp) (w a b : ℕ) → a < 2 ^ w → b < 2 ^ w → operator_value op w a b < 2 ^ op_width op w
applied_fits Add w a b f g = bounds.add_below w a b
applied_fits Sub w a b f g = bounds.sub_below w a b
applied_fits Mul w a b f g = bounds.mul_below w a b
applied_fits And w a b f g = bounds.and_below w a b f
applied_fits Or w a b f g = bounds.or_below w a b f g
applied_fits Xor w a b f g = bounds.xor_below w a b f g
applied_fits Equal w a b f g = bounds.equal_below a b
applied_fits Differ w a b f g = bounds.differ_below a b
applied_fits Less w a b f g = bounds.less_below a b
applied_fits ShiftLeft w a b f g = bounds.shl_below w a b
applied_fits ShiftRight w a b f g = bounds.shr_below w a b f

one : IsWidth 1
one = (omega arith, omega arith)

-- a width of operands is one of the result
op_wide : (op : BinaryOp) (w : ℕ) → IsWidth w → IsWidth (op_width op w)
op_wide Add w h = h
op_wide Sub w h = h
op_wide Mul w h = h
op_wide And w h = h
op_wide Or w h = h
op_wide Xor w h = h
op_wide Equal w h = one
op_wide Differ w h = one
op_wide Less w h = one
op_wide ShiftLeft w h = h
op_wide ShiftRight w h = h

-- a variable's width is one
var_wide : (ws : List ℕ) (x : ℕ) → AreWidths ws → x < length ws → IsWidth (slice_index ws x)
var_wide [] x h small = absurd (omega arith)
var_wide (w ∷ ws) zero h small = (h.0, h.1)
var_wide (w ∷ ws) (suc x) h small = var_wide ws x h.2 (omega arith)

module _ (ws env : List ℕ) (some : AreWidths ws) (f : Fit ws env) where
  -- an expression that is typed has a width
  pub has_width : (e : Expr) → IsTyped ws e → IsWidth (width_in ws e)
  has_width (Constant w v) t = (t.0, t.1)
  has_width (Variable x) t = var_wide ws x some t
  has_width (Slice x high low) t =
      let most = (var_wide ws x some (omega arith)).1 in
      let low_is = t.1 in
      let high_is = t.2 in
      (omega arith, omega arith)
  has_width (Not w a) t = subst IsWidth t.1 (has_width a t.0)
  has_width (Binary op w a b) t = op_wide op w (subst IsWidth t.2 (has_width a t.0))
  has_width (Cat a w b) t =
      let least = (has_width a t.0).0 in
      let most = t.3 in
      (omega arith, most)
  has_width (LessSigned w a b) t = one
  has_width (ZeroExtend as_wide a) t =
      let least = (has_width a t.0).0 in
      let more = t.1 in
      (omega arith, t.2)
  has_width (SignExtend w as_wide a) t =
      let least = (subst IsWidth t.1 (has_width a t.0)).0 in
      let more = t.2 in
      (omega arith, t.3)
  has_width (Choose c a b) t = has_width a t.1

  -- a typed expression has a value of its width
  pub fits : (e : Expr) → IsTyped ws e → value_of e env < 2 ^ width_in ws e
  fits (Constant w v) t = t.2
  fits (Variable x) t = f.below x
  fits (Slice x high low) t = bounds.slice_below high low (slice_index env x)
  fits (Not w a) t = bounds.complement_below w (value_of a env)
  fits (Binary op w a b) t =
      applied_fits op w (value_of a env) (value_of b env) (as_wide _ _ _ t.2 (fits a t.0)) (as_wide _ _ _ t.3 (fits b t.1))
  fits (Cat a w b) t = bounds.cat_below (width_in ws a) w (value_of a env) (value_of b env) (fits a t.0) (as_wide _ _ _ t.2 (fits b t.1))
  fits (LessSigned w a b) t = bounds.lts_below w (value_of a env) (value_of b env)
  fits (ZeroExtend m a) t = bounds.zext_below (width_in ws a) m (value_of a env) t.1 (fits a t.0)
  fits (SignExtend w m a) t = bounds.sext_below w m (value_of a env)
  fits (Choose c a b) t =
      bounds.mux_below (width_in ws a) (value_of c env) (value_of a env) (value_of b env) (fits a t.1) (as_wide _ _ _ (sym t.4) (fits b t.2))

  -- a typed expression that is n bits wide has a value below 2^n
  pub fits_in : (e : Expr) (n : ℕ) → IsTyped ws e → width_in ws e ≡ n → value_of e env < 2 ^ n
  fits_in e n t is = as_wide _ _ _ is (fits e t)

  -- in a typed expression every operator finds operands of its width
  pub safe : (e : Expr) → IsTyped ws e → IsSafe e env
  safe (Constant w v) t = tt
  safe (Variable x) t = tt
  safe (Slice x high low) t =
      let most = (var_wide ws x some t.0).1 in
      let high_is = t.2 in
      (t.1, omega arith)
  safe (Not w a) t = (safe a t.0, subst IsWidth t.1 (has_width a t.0), fits_in a w t.0 t.1)
  safe (Binary op w a b) t =
      (safe a t.0, safe b t.1, subst IsWidth t.2 (has_width a t.0), fits_in a w t.0 t.2, fits_in b w t.1 t.3)
  safe (Cat a w b) t =
      let above = (has_width a t.0).0 in
      let below = (subst IsWidth t.2 (has_width b t.1)).0 in
      let most = t.3 in
      (safe a t.0, safe b t.1, below, omega arith, bounds.fits_above (width_in ws a) w (value_of a env) (omega arith) (fits a t.0), fits_in b w t.1 t.2)
  safe (LessSigned w a b) t = (safe a t.0, safe b t.1, subst IsWidth t.2 (has_width a t.0))
  safe (ZeroExtend m a) t = safe a t.0
  safe (SignExtend w m a) t =
      (safe a t.0, (subst IsWidth t.1 (has_width a t.0)).0, t.2, t.3, fits_in a w t.0 t.1)
  safe (Choose c a b) t = (safe c t.0, safe a t.1, safe b t.2)

  -- in typed arguments every operator finds operands of its width
  pub all_safe : (ns : List ℕ) (es : List Expr) → AreArguments ws ns es → AreSafe es env
  all_safe [] [] t = tt
  all_safe (n ∷ ns) [] t = absurd t
  all_safe [] (e ∷ es) t = absurd t
  all_safe (n ∷ ns) (e ∷ es) t = (safe e t.0, all_safe ns es t.2)

-- there are as many values as expressions
pub values_count : (env : List ℕ) (es : List Expr) → length (values_of es env) ≡ length es
values_count env [] = refl
values_count env (e ∷ es) = ap suc (values_count env es)
