-- Expressions of the tree that are typed have typed flat expressions, of the same width.
use Rattle.std.proofs.Common.{◌≡◌, refl, sym, ap, ap₂, ◌∙◌, subst, ℕ, zero, suc, ◌+◌, ◌-◌, ◌^◌, ◌<◌, ◌≤◌, if◌then◌else◌, nat_lt, List, [], ◌∷◌, map, slice_index, length, Option, Some, None, unwrap_or, arith}
use Rattle.pdl_semantics.specs.Tree.{BinaryOp, Add, Sub, Mul, And, Or, Xor, Equal, Differ, Less, ShiftLeft, ShiftRight, Expr, Constant, Variable, Slice, Not, Binary, Cat, LessSigned, ZeroExtend, SignExtend, Choose, Literal, Param}
use Rattle.pdl_semantics.specs.Flat as flat
use Rattle.pdl_semantics.specs.Flatten.{Var, op_width, width_of, flat_expr, flat_exprs, start_of}
use Rattle.pdl_rules.specs.Typed.{Holds, AreStarts}
use Rattle.pdl_rules.specs.Typed as tree
use Rattle.pdl_form_types.specs.Exprs.{width_in, IsTyped}
use Rattle.pdl_form_types.specs.Stmts.{AreArguments, AreWidths, AreBelow}
use Rattle.pdl_form_types.proofs.VariableNames.{Found}
use Rattle.pdl_semantics.specs.Words.{widest}

-- WIDTHS

slice_width : (high low : ℕ) → low ≤ high → (if nat_lt high low then 1 else high + 1 - low) ≡ high + 1 - low
slice_width high low h = grind arith

cat_width : (m n : ℕ) → m + n ≤ widest → (if nat_lt widest (m + n) then 1 else m + n) ≡ m + n
cat_width m n h = grind arith

-- the value of a literal, below the bound of its width
held_value : (v : Option ℕ) (w : ℕ) → Holds v w → unwrap_or v 0 < 2 ^ w
held_value None w h = absurd h
held_value (Some v) w h = h

-- an expression with its flat form: that is typed, and both have the same width
pub record Alike (us vs : List Var) (ws : List ℕ) (e : Expr) : Type 0 where
  pub typed : IsTyped ws (flat_expr vs e)
  pub width : width_in ws (flat_expr vs e) ≡ width_of us e
  pub same : width_of vs e ≡ width_of us e

-- the widths that the flat form tells
told : {us vs : List Var} {ws : List ℕ} (e : Expr) → Alike us vs ws e → width_in ws (flat_expr vs e) ≡ width_of vs e
told e h = h.width ∙ sym h.same

-- a typed expression whose names are found has a typed flat expression of its width
pub alike : (us vs : List Var) (ws : List ℕ) → Found us vs ws → (e : Expr) → tree.IsTyped us e → Alike us vs ws e
alike us vs ws f (Constant l) t = record { typed = (t.0, t.1, held_value l.value l.width t.2); width = refl; same = refl }
alike us vs ws f (Variable x) t = record { typed = f.number x.name t; width = f.width x.name t; same = f.same x.name t }
alike us vs ws f (Slice x high low) t = record {
  typed = (f.number x.name t.0, t.1, subst (λ w. high.value < w) (sym (f.width x.name t.0)) t.2);
  width = sym (slice_width high.value low.value t.1);
  same = refl;
}
alike us vs ws f (Not a) t =
    let h = alike us vs ws f a t in
    record { typed = (h.typed, told a h); width = h.same; same = h.same }
alike us vs ws f (Binary op a b) t =
    let h = alike us vs ws f a t.0 in
    let k = alike us vs ws f b t.1 in
    record {
      typed = (h.typed, k.typed, told a h, k.width ∙ sym t.2 ∙ sym h.same);
      width = ap (op_width op) h.same;
      same = ap (op_width op) h.same;
    }
alike us vs ws f (Cat a b) t =
    let h = alike us vs ws f a t.0 in
    let k = alike us vs ws f b t.1 in
    record {
      typed = (h.typed, k.typed, told b k, subst (λ n. n ≤ widest) (sym (ap₂ (λ m n. m + n) h.width k.same)) t.2);
      width = ap₂ (λ m n. m + n) h.width k.same ∙ sym (cat_width (width_of us a) (width_of us b) t.2);
      same = ap₂ (λ m n. if nat_lt widest (m + n) then 1 else m + n) h.same k.same;
    }
alike us vs ws f (LessSigned a b) t =
    let h = alike us vs ws f a t.0 in
    let k = alike us vs ws f b t.1 in
    record { typed = (h.typed, k.typed, told a h, k.width ∙ sym t.2 ∙ sym h.same); width = refl; same = refl }
alike us vs ws f (ZeroExtend a n) t =
    let h = alike us vs ws f a t.0 in
    record { typed = (h.typed, subst (λ w. w ≤ n.value) (sym h.width) t.1, t.2); width = refl; same = refl }
alike us vs ws f (SignExtend a n) t =
    let h = alike us vs ws f a t.0 in
    record { typed = (h.typed, told a h, subst (λ w. w ≤ n.value) (sym h.same) t.1, t.2); width = refl; same = refl }
alike us vs ws f (Choose c a b) t =
    let g = alike us vs ws f c t.0 in
    let h = alike us vs ws f a t.1 in
    let k = alike us vs ws f b t.2 in
    record { typed = (g.typed, h.typed, k.typed, g.width ∙ t.3, h.width ∙ t.4 ∙ sym k.width); width = h.width; same = h.same }

-- ARGUMENTS

-- the widths of parameters as the text tells them
abbrev pub told_widths : List Param → List ℕ
told_widths ps = map (λ (a : Param). a.width.value) ps

-- typed arguments for some parameters are flat arguments for these parameters' widths
pub arguments_flat : (us vs : List Var) (ws : List ℕ) → Found us vs ws → (ps : List Param) (es : List Expr) → tree.AreArguments us ps es
    → AreArguments ws (told_widths ps) (flat_exprs vs es)
arguments_flat us vs ws f [] [] t = tt
arguments_flat us vs ws f [] (e ∷ es) t = absurd t
arguments_flat us vs ws f (a ∷ ps) [] t = absurd t
arguments_flat us vs ws f (a ∷ ps) (e ∷ es) t =
    let h = alike us vs ws f e t.0 in
    (h.typed, h.width ∙ t.1, arguments_flat us vs ws f ps es t.2)

-- start arguments that fit their parameters are below the powers of two of these widths
pub below_start : (ps : List Param) (ls : List Literal) → AreStarts ps ls → AreBelow (told_widths ps) (start_of ls)
below_start [] [] t = tt
below_start [] (l ∷ ls) t = absurd t
below_start (a ∷ ps) [] t = absurd t
below_start (a ∷ ps) (l ∷ ls) t = (subst (λ w. unwrap_or l.value 0 < 2 ^ w) t.0 (held_value l.value l.width t.1), below_start ps ls t.2)

-- there are as many start arguments as parameters
pub long_start : (ps : List Param) (ls : List Literal) → AreStarts ps ls → length (start_of ls) ≡ length (told_widths ps)
long_start [] [] t = refl
long_start [] (l ∷ ls) t = absurd t
long_start (a ∷ ps) [] t = absurd t
long_start (a ∷ ps) (l ∷ ls) t = let e = long_start ps ls t.2 in omega arith

-- 1 TO WIDEST BITS

-- a width is from 1 to widest bits
pub record IsWide (w : ℕ) : Type 0 where
  pub low : 1 ≤ w
  pub high : w ≤ widest

-- each of a list of allowed widths is from 1 to widest bits
pub wide_at : (ws : List ℕ) (x : ℕ) → AreWidths ws → x < length ws → IsWide (slice_index ws x)
wide_at [] x a h = absurd (let z : x < 0 = h in omega arith)
wide_at (w ∷ ws) zero a h = record { low = a.0; high = a.1 }
wide_at (w ∷ ws) (suc x) a h = wide_at ws x a.2 (omega arith)

wide_op : (op : BinaryOp) (w : ℕ) → IsWide w → IsWide (op_width op w)
wide_op Equal w h = record { low = omega arith; high = omega arith }
wide_op Differ w h = record { low = omega arith; high = omega arith }
wide_op Less w h = record { low = omega arith; high = omega arith }
wide_op Add w h = h
wide_op Sub w h = h
wide_op Mul w h = h
wide_op And w h = h
wide_op Or w h = h
wide_op Xor w h = h
wide_op ShiftLeft w h = h
wide_op ShiftRight w h = h

-- a typed expression has 1 to widest bits, where the variables have
pub wide_expr : (ws : List ℕ) → AreWidths ws → (e : flat.Expr) → IsTyped ws e → IsWide (width_in ws e)
wide_expr ws a (flat.Constant width value) t = record { low = t.0; high = t.1 }
wide_expr ws a (flat.Variable x) t = wide_at ws x a t
wide_expr ws a (flat.Slice x high low) t =
    let most = wide_at ws x a t.0 in
    let order = t.1 in
    let below = t.2 in
    record { low = omega arith; high = omega arith }
wide_expr ws a (flat.Not width e) t = subst IsWide t.1 (wide_expr ws a e t.0)
wide_expr ws a (flat.Binary op width e d) t = wide_op op width (subst IsWide t.2 (wide_expr ws a e t.0))
wide_expr ws a (flat.Cat e width d) t =
    let some = wide_expr ws a e t.0 in
    let few = t.3 in
    record { low = omega arith; high = omega arith }
wide_expr ws a (flat.LessSigned width e d) t = record { low = omega arith; high = omega arith }
wide_expr ws a (flat.ZeroExtend wide e) t =
    let some = wide_expr ws a e t.0 in
    let more = t.1 in
    record { low = omega arith; high = t.2 }
wide_expr ws a (flat.SignExtend width wide e) t =
    let some = wide_expr ws a e t.0 in
    let is = t.1 in
    let more = t.2 in
    record { low = omega arith; high = t.3 }
wide_expr ws a (flat.Choose c e d) t = wide_expr ws a e t.1
