-- The widths of expressions over variables of at most widest bits.
use Rattle.std.proofs.Common.{◌≡◌, refl, ℕ, ◌+◌, ◌-◌, ◌<◌, ◌≤◌, Bool, true, false, ◌||◌, List, nat_lt, nat_le, if◌then◌else◌, arith, leb-false, ltb-false}
use Rattle.std.specs.Prelude.{IsTrue}
use Rattle.std.proofs.lemmas.Bool.{or_parts}
use Rattle.pdl_semantics.specs.Tree.{BinaryOp, Expr, Constant, Variable, Slice, Not, Binary, Cat, LessSigned, ZeroExtend, SignExtend, Choose}
use Rattle.pdl_semantics.specs.Flatten.{Var, var_width, width_of}
use Rattle.pdl_rules.specs.Parts.{some_part, of_constant}
use Rattle.pdl_rules.specs.Limits.{is_wrong_literal}
use Rattle.pdl_rules.specs.Names.{Use, OfVariable, reads_some}
use Rattle.pdl_rules.specs.Widths.{is_out_of_range, is_no_extension}
use Rattle.pdl_rules.specs.Typed.{is_named}
use Rattle.pdl_rules.proofs.TypedExpressions.{width_is}
use Rattle.pdl_semantics.proofs.Facts.{op_narrow}
use Rattle.pdl_word.specs.Words.{widest}

cat_narrow : (n : ℕ) → (if nat_lt widest n then 1 else n) ≤ widest
cat_narrow n = at (nat_lt widest n) refl
  where
    at : (b : Bool) → nat_lt widest n ≡ b → (if b then 1 else n) ≤ widest
    at true e = omega arith
    at false e = ltb-false widest n e

-- a slice below a bound
slice_narrow : (high low w : ℕ) → nat_lt high low ≡ false → high < w → w ≤ widest → (if nat_lt high low then 1 else high + 1 - low) ≤ widest
slice_narrow high low w e l h = at (nat_lt high low) e
  where
    at : (b : Bool) → b ≡ false → (if b then 1 else high + 1 - low) ≤ widest
    at true f = omega arith
    at false f = omega (arith, l, h)

extension_narrow : (w n : ℕ) → is_no_extension w n ≡ false → n ≤ widest
extension_narrow w n e = ltb-false widest n (or_parts (nat_lt n w) (nat_lt widest n) e).1

-- PARTS

in_not : (test : Expr → Bool) (a : Expr) → some_part test (Not a) ≡ false → some_part test a ≡ false
in_not test a h = (or_parts (test (Not a)) (some_part test a) h).1

in_binary : (test : Expr → Bool) (op : BinaryOp) (a b : Expr) → some_part test (Binary op a b) ≡ false → some_part test a ≡ false
in_binary test op a b h = (or_parts (some_part test a) (some_part test b) (or_parts (test (Binary op a b)) (some_part test a || some_part test b) h).1).0

in_choice : (test : Expr → Bool) (c a b : Expr) → some_part test (Choose c a b) ≡ false → some_part test a ≡ false
in_choice test c a b h =
    let arms = (or_parts (test (Choose c a b)) (some_part test c || (some_part test a || some_part test b)) h).1 in
    (or_parts (some_part test a) (some_part test b) (or_parts (some_part test c) (some_part test a || some_part test b) arms).1).0

-- what is asked of an expression: no use fails, all slices and extensions are in range, and all literals have widths
module _ (vs all : List Var) (early : Use → Bool) (knows : (x : List ℕ) → early (OfVariable x) ≡ false → IsTrue (is_named vs x))
    (stays : (x : List ℕ) → IsTrue (is_named vs x) → var_width all x ≡ var_width vs x) (narrow : (x : List ℕ) → var_width vs x ≤ widest) where
  -- an expression whose uses, slices, extensions and literals break no rule is at most widest bits wide, where each variable so far is
  pub expr_narrow : (e : Expr) → some_part (reads_some early) e ≡ false → some_part (is_out_of_range all) e ≡ false
      → some_part (of_constant is_wrong_literal) e ≡ false → width_of vs e ≤ widest
  expr_narrow (Constant l) u r w = (width_is l.width w).1
  expr_narrow (Variable x) u r w = narrow x.name
  expr_narrow (Slice x high low) u r w =
      let parts = or_parts (nat_lt high.value low.value) (nat_le (var_width all x.name) high.value) r in
      let below : high.value < var_width all x.name = leb-false _ high.value parts.1 in
      let same = stays x.name (knows x.name u) in
      let most = narrow x.name in
      slice_narrow high.value low.value (var_width all x.name) parts.0 below (omega (arith, same, most))
  expr_narrow (Not a) u r w = expr_narrow a (in_not (reads_some early) a u) (in_not (is_out_of_range all) a r) (in_not (of_constant is_wrong_literal) a w)
  expr_narrow (Binary op a b) u r w =
      op_narrow op (width_of vs a)
      (expr_narrow a (in_binary (reads_some early) op a b u) (in_binary (is_out_of_range all) op a b r) (in_binary (of_constant is_wrong_literal) op a b w))
  expr_narrow (Cat a b) u r w = cat_narrow (width_of vs a + width_of vs b)
  expr_narrow (LessSigned a b) u r w = omega arith
  expr_narrow (ZeroExtend a n) u r w =
      extension_narrow (width_of all a) n.value (or_parts (is_no_extension (width_of all a) n.value) (some_part (is_out_of_range all) a) r).0
  expr_narrow (SignExtend a n) u r w =
      extension_narrow (width_of all a) n.value (or_parts (is_no_extension (width_of all a) n.value) (some_part (is_out_of_range all) a) r).0
  expr_narrow (Choose c a b) u r w =
      expr_narrow a (in_choice (reads_some early) c a b u) (in_choice (is_out_of_range all) c a b r) (in_choice (of_constant is_wrong_literal) c a b w)
