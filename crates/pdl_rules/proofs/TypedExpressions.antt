-- Expressions that break no rule are typed, and have the same width by the variables so far as by all variables of the pipe.
use Rattle.std.proofs.Common.{◌≡◌, refl, sym, ap, ap₂, ◌∙◌, ℕ, ◌+◌, ◌^◌, ◌≤◌, ◌<◌, Bool, true, false, not, List, [], ◌∷◌, map, if◌then◌else◌, ◌==◌, nat_eq, nat_lt, nat_le, Option, Some, None, arith, leb-false, ltb-false, leb-true}
use Rattle.std.specs.Prelude.{IsTrue}
use Rattle.std.specs.Cmp.Lexicographic.{pointwise}
use Rattle.std.proofs.lemmas.Bool.{false≢true, true≢false, and_parts, or_parts, eqb-true, not-false}
use Rattle.std.specs.List.{list_any}
use Rattle.pdl_semantics.specs.Tree.{Span, Literal, Expr, Constant, Variable, Slice, Not, Binary, Cat, LessSigned, ZeroExtend, SignExtend, Choose, Param}
use Rattle.pdl_semantics.specs.Flatten.{Var, var_width, op_width, width_of}
use Rattle.pdl_rules.specs.Parts.{some_part, of_constant}
use Rattle.pdl_rules.specs.Limits.{is_width, is_wrong_literal}
use Rattle.pdl_rules.specs.Names.{Use, OfVariable, reads_some}
use Rattle.pdl_rules.specs.Widths.{is_unequal, is_too_large, is_out_of_range, is_no_extension, is_wide_choice}
use Rattle.pdl_rules.specs.Typed.{is_named, Holds, IsTyped, AreArguments, AreStarts}
use Rattle.pdl_semantics.specs.Words.{widest}

-- TESTS OF EXPRESSIONS

-- what the rules of expressions ask, each by one way to test expressions: no use is too early, and all widths are those that the operators want
pub record Fits (early : Use → Bool) (all : List Var) (some : (Expr → Bool) → Bool) : Type 0 where
  pub uses : some (some_part (reads_some early)) ≡ false
  pub widths : some (some_part (is_unequal all)) ≡ false
  pub ranges : some (some_part (is_out_of_range all)) ≡ false
  pub values : some (some_part (of_constant is_too_large)) ≡ false
  pub literals : some (some_part (of_constant is_wrong_literal)) ≡ false
  pub choices : some (some_part (is_wide_choice all)) ≡ false

-- a test of one expression
abbrev pub of_one : Expr → (Expr → Bool) → Bool
of_one e test = test e

-- what fits as a whole fits in a part
fits_part : (early : Use → Bool) (all : List Var) (whole part : (Expr → Bool) → Bool)
    → ((test : Expr → Bool) → whole (some_part test) ≡ false → part (some_part test) ≡ false) → Fits early all whole
    → Fits early all part
fits_part early all whole part less f = record {
  uses = less (reads_some early) f.uses;
  widths = less (is_unequal all) f.widths;
  ranges = less (is_out_of_range all) f.ranges;
  values = less (of_constant is_too_large) f.values;
  literals = less (of_constant is_wrong_literal) f.literals;
  choices = less (is_wide_choice all) f.choices;
}

-- LITERALS

holds : (v : Option ℕ) (w : ℕ) (s : Span) → is_too_large (record { width = w; value = v; span = s }) ≡ false → Holds v w
holds None w s e = absurd (true≢false e)
holds (Some v) w s e = leb-false (2 ^ w) v e

literal_holds : (l : Literal) → is_too_large l ≡ false → Holds l.value l.width
literal_holds l e = holds l.value l.width l.span e

-- a width that the limits allow is from 1 to widest
pub width_is : (w : ℕ) → not (is_width w) ≡ false → (1 ≤ w) × (w ≤ widest)
width_is w e =
    let parts = and_parts (nat_le 1 w) (nat_le w widest) (not-false _ e) in
    (leb-true 1 w parts.0, leb-true w widest parts.1)

-- EXPRESSIONS

extends : (w n : ℕ) → is_no_extension w n ≡ false → (w ≤ n) × (n ≤ widest)
extends w n e =
    let parts = or_parts (nat_lt n w) (nat_lt widest n) e in
    (ltb-false n w parts.0, ltb-false widest n parts.1)

equal_if : (m n : ℕ) → not (m == n) ≡ false → m ≡ n
equal_if m n e = eqb-true m n (not-false _ e)

-- variables so far, all variables, and a test of uses that no variable fails to have
module _ (vs all : List Var) (early : Use → Bool)
    (knows : (x : List ℕ) → early (OfVariable x) ≡ false → IsTrue (is_named vs x))
    (stays : (x : List ℕ) → IsTrue (is_named vs x) → var_width all x ≡ var_width vs x) where
  -- an expression that breaks no rule is typed by the variables so far, and as wide by them as by all variables
  pub typed : (e : Expr) → Fits early all (of_one e) → IsTyped vs e × (width_of all e ≡ width_of vs e)
  typed (Constant l) f =
      let width = width_is l.width f.literals in
      ((width.0, width.1, literal_holds l f.values), refl)
  typed (Variable x) f =
      let name = knows x.name f.uses in
      (name, stays x.name name)
  typed (Slice x high low) f =
      let name = knows x.name f.uses in
      let parts = or_parts (nat_lt high.value low.value) (nat_le (var_width all x.name) high.value) f.ranges in
      let below : high.value < var_width all x.name = leb-false _ high.value parts.1 in
      let same = stays x.name name in
      ((name, ltb-false high.value low.value parts.0, omega arith), refl)
  typed (Not a) f = typed a (fits_part early all _ (of_one a) (λ test h. (or_parts (test (Not a)) _ h).1) f)
  typed (Binary op a b) f =
      let left = typed a (fits_part early all _ (of_one a) (λ test h. (or_parts _ (some_part test b) (or_parts (test (Binary op a b)) _ h).1).0) f) in
      let right = typed b (fits_part early all _ (of_one b) (λ test h. (or_parts (some_part test a) _ (or_parts (test (Binary op a b)) _ h).1).1) f) in
      let same = equal_if (width_of all a) (width_of all b) (or_parts _ _ f.widths).0 in
      ((left.0, right.0, sym left.1 ∙ same ∙ right.1), ap (op_width op) left.1)
  typed (Cat a b) f =
      let left = typed a (fits_part early all _ (of_one a) (λ test h. (or_parts _ (some_part test b) (or_parts (test (Cat a b)) _ h).1).0) f) in
      let right = typed b (fits_part early all _ (of_one b) (λ test h. (or_parts (some_part test a) _ (or_parts (test (Cat a b)) _ h).1).1) f) in
      let few : width_of all a + width_of all b ≤ widest = ltb-false widest _ (or_parts _ _ f.ranges).0 in
      let on_left = left.1 in
      let on_right = right.1 in
      ((left.0, right.0, omega arith), ap₂ (λ m n. if nat_lt widest (m + n) then 1 else m + n) left.1 right.1)
  typed (LessSigned a b) f =
      let left = typed a (fits_part early all _ (of_one a) (λ test h. (or_parts _ (some_part test b) (or_parts (test (LessSigned a b)) _ h).1).0) f) in
      let right = typed b (fits_part early all _ (of_one b) (λ test h. (or_parts (some_part test a) _ (or_parts (test (LessSigned a b)) _ h).1).1) f) in
      let same = equal_if (width_of all a) (width_of all b) (or_parts _ _ f.widths).0 in
      ((left.0, right.0, sym left.1 ∙ same ∙ right.1), refl)
  typed (ZeroExtend a n) f =
      let inner = typed a (fits_part early all _ (of_one a) (λ test h. (or_parts (test (ZeroExtend a n)) _ h).1) f) in
      let wide = extends (width_of all a) n.value (or_parts _ _ f.ranges).0 in
      let most = wide.0 in
      let same = inner.1 in
      ((inner.0, omega arith, wide.1), refl)
  typed (SignExtend a n) f =
      let inner = typed a (fits_part early all _ (of_one a) (λ test h. (or_parts (test (SignExtend a n)) _ h).1) f) in
      let wide = extends (width_of all a) n.value (or_parts _ _ f.ranges).0 in
      let most = wide.0 in
      let same = inner.1 in
      ((inner.0, omega arith, wide.1), refl)
  typed (Choose c a b) f =
      let arms = λ (test : Expr → Bool) (h : some_part test (Choose c a b) ≡ false). (or_parts (test (Choose c a b)) _ h).1 in
      let condition = typed c (fits_part early all _ (of_one c) (λ test h. (or_parts (some_part test c) _ (arms test h)).0) f) in
      let left =
      typed a
      (fits_part early all _ (of_one a) (λ test h. (or_parts (some_part test a) (some_part test b) (or_parts (some_part test c) _ (arms test h)).1).0) f) in
      let right =
      typed b
      (fits_part early all _ (of_one b) (λ test h. (or_parts (some_part test a) (some_part test b) (or_parts (some_part test c) _ (arms test h)).1).1) f) in
      let same = equal_if (width_of all a) (width_of all b) (or_parts _ _ f.widths).0 in
      let one = equal_if (width_of all c) 1 (or_parts _ _ f.choices).0 in
      ((condition.0, left.0, right.0, sym condition.1 ∙ one, sym left.1 ∙ same ∙ right.1), left.1)

  -- as many arguments as parameters, with their widths
  pub arguments : (ps : List Param) (es : List Expr) → Fits early all (λ test. list_any test es)
      → pointwise nat_eq (map (width_of all) es) (map (λ (a : Param). a.width.value) ps) ≡ true → AreArguments vs ps es
  arguments [] [] f e = tt
  arguments [] (x ∷ es) f e = absurd (false≢true e)
  arguments (a ∷ ps) [] f e = absurd (false≢true e)
  arguments (a ∷ ps) (x ∷ es) f e =
      let first = typed x (fits_part early all _ (of_one x) (λ test h. (or_parts (some_part test x) (list_any (some_part test) es) h).0) f) in
      let parts = and_parts (nat_eq (width_of all x) a.width.value) _ e in (
        first.0,
        sym first.1 ∙ eqb-true _ _ parts.0,
        arguments ps es
            (fits_part early all _ (λ test. list_any test es) (λ test h. (or_parts (some_part test x) (list_any (some_part test) es) h).1) f) parts.1,
      )

-- THE START

-- literals that fit their widths, where these are the parameters' ones, are arguments of the start
pub starts : (ps : List Param) (ls : List Literal) → list_any is_too_large ls ≡ false
    → pointwise nat_eq (map (λ (l : Literal). l.width) ls) (map (λ (a : Param). a.width.value) ps) ≡ true → AreStarts ps ls
starts [] [] v e = tt
starts [] (l ∷ ls) v e = absurd (false≢true e)
starts (a ∷ ps) [] v e = absurd (false≢true e)
starts (a ∷ ps) (l ∷ ls) v e =
    let parts = and_parts (nat_eq l.width a.width.value) _ e in
    let values = or_parts (is_too_large l) (list_any is_too_large ls) v in
    (eqb-true _ _ parts.0, literal_holds l values.0, starts ps ls values.1 parts.1)
