-- All variables of a pipe that keeps the rules have at most widest bits.
use Rattle.std.proofs.Common.{◌≡◌, refl, sym, ap, ◌∙◌, subst, ℕ, ◌≤◌, Bool, true, false, ◌||◌, ◌&&◌, not, List, [], ◌∷◌, ◌++◌, map, fold, if◌then◌else◌, Some, None, bytes_eq, append_assoc, arith, ◌⊎◌, inl, inr, ⊎_elim, leb-true}
use Rattle.std.specs.Prelude.{IsTrue, ⊤, nat_le}
use Rattle.std.specs.List.{list_any}
use Rattle.std.proofs.lemmas.Bool.{or_parts, and_parts, and_from, le-leb, not-false, or_left}
use Rattle.std.proofs.lemmas.List.Folds.{list_any-append}
use Rattle.std.proofs.lemmas.List.Sums.{fold_push}
use Rattle.pdl_kit.specs.declared.rule.Rule.TheVariants.{Z7, N2, N3, W2}
use Rattle.pdl_semantics.specs.Tree.{Ident, Expr, Span, Separator, CombRead, Bind, SpecCall, DelayedRead, Write, Reserve, Block, Release, If, Call, Verify, Update, SpecCheck, SpecBarrier, Param, Mem, Pipe}
use Rattle.pdl_semantics.specs.Flatten.{Var, var_width, mem_width, width_of, is_advisory_mem, is_advised}
use Rattle.pdl_rules.specs.Places.{Place, Branch, Parameter, Memory, Statement, End, StartClause, statements, places, line_of}
use Rattle.pdl_rules.specs.Limits.{breaks_z7, is_width, is_depth}
use Rattle.pdl_rules.specs.Names.{OfVariable, defines_use, variable_at, name_at, is_parameter, is_too_early, breaks_n2}
use Rattle.pdl_rules.specs.Widths.{with_variable, after_place, variables}
use Rattle.pdl_rules.specs.Typed.{is_named}
use Rattle.pdl_rules.specs.Refusal.{breaks_rule, broken_line}
use Rattle.pdl_rules.proofs.TypedExpressions.{width_is}
use Rattle.pdl_rules.proofs.KnownVariables.{AreKnown, none_known, known_same, known_more, known_stay}
use Rattle.pdl_rules_widths.specs.Variables.{width_among}
use Rattle.pdl_rules_names.proofs.Firsts.{none_some}
use Rattle.pdl_check.specs.Narrow.{are_narrow}
use Rattle.pdl_check.proofs.Unbroken.{KeepsWidths, here, after}
use Rattle.pdl_check.proofs.Expressions.{expr_narrow}
use Rattle.pdl_word.proofs.Bools.{none_given}
use Rattle.pdl_word.specs.Words.{widest}

-- VARIABLES

abbrev AreNarrow : List Var → Type 0
AreNarrow [] = ⊤
AreNarrow (v ∷ vs) = (v.width ≤ widest) × AreNarrow vs

all_narrow : (vs : List Var) → AreNarrow vs → are_narrow vs ≡ true
all_narrow [] h = refl
all_narrow (v ∷ vs) h = and_from (nat_le v.width widest) (are_narrow vs) (le-leb v.width widest h.0) (all_narrow vs h.1)

each_narrow : (vs : List Var) → are_narrow vs ≡ true → AreNarrow vs
each_narrow [] e = tt
each_narrow (v ∷ vs) e = let parts = and_parts (nat_le v.width widest) (are_narrow vs) e in (leb-true v.width widest parts.0, each_narrow vs parts.1)

narrow_more : (vs : List Var) (v : Var) → AreNarrow vs → v.width ≤ widest → AreNarrow (vs ++ v ∷ [])
narrow_more [] v h k = (k, tt)
narrow_more (u ∷ vs) v h k = (h.0, narrow_more vs v h.1 k)

narrow_width : (vs : List Var) → AreNarrow vs → (x : List ℕ) → var_width vs x ≤ widest
narrow_width [] h x = omega arith
narrow_width (v ∷ vs) h x = at (bytes_eq v.name x) h.0 (narrow_width vs h.1 x)
  where
    at : (b : Bool) → v.width ≤ widest → var_width vs x ≤ widest → (if b then v.width else var_width vs x) ≤ widest
    at true a c = a
    at false a c = c

-- a width that is found
among : (vs : List Var) → AreNarrow vs → (x : List ℕ) (w : ℕ) → width_among vs x ≡ Some w → w ≤ widest
among [] h x w e = absurd (none_some w e)
among (v ∷ vs) h x w e = at (bytes_eq v.name x) e h.0 (among vs h.1 x w)
  where
    same : (m n : ℕ) → Some m ≡ Some n → m ≡ n
    same m n i = cc

    at : (b : Bool) → (if b then Some v.width else width_among vs x) ≡ Some w → v.width ≤ widest → (width_among vs x ≡ Some w → w ≤ widest) → w ≤ widest
    at true i a c = subst (λ n. n ≤ widest) (same v.width w i) a
    at false i a c = c i

-- a variable that is found among narrow ones has at most widest bits
pub narrow_among : (vs : List Var) → are_narrow vs ≡ true → (x : List ℕ) (w : ℕ) → width_among vs x ≡ Some w → w ≤ widest
narrow_among vs e = among vs (each_narrow vs e)

-- MEMORIES

none_over : (p : Pipe) (before xs : List Place) → broken_line Z7 p before xs ≡ None → list_any breaks_z7 xs ≡ false
none_over p before [] e = refl
none_over p before (x ∷ xs) e =
    let parts = none_given (breaks_rule Z7 p before x) (line_of x) (broken_line Z7 p (before ++ x ∷ []) xs) e in
    ap (λ b. b || list_any breaks_z7 xs) parts.0 ∙ none_over p (before ++ x ∷ []) xs parts.1

wide_enough : (m : Mem) → breaks_z7 (Memory m) ≡ false → m.width.value ≤ widest
wide_enough m e = (width_is m.width.value (ap not (and_parts (is_width m.width.value) (is_depth m.depth.value) (not-false _ (or_parts _ _ e).0)).0)).1

mem_narrow : (ms : List Mem) (m : List ℕ) → list_any breaks_z7 (map Memory ms) ≡ false → mem_width ms m ≤ widest
mem_narrow [] m e = omega arith
mem_narrow (x ∷ xs) m e =
    let parts = or_parts (breaks_z7 (Memory x)) (list_any breaks_z7 (map Memory xs)) e in
    at (bytes_eq x.name.name m) (wide_enough x parts.0) (mem_narrow xs m parts.1)
  where
    at : (b : Bool) → x.width.value ≤ widest → mem_width xs m ≤ widest → (if b then x.width.value else mem_width xs m) ≤ widest
    at true a c = a
    at false a c = c

mems_narrow : (p : Pipe) → broken_line Z7 p [] (places p) ≡ None → (m : List ℕ) → mem_width p.mems m ≤ widest
mems_narrow p e m =
    let ps = map Parameter p.params in
    let ms = map Memory p.mems in
    let ss = statements [] p.body in
    let ends = End p.end ∷ StartClause p.start ∷ [] in
    let all = or_parts _ _ (sym (list_any-append breaks_z7 ((ps ++ ms) ++ ss) ends) ∙ none_over p [] (places p) e) in
    let front = or_parts _ _ (sym (list_any-append breaks_z7 (ps ++ ms) ss) ∙ all.0) in
    mem_narrow p.mems m (or_parts _ _ (sym (list_any-append breaks_z7 ps ms) ∙ front.0)).1

-- ONE PLACE

-- the variables after a place
record Next (p : Pipe) (vs : List Var) (before : List Place) (y : Place) : Type 0 where
  pub vars : List Var
  pub is : after_place p.mems vs y ≡ vars
  pub known : AreKnown p vars (before ++ y ∷ [])
  pub narrow : AreNarrow vars

same : (p : Pipe) (vs : List Var) (before : List Place) (y : Place)
    → variable_at y ≡ None → after_place p.mems vs y ≡ vs → AreKnown p vs before → AreNarrow vs → Next p vs before y
same p vs before y none e k h = record { vars = vs; is = e; known = known_same p vs before y none e k; narrow = h }

more : (p : Pipe) (vs : List Var) (before : List Place) (y : Place) (x : List ℕ) (w : ℕ) (advised : Bool)
    → variable_at y ≡ Some x → name_at y ≡ Some x → after_place p.mems vs y ≡ with_variable vs x w advised
    → breaks_n2 p before y ≡ false → w ≤ widest → AreKnown p vs before → AreNarrow vs → Next p vs before y
more p vs before y x w advised variable name after once l k h =
    let known = known_more p vs before y x w advised variable name after once k in
    record {
      vars = vs ++ record { name = x; width = w; advised = advised } ∷ [];
      is = sym (fold_push (after_place p.mems) [] before y ∙ ap (λ us. after_place p.mems us y) k.vars) ∙ known.vars;
      known = known;
      narrow = narrow_more vs (record { name = x; width = w; advised = advised }) h l;
    }

-- parameters are defined
abbrev AreThere : Pipe → List Place → Type 0
AreThere p before = (x : List ℕ) → is_parameter p x ≡ true → list_any (defines_use (OfVariable x)) before ≡ true

-- a variable that isn't used too early is known
knows : (p : Pipe) (vs : List Var) (before : List Place) (y : Place) → AreThere p before → AreKnown p vs before
    → (x : List ℕ) → is_too_early p before y (OfVariable x) ≡ false → IsTrue (is_named vs x)
knows p vs before y there k x e =
    ⊎_elim (λ b. k.named x (there x b)) (λ a. k.named x a) (either (is_parameter p x) (list_any (defines_use (OfVariable x)) before) _ e)
  where
    either : (b a c : Bool) → (not b && (not a || c)) ≡ false → (b ≡ true) ⊎ (a ≡ true)
    either true a c h = inl refl
    either false true c h = inr refl
    either false false c h = cc

bound : (p : Pipe) (vs : List Var) (before : List Place) (s : Span) (x : Ident) (e : Expr) (bs : List Branch) (ys : List Place)
    → places p ≡ before ++ Statement (Bind s x e) bs ∷ ys → KeepsWidths p before (Statement (Bind s x e) bs ∷ ys)
    → AreThere p before → AreKnown p vs before → AreNarrow vs → width_of vs e ≤ widest
bound p vs before s x e bs ys split k there known h =
    let y = Statement (Bind s x e) bs in
    expr_narrow vs (variables p) (is_too_early p before y) (knows p vs before y there known)
    (λ z n. (known_stay p vs before (y ∷ ys) split known z n).1) (narrow_width vs h) e
    (here N3 p before y ys k.n3) (or_parts _ _ (here W2 p before y ys k.w2)).1 (here Z7 p before y ys k.z7)

one_place : (p : Pipe) (before : List Place) (y : Place) (ys : List Place) (vs : List Var)
    → places p ≡ before ++ y ∷ ys → KeepsWidths p before (y ∷ ys) → ((m : List ℕ) → mem_width p.mems m ≤ widest)
    → AreThere p before → AreKnown p vs before → AreNarrow vs → Next p vs before y
one_place p before (Parameter a) ys vs split k ms there known h =
    more p vs before (Parameter a) a.name.name a.width.value false refl refl refl (here N2 p before (Parameter a) ys k.n2)
    (width_is a.width.value (here Z7 p before (Parameter a) ys k.z7)).1 known h
one_place p before (Memory m) ys vs split k ms there known h = same p vs before (Memory m) refl refl known h
one_place p before (Statement (CombRead s x at) bs) ys vs split k ms there known h =
    more p vs before (Statement (CombRead s x at) bs) x.name (mem_width p.mems at.mem.name) (is_advisory_mem p.mems at.mem.name) refl refl refl
    (here N2 p before (Statement (CombRead s x at) bs) ys k.n2)
    (ms at.mem.name) known h
one_place p before (Statement (DelayedRead s x at) bs) ys vs split k ms there known h =
    more p vs before (Statement (DelayedRead s x at) bs) x.name (mem_width p.mems at.mem.name) false refl refl refl
    (here N2 p before (Statement (DelayedRead s x at) bs) ys k.n2)
    (ms at.mem.name) known h
one_place p before (Statement (Bind s x e) bs) ys vs split k ms there known h =
    more p vs before (Statement (Bind s x e) bs) x.name (width_of vs e) (is_advised vs e) refl refl refl (here N2 p before (Statement (Bind s x e) bs) ys k.n2)
    (bound p vs before s x e bs ys split k there known h) known h
one_place p before (Statement (Separator s) bs) ys vs split k ms there known h = same p vs before _ refl refl known h
one_place p before (Statement (SpecCall s g args) bs) ys vs split k ms there known h = same p vs before _ refl refl known h
one_place p before (Statement (Write s at e) bs) ys vs split k ms there known h = same p vs before _ refl refl known h
one_place p before (Statement (Reserve s at kind) bs) ys vs split k ms there known h = same p vs before _ refl refl known h
one_place p before (Statement (Block s at) bs) ys vs split k ms there known h = same p vs before _ refl refl known h
one_place p before (Statement (Release s at) bs) ys vs split k ms there known h = same p vs before _ refl refl known h
one_place p before (Statement (If s c a b) bs) ys vs split k ms there known h = same p vs before _ refl refl known h
one_place p before (Statement (Call s args) bs) ys vs split k ms there known h = same p vs before _ refl refl known h
one_place p before (Statement (Verify s g args) bs) ys vs split k ms there known h = same p vs before _ refl refl known h
one_place p before (Statement (Update s g args) bs) ys vs split k ms there known h = same p vs before _ refl refl known h
one_place p before (Statement (SpecCheck s) bs) ys vs split k ms there known h = same p vs before _ refl refl known h
one_place p before (Statement (SpecBarrier s) bs) ys vs split k ms there known h = same p vs before _ refl refl known h
one_place p before (End s) ys vs split k ms there known h = same p vs before (End s) refl refl known h
one_place p before (StartClause s) ys vs split k ms there known h = same p vs before (StartClause s) refl refl known h

-- ALL PLACES

still_there : (p : Pipe) (before : List Place) (y : Place) → AreThere p before → AreThere p (before ++ y ∷ [])
still_there p before y h x e = list_any-append (defines_use (OfVariable x)) before (y ∷ []) ∙ or_left _ _ (h x e)

after_params : (p : Pipe) (xs before : List Place) (vs : List Var)
    → places p ≡ before ++ xs → KeepsWidths p before xs → ((m : List ℕ) → mem_width p.mems m ≤ widest) → AreThere p before
    → AreKnown p vs before → AreNarrow vs → AreNarrow (fold (after_place p.mems) vs xs)
after_params p [] before vs split k ms there known h = h
after_params p (y ∷ ys) before vs split k ms there known h =
    let n = one_place p before y ys vs split k ms there known h in
    subst (λ us. AreNarrow (fold (after_place p.mems) us ys)) (sym n.is)
    (after_params p ys (before ++ y ∷ []) n.vars (split ∙ sym (append_assoc before (y ∷ []) ys))
    (after p before y ys k) ms (still_there p before y there) n.known n.narrow)

-- parameters that are defined before, or are among those to come
abbrev WillBe : Pipe → List Place → List Param → Type 0
WillBe p before ps =
    (x : List ℕ) → is_parameter p x ≡ true → (list_any (defines_use (OfVariable x)) before || list_any (λ (a : Param). bytes_eq x a.name.name) ps) ≡ true

next_param : (p : Pipe) (before : List Place) (a : Param) (ps : List Param) → WillBe p before (a ∷ ps)
    → WillBe p (before ++ Parameter a ∷ []) ps
next_param p before a ps h x e =
    ap (λ b. b || list_any (λ (c : Param). bytes_eq x c.name.name) ps) (list_any-append (defines_use (OfVariable x)) before (Parameter a ∷ []))
    ∙ moved (list_any (defines_use (OfVariable x)) before) (bytes_eq x a.name.name) (list_any (λ (c : Param). bytes_eq x c.name.name) ps)
    ∙ h x e
  where
    moved : (u v w : Bool) → ((u || (v || false)) || w) ≡ (u || (v || w))
    moved true v w = refl
    moved false true w = refl
    moved false false w = refl

last_param : (p : Pipe) (before : List Place) → WillBe p before [] → AreThere p before
last_param p before h x e = always (list_any (defines_use (OfVariable x)) before) (h x e)
  where
    always : (b : Bool) → (b || false) ≡ true → b ≡ true
    always true i = refl
    always false i = i

from_params : (p : Pipe) (ps : List Param) (rest before : List Place) (vs : List Var)
    → places p ≡ before ++ (map Parameter ps ++ rest) → KeepsWidths p before (map Parameter ps ++ rest)
    → ((m : List ℕ) → mem_width p.mems m ≤ widest) → WillBe p before ps → AreKnown p vs before → AreNarrow vs
    → AreNarrow (fold (after_place p.mems) vs (map Parameter ps ++ rest))
from_params p [] rest before vs split k ms there known h = after_params p rest before vs split k ms (last_param p before there) known h
from_params p (a ∷ ps) rest before vs split k ms there known h =
    let y = Parameter a in
    let ys = map Parameter ps ++ rest in
    let n =
    more p vs before y a.name.name a.width.value false refl refl refl (here N2 p before y ys k.n2)
    (width_is a.width.value (here Z7 p before y ys k.z7)).1 known h in
    subst (λ us. AreNarrow (fold (after_place p.mems) us ys)) (sym n.is)
    (from_params p ps rest (before ++ y ∷ []) n.vars (split ∙ sym (append_assoc before (y ∷ []) ys))
    (after p before y ys k) ms (next_param p before a ps there) n.known n.narrow)

-- a pipe that keeps the rules that widths rest on has variables of at most widest bits
pub variables_narrow : (p : Pipe) → KeepsWidths p [] (places p) → are_narrow (variables p) ≡ true
variables_narrow p k =
    let ps = map Parameter p.params in
    let ms = map Memory p.mems in
    let ss = statements [] p.body in
    let ends = End p.end ∷ StartClause p.start ∷ [] in
    let rest = ms ++ (ss ++ ends) in
    let split : places p ≡ ps ++ rest = append_assoc (ps ++ ms) ss ends ∙ append_assoc ps ms (ss ++ ends) in
    all_narrow (variables p)
    (subst (λ xs. AreNarrow (fold (after_place p.mems) [] xs)) (sym split)
    (from_params p p.params rest [] [] split (subst (KeepsWidths p []) split k) (mems_narrow p k.z7) (λ x e. e) (none_known p) tt))
