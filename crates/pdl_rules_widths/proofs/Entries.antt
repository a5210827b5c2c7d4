-- The entries of a map as variables.
use Rattle.std.proofs.Common.{◌≡◌, ℕ, suc, ◌+◌, Bool, true, false, cond, List, [], ◌∷◌, ◌++◌, refl, ap, sym, ◌∙◌, Option, is_some, bytes_eq, nat_eq, ◌||◌, if◌then◌else◌, Some, None, option_map, arith, fold, take, slice_get}
use Rattle.std.specs.List.{list_any, position, position_from}
use Rattle.std.specs.Cmp.Lexicographic.{pointwise}
use Rattle.std.specs.Map.{lookup, keys_of}
use Rattle.std.proofs.lemmas.Iterator.Adapters.{position_from-zero}
use Rattle.std.proofs.lemmas.List.Sums.{fold_push}
use Rattle.indexmap.specs.IndexMap.{insert_entry}
use Rattle.pdl_semantics.specs.Flatten.{Var, var_width, is_advised_var}
use Rattle.pdl_semantics.specs.Tree.{Mem}
use Rattle.pdl_rules.specs.Places.{Place}
use Rattle.pdl_rules.specs.Widths.{with_variable, after_place}
use Rattle.pdl_rules_widths.specs.declared.variables.VariableType.{VariableType}
use Rattle.pdl_rules_widths.specs.Variables.{var_of, vars_of, width_among, number_among}
use Rattle.pdl_word.proofs.Bytes.{bytes_swap}
use Rattle.pdl_rules_on_paths.proofs.Nth.{take_next}

-- the entries of a map of variables
abbrev Entries : Type 0
Entries = List (List ℕ × VariableType)

-- a part of what is known of a variable, or this where nothing is known
abbrev part_or : {X : Type 0} → (VariableType → X) → X → Option VariableType → X
part_or part other None = other
part_or part other (Some t) = part t

part_step : {X : Type 0} (part : VariableType → X) (other : X) (a b : Bool) (t : VariableType) (o : Option VariableType) (n : X)
    → a ≡ b → part_or part other o ≡ n → part_or part other (cond a (Some t) o) ≡ if b then part t else n
part_step part other true true t o n h k = refl
part_step part other false false t o n h k = k
part_step part other true false t o n h k = cc
part_step part other false true t o n h k = cc

width-lookup : (es : Entries) (x : List ℕ) → part_or (λ (t : VariableType). t.width) 0 (lookup (pointwise nat_eq x) es) ≡ var_width (vars_of es) x
width-lookup [] x = refl
width-lookup (e ∷ es) x = part_step (λ (t : VariableType). t.width) 0 (bytes_eq x e.0) (bytes_eq e.0 x) e.1 _ _ (bytes_swap x e.0) (width-lookup es x)

advised-lookup : (es : Entries) (x : List ℕ) → part_or (λ (t : VariableType). t.advised) false (lookup (pointwise nat_eq x) es) ≡ is_advised_var (vars_of es) x
advised-lookup [] x = refl
advised-lookup (e ∷ es) x = part_step (λ (t : VariableType). t.advised) false (bytes_eq x e.0) (bytes_eq e.0 x) e.1 _ _ (bytes_swap x e.0) (advised-lookup es x)

-- what a look-up gives, as the width of the variable
pub width_found : (es : List (List ℕ × VariableType)) (vs : List Var) (x : List ℕ) (o : Option VariableType)
    → o ≡ lookup (pointwise nat_eq x) es → vars_of es ≡ vs → part_or (λ (t : VariableType). t.width) 0 o ≡ var_width vs x
width_found es vs x o h k = ap (part_or (λ (t : VariableType). t.width) 0) h ∙ width-lookup es x ∙ ap (λ us. var_width us x) k

-- what a look-up gives, as whether the variable is advised
pub advised_found : (es : List (List ℕ × VariableType)) (vs : List Var) (x : List ℕ) (o : Option VariableType)
    → o ≡ lookup (pointwise nat_eq x) es → vars_of es ≡ vs → part_or (λ (t : VariableType). t.advised) false o ≡ is_advised_var vs x
advised_found es vs x o h k = ap (part_or (λ (t : VariableType). t.advised) false) h ∙ advised-lookup es x ∙ ap (λ us. is_advised_var us x) k

any_step : (a : Bool) (w : VariableType) (o : Option VariableType) (b : Bool) → b ≡ is_some o → (a || b) ≡ is_some (cond a (Some w) o)
any_step true w o b h = refl
any_step false w o b h = h

any-lookup : (es : Entries) (x : List ℕ)
    → list_any (λ (v : Var). bytes_eq x v.name) (vars_of es) ≡ is_some (lookup (pointwise nat_eq x) es)
any-lookup [] x = refl
any-lookup (e ∷ es) x = any_step (bytes_eq x e.0) e.1 _ _ (any-lookup es x)

insert_step : (a : Bool) (x : List ℕ) (w : VariableType) (e : List ℕ × VariableType) (es fs : Entries) (o : Option VariableType)
    → is_some (cond a (Some e.1) o) ≡ false
    → (is_some o ≡ false → vars_of fs ≡ vars_of es ++ var_of (x, w) ∷ [])
    → vars_of (if a then (e.0, w) ∷ es else e ∷ fs) ≡ var_of e ∷ (vars_of es ++ var_of (x, w) ∷ [])
insert_step true x w e es fs o h k = cc
insert_step false x w e es fs o h k = ap (λ vs. var_of e ∷ vs) (k h)

vars_of-insert : (es : Entries) (x : List ℕ) (w : VariableType) → is_some (lookup (pointwise nat_eq x) es) ≡ false
    → vars_of (insert_entry (pointwise nat_eq) es x w) ≡ vars_of es ++ var_of (x, w) ∷ []
vars_of-insert [] x w h = refl
vars_of-insert (e ∷ es) x w h = insert_step (bytes_eq x e.0) x w e es _ _ h (λ k. vars_of-insert es x w k)

-- a variable that is there already
pub with_variable-there : (es : List (List ℕ × VariableType)) (vs : List Var) (x : List ℕ) (w : ℕ) (advised : Bool) (o : Option VariableType)
    → o ≡ lookup (pointwise nat_eq x) es → vars_of es ≡ vs → is_some o ≡ true → vs ≡ with_variable vs x w advised
with_variable-there es vs x w advised o h k s =
    let known = ap (λ us. list_any (λ (v : Var). bytes_eq x v.name) us) (sym k) ∙ any-lookup es x ∙ ap is_some (sym h) ∙ s in
    sym (ap (λ b. if b then vs else vs ++ record { name = x; width = w; advised = advised } ∷ []) known)

-- a new entry stands for a new variable
pub with_variable-new : (es fs : List (List ℕ × VariableType)) (vs : List Var) (x : List ℕ) (w : VariableType) (o : Option VariableType)
    → o ≡ lookup (pointwise nat_eq x) es → vars_of es ≡ vs → is_some o ≡ false
    → fs ≡ insert_entry (pointwise nat_eq) es x w → vars_of fs ≡ with_variable vs x w.width w.advised
with_variable-new es fs vs x w o h k s i =
    let missing = ap is_some (sym h) ∙ s in
    let unknown = ap (λ us. list_any (λ (v : Var). bytes_eq x v.name) us) (sym k) ∙ any-lookup es x ∙ missing in
    ap vars_of i ∙ vars_of-insert es x w missing ∙ ap (λ us. us ++ var_of (x, w) ∷ []) k
    ∙ sym (ap (λ b. if b then vs else vs ++ var_of (x, w) ∷ []) unknown)

-- the variables with those of one place more
pub variables_next : (ms : List Mem) (xs : List Place) (k : ℕ) (y : Place) (vs ws : List Var)
    → slice_get xs k ≡ Some y → ws ≡ after_place ms vs y → vs ≡ fold (after_place ms) [] (take k xs)
    → ws ≡ fold (after_place ms) [] (take (k + 1) xs)
variables_next ms xs k y vs ws got made h =
    made ∙ ap (λ us. after_place ms us y) h ∙ sym (fold_push (after_place ms) [] (take k xs) y) ∙ ap (fold (after_place ms) []) (take_next xs k y got)

-- the width of what is known, if anything is
abbrev width_in : Option VariableType → Option ℕ
width_in None = None
width_in (Some t) = Some t.width

among_step : (a b : Bool) (t : VariableType) (o : Option VariableType) (p : Option ℕ)
    → a ≡ b → width_in o ≡ p → width_in (cond a (Some t) o) ≡ if b then Some t.width else p
among_step true true t o p h k = refl
among_step false false t o p h k = k
among_step true false t o p h k = cc
among_step false true t o p h k = cc

among-lookup : (es : Entries) (x : List ℕ) → width_in (lookup (pointwise nat_eq x) es) ≡ width_among (vars_of es) x
among-lookup [] x = refl
among-lookup (e ∷ es) x = among_step (bytes_eq x e.0) (bytes_eq e.0 x) e.1 _ _ (bytes_swap x e.0) (among-lookup es x)

-- the width that a look-up gives is that of the first variable of the name
pub found_among : (es : List (List ℕ × VariableType)) (vs : List Var) (x : List ℕ) (o : Option VariableType)
    → o ≡ lookup (pointwise nat_eq x) es → vars_of es ≡ vs → width_in o ≡ width_among vs x
found_among es vs x o h k = ap width_in h ∙ among-lookup es x ∙ ap (λ us. width_among us x) k

next_step : (b : Bool) (i : ℕ) (o p : Option ℕ) → o ≡ option_map suc p → cond b (Some (suc i)) o ≡ option_map suc (cond b (Some i) p)
next_step true i o p h = refl
next_step false i o p h = h

from_next : (test : List ℕ → Bool) (i : ℕ) (ks : List (List ℕ)) → position_from test (suc i) ks ≡ option_map suc (position_from test i ks)
from_next test i [] = refl
from_next test i (k ∷ ks) =
    let next : suc i + 1 ≡ suc (i + 1) = omega arith in
    next_step (test k) i _ _ (ap (λ n. position_from test n ks) next ∙ from_next test (i + 1) ks)

number_step : (a b : Bool) (o p : Option ℕ) → a ≡ b → o ≡ option_map suc p → cond a (Some 0) o ≡ if b then Some 0 else option_map suc p
number_step true true o p h k = refl
number_step false false o p h k = k
number_step true false o p h k = cc
number_step false true o p h k = cc

number-position : (es : Entries) (x : List ℕ) → position_from (bytes_eq x) 0 (keys_of es) ≡ number_among (vars_of es) x
number-position [] x = refl
number-position (e ∷ es) x =
    number_step (bytes_eq x e.0) (bytes_eq e.0 x) _ _ (bytes_swap x e.0) (from_next (bytes_eq x) 0 (keys_of es) ∙ ap (option_map suc) (number-position es x))

-- the position of a name among the keys of the entries is the number of the first variable of that name
pub number_found : (es : List (List ℕ × VariableType)) (vs : List Var) (x : List ℕ) (o : Option ℕ)
    → o ≡ position (pointwise nat_eq x) (keys_of es) → vars_of es ≡ vs → o ≡ number_among vs x
number_found es vs x o h k =
    h ∙ position_from-zero (bytes_eq x) (keys_of es) ∙ number-position es x ∙ ap (λ us. number_among us x) k
