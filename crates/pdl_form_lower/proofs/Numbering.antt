-- Variables, and the numbers that the table of all variables has of them.
use Rattle.std.proofs.Common.{◌≡◌, ◌≢◌, ℕ, zero, suc, ◌≤◌, ◌<◌, Bool, true, false, if◌then◌else◌, ◌||◌, List, [], ◌∷◌, ◌++◌, length, map, get_or, set, replicate, slice_get, Option, Some, None, unwrap_or, is_some, refl, ap, sym, ◌∙◌, subst, arith, bytes_eq, option_map}
use Rattle.std.specs.Prelude.{IsTrue}
use Rattle.std.proofs.lemmas.Option.{get_or_from_slice_get, slice_get_within}
use Rattle.pdl_semantics.specs.Flatten.{Var, var_of, var_width, is_advised_var}
use Rattle.pdl_rules.specs.Typed.{is_named}
use Rattle.pdl_rules_widths.specs.Variables.{number_among}
use Rattle.pdl_form_lower.specs.declared.vars.NumberedVariable.{NumberedVariable}
use Rattle.pdl_form_lower.specs.Variables.{Scope, name_in, name_at, vars_of, var_view, number_or, with_number, AreNumbered}
use Rattle.pdl_word.proofs.Bytes.{bytes_same, bytes_refl}
use Rattle.pdl_word.specs.Words.{widest}

-- ONE LOOK-UP

number_step : (b : Bool) (o : Option ℕ) (n k : ℕ)
    → unwrap_or o n ≡ k → unwrap_or (if b then Some 0 else option_map suc o) (suc n) ≡ (if b then 0 else suc k)
number_step true o n k h = refl
number_step false None n k h = ap suc h
number_step false (Some m) n k h = ap suc h

-- the number of a name is that of the first variable that has it, or their count
pub number_found : (vs : List Var) (x : List ℕ) → unwrap_or (number_among vs x) (length vs) ≡ var_of vs x
number_found [] x = refl
number_found (v ∷ vs) x = number_step (bytes_eq v.name x) (number_among vs x) (length vs) (var_of vs x) (number_found vs x)

below_step : (b : Bool) (o : Option ℕ) (n l : ℕ)
    → ((m : ℕ) → o ≡ Some m → m < l) → (if b then Some 0 else option_map suc o) ≡ Some n → n < suc l
below_step true o n l ih h = let e : 0 ≡ n = cc in omega arith
below_step false None n l ih h = cc
below_step false (Some m) n l ih h = let e : suc m ≡ n = cc in omega (arith, ih m refl)

-- the number of a variable's name is below the count of variables
number_below : (vs : List Var) (x : List ℕ) (n : ℕ) → number_among vs x ≡ Some n → n < length vs
number_below [] x n h = cc
number_below (v ∷ vs) x n h = below_step (bytes_eq v.name x) (number_among vs x) n (length vs) (λ m e. number_below vs x m e) h

name_step : (b : Bool) (o : Option ℕ) (k : ℕ) (u : Var) (us : List Var) (x : List ℕ) → (b ≡ true → u.name ≡ x)
    → ((m : ℕ) → o ≡ Some m → name_in us m ≡ x) → (if b then Some 0 else option_map suc o) ≡ Some k → name_in (u ∷ us) k ≡ x
name_step true o k u us x here ih h = let e : 0 ≡ k = cc in subst (λ m. name_in (u ∷ us) m ≡ x) e (here refl)
name_step false None k u us x here ih h = cc
name_step false (Some m) k u us x here ih h = let e : suc m ≡ k = cc in subst (λ m. name_in (u ∷ us) m ≡ x) e (ih m refl)

-- the variable at the place of a name has it
name_found : (us : List Var) (x : List ℕ) (k : ℕ) → number_among us x ≡ Some k → name_in us k ≡ x
name_found [] x k h = cc
name_found (u ∷ us) x k h = name_step (bytes_eq u.name x) (number_among us x) k u us x (bytes_same u.name x) (λ m e. name_found us x m e) h

missing_step : (b c : Bool) (o : Option ℕ) → (o ≡ None → c ≡ false) → (if b then Some 0 else option_map suc o) ≡ None → (b || c) ≡ false
missing_step true c o ih h = cc
missing_step false c None ih h = ih refl
missing_step false c (Some m) ih h = cc

-- a name that has no place is that of no variable
pub name_missing : (us : List Var) (x : List ℕ) → number_among us x ≡ None → is_named us x ≡ false
name_missing [] x h = refl
name_missing (u ∷ us) x h = missing_step (bytes_eq u.name x) (is_named us x) (number_among us x) (λ e. name_missing us x e) h

-- the name of a variable of the table has a place
pub some_place : (us : List Var) (x : List ℕ) → IsTrue (is_named us x) → number_among us x ≢ None
some_place us x t e = let f : is_named us x ≡ false = name_missing us x e in cc

-- the place of a name is one of those that have numbers, or none yet
pub place_within : (us : List Var) (ns : List (Option ℕ)) (vs : List Var) (x : List ℕ) (k : ℕ) → AreNumbered us ns vs
    → number_among us x ≡ Some k → k < length ns
place_within us ns vs x k a h = slice_get_within ns k (number_among vs x) (a.numbers x k h)

-- WIDTHS

width_step : (b : Bool) (o : Option ℕ) (n w : ℕ) (v : NumberedVariable) (vs : List NumberedVariable) (d : NumberedVariable)
    → ((m : ℕ) → o ≡ Some m → (get_or vs m d).width ≡ w) → (if b then Some 0 else option_map suc o) ≡ Some n
    → (get_or (v ∷ vs) n d).width ≡ (if b then v.width else w)
width_step true o n w v vs d ih h = let e : 0 ≡ n = cc in subst (λ k. (get_or (v ∷ vs) k d).width ≡ v.width) e refl
width_step false None n w v vs d ih h = cc
width_step false (Some m) n w v vs d ih h = let e : suc m ≡ n = cc in subst (λ k. (get_or (v ∷ vs) k d).width ≡ w) e (ih m refl)

-- the variable of a name's number has the width that the name has
pub width_found : (us : List Var) (vs : List NumberedVariable) (x : List ℕ) (n : ℕ) (d : NumberedVariable)
    → number_among (vars_of us vs) x ≡ Some n → (get_or vs n d).width ≡ var_width (vars_of us vs) x
width_found us [] x n d h = cc
width_found us (v ∷ vs) x n d h =
    width_step (bytes_eq (name_at us v.place) x) (number_among (vars_of us vs) x) n (var_width (vars_of us vs) x) v vs d
    (λ m e. width_found us vs x m d e) h

advised_step : (b : Bool) (o : Option ℕ) (n : ℕ) (w : Bool) (v : NumberedVariable) (vs : List NumberedVariable) (d : NumberedVariable)
    → ((m : ℕ) → o ≡ Some m → (get_or vs m d).advised ≡ w) → (if b then Some 0 else option_map suc o) ≡ Some n
    → (get_or (v ∷ vs) n d).advised ≡ (if b then v.advised else w)
advised_step true o n w v vs d ih h = let e : 0 ≡ n = cc in subst (λ k. (get_or (v ∷ vs) k d).advised ≡ v.advised) e refl
advised_step false None n w v vs d ih h = cc
advised_step false (Some m) n w v vs d ih h = let e : suc m ≡ n = cc in subst (λ k. (get_or (v ∷ vs) k d).advised ≡ w) e (ih m refl)

-- the variable of a name's number is advised exactly if the name is
pub advised_found : (us : List Var) (vs : List NumberedVariable) (x : List ℕ) (n : ℕ) (d : NumberedVariable)
    → number_among (vars_of us vs) x ≡ Some n → (get_or vs n d).advised ≡ is_advised_var (vars_of us vs) x
advised_found us [] x n d h = cc
advised_found us (v ∷ vs) x n d h =
    advised_step (bytes_eq (name_at us v.place) x) (number_among (vars_of us vs) x) n (is_advised_var (vars_of us vs) x) v vs d
    (λ m e. advised_found us vs x m d e) h

unadvised_step : (b : Bool) (o : Option ℕ) (v w : Bool)
    → (o ≡ None → w ≡ false) → (if b then Some 0 else option_map suc o) ≡ None → (if b then v else w) ≡ false
unadvised_step true o v w ih h = cc
unadvised_step false None v w ih h = ih refl
unadvised_step false (Some m) v w ih h = cc

-- a name that no variable has isn't advised
pub advised_missing : (vs : List Var) (x : List ℕ) → number_among vs x ≡ None → is_advised_var vs x ≡ false
advised_missing [] x h = refl
advised_missing (v ∷ vs) x h =
    unadvised_step (bytes_eq v.name x) (number_among vs x) v.advised (is_advised_var vs x) (λ e. advised_missing vs x e) h

none_step : (b : Bool) (o : Option ℕ) (v w : ℕ)
    → (o ≡ None → w ≡ 0) → (if b then Some 0 else option_map suc o) ≡ None → (if b then v else w) ≡ 0
none_step true o v w ih h = cc
none_step false None v w ih h = ih refl
none_step false (Some m) v w ih h = cc

-- a name that no variable has has the width 0
pub width_missing : (vs : List Var) (x : List ℕ) → number_among vs x ≡ None → var_width vs x ≡ 0
width_missing [] x h = refl
width_missing (v ∷ vs) x h = none_step (bytes_eq v.name x) (number_among vs x) v.width (var_width vs x) (λ e. width_missing vs x e) h

-- the variables of the program have the widths of those that they stand for
pub widths_seen : (us : List Var) (vs : List NumberedVariable)
    → map (λ (v : NumberedVariable). v.width) vs ≡ map (λ (v : Var). v.width) (vars_of us vs)
widths_seen us [] = refl
widths_seen us (v ∷ vs) = ap (λ ws. v.width ∷ ws) (widths_seen us vs)

-- the program has as many variables as they stand for
pub length_vars : (us : List Var) (vs : List NumberedVariable) → length (vars_of us vs) ≡ length vs
length_vars us [] = refl
length_vars us (v ∷ vs) = ap suc (length_vars us vs)

-- the number of a name is below the count of the program's variables
pub number_within : (us : List Var) (vs : List NumberedVariable) (x : List ℕ) (n : ℕ) → number_among (vars_of us vs) x ≡ Some n → n < length vs
number_within us vs x n h = omega (arith, number_below (vars_of us vs) x n h, length_vars us vs)

-- what stands at the place of a name is its number
pub number_read : (us : List Var) (ns : List (Option ℕ)) (vs ws : List Var) (x : List ℕ) (k : ℕ) (r : Option ℕ) → AreNumbered us ns vs
    → number_among us x ≡ Some k → r ≡ get_or ns k r → vs ≡ ws → r ≡ number_among ws x
number_read us ns vs ws x k r a h e g = e ∙ get_or_from_slice_get ns k (number_among vs x) r (a.numbers x k h) ∙ ap (λ us. number_among us x) g

-- THE FIRST NUMBERS

get_replicate : (us : List Var) (k : ℕ) → k < length us → let ns : List (Option ℕ) = replicate (length us) None in slice_get ns k ≡ Some None
get_replicate [] k h = absurd (omega (arith, h))
get_replicate (u ∷ us) zero h = refl
get_replicate (u ∷ us) (suc k) h = get_replicate us k (omega (arith, h))

-- where no variable is defined, none has a number
pub none_numbered : (us : List Var) (ns : List (Option ℕ)) (vs : List NumberedVariable) (count : ℕ)
    → ns ≡ replicate count None → count ≡ length us → vs ≡ [] → AreNumbered us ns (vars_of us vs)
none_numbered us ns vs count e long none =
    subst (λ ws. AreNumbered us ns (vars_of us ws)) (sym none)
    (record {
      numbers = λ x k h. ap (λ os. slice_get os k) (e ∙ ap (λ n. replicate n None) long) ∙ get_replicate us k (number_below us x k h);
      small = λ x. omega arith;
    })

-- ONE NUMBER MORE

-- a place without number gets this one
pub number_set : (ns : List (Option ℕ)) (k n : ℕ) (d : Option ℕ) → k < length ns → is_some (get_or ns k d) ≡ false → set ns k (Some n) ≡ with_number ns k n
number_set [] k n d h e = absurd (omega (arith, h))
number_set (None ∷ ns) zero n d h e = refl
number_set (Some m ∷ ns) zero n d h e = cc
number_set (o ∷ ns) (suc k) n d h e = ap (λ os. o ∷ os) (number_set ns k n d (omega (arith, h)) e)

-- a place with a number keeps it
pub number_kept : (ns : List (Option ℕ)) (k n : ℕ) (d : Option ℕ) → k < length ns → is_some (get_or ns k d) ≡ true → ns ≡ with_number ns k n
number_kept [] k n d h e = absurd (omega (arith, h))
number_kept (None ∷ ns) zero n d h e = cc
number_kept (Some m ∷ ns) zero n d h e = refl
number_kept (o ∷ ns) (suc k) n d h e = ap (λ os. o ∷ os) (number_kept ns k n d (omega (arith, h)) e)

number_here : (ns : List (Option ℕ)) (k n : ℕ) (o : Option ℕ) → slice_get ns k ≡ Some o → slice_get (with_number ns k n) k ≡ Some (number_or o n)
number_here [] k n o h = cc
number_here (m ∷ ns) zero n o h = let e : m ≡ o = cc in ap (λ p. Some (number_or p n)) e
number_here (m ∷ ns) (suc k) n o h = number_here ns k n o h

number_there : (ns : List (Option ℕ)) (k j n : ℕ) → j ≢ k → slice_get (with_number ns k n) j ≡ slice_get ns j
number_there [] k j n d = refl
number_there (o ∷ ns) zero zero n d = absurd (d refl)
number_there (o ∷ ns) zero (suc j) n d = refl
number_there (o ∷ ns) (suc k) zero n d = refl
number_there (o ∷ ns) (suc k) (suc j) n d = number_there ns k j n (λ e. d (ap suc e))

-- ONE VARIABLE MORE

small_step : (b : Bool) (w a c : ℕ) → (a ≤ widest → c ≤ widest) → (if b then w else a) ≤ widest → (if b then w else c) ≤ widest
small_step true w a c ih h = h
small_step false w a c ih h = ih h

small_end : (b : Bool) (w : ℕ) → w ≤ widest → (if b then w else 0) ≤ widest
small_end true w h = h
small_end false w h = omega arith

small_push : (vs : List Var) (v : Var) (x : List ℕ) → v.width ≤ widest → var_width vs x ≤ widest → var_width (vs ++ v ∷ []) x ≤ widest
small_push [] v x w h = small_end (bytes_eq v.name x) v.width w
small_push (u ∷ vs) v x w h = small_step (bytes_eq u.name x) u.width (var_width vs x) (var_width (vs ++ v ∷ []) x) (λ k. small_push vs v x w k) h

new_step : (b : Bool) (o p : Option ℕ) (n : ℕ) → p ≡ number_or o n
    → (if b then Some 0 else option_map suc p) ≡ number_or (if b then Some 0 else option_map suc o) (suc n)
new_step true o p n h = refl
new_step false None p n h = ap (option_map suc) h
new_step false (Some m) p n h = ap (option_map suc) h

-- with a variable more, its name has the number that it had, or the last
number_new : (vs : List Var) (v : Var) → number_among (vs ++ v ∷ []) v.name ≡ number_or (number_among vs v.name) (length vs)
number_new [] v = ap (λ b. if b then Some 0 else None) (bytes_refl v.name)
number_new (u ∷ vs) v = new_step (bytes_eq u.name v.name) (number_among vs v.name) (number_among (vs ++ v ∷ []) v.name) (length vs) (number_new vs v)

-- with a variable more, another name has the number that it had
number_old : (vs : List Var) (v : Var) (x : List ℕ) → bytes_eq v.name x ≡ false → number_among (vs ++ v ∷ []) x ≡ number_among vs x
number_old [] v x h = ap (λ b. if b then Some 0 else None) h
number_old (u ∷ vs) v x h = ap (λ o. if bytes_eq u.name x then Some 0 else option_map suc o) (number_old vs v x h)

-- two different names have different places
places_differ : (us : List Var) (x y : List ℕ) (j k : ℕ)
    → bytes_eq x y ≡ false → number_among us x ≡ Some k → number_among us y ≡ Some j → j ≢ k
places_differ us x y j k d h i e =
    let same : x ≡ y = sym (name_found us x k h) ∙ ap (name_in us) (sym e) ∙ name_found us y j i in
    let b : bytes_eq x y ≡ true = subst (λ z. bytes_eq x z ≡ true) same (bytes_refl x) in
    cc

-- with a variable of the table more, its place has its number
numbered_known : (us : List Var) (ns : List (Option ℕ)) (vs : List Var) (v : Var) (k : ℕ) → AreNumbered us ns vs → v.width ≤ widest
    → number_among us v.name ≡ Some k → AreNumbered us (with_number ns k (length vs)) (vs ++ v ∷ [])
numbered_known us ns vs v k h small at' =
    record {
      numbers = λ x j i. by x j i (bytes_eq v.name x) refl;
      small = λ x. small_push vs v x small (h.small x);
    }
  where
    by : (x : List ℕ) (j : ℕ) → number_among us x ≡ Some j → (b : Bool) → bytes_eq v.name x ≡ b
        → slice_get (with_number ns k (length vs)) j ≡ Some (number_among (vs ++ v ∷ []) x)
    by x j i true e =
        let same = bytes_same v.name x e in
        let here = number_here ns k (length vs) (number_among vs v.name) (h.numbers v.name k at') in
        let new = number_new vs v in
        cc
    by x j i false e =
        number_there ns k j (length vs) (places_differ us v.name x j k e at' i)
        ∙ h.numbers x j i
        ∙ ap Some (sym (number_old vs v x e))

-- with a variable more that isn't in the table, the numbers stay right
numbered_unknown : (us : List Var) (ns : List (Option ℕ)) (vs : List Var) (v : Var) → AreNumbered us ns vs → v.width ≤ widest
    → number_among us v.name ≡ None → AreNumbered us ns (vs ++ v ∷ [])
numbered_unknown us ns vs v h small at' =
    record {
      numbers = λ x j i. by x j i (bytes_eq v.name x) refl;
      small = λ x. small_push vs v x small (h.small x);
    }
  where
    by : (x : List ℕ) (j : ℕ) → number_among us x ≡ Some j → (b : Bool) → bytes_eq v.name x ≡ b
        → slice_get ns j ≡ Some (number_among (vs ++ v ∷ []) x)
    by x j i true e = let same : v.name ≡ x = bytes_same v.name x e in cc
    by x j i false e = h.numbers x j i ∙ ap Some (sym (number_old vs v x e))

vars_push : (us : List Var) (vs : List NumberedVariable) (v : NumberedVariable) → vars_of us (vs ++ v ∷ []) ≡ vars_of us vs ++ var_view us v ∷ []
vars_push us [] v = refl
vars_push us (u ∷ vs) v = ap (λ ws. var_view us u ∷ ws) (vars_push us vs v)

unnamed_step : (b c : Bool) → IsTrue (b || c) → c ≡ false → b ≡ true
unnamed_step true c h e = refl
unnamed_step false c h e = let t : c ≡ true = h in cc

-- the place of a variable of the table, or of one without name, tells its name
name_placed : (us vs : List Var) (s : Scope) (x : List ℕ) (o : Option ℕ) → record { table = us; vars = vs } ≡ s → o ≡ number_among us x
    → IsTrue (bytes_eq x [] || is_named s.table x) → name_at us o ≡ x
name_placed us vs s x None v e h =
    let known : IsTrue (bytes_eq x [] || is_named us x) = subst (λ (z : Scope). IsTrue (bytes_eq x [] || is_named z.table x)) (sym v) h in
    sym (bytes_same x [] (unnamed_step (bytes_eq x []) (is_named us x) known (name_missing us x (sym e))))
name_placed us vs s x (Some k) v e h = name_found us x k (sym e)

more : (us : List Var) (vs ws : List NumberedVariable) (s : Scope) (x : List ℕ) (w : ℕ) (b : Bool) (o : Option ℕ)
    → record { table = us; vars = vars_of us vs } ≡ s → o ≡ number_among us x
    → IsTrue (bytes_eq x [] || is_named s.table x) → ws ≡ vs ++ record { place = o; width = w; advised = b } ∷ []
    → vars_of us ws ≡ vars_of us vs ++ record { name = x; width = w; advised = b } ∷ []
more us vs ws s x w b o v e h g =
    ap (vars_of us) g ∙ vars_push us vs (record { place = o; width = w; advised = b })
    ∙ ap (λ n. vars_of us vs ++ record { name = n; width = w; advised = b } ∷ []) (name_placed us (vars_of us vs) s x o v e h)

-- with a variable more, the variables stand for those before and it
pub vars_more : (us : List Var) (vs ws : List NumberedVariable) (s : Scope) (x : List ℕ) (w : ℕ) (b : Bool) (o : Option ℕ)
    → record { table = us; vars = vars_of us vs } ≡ s → o ≡ number_among us x
    → IsTrue (bytes_eq x [] || is_named s.table x) → ws ≡ vs ++ record { place = o; width = w; advised = b } ∷ []
    → vars_of us ws ≡ s.vars ++ record { name = x; width = w; advised = b } ∷ []
vars_more us vs ws s x w b o v e h g = more us vs ws s x w b o v e h g ∙ ap (λ (z : Scope). z.vars ++ record { name = x; width = w; advised = b } ∷ []) v

-- with a variable of the table more, the numbers are right
pub more_known : (us : List Var) (ns os : List (Option ℕ)) (vs ws : List NumberedVariable) (s : Scope) (x : List ℕ) (w k n : ℕ) (b : Bool) (o : Option ℕ)
    → record { table = us; vars = vars_of us vs } ≡ s → o ≡ number_among us x → IsTrue (bytes_eq x [] || is_named s.table x)
    → ws ≡ vs ++ record { place = o; width = w; advised = b } ∷ [] → AreNumbered us ns (vars_of us vs) → w ≤ widest
    → o ≡ Some k → n ≡ length vs → os ≡ with_number ns k n → AreNumbered us os (vars_of us ws)
more_known us ns os vs ws s x w k n b o v e h g a small at' long i =
    subst (AreNumbered us os) (sym (more us vs ws s x w b o v e h g))
    (subst (λ ms. AreNumbered us ms (vars_of us vs ++ record { name = x; width = w; advised = b } ∷ []))
    (sym (i ∙ ap (with_number ns k) (long ∙ sym (length_vars us vs))))
    (numbered_known us ns (vars_of us vs) (record { name = x; width = w; advised = b }) k a small (sym e ∙ at')))

-- with a guard more, the numbers stay right
pub more_unknown : (us : List Var) (ns : List (Option ℕ)) (vs ws : List NumberedVariable) (s : Scope) (x : List ℕ) (w : ℕ) (b : Bool) (o : Option ℕ)
    → record { table = us; vars = vars_of us vs } ≡ s → o ≡ number_among us x → IsTrue (bytes_eq x [] || is_named s.table x)
    → ws ≡ vs ++ record { place = o; width = w; advised = b } ∷ [] → AreNumbered us ns (vars_of us vs) → w ≤ widest
    → o ≡ None → AreNumbered us ns (vars_of us ws)
more_unknown us ns vs ws s x w b o v e h g a small at' =
    subst (AreNumbered us ns) (sym (more us vs ws s x w b o v e h g))
    (numbered_unknown us ns (vars_of us vs) (record { name = x; width = w; advised = b }) a small (sym e ∙ at'))
