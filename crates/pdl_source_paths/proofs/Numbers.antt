-- Names that stand in a list have numbers: equal where the names are.
use Rattle.std.proofs.Common.{◌≡◌, refl, sym, ap, ◌∙◌, ℕ, suc, ◌<◌, Bool, true, false, ◌||◌, List, [], ◌∷◌, ◌++◌, length, cond, if◌then◌else◌, bytes_eq, ◌==◌, arith, subst, eq-eqb}
use Rattle.std.proofs.lemmas.Bool.{false≢true, ne_eqb, both_ways}
use Rattle.std.specs.List.{list_any}
use Rattle.pdl_semantics.specs.Tree.{Mem}
use Rattle.pdl_semantics.specs.Flatten.{Var, var_of, mem_of}
use Rattle.pdl_rules.specs.Typed.{is_named, is_memory}
use Rattle.pdl_word.proofs.Bytes.{bytes_same, bytes_refl}
use Rattle.pdl_source_stages.proofs.Walks.{told, told_append}

-- the number of the first of these names that is this one
abbrev pub place_of : List (List ℕ) → List ℕ → ℕ
place_of [] x = 0
place_of (y ∷ ys) x = if bytes_eq y x then 0 else suc (place_of ys x)

-- the name is among these names
abbrev pub is_in : List (List ℕ) → List ℕ → Bool
is_in ys x = list_any (λ y. bytes_eq y x) ys

-- the number of a name that is among these is below their count
pub in_low : (ys : List (List ℕ)) (x : List ℕ) → is_in ys x ≡ true → place_of ys x < length ys
in_low [] x h = absurd (false≢true h)
in_low (y ∷ ys) x h = at (bytes_eq y x) h (in_low ys x)
  where
    at : (b : Bool) → (b || is_in ys x) ≡ true → (is_in ys x ≡ true → place_of ys x < length ys) → cond b 0 (suc (place_of ys x)) < suc (length ys)
    at true e k = omega arith
    at false e k = let i : place_of ys x < length ys = k e in omega arith

-- names of one number are equal
pub in_same : (ys : List (List ℕ)) (a b : List ℕ) → is_in ys a ≡ true → is_in ys b ≡ true → place_of ys a ≡ place_of ys b → a ≡ b
in_same [] a b h k e = absurd (false≢true h)
in_same (y ∷ ys) a b h k e = at (bytes_eq y a) refl (bytes_eq y b) refl h k e (in_same ys a b)
  where
    at : (c : Bool) → bytes_eq y a ≡ c → (d : Bool) → bytes_eq y b ≡ d → (c || is_in ys a) ≡ true
        → (d || is_in ys b) ≡ true → cond c 0 (suc (place_of ys a)) ≡ cond d 0 (suc (place_of ys b))
        → (is_in ys a ≡ true → is_in ys b ≡ true → place_of ys a ≡ place_of ys b → a ≡ b) → a ≡ b
    at true e true f h k g rest = sym (bytes_same y a e) ∙ bytes_same y b f
    at true e false f h k g rest = absurd (let i : 0 ≡ suc (place_of ys b) = g in omega arith)
    at false e true f h k g rest = absurd (let i : suc (place_of ys a) ≡ 0 = g in omega arith)
    at false e false f h k g rest = rest h k (let i : suc (place_of ys a) ≡ suc (place_of ys b) = g in omega arith)

-- a number stays where names are added after
pub in_stays : (ys zs : List (List ℕ)) (x : List ℕ) → is_in ys x ≡ true → place_of (ys ++ zs) x ≡ place_of ys x
in_stays [] zs x h = absurd (false≢true h)
in_stays (y ∷ ys) zs x h = at (bytes_eq y x) h (in_stays ys zs x)
  where
    at : (b : Bool) → (b || is_in ys x) ≡ true → (is_in ys x ≡ true → place_of (ys ++ zs) x ≡ place_of ys x)
        → cond b 0 (suc (place_of (ys ++ zs) x)) ≡ cond b 0 (suc (place_of ys x))
    at true e k = refl
    at false e k = ap suc (k e)

-- VARIABLES AND MEMORIES

-- the names of the memories, in order
abbrev pub mem_names : List Mem → List (List ℕ)
mem_names [] = []
mem_names (m ∷ ms) = m.name.name ∷ mem_names ms

-- a variable's number, and whether it is there, go by the list of the variables' names
pub var_place : (vs : List Var) (x : List ℕ)
    → (var_of vs x ≡ place_of (told vs) x) × (is_named vs x ≡ is_in (told vs) x) × (length (told vs) ≡ length vs)
var_place [] x = (refl, refl, refl)
var_place (v ∷ vs) x =
    let h = var_place vs x in
    (ap (λ n. if bytes_eq v.name x then 0 else suc n) h.0, ap (λ b. bytes_eq v.name x || b) h.1, ap suc h.2)

mem_place : (ms : List Mem) (x : List ℕ)
    → (mem_of ms x ≡ place_of (mem_names ms) x) × (is_memory ms x ≡ is_in (mem_names ms) x) × (length (mem_names ms) ≡ length ms)
mem_place [] x = (refl, refl, refl)
mem_place (m ∷ ms) x =
    let h = mem_place ms x in
    (ap (λ n. if bytes_eq m.name.name x then 0 else suc n) h.0, ap (λ b. bytes_eq m.name.name x || b) h.1, ap suc h.2)

-- the number of a variable that is there is below the count of variables
pub var_low : (vs : List Var) (x : List ℕ) → is_named vs x ≡ true → var_of vs x < length vs
var_low vs x h =
    let k = var_place vs x in
    let i : place_of (told vs) x < length (told vs) = in_low (told vs) x (sym k.1 ∙ h) in
    let e = k.0 in
    let f = k.2 in
    omega arith

-- two names of variables that are there are equal where their numbers are
pub var_same : (vs : List Var) (a b : List ℕ) → is_named vs a ≡ true → is_named vs b ≡ true → var_of vs a ≡ var_of vs b → a ≡ b
var_same vs a b h k e = in_same (told vs) a b (sym (var_place vs a).1 ∙ h) (sym (var_place vs b).1 ∙ k) (sym (var_place vs a).0 ∙ e ∙ (var_place vs b).0)

-- the number of a variable that is there stays where variables are added after
pub var_stays : (vs us : List Var) (x : List ℕ) → is_named vs x ≡ true → var_of (vs ++ us) x ≡ var_of vs x
var_stays vs us x h =
    (var_place (vs ++ us) x).0 ∙ ap (λ l. place_of l x) (told_append vs us)
    ∙ in_stays (told vs) (told us) x (sym (var_place vs x).1 ∙ h) ∙ sym (var_place vs x).0

-- the number of a memory that is there is below the count of memories
pub mem_low : (ms : List Mem) (x : List ℕ) → is_memory ms x ≡ true → mem_of ms x < length ms
mem_low ms x h =
    let k = mem_place ms x in
    let i : place_of (mem_names ms) x < length (mem_names ms) = in_low (mem_names ms) x (sym k.1 ∙ h) in
    let e = k.0 in
    let f = k.2 in
    omega arith

-- two names of memories that are there are equal where their numbers are
pub mem_same : (ms : List Mem) (a b : List ℕ) → is_memory ms a ≡ true → is_memory ms b ≡ true → mem_of ms a ≡ mem_of ms b → a ≡ b
mem_same ms a b h k e = in_same (mem_names ms) a b (sym (mem_place ms a).1 ∙ h) (sym (mem_place ms b).1 ∙ k) (sym (mem_place ms a).0 ∙ e ∙ (mem_place ms b).0)

-- the numbers tell memories apart
pub mem_is : (ms : List Mem) (a b : List ℕ) → is_memory ms a ≡ true → is_memory ms b ≡ true → (mem_of ms a == mem_of ms b) ≡ bytes_eq a b
mem_is ms a b h k = by (bytes_eq a b) refl
  where
    by : (c : Bool) → bytes_eq a b ≡ c → (mem_of ms a == mem_of ms b) ≡ c
    by true e = eq-eqb _ _ (ap (mem_of ms) (bytes_same a b e))
    by false e = ne_eqb _ _ (λ f. both_ways _ e (subst (λ n. bytes_eq a n ≡ true) (mem_same ms a b h k f) (bytes_refl a)))
