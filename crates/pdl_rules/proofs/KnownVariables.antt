-- The variables after some places of a pipe that breaks no rule: each is new, so their widths are those of the whole pipe, and they are advised where they are in the whole pipe.
use Rattle.std.proofs.Common.{◌≡◌, refl, sym, ap, ◌∙◌, subst, ℕ, Bool, true, false, ◌||◌, List, [], ◌∷◌, ◌++◌, map, fold, if◌then◌else◌, Some, None, bytes_eq, ◌⊎◌, inl, inr, ⊎_elim, append_assoc, append-nil}
use Rattle.std.specs.Prelude.{IsTrue}
use Rattle.std.proofs.lemmas.Bool.{false≢true, or_parts, or_cases, or_left, or_right, both_ways, false_from_ne_true}
use Rattle.std.proofs.lemmas.List.Folds.{list_any-append}
use Rattle.std.proofs.lemmas.List.Sums.{fold-append, fold_push}
use Rattle.std.specs.List.{list_any}
use Rattle.pdl_semantics.specs.Tree.{CombRead, Bind, DelayedRead, Param, Mem, Pipe}
use Rattle.pdl_semantics.specs.Flatten.{Var, var_width, mem_width, width_of, is_advisory_mem, is_advised_var, is_advised, params_of}
use Rattle.pdl_rules.specs.Places.{Place, Parameter, Memory, Statement, places}
use Rattle.pdl_rules.specs.Parts.{is_some_and}
use Rattle.pdl_rules.specs.Names.{variable_at, name_at, is_taken_name, breaks_n2, defines_use, OfMemory}
use Rattle.pdl_rules.specs.Widths.{with_variable, after_place, variables}
use Rattle.pdl_rules.specs.Typed.{is_named}
use Rattle.pdl_rules.proofs.SingleWrites.{any_front, any_last, bytes_sym}

-- WIDTHS THAT STAY

-- each variable of the first is one of the others, with the same width, and advised alike
abbrev pub Stays : List Var → List Var → Type 0
Stays vs us =
    (x : List ℕ) → IsTrue (is_named vs x) → IsTrue (is_named us x) × (var_width us x ≡ var_width vs x) × (is_advised_var us x ≡ is_advised_var vs x)

named_more : (vs more : List Var) (x : List ℕ) → IsTrue (is_named vs x) → IsTrue (is_named (vs ++ more) x)
named_more vs more x e = list_any-append (λ (v : Var). bytes_eq v.name x) vs more ∙ or_left _ _ e

width_more : (vs more : List Var) (x : List ℕ) → IsTrue (is_named vs x) → var_width (vs ++ more) x ≡ var_width vs x
width_more [] more x e = absurd (false≢true e)
width_more (v ∷ vs) more x e = go (bytes_eq v.name x) e (width_more vs more x)
  where
    go : (b : Bool) → (b || is_named vs x) ≡ true → (IsTrue (is_named vs x) → var_width (vs ++ more) x ≡ var_width vs x)
        → (if b then v.width else var_width (vs ++ more) x) ≡ (if b then v.width else var_width vs x)
    go true e h = refl
    go false e h = h e

advised_more : (vs more : List Var) (x : List ℕ) → IsTrue (is_named vs x) → is_advised_var (vs ++ more) x ≡ is_advised_var vs x
advised_more [] more x e = absurd (false≢true e)
advised_more (v ∷ vs) more x e = go (bytes_eq v.name x) e (advised_more vs more x)
  where
    go : (b : Bool) → (b || is_named vs x) ≡ true → (IsTrue (is_named vs x) → is_advised_var (vs ++ more) x ≡ is_advised_var vs x)
        → (if b then v.advised else is_advised_var (vs ++ more) x) ≡ (if b then v.advised else is_advised_var vs x)
    go true e h = refl
    go false e h = h e

-- variables stay, with their widths, when more are added after them
pub stays_more : (vs more : List Var) → Stays vs (vs ++ more)
stays_more vs more x e = (named_more vs more x e, width_more vs more x e, advised_more vs more x e)

stays_variable : (vs : List Var) (y : List ℕ) (w : ℕ) (advised : Bool) → Stays vs (with_variable vs y w advised)
stays_variable vs y w advised x e = go (list_any (λ (v : Var). bytes_eq y v.name) vs)
  where
    go : (b : Bool)
        → IsTrue (is_named (if b then vs else vs ++ record { name = y; width = w; advised = advised } ∷ []) x)
        × (var_width (if b then vs else vs ++ record { name = y; width = w; advised = advised } ∷ []) x ≡ var_width vs x)
        × (is_advised_var (if b then vs else vs ++ record { name = y; width = w; advised = advised } ∷ []) x ≡ is_advised_var vs x)
    go true = (e, refl, refl)
    go false = stays_more vs (record { name = y; width = w; advised = advised } ∷ []) x e

stays_place : (ms : List Mem) (vs : List Var) (d : Place) → Stays vs (after_place ms vs d)
stays_place ms vs (Parameter a) = stays_variable vs a.name.name a.width.value false
stays_place ms vs (Statement (CombRead s x at) bs) = stays_variable vs x.name (mem_width ms at.mem.name) (is_advisory_mem ms at.mem.name)
stays_place ms vs (Statement (Bind s x e) bs) = stays_variable vs x.name (width_of vs e) (is_advised vs e)
stays_place ms vs (Statement (DelayedRead s x at) bs) = stays_variable vs x.name (mem_width ms at.mem.name) false
stays_place ms vs _ = λ x e. (e, refl, refl)

stays_places : (ms : List Mem) (xs : List Place) (vs : List Var) → Stays vs (fold (after_place ms) vs xs)
stays_places ms [] vs x e = (e, refl, refl)
stays_places ms (d ∷ xs) vs x e =
    let one = stays_place ms vs d x e in
    let all = stays_places ms xs (after_place ms vs d) x one.0 in
    (all.0, all.1 ∙ one.1, all.2 ∙ one.2)

-- VARIABLES SO FAR

-- whether a place defines a variable, or any name
abbrev pub defines_variable : List ℕ → Place → Bool
defines_variable x d = is_some_and (bytes_eq x) (variable_at d)

-- whether a place defines this name, of whatever kind
abbrev pub takes_name : List ℕ → Place → Bool
takes_name x d = is_some_and (bytes_eq x) (name_at d)

-- these are the variables that these places define
pub record AreKnown (p : Pipe) (vs : List Var) (before : List Place) : Type 0 where
  pub vars : fold (after_place p.mems) [] before ≡ vs
  pub named : (x : List ℕ) → list_any (defines_variable x) before ≡ true → IsTrue (is_named vs x)
  pub taken : (x : List ℕ) → list_any (λ (v : Var). bytes_eq x v.name) vs ≡ true → list_any (takes_name x) before ≡ true

-- no places define no variables
pub none_known : (p : Pipe) → AreKnown p [] []
none_known p = record { vars = refl; named = λ x e. e; taken = λ x e. e }

-- where some element of a list with one more at its end passes a test, one of the list does, or the last
pub any_split : {X : Type 0} (f : X → Bool) (xs : List X) (x : X) → list_any f (xs ++ x ∷ []) ≡ true → (list_any f xs ≡ true) ⊎ (f x ≡ true)
any_split f xs x e = ⊎_elim (λ a. inl a) (λ a. inr (last (f x) a)) (or_cases (list_any f xs) (f x || false) (sym (list_any-append f xs (x ∷ [])) ∙ e))
  where
    last : (b : Bool) → (b || false) ≡ true → b ≡ true
    last true a = refl
    last false a = a

-- a place that defines no variable
pub known_same : (p : Pipe) (vs : List Var) (before : List Place) (d : Place)
    → variable_at d ≡ None → after_place p.mems vs d ≡ vs → AreKnown p vs before → AreKnown p vs (before ++ d ∷ [])
known_same p vs before d none same k = record {
  vars = fold_push (after_place p.mems) [] before d ∙ ap (λ us. after_place p.mems us d) k.vars ∙ same;
  named = λ x e. ⊎_elim (k.named x) (λ a. absurd (false≢true (sym (ap (is_some_and (bytes_eq x)) none) ∙ a))) (any_split (defines_variable x) before d e);
  taken = λ x e. any_front (takes_name x) before d (k.taken x e);
}

-- a place that defines this variable, with this width
pub known_more : (p : Pipe) (vs : List Var) (before : List Place) (d : Place) (x : List ℕ) (w : ℕ) (advised : Bool)
    → variable_at d ≡ Some x → name_at d ≡ Some x → after_place p.mems vs d ≡ with_variable vs x w advised
    → breaks_n2 p before d ≡ false → AreKnown p vs before
    → AreKnown p (vs ++ record { name = x; width = w; advised = advised } ∷ []) (before ++ d ∷ [])
known_more p vs before d x w advised variable name after unbroken k = record {
  vars =
      fold_push (after_place p.mems) [] before d ∙ ap (λ us. after_place p.mems us d) k.vars ∙ after
      ∙ ap (λ b. if b then vs else vs ++ record { name = x; width = w; advised = advised } ∷ []) fresh;
  named = λ y e. ⊎_elim
      (λ a. named_more vs _ y (k.named y a))
      (λ a. any_last (λ (v : Var). bytes_eq v.name y) vs _ (bytes_sym y x (sym (ap (is_some_and (bytes_eq y)) variable) ∙ a)))
      (any_split (defines_variable y) before d e);
  taken = λ y e. ⊎_elim
      (λ a. any_front (takes_name y) before d (k.taken y a))
      (λ a. any_last (takes_name y) before d (ap (is_some_and (bytes_eq y)) name ∙ a))
      (any_split (λ (v : Var). bytes_eq y v.name) vs _ e);
}
  where
    free : is_taken_name p before x ≡ false
    free = sym (ap (is_some_and (is_taken_name p before)) name) ∙ unbroken

    fresh : list_any (λ (v : Var). bytes_eq x v.name) vs ≡ false
    fresh =
        false_from_ne_true (list_any (λ (v : Var). bytes_eq x v.name) vs)
        (λ t. both_ways (list_any (takes_name x) before) (or_parts (bytes_eq x p.name.name) (list_any (takes_name x) before) free).1 (k.taken x t))

-- all variables of the pipe keep the widths of those so far
pub known_stay : (p : Pipe) (vs : List Var) (before later : List Place)
    → places p ≡ before ++ later → AreKnown p vs before → Stays vs (variables p)
known_stay p vs before later e k = subst (Stays vs) (sym all) (stays_places p.mems later vs)
  where
    all : variables p ≡ fold (after_place p.mems) vs later
    all = ap (fold (after_place p.mems) []) e ∙ fold-append (after_place p.mems) [] before later ∙ ap (λ us. fold (after_place p.mems) us later) k.vars

-- PARAMETERS AND MEMORIES

-- memories after the places so far define no further variable
pub known_mems : (p : Pipe) (ms : List Mem) (vs : List Var) (before : List Place) → AreKnown p vs before
    → AreKnown p vs (before ++ map Memory ms)
known_mems p [] vs before k = subst (AreKnown p vs) (sym (append-nil before)) k
known_mems p (m ∷ ms) vs before k =
    subst (AreKnown p vs) (append_assoc before (Memory m ∷ []) (map Memory ms))
    (known_mems p ms vs (before ++ Memory m ∷ []) (known_same p vs before (Memory m) refl refl k))

-- the name of a parameter is one of the names that the parameters' variables have
pub params_named : (ps : List Param) (x : List ℕ)
    → list_any (λ (a : Param). bytes_eq x a.name.name) ps ≡ true → IsTrue (is_named (params_of ps) x)
params_named [] x e = absurd (false≢true e)
params_named (a ∷ ps) x e =
    ⊎_elim
    (λ t. or_left _ _ (bytes_sym x a.name.name t))
    (λ t. or_right (bytes_eq a.name.name x) _ (params_named ps x t))
    (or_cases (bytes_eq x a.name.name) _ e)

-- a parameter is no memory
pub no_params : (m : List ℕ) (ps : List Param) → list_any (defines_use (OfMemory m)) (map Parameter ps) ≡ false
no_params m [] = refl
no_params m (a ∷ ps) = no_params m ps
