-- Where no statement binds a guard's variable where it is tested or later in the text, nor in a later stage, none does so in the order of stages.
use Rattle.std.proofs.Common.{◌≡◌, refl, sym, ap, ap₂, ◌∙◌, ℕ, suc, ◌≤◌, ◌<◌, Bool, true, false, ◌||◌, not, List, [], ◌∷◌, ◌++◌, cond, ◌==◌, nat_lt, nat_le, arith, ltb-true, leb-true}
use Rattle.std.proofs.lemmas.Bool.{and_parts, and_from, or_parts, eqb-true, not-true}
use Rattle.pdl_semantics.specs.Flat.{Guard, Stmt, Op, list_all}
use Rattle.pdl_semantics.specs.Stages.{in_stage}
use Rattle.pdl_theory_turns.specs.Alone.{before, answered_op}
use Rattle.pdl_theory_turns.specs.Scans.{none_of, binds_var, free_of, is_dead, keeps_guards, is_fixed}
use Rattle.pdl_theory_turns.specs.Facts.{binds_guard}
use Rattle.pdl_theory_turns.proofs.StageFacts.{binds_looked}
use Rattle.pdl_theory_turns.proofs.OfStage.{fixed_stage}
use Rattle.pdl_semantics.specs.Sound.{stages_from}
use Rattle.pdl_word.specs.Each.{Each}
use Rattle.pdl_word.proofs.Each.{each_append}

-- PARTS OF A TEXT

module _ (P Q : Stmt → Type 0) (s : ℕ) where
  -- what follows of each statement before stage s, with its delayed read answered at once, holds of all of them
  pub each_before : ((y : Stmt) → Q y → y.stage < s → P (record y { op = answered_op y.op })) → (xs : List Stmt) → Each Q xs → Each P (before s xs)
  each_before f [] h = tt
  each_before f (x ∷ xs) h = at (nat_lt x.stage s) refl (each_before f xs h.1)
    where
      at : (b : Bool) → nat_lt x.stage s ≡ b → Each P (before s xs) → Each P (cond b (record x { op = answered_op x.op } ∷ before s xs) (before s xs))
      at true e k = (f x h.0 (ltb-true x.stage s e), k)
      at false e k = k

  -- what follows of each statement from stage s on holds of all of them
  pub each_from : ((y : Stmt) → Q y → s ≤ y.stage → P y) → (xs : List Stmt) → Each Q xs → Each P (stages_from s xs)
  each_from f [] h = tt
  each_from f (x ∷ xs) h = at (nat_le s x.stage) refl (each_from f xs h.1)
    where
      at : (b : Bool) → nat_le s x.stage ≡ b → Each P (stages_from s xs) → Each P (cond b (x ∷ stages_from s xs) (stages_from s xs))
      at true e k = (f x h.0 (leb-true s x.stage e), k)
      at false e k = k

  -- what follows of each statement of stage s holds of all of them
  pub each_stage : ((y : Stmt) → Q y → y.stage ≡ s → P y) → (xs : List Stmt) → Each Q xs → Each P (in_stage s xs)
  each_stage f [] h = tt
  each_stage f (x ∷ xs) h = at (x.stage == s) refl (each_stage f xs h.1)
    where
      at : (b : Bool) → (x.stage == s) ≡ b → Each P (in_stage s xs) → Each P (cond b (x ∷ in_stage s xs) (in_stage s xs))
      at true e k = (f x h.0 (eqb-true x.stage s e), k)
      at false e k = k

-- a list passes a test of all its statements where each of them passes it
pub each_all : (test : Stmt → Bool) (xs : List Stmt) → Each (λ x. test x ≡ true) xs → list_all test xs ≡ true
each_all test [] h = refl
each_all test (x ∷ xs) h = and_from (test x) (list_all test xs) h.0 (each_all test xs h.1)

-- each statement of a list that passes a test of all its statements passes it
pub each_of_all : (test : Stmt → Bool) (xs : List Stmt) → list_all test xs ≡ true → Each (λ x. test x ≡ true) xs
each_of_all test [] h = tt
each_of_all test (x ∷ xs) h = let parts = and_parts (test x) (list_all test xs) h in (parts.0, each_of_all test xs parts.1)

-- WHAT NOTHING BINDS

-- free of guards, by each statement
free_each : (gs : List Guard) (xs : List Stmt) → Each (λ y. binds_guard y.op gs ≡ false) xs → free_of gs xs ≡ true
free_each [] xs h = refl
free_each (g ∷ gs) xs h = and_from _ _ (first xs h) (free_each gs xs (rest xs h))
  where
    first : (ys : List Stmt) → Each (λ y. (binds_var g.var y.op || binds_guard y.op gs) ≡ false) ys → none_of (binds_var g.var) ys ≡ true
    first [] k = refl
    first (y ∷ ys) k =
        and_from (not (binds_var g.var y.op)) (none_of (binds_var g.var) ys)
        (ap not (or_parts (binds_var g.var y.op) (binds_guard y.op gs) k.0).0) (first ys k.1)

    rest : (ys : List Stmt) → Each (λ y. (binds_var g.var y.op || binds_guard y.op gs) ≡ false) ys → Each (λ y. binds_guard y.op gs ≡ false) ys
    rest [] k = tt
    rest (y ∷ ys) k = ((or_parts (binds_var g.var y.op) (binds_guard y.op gs) k.0).1, rest ys k.1)

each_free : (gs : List Guard) (xs : List Stmt) → free_of gs xs ≡ true → Each (λ y. binds_guard y.op gs ≡ false) xs
each_free [] xs h = none xs
  where
    none : (ys : List Stmt) → Each (λ y. false ≡ false) ys
    none [] = tt
    none (y ∷ ys) = (refl, none ys)
each_free (g ∷ gs) xs h = let parts = and_parts (none_of (binds_var g.var) xs) (free_of gs xs) h in both xs parts.0 (each_free gs xs parts.1)
  where
    both : (ys : List Stmt) → none_of (binds_var g.var) ys ≡ true → Each (λ y. binds_guard y.op gs ≡ false) ys
        → Each (λ y. (binds_var g.var y.op || binds_guard y.op gs) ≡ false) ys
    both [] i k = tt
    both (y ∷ ys) i k = let parts = and_parts (not (binds_var g.var y.op)) (none_of (binds_var g.var) ys) i in
        (ap₂ (λ a b. a || b) (not-true (binds_var g.var y.op) parts.0) k.0, both ys parts.1 k.1)

-- a delayed read that is answered at once binds the same guards' variables
pub guard_looked : (op : Op) (gs : List Guard) → binds_guard (answered_op op) gs ≡ binds_guard op gs
guard_looked op [] = refl
guard_looked op (g ∷ gs) = ap₂ (λ a b. a || b) (binds_looked g.var op) (guard_looked op gs)

-- FIXED

-- a statement's guards are free of these
abbrev pub Keeps : List Stmt → Stmt → Type 0
Keeps ys z = is_dead z.guards ≡ false → Each (λ y. binds_guard y.op z.guards ≡ false) ys

keeps_to : (ys : List Stmt) (z : Stmt) → Keeps ys z → keeps_guards z.guards ys ≡ true
keeps_to ys z h = at (is_dead z.guards) refl
  where
    at : (b : Bool) → is_dead z.guards ≡ b → (b || free_of z.guards ys) ≡ true
    at true e = refl
    at false e = free_each z.guards ys (h e)

to_keeps : (ys : List Stmt) (z : Stmt) → keeps_guards z.guards ys ≡ true → Keeps ys z
to_keeps ys z h e = each_free z.guards ys (ap (λ b. b || free_of z.guards ys) (sym e) ∙ h)

fixed_append : (xs ys : List Stmt) → is_fixed xs ≡ true → is_fixed ys ≡ true → Each (Keeps ys) xs → is_fixed (xs ++ ys) ≡ true
fixed_append [] ys h i k = i
fixed_append (x ∷ xs) ys h i k =
    let parts = and_parts (keeps_guards x.guards (x ∷ xs)) (is_fixed xs) h in
    and_from _ _
    (keeps_to (x ∷ (xs ++ ys)) x
    (λ e. let own = to_keeps (x ∷ xs) x parts.0 e in (own.0, each_append (λ y. binds_guard y.op x.guards ≡ false) xs ys own.1 (k.0 e))))
    (fixed_append xs ys parts.1 i k.1)

fixed_before : (s : ℕ) (xs : List Stmt) → is_fixed xs ≡ true → is_fixed (before s xs) ≡ true
fixed_before s [] h = refl
fixed_before s (x ∷ xs) h = let parts = and_parts (keeps_guards x.guards (x ∷ xs)) (is_fixed xs) h in at (nat_lt x.stage s) parts.0 (fixed_before s xs parts.1)
  where
    at : (b : Bool) → keeps_guards x.guards (x ∷ xs) ≡ true → is_fixed (before s xs) ≡ true
        → is_fixed (cond b (record x { op = answered_op x.op } ∷ before s xs) (before s xs)) ≡ true
    at true k r =
        and_from _ _ (keeps_to (record x { op = answered_op x.op } ∷ before s xs) x (λ e.
        let own = to_keeps (x ∷ xs) x k e in (
          guard_looked x.op x.guards ∙ own.0,
          each_before (λ y. binds_guard y.op x.guards ≡ false) (λ y. binds_guard y.op x.guards ≡ false) s (λ y f low. guard_looked y.op x.guards ∙ f) xs own.1,
        ))) r
    at false k r = r

fixed_from : (s : ℕ) (xs : List Stmt) → is_fixed xs ≡ true → is_fixed (stages_from s xs) ≡ true
fixed_from s [] h = refl
fixed_from s (x ∷ xs) h = let parts = and_parts (keeps_guards x.guards (x ∷ xs)) (is_fixed xs) h in at (nat_le s x.stage) parts.0 (fixed_from s xs parts.1)
  where
    at : (b : Bool) → keeps_guards x.guards (x ∷ xs) ≡ true → is_fixed (stages_from s xs) ≡ true
        → is_fixed (cond b (x ∷ stages_from s xs) (stages_from s xs)) ≡ true
    at true k r =
        and_from _ _
        (keeps_to (x ∷ stages_from s xs) x
        (λ e. let own = to_keeps (x ∷ xs) x k e in
        (own.0, each_from (λ y. binds_guard y.op x.guards ≡ false) (λ y. binds_guard y.op x.guards ≡ false) s (λ y f up. f) xs own.1))) r
    at false k r = r

-- no statement binds a guard's variable in a later stage
abbrev pub Rests : List Stmt → Stmt → Type 0
Rests xs z = is_dead z.guards ≡ false → Each (λ y. binds_guard y.op z.guards ≡ true → y.stage ≤ z.stage) xs

unbound : (y z : Stmt) → (binds_guard y.op z.guards ≡ true → y.stage ≤ z.stage) → z.stage < y.stage → binds_guard y.op z.guards ≡ false
unbound y z f low = at (binds_guard y.op z.guards) refl
  where
    at : (b : Bool) → binds_guard y.op z.guards ≡ b → b ≡ false
    at true e = absurd (let i = f e in omega arith)
    at false e = refl

-- where no guard's variable is bound in a later stage, none is bound late in the order of stages either
pub fixed_stages : (xs : List Stmt)
    → is_fixed xs ≡ true → Each (Rests xs) xs → (s : ℕ)
    → is_fixed (before s xs ++ (in_stage s xs ++ stages_from (suc s) xs)) ≡ true
fixed_stages xs h r s =
    fixed_append (before s xs) (in_stage s xs ++ stages_from (suc s) xs) (fixed_before s xs h)
    (fixed_append (in_stage s xs) (stages_from (suc s) xs) (fixed_stage s xs h) (fixed_from (suc s) xs h)
    (each_stage (Keeps (stages_from (suc s) xs))
    (Rests xs) s
    (λ z f here e. each_from (λ y. binds_guard y.op z.guards ≡ false)
    (λ y. binds_guard y.op z.guards ≡ true → y.stage ≤ z.stage) (suc s)
    (λ y g up. unbound y z g (omega arith)) xs (f e)) xs r))
    (each_before (Keeps (in_stage s xs ++ stages_from (suc s) xs)) (Rests xs) s
    (λ z f low e.
    each_append (λ y. binds_guard y.op z.guards ≡ false) (in_stage s xs) (stages_from (suc s) xs)
    (each_stage (λ y. binds_guard y.op z.guards ≡ false)
    (λ y. binds_guard y.op z.guards ≡ true → y.stage ≤ z.stage) s (λ y g here. unbound y z g (omega arith)) xs (f e))
    (each_from (λ y. binds_guard y.op z.guards ≡ false) (λ y. binds_guard y.op z.guards ≡ true → y.stage ≤ z.stage)
    (suc s) (λ y g up. unbound y z g (omega arith)) xs (f e))) xs r)
