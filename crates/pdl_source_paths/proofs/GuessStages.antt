-- On each path a verify or an update stands in another stage than the guess that it asks about.
use Rattle.std.proofs.Common.{◌≡◌, refl, sym, ap, ◌∙◌, subst, ℕ, ◌<◌, Bool, true, false, ◌&&◌, ◌||◌, not, List, [], ◌∷◌, ◌++◌, filter, cond, if◌then◌else◌, nat_lt, ◌==◌, Option, Some, None, arith, append-nil, ltb-true, eq-eqb}
use Rattle.std.proofs.lemmas.Bool.{and_parts, and_from, or_parts, or_left, or_right, both_ways, eqb-true, ne_eqb}
use Rattle.std.proofs.lemmas.List.Folds.{list_any-append}
use Rattle.std.specs.List.{list_any}
use Rattle.pdl_semantics.specs.Tree.{Span, Ident, Expr, Variable, R, W, Stmt, Separator, CombRead, Bind, SpecCall, DelayedRead, Write, Reserve, Block, Release, If, Call, Verify, Update, SpecCheck, SpecBarrier, Pipe}
use Rattle.pdl_semantics.specs.Flat
use Rattle.pdl_semantics.specs.Flatten.{flat, is_advisory_mem, is_advised}
use Rattle.pdl_semantics.specs.Stages
use Rattle.pdl_rules.specs.Places.{Place, Statement, Guard, on_path}
use Rattle.pdl_rules.specs.Parts.{is_some_and}
use Rattle.pdl_rules.specs.Names.{OfGuess, defines_use, in_verify}
use Rattle.pdl_rules.specs.Stages.{stage_of}
use Rattle.pdl_rules.specs.Speculation.{is_verify, is_guess_of, guess_stages}
use Rattle.pdl_rules.specs.Speculation
use Rattle.pdl_rules.specs.Refusal.{KeepsRules}
use Rattle.pdl_rules.proofs.SingleWrites.{any_weaker, any_last}
use Rattle.pdl_theory_turns.specs.Alone.{answered_op}
use Rattle.pdl_theory_turns.specs.GuessScans.{stands_at, stands_before, guess_stage, check_apart, checks_apart}
use Rattle.pdl_source_stages.proofs.SiteFacts.{either_read, either_bind, either_write}
use Rattle.pdl_source_stages.proofs.Sites.{Site, sites_of, front_of, place_of, All}
use Rattle.pdl_source_stages.proofs.StatementStages.{Staged}
use Rattle.pdl_source_paths.proofs.Choices.{path_of}
use Rattle.pdl_source_paths.proofs.PathStatements.{ops_of, ops, seen_ops, seen, on_sites}
use Rattle.pdl_source_paths.proofs.Walk.{InText, filter_append}
use Rattle.pdl_source_paths.proofs.GuessCounts.{one_guess, stages_append}
use Rattle.pdl_source_paths.proofs.Guesses.{Called, Told, called_next, guess_before, guess_there, update_right}
use Rattle.pdl_word.proofs.Bytes.{bytes_refl}

-- LISTS OF STATEMENTS

-- the stage of the last guess after these operations of stage s
abbrev guess_ops : Option ℕ → ℕ → List Flat.Op → Option ℕ
guess_ops g s [] = g
guess_ops g s (op ∷ os) = guess_ops (guess_stage g s (answered_op op)) s os

-- whether the checks among these operations of stage s stand apart from their guess
abbrev aparts : Option ℕ → ℕ → List Flat.Op → Bool
aparts g s [] = true
aparts g s (op ∷ os) = check_apart g s (answered_op op) && aparts (guess_stage g s (answered_op op)) s os

aparts_append : (g : Option ℕ) (s : ℕ) (os : List Flat.Op) (rest : List Flat.Stmt)
    → aparts g s os ≡ true → checks_apart (guess_ops g s os) rest ≡ true → checks_apart g (seen_ops s os ++ rest) ≡ true
aparts_append g s [] rest h i = i
aparts_append g s (op ∷ os) rest h i =
    let parts = and_parts (check_apart g s (answered_op op)) (aparts (guess_stage g s (answered_op op)) s os) h in
    and_from _ _ parts.0 (aparts_append (guess_stage g s (answered_op op)) s os rest parts.1 i)

-- ALONG A PATH

module _ (p : Pipe) (rules : KeepsRules p) (v : Guard → Bool) (staged : All Staged (sites_of p))
    (verify_at : All (λ t. is_verify (place_of t) ≡ true → Stages.verify_stage (flat p).stmts ≡ Some t.walk.stage) (sites_of p)) where
  -- the path of the rules with these truth values
  abbrev c : List Guard
  c = path_of p v

  -- V of the flat form
  abbrev o : Option ℕ
  o = Stages.verify_stage (flat p).stmts

  -- whether a place is on the path and makes this guess
  abbrev makes : List ℕ → Place → Bool
  makes n y = on_path c y && is_guess_of n y

  -- a guess was made on the path, before these places, in stage s, which is before V
  record Made (s : ℕ) (front : List Place) : Type 0 where
    name : List ℕ
    there : list_any (defines_use (OfGuess name)) (filter (on_path c) front) ≡ true
    here : list_any (λ j. j == s) (guess_stages c front name) ≡ true
    low : stands_before o s ≡ true

  -- the last guess before these places, where there is one, was made in this stage
  abbrev Last : Option ℕ → List Place → Type 0
  Last None front = Unit {0}
  Last (Some s) front = Made s front

  -- the places on the path, with one more that is on it or isn't
  taken : (front : List Place) (x : Place) (b : Bool) → on_path c x ≡ b
      → filter (on_path c) (front ++ x ∷ []) ≡ filter (on_path c) front ++ cond b (x ∷ []) []
  taken front x b e = filter_append (on_path c) front (x ∷ []) ∙ ap (λ a. filter (on_path c) front ++ cond a (x ∷ []) []) e

  -- the stages of this guess, with those of one more place
  stages_next : (front : List Place) (x : Place) (n : List ℕ)
      → guess_stages c (front ++ x ∷ []) n ≡ guess_stages c front n ++ cond (makes n x) (stage_of front x ∷ []) []
  stages_next front x n = stages_append (makes n) [] front (x ∷ [])

  last_next : (g : Option ℕ) (front : List Place) (x : Place) → Last g front → Last g (front ++ x ∷ [])
  last_next None front x h = tt
  last_next (Some s) front x h = record {
    name = h.name;
    there = ap (list_any (defines_use (OfGuess h.name))) (filter_append (on_path c) front (x ∷ [])) ∙ more (defines_use (OfGuess h.name)) (filter (on_path c) front) (filter (on_path c) (x ∷ [])) h.there;
    here = ap (list_any (λ j. j == s)) (stages_next front x h.name) ∙ more (λ j. j == s) (guess_stages c front h.name) (cond (makes h.name x) (stage_of front x ∷ []) []) h.here;
    low = h.low;
  }
    where
      more : {A : Type 0} (test : A → Bool) (xs ys : List A) → list_any test xs ≡ true → list_any test (xs ++ ys) ≡ true
      more test xs ys i = list_any-append test xs ys ∙ or_left _ _ i

  made_here : (t : Site) → Told p rules v staged verify_at t → on_path c (place_of t) ≡ true
      → (sp : Span) (n : Ident) (args : List Expr) → t.stmt ≡ SpecCall sp n args → Made t.walk.stage (t.front ++ place_of t ∷ [])
  made_here t h on sp n args e = record {
    name = n.name;
    there =
        ap (list_any (defines_use (OfGuess n.name))) (taken t.front (place_of t) true on)
        ∙ any_last (defines_use (OfGuess n.name)) (filter (on_path c) t.front) (place_of t)
        (ap (λ s. defines_use (OfGuess n.name) (Statement s t.branches)) e ∙ bytes_refl n.name);
    here =
        ap (list_any (λ j. j == t.walk.stage))
        (stages_next t.front (place_of t) n.name
        ∙ ap (λ b. guess_stages c t.front n.name ++ cond b (stage_of t.front (place_of t) ∷ []) [])
        (and_from _ _ on (ap (λ s. is_guess_of n.name (Statement s t.branches)) e ∙ bytes_refl n.name)))
        ∙ list_any-append (λ j. j == t.walk.stage) (guess_stages c t.front n.name) (stage_of t.front (place_of t) ∷ [])
        ∙ or_right _ _ (or_left _ _ (eq-eqb _ _ h.stage));
    low = (guess_before p rules v staged verify_at t h.here h.stage on sp n args e).0;
  }

  -- a verify stands in V, which is after the guess
  verify_apart : (g : Option ℕ) (front : List Place) (k : ℕ) → Last g front → o ≡ Some k → not (stands_at g k) ≡ true
  verify_apart None front k h i = refl
  verify_apart (Some s) front k h i =
      ap not (ne_eqb k s (λ e. let low : s < k = ltb-true s k (ap (λ w. stands_before w s) (sym i) ∙ h.low) in absurd (omega (arith, e))))

  -- an update stands after the guess
  update_apart : (g : Option ℕ) (t : Site) → Told p rules v staged verify_at t → on_path c (place_of t) ≡ true
      → Called p rules v staged verify_at (filter (on_path c) t.front) → Last g t.front
      → (sp : Span) (n : Ident) (args : List Expr) → t.stmt ≡ Update sp n args → not (stands_at g t.walk.stage) ≡ true
  update_apart None t h on k l sp n args e = refl
  update_apart (Some s) t h on k l sp n args e = ap not (ne_eqb t.walk.stage s (λ i. absurd (both_ways _ right (wrong i))))
    where
      amiss : ℕ → Bool
      amiss j = not (nat_lt j t.walk.stage)

      there : list_any (defines_use (OfGuess n.name)) (filter (on_path c) t.front) ≡ true
      there = guess_there p rules v staged verify_at (filter (on_path c) t.front) t h.here refl on n (λ u. ap (λ x. in_verify u x) e)

      right : list_any amiss (guess_stages c t.front n.name) ≡ false
      right =
          (or_parts (list_any amiss (guess_stages c t.front n.name)) _
          (or_parts (list_any amiss (guess_stages c t.front n.name) || is_some_and (λ w. not (nat_lt t.walk.stage w)) (Speculation.verify_stage p)) _
          (update_right p rules v staged verify_at t h.here h.stage on sp n args e)).0).0

      late : t.walk.stage ≡ s → (j : ℕ) → (j == s) ≡ true → amiss j ≡ true
      late i j f = at (nat_lt j t.walk.stage) refl
        where
          at : (b : Bool) → nat_lt j t.walk.stage ≡ b → not b ≡ true
          at true r = absurd (let x = eqb-true j s f in let y : j < t.walk.stage = ltb-true j t.walk.stage r in omega (arith, i))
          at false r = refl

      wrong : t.walk.stage ≡ s → list_any amiss (guess_stages c t.front n.name) ≡ true
      wrong i =
          any_weaker (λ j. j == s) amiss (late i) (guess_stages c t.front n.name)
          (subst (λ m. list_any (λ j. j == s) (guess_stages c t.front m) ≡ true)
          (one_guess l.name n.name (filter (on_path c) t.front) k.few l.there there) l.here)

  -- what is known after the operations of a statement
  abbrev After : Option ℕ → List Place → Place → ℕ → List Flat.Op → Type 0
  After g front x s os = (aparts g s os ≡ true) × Last (guess_ops g s os) (front ++ x ∷ [])

  step : (g : Option ℕ) (t : Site) → Told p rules v staged verify_at t → on_path c (place_of t) ≡ true
      → Called p rules v staged verify_at (filter (on_path c) t.front) → Last g t.front
      → (s : Stmt) → t.stmt ≡ s → After g t.front (place_of t) t.walk.stage (ops_of p.mems t.walk.vars s)
  step g t h on k l (SpecCall sp n args) e = (refl, made_here t h on sp n args e)
  step g t h on k l (Verify sp n args) e = (
    and_from _ _ (verify_apart g t.front t.walk.stage l (h.verify (ap (λ x. is_verify (Statement x t.branches)) e))) refl,
    last_next g t.front (place_of t) l,
  )
  step g t h on k l (Update sp n args) e = (and_from _ _ (update_apart g t h on k l sp n args e) refl, last_next g t.front (place_of t) l)
  step g t h on k l (Bind sp x a) e =
      either_bind (λ op. After g t.front (place_of t) t.walk.stage (op ∷ [])) (is_advised t.walk.vars a) _ _
      (refl, last_next g t.front (place_of t) l) (refl, last_next g t.front (place_of t) l)
  step g t h on k l (CombRead sp x at) e =
      either_read (λ op. After g t.front (place_of t) t.walk.stage (op ∷ [])) (is_advisory_mem p.mems at.mem.name) _ _ _
      (refl, last_next g t.front (place_of t) l) (refl, last_next g t.front (place_of t) l)
  step g t h on k l (Write sp at a) e =
      either_write (λ op. After g t.front (place_of t) t.walk.stage (op ∷ [])) (is_advisory_mem p.mems at.mem.name) _ _ _
      (refl, last_next g t.front (place_of t) l) (refl, last_next g t.front (place_of t) l)
  step g t h on k l (Separator sp) e = (refl, last_next g t.front (place_of t) l)
  step g t h on k l (DelayedRead sp x at) e = (refl, last_next g t.front (place_of t) l)
  step g t h on k l (Reserve sp at R) e = (refl, last_next g t.front (place_of t) l)
  step g t h on k l (Reserve sp at W) e = (refl, last_next g t.front (place_of t) l)
  step g t h on k l (Block sp at) e = (refl, last_next g t.front (place_of t) l)
  step g t h on k l (Release sp at) e = (refl, last_next g t.front (place_of t) l)
  step g t h on k l (If sp (Variable y) a b) e = (refl, last_next g t.front (place_of t) l)
  step g t h on k l (If sp x a b) e = (refl, last_next g t.front (place_of t) l)
  step g t h on k l (Call sp args) e = (refl, last_next g t.front (place_of t) l)
  step g t h on k l (SpecCheck sp) e = (refl, last_next g t.front (place_of t) l)
  step g t h on k l (SpecBarrier sp) e = (refl, last_next g t.front (place_of t) l)

  apart_from : (g : Option ℕ) (front : List Place) (ts : List Site) → InText front ts → All (Told p rules v staged verify_at) ts
      → Called p rules v staged verify_at (filter (on_path c) front) → Last g front → checks_apart g (seen p.mems (on_sites c ts)) ≡ true
  apart_from g front [] text h k l = refl
  apart_from g front (t ∷ ts) text h k l =
      at (on_path c (place_of t)) refl (λ g' k' l'. apart_from g' (front ++ place_of t ∷ []) ts text.1 h.1 k' l')
    where
      at : (b : Bool) → on_path c (place_of t) ≡ b
          → ((g' : Option ℕ) → Called p rules v staged verify_at (filter (on_path c) (front ++ place_of t ∷ [])) → Last g' (front ++ place_of t ∷ [])
          → checks_apart g' (seen p.mems (on_sites c ts)) ≡ true)
          → checks_apart g (seen p.mems (if b then t ∷ on_sites c ts else on_sites c ts)) ≡ true
      at true e go =
          let before = subst (λ f. Called p rules v staged verify_at (filter (on_path c) f)) (sym text.0) k in
          let r = step g t h.0 e before (subst (Last g) (sym text.0) l) t.stmt refl in
          aparts_append g t.walk.stage (ops p.mems t) (seen p.mems (on_sites c ts)) r.0
          (go (guess_ops g t.walk.stage (ops p.mems t))
          (subst (Called p rules v staged verify_at) (sym (taken front (place_of t) true e))
          (called_next p rules v staged verify_at (filter (on_path c) front) t h.0.here h.0.stage (ap (filter (on_path c)) text.0) e k))
          (subst (λ f. Last (guess_ops g t.walk.stage (ops p.mems t)) (f ++ place_of t ∷ [])) text.0 r.1))
      at false e go =
          go g (subst (Called p rules v staged verify_at) (sym (taken front (place_of t) false e ∙ append-nil (filter (on_path c) front))) k)
          (last_next g front (place_of t) l)

  -- the checks among the flat statements of the sites on the path stand apart from their guess
  pub checks_along : (ts : List Site) → InText (front_of p) ts → All (Told p rules v staged verify_at) ts
      → Called p rules v staged verify_at (filter (on_path c) (front_of p)) → checks_apart None (seen p.mems (on_sites c ts)) ≡ true
  checks_along ts text h k = apart_from None (front_of p) ts text h k tt
