-- What the rules of calls, guesses and releases ask of each site on a path.
use Rattle.std.proofs.Common.{◌≡◌, refl, sym, ap, ap₂, ◌∙◌, subst, ℕ, suc, ◌≤◌, ◌<◌, ◌⊎◌, inl, inr, Bool, true, false, ◌&&◌, ◌||◌, not, List, [], ◌∷◌, ◌++◌, length, map, filter, nat_lt, count_by, Option, Some, None, is_some, arith, append_assoc, append-nil, ltb-true, lt-ltb, eq-eqb, le_refl, ⊎_elim}
use Rattle.std.proofs.lemmas.Bool.{false≢true, and_parts, and_from, or_parts, or_cases, false_from_ne_true, not-false, cases_Bool, both_ways}
use Rattle.std.proofs.lemmas.List.Folds.{list_any-append}
use Rattle.std.specs.List.{list_any}
use Rattle.pdl_semantics.specs.Tree.{Span, Ident, Expr, Variable, R, W, Stmt, Separator, CombRead, Bind, SpecCall, DelayedRead, Write, Reserve, Block, Release, If, Call, Verify, Update, SpecCheck, SpecBarrier, Param, Mem, Pipe}
use Rattle.pdl_semantics.specs.Stages
use Rattle.pdl_kit.specs.declared.rule.Rule.TheVariants.{N3, S2, S4, S6}
use Rattle.pdl_semantics.specs.Flatten.{is_advisory_mem, is_advised}
use Rattle.pdl_source_stages.proofs.SiteFacts.{either_read, either_bind, either_write}
use Rattle.pdl_rules.specs.Places.{Place, Parameter, Memory, Statement, Guard, places, guards, on_path}
use Rattle.pdl_rules.specs.Parts.{is_some_and, location_of, some_expr_of, some_part}
use Rattle.pdl_rules.specs.Names.{OfGuess, Use, defines_use, is_given, is_undefined, is_too_early, in_location, in_verify, reads_some}
use Rattle.pdl_rules.specs.Limits.{is_separator}
use Rattle.pdl_rules.specs.Calls.{is_call, is_wrong_call}
use Rattle.pdl_rules.specs.Stages.{stage_of, first_stage, stages_that}
use Rattle.pdl_rules.specs.Speculation.{is_verify, is_verify_of, verify_stages, is_once_after, is_unverified, releases_unsure, is_before_verify, guess_stages, updates_amiss, is_amiss}
use Rattle.pdl_rules.specs.Speculation
use Rattle.pdl_rules.specs.Refusal.{KeepsRules}
use Rattle.pdl_rules.proofs.SingleWrites.{any_weaker, counted, count_push, count_cons, count_none, weight}
use Rattle.pdl_rules.proofs.KnownVariables.{any_split}
use Rattle.pdl_theory_turns.specs.Scans
use Rattle.pdl_theory_turns.specs.GuessScans.{stands_at, stands_before}
use Rattle.pdl_theory_turns.proofs.Texts.{no_verify}
use Rattle.pdl_source_stages.proofs.Sites.{Site, sites_of, front_of, place_of, All, stmts_are}
use Rattle.pdl_source_stages.proofs.StatementStages.{Staged}
use Rattle.pdl_semantics.specs.Flatten.{flat}
use Rattle.pdl_source_paths.proofs.Choices.{path_of, unbroken_on, by_choice}
use Rattle.pdl_source_paths.proofs.PathStatements
use Rattle.pdl_source_paths.proofs.PathStatements.{ops}
use Rattle.pdl_source_paths.proofs.Variables.{Here}
use Rattle.pdl_source_paths.proofs.Walk.{all_in_text, OnPath, calls_right, text_places}
use Rattle.pdl_source_paths.proofs.SiteStages.{first_skip, first_sited, each_sited, some_op, none_sited}
use Rattle.pdl_source_paths.proofs.Calls.{Asked, verifies_one}
use Rattle.pdl_source_paths.proofs.GuessCounts.{count_stages, count_append, stages_past, any_on, one_guess, given_any}
use Rattle.pdl_source_paths.proofs.Order.{Next, Rises}
use Rattle.pdl_source_paths.proofs.PathScans.{AllAsked, AllSure}
use Rattle.pdl_word.proofs.Bytes.{bytes_same, bytes_refl}
use Rattle.pdl_rules.proofs.EachPlace.{closing}

-- THE RULES

module _ (p : Pipe) (rules : KeepsRules p) (v : Guard → Bool) (staged : All Staged (sites_of p))
    (verify_at : All (λ t. is_verify (place_of t) ≡ true → Stages.verify_stage (flat p).stmts ≡ Some t.walk.stage) (sites_of p)) where
  -- the path of the rules with these truth values
  abbrev pub c : List Guard
  c = path_of p v

  -- V of the flat form
  abbrev pub o : Option ℕ
  o = Stages.verify_stage (flat p).stmts

  -- whether a place is on the path and verifies this guess
  abbrev pub verified_on : List ℕ → Place → Bool
  verified_on g y = on_path c y && is_verify_of g y

  none_front : (test : Place → Bool) → ((a : Param) → test (Parameter a) ≡ false) → ((m : Mem) → test (Memory m) ≡ false) → list_any test (front_of p) ≡ false
  none_front test f g = list_any-append test (map Parameter p.params) (map Memory p.mems) ∙ ap₂ (λ a b. a || b) (of_params p.params) (of_mems p.mems)
    where
      of_params : (xs : List Param) → list_any test (map Parameter xs) ≡ false
      of_params [] = refl
      of_params (a ∷ xs) = ap₂ (λ a b. a || b) (f a) (of_params xs)

      of_mems : (xs : List Mem) → list_any test (map Memory xs) ≡ false
      of_mems [] = refl
      of_mems (m ∷ xs) = ap₂ (λ a b. a || b) (g m) (of_mems xs)

  -- a guess on the path is verified once on it, in V
  abbrev pub Once : List ℕ → Type 0
  Once g = count_by (verified_on g) (places p) ≡ 1

  once_of : (s : ℕ) (l : List ℕ) → is_once_after s l ≡ true → (w : ℕ) × (l ≡ w ∷ []) × (s < w)
  once_of s [] e = absurd (false≢true e)
  once_of s (w ∷ []) e = (w, refl, ltb-true s w e)
  once_of s (w ∷ x ∷ l) e = absurd (false≢true e)

  verify_sites : (V : ℕ) (g : List ℕ) → ((t : Site) → o ≡ Some t.walk.stage → t.walk.stage ≡ V) → (ts : List Site)
      → All (λ t. is_verify (place_of t) ≡ true → o ≡ Some t.walk.stage) ts
      → All (λ t. verified_on g (place_of t) ≡ true → t.walk.stage ≡ V) ts
  verify_sites V g f [] h = tt
  verify_sites V g f (t ∷ ts) h = ((λ e. f t (h.0 (one (place_of t) (and_parts (on_path c (place_of t)) _ e).1))), verify_sites V g f ts h.1)
    where
      one : (x : Place) → is_verify_of g x ≡ true → is_verify x ≡ true
      one (Statement (Verify _ _ _) bs) e = refl
      one _ e = absurd (false≢true e)

  stages_verified : (g : List ℕ) → verify_stages p c g ≡ stages_that (verified_on g) (front_of p) (map place_of (sites_of p) ++ closing p)
  stages_verified g =
      ap (stages_that (verified_on g) []) (text_places p)
      ∙ stages_past (verified_on g) [] (front_of p) (map place_of (sites_of p) ++ closing p) (none_front (verified_on g) (λ a. refl) (λ m. refl))

  -- a guess on the path is made before V and verified once
  pub guess_before : (t : Site) → Here p t → Staged t → on_path c (place_of t) ≡ true
      → (sp : Span) (g : Ident) (args : List Expr) → t.stmt ≡ SpecCall sp g args
      → (stands_before o t.walk.stage ≡ true) × Once g.name
  guess_before t h st on sp g args e = (stands, sym (count_stages (verified_on g.name) [] (places p)) ∙ ap length one.1)
    where
      right : is_unverified p c t.front (Statement (SpecCall sp g args) t.branches) ≡ false
      right =
          let r =
          by_choice (λ path. on_path path (place_of t) && is_unverified p path t.front (place_of t)) v (guards (places p))
          (rules S2 t.front (place_of t) h.later h.whole) in
          ap (λ s. is_unverified p c t.front (Statement s t.branches)) (sym e) ∙ ap (λ b. b && is_unverified p c t.front (place_of t)) (sym on) ∙ r

      one : (w : ℕ) × (verify_stages p c g.name ≡ w ∷ []) × (t.walk.stage < w)
      one = once_of t.walk.stage (verify_stages p c g.name) (subst (λ s. is_once_after s (verify_stages p c g.name) ≡ true) st (not-false _ right))

      is_v : (V : ℕ) → ((u : Site) → o ≡ Some u.walk.stage → u.walk.stage ≡ V) → one.0 ≡ V
      is_v V f =
          each_sited (verified_on g.name) V (front_of p) (closing p) (sites_of p)
          (all_in_text p) staged (verify_sites V g.name f (sites_of p) verify_at) (λ front. refl) one.0 []
          (sym (stages_verified g.name) ∙ one.1)

      by : (x : Option ℕ) → o ≡ x → stands_before x t.walk.stage ≡ true
      by None i = absurd (let j = is_v (suc one.0) (λ u k. absurd (nothing (sym i ∙ k))) in omega arith)
        where
          nothing : {n : ℕ} → None ≡ Some n → ⊥
          nothing z = cc z
      by (Some V) i = lt-ltb t.walk.stage V (let j = is_v V (λ u k. sym (some (sym i ∙ k))) in let l = one.2 in omega arith)
        where
          some : {n : ℕ} → Some V ≡ Some n → V ≡ n
          some z = cc z

      stands : stands_before o t.walk.stage ≡ true
      stands = by o refl

  -- V of the flat form is V of the rules
  v_is : (V : ℕ) → o ≡ Some V → Speculation.verify_stage p ≡ Some V
  v_is V i =
      found (first_sited is_verify V (front_of p) (closing p) (sites_of p) (all_in_text p) staged (in_v (sites_of p) verify_at) (λ front. refl))
    where
      same : {n : ℕ} → Some V ≡ Some n → n ≡ V
      same z = cc z

      in_v : (ts : List Site) → All (λ t. is_verify (place_of t) ≡ true → o ≡ Some t.walk.stage) ts
          → All (λ t. is_verify (place_of t) ≡ true → t.walk.stage ≡ V) ts
      in_v [] h = tt
      in_v (t ∷ ts) h = ((λ k. same (sym i ∙ h.0 k)), in_v ts h.1)

      skip : Speculation.verify_stage p ≡ first_stage is_verify (front_of p) (map place_of (sites_of p) ++ closing p)
      skip =
          ap (first_stage is_verify []) (text_places p)
          ∙ first_skip is_verify [] (front_of p) (map place_of (sites_of p) ++ closing p) (none_front is_verify (λ a. refl) (λ m. refl))

      unverified : (ts : List Site) → list_any is_verify (map place_of ts) ≡ false → All (λ t. some_op Stages.is_verify (ops p.mems t) ≡ false) ts
      unverified [] h = tt
      unverified (t ∷ ts) h = let parts = or_parts (is_verify (place_of t)) (list_any is_verify (map place_of ts)) h in
          (none t t.stmt refl parts.0, unverified ts parts.1)
        where
          none : (u : Site) (x : Stmt) → u.stmt ≡ x → is_verify (place_of u) ≡ false → some_op Stages.is_verify (ops p.mems u) ≡ false
          none u x j h =
              ap (λ y. some_op Stages.is_verify (PathStatements.ops_of p.mems u.walk.vars y)) j
              ∙ of_stmt x (sym (ap (λ y. is_verify (Statement y u.branches)) j) ∙ h)
            where
              of_if : (d : Expr) → some_op Stages.is_verify (PathStatements.if_ops u.walk.vars d) ≡ false
              of_if (Variable y) = refl
              of_if _ = refl

              of_stmt : (y : Stmt) → is_verify (Statement y u.branches) ≡ false
                  → some_op Stages.is_verify (PathStatements.ops_of p.mems u.walk.vars y) ≡ false
              of_stmt (Verify sp g args) k = absurd (false≢true (sym k))
              of_stmt (If sp d a b) k = of_if d
              of_stmt (Reserve sp l R) k = refl
              of_stmt (Reserve sp l W) k = refl
              of_stmt (CombRead sp x at) k = either_read (λ op. some_op Stages.is_verify (op ∷ []) ≡ false) (is_advisory_mem p.mems at.mem.name) _ _ _ refl refl
              of_stmt (Bind sp x e) k = either_bind (λ op. some_op Stages.is_verify (op ∷ []) ≡ false) (is_advised u.walk.vars e) _ _ refl refl
              of_stmt (Write sp at e) k = either_write (λ op. some_op Stages.is_verify (op ∷ []) ≡ false) (is_advisory_mem p.mems at.mem.name) _ _ _ refl refl
              of_stmt _ k = refl

      found :
          ((first_stage is_verify (front_of p) (map place_of (sites_of p) ++ closing p) ≡ None) × (list_any is_verify (map place_of (sites_of p)) ≡ false))
          ⊎ (first_stage is_verify (front_of p) (map place_of (sites_of p) ++ closing p) ≡ Some V)
          → Speculation.verify_stage p ≡ Some V
      found (inl r) =
          absurd
          (clash
          (sym
          (no_verify (flat p).stmts
          (ap (Scans.none_of Stages.is_verify) (stmts_are p) ∙ none_sited Stages.is_verify p.mems (sites_of p) (unverified (sites_of p) r.1)))
          ∙ i))
        where
          clash : None ≡ Some V → ⊥
          clash z = cc z
      found (inr r) = skip ∙ r

  -- what is known of the calls before a site
  pub record Called (before : List Place) : Type 0 where
    pub few : count_by is_call before ≤ 1
    pub once : (g : List ℕ) → list_any (defines_use (OfGuess g)) before ≡ true → Once g
    pub some : (g : List ℕ) → list_any (defines_use (OfGuess g)) before ≡ true → is_some o ≡ true

  -- where one of these places is a verify, V is no later than stage k
  abbrev pub Verified : ℕ → List Place → Type 0
  Verified k before = (V : ℕ) → o ≡ Some V → list_any is_verify before ≡ true → V ≤ k

  -- what is known of the calls before the next site
  pub called_next : (before : List Place) (t : Site) → Here p t → Staged t → filter (on_path c) t.front ≡ before
      → on_path c (place_of t) ≡ true → Called before → Called (before ++ place_of t ∷ [])
  called_next before t h st same on k =
      record {
        few = few (is_call (place_of t)) refl;
        once = λ g e. ⊎_elim (k.once g) (λ d. (here t.stmt refl g d).0) (any_split (defines_use (OfGuess g)) before (place_of t) e);
        some = λ g e. ⊎_elim (k.some g) (λ d. (here t.stmt refl g d).1) (any_split (defines_use (OfGuess g)) before (place_of t) e);
      }
    where
      wrong : is_wrong_call before (place_of t) ≡ false
      wrong = subst (λ l. is_wrong_call l (place_of t) ≡ false) same (calls_right p rules v t.front h.later (place_of t) h.whole on)

      none : (x : Place) → is_call x ≡ true → is_wrong_call before x ≡ list_any is_call before
      none (Statement (SpecCall _ _ _) bs) e = refl
      none (Statement (Call _ _) bs) e = refl
      none _ e = absurd (false≢true e)

      few : (b : Bool) → is_call (place_of t) ≡ b → count_by is_call (before ++ place_of t ∷ []) ≤ 1
      few true e =
          let z = count_none is_call before (sym (none (place_of t) e) ∙ wrong) in
          let w : weight (is_call (place_of t)) ≡ 1 = ap weight e in
          omega (arith, count_push is_call before (place_of t))
      few false e =
          let z : count_by is_call before ≤ 1 = k.few in
          let w : weight (is_call (place_of t)) ≡ 0 = ap weight e in
          omega (arith, count_push is_call before (place_of t))

      there_is : (x : Option ℕ) → stands_before x t.walk.stage ≡ true → is_some x ≡ true
      there_is None e = absurd (false≢true e)
      there_is (Some V) e = refl

      here : (s : Stmt) → t.stmt ≡ s → (g : List ℕ) → defines_use (OfGuess g) (Statement s t.branches) ≡ true → Once g × (is_some o ≡ true)
      here (SpecCall sp y args) i g e =
          let r = guess_before t h st on sp y args i in (subst Once (sym (bytes_same g y.name e)) r.1, there_is o r.0)
      here (Separator _) i g e = absurd (false≢true e)
      here (CombRead _ _ _) i g e = absurd (false≢true e)
      here (Bind _ _ _) i g e = absurd (false≢true e)
      here (DelayedRead _ _ _) i g e = absurd (false≢true e)
      here (Write _ _ _) i g e = absurd (false≢true e)
      here (Reserve _ _ _) i g e = absurd (false≢true e)
      here (Block _ _) i g e = absurd (false≢true e)
      here (Release _ _) i g e = absurd (false≢true e)
      here (If _ _ _ _) i g e = absurd (false≢true e)
      here (Call _ _) i g e = absurd (false≢true e)
      here (Verify _ _ _) i g e = absurd (false≢true e)
      here (Update _ _ _) i g e = absurd (false≢true e)
      here (SpecCheck _) i g e = absurd (false≢true e)
      here (SpecBarrier _) i g e = absurd (false≢true e)

  -- N3: the guess that a statement verifies or replaces was made before on the path
  pub guess_there : (before : List Place) (t : Site) → Here p t → filter (on_path c) t.front ≡ before → on_path c (place_of t) ≡ true → (g : Ident)
      → ((u : Use → Bool) → in_verify u t.stmt ≡ u (OfGuess g.name)) → list_any (defines_use (OfGuess g.name)) before ≡ true
  guess_there before t h same on g is = given_any (OfGuess g.name) before given
    where
      early : Use → Bool
      early = is_too_early p t.front (place_of t)

      used : early (OfGuess g.name) ≡ false
      used =
          sym (is early)
          ∙ (or_parts (in_verify early t.stmt) (some_expr_of (some_part (reads_some early)) t.stmt)
          (or_parts (is_some_and (in_location early) (location_of t.stmt)) _ (rules N3 t.front (place_of t) h.later h.whole)).1).0

      given : is_given before (OfGuess g.name) ≡ true
      given =
          subst (λ l. is_given l (OfGuess g.name) ≡ true) same
          (not-false _
          (unbroken_on (λ earlier. not (is_given earlier (OfGuess g.name))) p v t.front (place_of t)
          (or_parts (is_undefined t.front (OfGuess g.name)) _ used).1 on))

  -- S6: an update on the path is after its guess, before V, and the only one
  pub update_right : (t : Site) → Here p t → Staged t → on_path c (place_of t) ≡ true → (sp : Span) (g : Ident) (args : List Expr)
      → t.stmt ≡ Update sp g args → updates_amiss p c t.front t.walk.stage g.name ≡ false
  update_right t h st on sp g args e =
      ap (λ k. updates_amiss p c t.front k g.name) (sym st) ∙ ap (λ s. is_amiss p c t.front (Statement s t.branches)) (sym e)
      ∙ ap (λ b. b && is_amiss p c t.front (place_of t)) (sym on)
      ∙ by_choice (λ path. on_path path (place_of t) && is_amiss p path t.front (place_of t)) v (guards (places p))
      (rules S6 t.front (place_of t) h.later h.whole)

  asked_here : (before : List Place) (t : Site) → Here p t → Staged t → filter (on_path c) t.front ≡ before
      → on_path c (place_of t) ≡ true → (is_verify (place_of t) ≡ true → o ≡ Some t.walk.stage)
      → (is_separator (place_of t) ≡ false → Verified t.walk.stage before) → Called before
      → (s : Stmt) → t.stmt ≡ s → Asked p.mems o before t.branches t.walk.vars t.walk.stage s
  asked_here before t h st same on at late k (Call sp args) e =
      ap (λ x. is_wrong_call before (Statement x t.branches)) (sym e)
      ∙ subst (λ l. is_wrong_call l (place_of t) ≡ false) same (calls_right p rules v t.front h.later (place_of t) h.whole on)
  asked_here before t h st same on at late k (SpecCall sp g args) e = (
    ap (λ x. is_wrong_call before (Statement x t.branches)) (sym e)
        ∙ subst (λ l. is_wrong_call l (place_of t) ≡ false) same (calls_right p rules v t.front h.later (place_of t) h.whole on),
    (guess_before t h st on sp g args e).0,
  )
  asked_here before t h st same on at late k (Verify sp g args) e =
      (there, (λ n d. one_guess n g.name before k.few d there), unverified, ap (λ x. stands_at x t.walk.stage) is_v ∙ eq-eqb t.walk.stage t.walk.stage refl)
    where
      there : list_any (defines_use (OfGuess g.name)) before ≡ true
      there = guess_there before t h same on g (λ u. ap (λ x. in_verify u x) e)

      is_v : o ≡ Some t.walk.stage
      is_v = at (ap (λ x. is_verify (Statement x t.branches)) e)

      here : verified_on g.name (place_of t) ≡ true
      here = and_from _ _ on (ap (λ x. is_verify_of g.name (Statement x t.branches)) e ∙ bytes_refl g.name)

      unverified : list_any (is_verify_of g.name) before ≡ false
      unverified =
          ap (list_any (is_verify_of g.name)) (sym same) ∙ sym (any_on (on_path c) (is_verify_of g.name) t.front) ∙ false_from_ne_true _ (λ u. absurd (twice u))
        where
          twice : list_any (verified_on g.name) t.front ≡ true → ⊥
          twice u =
              let one : count_by (verified_on g.name) (places p) ≡ 1 = k.once g.name there in
              let more = counted (verified_on g.name) t.front u in
              let w : weight (verified_on g.name (place_of t)) ≡ 1 = ap weight here in
              let sum = ap (count_by (verified_on g.name)) h.whole ∙ count_append (verified_on g.name) t.front (place_of t ∷ h.later) in
              let rest = count_cons (verified_on g.name) (place_of t) h.later in
              omega arith
  asked_here before t h st same on at late k (Update sp g args) e =
      (there, (λ n d. one_guess n g.name before k.few d there), unverified (list_any (is_verify_of g.name) before) refl, stands)
    where
      there : list_any (defines_use (OfGuess g.name)) before ≡ true
      there = guess_there before t h same on g (λ u. ap (λ x. in_verify u x) e)

      early : (V : ℕ) → o ≡ Some V → t.walk.stage < V
      early V i =
          let rest =
          (or_parts
          (list_any (λ j. not (nat_lt j t.walk.stage)) (guess_stages c t.front g.name)
          || is_some_and (λ w. not (nat_lt t.walk.stage w)) (Speculation.verify_stage p)) _ (update_right t h st on sp g args e)).0
          in
          let low = (or_parts (list_any (λ j. not (nat_lt j t.walk.stage)) (guess_stages c t.front g.name)) _ rest).1 in
          ltb-true t.walk.stage V
          (not-false (nat_lt t.walk.stage V) (ap (is_some_and (λ w. not (nat_lt t.walk.stage w))) (sym (v_is V i)) ∙ low))

      stands : stands_before o t.walk.stage ≡ true
      stands = by o refl (k.some g.name there)
        where
          by : (x : Option ℕ) → o ≡ x → is_some x ≡ true → stands_before x t.walk.stage ≡ true
          by None i f = absurd (false≢true f)
          by (Some V) i f = lt-ltb t.walk.stage V (early V i)

      unverified : (b : Bool) → list_any (is_verify_of g.name) before ≡ b → b ≡ false
      unverified false i = refl
      unverified true i = by o refl (k.some g.name there)
        where
          by : (x : Option ℕ) → o ≡ x → is_some x ≡ true → true ≡ false
          by None j f = absurd (false≢true f)
          by (Some V) j f =
              absurd
              (let l = early V j in
              let m = late (ap (λ s. is_separator (Statement s t.branches)) e) V j (any_weaker _ _ (verifies_one g.name) before i) in
              omega arith)
  asked_here before t h st same on at late k (Separator sp) e = tt
  asked_here before t h st same on at late k (CombRead sp x l) e = tt
  asked_here before t h st same on at late k (Bind sp x l) e = tt
  asked_here before t h st same on at late k (DelayedRead sp x l) e = tt
  asked_here before t h st same on at late k (Write sp l x) e = tt
  asked_here before t h st same on at late k (Reserve sp l x) e = tt
  asked_here before t h st same on at late k (Block sp l) e = tt
  asked_here before t h st same on at late k (Release sp l) e = tt
  asked_here before t h st same on at late k (If sp x a b) e = tt
  asked_here before t h st same on at late k (SpecCheck sp) e = tt
  asked_here before t h st same on at late k (SpecBarrier sp) e = tt

  -- ALONG THE PATH

  -- what is known of each site of the text
  pub record Told (t : Site) : Type 0 where
    pub here : Here p t
    pub stage : Staged t
    pub verify : is_verify (place_of t) ≡ true → o ≡ Some t.walk.stage

  -- each site along a path is as the rules of calls ask, and what is known of the calls before holds after the last one
  pub all_asked : (n end : ℕ) (before : List Place) (ts : List Site) → Rises n ts end → OnPath c before ts → All Told ts → Verified n before → Called before
      → AllAsked p o before ts × Called (before ++ map place_of ts)
  all_asked n end before [] rise on h late k = (tt, subst Called (sym (append-nil before)) k)
  all_asked n end before (t ∷ ts) rise on h late k =
      at (is_separator (place_of t)) refl rise
      (λ m r w. all_asked m end (before ++ place_of t ∷ []) ts r on.2 h.1 w (called_next before t h.0.here h.0.stage on.0 on.1 k))
    where
      more : (m : ℕ) → n ≤ m → (is_verify (place_of t) ≡ true → t.walk.stage ≤ m) → Verified m (before ++ place_of t ∷ [])
      more m low here V i e =
          ⊎_elim (λ f. let l = late V i f in let z : V ≤ m = omega arith in z)
          (λ f. let l = here f in let same : V ≡ t.walk.stage = some_same (sym i ∙ h.0.verify f) in let z : V ≤ m = omega arith in z)
          (any_split is_verify before (place_of t) e)
        where
          some_same : {a b : ℕ} → Some a ≡ Some b → a ≡ b
          some_same z = cc z

      both : AllAsked p o (before ++ place_of t ∷ []) ts × Called ((before ++ place_of t ∷ []) ++ map place_of ts)
          → (is_separator (place_of t) ≡ false → Verified t.walk.stage before)
          → AllAsked p o before (t ∷ ts) × Called (before ++ map place_of (t ∷ ts))
      both rest w = (
        (asked_here before t h.0.here h.0.stage on.0 on.1 h.0.verify w k t.stmt refl, rest.0),
        subst Called (append_assoc before (place_of t ∷ []) (map place_of ts)) rest.1,
      )

      no_verify_cut : (x : Place) → is_separator x ≡ true → is_verify x ≡ false
      no_verify_cut (Statement (Separator _) bs) e = refl
      no_verify_cut _ e = absurd (false≢true e)

      at : (b : Bool) → is_separator (place_of t) ≡ b → Next b n t.walk.stage (λ m. Rises m ts end)
          → ((m : ℕ) → Rises m ts end → Verified m (before ++ place_of t ∷ [])
          → AllAsked p o (before ++ place_of t ∷ []) ts × Called ((before ++ place_of t ∷ []) ++ map place_of ts))
          → AllAsked p o before (t ∷ ts) × Called (before ++ map place_of (t ∷ ts))
      at true e r go =
          both (go (suc n) r (more (suc n) (let z : n ≤ suc n = omega arith in z) (λ f. absurd (both_ways _ (no_verify_cut (place_of t) e) f))))
          (λ f. absurd (both_ways _ f e))
      at false e r go =
          both (go t.walk.stage r.1 (more t.walk.stage r.0 (λ f. le_refl t.walk.stage)))
          (λ f V i u. let l = late V i u in let m = r.0 in let z : V ≤ t.walk.stage = omega arith in z)

  -- at the end each guess is verified on the path
  pub verified_end : (before : List Place) → filter (on_path c) (places p) ≡ before ++ closing p → Called before
      → (g : List ℕ) → list_any (defines_use (OfGuess g)) before ≡ true → list_any (is_verify_of g) before ≡ true
  verified_end before e k g d =
      ⊎_elim (λ a. a) (λ a. absurd (false≢true a))
      (or_cases (list_any (is_verify_of g) before) (list_any (is_verify_of g) (closing p))
      (sym (list_any-append (is_verify_of g) before (closing p)) ∙ ap (list_any (is_verify_of g)) (sym e)
      ∙ sym (any_on (on_path c) (is_verify_of g) (places p)) ∙ some (k.once g d)))
    where
      some : count_by (verified_on g) (places p) ≡ 1 → list_any (verified_on g) (places p) ≡ true
      some f = ⊎_elim (λ a. a) (λ a. absurd (let z = count_none (verified_on g) (places p) a in omega arith)) (cases_Bool (list_any (verified_on g) (places p)))

  -- RELEASES

  -- a stage before V of the flat form is before V of the rules
  before_verify : (s : ℕ) → stands_before o s ≡ true → is_before_verify p s ≡ true
  before_verify s e = by o refl e
    where
      by : (x : Option ℕ) → o ≡ x → stands_before x s ≡ true → is_before_verify p s ≡ true
      by None i f = absurd (false≢true f)
      by (Some V) i f = ap (is_some_and (λ k. nat_lt s k)) (v_is V i) ∙ f

  -- no site along a path that stands before V releases a write reservation with no barrier before it
  pub all_sure : (before : List Place) (ts : List Site) → OnPath c before ts → All Told ts → AllSure o before ts
  all_sure before [] on h = tt
  all_sure before (t ∷ ts) on h = (sure, all_sure (before ++ place_of t ∷ []) ts on.2 h.1)
    where
      other : (a b : Bool) → a ≡ true → (a && b) ≡ false → b ≡ false
      other true b f g = g
      other false b f g = absurd (false≢true f)

      sure : stands_before o t.walk.stage ≡ true → releases_unsure before (place_of t) ≡ false
      sure e =
          subst (λ l. releases_unsure l (place_of t) ≡ false) on.0
          (unbroken_on (λ earlier. releases_unsure earlier (place_of t)) p v t.front (place_of t)
          (other (is_before_verify p (stage_of t.front (place_of t))) _ (ap (is_before_verify p) h.0.stage ∙ before_verify t.walk.stage e)
          (rules S4 t.front (place_of t) h.0.here.later h.0.here.whole)) on.1)
