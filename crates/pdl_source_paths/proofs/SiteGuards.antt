-- The guards of a site: their variables stand before it, and on a path that leads through it each is bound in a stage no later, or by a delayed read in an earlier one. So it is with the variables that it uses.
use Rattle.std.proofs.Common.{◌≡◌, refl, sym, ap, ◌∙◌, subst, ℕ, ◌+◌, ◌≤◌, ◌<◌, ◌⊎◌, inl, inr, Bool, true, false, ◌&&◌, ◌||◌, not, List, [], ◌∷◌, ◌++◌, map, filter, length, length-append, append_assoc, bytes_eq, arith, cond, eq-eqb, append-nil, ◌==◌, ⊎_elim}
use Rattle.std.proofs.lemmas.Bool.{false≢true, and_parts, and_cases, or_parts, or_left, or_right, both_ways, not-false, cases_lt}
use Rattle.std.proofs.lemmas.List.Folds.{list_any-append, list_all-append}
use Rattle.std.specs.List.{list_any, list_all}
use Rattle.pdl_semantics.specs.Tree.{Ident, Expr, Constant, Variable, Slice, Not, Binary, Cat, LessSigned, ZeroExtend, SignExtend, Choose, If, Pipe}
use Rattle.pdl_semantics.specs.Flat
use Rattle.pdl_semantics.specs.Flat.{all_hold}
use Rattle.pdl_semantics.specs.Flatten.{var_of}
use Rattle.pdl_semantics.specs.Flatten
use Rattle.pdl_kit.specs.declared.rule.Rule.TheVariants.{N3}
use Rattle.pdl_rules.specs.Places.{Place, Parameter, Memory, Statement, Branch, statements, places, is_taken, on_path, on_some_path}
use Rattle.pdl_rules.specs.Limits.{is_separator}
use Rattle.pdl_rules.specs.Names.{OfVariable, defines_use, is_delayed, is_given, is_parameter, is_undefined, is_too_early}
use Rattle.pdl_rules.specs.Refusal.{KeepsRules}
use Rattle.pdl_theory_turns.specs.Scans.{binds_var}
use Rattle.pdl_source_stages.proofs.Sites.{Site, sites_of, front_of, place_of, All}
use Rattle.pdl_source_stages.proofs.Walks.{names, names_at, names_by, names_append, Choice, its_if, flat_guard, rule_branch, Chosen, AllChosen, Nested}
use Rattle.pdl_source_stages.proofs.SiteStages.{all_both}
use Rattle.pdl_source_stages.proofs.SiteFacts.{op_of, from_op}
use Rattle.pdl_source_stages.proofs.ForkSites.{before_is, same_is}
use Rattle.pdl_source_stages.proofs.ForkVars
use Rattle.pdl_source_stages.proofs.ForkFacts
use Rattle.pdl_source_paths.specs.Source.{begins_at, are_apart}
use Rattle.pdl_source_paths.proofs.Choices.{unbroken_on}
use Rattle.pdl_source_paths.proofs.Numbers
use Rattle.pdl_source_paths.proofs.Numbers.{is_in, in_stays, var_place, var_low}
use Rattle.pdl_source_paths.proofs.Variables.{known, named_is, told_is}
use Rattle.pdl_source_paths.proofs.Walk.{filter_append}
use Rattle.pdl_source_paths.proofs.FlatPaths.{value, after_of}
use Rattle.pdl_source_paths.proofs.GuardPaths.{AllGuards}
use Rattle.pdl_source_paths.proofs.SiteFacts.{Known, long, all_known, way, Bounds, Settled, Owned, given_more, bound_name, number_name, no_parameter, all_settled, all_owned}
use Rattle.pdl_word.proofs.Bytes.{bytes_same}
use Rattle.pdl_rules.proofs.EachPlace.{closing}

-- a guard's variable stands before the site, and what binds it stands on each path through the site, in a stage no later
pub record Guarded (p : Pipe) (t : Site) (g : Flat.Guard) : Type 0 where
  pub low : g.var < length t.walk.vars
  pub bound : (env : List ℕ) → is_separator (place_of t) ≡ false → all_hold t.gs env ≡ true → (y : Site) → Known p y
      → from_op (binds_var g.var) (op_of p.mems y.walk.vars y.stmt) ≡ true → Bounds env y t

module _ (p : Pipe) (rules : KeepsRules p) (named : list_any (defines_use (OfVariable [])) (places p) ≡ false) where
  -- a name that is used is not empty
  some_name : (front later : List Place) (x : Place) (n : List ℕ) → places p ≡ front ++ x ∷ later
      → is_too_early p front x (OfVariable n) ≡ false → bytes_eq [] n ≡ false
  some_name front later x n e h = at (bytes_eq [] n) refl
    where
      none : list_any (defines_use (OfVariable [])) (places p) ≡ true → ⊥
      none k = both_ways _ named k

      test : Place → Bool
      test = defines_use (OfVariable [])

      param : is_parameter p [] ≡ true → list_any (defines_use (OfVariable [])) (places p) ≡ true
      param k =
          list_any-append test (front_of p ++ statements [] p.body) (closing p)
          ∙ or_left (list_any test (front_of p ++ statements [] p.body)) (list_any test (closing p))
          (list_any-append test (front_of p) (statements [] p.body)
          ∙ or_left (list_any test (front_of p)) (list_any test (statements [] p.body))
          (list_any-append test (map Parameter p.params) (map Memory p.mems)
          ∙ or_left (list_any test (map Parameter p.params)) (list_any test (map Memory p.mems)) (ForkFacts.any_param [] p.params k)))

      before : is_undefined front (OfVariable n) ≡ false → [] ≡ n → list_any (defines_use (OfVariable [])) (places p) ≡ true
      before k f =
          ap (list_any test) e ∙ list_any-append test front (x ∷ later)
          ∙ or_left (list_any test front) (list_any test (x ∷ later))
          (ap (λ m. list_any (defines_use (OfVariable m)) front) f ∙ not-false (list_any (defines_use (OfVariable n)) front) k)

      at : (b : Bool) → bytes_eq [] n ≡ b → b ≡ false
      at false f = refl
      at true f =
          absurd (none (⊎_elim
          (λ k. param (ap (is_parameter p) (bytes_same [] n f) ∙ not-false (is_parameter p n) k))
          (λ k. before
          (or_parts (is_undefined front (OfVariable n)) (on_some_path (λ earlier. not (is_given earlier (OfVariable n))) p front x) k).0
          (bytes_same [] n f))
          (and_cases (not (is_parameter p n))
          (is_undefined front (OfVariable n) || on_some_path (λ earlier. not (is_given earlier (OfVariable n))) p front x) h)))

  -- what is no parameter is given on each path
  given_at : (env : List ℕ) (front later : List Place) (x : Place) (n : List ℕ)
      → is_too_early p front x (OfVariable n) ≡ false → is_parameter p n ≡ false → on_path (way p env) x ≡ true
      → is_given (filter (on_path (way p env)) front) (OfVariable n) ≡ true
  given_at env front later x n h k on =
      not-false (is_given (filter (on_path (way p env)) front) (OfVariable n))
      (unbroken_on (λ earlier. not (is_given earlier (OfVariable n))) p (value p env) front x
      (or_parts (is_undefined front (OfVariable n)) (on_some_path (λ earlier. not (is_given earlier (OfVariable n))) p front x)
      (ap (λ b. not b && (is_undefined front (OfVariable n) || on_some_path (λ earlier. not (is_given earlier (OfVariable n))) p front x)) (sym k) ∙ h)).1 on)

  -- a use of a variable at a place no later than a site, on each path that leads through the site
  used_by : (t y : Site) → Known p t → Settled p t → Known p y
      → (front more later : List Place) (x : Place) (n : List ℕ) → places p ≡ front ++ x ∷ later
      → t.front ≡ front ++ more → is_in (names t.front) n ≡ true → is_too_early p front x (OfVariable n) ≡ false
      → (env : List ℕ) → is_separator (place_of t) ≡ false → all_hold t.gs env ≡ true → on_path (way p env) x ≡ true
      → from_op (binds_var (var_of t.walk.vars n)) (op_of p.mems y.walk.vars y.stmt) ≡ true → Bounds env y t
  used_by t y h s k front more later x n whole e there early env cut tk on b =
      let it = number_name p rules t y h k n there (some_name front later x n whole early) b in
      s (record { env = env; name = n; by = y; known = k; it = it }) cut tk
      (ap (λ l. is_given l (OfVariable n)) (ap (filter (on_path (way p env))) e ∙ filter_append (on_path (way p env)) front more)
      ∙ given_more (OfVariable n) (filter (on_path (way p env)) front) (filter (on_path (way p env)) more)
      (given_at env front later x n early (no_parameter p rules n y k it) on))

  -- what binds a variable that the site itself uses is bound on each path through the site, early enough
  pub used_here : (t y : Site) → Known p t → Settled p t → Known p y → (n : List ℕ) → is_too_early p t.front (place_of t) (OfVariable n) ≡ false
      → (env : List ℕ) → is_separator (place_of t) ≡ false → all_hold t.gs env ≡ true
      → from_op (binds_var (var_of t.walk.vars n)) (op_of p.mems y.walk.vars y.stmt) ≡ true → Bounds env y t
  used_here t y h s k n early env cut tk b =
      used_by t y h s k t.front [] h.fine.later (place_of t) n h.fine.whole (sym (append-nil t.front))
      (sym (named_is t.front t.walk n h.fine.here.named) ∙ known p t.front t.walk (place_of t) n h.after h.fine.here.named early) early env cut tk
      (sym (h.alike env) ∙ tk) b

  module _ (t : Site) (h : Known p t) (s : Settled p t) (o : Owned p t) (i : Choice) (c : Chosen t.front i) (apart : are_apart (places p) ≡ true) where
    whole : places p ≡ i.front ++ its_if i ∷ (c.0 ++ place_of t ∷ h.fine.later)
    whole = h.fine.whole ∙ ap (λ l. l ++ place_of t ∷ h.fine.later) c.1 ∙ append_assoc i.front (its_if i ∷ c.0) (place_of t ∷ h.fine.later)

    long_if : length i.walk.vars ≡ length (names i.front)
    long_if = sym (ForkVars.told_long i.walk.vars) ∙ ap length c.2

    long_here : length t.walk.vars ≡ length (names i.front) + length (names_at (its_if i)) + length (names c.0)
    long_here =
        let a = long p rules t h in
        let b = ap (λ l. length (names l)) c.1 in
        let d = ap length (names_append i.front (its_if i ∷ c.0)) in
        let e = length-append (names i.front) (names (its_if i ∷ c.0)) in
        let f = length-append (names_at (its_if i)) (names c.0) in
        omega arith

    -- on a variable
    module _ (x : Ident) (e : i.condition ≡ Variable x) where
      early : is_too_early p i.front (its_if i) (OfVariable x.name) ≡ false
      early =
          let place = ap (λ d. Statement (If i.span d i.when i.otherwise) i.branches) e in
          ap (λ z. is_too_early p i.front z (OfVariable x.name)) place
          ∙ rules N3 i.front (Statement (If i.span (Variable x) i.when i.otherwise) i.branches)
          (c.0 ++ place_of t ∷ h.fine.later)
          (whole ∙ ap (λ z. i.front ++ z ∷ (c.0 ++ place_of t ∷ h.fine.later)) place)

      there_if : is_in (names i.front) x.name ≡ true
      there_if =
          sym (named_is i.front i.walk x.name c.2)
          ∙ known p i.front i.walk (its_if i) x.name
          (after_of p i.front (c.0 ++ place_of t ∷ h.fine.later) (If i.span i.condition i.when i.otherwise) i.branches whole) c.2 early

      there : is_in (names t.front) x.name ≡ true
      there =
          ap (λ l. is_in l x.name) (ap names c.1 ∙ names_append i.front (its_if i ∷ c.0))
          ∙ list_any-append (λ z. bytes_eq z x.name) (names i.front) (names (its_if i ∷ c.0)) ∙ or_left _ _ there_if

      number : var_of t.walk.vars x.name ≡ var_of i.walk.vars x.name
      number =
          (var_place t.walk.vars x.name).0
          ∙ ap (λ l. Numbers.place_of l x.name) (sym (told_is t.walk.vars) ∙ h.fine.here.named ∙ ap names c.1 ∙ names_append i.front (its_if i ∷ c.0))
          ∙ in_stays (names i.front) (names (its_if i ∷ c.0)) x.name there_if
          ∙ sym ((var_place i.walk.vars x.name).0 ∙ ap (λ l. Numbers.place_of l x.name) (sym (told_is i.walk.vars) ∙ c.2))

      guard_is : (flat_guard i).var ≡ var_of i.walk.vars x.name
      guard_is = ap (Flatten.guard_of i.walk.vars) e

      shared : ((env : List ℕ) → all_hold t.gs env ≡ true → on_path (way p env) (its_if i) ≡ true) → Guarded p t (flat_guard i)
      shared on =
          record {
            low = let a = long_here in
                let b = var_low i.walk.vars x.name (named_is i.front i.walk x.name c.2 ∙ there_if) in let d = long_if in
                let f = guard_is in omega arith;
            bound = λ env cut tk y k b.
                used_by t y h s k i.front (its_if i ∷ c.0) (c.0 ++ place_of t ∷ h.fine.later) (its_if i) x.name whole c.1 there early env cut tk (on env tk)
                (ap (λ n. from_op (binds_var n) (op_of p.mems y.walk.vars y.stmt)) (number ∙ sym guard_is) ∙ b);
          }

    -- on an expression
    module _ (is_own : (flat_guard i).var ≡ length i.walk.vars) (one : length (names_at (its_if i)) ≡ 1)
        (starts : begins_at i.span.start (its_if i) ≡ true) where
      own_place : (y : Site) → Known p y → from_op (binds_var (flat_guard i).var) (op_of p.mems y.walk.vars y.stmt) ≡ true → place_of y ≡ its_if i
      own_place y k b = at (cases_lt (length y.front) (length i.front)) (cases_lt (length i.front) (length y.front))
        where
          r : (m : List ℕ) × (names_by y.stmt ≡ m ∷ [])
              × ((q : List ℕ) → bytes_eq m q ≡ true → bytes_eq [] q ≡ false → defines_use (OfVariable q) (Statement y.stmt []) ≡ true)
          r = bound_name p.mems y.walk.vars y.stmt (flat_guard i).var b

          number : length y.walk.vars ≡ length i.walk.vars
          number = ForkVars.bound_last p.mems y.walk.vars y.stmt (flat_guard i).var b ∙ is_own

          both : y.front ++ place_of y ∷ k.fine.later ≡ i.front ++ its_if i ∷ (c.0 ++ place_of t ∷ h.fine.later)
          both = sym k.fine.whole ∙ whole

          at : (length y.front < length i.front) ⊎ (length i.front ≤ length y.front)
              → (length i.front < length y.front) ⊎ (length y.front ≤ length i.front) → place_of y ≡ its_if i
          at (inl l) m =
              let q = before_is y.front i.front k.fine.later (c.0 ++ place_of t ∷ h.fine.later) (place_of y) (its_if i) both l in
              let a = long p rules y k in
              let d = long_if in
              let e = ap (λ l. length (names l)) q.1 in
              let f = ap length (names_append y.front (place_of y ∷ q.0)) in
              let g = length-append (names y.front) (names (place_of y ∷ q.0)) in
              let j = length-append (names_at (place_of y)) (names q.0) in
              let u : length (names_at (place_of y)) ≡ 1 = ap length r.1 in
              let v = number in
              absurd (omega arith)
          at (inr l) (inl m) =
              let q = before_is i.front y.front (c.0 ++ place_of t ∷ h.fine.later) k.fine.later (its_if i) (place_of y) (sym both) m in
              let a = long p rules y k in
              let d = long_if in
              let e = ap (λ l. length (names l)) q.1 in
              let f = ap length (names_append i.front (its_if i ∷ q.0)) in
              let g = length-append (names i.front) (names (its_if i ∷ q.0)) in
              let j = length-append (names_at (its_if i)) (names q.0) in
              let u = one in
              let v = number in
              absurd (omega arith)
          at (inr l) (inr m) = (same_is y.front i.front k.fine.later (c.0 ++ place_of t ∷ h.fine.later) (place_of y) (its_if i) both (omega arith)).1

      found : (env : List ℕ) → on_path (way p env) (its_if i) ≡ true → list_any (begins_at i.span.start) (filter (on_path (way p env)) t.front) ≡ true
      found env on =
          ap (list_any (begins_at i.span.start)) (ap (filter (on_path (way p env))) c.1 ∙ filter_append (on_path (way p env)) i.front (its_if i ∷ c.0))
          ∙ list_any-append (begins_at i.span.start) (filter (on_path (way p env)) i.front) (filter (on_path (way p env)) (its_if i ∷ c.0))
          ∙ or_right _ _
          (ap (λ b. list_any (begins_at i.span.start) (cond b (its_if i ∷ filter (on_path (way p env)) c.0) (filter (on_path (way p env)) c.0))) on
          ∙ or_left (begins_at i.span.start (its_if i)) _ starts)

      own : ((env : List ℕ) → all_hold t.gs env ≡ true → on_path (way p env) (its_if i) ≡ true) → Guarded p t (flat_guard i)
      own on =
          record {
            low = let a = long_here in let b = one in let d = long_if in let f = is_own in omega arith;
            bound = λ env cut tk y k b.
                let e = own_place y k b in
                let r =
                o
                (record { env = env; start = i.span.start; by = y; known = k; it = ap (begins_at i.span.start) e ∙ starts }) cut tk
                (found env (on env tk)) in (
                  r.0,
                  r.1,
                  λ d. absurd (false≢true (sym (ap is_delayed e) ∙ d)),
                );
          }

    -- the guard of a choice is bound before the site, where each path through the site comes to the choice's `if`
    pub guarded : ((env : List ℕ) → all_hold t.gs env ≡ true → on_path (way p env) (its_if i) ≡ true) → Guarded p t (flat_guard i)
    guarded on = at i.condition refl
      where
        is_if : (d : Expr) → i.condition ≡ d → its_if i ≡ Statement (If i.span d i.when i.otherwise) i.branches
        is_if d e = ap (λ z. Statement (If i.span z i.when i.otherwise) i.branches) e

        by : (d : Expr) → i.condition ≡ d → Flatten.guard_of i.walk.vars d ≡ length i.walk.vars
            → length (names_by (If i.span d i.when i.otherwise)) ≡ 1
            → begins_at i.span.start (Statement (If i.span d i.when i.otherwise) i.branches) ≡ true
            → Guarded p t (flat_guard i)
        by d e a b f =
            own (ap (Flatten.guard_of i.walk.vars) e ∙ a) (ap (λ z. length (names_at z)) (is_if d e) ∙ b) (ap (begins_at i.span.start) (is_if d e) ∙ f) on

        same : (i.span.start == i.span.start) ≡ true
        same = eq-eqb i.span.start i.span.start refl

        at : (d : Expr) → i.condition ≡ d → Guarded p t (flat_guard i)
        at (Variable x) e = shared x e on
        at (Constant l) e = by (Constant l) e refl refl same
        at (Slice y u l) e = by (Slice y u l) e refl refl same
        at (Not a) e = by (Not a) e refl refl same
        at (Binary q a b) e = by (Binary q a b) e refl refl same
        at (Cat a b) e = by (Cat a b) e refl refl same
        at (LessSigned a b) e = by (LessSigned a b) e refl refl same
        at (ZeroExtend a n) e = by (ZeroExtend a n) e refl refl same
        at (SignExtend a n) e = by (SignExtend a n) e refl refl same
        at (Choose d a b) e = by (Choose d a b) e refl refl same

  module _ (apart : are_apart (places p) ≡ true) where
    -- each guard of a site
    guards_of : (t : Site) (h : Known p t) (s : Settled p t) (o : Owned p t) (bs : List Branch) (hs : List Choice)
        → Nested bs hs → AllChosen t.front hs
        → ((env : List ℕ) → all_hold t.gs env ≡ true → list_all (is_taken (way p env)) (bs ++ map rule_branch hs) ≡ true)
        → AllGuards (Guarded p t) (map flat_guard hs)
    guards_of t h s o bs [] n k on = tt
    guards_of t h s o bs (i ∷ hs) n k on = (
      guarded t h s o i k.0 apart
          (λ env tk. ap (list_all (is_taken (way p env))) n.0
          ∙ (and_parts (list_all (is_taken (way p env)) bs) _ (sym (list_all-append (is_taken (way p env)) bs (map rule_branch (i ∷ hs))) ∙ on env tk)).0),
      guards_of t h s o (bs ++ rule_branch i ∷ []) hs n.1 k.1
          (λ env tk. ap (list_all (is_taken (way p env))) (append_assoc bs (rule_branch i ∷ []) (map rule_branch hs)) ∙ on env tk),
    )

    -- each guard of each site of the source is bound before the site
    pub all_guarded : All (λ t. AllGuards (Guarded p t) t.gs) (sites_of p)
    all_guarded =
        all_both (Known p) (λ t. Settled p t × Owned p t) (λ t. AllGuards (Guarded p t) t.gs)
        (λ t h so.
        subst (AllGuards (Guarded p t)) (sym h.fine.here.under.guards_are)
        (guards_of t h so.0 so.1 [] h.fine.here.under.choices h.fine.here.under.nested h.fine.here.under.chosen
        (λ env tk. sym (ap (list_all (is_taken (way p env))) h.fine.here.under.branches_are) ∙ (sym (h.alike env) ∙ tk)))) (sites_of p)
        (all_known p rules apart)
        (all_both (Settled p) (Owned p) (λ t. Settled p t × Owned p t) (λ t a b. (a, b)) (sites_of p) (all_settled p rules apart) (all_owned p rules apart))
