-- What a fork asks of its variable, of every source that breaks no rule.
use Rattle.std.proofs.Common.{◌≡◌, refl, sym, ap, ap₂, ◌∙◌, ℕ, suc, ◌+◌, ◌≤◌, ◌<◌, ◌⊎◌, inl, inr, Bool, true, false, ◌&&◌, ◌||◌, not, List, [], ◌∷◌, ◌++◌, map, filter, length, append_assoc, length-append, Some, None, arith, bytes_eq, eqb-true}
use Rattle.std.proofs.lemmas.Bool.{false≢true, or_parts, or_left, or_right, not-false, cases_lt}
use Rattle.std.proofs.lemmas.List.{get_or_past}
use Rattle.std.proofs.lemmas.List.Folds.{list_any-append}
use Rattle.std.specs.List.{list_any}
use Rattle.pdl_kit.specs.declared.rule.Rule.TheVariants.{N3}
use Rattle.pdl_semantics.specs.Tree.{CombRead, Bind, Write, R, W, Span, Ident, Expr, Constant, Variable, Slice, Not, Binary, Cat, LessSigned, ZeroExtend, SignExtend, Choose, Location, Stmt, DelayedRead, Reserve, If, Param, Pipe}
use Rattle.pdl_semantics.specs.Flat
use Rattle.pdl_semantics.specs.Flat.{all_hold}
use Rattle.pdl_semantics.specs.Flatten.{var_of, guard_of, past_all, at_start, flat, is_advisory_mem, is_advised, mem_of, flat_expr}
use Rattle.pdl_semantics.specs.Stages.{last_stage, stage_at, in_stage}
use Rattle.pdl_rules.specs.Places.{Place, Parameter, Memory, Statement, Guard, statements, on_path, on_some_path}
use Rattle.pdl_rules.specs.Parts.{is_some_and}
use Rattle.pdl_rules.specs.Limits.{is_separator}
use Rattle.pdl_rules.specs.Names.{OfVariable, defines_use, name_at, is_undefined, is_parameter, is_delayed, is_given, is_too_early}
use Rattle.pdl_rules.specs.Refusal.{KeepsRules}
use Rattle.pdl_theory_turns.specs.Scans.{none_of, binds_var}
use Rattle.pdl_theory_turns.specs.Facts.{is_fetch_of, visits_stage}
use Rattle.pdl_source_stages.proofs.Sites.{Site, sites_of, front_of, place_of, All}
use Rattle.pdl_source_stages.proofs.Walks.{cut, cut_append, names, names_at, names_by, names_append, told_past_all, at_front}
use Rattle.pdl_source_stages.proofs.BodyShape.{body_forked, body_groups, body_size}
use Rattle.pdl_source_stages.proofs.SiteStages.{all_both}
use Rattle.pdl_source_stages.proofs.SiteFacts.{Fine, all_fine, AtSite, each_stmt, each_in_stage, none_each, op_of, from_op, read_none, bind_none, write_none}
use Rattle.pdl_source_stages.proofs.ForkSites.{ForkSite, Some_site, pick, fork_sites, fork_var, Order, Before, Same, After, order}
use Rattle.pdl_source_stages.proofs.ForkVars
use Rattle.pdl_word.proofs.Bytes.{bytes_same, bytes_refl}
use Rattle.pdl_semantics.specs.Sound.{stages_from}
use Rattle.pdl_rules.proofs.EachPlace.{closing}
use Rattle.pdl_word.specs.Each.{Each}

-- a fine site, in a stage that has begun, after the parameters and memories
abbrev Deep : Pipe → Site → Type 0
Deep p t = Fine p t × (t.walk.stage ≤ t.walk.begun) × ((m : List Place) × (t.front ≡ front_of p ++ m))

-- where a parameter has the name, one of the parameters' places defines a variable of that name
pub any_param : (x : List ℕ) (ps : List Param)
    → list_any (λ (a : Param). bytes_eq x a.name.name) ps ≡ true
    → list_any (defines_use (OfVariable x)) (map Parameter ps) ≡ true
any_param x [] e = e
any_param x (a ∷ ps) e = at (bytes_eq x a.name.name) e (any_param x ps)
  where
    at : (b : Bool) → (b || list_any (λ (a : Param). bytes_eq x a.name.name) ps) ≡ true
        → (list_any (λ (a : Param). bytes_eq x a.name.name) ps ≡ true → list_any (defines_use (OfVariable x)) (map Parameter ps) ≡ true)
        → (b || list_any (defines_use (OfVariable x)) (map Parameter ps)) ≡ true
    at true f k = refl
    at false f k = k f

module _ (p : Pipe) (rules : KeepsRules p) where
  all_deep : All (Deep p) (sites_of p)
  all_deep =
      all_both (Fine p) (λ t. (t.walk.stage ≤ t.walk.begun) × ((m : List Place) × (t.front ≡ front_of p ++ m))) (Deep p)
      (λ t h k. (h, k.0, k.1)) (sites_of p) (all_fine p rules) (ForkVars.all_low p)

  -- each fork has an `if`
  fork_some : (s x a b : ℕ) → (stage_at (flat p) s).next ≡ Flat.Forks x a b → Some_site (ForkSite (flat p) s x) (sites_of p)
  fork_some s x a b e = by (cases_lt s (length (flat p).stages))
    where
      no_fork : None ≡ Some x → ⊥
      no_fork i = cc

      by : (s < length (flat p).stages) ⊎ (length (flat p).stages ≤ s) → Some_site (ForkSite (flat p) s x) (sites_of p)
      by (inl l) =
          let many = body_size p (body_forked p rules) in
          fork_sites (flat p) p.mems [] Flat.Ends 0 None (front_of p) (at_start p) [] [] p.body refl refl (body_forked p rules)
          (body_groups p (body_forked p rules)) (omega arith) refl (λ path on. refl) s x (omega arith) (omega arith) (ap fork_var e)
      by (inr l) = absurd (no_fork (sym (ap (λ (y : Flat.Stage). fork_var y.next) (get_or_past (flat p).stages s last_stage l)) ∙ ap fork_var e))

  -- the `if` of a fork, with what is known of it
  fork_if : (s x a b : ℕ) → (stage_at (flat p) s).next ≡ Flat.Forks x a b → (u : Site) × ForkSite (flat p) s x u × Deep p u
  fork_if s x a b e = pick (ForkSite (flat p) s x) (Deep p) (sites_of p) (fork_some s x a b e) all_deep

  -- the place of that `if`
  if_place : (s x : ℕ) (u : Site) → (f : ForkSite (flat p) s x u) → place_of u ≡ Statement (If f.span f.condition f.when f.otherwise) u.branches
  if_place s x u f = ap (λ z. Statement z u.branches) f.is

  -- a parameter is defined before every statement
  parameter_before : (u : Site) → Deep p u → (v : List ℕ) → is_parameter p v ≡ true → list_any (defines_use (OfVariable v)) u.front ≡ true
  parameter_before u d v e =
      ap (list_any (defines_use (OfVariable v))) (d.2.1) ∙ list_any-append (defines_use (OfVariable v)) (front_of p) d.2.0
      ∙ or_left _ _ (list_any-append (defines_use (OfVariable v)) (map Parameter p.params) (map Memory p.mems) ∙ or_left _ _ (any_param v p.params e))

  -- N3 at a fork on a plain variable
  fork_rule : (s x : ℕ) (u : Site) → (f : ForkSite (flat p) s x u) → Deep p u → (v : Ident) → f.condition ≡ Variable v
      → is_too_early p u.front (Statement (If f.span f.condition f.when f.otherwise) u.branches) (OfVariable v.name) ≡ false
  fork_rule s x u f d v e =
      let rule =
      rules N3 u.front (Statement (If f.span (Variable v) f.when f.otherwise) u.branches) d.0.later
      (d.0.whole ∙ ap (λ y. u.front ++ y ∷ d.0.later) (if_place s x u f ∙ ap (λ c. Statement (If f.span c f.when f.otherwise) u.branches) e)) in
      ap (λ c. is_too_early p u.front (Statement (If f.span c f.when f.otherwise) u.branches) (OfVariable v.name)) e ∙ rule

  -- so it is defined before
  fork_defined : (s x : ℕ) (u : Site) → (f : ForkSite (flat p) s x u) → Deep p u → (v : Ident) → f.condition ≡ Variable v
      → list_any (defines_use (OfVariable v.name)) u.front ≡ true
  fork_defined s x u f d v e = at (is_parameter p v.name) refl (fork_rule s x u f d v e)
    where
      at : (b : Bool) → is_parameter p v.name ≡ b
          → (not b
          && (is_undefined u.front (OfVariable v.name)
          || on_some_path (λ earlier. not (is_given earlier (OfVariable v.name))) p u.front (Statement (If f.span f.condition f.when f.otherwise) u.branches)))
          ≡ false
          → list_any (defines_use (OfVariable v.name)) u.front ≡ true
      at true g h = parameter_before u d v.name g
      at false g h = not-false _ (or_parts (is_undefined u.front (OfVariable v.name)) _ h).0

  long_front : (u : Site) → Deep p u → length u.walk.vars ≡ length (names u.front)
  long_front u d = sym (ForkVars.told_long u.walk.vars) ∙ ap length d.0.here.named

  -- a fork's variable is one of those before it or of its own
  fork_low : (s x : ℕ) (u : Site) → ForkSite (flat p) s x u → Deep p u → x < length (names u.front) + length (names_at (place_of u))
  fork_low s x u f d = at f.condition refl
    where
      own : (c : Expr) → f.condition ≡ c → guard_of u.walk.vars c ≡ length u.walk.vars
          → length (names_by (If f.span c f.when f.otherwise)) ≡ 1
          → x < length (names u.front) + length (names_at (place_of u))
      own c e g h =
          let a : x ≡ length u.walk.vars = sym f.var ∙ ap (guard_of u.walk.vars) e ∙ g in
          let b : length (names_at (place_of u)) ≡ 1 =
          ap (λ y. length (names_at y)) (if_place s x u f ∙ ap (λ z. Statement (If f.span z f.when f.otherwise) u.branches) e) ∙ h in
          let l = long_front u d in
          omega arith

      at : (c : Expr) → f.condition ≡ c → x < length (names u.front) + length (names_at (place_of u))
      at (Variable v) e =
          let a : x ≡ var_of u.walk.vars v.name = sym f.var ∙ ap (guard_of u.walk.vars) e in
          let b =
          ForkVars.named_low u.walk.vars v.name
          (ap (list_any (bytes_eq v.name)) d.0.here.named ∙ ForkVars.defined_named v.name u.front (fork_defined s x u f d v e)) in
          let l = long_front u d in
          omega arith
      at (Constant l) e = own (Constant l) e refl refl
      at (Slice y h l) e = own (Slice y h l) e refl refl
      at (Not a) e = own (Not a) e refl refl
      at (Binary o a b) e = own (Binary o a b) e refl refl
      at (Cat a b) e = own (Cat a b) e refl refl
      at (LessSigned a b) e = own (LessSigned a b) e refl refl
      at (ZeroExtend a n) e = own (ZeroExtend a n) e refl refl
      at (SignExtend a n) e = own (SignExtend a n) e refl refl
      at (Choose a b c) e = own (Choose a b c) e refl refl

  -- names of places one after the other
  names_split : (xs : List Place) (d : Place) (m : List Place) → length (names (xs ++ d ∷ m)) ≡ length (names xs) + length (names_at d) + length (names m)
  names_split xs d m =
      let a = ap length (names_append xs (d ∷ m)) in
      let b = length-append (names xs) (names (d ∷ m)) in
      let c = length-append (names_at d) (names m) in
      omega arith

  cut_split : (xs : List Place) (d : Place) (m : List Place) → cut (xs ++ d ∷ m) ≡ cut xs + cut (d ∷ []) + cut m
  cut_split xs d m =
      let a = cut_append xs (d ∷ m) in
      let b = cut_append (d ∷ []) m in
      omega arith

  -- the variable of a fork is one of the pipe's variables
  pub fork_known : (s x a b : ℕ) → (stage_at (flat p) s).next ≡ Flat.Forks x a b → x < (flat p).vars
  fork_known s x a b e =
      let r = fork_if s x a b e in
      let low = fork_low s x r.0 r.1 r.2 in
      let split = names_split r.0.front (place_of r.0) r.2.0.later in
      let all =
      sym (ForkVars.told_long (past_all p.mems p.body (at_start p)).vars)
      ∙ ap length
      (told_past_all p.mems [] p.body (at_start p) ∙ ap (λ l. l ++ names (statements [] p.body)) (at_front p).named
      ∙ sym (names_append (front_of p) (statements [] p.body))) in
      let whole = ap (λ l. length (names l)) r.2.0.whole in
      let more = ap length (names_append (front_of p ++ statements [] p.body) (closing p)) in
      let sum = length-append (names (front_of p ++ statements [] p.body)) (names (closing p)) in
      let none : length (names (closing p)) ≡ 0 = refl in
      let goal : x < length (past_all p.mems p.body (at_start p)).vars = omega arith in
      goal

  -- a statement that binds a fork's variable stands in the fork's stage or before
  bound_by : (s x a b : ℕ) → (stage_at (flat p) s).next ≡ Flat.Forks x a b → Each (λ y. binds_var x y.op ≡ true → y.stage < suc s) (flat p).stmts
  bound_by s x a b e = each_stmt p (λ y. binds_var x y.op ≡ true → y.stage < suc s) (each_of (sites_of p) all_deep)
    where
      u : Site
      u = (fork_if s x a b e).0

      fork : ForkSite (flat p) s x (fork_if s x a b e).0
      fork = (fork_if s x a b e).1

      deep : Deep p (fork_if s x a b e).0
      deep = (fork_if s x a b e).2

      at : (t : Site) → Deep p t → length t.walk.vars ≡ x → Order t (fork_if s x a b e).0 → t.walk.stage < suc s
      at t d n (Before m f) =
          let c = ap cut f in
          let h = cut_split t.front (place_of t) m in
          let l = d.1 in
          let i : t.walk.begun ≡ cut t.front = d.0.here.begun in
          let j : (fork_if s x a b e).0.walk.begun ≡ cut (fork_if s x a b e).0.front = deep.0.here.begun in
          let k = fork.begun in
          omega arith
      at t d n (Same f g) =
          let c = ap cut f in
          let l = d.1 in
          let i : t.walk.begun ≡ cut t.front = d.0.here.begun in
          let j : (fork_if s x a b e).0.walk.begun ≡ cut (fork_if s x a b e).0.front = deep.0.here.begun in
          let k = fork.begun in
          omega arith
      at t d n (After m f) =
          let c = ap (λ l. length (names l)) f in
          let h = names_split (fork_if s x a b e).0.front (place_of (fork_if s x a b e).0) m in
          let l = long_front t d in
          let low = fork_low s x (fork_if s x a b e).0 fork deep in
          absurd (omega arith)

      each_of : (ts : List Site) → All (Deep p) ts → All (AtSite (λ y. binds_var x y.op ≡ true → y.stage < suc s) p.mems) ts
      each_of [] h = tt
      each_of (t ∷ ts) h = (
        λ op f g. at t h.0 (ForkVars.bound_last p.mems t.walk.vars t.stmt x (ap (from_op (binds_var x)) f ∙ g)) (order p t (fork_if s x a b e).0 h.0.0 deep.0),
        each_of ts h.1,
      )

  -- no statement in a stage after a fork binds the fork's variable
  pub fork_bound : (s x a b : ℕ) → (stage_at (flat p) s).next ≡ Flat.Forks x a b → none_of (binds_var x) (stages_from (suc s) (flat p).stmts) ≡ true
  fork_bound s x a b e = ForkVars.none_from (binds_var x) (suc s) (flat p).stmts (bound_by s x a b e)

  -- where a rule asks something of the places before a site on each path with it, it holds on some path
  abbrev pub IsOnSome : Site → Type 0
  IsOnSome u = (test : List Place → Bool) → on_some_path test p u.front (place_of u) ≡ false → (c : List Guard) × (test (filter (on_path c) u.front) ≡ false)

  -- a delayed read before the fork that binds its variable has a separator after it, if the fork stands on some path
  fetched_before : (s x : ℕ) (u t : Site) → (f : ForkSite (flat p) s x u) → IsOnSome u → Deep p u → Deep p t
      → (sp : Span) (y : Ident) (l : Location) → t.stmt ≡ DelayedRead sp y l → length t.walk.vars ≡ x
      → (m : List Place) → u.front ≡ t.front ++ place_of t ∷ m → list_any is_separator m ≡ true
  fetched_before s x u t f some d h sp y l e n m g = at f.condition refl
    where
      read : place_of t ≡ Statement (DelayedRead sp y l) t.branches
      read = ap (λ z. Statement z t.branches) e

      one : length (names_at (place_of t)) ≡ 1
      one = ap (λ z. length (names_at z)) read

      own : (c : Expr) → f.condition ≡ c → guard_of u.walk.vars c ≡ length u.walk.vars → list_any is_separator m ≡ true
      own c i k =
          let a : x ≡ length u.walk.vars = sym f.var ∙ ap (guard_of u.walk.vars) i ∙ k in
          let b = long_front u d in
          let c2 = long_front t h in
          let q = ap (λ z. length (names z)) g in
          let r = names_split t.front (place_of t) m in
          let o = one in
          absurd (omega arith)

      -- the name at its number
      same : (v : Ident) → f.condition ≡ Variable v → y.name ≡ v.name
      same v i =
          bytes_same y.name v.name
          (ForkVars.named_at u.walk.vars v.name y.name (names t.front) (names m)
          (d.0.here.named ∙ ap names (g ∙ ap (λ z. t.front ++ z ∷ m) read) ∙ names_append t.front (Statement (DelayedRead sp y l) t.branches ∷ m))
          (sym (ap (guard_of u.walk.vars) i) ∙ f.var ∙ sym n ∙ long_front t h))

      before : list_any (λ z. is_some_and (bytes_eq y.name) (name_at z)) t.front ≡ false
      before = ForkVars.once_before p rules y.name t.front (place_of t) h.0.later h.0.whole (ap name_at read)

      none : list_any (defines_use (OfVariable y.name)) t.front ≡ false
      none = ForkVars.no_name p rules y.name t.front before (bytes_refl y.name)

      after : list_any (defines_use (OfVariable y.name)) m ≡ false
      after =
          ForkVars.once_after p rules y.name (t.front ++ place_of t ∷ []) m (place_of u ∷ d.0.later)
          (d.0.whole ∙ ap (λ z. z ++ place_of u ∷ d.0.later) g
          ∙ append_assoc t.front (place_of t ∷ m) (place_of u ∷ d.0.later)
          ∙ sym (append_assoc t.front (place_of t ∷ []) (m ++ place_of u ∷ d.0.later)))
          (list_any-append (λ z. is_some_and (bytes_eq y.name) (name_at z)) t.front (place_of t ∷ [])
          ∙ or_right _ _
          (or_left (is_some_and (bytes_eq y.name) (name_at (place_of t))) false
          (ap (λ z. is_some_and (bytes_eq y.name) (name_at z)) read ∙ bytes_refl y.name)))

      named : (v : Ident) → f.condition ≡ Variable v → list_any is_separator m ≡ true
      named v i = turn (is_parameter p v.name) refl (fork_rule s x u f d v i)
        where
          given : on_some_path (λ earlier. not (is_given earlier (OfVariable v.name))) p u.front
              (Statement (If f.span f.condition f.when f.otherwise) u.branches)
              ≡ false
              → (c : List Guard) × (is_given (filter (on_path c) u.front) (OfVariable v.name) ≡ true)
          given k =
              let r = some (λ earlier. not (is_given earlier (OfVariable v.name)))
              (ap (on_some_path (λ earlier. not (is_given earlier (OfVariable v.name))) p u.front) (if_place s x u f) ∙ k) in
              (r.0, not-false _ r.1)

          turn : (b : Bool) → is_parameter p v.name ≡ b
              → (not b
              && (is_undefined u.front (OfVariable v.name)
              || on_some_path (λ earlier. not (is_given earlier (OfVariable v.name))) p u.front
              (Statement (If f.span f.condition f.when f.otherwise) u.branches)))
              ≡ false
              → list_any is_separator m ≡ true
          turn true j k = absurd (false≢true (sym none ∙ ap (λ z. list_any (defines_use (OfVariable z)) t.front) (same v i) ∙ parameter_before t h v.name j))
          turn false j k =
              let r = given (or_parts (is_undefined u.front (OfVariable v.name)) _ k).1 in
              ForkVars.given_after (OfVariable y.name) (on_path r.0) t.front (place_of t) m (ap is_delayed read) none after
              (ap₂ (λ z o. is_given (filter (on_path r.0) z) (OfVariable o)) (sym g) (same v i) ∙ r.1)

      at : (c : Expr) → f.condition ≡ c → list_any is_separator m ≡ true
      at (Variable v) i = named v i
      at (Constant q) i = own (Constant q) i refl
      at (Slice z q r) i = own (Slice z q r) i refl
      at (Not q) i = own (Not q) i refl
      at (Binary o q r) i = own (Binary o q r) i refl
      at (Cat q r) i = own (Cat q r) i refl
      at (LessSigned q r) i = own (LessSigned q r) i refl
      at (ZeroExtend q r) i = own (ZeroExtend q r) i refl
      at (SignExtend q r) i = own (SignExtend q r) i refl
      at (Choose q r z) i = own (Choose q r z) i refl

  -- no delayed read of a fork's stage binds the fork's variable
  fetched_not : (s x : ℕ) (u t : Site) → ForkSite (flat p) s x u → IsOnSome u → Deep p u → Deep p t → (sp : Span) (y : Ident) (l : Location)
      → t.stmt ≡ DelayedRead sp y l → length t.walk.vars ≡ x → t.walk.stage ≡ s → Order t u → ⊥
  fetched_not s x u t f some' d h sp y l e n i (Before m g) =
      let c = ap cut g in
      let k = cut_split t.front (place_of t) m in
      let some = ForkVars.some_cut m (fetched_before s x u t f some' d h sp y l e n m g) in
      let a = h.1 in
      let b : t.walk.begun ≡ cut t.front = h.0.here.begun in
      let j : u.walk.begun ≡ cut u.front = d.0.here.begun in
      let q = f.begun in
      omega arith
  fetched_not s x u t f some' d h sp y l e n i (Same g k) = false≢true (ap is_delayed (sym (if_place s x u f) ∙ sym k ∙ ap (λ z. Statement z t.branches) e))
  fetched_not s x u t f some' d h sp y l e n i (After m g) =
      let c = ap (λ z. length (names z)) g in
      let k = names_split u.front (place_of u) m in
      let o = long_front t h in
      let low = fork_low s x u f d in
      omega arith

  -- a fork's stage has no delayed read into the fork's variable, if the fork's `if` stands on some path
  seen_at : (s x : ℕ) (u : Site) → ForkSite (flat p) s x u → IsOnSome u → Deep p u → none_of (is_fetch_of x) (in_stage s (flat p).stmts) ≡ true
  seen_at s x u fork some deep =
      none_each (is_fetch_of x) (in_stage s (flat p).stmts)
      (each_in_stage (λ y. is_fetch_of x y.op ≡ false) s (flat p).stmts
      (each_stmt p (λ y. y.stage ≡ s → is_fetch_of x y.op ≡ false) (each_of (sites_of p) all_deep)))
    where
      by : (t : Site) → Deep p t → t.walk.stage ≡ s → (z : Stmt) → t.stmt ≡ z → (b' : Bool)
          → from_op (is_fetch_of x) (op_of p.mems t.walk.vars z) ≡ b' → b' ≡ false
      by t h i z k false f = refl
      by t h i (DelayedRead sp y l) k true f =
          absurd (fetched_not s x u t fork some deep h sp y l k (eqb-true (length t.walk.vars) x f) i (order p t u h.0 deep.0))
      by t h i (Reserve sp l R) k true f = absurd (false≢true f)
      by t h i (Reserve sp l W) k true f = absurd (false≢true f)
      by t h i (If sp (Variable v) when otherwise) k true f = absurd (false≢true f)
      by t h i (If sp c when otherwise) k true f = absurd (false≢true f)
      by t h i (CombRead sp y l) k true f =
          absurd
          (false≢true (sym (read_none (is_fetch_of x) (is_advisory_mem p.mems l.mem.name) (length t.walk.vars) (mem_of p.mems l.mem.name)
          (var_of t.walk.vars l.address.name) refl refl) ∙ f))
      by t h i (Bind sp y v) k true f =
          absurd (false≢true (sym (bind_none (is_fetch_of x) (is_advised t.walk.vars v) (length t.walk.vars) (flat_expr t.walk.vars v) refl refl) ∙ f))
      by t h i (Write sp l v) k true f =
          absurd
          (false≢true (sym (write_none (is_fetch_of x) (is_advisory_mem p.mems l.mem.name) (mem_of p.mems l.mem.name) (var_of t.walk.vars l.address.name)
          (flat_expr t.walk.vars v) refl refl) ∙ f))
      by t h i z k true f = absurd (false≢true f)

      each_of : (ts : List Site) → All (Deep p) ts → All (AtSite (λ y. y.stage ≡ s → is_fetch_of x y.op ≡ false) p.mems) ts
      each_of [] h = tt
      each_of (t ∷ ts) h = (
        (λ op f i. sym (ap (from_op (is_fetch_of x)) f) ∙ by t h.0 i t.stmt refl (from_op (is_fetch_of x) (op_of p.mems t.walk.vars t.stmt)) refl),
        each_of ts h.1,
      )

  -- where each site whose guards a path takes stands on some path of the rules, a fork's stage that the path comes to has no delayed read into the fork's variable
  pub fork_seen : (path : List ℕ) → All (λ u. all_hold u.gs path ≡ true → IsOnSome u) (sites_of p) → (s x a b : ℕ) → visits_stage (flat p) path s ≡ true
      → (stage_at (flat p) s).next ≡ Flat.Forks x a b → none_of (is_fetch_of x) (in_stage s (flat p).stmts) ≡ true
  fork_seen path each s x a b on e =
      let r =
      pick (ForkSite (flat p) s x) (λ u. Deep p u × (all_hold u.gs path ≡ true → IsOnSome u)) (sites_of p) (fork_some s x a b e)
      (all_both (Deep p) (λ u. all_hold u.gs path ≡ true → IsOnSome u) (λ u. Deep p u × (all_hold u.gs path ≡ true → IsOnSome u))
      (λ u h k. (h, k)) (sites_of p) all_deep each)
      in
      seen_at s x r.0 r.1 (r.2.1 (r.1.shown path on)) r.2.0
