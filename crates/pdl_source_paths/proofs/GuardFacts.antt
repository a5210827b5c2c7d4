-- The guards of the flat statements: no statement binds a guard's variable where it is tested or later, nor in a later stage, and a delayed read of it stands in an earlier one.
use Rattle.std.proofs.Common.{◌≡◌, refl, sym, ap, ◌∙◌, ℕ, ◌≤◌, ◌<◌, Bool, true, false, ◌||◌, not, List, [], ◌∷◌, ◌++◌, length, length-append, Option, Some, None, nat_lt, nat_le, arith, le-leb, lt-ltb}
use Rattle.std.proofs.lemmas.Bool.{false≢true, and_from, or_right}
use Rattle.std.specs.List.{list_any}
use Rattle.pdl_semantics.specs.Tree.{R, W, Variable, Stmt, Separator, CombRead, Bind, Write, DelayedRead, Reserve, If, Mem, Pipe}
use Rattle.pdl_semantics.specs.Flat
use Rattle.pdl_semantics.specs.Flat.{list_all}
use Rattle.pdl_semantics.specs.Flatten.{Var, flat, params_of, var_of, mem_of, flat_expr, is_advisory_mem, is_advised}
use Rattle.pdl_rules.specs.Places.{Statement, Branch, places}
use Rattle.pdl_rules.specs.Limits.{is_separator}
use Rattle.pdl_rules.specs.Names.{OfVariable, defines_use, is_delayed}
use Rattle.pdl_rules.specs.Refusal.{KeepsRules}
use Rattle.pdl_theory_turns.specs.Scans.{none_of, binds_var, free_of, is_dead, is_fixed}
use Rattle.pdl_theory_turns.specs.Facts.{binds_guard, defined_by, late_for}
use Rattle.pdl_source_stages.proofs.Sites.{Site, sites_of, own, owns, All, stmts_are}
use Rattle.pdl_source_stages.proofs.SiteStages.{all_both, all_map}
use Rattle.pdl_source_stages.proofs.SiteFacts.{each_stmt, AtSite, op_of, rows_of, own_is, from_op, row_at, read_none, bind_none, write_none}
use Rattle.pdl_source_stages.proofs.ForkVars
use Rattle.pdl_source_paths.specs.Source.{are_apart}
use Rattle.pdl_source_paths.proofs.Growth.{Grown, Grows, vars_past, past_grown, grown_same, grows_all}
use Rattle.pdl_source_paths.proofs.GuardPaths.{AllGuards, some_path}
use Rattle.pdl_source_paths.proofs.SiteFacts.{Known, Settled, all_known, all_settled}
use Rattle.pdl_source_paths.proofs.SiteGuards.{Guarded, all_guarded}
use Rattle.pdl_source_paths.proofs.FixedGuards.{Rests, each_all}
use Rattle.pdl_semantics.specs.Sound.{is_fetch}
use Rattle.pdl_word.specs.Each.{Each}
use Rattle.pdl_word.proofs.Each.{each_weaker}

-- all that is known of a site: its place in the text, what settles the names that it uses, and its guards
pub record Told (p : Pipe) (t : Site) : Type 0 where
  pub known : Known p t
  pub settled : Settled p t
  pub guards : AllGuards (Guarded p t) t.gs

-- a site with a flat statement is no separator, and a delayed read where that is one
pub no_cut : (ms : List Mem) (vs : List Var) (s : Stmt) (bs : List Branch) (op : Flat.Op)
    → op_of ms vs s ≡ Some op → is_separator (Statement s bs) ≡ false
no_cut ms vs (Separator sp) bs op e = absurd (none e)
  where
    none : None ≡ Some op → ⊥
    none z = cc z
no_cut ms vs _ bs op e = refl

-- a statement whose flat form is a delayed read is a delayed read
pub fetch_delayed : (ms : List Mem) (vs : List Var) (s : Stmt) (bs : List Branch) (op : Flat.Op)
    → op_of ms vs s ≡ Some op → is_fetch op ≡ true → is_delayed (Statement s bs) ≡ true
fetch_delayed ms vs s bs op e f = at s (ap (from_op is_fetch) e ∙ f)
  where
    at : (z : Stmt) → from_op is_fetch (op_of ms vs z) ≡ true → is_delayed (Statement z bs) ≡ true
    at (DelayedRead sp x l) g = refl
    at (If sp (Variable x) when otherwise) g = absurd (false≢true g)
    at (If sp c when otherwise) g = absurd (false≢true g)
    at (Reserve sp l R) g = absurd (false≢true g)
    at (Reserve sp l W) g = absurd (false≢true g)
    at (CombRead sp x l) g =
        absurd
        (false≢true (sym (read_none is_fetch (is_advisory_mem ms l.mem.name) (length vs) (mem_of ms l.mem.name) (var_of vs l.address.name) refl refl) ∙ g))
    at (Bind sp x v) g = absurd (false≢true (sym (bind_none is_fetch (is_advised vs v) (length vs) (flat_expr vs v) refl refl) ∙ g))
    at (Write sp l v) g =
        absurd
        (false≢true (sym (write_none is_fetch (is_advisory_mem ms l.mem.name) (mem_of ms l.mem.name) (var_of vs l.address.name) (flat_expr vs v) refl refl)
        ∙ g))
    at _ g = absurd (false≢true g)

-- the guard that a statement binds
find_guard : (P : Flat.Guard → Type 0) (op : Flat.Op) (gs : List Flat.Guard) → AllGuards P gs
    → binds_guard op gs ≡ true → (g : Flat.Guard) × P g × (binds_var g.var op ≡ true)
find_guard P op [] h e = absurd (false≢true e)
find_guard P op (g ∷ gs) h e = at (binds_var g.var op) refl e (find_guard P op gs h.1)
  where
    at : (b : Bool) → binds_var g.var op ≡ b → (b || binds_guard op gs) ≡ true
        → (binds_guard op gs ≡ true → (k : Flat.Guard) × P k × (binds_var k.var op ≡ true))
        → (k : Flat.Guard) × P k × (binds_var k.var op ≡ true)
    at true f i go = (g, h.0, f)
    at false f i go = go i

-- IN THE TEXT

-- variables that are grown are no fewer than those from which they are
pub grown_long : (vs us : List Var) → Grown vs us → length vs ≤ length us
grown_long vs us h = let a = ap length h.1 in let b = length-append vs h.0 in omega arith

-- no later site binds a number below
pub none_later : (ms : List Mem) (i : ℕ) (vs us : List Var) (ts : List Site) → Grows ms vs ts us
    → i < length vs → none_of (binds_var i) (owns ms ts) ≡ true
none_later ms i vs us [] h low = refl
none_later ms i vs us (t ∷ ts) h low =
    let l = grown_long vs t.walk.vars h.0 in
    let m = grown_long t.walk.vars (vars_past ms t.walk.vars t.stmt) (past_grown ms t.walk.vars t.stmt) in
    ap (λ l. none_of (binds_var i) (l ++ owns ms ts)) (own_is ms t.gs t.walk t.stmt)
    ∙ at (op_of ms t.walk.vars t.stmt) refl (let k : i < length t.walk.vars = omega arith in k)
    (none_later ms i (vars_past ms t.walk.vars t.stmt) us ts h.1 (omega arith))
  where
    at : (o : Option Flat.Op) → op_of ms t.walk.vars t.stmt ≡ o → i < length t.walk.vars
        → none_of (binds_var i) (owns ms ts) ≡ true → none_of (binds_var i) (rows_of t.gs t.walk o ++ owns ms ts) ≡ true
    at None e k r = r
    at (Some op) e k r = and_from (not (binds_var i op)) _ (by (binds_var i op) refl) r
      where
        by : (b : Bool) → binds_var i op ≡ b → not b ≡ true
        by true f = absurd (let n = ForkVars.bound_last ms t.walk.vars t.stmt i (ap (from_op (binds_var i)) e ∙ f) in omega arith)
        by false f = refl

module _ (p : Pipe) (rules : KeepsRules p) (apart : are_apart (places p) ≡ true) (named : list_any (defines_use (OfVariable [])) (places p) ≡ false) where
  -- each site of the source is known, has its names settled and its guards bound
  pub all_told : All (Told p) (sites_of p)
  all_told =
      all_both (Known p) (λ t. Settled p t × AllGuards (Guarded p t) t.gs) (Told p)
      (λ t h k. record { known = h; settled = k.0; guards = k.1 }) (sites_of p) (all_known p rules apart)
      (all_both (Settled p) (λ t. AllGuards (Guarded p t) t.gs) (λ t. Settled p t × AllGuards (Guarded p t) t.gs)
      (λ t a b. (a, b)) (sites_of p) (all_settled p rules apart) (all_guarded p rules named apart))

  fixed_all : (vs us : List Var) (ts : List Site) → Grows p.mems vs ts us → All (Told p) ts → is_fixed (owns p.mems ts) ≡ true
  fixed_all vs us [] g h = refl
  fixed_all vs us (t ∷ ts) g h =
      ap (λ l. is_fixed (l ++ owns p.mems ts)) (own_is p.mems t.gs t.walk t.stmt)
      ∙ at (op_of p.mems t.walk.vars t.stmt) (own_is p.mems t.gs t.walk t.stmt) (fixed_all (vars_past p.mems t.walk.vars t.stmt) us ts g.1 h.1)
    where
      free : (gs : List Flat.Guard) → AllGuards (Guarded p t) gs → free_of gs (owns p.mems (t ∷ ts)) ≡ true
      free [] k = refl
      free (x ∷ gs) k = and_from _ _ (none_later p.mems x.var t.walk.vars us (t ∷ ts) (grown_same t.walk.vars, g.1) k.0.low) (free gs k.1)

      at : (o : Option Flat.Op) → own p.mems t ≡ rows_of t.gs t.walk o → is_fixed (owns p.mems ts) ≡ true
          → is_fixed (rows_of t.gs t.walk o ++ owns p.mems ts) ≡ true
      at None e r = r
      at (Some op) e r =
          and_from _ _
          (or_right (is_dead t.gs) (free_of t.gs (row_at t op ∷ owns p.mems ts))
          (ap (λ l. free_of t.gs (l ++ owns p.mems ts)) (sym e) ∙ free t.gs h.0.guards)) r

  -- no statement of the text binds a guard's variable where it is tested or later in the text
  pub fixed_text : is_fixed (flat p).stmts ≡ true
  fixed_text = ap is_fixed (stmts_are p) ∙ fixed_all (params_of p.params) _ (sites_of p) (grows_all p) all_told

  -- WITH STAGES

  -- a statement that binds a guard's variable of a live one
  abbrev pub Late : Flat.Stmt → Flat.Stmt → Type 0
  Late z y = binds_guard y.op z.guards ≡ true → (y.stage ≤ z.stage) × (is_fetch y.op ≡ true → y.stage < z.stage)

  -- what binds a guard's variable of a live statement stands in no later stage, and a delayed read in an earlier one
  pub all_late : Each (λ z. is_dead z.guards ≡ false → Each (Late z) (flat p).stmts) (flat p).stmts
  all_late =
      each_stmt p (λ z. is_dead z.guards ≡ false → Each (Late z) (flat p).stmts)
      (all_map (Told p) (AtSite (λ z. is_dead z.guards ≡ false → Each (Late z) (flat p).stmts) p.mems)
      (λ t h op e live. one t h op e (some_path t.gs live)) (sites_of p) all_told)
    where
      one : (t : Site) → Told p t → (op : Flat.Op) → op_of p.mems t.walk.vars t.stmt ≡ Some op
          → (env : List ℕ) × (Flat.all_hold t.gs env ≡ true) → Each (Late (row_at t op)) (flat p).stmts
      one t h op e env =
          each_stmt p (Late (row_at t op))
          (all_map (Told p) (AtSite (Late (row_at t op)) p.mems)
          (λ y k o f b.
          let g = find_guard (Guarded p t) o t.gs h.guards b in
          let r = g.1.bound env.0 (no_cut p.mems t.walk.vars t.stmt t.branches op e) env.1 y k.known (ap (from_op (binds_var g.0.var)) f ∙ g.2) in
          (r.0, λ d. r.2 (fetch_delayed p.mems y.walk.vars y.stmt y.branches o f d))) (sites_of p) all_told)

  -- as a test: the guards' variables of each live statement are bound early enough for it
  pub guards_late : list_all (λ z. is_dead z.guards || late_for z (flat p).stmts) (flat p).stmts ≡ true
  guards_late =
      each_all (λ z. is_dead z.guards || late_for z (flat p).stmts)
      (flat p).stmts
      (each_weaker (λ z. is_dead z.guards ≡ false → Each (Late z) (flat p).stmts)
      (λ z. (is_dead z.guards || late_for z (flat p).stmts) ≡ true) one (flat p).stmts all_late)
    where
      defined : (y z : Flat.Stmt) → Late z y → (not (binds_guard y.op z.guards) || defined_by y.stage y.op z.stage) ≡ true
      defined y z h = at (binds_guard y.op z.guards) refl
        where
          by : (b : Bool) → is_fetch y.op ≡ b → (is_fetch y.op ≡ true → y.stage < z.stage) → (not b || nat_lt y.stage z.stage) ≡ true
          by true e k = lt-ltb y.stage z.stage (k e)
          by false e k = refl

          at : (b : Bool) → binds_guard y.op z.guards ≡ b → (not b || defined_by y.stage y.op z.stage) ≡ true
          at true e = let r = h e in and_from (nat_le y.stage z.stage) _ (le-leb y.stage z.stage r.0) (by (is_fetch y.op) refl r.1)
          at false e = refl

      late : (z : Flat.Stmt) (ys : List Flat.Stmt) → Each (Late z) ys → late_for z ys ≡ true
      late z [] h = refl
      late z (y ∷ ys) h = and_from _ _ (defined y z h.0) (late z ys h.1)

      one : (z : Flat.Stmt) → (is_dead z.guards ≡ false → Each (Late z) (flat p).stmts) → (is_dead z.guards || late_for z (flat p).stmts) ≡ true
      one z h = at (is_dead z.guards) refl
        where
          at : (b : Bool) → is_dead z.guards ≡ b → (b || late_for z (flat p).stmts) ≡ true
          at true e = refl
          at false e = late z (flat p).stmts (h e)

  -- no statement binds a guard's variable of a live one in a later stage
  pub all_rest : Each (Rests (flat p).stmts) (flat p).stmts
  all_rest =
      each_weaker (λ z. is_dead z.guards ≡ false → Each (Late z) (flat p).stmts) (Rests (flat p).stmts)
      (λ z h e. each_weaker (Late z) (λ y. binds_guard y.op z.guards ≡ true → y.stage ≤ z.stage) (λ y k b. (k b).0) (flat p).stmts (h e))
      (flat p).stmts all_late
