-- Each statement of a path binds a variable with which no earlier one has to do, and uses only earlier ones.
use Rattle.std.proofs.Common.{◌≡◌, refl, ap, ◌∙◌, subst, ℕ, ◌+◌, ◌≤◌, ◌<◌, ◌⊎◌, inl, inr, Bool, true, false, ◌||◌, not, List, [], ◌∷◌, ◌++◌, length, Some, None, ◌==◌, arith, length-append, lt-ltb}
use Rattle.std.proofs.lemmas.Bool.{false≢true, and_from, or_parts, or_cases, eqb-true, ne_eqb}
use Rattle.std.specs.List.{list_any}
use Rattle.pdl_semantics.specs.Tree.{Expr, Constant, Variable, Slice, Not, Binary, Cat, LessSigned, ZeroExtend, SignExtend, Choose, Location, R, W, Stmt, Separator, CombRead, Bind, SpecCall, DelayedRead, Write, Reserve, Block, Release, If, Call, Verify, Update, SpecCheck, SpecBarrier, Mem}
use Rattle.pdl_semantics.specs.Flat
use Rattle.pdl_semantics.specs.Flatten.{Var, var_of, mem_of, mem_width, width_of, flat_expr, flat_exprs, is_advisory_mem, is_advised}
use Rattle.pdl_rules.specs.Parts.{some_part, some_expr_of, location_of}
use Rattle.pdl_rules.specs.Names.{OfVariable, Use, reads_some}
use Rattle.pdl_rules.specs.Typed.{is_named}
use Rattle.pdl_theory_turns.specs.Facts.{uses_in, uses_any, mentions_var}
use Rattle.pdl_source_stages.proofs.Sites.{Site, All}
use Rattle.pdl_source_stages.proofs.SiteFacts.{either_read, either_bind, either_write}
use Rattle.pdl_source_paths.proofs.Numbers.{var_low}
use Rattle.pdl_source_paths.proofs.PathStatements.{ops_of, seen_ops, seen}
use Rattle.pdl_source_paths.proofs.Growth.{Grows, vars_past, past_grown}
use Rattle.pdl_theory_states.specs.Strict.{bound_by, uses_own, is_mentioned, is_new, all_new}
use Rattle.pdl_source_paths.proofs.GuardFacts.{grown_long}

-- EXPRESSIONS

either : (p q u v : Bool) (L : Type 0) → (p || q) ≡ false → (u || v) ≡ true → (p ≡ false → u ≡ true → L) → (q ≡ false → v ≡ true → L) → L
either p q u v L h k f g = at (or_parts p q h) (or_cases u v k)
  where
    at : (p ≡ false) × (q ≡ false) → (u ≡ true) ⊎ (v ≡ true) → L
    at i (inl j) = f i.0 j
    at i (inr j) = g i.1 j

-- of variables that are named all have low numbers
module _ (vs : List Var) (test : Use → Bool) (named : (x : List ℕ) → test (OfVariable x) ≡ false → is_named vs x ≡ true) where
  low_name : (x : List ℕ) (y : ℕ) → test (OfVariable x) ≡ false → (var_of vs x == y) ≡ true → y < length vs
  low_name x y h e = subst (λ n. n < length vs) (eqb-true (var_of vs x) y e) (var_low vs x (named x h))

  -- where an expression uses only names that are there, its flat form uses only variables that are there
  pub expr_low : (e : Expr) → some_part (reads_some test) e ≡ false → (y : ℕ) → uses_in y (flat_expr vs e) ≡ true → y < length vs
  expr_low (Constant l) h y u = absurd (false≢true u)
  expr_low (Variable x) h y u = low_name x.name y h u
  expr_low (Slice x high low) h y u = low_name x.name y h u
  expr_low (Not a) h y u = expr_low a h y u
  expr_low (Binary op a b) h y u = either _ _ _ _ (y < length vs) h u (λ i j. expr_low a i y j) (λ i j. expr_low b i y j)
  expr_low (Cat a b) h y u = either _ _ _ _ (y < length vs) h u (λ i j. expr_low a i y j) (λ i j. expr_low b i y j)
  expr_low (LessSigned a b) h y u = either _ _ _ _ (y < length vs) h u (λ i j. expr_low a i y j) (λ i j. expr_low b i y j)
  expr_low (ZeroExtend a n) h y u = expr_low a h y u
  expr_low (SignExtend a n) h y u = expr_low a h y u
  expr_low (Choose c a b) h y u =
      either _ _ _ _ (y < length vs) h u (λ i j. expr_low c i y j)
      (λ i j. either _ _ _ _ (y < length vs) i j (λ k l. expr_low a k y l) (λ k l. expr_low b k y l))

  -- where expressions use only names that are there, their flat forms use only variables that are there
  pub exprs_low : (es : List Expr) → list_any (some_part (reads_some test)) es ≡ false → (y : ℕ) → uses_any y (flat_exprs vs es) ≡ true → y < length vs
  exprs_low [] h y u = absurd (false≢true u)
  exprs_low (e ∷ es) h y u = either _ _ _ _ (y < length vs) h u (λ i j. expr_low e i y j) (λ i j. exprs_low es i y j)

-- STATEMENTS

-- with which the earlier ones have to do
abbrev pub PastLow : ℕ → List Flat.Op → Type 0
PastLow n past = (x : ℕ) → is_mentioned x past ≡ true → x < n

past_more : (n n' : ℕ) (past : List Flat.Op) → n ≤ n' → PastLow n past → PastLow n' past
past_more n n' past h f x m = let i = f x m in omega arith

-- what follows, after earlier statements that have to do with the first n variables alone
abbrev Follows : ℕ → ℕ → List Flat.Stmt → Type 0
Follows vars n rest = (past : List Flat.Op) → PastLow n past → all_new vars past rest ≡ true

past_with : (n : ℕ) (op : Flat.Op) (past : List Flat.Op)
    → ((x : ℕ) → mentions_var x op ≡ true → x < n) → PastLow n past → PastLow n (op ∷ past)
past_with n op past f h x m = at (or_cases (mentions_var x op) (is_mentioned x past) m)
  where
    at : (mentions_var x op ≡ true) ⊎ (is_mentioned x past ≡ true) → x < n
    at (inl i) = f x i
    at (inr i) = h x i

-- a statement that binds nothing
uses_old : (vars n k : ℕ) (op : Flat.Op) (rest : List Flat.Stmt)
    → bound_by op ≡ None → uses_own op ≡ false → ((x : ℕ) → mentions_var x op ≡ true → x < n) → Follows vars n rest
    → Follows vars n (record { stage = k; guards = []; op = op } ∷ rest)
uses_old vars n k op rest none own f go past low =
    and_from _ _ (and_from _ _ (ap (is_new vars past) none) (ap not own)) (go (op ∷ past) (past_with n op past f low))

-- a statement that binds the next variable
binds_next : (vars n k : ℕ) (op : Flat.Op) (rest : List Flat.Stmt)
    → n < vars → bound_by op ≡ Some n → uses_own op ≡ false → ((x : ℕ) → mentions_var x op ≡ true → x < n + 1)
    → Follows vars (n + 1) rest → Follows vars n (record { stage = k; guards = []; op = op } ∷ rest)
binds_next vars n k op rest room bound own f go past low =
    and_from _ _ (and_from _ _ (ap (is_new vars past) bound ∙ and_from _ _ (lt-ltb _ _ room) (ap not (unmentioned (is_mentioned n past) refl))) (ap not own))
    (go (op ∷ past) (past_with (n + 1) op past f (past_more n (n + 1) past (omega arith) low)))
  where
    unmentioned : (b : Bool) → is_mentioned n past ≡ b → is_mentioned n past ≡ false
    unmentioned true e = absurd (let i = low n e in omega arith)
    unmentioned false e = e

-- what the rules say of a site's names
pub record Uses (vs : List Var) (s : Stmt) : Type 0 where
  pub address : (at : Location) → location_of s ≡ Some at → is_named vs at.address.name ≡ true
  pub test : Use → Bool
  pub named : (x : List ℕ) → test (OfVariable x) ≡ false → is_named vs x ≡ true
  pub expressions : some_expr_of (some_part (reads_some test)) s ≡ false

module _ (vars k : ℕ) (ms : List Mem) (vs : List Var) (rest : List Flat.Stmt) where
  -- a variable that is bound after those that are there
  one_more : (v : Var) → length (vs ++ v ∷ []) ≡ length vs + 1
  one_more v = length-append vs (v ∷ [])

  low_or : (y : ℕ) (b : Bool) → (b ≡ true → y < length vs) → ((length vs == y) || b) ≡ true → y < length vs + 1
  low_or y b f h = at (or_cases (length vs == y) b h)
    where
      at : ((length vs == y) ≡ true) ⊎ (b ≡ true) → y < length vs + 1
      at (inl e) = let i = eqb-true (length vs) y e in omega arith
      at (inr e) = let i = f e in omega arith

  unused : (b : Bool) → (b ≡ true → length vs < length vs) → b ≡ false
  unused true f = absurd (let i = f refl in omega arith)
  unused false f = refl

  module _ (v : Var) (room : length (vs ++ v ∷ []) ≤ vars) (go : Follows vars (length (vs ++ v ∷ [])) rest) where
    bind_new : (e : Flat.Expr) → ((y : ℕ) → uses_in y e ≡ true → y < length vs)
        → Follows vars (length vs) (record { stage = k; guards = []; op = Flat.Bind (length vs) e } ∷ rest)
    bind_new e f =
        binds_next vars (length vs) k (Flat.Bind (length vs) e) rest (let i = one_more v in omega arith) refl (unused (uses_in (length vs) e) (f (length vs)))
        (λ y h. low_or y (uses_in y e) (f y) h) (subst (λ n. Follows vars n rest) (one_more v) go)

    read_new : (m a : ℕ) → a < length vs → Follows vars (length vs) (record { stage = k; guards = []; op = Flat.CombRead (length vs) m a } ∷ rest)
    read_new m a low =
        binds_next vars (length vs) k (Flat.CombRead (length vs) m a) rest (let i = one_more v in omega arith) refl
        (ne_eqb a (length vs) (λ e. absurd (omega arith)))
        (λ y h. low_or y (a == y) (λ e. subst (λ n. n < length vs) (eqb-true a y e) low) h) (subst (λ n. Follows vars n rest) (one_more v) go)

  -- one that binds an advised variable
  advice_new : (v : Var) (op : Flat.Op)
      → bound_by op ≡ None → uses_own op ≡ false → ((x : ℕ) → mentions_var x op ≡ true → x < length vs)
      → Follows vars (length (vs ++ v ∷ [])) rest → Follows vars (length vs) (record { stage = k; guards = []; op = op } ∷ rest)
  advice_new v op none own f go =
      uses_old vars (length vs) k op rest none own f
      (λ past low. go past (past_more (length vs) (length (vs ++ v ∷ [])) past (let i = one_more v in omega arith) low))

  low_var : (a y : ℕ) → a < length vs → (a == y) ≡ true → y < length vs
  low_var a y low e = subst (λ n. n < length vs) (eqb-true a y e) low

  -- after statements that have to do with earlier variables alone, a statement binds a new variable, and so does what follows it
  pub site_new : (s : Stmt) → Uses vs s → length (vars_past ms vs s) ≤ vars
      → Follows vars (length (vars_past ms vs s)) rest → Follows vars (length vs) (seen_ops k (ops_of ms vs s) ++ rest)
  site_new (Separator sp) u room go = go
  site_new (CombRead sp x from) u room go =
      either_read (λ op. Follows vars (length vs) (seen_ops k (op ∷ []) ++ rest)) (is_advisory_mem ms from.mem.name) (length vs) (mem_of ms from.mem.name)
      (var_of vs from.address.name)
      (advice_new (record { name = x.name; width = mem_width ms from.mem.name; advised = is_advisory_mem ms from.mem.name })
      (Flat.AdviceRead (length vs) (mem_of ms from.mem.name) (var_of vs from.address.name)) refl refl (λ y h. absurd (false≢true h)) go)
      (
      read_new (record { name = x.name; width = mem_width ms from.mem.name; advised = is_advisory_mem ms from.mem.name }) room go (mem_of ms from.mem.name)
      (var_of vs from.address.name) (var_low vs from.address.name (u.address from refl)))
  site_new (Bind sp x e) u room go =
      either_bind (λ op. Follows vars (length vs) (seen_ops k (op ∷ []) ++ rest)) (is_advised vs e) (length vs) (flat_expr vs e)
      (advice_new (record { name = x.name; width = width_of vs e; advised = is_advised vs e }) (Flat.AdviceBind (length vs) (flat_expr vs e)) refl refl
      (λ y h. absurd (false≢true h)) go)
      (
      bind_new (record { name = x.name; width = width_of vs e; advised = is_advised vs e }) room go (flat_expr vs e)
      (expr_low vs u.test u.named e u.expressions))
  site_new (SpecCall sp g args) u room go =
      uses_old vars (length vs) k (Flat.SpecCall (flat_exprs vs args)) rest refl refl (exprs_low vs u.test u.named args u.expressions) go
  site_new (DelayedRead sp x from) u room go =
      read_new (record { name = x.name; width = mem_width ms from.mem.name; advised = false }) room go (mem_of ms from.mem.name)
      (var_of vs from.address.name) (var_low vs from.address.name (u.address from refl))
  site_new (Write sp to e) u room go =
      either_write (λ op. Follows vars (length vs) (seen_ops k (op ∷ []) ++ rest)) (is_advisory_mem ms to.mem.name) (mem_of ms to.mem.name)
      (var_of vs to.address.name) (flat_expr vs e)
      (uses_old vars (length vs) k (Flat.AdviceWrite (mem_of ms to.mem.name) (var_of vs to.address.name) (flat_expr vs e)) rest refl refl
      (λ y h. absurd (false≢true h)) go)
      (
      uses_old vars (length vs) k
      (Flat.Write (mem_of ms to.mem.name) (var_of vs to.address.name) (flat_expr vs e)) rest refl refl
      (λ y h. at y (or_cases (var_of vs to.address.name == y) (uses_in y (flat_expr vs e)) h)) go)
    where
      at : (y : ℕ) → ((var_of vs to.address.name == y) ≡ true) ⊎ (uses_in y (flat_expr vs e) ≡ true) → y < length vs
      at y (inl i) = low_var (var_of vs to.address.name) y (var_low vs to.address.name (u.address to refl)) i
      at y (inr i) = expr_low vs u.test u.named e u.expressions y i
  site_new (Reserve sp at R) u room go =
      uses_old vars (length vs) k (Flat.ReserveRead (mem_of ms at.mem.name) (var_of vs at.address.name)) rest refl refl (λ y h. absurd (false≢true h)) go
  site_new (Reserve sp at W) u room go =
      uses_old vars (length vs) k (Flat.ReserveWrite (mem_of ms at.mem.name) (var_of vs at.address.name)) rest refl refl
      (λ y h. low_var (var_of vs at.address.name) y (var_low vs at.address.name (u.address at refl)) h) go
  site_new (Block sp at) u room go =
      uses_old vars (length vs) k (Flat.Block (mem_of ms at.mem.name) (var_of vs at.address.name)) rest refl refl
      (λ y h. low_var (var_of vs at.address.name) y (var_low vs at.address.name (u.address at refl)) h) go
  site_new (Release sp at) u room go =
      uses_old vars (length vs) k (Flat.Release (mem_of ms at.mem.name) (var_of vs at.address.name)) rest refl refl (λ y h. absurd (false≢true h)) go
  site_new (If sp (Variable x) when otherwise) u room go = go
  site_new (If sp (Constant l) when otherwise) u room go =
      bind_new (record { name = []; width = 1; advised = false }) room go (flat_expr vs (Constant l)) (expr_low vs u.test u.named (Constant l) u.expressions)
  site_new (If sp (Slice x high low) when otherwise) u room go =
      bind_new (record { name = []; width = 1; advised = false }) room go (flat_expr vs (Slice x high low))
      (expr_low vs u.test u.named (Slice x high low) u.expressions)
  site_new (If sp (Not a) when otherwise) u room go =
      bind_new (record { name = []; width = 1; advised = false }) room go (flat_expr vs (Not a)) (expr_low vs u.test u.named (Not a) u.expressions)
  site_new (If sp (Binary op a b) when otherwise) u room go =
      bind_new (record { name = []; width = 1; advised = false }) room go (flat_expr vs (Binary op a b))
      (expr_low vs u.test u.named (Binary op a b) u.expressions)
  site_new (If sp (Cat a b) when otherwise) u room go =
      bind_new (record { name = []; width = 1; advised = false }) room go (flat_expr vs (Cat a b)) (expr_low vs u.test u.named (Cat a b) u.expressions)
  site_new (If sp (LessSigned a b) when otherwise) u room go =
      bind_new (record { name = []; width = 1; advised = false }) room go (flat_expr vs (LessSigned a b))
      (expr_low vs u.test u.named (LessSigned a b) u.expressions)
  site_new (If sp (ZeroExtend a n) when otherwise) u room go =
      bind_new (record { name = []; width = 1; advised = false }) room go (flat_expr vs (ZeroExtend a n))
      (expr_low vs u.test u.named (ZeroExtend a n) u.expressions)
  site_new (If sp (SignExtend a n) when otherwise) u room go =
      bind_new (record { name = []; width = 1; advised = false }) room go (flat_expr vs (SignExtend a n))
      (expr_low vs u.test u.named (SignExtend a n) u.expressions)
  site_new (If sp (Choose c a b) when otherwise) u room go =
      bind_new (record { name = []; width = 1; advised = false }) room go (flat_expr vs (Choose c a b))
      (expr_low vs u.test u.named (Choose c a b) u.expressions)
  site_new (Call sp args) u room go =
      uses_old vars (length vs) k (Flat.Call (flat_exprs vs args)) rest refl refl (exprs_low vs u.test u.named args u.expressions) go
  site_new (Verify sp g args) u room go =
      uses_old vars (length vs) k (Flat.Verify true (flat_exprs vs args)) rest refl refl (exprs_low vs u.test u.named args u.expressions) go
  site_new (Update sp g args) u room go =
      uses_old vars (length vs) k (Flat.Verify false (flat_exprs vs args)) rest refl refl (exprs_low vs u.test u.named args u.expressions) go
  site_new (SpecCheck sp) u room go = uses_old vars (length vs) k (Flat.SpecCheck) rest refl refl (λ y h. absurd (false≢true h)) go
  site_new (SpecBarrier sp) u room go = uses_old vars (length vs) k (Flat.SpecBarrier) rest refl refl (λ y h. absurd (false≢true h)) go

-- A PATH

grows_length : (ms : List Mem) (vs us : List Var) (ts : List Site) → Grows ms vs ts us → length vs ≤ length us
grows_length ms vs us [] h = grown_long vs us h
grows_length ms vs us (t ∷ ts) h =
    let a = grown_long vs t.walk.vars h.0 in
    let b = grown_long t.walk.vars (vars_past ms t.walk.vars t.stmt) (past_grown ms t.walk.vars t.stmt) in
    let c = grows_length ms (vars_past ms t.walk.vars t.stmt) us ts h.1 in
    omega arith

-- each flat statement of these sites binds a variable, if any, with which no earlier one has to do
pub sites_new : (vars : ℕ) (ms : List Mem) (vs us : List Var) (ts : List Site) → Grows ms vs ts us
    → length us ≤ vars → All (λ t. Uses t.walk.vars t.stmt) ts → (past : List Flat.Op) → PastLow (length vs) past
    → all_new vars past (seen ms ts) ≡ true
sites_new vars ms vs us [] g room u past low = refl
sites_new vars ms vs us (t ∷ ts) g room u past low =
    site_new vars t.walk.stage ms t.walk.vars (seen ms ts) t.stmt u.0 (let i = grows_length ms (vars_past ms t.walk.vars t.stmt) us ts g.1 in omega arith)
    (sites_new vars ms (vars_past ms t.walk.vars t.stmt) us ts g.1 room u.1)
    past (past_more (length vs) (length t.walk.vars) past (grown_long vs t.walk.vars g.0) low)
