-- The delayed reads of a stage: nothing after one in its stage has to do with its variable, and no two have one memory or one variable.
use Rattle.std.proofs.Common.{◌≡◌, refl, sym, ap, ◌∙◌, subst, ℕ, suc, ◌<◌, inl, inr, Bool, true, false, ◌&&◌, ◌||◌, not, List, [], ◌∷◌, ◌++◌, length, length-append, Option, Some, None, cond, ◌==◌, arith, eq-eqb}
use Rattle.std.proofs.lemmas.Bool.{false≢true, and_from, or_parts, or_left, or_right, eqb-true, both_ways}
use Rattle.std.proofs.lemmas.List.Folds.{list_any-append}
use Rattle.std.specs.List.{list_any}
use Rattle.pdl_semantics.specs.Tree.{R, W, Variable, Stmt, CombRead, Bind, Write, DelayedRead, Reserve, If, Mem, Pipe}
use Rattle.pdl_semantics.specs.Flat
use Rattle.pdl_semantics.specs.Flat.{all_hold}
use Rattle.pdl_semantics.specs.Flatten.{Var, mem_width, flat, params_of, var_of, mem_of, flat_expr, is_advisory_mem, is_advised}
use Rattle.pdl_semantics.specs.Stages.{in_stage}
use Rattle.pdl_kit.specs.declared.rule.Rule.TheVariants.{N3, F3}
use Rattle.pdl_rules.specs.Places.{Statement, places}
use Rattle.pdl_rules.specs.Names.{OfVariable, defines_use, is_delayed, is_too_early, some_use}
use Rattle.pdl_rules.specs.Stages.{stage_in, stage_after}
use Rattle.pdl_rules.specs.Forks
use Rattle.pdl_rules.specs.Refusal.{KeepsRules}
use Rattle.pdl_theory_turns.specs.Scans.{binds_var, is_dead}
use Rattle.pdl_theory_turns.specs.Facts.{asks_for, mentions_var, silent_on, unseen_op, is_unseen, fetches_no, none_like, alone_op, fetch_apart}
use Rattle.pdl_source_stages.proofs.Sites.{Site, sites_of, place_of, owns, All, stmts_are}
use Rattle.pdl_source_stages.proofs.Walks.{names, names_append}
use Rattle.pdl_source_stages.proofs.SiteFacts.{op_of, rows_of, own_is, from_op, row_at, read_none, bind_none, write_none}
use Rattle.pdl_source_stages.proofs.Firsts.{known_one}
use Rattle.pdl_source_stages.proofs.ForkSites.{Order, Before, Same, After, order}
use Rattle.pdl_source_stages.proofs.ForkVars
use Rattle.pdl_source_stages.proofs.Homes
use Rattle.pdl_source_paths.specs.Source.{are_apart}
use Rattle.pdl_source_paths.proofs.Growth.{Grown, Grows, vars_past, past_grown, grown_same, grown_more, grows_all}
use Rattle.pdl_source_paths.proofs.GuardPaths.{AllGuards, some_path}
use Rattle.pdl_source_paths.proofs.SiteFacts.{long}
use Rattle.pdl_source_paths.proofs.SiteGuards.{Guarded, used_here}
use Rattle.pdl_source_paths.proofs.GuardFacts.{Told, no_cut, fetch_delayed, all_told}
use Rattle.pdl_source_paths.proofs.Uses.{AtStmt, mention}
use Rattle.pdl_word.proofs.Bytes.{bytes_same}
use Rattle.pdl_semantics.specs.Sound.{is_fetch}
use Rattle.pdl_word.specs.Each.{Each}

-- each two of some statements, in text order
abbrev Pairs : (Flat.Stmt → Flat.Stmt → Type 0) → List Flat.Stmt → Type 0
Pairs P [] = Unit {0}
Pairs P (z ∷ ys) = Each (P z) ys × Pairs P ys

-- each two sites with statements in one stage
abbrev ByTwo : Pipe → ℕ → (Flat.Stmt → Flat.Stmt → Type 0) → Type 0
ByTwo p s P =
    (t u : Site) → Told p t → Told p u → Grown (vars_past p.mems t.walk.vars t.stmt) u.walk.vars → (op o : Flat.Op)
    → op_of p.mems t.walk.vars t.stmt ≡ Some op → op_of p.mems u.walk.vars u.stmt ≡ Some o
    → t.walk.stage ≡ s → u.walk.stage ≡ s → P (row_at t op) (row_at u o)

module _ (p : Pipe) (s : ℕ) (P : Flat.Stmt → Flat.Stmt → Type 0) (two : ByTwo p s P) where
  after : (t : Site) → Told p t → (op : Flat.Op) → op_of p.mems t.walk.vars t.stmt ≡ Some op → t.walk.stage ≡ s
      → (vs us : List Var) (ts : List Site) → Grown (vars_past p.mems t.walk.vars t.stmt) vs → Grows p.mems vs ts us
      → All (Told p) ts
      → Each (P (row_at t op)) (in_stage s (owns p.mems ts))
  after t h op e here vs us [] g k l = tt
  after t h op e here vs us (u ∷ ts) g k l =
      let up = grown_more (vars_past p.mems t.walk.vars t.stmt) vs u.walk.vars g k.0 in
      subst (λ r. Each (P (row_at t op)) (in_stage s (r ++ owns p.mems ts))) (sym (own_is p.mems u.gs u.walk u.stmt))
      (at (op_of p.mems u.walk.vars u.stmt) refl up
      (after t h op e here (vars_past p.mems u.walk.vars u.stmt) us ts
      (grown_more (vars_past p.mems t.walk.vars t.stmt) u.walk.vars (vars_past p.mems u.walk.vars u.stmt) up
      (past_grown p.mems u.walk.vars u.stmt)) k.1 l.1))
    where
      at : (o : Option Flat.Op) → op_of p.mems u.walk.vars u.stmt ≡ o
          → Grown (vars_past p.mems t.walk.vars t.stmt) u.walk.vars
          → Each (P (row_at t op)) (in_stage s (owns p.mems ts))
          → Each (P (row_at t op)) (in_stage s (rows_of u.gs u.walk o ++ owns p.mems ts))
      at None f up r = r
      at (Some o) f up r = by (u.walk.stage == s) refl
        where
          by : (b : Bool) → (u.walk.stage == s) ≡ b → Each (P (row_at t op)) (cond b (row_at u o ∷ in_stage s (owns p.mems ts)) (in_stage s (owns p.mems ts)))
          by true i = (two t u h l.0 up op o e f here (eqb-true u.walk.stage s i), r)
          by false i = r

  all_pairs : (vs us : List Var) (ts : List Site) → Grows p.mems vs ts us → All (Told p) ts → Pairs P (in_stage s (owns p.mems ts))
  all_pairs vs us [] k l = tt
  all_pairs vs us (t ∷ ts) k l =
      subst (λ r. Pairs P (in_stage s (r ++ owns p.mems ts))) (sym (own_is p.mems t.gs t.walk t.stmt))
      (at (op_of p.mems t.walk.vars t.stmt) refl (all_pairs (vars_past p.mems t.walk.vars t.stmt) us ts k.1 l.1))
    where
      at : (o : Option Flat.Op) → op_of p.mems t.walk.vars t.stmt ≡ o → Pairs P (in_stage s (owns p.mems ts))
          → Pairs P (in_stage s (rows_of t.gs t.walk o ++ owns p.mems ts))
      at None e r = r
      at (Some op) e r = by (t.walk.stage == s) refl
        where
          by : (b : Bool) → (t.walk.stage == s) ≡ b → Pairs P (cond b (row_at t op ∷ in_stage s (owns p.mems ts)) (in_stage s (owns p.mems ts)))
          by true i = (
            after t l.0 op e (eqb-true t.walk.stage s i)
                (vars_past p.mems t.walk.vars t.stmt) us ts (grown_same (vars_past p.mems t.walk.vars t.stmt)) k.1 l.1,
            r,
          )
          by false i = r

-- what a delayed read has after it
abbrev Unseen : Flat.Stmt → Flat.Stmt → Type 0
Unseen z y = (x m a : ℕ) → z.op ≡ Flat.DelayedRead x m a → (is_dead y.guards || (not (asks_for x y.guards) && not (mentions_var x y.op))) ≡ true

abbrev Alone : Flat.Stmt → Flat.Stmt → Type 0
Alone z y = (x m a : ℕ) → z.op ≡ Flat.DelayedRead x m a → fetches_no x m y.op ≡ true

find_asked : (P : Flat.Guard → Type 0) (x : ℕ) (gs : List Flat.Guard) → AllGuards P gs
    → asks_for x gs ≡ true → (g : Flat.Guard) × P g × (g.var ≡ x)
find_asked P x [] h e = absurd (false≢true e)
find_asked P x (g ∷ gs) h e = at (g.var == x) refl e (find_asked P x gs h.1)
  where
    at : (b : Bool) → (g.var == x) ≡ b → (b || asks_for x gs) ≡ true
        → (asks_for x gs ≡ true → (k : Flat.Guard) × P k × (k.var ≡ x)) → (k : Flat.Guard) × P k × (k.var ≡ x)
    at true f i go = (g, h.0, eqb-true g.var x f)
    at false f i go = go i

-- a delayed read binds the next variable
fetch_grows : (ms : List Mem) (t : Site) (x m a : ℕ)
    → op_of ms t.walk.vars t.stmt ≡ Some (Flat.DelayedRead x m a)
    → (length t.walk.vars ≡ x) × (length (vars_past ms t.walk.vars t.stmt) ≡ suc (length t.walk.vars))
fetch_grows ms t x m a e = (ForkVars.bound_last ms t.walk.vars t.stmt x (ap (from_op (binds_var x)) e ∙ eq-eqb x x refl), at t.stmt (ap (from_op is_fetch) e))
  where
    at : (s : Stmt) → from_op is_fetch (op_of ms t.walk.vars s) ≡ true → length (vars_past ms t.walk.vars s) ≡ suc (length t.walk.vars)
    at (DelayedRead sp y l) f =
        let a = length-append t.walk.vars (record { name = y.name; width = mem_width ms l.mem.name; advised = false } ∷ []) in omega arith
    at (If sp (Variable y) when otherwise) f = absurd (false≢true f)
    at (If sp c when otherwise) f = absurd (false≢true f)
    at (Reserve sp l R) f = absurd (false≢true f)
    at (Reserve sp l W) f = absurd (false≢true f)
    at (CombRead sp x l) f =
        absurd
        (false≢true (sym (read_none is_fetch (is_advisory_mem ms l.mem.name) (length t.walk.vars) (mem_of ms l.mem.name)
        (var_of t.walk.vars l.address.name) refl refl) ∙ f))
    at (Bind sp x v) f = absurd (false≢true (sym (bind_none is_fetch (is_advised t.walk.vars v) (length t.walk.vars) (flat_expr t.walk.vars v) refl refl) ∙ f))
    at (Write sp l v) f =
        absurd
        (false≢true (sym (write_none is_fetch (is_advisory_mem ms l.mem.name) (mem_of ms l.mem.name) (var_of t.walk.vars l.address.name)
        (flat_expr t.walk.vars v) refl refl) ∙ f))
    at _ f = absurd (false≢true f)

module _ (p : Pipe) (rules : KeepsRules p) (apart : are_apart (places p) ≡ true)
    (named : list_any (defines_use (OfVariable [])) (places p) ≡ false) (s : ℕ) where
  -- N3
  not_seen : ByTwo p s Unseen
  not_seen t u h k g op o e f here there x m a i = by (is_dead u.gs) refl
    where
      read : op_of p.mems t.walk.vars t.stmt ≡ Some (Flat.DelayedRead x m a)
      read = e ∙ ap Some i

      binds_it : from_op (binds_var x) (op_of p.mems t.walk.vars t.stmt) ≡ true
      binds_it = ap (from_op (binds_var x)) read ∙ eq-eqb x x refl

      delayed : is_delayed (place_of t) ≡ true
      delayed = fetch_delayed p.mems t.walk.vars t.stmt t.branches (Flat.DelayedRead x m a) read refl

      live : (env : List ℕ) × (all_hold u.gs env ≡ true) → (not (asks_for x u.gs) && not (mentions_var x o)) ≡ true
      live env = and_from _ _ (asked (asks_for x u.gs) refl) (used (mentions_var x o) refl)
        where
          asked : (b : Bool) → asks_for x u.gs ≡ b → not b ≡ true
          asked false j = refl
          asked true j =
              let r = find_asked (Guarded p u) x u.gs k.guards j in
              let b =
              (r.1.bound env.0 (no_cut p.mems u.walk.vars u.stmt u.branches o f) env.1 t h.known
              (ap (λ n. from_op (binds_var n) (op_of p.mems t.walk.vars t.stmt)) r.2 ∙ binds_it)).2 delayed in
              absurd (omega arith)

          by_name : AtStmt u.walk.vars x u.stmt → ⊥
          by_name (inl j) =
              let q = fetch_grows p.mems t x m a read in
              let l = ap length g.1 in
              let v = length-append (vars_past p.mems t.walk.vars t.stmt) g.0 in
              let w = q.0 in
              let z = q.1 in
              omega arith
          by_name (inr j) =
              let b =
              (used_here p rules named u t k.known k.settled h.known j.0
              (early (is_too_early p u.front (place_of u) (OfVariable j.0)) refl) env.0
              (no_cut p.mems u.walk.vars u.stmt u.branches o f) env.1
              (ap (λ n. from_op (binds_var n) (op_of p.mems t.walk.vars t.stmt)) j.1 ∙ binds_it)).2 delayed in
              omega arith
            where
              early : (b : Bool) → is_too_early p u.front (place_of u) (OfVariable j.0) ≡ b → b ≡ false
              early false q = refl
              early true q =
                  absurd
                  (both_ways (some_use (is_too_early p u.front (place_of u)) (place_of u))
                  (rules N3 u.front (place_of u) k.known.fine.later k.known.fine.whole)
                  (j.2 (is_too_early p u.front (place_of u)) u.branches q))

          used : (b : Bool) → mentions_var x o ≡ b → not b ≡ true
          used false j = refl
          used true j = absurd (by_name (mention p.mems u.walk.vars u.stmt x (ap (from_op (mentions_var x)) f ∙ j)))

      by : (b : Bool) → is_dead u.gs ≡ b → (b || (not (asks_for x u.gs) && not (mentions_var x o))) ≡ true
      by true j = refl
      by false j = live (some_path u.gs j)

  -- F3, and each variable has its own number
  one_read : ByTwo p s Alone
  one_read t u h k g op o e f here there x m a i = at o f
    where
      read : op_of p.mems t.walk.vars t.stmt ≡ Some (Flat.DelayedRead x m a)
      read = e ∙ ap Some i

      low : (length t.walk.vars ≡ x) × (length t.walk.vars < length u.walk.vars)
      low =
          let q = fetch_grows p.mems t x m a read in
          let l = ap length g.1 in
          let v = length-append (vars_past p.mems t.walk.vars t.stmt) g.0 in
          let z = q.1 in
          (q.0, omega arith)

      -- it stands before
      twice : (n : List ℕ) → Forks.breaks_fetch_order n (place_of t) ≡ true → Forks.breaks_fetch_order n (place_of u) ≡ true → ⊥
      twice n q r = by (order p t u h.known.fine k.known.fine)
        where
          third : list_any (Forks.breaks_fetch_order n) u.front ≡ false
          third = stmt u.stmt refl r
            where
              stmt : (z : Stmt) → u.stmt ≡ z → Forks.breaks_fetch_order n (Statement z u.branches) ≡ true
                  → list_any (Forks.breaks_fetch_order n) u.front ≡ false
              stmt (DelayedRead sp y l) j c =
                  let name = bytes_same l.mem.name n c in
                  ap (λ v. list_any (Forks.breaks_fetch_order v) u.front) (sym name)
                  ∙ (or_parts (stage_in u.front u.branches == stage_after (places p)) (list_any (Forks.breaks_fetch_order l.mem.name) u.front)
                  (ap (λ v. Forks.breaks_f3 p u.front (Statement v u.branches)) (sym j)
                  ∙ rules F3 u.front (place_of u) k.known.fine.later k.known.fine.whole)).1
              stmt _ j c = absurd (false≢true c)

          by : Order t u → ⊥
          by (Before l j) =
              both_ways (list_any (Forks.breaks_fetch_order n) u.front) third
              (ap (list_any (Forks.breaks_fetch_order n)) j
              ∙ list_any-append (Forks.breaks_fetch_order n) t.front (place_of t ∷ l)
              ∙ or_right _ _ (or_left (Forks.breaks_fetch_order n (place_of t)) _ q))
          by (Same j l) = let a = long p rules t h.known in let b = long p rules u k.known in
              let c = ap (λ v. length (names v)) j in let d = low.1 in omega arith
          by (After l j) =
              let a = long p rules t h.known in
              let b = long p rules u k.known in
              let c = ap length (ap names j ∙ names_append u.front (place_of u ∷ l)) in
              let v = length-append (names u.front) (names (place_of u ∷ l)) in
              let d = low.1 in
              omega arith

      memory : (y n b : ℕ) → op_of p.mems u.walk.vars u.stmt ≡ Some (Flat.DelayedRead y n b) → m ≡ n → ⊥
      memory y n b j c =
          let q = Homes.fetch_named p rules t h.known.fine m (Flat.DelayedRead x m a) read (eq-eqb m m refl) in
          let r = Homes.fetch_named p rules u k.known.fine n (Flat.DelayedRead y n b) j (eq-eqb n n refl) in
          let same = known_one p.mems q.0 r.0 q.1 r.1 (q.2 ∙ c ∙ sym r.2) in
          twice q.0 q.3 (ap (λ v. Forks.breaks_fetch_order v (place_of u)) same ∙ r.3)

      at : (w : Flat.Op) → op_of p.mems u.walk.vars u.stmt ≡ Some w → fetches_no x m w ≡ true
      at (Flat.DelayedRead y n b) j = and_from _ _ (first (x == y) refl) (second (m == n) refl)
        where
          first : (c : Bool) → (x == y) ≡ c → not c ≡ true
          first false q = refl
          first true q = absurd (let r = (fetch_grows p.mems u y n b j).0 in let z = eqb-true x y q in let d = low.0 in let l = low.1 in omega arith)

          second : (c : Bool) → (m == n) ≡ c → not c ≡ true
          second false q = refl
          second true q = absurd (memory y n b j (eqb-true m n q))
      at _ j = refl

  pairs_of : (P : Flat.Stmt → Flat.Stmt → Type 0) → ByTwo p s P → Pairs P (in_stage s (flat p).stmts)
  pairs_of P two =
      subst (λ l. Pairs P (in_stage s l)) (sym (stmts_are p))
      (all_pairs p s P two (params_of p.params) _ (sites_of p) (grows_all p) (all_told p rules apart named))

  unseen_pairs : (xs : List Flat.Stmt) → Pairs Unseen xs → is_unseen xs ≡ true
  unseen_pairs [] h = refl
  unseen_pairs (z ∷ ys) h = and_from _ _ (at z.op refl) (unseen_pairs ys h.1)
    where
      silent : (x m a : ℕ) → z.op ≡ Flat.DelayedRead x m a → (us : List Flat.Stmt) → Each (Unseen z) us → silent_on x us ≡ true
      silent x m a e [] k = refl
      silent x m a e (y ∷ us) k = and_from _ _ (k.0 x m a e) (silent x m a e us k.1)

      at : (op : Flat.Op) → z.op ≡ op → unseen_op op ys ≡ true
      at (Flat.DelayedRead x m a) e = silent x m a e ys h.0
      at _ e = refl

  apart_pairs : (xs : List Flat.Stmt) → Pairs Alone xs → fetch_apart xs ≡ true
  apart_pairs [] h = refl
  apart_pairs (z ∷ ys) h = and_from _ _ (at z.op refl) (apart_pairs ys h.1)
    where
      none : (x m a : ℕ) → z.op ≡ Flat.DelayedRead x m a → (us : List Flat.Stmt) → Each (Alone z) us → none_like x m us ≡ true
      none x m a e [] k = refl
      none x m a e (y ∷ us) k = and_from _ _ (k.0 x m a e) (none x m a e us k.1)

      at : (op : Flat.Op) → z.op ≡ op → alone_op op ys ≡ true
      at (Flat.DelayedRead x m a) e = none x m a e ys h.0
      at _ e = refl

  -- no statement after a delayed read in its stage has to do with its variable
  pub fetch_unseen : is_unseen (in_stage s (flat p).stmts) ≡ true
  fetch_unseen = unseen_pairs (in_stage s (flat p).stmts) (pairs_of Unseen not_seen)

  -- each two delayed reads of a stage have different variables and different memories
  pub fetch_alone : fetch_apart (in_stage s (flat p).stmts) ≡ true
  fetch_alone = apart_pairs (in_stage s (flat p).stmts) (pairs_of Alone one_read)
