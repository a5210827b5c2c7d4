-- What a stage reads delayed decides no guard, on a path, of a statement before the stage where it is bound.
use Rattle.std.proofs.Common.{◌≡◌, refl, sym, ap, ap₂, ◌∙◌, subst, ℕ, suc, ◌<◌, Bool, true, false, ◌&&◌, List, [], ◌∷◌, length, Some, cond, if◌then◌else◌, ◌==◌, nat_lt, arith, ltb-true, lt-ltb}
use Rattle.std.proofs.lemmas.Bool.{false≢true, both_ways}
use Rattle.std.specs.List.{list_any}
use Rattle.pdl_semantics.specs.Tree.{Pipe}
use Rattle.pdl_semantics.specs.Flat
use Rattle.pdl_semantics.specs.Flat.{all_hold, takes_branch}
use Rattle.pdl_semantics.specs.Flatten.{flat}
use Rattle.pdl_semantics.specs.Stages.{onpath, in_stage, stage_at, goes_to}
use Rattle.pdl_rules.specs.Places.{places}
use Rattle.pdl_rules.specs.Names.{OfVariable, defines_use}
use Rattle.pdl_rules.specs.Refusal.{KeepsRules}
use Rattle.pdl_theory_turns.specs.Alone.{before, answered_op}
use Rattle.pdl_theory_turns.specs.Scans.{none_of, binds_var}
use Rattle.pdl_theory_turns.specs.Graphs.{stage_or, next_of}
use Rattle.pdl_theory_turns.specs.Facts.{is_fetch_of, DifferIn, visits_stage}
use Rattle.pdl_source_stages.specs.StageFacts.{StageFacts}
use Rattle.pdl_source_stages.proofs.Facts.{stage_facts}
use Rattle.pdl_source_stages.proofs.Sites.{Site, sites_of}
use Rattle.pdl_source_stages.proofs.SiteStages.{all_map}
use Rattle.pdl_source_stages.proofs.Trunks.{guarded_comes}
use Rattle.pdl_source_stages.proofs.SiteFacts.{each_stmt, each_in_stage, none_each, AtSite, op_of, from_op, row_at}
use Rattle.pdl_source_paths.specs.Source.{are_apart}
use Rattle.pdl_source_paths.proofs.GuardPaths.{AllGuards, guards_map}
use Rattle.pdl_source_paths.proofs.SiteFacts.{Known, fork_seen}
use Rattle.pdl_source_paths.proofs.SiteGuards.{Guarded}
use Rattle.pdl_source_paths.proofs.GuardFacts.{Told, no_cut, fetch_delayed, all_told}
use Rattle.pdl_semantics.specs.Sound.{is_fetch}
use Rattle.pdl_word.specs.Each.{Each}

-- A SITE ON A PATH

-- the path comes to its stage
pub visited : (p : Pipe) (t : Site) → Known p t → (env : List ℕ) → all_hold t.gs env ≡ true → visits_stage (flat p) env t.walk.stage ≡ true
visited p t h env tk = guarded_comes (flat p) t.gs env (stage_at (flat p) t.walk.stage).branches h.fine.standing.guarded tk

-- STATEMENTS THAT A PATH PASSES OVER

each_low : (k : ℕ) (xs : List Flat.Stmt) → Each (λ y. y.stage < k) (before k xs)
each_low k [] = tt
each_low k (x ∷ xs) = at (nat_lt x.stage k) refl (each_low k xs)
  where
    at : (b : Bool) → nat_lt x.stage k ≡ b → Each (λ y. y.stage < k) (before k xs)
        → Each (λ y. y.stage < k) (cond b (record x { op = answered_op x.op } ∷ before k xs) (before k xs))
    at true e r = (ltb-true x.stage k e, r)
    at false e r = r

on_before : (env : List ℕ) (n k : ℕ) (xs : List Flat.Stmt)
    → Each (λ y. y.stage < k) (before n (onpath env xs))
    → Each (λ z. all_hold z.guards env ≡ true → z.stage < n → z.stage < k) xs
on_before env n k [] h = tt
on_before env n k (x ∷ xs) h = at (all_hold x.guards env) refl h (on_before env n k xs)
  where
    at : (b : Bool) → all_hold x.guards env ≡ b → Each (λ y. y.stage < k) (before n (cond b (record x { guards = [] } ∷ onpath env xs) (onpath env xs)))
        → (Each (λ y. y.stage < k) (before n (onpath env xs)) → Each (λ z. all_hold z.guards env ≡ true → z.stage < n → z.stage < k) xs)
        → Each (λ z. all_hold z.guards env ≡ true → z.stage < n → z.stage < k) (x ∷ xs)
    at false e i go = ((λ f low. absurd (false≢true (sym e ∙ f))), go i)
    at true e i go = by (nat_lt x.stage n) refl i
      where
        by : (c : Bool) → nat_lt x.stage n ≡ c
            → Each (λ y. y.stage < k) (cond c (record x { guards = []; op = answered_op x.op } ∷ before n (onpath env xs)) (before n (onpath env xs)))
            → Each (λ z. all_hold z.guards env ≡ true → z.stage < n → z.stage < k) (x ∷ xs)
        by true f j = ((λ g low. j.0), go j.1)
        by false f j = ((λ g low. absurd (both_ways (nat_lt x.stage n) f (lt-ltb x.stage n low))), go j)

each_any : {A : Type 0} → (P : A → Flat.Stmt → Type 0) (xs : List Flat.Stmt) → ((a : A) → Each (P a) xs) → Each (λ z. (a : A) → P a z) xs
each_any P [] f = tt
each_any P (x ∷ xs) f = ((λ a. (f a).0), each_any P xs (λ a. (f a).1))

each_with : (P Q : Flat.Stmt → Type 0) (xs : List Flat.Stmt) → Each P xs → Each (λ z. P z → Q z) xs → Each Q xs
each_with P Q [] h k = tt
each_with P Q (x ∷ xs) h k = (k.0 h.0, each_with P Q xs h.1 k.1)

fetch_both : (x : ℕ) (op : Flat.Op) → is_fetch_of x op ≡ true → (binds_var x op ≡ true) × (is_fetch op ≡ true)
fetch_both x (Flat.DelayedRead y m a) e = (e, refl)
fetch_both x _ e = absurd (false≢true e)

taken_alike : (ys : List Flat.Stmt) (gs : List Flat.Guard) (env env' : List ℕ)
    → AllGuards (λ g. none_of (is_fetch_of g.var) ys ≡ true) gs → DifferIn ys env env'
    → all_hold gs env' ≡ all_hold gs env
taken_alike ys [] env env' h d = refl
taken_alike ys (g ∷ gs) env env' h d = ap₂ (λ v b. takes_branch g.first v && b) (d g.var h.0) (taken_alike ys gs env env' h.1 d)

path_before : (n : ℕ) (env env' : List ℕ) (xs : List Flat.Stmt)
    → Each (λ z. z.stage < n → all_hold z.guards env' ≡ all_hold z.guards env) xs
    → onpath env' (before n xs) ≡ onpath env (before n xs)
path_before n env env' [] h = refl
path_before n env env' (x ∷ xs) h = at (nat_lt x.stage n) refl (path_before n env env' xs h.1)
  where
    at : (b : Bool) → nat_lt x.stage n ≡ b → onpath env' (before n xs) ≡ onpath env (before n xs)
        → onpath env' (cond b (record x { op = answered_op x.op } ∷ before n xs) (before n xs))
        ≡ onpath env (cond b (record x { op = answered_op x.op } ∷ before n xs) (before n xs))
    at true e r = ap₂ (λ b l. cond b (record x { guards = []; op = answered_op x.op } ∷ l) l) (h.0 (ltb-true x.stage n e)) r
    at false e r = r

module _ (p : Pipe) (rules : KeepsRules p) (apart : are_apart (places p) ≡ true)
    (named : list_any (defines_use (OfVariable [])) (places p) ≡ false) (s : ℕ) where
  facts : StageFacts (flat p)
  facts = stage_facts p rules

  -- after stage s a path has nothing before its next stage
  abbrev Passed : Flat.Stmt → Type 0
  Passed z =
      (low : s < length (flat p).stages) (env : List ℕ) → visits_stage (flat p) env s ≡ true
      → all_hold z.guards env ≡ true → z.stage < next_of (flat p) s env → z.stage < suc s

  all_passed : Each Passed (flat p).stmts
  all_passed =
      each_any
      (λ (low : s < length (flat p).stages) z. (env : List ℕ) → visits_stage (flat p) env s ≡ true
      → all_hold z.guards env ≡ true → z.stage < next_of (flat p) s env → z.stage < suc s)
      (flat p).stmts
      (λ low. each_any (λ env z. visits_stage (flat p) env s ≡ true → all_hold z.guards env ≡ true → z.stage < next_of (flat p) s env → z.stage < suc s)
      (flat p).stmts
      (λ env. each_any (λ (on : visits_stage (flat p) env s ≡ true) z. all_hold z.guards env ≡ true → z.stage < next_of (flat p) s env → z.stage < suc s)
      (flat p).stmts
      (λ on. on_before env (next_of (flat p) s env) (suc s)
      (flat p).stmts (subst (Each (λ y. y.stage < suc s)) (sym (facts.skips env s low on)) (each_low (suc s) (onpath env (flat p).stmts))))))

  -- so it has no guard there that the stage's delayed reads decide
  clear : (t : Site) → Told p t → (op : Flat.Op) → op_of p.mems t.walk.vars t.stmt ≡ Some op → Passed (row_at t op)
      → (env : List ℕ) → all_hold t.gs env ≡ true → (visits_stage (flat p) env s ≡ true → t.walk.stage < next_of (flat p) s env)
      → AllGuards (λ g. none_of (is_fetch_of g.var) (in_stage s (flat p).stmts) ≡ true) t.gs
  clear t h op e passed env tk low = guards_map (Guarded p t) (λ g. none_of (is_fetch_of g.var) (in_stage s (flat p).stmts) ≡ true) one t.gs h.guards
    where
      one : (g : Flat.Guard) → Guarded p t g → none_of (is_fetch_of g.var) (in_stage s (flat p).stmts) ≡ true
      one g k =
          none_each (is_fetch_of g.var) (in_stage s (flat p).stmts)
          (each_in_stage (λ y. is_fetch_of g.var y.op ≡ false) s (flat p).stmts
          (each_stmt p (λ y. y.stage ≡ s → is_fetch_of g.var y.op ≡ false)
          (all_map (Told p) (AtSite (λ y. y.stage ≡ s → is_fetch_of g.var y.op ≡ false) p.mems)
          (λ y j o f here. by y j o f here (is_fetch_of g.var o) refl) (sites_of p)
          (all_told p rules apart named))))
        where
          by : (y : Site) → Told p y → (o : Flat.Op) → op_of p.mems y.walk.vars y.stmt ≡ Some o → y.walk.stage ≡ s
              → (b : Bool) → is_fetch_of g.var o ≡ b → b ≡ false
          by y j o f here false i = refl
          by y j o f here true i =
              let q = fetch_both g.var o i in
              let r = k.bound env (no_cut p.mems t.walk.vars t.stmt t.branches op e) tk y j.known (ap (from_op (binds_var g.var)) f ∙ q.0) in
              let earlier = r.2 (fetch_delayed p.mems y.walk.vars y.stmt y.branches o f q.1) in
              let on = subst (λ n. visits_stage (flat p) env n ≡ true) here (visited p y j.known env r.1) in
              let last = passed (subst (λ n. n < length (flat p).stages) here j.known.fine.inside) env on tk (low on) in
              absurd (omega arith)

  -- the next stage hangs on none of them either, where a path comes to stage s
  next_same : (env env' : List ℕ) → DifferIn (in_stage s (flat p).stmts) env env' → visits_stage (flat p) env' s ≡ true
      → next_of (flat p) s env' ≡ next_of (flat p) s env
  next_same env env' d on = ap (stage_or (length (flat p).stages)) (at (stage_at (flat p) s).next refl)
    where
      at : (n : Flat.Next) → (stage_at (flat p) s).next ≡ n → goes_to (stage_at (flat p) s).next env' ≡ goes_to (stage_at (flat p) s).next env
      at Flat.Ends e = ap (λ n. goes_to n env') e ∙ sym (ap (λ n. goes_to n env) e)
      at (Flat.Goes to) e = ap (λ n. goes_to n env') e ∙ sym (ap (λ n. goes_to n env) e)
      at (Flat.Forks x a b) e =
          ap (λ n. goes_to n env') e ∙ ap (λ v. Some (if v == 1 then a else b)) (d x (fork_seen p rules apart env' s x a b on e))
          ∙ sym (ap (λ n. goes_to n env) e)

  abbrev Alike : Flat.Stmt → Type 0
  Alike z =
      (env env' : List ℕ) → DifferIn (in_stage s (flat p).stmts) env env' → z.stage < next_of (flat p) s env → all_hold z.guards env' ≡ all_hold z.guards env

  all_alike : Each Alike (flat p).stmts
  all_alike =
      each_with Passed Alike (flat p).stmts all_passed
      (each_stmt p (λ z. Passed z → Alike z) (all_map (Told p) (AtSite (λ z. Passed z → Alike z) p.mems) one (sites_of p) (all_told p rules apart named)))
    where
      one : (t : Site) → Told p t → (op : Flat.Op) → op_of p.mems t.walk.vars t.stmt ≡ Some op → Passed (row_at t op) → Alike (row_at t op)
      one t h op e passed env env' d low = at (all_hold t.gs env) refl (all_hold t.gs env') refl
        where
          at : (a : Bool) → all_hold t.gs env ≡ a → (b : Bool) → all_hold t.gs env' ≡ b → all_hold t.gs env' ≡ all_hold t.gs env
          at true f b g = taken_alike (in_stage s (flat p).stmts) t.gs env env' (clear t h op e passed env f (λ on. low)) d
          at false f true g =
              taken_alike (in_stage s (flat p).stmts) t.gs env env'
              (clear t h op e passed env' g (λ on. subst (λ n. t.walk.stage < n) (sym (next_same env env' d on)) low)) d
          at false f false g = g ∙ sym f

  -- values that differ only in what stage s reads delayed have the same statements on their paths before the next stage
  pub fetch_blind : (env env' : List ℕ) → DifferIn (in_stage s (flat p).stmts) env env'
      → onpath env' (before (next_of (flat p) s env) (flat p).stmts) ≡ onpath env (before (next_of (flat p) s env) (flat p).stmts)
  fetch_blind env env' d =
      path_before (next_of (flat p) s env) env env' (flat p).stmts
      (each_with Alike (λ z. z.stage < next_of (flat p) s env → all_hold z.guards env' ≡ all_hold z.guards env) (flat p).stmts all_alike (keep (flat p).stmts))
    where
      keep : (xs : List Flat.Stmt) → Each (λ z. Alike z → z.stage < next_of (flat p) s env → all_hold z.guards env' ≡ all_hold z.guards env) xs
      keep [] = tt
      keep (x ∷ xs) = ((λ f low. f env env' d low), keep xs)
