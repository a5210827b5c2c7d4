-- A thread with a block or a read of a memory still to do, or a read to bind, is not past the stage of the memory's releases.
use Rattle.std.proofs.Common.{◌≡◌, refl, ap, ◌∙◌, subst, ℕ, ◌≤◌, ◌<◌, Bool, true, false, ◌&&◌, ◌||◌, not, List, [], ◌∷◌, ◌++◌, length, Option, Some, None, ◌==◌, nat_lt, nat_le, cond, arith, eq-eqb, ltb-true, ltb-false, leb-true}
use Rattle.std.proofs.lemmas.Bool.{eqb-true}
use Rattle.pdl_semantics.specs.Flat.{Pipe, Op, Bind, CombRead, DelayedRead, Write, ReserveRead, ReserveWrite, Block, Release, Call, SpecCall, Verify, SpecCheck, SpecBarrier, AdviceBind, AdviceRead, AdviceWrite, Stmt, all_hold}
use Rattle.pdl_semantics.specs.Stages.{list_any, onpath, in_stage, is_release, commit_stage, mem_at, stage_at, goes_to}
use Rattle.pdl_semantics.specs.Sound.{stages_before, stages_from, looks_at, is_release_at, is_delayed_read, one_of}
use Rattle.pdl_theory_turns.specs.Alone.{answered_op}
use Rattle.pdl_theory_turns.specs.Scans.{is_plain, none_of, Scan, no_scan, scan_after, op_ok, reads_ok, has_location, no_guards}
use Rattle.pdl_theory_turns.specs.Facts.{Sound, FetchOk, FetchIf, AllFetches, looked_all, at_once}
use Rattle.pdl_theory_turns.specs.Graphs.{stage_or}
use Rattle.pdl_theory_turns.specs.Accepted.{along}
use Rattle.pdl_theory_turns.proofs.Writes.{and_left, and_right}
use Rattle.pdl_theory_simulation.proofs.AcceptedFacts.{sound_flows}
use Rattle.pdl_theory_turns.proofs.Looks.{path_looked}
use Rattle.pdl_theory_turns.proofs.StageFacts.{alive}
use Rattle.pdl_theory_simulation.proofs.Stretches.{on_way}
use Rattle.pdl_theory_states.specs.Strict.{Strict, all_let_go, lets_go}
use Rattle.pdl_theory_states.proofs.Trails.{AllStmts}
use Rattle.pdl_theory_states.proofs.ThreadHistory.{here}
use Rattle.pdl_theory_turns.proofs.Paths.{none_onpath}
use Rattle.pdl_theory_turns.proofs.Turn.{none_from}

-- BLOCKS AND READS TO DO

-- where each block of joined statements is released after it, each one of the second ones is
pub let_go_behind : (xs ys : List Stmt) → all_let_go (xs ++ ys) ≡ true → all_let_go ys ≡ true
let_go_behind [] ys h = h
let_go_behind (x ∷ xs) ys h = let_go_behind xs ys (and_right (lets_go x.op (xs ++ ys)) _ h)

reads_behind : (q : Pipe) (c : Scan) (xs ys : List Stmt)
    → reads_ok q c (looked_all (xs ++ ys)) ≡ true → (c' : Scan) × (reads_ok q c' (looked_all ys) ≡ true)
reads_behind q c [] ys h = (c, h)
reads_behind q c (x ∷ xs) ys h =
    reads_behind q (scan_after (answered_op x.op) c) xs ys (and_right (no_guards x.guards && op_ok q x.stage c (answered_op x.op)) _ h)

late_stages : (path : List ℕ) (s : ℕ) (xs : List Stmt) → AllStmts (λ x. s ≤ x.stage) (onpath path (stages_from s xs))
late_stages path s [] = tt
late_stages path s (x ∷ xs) = at (nat_le s x.stage) refl (late_stages path s xs)
  where
    by : (c : Bool) → s ≤ x.stage → AllStmts (λ x. s ≤ x.stage) (onpath path (stages_from s xs))
        → AllStmts (λ x. s ≤ x.stage) (cond c (record x { guards = [] } ∷ onpath path (stages_from s xs)) (onpath path (stages_from s xs)))
    by true i h = (i, h)
    by false i h = h

    at : (b : Bool) → nat_le s x.stage ≡ b → AllStmts (λ x. s ≤ x.stage) (onpath path (stages_from s xs))
        → AllStmts (λ x. s ≤ x.stage) (onpath path (cond b (x ∷ stages_from s xs) (stages_from s xs)))
    at true e h = by (all_hold x.guards path) (leb-true _ _ e) h
    at false e h = h

release_none : (m a : ℕ) (xs : List Stmt) → none_of (is_release m) xs ≡ true → list_any (λ (z : Stmt). is_release_at m a z.op) xs ≡ true → ⊥
release_none m a [] h k = cc k
release_none m a (x ∷ xs) h k = at (is_release_at m a x.op) refl k (λ i. release_none m a xs (and_right (not (is_release m x.op)) _ h) i)
  where
    clash : (op : Op) → not (is_release m op) ≡ true → is_release_at m a op ≡ true → ⊥
    clash (Release n b) i j = by (n == m) i j
      where
        by : (t : Bool) → not t ≡ true → (t && (b == a)) ≡ true → ⊥
        by true u v = cc u
        by false u v = cc v
    clash (Bind x e) i j = cc j
    clash (CombRead x n b) i j = cc j
    clash (DelayedRead x n b) i j = cc j
    clash (Write n b e) i j = cc j
    clash (ReserveRead n b) i j = cc j
    clash (ReserveWrite n b) i j = cc j
    clash (Block n b) i j = cc j
    clash (Call args) i j = cc j
    clash (SpecCall args) i j = cc j
    clash (Verify last args) i j = cc j
    clash SpecCheck i j = cc j
    clash (AdviceBind x' e') i j = cc j
    clash (AdviceRead x' m' a') i j = cc j
    clash (AdviceWrite m' a' e') i j = cc j
    clash SpecBarrier i j = cc j

    at : (b : Bool) → is_release_at m a x.op ≡ b → (b || list_any (λ (z : Stmt). is_release_at m a z.op) xs) ≡ true
        → (list_any (λ (z : Stmt). is_release_at m a z.op) xs ≡ true → ⊥) → ⊥
    at true e i f = clash x.op (and_left _ _ h) e
    at false e i f = f i

module _ (p q : Pipe) (m s : ℕ) (late : commit_stage q m < s) (locked : is_plain (mem_at q m).lock ≡ false) where
  -- a read past the releases
  no_read : (r : ℕ) (c : Scan) (x a : ℕ) → s ≤ r → op_ok q r c (CombRead x m a) ≡ true → ⊥
  no_read r c x a low h = at (is_plain (mem_at q m).lock) locked (and_right _ _ h)
    where
      at : (b : Bool) → b ≡ false → (b || (has_location c.blocked m a && nat_le r (commit_stage q m))) ≡ true → ⊥
      at true e k = cc e
      at false e k = let i : r ≤ commit_stage q m = leb-true r (commit_stage q m) (and_right (has_location c.blocked m a) (nat_le r (commit_stage q m)) k) in
          let j = late in omega arith

  no_look : (r : ℕ) (c : Scan) (op : Op) (ys : List Stmt) → s ≤ r → op_ok q r c (answered_op op) ≡ true
      → lets_go op ys ≡ true → none_of (is_release m) ys ≡ true → looks_at m op ≡ true → ⊥
  no_look r c (Block n a) ys low h g f k = release_none m a ys f (subst (λ i. list_any (λ (z : Stmt). is_release_at i a z.op) ys ≡ true) (eqb-true n m k) g)
  no_look r c (CombRead x n a) ys low h g f k = no_read r c x a low (subst (λ i. op_ok q r c (CombRead x i a) ≡ true) (eqb-true n m k) h)
  no_look r c (DelayedRead x n a) ys low h g f k = no_read r c x a low (subst (λ i. op_ok q r c (CombRead x i a) ≡ true) (eqb-true n m k) h)
  no_look r c (Bind x e) ys low h g f k = cc k
  no_look r c (Write n a e) ys low h g f k = cc k
  no_look r c (ReserveRead n a) ys low h g f k = cc k
  no_look r c (ReserveWrite n a) ys low h g f k = cc k
  no_look r c (Release n a) ys low h g f k = cc k
  no_look r c (Call args) ys low h g f k = cc k
  no_look r c (SpecCall args) ys low h g f k = cc k
  no_look r c (Verify last args) ys low h g f k = cc k
  no_look r c SpecCheck ys low h g f k = cc k
  no_look r c (AdviceBind x' e') ys low h g f k = cc k
  no_look r c (AdviceRead x' m' a') ys low h g f k = cc k
  no_look r c (AdviceWrite m' a' e') ys low h g f k = cc k
  no_look r c SpecBarrier ys low h g f k = cc k

  no_looks : (c : Scan) (xs : List Stmt) → AllStmts (λ x. s ≤ x.stage) xs → reads_ok q c (looked_all xs) ≡ true
      → all_let_go xs ≡ true → none_of (is_release m) xs ≡ true → list_any (λ (x : Stmt). looks_at m x.op) xs ≡ true → ⊥
  no_looks c [] low h g f k = cc k
  no_looks c (x ∷ xs) low h g f k =
      at (looks_at m x.op) refl k
      (λ i. no_looks (scan_after (answered_op x.op) c) xs low.1 (and_right (no_guards x.guards && op_ok q x.stage c (answered_op x.op)) _ h)
      (and_right (lets_go x.op xs) _ g) (and_right (not (is_release m x.op)) _ f) i)
    where
      at : (b : Bool) → looks_at m x.op ≡ b → (b || list_any (λ (x : Stmt). looks_at m x.op) xs) ≡ true
          → (list_any (λ (x : Stmt). looks_at m x.op) xs ≡ true → ⊥) → ⊥
      at true e i go =
          no_look x.stage c x.op xs low.0 (and_right (no_guards x.guards) _ (and_left _ _ h)) (and_left _ _ g) (and_right (not (is_release m x.op)) _ f) e
      at false e i go = go i

module _ (p : Pipe) (sound : Sound p) where
  -- where a path has a block or a read of m in stage s or later, s is no later than the stage of m's releases
  pub looks_early : Strict p → (path : List ℕ) (s m : ℕ) → s < length p.stages
      → list_any (λ (x : Stmt). looks_at m x.op) (onpath path (stages_from s p.stmts)) ≡ true → s ≤ commit_stage p m
  looks_early strict path s m low h = at (nat_lt (commit_stage p m) s) refl
    where
      pieces : onpath path p.stmts ≡ on_way p path s ++ onpath path (stages_from s p.stmts)
      pieces = (sound_flows p sound).all_pieces path s

      reads : reads_ok (along path (at_once p)) no_scan (looked_all (on_way p path s ++ onpath path (stages_from s p.stmts))) ≡ true
      reads =
          subst (λ xs. reads_ok (along path (at_once p)) no_scan xs ≡ true)
          ((sound.pathwise.paths path).whole ∙ path_looked path p.stmts ∙ ap looked_all pieces)
          ((sound.pathwise.paths path).reads (length p.stages))

      at : (b : Bool) → nat_lt (commit_stage p m) s ≡ b → s ≤ commit_stage p m
      at false e = ltb-false _ _ e
      at true e = absurd (by (is_plain (mem_at p m).lock) refl)
        where
          late : commit_stage p m < s
          late = ltb-true _ _ e

          by : (b : Bool) → is_plain (mem_at p m).lock ≡ b → ⊥
          by true i = let j : commit_stage p m ≡ length p.stages = (sound.pathwise.paths path).plain_to m i in let k = low in let l = late in omega arith
          by false i =
              let r = reads_behind (along path (at_once p)) no_scan (on_way p path s) (onpath path (stages_from s p.stmts)) reads in
              no_looks p (along path (at_once p)) m s late i r.0 (onpath path (stages_from s p.stmts)) (late_stages path s p.stmts) r.1
              (let_go_behind (on_way p path s) (onpath path (stages_from s p.stmts)) (subst (λ xs. all_let_go xs ≡ true) pieces (strict.blocks path)))
              (none_onpath (is_release m) path (stages_from s p.stmts)
              (none_from (is_release m) (commit_stage p m) s p.stmts ((sound_flows p sound).releases m) late)) h

  -- READS TO BIND

  -- what is known of each delayed read of a path
  abbrev Fetched : Stmt → Type 0
  Fetched z = (x n a : ℕ) → z.op ≡ DelayedRead x n a → FetchOk p sound.fetch z.stage x n

  each_fetch : (xs : List Stmt) → ((s : ℕ) → AllFetches p sound.fetch s (in_stage s xs)) → AllStmts (λ y. FetchIf p sound.fetch y.stage y.guards y.op) xs
  each_fetch [] h = tt
  each_fetch (x ∷ xs) h = (first (x.stage == x.stage) (eq-eqb x.stage x.stage refl) (h x.stage), each_fetch xs (λ s. rest s (x.stage == s) (h s)))
    where
      first : (b : Bool) → b ≡ true
          → AllFetches p sound.fetch x.stage (cond b (x ∷ in_stage x.stage xs) (in_stage x.stage xs))
          → FetchIf p sound.fetch x.stage x.guards x.op
      first true e k = k.0
      first false e k = absurd (cc e)

      rest : (s : ℕ) (b : Bool) → AllFetches p sound.fetch s (cond b (x ∷ in_stage s xs) (in_stage s xs)) → AllFetches p sound.fetch s (in_stage s xs)
      rest s true k = k.1
      rest s false k = k

  way_fetch : (path : List ℕ) (s : ℕ) (xs : List Stmt) → AllStmts (λ y. FetchIf p sound.fetch y.stage y.guards y.op) xs
      → AllStmts Fetched (onpath path (stages_before s xs))
  way_fetch path s [] h = tt
  way_fetch path s (x ∷ xs) h = at (nat_lt x.stage s) (way_fetch path s xs h.1)
    where
      one : all_hold x.guards path ≡ true → Fetched (record x { guards = [] })
      one e y n a i = (subst (λ op. FetchIf p sound.fetch x.stage x.guards op) i h.0).1 (alive x.guards path e)

      by : (c : Bool) → all_hold x.guards path ≡ c → AllStmts Fetched (onpath path (stages_before s xs))
          → AllStmts Fetched (cond c (record x { guards = [] } ∷ onpath path (stages_before s xs)) (onpath path (stages_before s xs)))
      by true e k = (one e, k)
      by false e k = k

      at : (b : Bool) → AllStmts Fetched (onpath path (stages_before s xs))
          → AllStmts Fetched (onpath path (cond b (x ∷ stages_before s xs) (stages_before s xs)))
      at true k = by (all_hold x.guards path) refl k
      at false k = k

  bind_early : (env : List ℕ) (s m : ℕ) (xs : List Stmt) → AllStmts Fetched xs
      → list_any (λ x. here p env s x && is_delayed_read m x.op) xs ≡ true → s ≤ commit_stage p m
  bind_early env s m [] f h = absurd (cc h)
  bind_early env s m (x ∷ xs) f h = at (here p env s x && is_delayed_read m x.op) refl h (bind_early env s m xs f.1)
    where
      leads : (o : Option ℕ) → one_of (λ q. q == s) o ≡ true → stage_or (length p.stages) o ≡ s
      leads None i = absurd (cc i)
      leads (Some q) i = eqb-true q s i

      one : (op : Op) → x.op ≡ op → here p env s x ≡ true → is_delayed_read m op ≡ true → s ≤ commit_stage p m
      one (DelayedRead y n a) e i j =
          subst (λ k. s ≤ commit_stage p k) (eqb-true n m j)
          (subst (λ k. k ≤ commit_stage p n) (leads (goes_to (stage_at p x.stage).next env) i) ((f.0 y n a e).early env))
      one (Bind y e') e i j = absurd (cc j)
      one (CombRead y n a) e i j = absurd (cc j)
      one (Write n a e') e i j = absurd (cc j)
      one (ReserveRead n a) e i j = absurd (cc j)
      one (ReserveWrite n a) e i j = absurd (cc j)
      one (Block n a) e i j = absurd (cc j)
      one (Release n a) e i j = absurd (cc j)
      one (Call args) e i j = absurd (cc j)
      one (SpecCall args) e i j = absurd (cc j)
      one (Verify last args) e i j = absurd (cc j)
      one SpecCheck e i j = absurd (cc j)
      one (AdviceBind x' e') e i j = absurd (cc j)
      one (AdviceRead x' m' a') e i j = absurd (cc j)
      one (AdviceWrite m' a' e') e i j = absurd (cc j)
      one SpecBarrier e i j = absurd (cc j)

      at : (b : Bool) → (here p env s x && is_delayed_read m x.op) ≡ b
          → (b || list_any (λ x. here p env s x && is_delayed_read m x.op) xs) ≡ true
          → (list_any (λ x. here p env s x && is_delayed_read m x.op) xs ≡ true → s ≤ commit_stage p m)
          → s ≤ commit_stage p m
      at true e i go = one x.op refl (and_left _ _ e) (and_right (here p env s x) _ e)
      at false e i go = go i

  -- a thread that binds a delayed read of m in stage s does so no later than the stage of m's releases
  pub binds_early : (env : List ℕ) (s m : ℕ) → list_any (λ x. here p env s x && is_delayed_read m x.op) (on_way p env s) ≡ true → s ≤ commit_stage p m
  binds_early env s m h = bind_early env s m (on_way p env s) (way_fetch env s p.stmts (each_fetch p.stmts sound.fetch_ok)) h
