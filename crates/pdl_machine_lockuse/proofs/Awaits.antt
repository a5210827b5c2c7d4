-- A read that awaits its answer is bound no later than the releases of its memory; so what is released meanwhile is no younger.
use Rattle.std.proofs.Common.{◌≡◌, refl, sym, ap, ◌∙◌, subst, ℕ, ◌≤◌, inl, inr, Bool, true, false, ◌&&◌, ◌||◌, not, List, [], ◌∷◌, ◌++◌, is_some, ◌==◌, nat_lt, cond, eq-eqb}
use Rattle.std.proofs.lemmas.Bool.{false≢true, eqb-true}
use Rattle.pdl_semantics.specs.Flat.{Pipe, Op, DelayedRead, Stmt, Guard, all_hold}
use Rattle.pdl_semantics.specs.Stages.{list_any, onpath, in_stage, commit_stage}
use Rattle.pdl_semantics.specs.Machine.{State, Awaited, Ask, answer_for, unanswered_reads}
use Rattle.pdl_semantics.specs.Sound.{stages_before, is_delayed_read}
use Rattle.pdl_theory_turns.specs.Scans.{none_of, is_dead}
use Rattle.pdl_theory_turns.specs.Graphs.{next_of, stage_or}
use Rattle.pdl_theory_turns.specs.Facts.{Sound, FetchOk, FetchIf, AllFetches}
use Rattle.pdl_theory_turns.proofs.Paths.{dead_none}
use Rattle.pdl_theory_simulation.proofs.FlowFacts.{Leads}
use Rattle.pdl_theory_simulation.proofs.Stretches.{Fetched, AllFetched}
use Rattle.pdl_theory_simulation.proofs.Seats.{Live}
use Rattle.pdl_theory_simulation.proofs.Choices.{Seated}
use Rattle.pdl_theory_states.proofs.PastStatements.{AskedBy}
use Rattle.pdl_theory_states.proofs.UnusedValues.{AllOps, AnyOp, any_both}
use Rattle.pdl_theory_states.proofs.Trails.{AllStmts, ops_stmts}
use Rattle.pdl_theory_states.proofs.ThreadHistory.{past_of, any_of}
use Rattle.pdl_theory_states.proofs.ThreadFacts.{Lasting, Owns}

module _ (p : Pipe) (fetch : ℕ → ℕ) where
  -- EACH STATEMENT

  abbrev EachFetch : List Stmt → Type 0
  EachFetch [] = Unit {0}
  EachFetch (x ∷ xs) = FetchIf p fetch x.stage x.guards x.op × EachFetch xs

  each_fetch : (xs : List Stmt) → ((s : ℕ) → AllFetches p fetch s (in_stage s xs)) → EachFetch xs
  each_fetch [] h = tt
  each_fetch (x ∷ xs) h = (first (x.stage == x.stage) (eq-eqb x.stage x.stage refl) (h x.stage), each_fetch xs (λ s. rest s (x.stage == s) (h s)))
    where
      first : (b : Bool) → b ≡ true → AllFetches p fetch x.stage (cond b (x ∷ in_stage x.stage xs) (in_stage x.stage xs))
          → FetchIf p fetch x.stage x.guards x.op
      first true e k = k.0
      first false e k = absurd (false≢true e)

      rest : (s : ℕ) (b : Bool) → AllFetches p fetch s (cond b (x ∷ in_stage s xs) (in_stage s xs)) → AllFetches p fetch s (in_stage s xs)
      rest s true k = k.1
      rest s false k = k

  -- a delayed read that is carried out
  abbrev Fetches : Op → Type 0
  Fetches op = (x m a : ℕ) → op ≡ DelayedRead x m a → (s : ℕ) × FetchOk p fetch s x m

  fetches_op : (s : ℕ) (gs : List Guard) (op : Op) → FetchIf p fetch s gs op → is_dead gs ≡ false → Fetches op
  fetches_op s gs op h e x m a i = (s, (subst (FetchIf p fetch s gs) i h).1 e)

  alive : (gs : List Guard) (env : List ℕ) → all_hold gs env ≡ true → is_dead gs ≡ false
  alive gs env t = at (is_dead gs) refl
    where
      at : (b : Bool) → is_dead gs ≡ b → is_dead gs ≡ false
      at true e = absurd (false≢true (sym (dead_none gs env e) ∙ t))
      at false e = e

  path_fetches : (env : List ℕ) (s : ℕ) (xs : List Stmt) → EachFetch xs → AllStmts (λ z. Fetches z.op) (onpath env (stages_before s xs))
  path_fetches env s [] h = tt
  path_fetches env s (x ∷ xs) h = at (nat_lt x.stage s) (path_fetches env s xs h.1)
    where
      by : (c : Bool) → all_hold x.guards env ≡ c → AllStmts (λ z. Fetches z.op) (onpath env (stages_before s xs))
          → AllStmts (λ z. Fetches z.op) (cond c (record x { guards = [] } ∷ onpath env (stages_before s xs)) (onpath env (stages_before s xs)))
      by true e r = (fetches_op x.stage x.guards x.op h.0 (alive x.guards env e), r)
      by false e r = r

      at : (b : Bool) → AllStmts (λ z. Fetches z.op) (onpath env (stages_before s xs))
          → AllStmts (λ z. Fetches z.op) (onpath env (cond b (x ∷ stages_before s xs) (stages_before s xs)))
      at true r = by (all_hold x.guards env) refl r
      at false r = r

  -- all delayed reads of a memory stand in one stage
  fetch_at : (s m : ℕ) (xs : List Stmt) → AllFetches p fetch s xs → none_of (is_delayed_read m) xs ≡ false → fetch m ≡ s
  fetch_at s m [] h e = absurd (false≢true (sym e))
  fetch_at s m (x ∷ xs) h e = at (is_delayed_read m x.op) refl e (fetch_at s m xs h.1)
    where
      found : (op : Op) → FetchIf p fetch s x.guards op → is_delayed_read m op ≡ true → fetch m ≡ s
      found (DelayedRead y n a) k i = subst (λ j. fetch j ≡ s) (eqb-true n m i) k.0.0
      found _ k i = absurd (false≢true i)

      at : (b : Bool) → is_delayed_read m x.op ≡ b → (not b && none_of (is_delayed_read m) xs) ≡ false → (none_of (is_delayed_read m) xs ≡ false → fetch m ≡ s)
          → fetch m ≡ s
      at true i k f = found x.op h.0 i
      at false i k f = f k

-- A LIVE THREAD

module _ (p : Pipe) (sound : Sound p) (st : State) (older : List Live) (l : Live) (seated : Seated p st l) (lasting : Lasting p st l older) where
  made : AllOps (Fetches p sound.fetch) (past_of p l.env l.thread.stage)
  made =
      ops_stmts (Fetches p sound.fetch) (Rattle.pdl_theory_simulation.proofs.Stretches.on_way p l.env l.thread.stage) []
      (path_fetches p sound.fetch l.env l.thread.stage p.stmts (each_fetch p sound.fetch p.stmts sound.fetch_ok)) tt

  -- a request of its last stage
  asked_ok : (q : Ask) → AskedBy l.env (past_of p l.env l.thread.stage) q → (s : ℕ) × FetchOk p sound.fetch s q.var q.mem
  asked_ok q h = some (past_of p l.env l.thread.stage) (any_both (λ op f i. f q.var q.mem i.0 i.1) (past_of p l.env l.thread.stage) made h)
    where
      some : (ops : List Op) → AnyOp (λ op. (s : ℕ) × FetchOk p sound.fetch s q.var q.mem) ops → (s : ℕ) × FetchOk p sound.fetch s q.var q.mem
      some [] k = absurd k
      some (op ∷ ops) (inl k) = k
      some (op ∷ ops) (inr k) = some ops k

  bound_by_commit : (m : ℕ) → Fetched p l.thread.stage m → (q : Ask) → q.mem ≡ m → AskedBy l.env (past_of p l.env l.thread.stage) q
      → l.thread.stage ≤ commit_stage p m
  bound_by_commit m f q e h =
      let ok = asked_ok q h in
      let leads : Leads p f.0 l.thread.stage = f.1 in
      let same : ok.0 ≡ f.0 = sym ok.1.here ∙ ap sound.fetch e ∙ fetch_at p sound.fetch f.0 m (in_stage f.0 p.stmts) (sound.fetch_ok f.0) f.2 in
      let next : next_of p f.0 leads.0 ≡ l.thread.stage = ap (stage_or (Rattle.std.specs.Prelude.length p.stages)) leads.1 in
      subst (λ n. n ≤ commit_stage p m) next
      (subst (λ s. next_of p s leads.0 ≤ commit_stage p m) same (subst (λ j. next_of p ok.0 leads.0 ≤ commit_stage p j) e (ok.1.early leads.0)))

  awaits_early : (m : ℕ) (rs : List Awaited) → AllFetched p l.thread.stage rs → Owns st l.number lasting.local.asks rs
      → list_any (λ (r : Awaited). r.mem == m) rs ≡ true → l.thread.stage ≤ commit_stage p m
  awaits_early m [] f o h = absurd (false≢true h)
  awaits_early m (r ∷ rs) f o h = at (r.mem == m) refl h (awaits_early m rs f.1 o.1)
    where
      at : (b : Bool) → (r.mem == m) ≡ b → (b || list_any (λ (r : Awaited). r.mem == m) rs) ≡ true
          → (list_any (λ (r : Awaited). r.mem == m) rs ≡ true → l.thread.stage ≤ commit_stage p m) → l.thread.stage ≤ commit_stage p m
      at true e i go =
          let q =
          any_of (AskedBy l.env (past_of p l.env l.thread.stage))
          (λ q. (q.var ≡ r.var) × (q.mem ≡ r.mem)
          × (Rattle.pdl_semantics.specs.Machine.request_of st r.mem
          ≡ Rattle.pdl_semantics.specs.Machine.Owned l.number q.address)) lasting.local.asks lasting.local.asked o.0 in
          bound_by_commit m (subst (λ n. Fetched p l.thread.stage n) (eqb-true r.mem m e) f.0) q.0 (q.2.1 ∙ eqb-true r.mem m e) q.1
      at false e i go = go i

  -- what it still awaits it awaited
  still_among : (bits : List Bool) (m : ℕ) (rs : List Awaited) → list_any (λ (r : Awaited). r.mem == m) (unanswered_reads p st bits l.number rs) ≡ true
      → list_any (λ (r : Awaited). r.mem == m) rs ≡ true
  still_among bits m [] h = h
  still_among bits m (r ∷ rs) h = at (is_some (answer_for p st bits l.number r.mem)) (r.mem == m) refl h (still_among bits m rs)
    where
      at : (b c : Bool) → (r.mem == m) ≡ c → list_any (λ (r : Awaited). r.mem == m) (cond b [] (r ∷ []) ++ unanswered_reads p st bits l.number rs) ≡ true
          → (list_any (λ (r : Awaited). r.mem == m) (unanswered_reads p st bits l.number rs) ≡ true → list_any (λ (r : Awaited). r.mem == m) rs ≡ true)
          → ((r.mem == m) || list_any (λ (r : Awaited). r.mem == m) rs) ≡ true
      at b true e i go = ap (λ c. c || list_any (λ (r : Awaited). r.mem == m) rs) e
      at true false e i go = ap (λ c. c || list_any (λ (r : Awaited). r.mem == m) rs) e ∙ go i
      at false false e i go =
          ap (λ c. c || list_any (λ (r : Awaited). r.mem == m) rs) e
          ∙ go (ap (λ c. c || list_any (λ (r : Awaited). r.mem == m) (unanswered_reads p st bits l.number rs)) (sym e) ∙ i)

  -- a thread that awaits a read of a memory beyond this cycle stands no later than the stage of the memory's releases
  pub still_early : (bits : List Bool) (m : ℕ) → list_any (λ (r : Awaited). r.mem == m) (unanswered_reads p st bits l.number l.thread.awaits) ≡ true
      → l.thread.stage ≤ commit_stage p m
  still_early bits m h = awaits_early m l.thread.awaits seated.keeps_on.fetched lasting.owns (still_among bits m l.thread.awaits h)
