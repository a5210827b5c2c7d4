-- Rows that make threads, requests and guesses.
use Rattle.std.proofs.Common.{◌≡◌, ℕ, ◌<◌, ◌≤◌, Bool, true, false, ◌&&◌, ◌||◌, List, [], ◌∷◌, ◌++◌, length, map, refl, sym, ap, ap₂, ◌∙◌, arith, append-nil, le-leb}
use Rattle.std.specs.Prelude.{Some, ◌==◌, if◌then◌else◌, not, nat_le}
use Rattle.std.proofs.lemmas.Bool.{false≢true, or_right, or_left}
use Rattle.pdl_word.specs.Words.{bit}
use Rattle.pdl_semantics.specs.Flat.{Expr, Call, Guard, Stmt, Pipe, all_hold, values_of, DelayedRead, SpecCall, Verify, SpecCheck, SpecBarrier}
use Rattle.pdl_semantics.specs.Stages.{list_any, is_verify, verify_stage}
use Rattle.pdl_semantics.specs.Machine as machine
use Rattle.pdl_semantics.specs.Machine.{Deeds, all_values, same_args, after_verify}
use Rattle.pdl_net.specs.Circuit.{Circuit, State}
use Rattle.pdl_net.specs.Signal.{Signal, mux_signal}
use Rattle.pdl_machine_facts.proofs.theory_turns.Guesses.{same_args_eq}
use Rattle.pdl_machine_facts.specs.Slots.{locks_ready}
use Rattle.pdl_law_parts.specs.Lives.{are_using, guards_use, lives_from}
use Rattle.pdl_law_parts.specs.Walk.{Locks, Row, Walk, one, both, walk_after, values_at}
use Rattle.pdl_law_parts.specs.Advice.{is_advised_in}
use Rattle.pdl_law_parts.specs.Views.{View}
use Rattle.pdl_law_parts.specs.Stands.{IsSo, child_in, IsGuess, asked_in}
use Rattle.pdl_law_parts.proofs.Signals.{mux_at, both_at, on_is, one_is, asked_more}
use Rattle.pdl_law_parts.proofs.AdvisedValues.{plain_env}
use Rattle.pdl_law_parts.proofs.StageRow.{guards_live, IsAround, done, quiet, is_taken, is_not, on_at, values_same, FollowsOp}
use Rattle.pdl_word.proofs.Numbers.{eqb_self}

-- up to V a row that verifies is still to come
verify_later : (xs : List Stmt) (k v : ℕ) → verify_stage xs ≡ Some v → k ≤ v
    → list_any (λ (r : Stmt). nat_le k r.stage && is_verify r.op) xs ≡ true
verify_later [] k v e l = absurd (cc e)
verify_later (x ∷ xs) k v e l = at (is_verify x.op) refl e (λ i. verify_later xs k v i l)
  where
    at : (b : Bool) → is_verify x.op ≡ b → (if b then Some x.stage else verify_stage xs) ≡ Some v
        → (verify_stage xs ≡ Some v → list_any (λ (r : Stmt). nat_le k r.stage && is_verify r.op) xs ≡ true)
        → ((nat_le k x.stage && is_verify x.op) || list_any (λ (r : Stmt). nat_le k r.stage && is_verify r.op) xs) ≡ true
    at true i e go = let s : x.stage ≡ v = cc e in or_left _ _ (ap₂ (λ a b. a && b) (le-leb k x.stage (omega (arith, s, l))) i)
    at false i e go = or_right _ _ (go e)

module _ (c : Circuit) (p : Pipe) (ls : Locks) (vs : ℕ → View) (s : State) (st : machine.State) (k thread : ℕ) (around : IsAround c p ls vs s st k thread) where
  -- a row that calls: the new thread has the values of its arguments
  pub follows_call : (args : List Expr) → FollowsOp c p ls vs s st k thread around (Call args)
  follows_call args j gs r w d live on row here fine may q =
      quiet c p ls vs s st k thread around gs r w d glive on q (Call args) (walk_after (Call args) r ls w) refl refl (λ b. same b) (λ h z b f. so h b f)
    where
      glive : (z : ℕ) → guards_use gs z ≡ true → (lives_from p k z ≡ true) × (is_advised_in p z ≡ false)
      glive = guards_live p k (record { stage = j; guards = gs; op = Call args }) live

      same : (b : Bool) → (locks_ready p st thread (done st thread b (Call args) d) ≡ locks_ready p st thread d)
          × ((done st thread b (Call args) d).reserves ≡ d.reserves)
      same true = (refl, refl)
      same false = (refl, refl)

      child_at : IsSo p k s w d → (b : Bool) → all_hold gs d.env ≡ b
          → (done st thread b (Call args) d).child ≡ child_in s (record { on = r.on; args = r.args } ∷ w.births)
      child_at h true f =
          ap (λ l. Some l)
          (values_same c p ls vs s st k thread around args r.args w d.env
          (row.1 s around.suits (is_taken c p ls vs s st k thread around gs r w d glive on q h f))
          (λ e i y u. let l = or_right (guards_use gs y) (are_using args y) (i y u) in plain_env p k s w d y h (live.vars y l) (live.plain y l)))
          ∙ ap (λ c. if c then Some (map (λ (f : Signal). f.value s) r.args) else child_in s w.births)
          (sym (on_is s r.on true (on_at c p ls vs s st k thread around gs r w d glive on q h ∙ ap bit f)))
      child_at h false f =
          h.child
          ∙ ap (λ c. if c then Some (map (λ (f : Signal). f.value s) r.args) else child_in s w.births)
          (sym (on_is s r.on false (on_at c p ls vs s st k thread around gs r w d glive on q h ∙ ap bit f)))

      so : IsSo p k s w d → (b : Bool) → all_hold gs d.env ≡ b → IsSo p k s (walk_after (Call args) r ls w) (done st thread b (Call args) d)
      so h true f =
          record {
            long = h.long;
            env = h.env;
            held = h.held;
            reserves = h.reserves;
            fits = h.fits;
            writes = h.writes;
            bits = h.bits;
            releases = h.releases;
            child = child_at h true f;
            short = (row.0, h.short);
            asks = h.asks;
            advice = h.advice;
            advises = h.advises;
            guess_long = h.guess_long;
            guess = h.guess;
            fails = h.fails;
            barrier = h.barrier;
          }
      so h false f =
          record {
            long = h.long;
            env = h.env;
            held = h.held;
            reserves = h.reserves;
            fits = h.fits;
            writes = h.writes;
            bits = h.bits;
            releases = h.releases;
            child = child_at h false f;
            short = (row.0, h.short);
            asks = h.asks;
            advice = h.advice;
            advises = h.advises;
            guess_long = h.guess_long;
            guess = h.guess;
            fails = h.fails;
            barrier = h.barrier;
          }

  -- a row that reads delayed: it asks the memory for the word at the location's address
  pub follows_fetch : (y m a : ℕ) → FollowsOp c p ls vs s st k thread around (DelayedRead y m a)
  follows_fetch y m a j gs r w d live on row here fine may q =
      quiet c p ls vs s st k thread around gs r w d glive on q (DelayedRead y m a)
      (walk_after (DelayedRead y m a) r ls w) refl refl (λ b. same b) (λ h z b f. so h b f)
    where
      glive : (z : ℕ) → guards_use gs z ≡ true → (lives_from p k z ≡ true) × (is_advised_in p z ≡ false)
      glive = guards_live p k (record { stage = j; guards = gs; op = DelayedRead y m a }) live

      same : (b : Bool) → (locks_ready p st thread (done st thread b (DelayedRead y m a) d) ≡ locks_ready p st thread d)
          × ((done st thread b (DelayedRead y m a) d).reserves ≡ d.reserves)
      same true = (refl, refl)
      same false = (refl, refl)

      more : IsSo p k s w d → (b : Bool) → all_hold gs d.env ≡ b
          → asked_in s (w.asks ++ record { mem = m; var = y; on = r.on; addr = w.vars a } ∷ [])
          ≡ asked_in s w.asks ++ (if b then record { mem = m; var = y; address = (w.vars a).value s } ∷ [] else [])
      more h b f =
          asked_more s w.asks (record { mem = m; var = y; on = r.on; addr = w.vars a })
          ∙ ap (λ c. asked_in s w.asks ++ (if c then record { mem = m; var = y; address = (w.vars a).value s } ∷ [] else []))
          (on_is s r.on b (on_at c p ls vs s st k thread around gs r w d glive on q h ∙ ap bit f))

      asks_at : IsSo p k s w d → (b : Bool) → all_hold gs d.env ≡ b
          → (done st thread b (DelayedRead y m a) d).asks ≡ asked_in s (w.asks ++ record { mem = m; var = y; on = r.on; addr = w.vars a } ∷ [])
      asks_at h true f =
          ap₂ (λ l v. l ++ record { mem = m; var = y; address = v } ∷ []) h.asks
          (plain_env p k s w d a h (live.vars a (or_right (guards_use gs a) (a == a) (eqb_self a)))
          (live.plain a (or_right (guards_use gs a) ((y == a) || (a == a)) (or_right (y == a) (a == a) (eqb_self a)))))
          ∙ sym (more h true f)
      asks_at h false f = h.asks ∙ sym (append-nil (asked_in s w.asks)) ∙ sym (more h false f)

      so : IsSo p k s w d → (b : Bool) → all_hold gs d.env ≡ b → IsSo p k s (walk_after (DelayedRead y m a) r ls w) (done st thread b (DelayedRead y m a) d)
      so h true f =
          record {
            long = h.long;
            env = h.env;
            held = h.held;
            reserves = h.reserves;
            fits = h.fits;
            writes = h.writes;
            bits = h.bits;
            releases = h.releases;
            child = h.child;
            short = h.short;
            asks = asks_at h true f;
            advice = h.advice;
            advises = h.advises;
            guess_long = h.guess_long;
            guess = h.guess;
            fails = h.fails;
            barrier = h.barrier;
          }
      so h false f =
          record {
            long = h.long;
            env = h.env;
            held = h.held;
            reserves = h.reserves;
            fits = h.fits;
            writes = h.writes;
            bits = h.bits;
            releases = h.releases;
            child = h.child;
            short = h.short;
            asks = asks_at h false f;
            advice = h.advice;
            advises = h.advises;
            guess_long = h.guess_long;
            guess = h.guess;
            fails = h.fails;
            barrier = h.barrier;
          }

  -- a row that calls with a guess: the new thread has these arguments, and they are kept as the guess
  pub follows_spec_call : (args : List Expr) → FollowsOp c p ls vs s st k thread around (SpecCall args)
  follows_spec_call args j gs r w d live on row here fine may q =
      quiet c p ls vs s st k thread around gs r w d glive on q (SpecCall args) (walk_after (SpecCall args) r ls w) refl refl (λ b. same b) (λ h z b f. so h b f)
    where
      glive : (z : ℕ) → guards_use gs z ≡ true → (lives_from p k z ≡ true) × (is_advised_in p z ≡ false)
      glive = guards_live p k (record { stage = j; guards = gs; op = SpecCall args }) live

      same : (b : Bool) → (locks_ready p st thread (done st thread b (SpecCall args) d) ≡ locks_ready p st thread d)
          × ((done st thread b (SpecCall args) d).reserves ≡ d.reserves)
      same true = (refl, refl)
      same false = (refl, refl)

      values : IsSo p k s w d → all_hold gs d.env ≡ true → values_of args (all_values d) ≡ values_at s r.args
      values h f =
          values_same c p ls vs s st k thread around args r.args w (all_values d)
          (row.1 s around.suits (is_taken c p ls vs s st k thread around gs r w d glive on q h f))
          (λ e i y u. h.env y (live.vars y (or_right (guards_use gs y) (are_using args y) (i y u))))

      child_at : IsSo p k s w d → (b : Bool) → all_hold gs d.env ≡ b
          → (done st thread b (SpecCall args) d).child ≡ child_in s (record { on = r.on; args = r.args } ∷ w.births)
      child_at h true f =
          ap (λ l. Some l) (values h f)
          ∙ ap (λ c. if c then Some (map (λ (f : Signal). f.value s) r.args) else child_in s w.births)
          (sym (on_is s r.on true (on_at c p ls vs s st k thread around gs r w d glive on q h ∙ ap bit f)))
      child_at h false f =
          h.child
          ∙ ap (λ c. if c then Some (map (λ (f : Signal). f.value s) r.args) else child_in s w.births)
          (sym (on_is s r.on false (on_at c p ls vs s st k thread around gs r w d glive on q h ∙ ap bit f)))

      guess_at : IsSo p k s w d → (b : Bool) → all_hold gs d.env ≡ b
          → ((done st thread b (SpecCall args) d).fails ≡ true → verify_stage p.stmts ≡ Some k → ⊥)
          → IsGuess p k s r.guess (done st thread b (SpecCall args) d).guess
      guess_at h true f z v l = values h f ∙ sym (row.3 s around.suits (is_taken c p ls vs s st k thread around gs r w d glive on q h f))
      guess_at h false f z v l = h.guess z v l ∙ sym (row.4 s around.suits (is_not c p ls vs s st k thread around gs r w d glive on q h f))

      so : IsSo p k s w d → (b : Bool) → all_hold gs d.env ≡ b → IsSo p k s (walk_after (SpecCall args) r ls w) (done st thread b (SpecCall args) d)
      so h true f =
          record {
            long = h.long;
            env = h.env;
            held = h.held;
            reserves = h.reserves;
            fits = h.fits;
            writes = h.writes;
            bits = h.bits;
            releases = h.releases;
            child = child_at h true f;
            short = (row.0, h.short);
            asks = h.asks;
            advice = h.advice;
            advises = h.advises;
            guess_long = row.2 ∙ h.guess_long;
            guess = guess_at h true f;
            fails = h.fails;
            barrier = h.barrier;
          }
      so h false f =
          record {
            long = h.long;
            env = h.env;
            held = h.held;
            reserves = h.reserves;
            fits = h.fits;
            writes = h.writes;
            bits = h.bits;
            releases = h.releases;
            child = child_at h false f;
            short = (row.0, h.short);
            asks = h.asks;
            advice = h.advice;
            advises = h.advises;
            guess_long = row.2 ∙ h.guess_long;
            guess = guess_at h false f;
            fails = h.fails;
            barrier = h.barrier;
          }

  -- a row that compares arguments with the guess: where they differ that fails, and a new thread has them
  module _ (gs : List Guard) (r : Row) (w : Walk) (d : Deeds) (vals : List ℕ) where
    -- the deeds where the arguments have these values, and the guess is another
    abbrev failed : Deeds
    failed = record d { child = Some vals; guess = vals; fails = true }

    abbrev wrong : Signal
    wrong = both r.on r.value

    -- the walk with this guess
    abbrev compared : List Signal → Walk
    compared g = record w { births = record { on = wrong; args = r.args } ∷ w.births; guess = g; fails = mux_signal wrong one w.fails }

    -- comparing asks nothing of the locks, and reserves nothing
    same_locks : (b : Bool) → (locks_ready p st thread (if b then after_verify vals d else d) ≡ locks_ready p st thread d)
        × ((if b then after_verify vals d else d).reserves ≡ d.reserves)
    same_locks true = at (same_args vals d.guess)
      where
        at : (b : Bool) → (locks_ready p st thread (if b then d else failed) ≡ locks_ready p st thread d)
            × ((if b then d else failed).reserves ≡ d.reserves)
        at true = (refl, refl)
        at false = (refl, refl)
    same_locks false = (refl, refl)

    -- the walk's guess is that of the deeds after them, where something may still ask for it
    abbrev GuessAfter : List Signal → Deeds → Type 0
    GuessAfter g e = (e.fails ≡ true → verify_stage p.stmts ≡ Some k → ⊥) → IsGuess p k s g e.guess

    -- after a comparison of which this says whether it fails
    after_compared : (g : List Signal) → length r.args ≤ p.vars → length g ≡ length w.guess → IsSo p k s w d → (b : Bool) → wrong.value s ≡ bit b
        → (b ≡ true → vals ≡ values_at s r.args) → GuessAfter g (if b then failed else d) → IsSo p k s (compared g) (if b then failed else d)
    after_compared g few long h true e v guess = record {
      long = h.long;
      env = h.env;
      held = h.held;
      reserves = h.reserves;
      fits = h.fits;
      writes = h.writes;
      bits = h.bits;
      releases = h.releases;
      child =
          ap (λ l. Some l) (v refl) ∙ ap (λ c. if c then Some (map (λ (f : Signal). f.value s) r.args) else child_in s w.births) (sym (on_is s wrong true e));
      short = (few, h.short);
      asks = h.asks;
      advice = h.advice;
      advises = h.advises;
      guess_long = long ∙ h.guess_long;
      guess = guess;
      fails = mux_at s wrong one w.fails true e ∙ one_is s;
      barrier = h.barrier;
    }
    after_compared g few long h false e v guess = record {
      long = h.long;
      env = h.env;
      held = h.held;
      reserves = h.reserves;
      fits = h.fits;
      writes = h.writes;
      bits = h.bits;
      releases = h.releases;
      child = h.child ∙ ap (λ c. if c then Some (map (λ (f : Signal). f.value s) r.args) else child_in s w.births) (sym (on_is s wrong false e));
      short = (few, h.short);
      asks = h.asks;
      advice = h.advice;
      advises = h.advises;
      guess_long = long ∙ h.guess_long;
      guess = guess;
      fails = mux_at s wrong one w.fails false e ∙ h.fails;
      barrier = h.barrier;
    }

    -- the row's condition doesn't hold where its guards don't
    not_wrong : r.on.value s ≡ bit false → wrong.value s ≡ bit false
    not_wrong e = both_at s r.on r.value false true e (λ e. absurd (cc e))

    -- where its guards hold, and the guess is that of the walk, it tells whether the arguments differ
    is_wrong : r.on.value s ≡ bit true → r.value.value s ≡ bit (not (same_args (values_at s r.args) (values_at s w.guess)))
        → vals ≡ values_at s r.args → d.guess ≡ values_at s w.guess → wrong.value s ≡ bit (not (same_args vals d.guess))
    is_wrong on e v g =
        both_at s r.on r.value true (not (same_args vals d.guess)) on
        (λ x. e ∙ ap₂ (λ x y. bit (not (same_args x y))) (sym v) (sym g))

  -- a row that verifies: the walk's guess stays
  pub follows_verify : (args : List Expr) → FollowsOp c p ls vs s st k thread around (Verify true args)
  follows_verify args j gs r w d live on row here fine may q =
      quiet c p ls vs s st k thread around gs r w d glive on q (Verify true args) (walk_after (Verify true args) r ls w) refl refl
      (same_locks gs r w d vals) (λ h z b f. so h z b f)
    where
      glive : (z : ℕ) → guards_use gs z ≡ true → (lives_from p k z ≡ true) × (is_advised_in p z ≡ false)
      glive = guards_live p k (record { stage = j; guards = gs; op = Verify true args }) live

      vals : List ℕ
      vals = values_of args d.env

      so : IsSo p k s w d → locks_ready p st thread d ≡ true → (b : Bool) → all_hold gs d.env ≡ b
          → IsSo p k s (compared gs r w d vals w.guess) (if b then after_verify vals d else d)
      so h z false f =
          after_compared gs r w d vals w.guess row.0 refl h false
          (not_wrong gs r w d vals (on_at c p ls vs s st k thread around gs r w d glive on q h ∙ ap bit f)) (λ e. absurd (cc e)) h.guess
      so h z true f =
          let t = is_taken c p ls vs s st k thread around gs r w d glive on q h f in
          let v : vals ≡ values_at s r.args =
          values_same c p ls vs s st k thread around args r.args w d.env (row.1 s around.suits t)
          (λ e i y u. let l = or_right (guards_use gs y) (are_using args y) (i y u) in plain_env p k s w d y h (live.vars y l) (live.plain y l)) in
          let ok = (fine f z).1 in
          let g : d.guess ≡ values_at s w.guess =
          h.guess (λ e. absurd (false≢true (sym ok.calm ∙ e))) (live.verify refl) (ok.long ∙ sym row.2 ∙ h.guess_long) in
          at (same_args vals d.guess)
          (is_wrong gs r w d vals (on_at c p ls vs s st k thread around gs r w d glive on q h ∙ ap bit f) (row.3 s around.suits t) v g) v
          (ok.stands ∙ ap (λ i. Some i) here)
        where
          at : (b : Bool) → (wrong gs r w d vals).value s ≡ bit (not b) → vals ≡ values_at s r.args → verify_stage p.stmts ≡ Some k
              → IsSo p k s (compared gs r w d vals w.guess) (if b then d else failed gs r w d vals)
          at true e v o = after_compared gs r w d vals w.guess row.0 refl h false e (λ x. v) h.guess
          at false e v o = after_compared gs r w d vals w.guess row.0 refl h true e (λ x. v) (λ x. absurd (x refl o))

  -- a row that updates the guess: its arguments become the walk's guess
  pub follows_update : (args : List Expr) → FollowsOp c p ls vs s st k thread around (Verify false args)
  follows_update args j gs r w d live on row here fine may q =
      quiet c p ls vs s st k thread around gs r w d glive on q (Verify false args) (walk_after (Verify false args) r ls w) refl refl
      (same_locks gs r w d vals) (λ h z b f. so h z b f)
    where
      glive : (z : ℕ) → guards_use gs z ≡ true → (lives_from p k z ≡ true) × (is_advised_in p z ≡ false)
      glive = guards_live p k (record { stage = j; guards = gs; op = Verify false args }) live

      vals : List ℕ
      vals = values_of args (all_values d)

      so : IsSo p k s w d → locks_ready p st thread d ≡ true → (b : Bool) → all_hold gs d.env ≡ b
          → IsSo p k s (compared gs r w d vals r.guess) (if b then after_verify vals d else d)
      so h z false f =
          after_compared gs r w d vals r.guess row.0 row.4 h false
          (not_wrong gs r w d vals (on_at c p ls vs s st k thread around gs r w d glive on q h ∙ ap bit f)) (λ e. absurd (cc e))
          (λ x y l. h.guess x y l ∙ sym (row.6 s around.suits (is_not c p ls vs s st k thread around gs r w d glive on q h f)))
      so h z true f =
          let t = is_taken c p ls vs s st k thread around gs r w d glive on q h f in
          let v : vals ≡ values_at s r.args =
          values_same c p ls vs s st k thread around args r.args w (all_values d) (row.1 s around.suits t)
          (λ e i y u. h.env y (live.vars y (or_right (guards_use gs y) (are_using args y) (i y u)))) in
          let ok = (fine f z).1 in
          let early = ok.early in
          let g : d.guess ≡ values_at s w.guess =
          h.guess (λ e. not_at early.0 early.1 early.2)
          (verify_later p.stmts k early.0 early.1 (let l = early.2 in omega (arith, l, here))) (ok.long ∙ sym row.2 ∙ h.guess_long) in
          at (same_args vals d.guess) refl
          (is_wrong gs r w d vals (on_at c p ls vs s st k thread around gs r w d glive on q h ∙ ap bit f) (row.3 s around.suits t) v g) v
          (row.5 s around.suits t)
        where
          not_at : (v : ℕ) → verify_stage p.stmts ≡ Some v → j < v → verify_stage p.stmts ≡ Some k → ⊥
          not_at v e l f = let i : (Some v) ≡ Some k = sym e ∙ f in let n : v ≡ k = cc i in absurd (omega (arith, n, l, here))

          at : (b : Bool) → same_args vals d.guess ≡ b → (wrong gs r w d vals).value s ≡ bit (not b) → vals ≡ values_at s r.args
              → values_at s r.guess ≡ values_at s r.args → IsSo p k s (compared gs r w d vals r.guess) (if b then d else failed gs r w d vals)
          at true i e v n = after_compared gs r w d vals r.guess row.0 row.4 h false e (λ x. v) (λ x y l. sym (same_args_eq vals d.guess i) ∙ v ∙ sym n)
          at false i e v n = after_compared gs r w d vals r.guess row.0 row.4 h true e (λ x. v) (λ x y l. v ∙ sym n)

  -- a row with `spec_check`: it does nothing and waits for nothing
  pub follows_check : FollowsOp c p ls vs s st k thread around SpecCheck
  follows_check j gs r w d live on row here fine may q =
      quiet c p ls vs s st k thread around gs r w d glive on q SpecCheck w refl refl (λ b. same b) (λ h z b f. so h b)
    where
      glive : (z : ℕ) → guards_use gs z ≡ true → (lives_from p k z ≡ true) × (is_advised_in p z ≡ false)
      glive = guards_live p k (record { stage = j; guards = gs; op = SpecCheck }) live

      same : (b : Bool) → (locks_ready p st thread (done st thread b SpecCheck d) ≡ locks_ready p st thread d)
          × ((done st thread b SpecCheck d).reserves ≡ d.reserves)
      same true = (refl, refl)
      same false = (refl, refl)

      so : IsSo p k s w d → (b : Bool) → IsSo p k s w (done st thread b SpecCheck d)
      so h true = h
      so h false = h

  -- a row with `spec_barrier`: the thread is to wait at the barrier
  pub follows_barrier : FollowsOp c p ls vs s st k thread around SpecBarrier
  follows_barrier j gs r w d live on row here fine may q =
      quiet c p ls vs s st k thread around gs r w d glive on q SpecBarrier (walk_after SpecBarrier r ls w) refl refl (λ b. same b) (λ h z b f. so h b f)
    where
      glive : (z : ℕ) → guards_use gs z ≡ true → (lives_from p k z ≡ true) × (is_advised_in p z ≡ false)
      glive = guards_live p k (record { stage = j; guards = gs; op = SpecBarrier }) live

      same : (b : Bool) → (locks_ready p st thread (done st thread b SpecBarrier d) ≡ locks_ready p st thread d)
          × ((done st thread b SpecBarrier d).reserves ≡ d.reserves)
      same true = (refl, refl)
      same false = (refl, refl)

      so : IsSo p k s w d → (b : Bool) → all_hold gs d.env ≡ b → IsSo p k s (walk_after SpecBarrier r ls w) (done st thread b SpecBarrier d)
      so h true f =
          record {
            long = h.long;
            env = h.env;
            held = h.held;
            reserves = h.reserves;
            fits = h.fits;
            writes = h.writes;
            bits = h.bits;
            releases = h.releases;
            child = h.child;
            short = h.short;
            asks = h.asks;
            advice = h.advice;
            advises = h.advises;
            guess_long = h.guess_long;
            guess = h.guess;
            fails = h.fails;
            barrier = mux_at s r.on one w.barrier true (on_at c p ls vs s st k thread around gs r w d glive on q h ∙ ap bit f) ∙ one_is s;
          }
      so h false f =
          record {
            long = h.long;
            env = h.env;
            held = h.held;
            reserves = h.reserves;
            fits = h.fits;
            writes = h.writes;
            bits = h.bits;
            releases = h.releases;
            child = h.child;
            short = h.short;
            asks = h.asks;
            advice = h.advice;
            advises = h.advises;
            guess_long = h.guess_long;
            guess = h.guess;
            fails = h.fails;
            barrier = mux_at s r.on one w.barrier false (on_at c p ls vs s st k thread around gs r w d glive on q h ∙ ap bit f) ∙ h.barrier;
          }
