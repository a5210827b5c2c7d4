-- Rows with advice: a variable gets what is advised, and an advisory memory is written.
use Rattle.std.proofs.Common.{◌≡◌, ℕ, ◌<◌, Bool, true, false, ◌||◌, List, [], ◌∷◌, ◌++◌, length, refl, sym, ap, ap₂, ◌∙◌, subst, append-nil}
use Rattle.std.specs.Prelude.{slice_index, slice_set, ◌==◌, if◌then◌else◌}
use Rattle.std.proofs.lemmas.Bool.{or_left, or_right}
use Rattle.pdl_word.specs.Words.{bit}
use Rattle.pdl_word.proofs.Numbers.{eqb_self}
use Rattle.pdl_semantics.specs.Flat.{Expr, Pipe, all_hold, value_of, AdviceBind, AdviceRead, AdviceWrite}
use Rattle.pdl_semantics.specs.Machine as machine
use Rattle.pdl_semantics.specs.Machine.{Kept, Deeds, with_kept, all_values, word_for}
use Rattle.pdl_semantics.proofs.Facts.{kept_append, kept_long}
use Rattle.pdl_net.specs.Circuit.{Circuit, State}
use Rattle.pdl_machine_facts.specs.Slots.{locks_ready}
use Rattle.pdl_law_parts.specs.Lives.{uses_var, guards_use, lives_from}
use Rattle.pdl_law_parts.specs.Walk.{Locks, Walk, with_var, walk_after}
use Rattle.pdl_law_parts.specs.Advice.{is_advised_in, AreAdvised}
use Rattle.pdl_law_parts.specs.Views.{View}
use Rattle.pdl_law_parts.specs.Stands.{IsEnv, IsSo, advised_in}
use Rattle.pdl_law_parts.proofs.Signals.{on_is, advised_more}
use Rattle.pdl_law_parts.proofs.StageLooks.{word_is}
use Rattle.pdl_law_parts.proofs.StageRow.{guards_live, IsAround, done, quiet, set_env, keep_env, is_taken, is_not, on_at, FollowsOp}

-- one value more that is advised
one_advised : (p : Pipe) (ks : List Kept) (q : Kept) → AreAdvised p ks → is_advised_in p q.var ≡ true → AreAdvised p (ks ++ q ∷ [])
one_advised p [] q h e = (e, tt)
one_advised p (k ∷ ks) q h e = (h.0, one_advised p ks q h.1 e)

module _ (c : Circuit) (p : Pipe) (ls : Locks) (vs : ℕ → View) (s : State) (st : machine.State) (k thread : ℕ) (around : IsAround c p ls vs s st k thread) where
  -- where a variable gets a signal of what it is advised to be, the signals have all values with that one
  set_advised : (w : Walk) (d : Deeds) (y v : ℕ) → IsEnv p k s w.vars (slice_set (all_values d) y v)
      → IsEnv p k s w.vars (with_kept (d.advice ++ record { var = y; word = v } ∷ []) d.env)
  set_advised w d y v h = subst (IsEnv p k s w.vars) (sym (kept_append d.advice (record { var = y; word = v } ∷ []) d.env)) h

  -- there is a place for each variable among all values
  is_there : (w : Walk) (d : Deeds) (y : ℕ) → IsSo p k s w d → y < p.vars → y < length (all_values d)
  is_there w d y h l = subst (λ n. y < n) (sym (kept_long d.advice d.env ∙ h.long)) l

  -- a row that binds to what is advised: the variable gets the expression's value by all values
  pub follows_advice : (y : ℕ) (e : Expr) → FollowsOp c p ls vs s st k thread around (AdviceBind y e)
  follows_advice y e j gs r w d live on row here fine may q =
      quiet c p ls vs s st k thread around gs r w d glive on q (AdviceBind y e) (with_var y r.value w) refl refl (λ b. same b) (λ h z b f. so h b f)
    where
      glive : (z : ℕ) → guards_use gs z ≡ true → (lives_from p k z ≡ true) × (is_advised_in p z ≡ false)
      glive = guards_live p k (record { stage = j; guards = gs; op = AdviceBind y e }) live

      same : (b : Bool) → (locks_ready p st thread (done st thread b (AdviceBind y e) d) ≡ locks_ready p st thread d)
          × ((done st thread b (AdviceBind y e) d).reserves ≡ d.reserves)
      same true = (refl, refl)
      same false = (refl, refl)

      value : ℕ
      value = value_of e (all_values d)

      so : IsSo p k s w d → (b : Bool) → all_hold gs d.env ≡ b → IsSo p k s (with_var y r.value w) (done st thread b (AdviceBind y e) d)
      so h true f = record {
        long = h.long;
        env =
            set_advised (with_var y r.value w) d y value
            (set_env c p ls vs s st k thread around gs r w d glive on q (all_values d) y value r.value (is_there w d y h row.0)
            (row.1 s around.suits (is_taken c p ls vs s st k thread around gs r w d glive on q h f) (all_values d)
            (λ z u. h.env z (live.vars z (or_right (guards_use gs z) (uses_var e z) u)))) h.env);
        held = h.held;
        reserves = h.reserves;
        fits = h.fits;
        writes = h.writes;
        bits = h.bits;
        releases = h.releases;
        child = h.child;
        short = h.short;
        asks = h.asks;
        advice = one_advised p d.advice (record { var = y; word = value }) h.advice (live.advised y (eqb_self y));
        advises = h.advises;
        guess_long = h.guess_long;
        guess = h.guess;
        fails = h.fails;
        barrier = h.barrier;
      }
      so h false f = record {
        long = h.long;
        env =
            keep_env c p ls vs s st k thread around gs r w d glive on q (all_values d) y r.value
            (row.2 s around.suits (is_not c p ls vs s st k thread around gs r w d glive on q h f)) h.env;
        held = h.held;
        reserves = h.reserves;
        fits = h.fits;
        writes = h.writes;
        bits = h.bits;
        releases = h.releases;
        child = h.child;
        short = h.short;
        asks = h.asks;
        advice = h.advice;
        advises = h.advises;
        guess_long = h.guess_long;
        guess = h.guess;
        fails = h.fails;
        barrier = h.barrier;
      }

  -- a row that reads an advisory memory: the variable gets its word at the address among all values
  pub follows_advised_read : (y m a : ℕ) → FollowsOp c p ls vs s st k thread around (AdviceRead y m a)
  follows_advised_read y m a j gs r w d live on row here fine may q =
      quiet c p ls vs s st k thread around gs r w d glive on q (AdviceRead y m a) (with_var y r.value w) refl refl (λ b. same b) (λ h z b f. so h b f)
    where
      glive : (z : ℕ) → guards_use gs z ≡ true → (lives_from p k z ≡ true) × (is_advised_in p z ≡ false)
      glive = guards_live p k (record { stage = j; guards = gs; op = AdviceRead y m a }) live

      same : (b : Bool) → (locks_ready p st thread (done st thread b (AdviceRead y m a) d) ≡ locks_ready p st thread d)
          × ((done st thread b (AdviceRead y m a) d).reserves ≡ d.reserves)
      same true = (refl, refl)
      same false = (refl, refl)

      value : ℕ
      value = word_for st thread m (slice_index (all_values d) a)

      so : IsSo p k s w d → (b : Bool) → all_hold gs d.env ≡ b → IsSo p k s (with_var y r.value w) (done st thread b (AdviceRead y m a) d)
      so h true f =
          let addr : slice_index (all_values d) a ≡ (w.vars a).value s = h.env a (live.vars a (or_right (guards_use gs a) (a == a) (eqb_self a))) in
          let word = row.1 s around.suits (is_taken c p ls vs s st k thread around gs r w d glive on q h f) in
          let found = word_is p ls s st thread m (w.vars a) ((vs k).tickets m) r.value word live.row.0 (around.unlocked m live.row.0)
          (around.words m live.row.0 live.row.1 ((w.vars a).value s) word.reach) in
          record {
            long = h.long;
            env =
                set_advised (with_var y r.value w) d y value
                (set_env c p ls vs s st k thread around gs r w d glive on q (all_values d) y value r.value (is_there w d y h row.0)
                (found ∙ ap (word_for st thread m) (sym addr)) h.env);
            held = h.held;
            reserves = h.reserves;
            fits = h.fits;
            writes = h.writes;
            bits = h.bits;
            releases = h.releases;
            child = h.child;
            short = h.short;
            asks = h.asks;
            advice = one_advised p d.advice (record { var = y; word = value }) h.advice (live.advised y (eqb_self y));
            advises = h.advises;
            guess_long = h.guess_long;
            guess = h.guess;
            fails = h.fails;
            barrier = h.barrier;
          }
      so h false f = record {
        long = h.long;
        env =
            keep_env c p ls vs s st k thread around gs r w d glive on q (all_values d) y r.value
            (row.2 s around.suits (is_not c p ls vs s st k thread around gs r w d glive on q h f)) h.env;
        held = h.held;
        reserves = h.reserves;
        fits = h.fits;
        writes = h.writes;
        bits = h.bits;
        releases = h.releases;
        child = h.child;
        short = h.short;
        asks = h.asks;
        advice = h.advice;
        advises = h.advises;
        guess_long = h.guess_long;
        guess = h.guess;
        fails = h.fails;
        barrier = h.barrier;
      }

  -- a row that writes an advisory memory: it asks for a write of the expression's value at the address, both by all values
  pub follows_advised_write : (m a : ℕ) (e : Expr) → FollowsOp c p ls vs s st k thread around (AdviceWrite m a e)
  follows_advised_write m a e j gs r w d live on row here fine may q =
      quiet c p ls vs s st k thread around gs r w d glive on q (AdviceWrite m a e) (walk_after (AdviceWrite m a e) r ls w) refl refl (λ b. same b)
      (λ h z b f. so h b f)
    where
      glive : (z : ℕ) → guards_use gs z ≡ true → (lives_from p k z ≡ true) × (is_advised_in p z ≡ false)
      glive = guards_live p k (record { stage = j; guards = gs; op = AdviceWrite m a e }) live

      same : (b : Bool) → (locks_ready p st thread (done st thread b (AdviceWrite m a e) d) ≡ locks_ready p st thread d)
          × ((done st thread b (AdviceWrite m a e) d).reserves ≡ d.reserves)
      same true = (refl, refl)
      same false = (refl, refl)

      uses : (z : ℕ) → ((a == z) || uses_var e z) ≡ true → lives_from p k z ≡ true
      uses z u = live.vars z (or_right (guards_use gs z) ((a == z) || uses_var e z) u)

      -- the writes with this one, as its condition says
      more : IsSo p k s w d → (b : Bool) → all_hold gs d.env ≡ b
          → advised_in s (w.advises ++ record { mem = m; on = r.on; addr = w.vars a; value = r.value } ∷ [])
          ≡ advised_in s w.advises ++ (if b then record { mem = m; address = (w.vars a).value s; value = r.value.value s } ∷ [] else [])
      more h b f =
          advised_more s w.advises (record { mem = m; on = r.on; addr = w.vars a; value = r.value })
          ∙ ap (λ c. advised_in s w.advises ++ (if c then record { mem = m; address = (w.vars a).value s; value = r.value.value s } ∷ [] else []))
          (on_is s r.on b (on_at c p ls vs s st k thread around gs r w d glive on q h ∙ ap bit f))

      advises_at : IsSo p k s w d → (b : Bool) → all_hold gs d.env ≡ b
          → (done st thread b (AdviceWrite m a e) d).advises
          ≡ advised_in s (w.advises ++ record { mem = m; on = r.on; addr = w.vars a; value = r.value } ∷ [])
      advises_at h true f =
          let addr : slice_index (all_values d) a ≡ (w.vars a).value s = h.env a (uses a (or_left (a == a) (uses_var e a) (eqb_self a))) in
          let value : value_of e (all_values d) ≡ r.value.value s =
          sym (row s around.suits (is_taken c p ls vs s st k thread around gs r w d glive on q h f) (all_values d)
          (λ z u. h.env z (uses z (or_right (a == z) (uses_var e z) u)))) in
          ap (λ l. l ++ record { mem = m; address = slice_index (all_values d) a; value = value_of e (all_values d) } ∷ []) h.advises
          ∙ ap₂ (λ x v. advised_in s w.advises ++ record { mem = m; address = x; value = v } ∷ []) addr value ∙ sym (more h true f)
      advises_at h false f = h.advises ∙ sym (append-nil (advised_in s w.advises)) ∙ sym (more h false f)

      so : IsSo p k s w d → (b : Bool) → all_hold gs d.env ≡ b → IsSo p k s (walk_after (AdviceWrite m a e) r ls w) (done st thread b (AdviceWrite m a e) d)
      so h true f = record {
        long = h.long;
        env = h.env;
        held = h.held;
        reserves = h.reserves;
        fits = h.fits;
        writes = h.writes;
        bits = h.bits;
        releases = h.releases;
        child = h.child;
        short = h.short;
        asks = h.asks;
        advice = h.advice;
        advises = advises_at h true f;
        guess_long = h.guess_long;
        guess = h.guess;
        fails = h.fails;
        barrier = h.barrier;
      }
      so h false f = record {
        long = h.long;
        env = h.env;
        held = h.held;
        reserves = h.reserves;
        fits = h.fits;
        writes = h.writes;
        bits = h.bits;
        releases = h.releases;
        child = h.child;
        short = h.short;
        asks = h.asks;
        advice = h.advice;
        advises = advises_at h false f;
        guess_long = h.guess_long;
        guess = h.guess;
        fails = h.fails;
        barrier = h.barrier;
      }
