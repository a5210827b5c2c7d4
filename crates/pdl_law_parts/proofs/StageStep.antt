-- One row of a stage: what the thread does so far is what the walk tells so far, as long as the locks let the thread move.
use Rattle.std.proofs.Common.{◌≡◌, ℕ, ◌<◌, Bool, true, false, IsTrue, refl, sym, ap, ◌∙◌, subst}
use Rattle.std.specs.Prelude.{slice_index, ◌==◌, ◌||◌}
use Rattle.std.proofs.lemmas.List.{length-set}
use Rattle.std.proofs.lemmas.Bool.{or_right, or_left}
use Rattle.pdl_semantics.specs.Flat.{Expr, Op, Bind, CombRead, Write, ReserveRead, ReserveWrite, Block, Release, Call, Stmt, Pipe, all_hold, value_of, DelayedRead, SpecCall, Verify, SpecCheck, SpecBarrier, AdviceBind, AdviceRead, AdviceWrite}
use Rattle.pdl_semantics.specs.Stages.{mem_at, commit_stage}
use Rattle.pdl_semantics.specs.Locks.{read_ready}
use Rattle.pdl_semantics.specs.Machine as machine
use Rattle.pdl_semantics.specs.Machine.{Deeds, all_values, older_write, word_for}
use Rattle.pdl_net.specs.Circuit.{Circuit, State}
use Rattle.pdl_machine_facts.specs.Slots.{locks_ready}
use Rattle.pdl_machine_facts.specs.Use.{is_early, IsOpFine}
use Rattle.pdl_law_parts.specs.Lives.{uses_var, guards_use, lives_from}
use Rattle.pdl_law_parts.specs.Walk.{Locks, Row, Walk, IsRow, with_var, walk_after}
use Rattle.pdl_law_parts.specs.Advice.{is_advised_in}
use Rattle.pdl_law_parts.specs.Views.{View}
use Rattle.pdl_law_parts.specs.Stands.{IsSo, Follows}
use Rattle.pdl_law_parts.proofs.StageRow.{IsLive, guards_live, IsAround, done, quiet, set_plain, keep_env, word_at, is_taken, is_not, early, FollowsOp, MayReserve}
use Rattle.pdl_law_parts.proofs.StageLocks.{follows_write, follows_reserve_read, follows_reserve_write, follows_block, follows_release}
use Rattle.pdl_law_parts.proofs.AdvisedValues.{plain_env}
use Rattle.pdl_law_parts.proofs.StageAdvice.{follows_advice, follows_advised_read, follows_advised_write}
use Rattle.pdl_law_parts.proofs.StageCalls.{follows_call, follows_fetch, follows_spec_call, follows_verify, follows_update, follows_check, follows_barrier}
use Rattle.pdl_word.proofs.Numbers.{eqb_self}

module _ (c : Circuit) (p : Pipe) (ls : Locks) (vs : ℕ → View) (s : State) (st : machine.State) (k thread : ℕ) (around : IsAround c p ls vs s st k thread) where
  -- a row that binds: the variable gets the expression's value
  pub follows_bind : (y : ℕ) (e : Expr) → FollowsOp c p ls vs s st k thread around (Bind y e)
  follows_bind y e j gs r w d live on row here fine may q =
      quiet c p ls vs s st k thread around gs r w d glive on q (Bind y e) (with_var y r.value w) refl refl (λ b. same b) (λ h z b f. so h b f)
    where
      glive : (z : ℕ) → guards_use gs z ≡ true → (lives_from p k z ≡ true) × (is_advised_in p z ≡ false)
      glive = guards_live p k (record { stage = j; guards = gs; op = Bind y e }) live

      same : (b : Bool) → (locks_ready p st thread (done st thread b (Bind y e) d) ≡ locks_ready p st thread d)
          × ((done st thread b (Bind y e) d).reserves ≡ d.reserves)
      same true = (refl, refl)
      same false = (refl, refl)

      so : IsSo p k s w d → (b : Bool) → all_hold gs d.env ≡ b → IsSo p k s (with_var y r.value w) (done st thread b (Bind y e) d)
      so h true f = record {
        long = length-set d.env y (value_of e d.env) ∙ h.long;
        env =
            set_plain c p ls vs s st k thread around gs r w d glive on q y (value_of e d.env) r.value
            (live.plain y (or_right (guards_use gs y) ((y == y) || uses_var e y) (or_left (y == y) (uses_var e y) (eqb_self y))))
            (subst (λ n. y < n) (sym h.long) row.0)
            (row.1 s around.suits (is_taken c p ls vs s st k thread around gs r w d glive on q h f) d.env
            (λ z u. plain_env p k s w d z h (live.vars z (or_right (guards_use gs z) (uses_var e z) u))
            (live.plain z (or_right (guards_use gs z) ((y == z) || uses_var e z) (or_right (y == z) (uses_var e z) u))))) h;
        held = h.held;
        reserves = h.reserves;
        fits = h.fits;
        writes = h.writes;
        bits = h.bits;
        releases = h.releases;
        child = h.child;
        short = h.short;
        asks = h.asks;
        advice = h.advice;
        advises = h.advises;
        guess_long = h.guess_long;
        guess = h.guess;
        fails = h.fails;
        barrier = h.barrier;
      }
      so h false f = record {
        long = h.long;
        env =
            keep_env c p ls vs s st k thread around gs r w d glive on q (all_values d) y r.value
            (row.2 s around.suits (is_not c p ls vs s st k thread around gs r w d glive on q h f)) h.env;
        held = h.held;
        reserves = h.reserves;
        fits = h.fits;
        writes = h.writes;
        bits = h.bits;
        releases = h.releases;
        child = h.child;
        short = h.short;
        asks = h.asks;
        advice = h.advice;
        advises = h.advises;
        guess_long = h.guess_long;
        guess = h.guess;
        fails = h.fails;
        barrier = h.barrier;
      }

  -- a row that reads at once: the variable gets the word that the thread finds
  pub follows_read : (y m a : ℕ) → FollowsOp c p ls vs s st k thread around (CombRead y m a)
  follows_read y m a j gs r w d live on row here fine may q =
      quiet c p ls vs s st k thread around gs r w d glive on q (CombRead y m a) (with_var y r.value w) refl refl (λ b. same b) (λ h z b f. so h z b f)
    where
      glive : (z : ℕ) → guards_use gs z ≡ true → (lives_from p k z ≡ true) × (is_advised_in p z ≡ false)
      glive = guards_live p k (record { stage = j; guards = gs; op = CombRead y m a }) live

      same : (b : Bool) → (locks_ready p st thread (done st thread b (CombRead y m a) d) ≡ locks_ready p st thread d)
          × ((done st thread b (CombRead y m a) d).reserves ≡ d.reserves)
      same true = (refl, refl)
      same false = (refl, refl)

      so : IsSo p k s w d → locks_ready p st thread d ≡ true → (b : Bool) → all_hold gs d.env ≡ b
          → IsSo p k s (with_var y r.value w) (done st thread b (CombRead y m a) d)
      so h z true f =
          let addr : slice_index d.env a ≡ (w.vars a).value s =
          plain_env p k s w d a h (live.vars a (or_right (guards_use gs a) (a == a) (eqb_self a)))
          (live.plain a (or_right (guards_use gs a) ((y == a) || (a == a)) (or_right (y == a) (a == a) (eqb_self a)))) in
          let word = row.1 s around.suits (is_taken c p ls vs s st k thread around gs r w d glive on q h f) in
          let g = fine f z in
          let P : ℕ → Type 0 = λ v. IsTrue (read_ready (mem_at p m).lock (older_write st thread m v)) in
          record {
            long = length-set d.env y _ ∙ h.long;
            env =
                set_plain c p ls vs s st k thread around gs r w d glive on q y
                (word_for st thread m (slice_index d.env a)) r.value
                (live.plain y (or_right (guards_use gs y) ((y == y) || (a == y)) (or_left (y == y) (a == y) (eqb_self y))))
                (subst (λ n. y < n) (sym h.long) row.0)
                (word_at c p ls vs s st k thread around gs r w d glive on q m a live.row word
                (early c p ls vs s st k thread around j (commit_stage p m) here g.0)
                (subst P addr g.1)
                ∙ ap (word_for st thread m) (sym addr)) h;
            held = h.held;
            reserves = h.reserves;
            fits = h.fits;
            writes = h.writes;
            bits = h.bits;
            releases = h.releases;
            child = h.child;
            short = h.short;
            asks = h.asks;
            advice = h.advice;
            advises = h.advises;
            guess_long = h.guess_long;
            guess = h.guess;
            fails = h.fails;
            barrier = h.barrier;
          }
      so h z false f = record {
        long = h.long;
        env =
            keep_env c p ls vs s st k thread around gs r w d glive on q (all_values d) y r.value
            (row.2 s around.suits (is_not c p ls vs s st k thread around gs r w d glive on q h f)) h.env;
        held = h.held;
        reserves = h.reserves;
        fits = h.fits;
        writes = h.writes;
        bits = h.bits;
        releases = h.releases;
        child = h.child;
        short = h.short;
        asks = h.asks;
        advice = h.advice;
        advises = h.advises;
        guess_long = h.guess_long;
        guess = h.guess;
        fails = h.fails;
        barrier = h.barrier;
      }

  follows_op : (op : Op) → FollowsOp c p ls vs s st k thread around op
  follows_op (Bind y e) = follows_bind y e
  follows_op (CombRead y m a) = follows_read y m a
  follows_op (Write m a e) = follows_write c p ls vs s st k thread around m a e
  follows_op (ReserveRead m a) = follows_reserve_read c p ls vs s st k thread around m a
  follows_op (ReserveWrite m a) = follows_reserve_write c p ls vs s st k thread around m a
  follows_op (Block m a) = follows_block c p ls vs s st k thread around m a
  follows_op (Release m a) = follows_release c p ls vs s st k thread around m a
  follows_op (Call args) = follows_call c p ls vs s st k thread around args
  follows_op (DelayedRead y m a) = follows_fetch c p ls vs s st k thread around y m a
  follows_op (SpecCall args) = follows_spec_call c p ls vs s st k thread around args
  follows_op (Verify true args) = follows_verify c p ls vs s st k thread around args
  follows_op (Verify false args) = follows_update c p ls vs s st k thread around args
  follows_op SpecCheck = follows_check c p ls vs s st k thread around
  follows_op SpecBarrier = follows_barrier c p ls vs s st k thread around
  follows_op (AdviceBind y e) = follows_advice c p ls vs s st k thread around y e
  follows_op (AdviceRead y m a) = follows_advised_read c p ls vs s st k thread around y m a
  follows_op (AdviceWrite m a e) = follows_advised_write c p ls vs s st k thread around m a e

  -- the deeds follow after each row
  pub follows_row : (x : Stmt) (r : Row) (w : Walk) (d : Deeds) → IsLive p k x → IsRow c p ls (vs k).tickets x w r
      → x.stage ≡ k
      → (all_hold x.guards d.env ≡ true → locks_ready p st thread d ≡ true → (is_early p x ≡ true) × IsOpFine p st thread x.stage x.op d)
      → MayReserve p st thread (done st thread (all_hold x.guards d.env) x.op d)
      → Follows p k s st thread w d → Follows p k s st thread (walk_after x.op r ls w) (done st thread (all_hold x.guards d.env) x.op d)
  follows_row x r w d live row here fine may q = follows_op x.op x.stage x.guards r w d live row.on row.op here fine may q
