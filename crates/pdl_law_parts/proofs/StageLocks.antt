-- Rows that use the locks: reservations, writes, blocks and releases.
use Rattle.std.proofs.Common.{◌≡◌, ℕ, suc, Bool, true, false, ◌&&◌, ◌||◌, List, [], ◌∷◌, ◌++◌, length, ◌≤◌, refl, sym, ap, ap₂, ◌∙◌, subst, append-nil, arith}
use Rattle.std.specs.Prelude.{slice_index, ◌==◌, if◌then◌else◌}
use Rattle.std.proofs.lemmas.Bool.{or_right, or_left}
use Rattle.std.proofs.Math.Bool.{and_assoc}
use Rattle.pdl_word.specs.Words.{bit}
use Rattle.pdl_semantics.specs.Flat.{Expr, Write, ReserveRead, ReserveWrite, Block, Release, Pipe, all_hold}
use Rattle.pdl_semantics.specs.Stages.{mem_at, commit_stage}
use Rattle.pdl_semantics.specs.Locks.{has_room}
use Rattle.pdl_semantics.specs.Machine as machine
use Rattle.pdl_semantics.specs.Machine.{Blocked, Reserved, reserves_of, is_held, let_go}
use Rattle.pdl_semantics.specs.Moves.{block_ready, blocks_ready, have_room}
use Rattle.pdl_net.specs.Circuit.{Circuit, State}
use Rattle.pdl_net.specs.Signal.{Signal, mux_signal}
use Rattle.pdl_lockapi.specs.Laws.{FitsIn}
use Rattle.pdl_machine_facts.specs.Slots.{locks_ready}
use Rattle.pdl_law_parts.specs.declared.Mark.{Mark}
use Rattle.pdl_law_parts.specs.declared.Mark.TheVariants.{Held, Late}
use Rattle.pdl_law_parts.specs.Lives.{uses_var, guards_use, lives_from, mark_from}
use Rattle.pdl_law_parts.specs.Walk.{Locks, Walk, is_on, one, zero_bit, both, with_mark, reserved_signal, room_after, walk_after}
use Rattle.pdl_law_parts.specs.Advice.{is_advised_in}
use Rattle.pdl_law_parts.specs.Views.{View}
use Rattle.pdl_law_parts.specs.Stands.{IsSo, MarksLate, IsHolding, reserved_in, written_in, let_in}
use Rattle.pdl_law_parts.specs.Served.{at_most}
use Rattle.pdl_law_parts.proofs.Signals.{mux_at, both_at, on_is, one_is, zero_is, reserved_more, written_more, let_more, bits_more, fits_more}
use Rattle.pdl_law_parts.proofs.StageLooks.{lock_there, finds, room_next, block_is}
use Rattle.pdl_law_parts.proofs.AdvisedValues.{plain_env}
use Rattle.pdl_law_parts.proofs.StageRow.{other_held, guards_live, IsAround, done, quiet, asking, hold, is_taken, on_at, early, FollowsOp}
use Rattle.pdl_word.proofs.Bools.{and_true, and_swap}
use Rattle.pdl_word.proofs.Numbers.{eqb_self}
use Rattle.pdl_semantics.proofs.Facts.{all_push}
use Rattle.pdl_semantics.proofs.Readiness.{room_fewer}
use Rattle.pdl_law_parts.proofs.Reservations.{one_more_of, pushed_room}
use Rattle.pdl_law_parts.proofs.LateLocations.{same_late, late_more}

module _ (c : Circuit) (p : Pipe) (ls : Locks) (vs : ℕ → View) (s : State) (st : machine.State) (k thread : ℕ) (around : IsAround c p ls vs s st k thread) where
  -- a row that writes: the write has the expression's value
  pub follows_write : (m a : ℕ) (e : Expr) → FollowsOp c p ls vs s st k thread around (Write m a e)
  follows_write m a e j gs r w d live on row here fine may q =
      quiet c p ls vs s st k thread around gs r w d glive on q (Write m a e) (walk_after (Write m a e) r ls w) refl refl (λ b. same b) (λ h z b f. so h b f)
    where
      glive : (z : ℕ) → guards_use gs z ≡ true → (lives_from p k z ≡ true) × (is_advised_in p z ≡ false)
      glive = guards_live p k (record { stage = j; guards = gs; op = Write m a e }) live

      same : (b : Bool) → (locks_ready p st thread (done st thread b (Write m a e) d) ≡ locks_ready p st thread d)
          × ((done st thread b (Write m a e) d).reserves ≡ d.reserves)
      same true = (refl, refl)
      same false = (refl, refl)

      writes_at : IsSo p k s w d → (b : Bool) → all_hold gs d.env ≡ b
          → (done st thread b (Write m a e) d).writes ≡ written_in s (w.puts ++ record { mem = m; var = a; on = r.on; value = r.value } ∷ [])
      writes_at h true f =
          ap₂ (λ l v. l ++ record { mem = m; var = a; value = v } ∷ []) h.writes
          (sym
          (row s around.suits (is_taken c p ls vs s st k thread around gs r w d glive on q h f) d.env
          (λ z u. let l = or_right (guards_use gs z) (uses_var e z) u in plain_env p k s w d z h (live.vars z l) (live.plain z l))))
          ∙ ap (λ c. written_in s w.puts ++ (if c then record { mem = m; var = a; value = r.value.value s } ∷ [] else []))
          (sym (on_is s r.on true (on_at c p ls vs s st k thread around gs r w d glive on q h ∙ ap bit f)))
          ∙ sym (written_more s w.puts (record { mem = m; var = a; on = r.on; value = r.value }))
      writes_at h false f =
          h.writes ∙ sym (append-nil (written_in s w.puts))
          ∙ ap (λ c. written_in s w.puts ++ (if c then record { mem = m; var = a; value = r.value.value s } ∷ [] else []))
          (sym (on_is s r.on false (on_at c p ls vs s st k thread around gs r w d glive on q h ∙ ap bit f)))
          ∙ sym (written_more s w.puts (record { mem = m; var = a; on = r.on; value = r.value }))

      bit_on : IsSo p k s w d → r.on.value s ≡ bit (is_on r.on s)
      bit_on h =
          on_at c p ls vs s st k thread around gs r w d glive on q h
          ∙ ap bit (sym (on_is s r.on (all_hold gs d.env) (on_at c p ls vs s st k thread around gs r w d glive on q h)))

      so : IsSo p k s w d → (b : Bool) → all_hold gs d.env ≡ b → IsSo p k s (walk_after (Write m a e) r ls w) (done st thread b (Write m a e) d)
      so h true f =
          record {
            long = h.long;
            env = h.env;
            held = h.held;
            reserves = h.reserves;
            fits = h.fits;
            writes = writes_at h true f;
            bits = bits_more s w.puts _ h.bits (bit_on h);
            releases = h.releases;
            child = h.child;
            short = h.short;
            asks = h.asks;
            advice = h.advice;
            advises = h.advises;
            guess_long = h.guess_long;
            guess = h.guess;
            fails = h.fails;
            barrier = h.barrier;
          }
      so h false f =
          record {
            long = h.long;
            env = h.env;
            held = h.held;
            reserves = h.reserves;
            fits = h.fits;
            writes = writes_at h false f;
            bits = bits_more s w.puts _ h.bits (bit_on h);
            releases = h.releases;
            child = h.child;
            short = h.short;
            asks = h.asks;
            advice = h.advice;
            advises = h.advises;
            guess_long = h.guess_long;
            guess = h.guess;
            fails = h.fails;
            barrier = h.barrier;
          }

  -- a row that reserves for reading: it does nothing and waits for nothing
  pub follows_reserve_read : (m a : ℕ) → FollowsOp c p ls vs s st k thread around (ReserveRead m a)
  follows_reserve_read m a j gs r w d live on row here fine may q =
      quiet c p ls vs s st k thread around gs r w d glive on q (ReserveRead m a) w refl refl (λ b. same b) (λ h z b f. so h b)
    where
      glive : (z : ℕ) → guards_use gs z ≡ true → (lives_from p k z ≡ true) × (is_advised_in p z ≡ false)
      glive = guards_live p k (record { stage = j; guards = gs; op = ReserveRead m a }) live

      same : (b : Bool) → (locks_ready p st thread (done st thread b (ReserveRead m a) d) ≡ locks_ready p st thread d)
          × ((done st thread b (ReserveRead m a) d).reserves ≡ d.reserves)
      same true = (refl, refl)
      same false = (refl, refl)

      so : IsSo p k s w d → (b : Bool) → IsSo p k s w (done st thread b (ReserveRead m a) d)
      so h true = h
      so h false = h

  -- a row that reserves for writing: it waits for room, holds the location and reserves its address
  pub follows_reserve_write : (m a : ℕ) → FollowsOp c p ls vs s st k thread around (ReserveWrite m a)
  follows_reserve_write m a j gs r w d live on row here fine may q =
      asking c p ls vs s st k thread around gs r w d glive on q (ReserveWrite m a)
      new (room_after ls m w.reserves) roomy refl (λ b f. split b f) (λ h z f. told h f) (λ h b f. so h b f) (λ h l b f. lates h l b f)
    where
      glive : (z : ℕ) → guards_use gs z ≡ true → (lives_from p k z ≡ true) × (is_advised_in p z ≡ false)
      glive = guards_live p k (record { stage = j; guards = gs; op = ReserveWrite m a }) live

      -- how many writes of the memory are pending, and how many the stage reserves with this one
      pending : ℕ
      pending = length (machine.lock_of st m)

      count : ℕ
      count = suc (reserves_of m d.reserves)

      roomy : Bool
      roomy = has_room (mem_at p m).lock count pending

      new : Walk
      new = walk_after (ReserveWrite m a) r ls w

      mine : Reserved
      mine = record { mem = m; var = a; address = slice_index d.env a }

      split : (b : Bool) → all_hold gs d.env ≡ b
          → locks_ready p st thread (done st thread b (ReserveWrite m a) d) ≡ (locks_ready p st thread d && (if b then roomy else true))
      split true f =
          ap (λ b. blocks_ready p st thread d && b)
          (pushed_room (λ n k. has_room (mem_at p n).lock k (length (machine.lock_of st n)))
          (λ n i j l e. room_fewer (mem_at p n).lock i j (length (machine.lock_of st n)) l e) d.reserves mine)
          ∙ sym (and_assoc (blocks_ready p st thread d) (have_room p st d) roomy)
      split false f = and_true (locks_ready p st thread d)

      -- the thread may reserve so many
      few : all_hold gs d.env ≡ true → count ≤ at_most p m
      few f =
          subst (λ n. n ≤ at_most p m) (one_more_of d.reserves mine)
          (subst (λ b. reserves_of m (done st thread b (ReserveWrite m a) d).reserves ≤ at_most p m) f (may.few m row.0))

      told : IsSo p k s w d → all_hold gs d.env ≡ true → (room_after ls m w.reserves).value s ≡ bit roomy
      told h f =
          room_next p ls vs s st m (around.kind m row.0) (around.locks m row.0) (around.ordered m) (around.room m row.0) (around.room2 m row.0)
          (around.twice m (lock_there p m row.0)) w.reserves (subst (λ l. suc (reserves_of m l) ≤ at_most p m) h.reserves (few f))
          ∙ ap (λ l. bit (has_room (mem_at p m).lock (suc (reserves_of m l)) pending)) (sym h.reserves)

      more : IsSo p k s w d → (b : Bool) → all_hold gs d.env ≡ b
          → reserved_in s (w.reserves ++ record { mem = m; var = a; on = r.on; addr = w.vars a } ∷ [])
          ≡ reserved_in s w.reserves ++ (if b then record { mem = m; var = a; address = (w.vars a).value s } ∷ [] else [])
      more h b f =
          reserved_more s w.reserves (record { mem = m; var = a; on = r.on; addr = w.vars a })
          ∙ ap (λ c. reserved_in s w.reserves ++ (if c then record { mem = m; var = a; address = (w.vars a).value s } ∷ [] else []))
          (on_is s r.on b (on_at c p ls vs s st k thread around gs r w d glive on q h ∙ ap bit f))

      -- whether the location is held, and all marks with that
      held : Signal
      held = mux_signal r.on one (w.marks Held m a)

      marks : Mark → ℕ → ℕ → Signal
      marks = with_mark Held m a held w.marks

      held_is : (b : Bool) → IsSo p k s w d → all_hold gs d.env ≡ b → mark_from p k Held m a ≡ true
          → held.value s ≡ bit (if b then true else is_held d.held m a)
      held_is true h f l = mux_at s r.on one (w.marks Held m a) true (on_at c p ls vs s st k thread around gs r w d glive on q h ∙ ap bit f) ∙ one_is s
      held_is false h f l =
          mux_at s r.on one (w.marks Held m a) false (on_at c p ls vs s st k thread around gs r w d glive on q h ∙ ap bit f) ∙ h.held m a l

      -- the marks of late locations leave those of held ones
      holding : (places : List machine.HeldLocation) → IsHolding p k s marks places → IsHolding p k s new.marks places
      holding places h n b l = at (ls.twice m) ∙ h n b l
        where
          at : (t : Bool)
              → ((if t then with_mark Late m a (mux_signal r.on (reserved_signal m w.reserves) (marks Late m a)) marks else marks) Held n b).value s
              ≡ (marks Held n b).value s
          at true = refl
          at false = refl

      lates : IsSo p k s w d → MarksLate p k s st thread w d → (b : Bool) → all_hold gs d.env ≡ b
          → MarksLate p k s st thread new (done st thread b (ReserveWrite m a) d)
      lates h l true f n low two early y mark =
          late_more p ls k s st thread m a (slice_index d.env a) r.on w.reserves marks d
          (on_at c p ls vs s st k thread around gs r w d glive on q h ∙ ap bit f) h.reserves
          (λ t. around.twice m (lock_there p m row.0) ∙ t)
          (may.fresh m row.0
          (subst (λ b. 1 ≤ reserves_of m (done st thread b (ReserveWrite m a) d).reserves) (sym f)
          (subst (λ n. 1 ≤ n) (sym (one_more_of d.reserves mine)) (omega arith))))
          n two (l n low two early) y mark
      lates h l false f n low two early y mark = λ there once.
          same_late ls s m a r.on w.reserves marks (on_at c p ls vs s st k thread around gs r w d glive on q h ∙ ap bit f) n y
          ∙ l n low two early y mark there once

      fits_new : IsSo p k s w d → (b : Bool) → all_hold gs d.env ≡ b → is_on r.on s ≡ true → FitsIn (w.vars a) s
      fits_new h true f e = row.1 s around.suits (is_taken c p ls vs s st k thread around gs r w d glive on q h f)
      fits_new h false f e = absurd (cc (sym e ∙ on_is s r.on false (on_at c p ls vs s st k thread around gs r w d glive on q h ∙ ap bit f)))

      so : IsSo p k s w d → (b : Bool) → all_hold gs d.env ≡ b → IsSo p k s new (done st thread b (ReserveWrite m a) d)
      so h true f = record {
        long = h.long;
        env = h.env;
        held = holding (record { mem = m; var = a } ∷ d.held)
            (hold c p ls vs s st k thread around gs r w d glive on q m a held (record { mem = m; var = a } ∷ d.held)
            (λ l. held_is true h f l ∙ ap bit (sym (or_left ((m == m) && (a == a)) (is_held d.held m a) (ap₂ (λ x y. x && y) (eqb_self m) (eqb_self a)))))
            (λ n b e. ap (λ x. x || is_held d.held n b) e) h.held);
        reserves =
            ap₂ (λ l v. l ++ record { mem = m; var = a; address = v } ∷ []) h.reserves
            (let l = or_right (guards_use gs a) (a == a) (eqb_self a) in plain_env p k s w d a h (live.vars a l) (live.plain a l))
            ∙ sym (more h true f);
        fits = fits_more s w.reserves _ h.fits (fits_new h true f);
        writes = h.writes;
        bits = h.bits;
        releases = h.releases;
        child = h.child;
        short = h.short;
        asks = h.asks;
        advice = h.advice;
        advises = h.advises;
        guess_long = h.guess_long;
        guess = h.guess;
        fails = h.fails;
        barrier = h.barrier;
      }
      so h false f = record {
        long = h.long;
        env = h.env;
        held = holding d.held
            (hold c p ls vs s st k thread around gs r w d glive on q m a held d.held (λ l. held_is false h f l) (λ n b e. refl) h.held);
        reserves = h.reserves ∙ sym (append-nil (reserved_in s w.reserves)) ∙ sym (more h false f);
        fits = fits_more s w.reserves _ h.fits (fits_new h false f);
        writes = h.writes;
        bits = h.bits;
        releases = h.releases;
        child = h.child;
        short = h.short;
        asks = h.asks;
        advice = h.advice;
        advises = h.advises;
        guess_long = h.guess_long;
        guess = h.guess;
        fails = h.fails;
        barrier = h.barrier;
      }

  -- a row that blocks: it waits until the look for its location is ready
  pub follows_block : (m a : ℕ) → FollowsOp c p ls vs s st k thread around (Block m a)
  follows_block m a j gs r w d live on row here fine may q =
      asking c p ls vs s st k thread around gs r w d glive on q (Block m a)
      (walk_after (Block m a) r ls w) r.value found refl (λ b f. split b) told (λ h b f. so h b) (λ h l b f. lates l b)
    where
      glive : (z : ℕ) → guards_use gs z ≡ true → (lives_from p k z ≡ true) × (is_advised_in p z ≡ false)
      glive = guards_live p k (record { stage = j; guards = gs; op = Block m a }) live

      more : Blocked
      more = record { mem = m; address = slice_index d.env a; writes = is_held d.held m a }

      found : Bool
      found = block_ready p st thread more

      split : (b : Bool) → locks_ready p st thread (done st thread b (Block m a) d) ≡ (locks_ready p st thread d && (if b then found else true))
      split true =
          ap (λ b. b && have_room p st d) (all_push (λ b. block_ready p st thread b) d.blocks more)
          ∙ and_swap (blocks_ready p st thread d) found (have_room p st d)
      split false = and_true (locks_ready p st thread d)

      lates : MarksLate p k s st thread w d → (b : Bool) → MarksLate p k s st thread (walk_after (Block m a) r ls w) (done st thread b (Block m a) d)
      lates l true = l
      lates l false = l

      told : IsSo p k s w d → locks_ready p st thread d ≡ true → all_hold gs d.env ≡ true → r.value.value s ≡ bit found
      told h z f =
          let e = row.0 in
          let low = early c p ls vs s st k thread around j (commit_stage p m) here (fine f z).0 in
          let kept : is_on (w.marks Held m a) s ≡ is_held d.held m a =
          on_is s (w.marks Held m a) (is_held d.held m a) (h.held m a (live.marks Held m a (ap₂ (λ x y. x && y) (eqb_self m) (eqb_self a)))) in
          let l = or_right (guards_use gs a) (a == a) (eqb_self a) in
          let addr : slice_index d.env a ≡ (w.vars a).value s = plain_env p k s w d a h (live.vars a l) (live.plain a l) in
          block_is p ls vs s st m (around.kind m e) (around.locks m e) (around.ordered m) thread ((vs k).tickets m)
          (around.tickets m e low) (is_on (w.marks Held m a) s)
          ((w.vars a).value s) r.value (row.1 s around.suits (is_taken c p ls vs s st k thread around gs r w d glive on q h f))
          ∙ ap₂ (λ u v. bit (finds p st thread m u v)) kept (sym addr)

      so : IsSo p k s w d → (b : Bool) → IsSo p k s (walk_after (Block m a) r ls w) (done st thread b (Block m a) d)
      so h true =
          record {
            long = h.long;
            env = h.env;
            held = h.held;
            reserves = h.reserves;
            fits = h.fits;
            writes = h.writes;
            bits = h.bits;
            releases = h.releases;
            child = h.child;
            short = h.short;
            asks = h.asks;
            advice = h.advice;
            advises = h.advises;
            guess_long = h.guess_long;
            guess = h.guess;
            fails = h.fails;
            barrier = h.barrier;
          }
      so h false =
          record {
            long = h.long;
            env = h.env;
            held = h.held;
            reserves = h.reserves;
            fits = h.fits;
            writes = h.writes;
            bits = h.bits;
            releases = h.releases;
            child = h.child;
            short = h.short;
            asks = h.asks;
            advice = h.advice;
            advises = h.advises;
            guess_long = h.guess_long;
            guess = h.guess;
            fails = h.fails;
            barrier = h.barrier;
          }

  -- a row that releases: the location is held no more, and its reservation for writing is let go where it had one
  pub follows_release : (m a : ℕ) → FollowsOp c p ls vs s st k thread around (Release m a)
  follows_release m a j gs r w d live on row here fine may q =
      quiet c p ls vs s st k thread around gs r w d glive on q (Release m a) new refl refl (λ b. same b) (λ h z b f. so h z b f)
    where
      new : Walk
      new = walk_after (Release m a) r ls w

      glive : (z : ℕ) → guards_use gs z ≡ true → (lives_from p k z ≡ true) × (is_advised_in p z ≡ false)
      glive = guards_live p k (record { stage = j; guards = gs; op = Release m a }) live

      same : (b : Bool) → (locks_ready p st thread (done st thread b (Release m a) d) ≡ locks_ready p st thread d)
          × ((done st thread b (Release m a) d).reserves ≡ d.reserves)
      same true = (refl, refl)
      same false = (refl, refl)

      holding : IsSo p k s w d → (w.marks Held m a).value s ≡ bit (is_held d.held m a)
      holding h = h.held m a (live.marks Held m a (ap₂ (λ x y. x && y) (eqb_self m) (eqb_self a)))

      letting : IsSo p k s w d → (b : Bool) → all_hold gs d.env ≡ b
          → let_in s (w.lettings ++ record { mem = m; on = both r.on (w.marks Held m a) } ∷ [])
          ≡ let_in s w.lettings ++ (if b && is_held d.held m a then m ∷ [] else [])
      letting h b f =
          let_more s w.lettings (record { mem = m; on = both r.on (w.marks Held m a) })
          ∙ ap (λ c. let_in s w.lettings ++ (if c then m ∷ [] else []))
          (on_is s (both r.on (w.marks Held m a)) (b && is_held d.held m a)
          (both_at s r.on (w.marks Held m a) b (is_held d.held m a) (on_at c p ls vs s st k thread around gs r w d glive on q h ∙ ap bit f) (λ z. holding h)))

      so : IsSo p k s w d → locks_ready p st thread d ≡ true → (b : Bool) → all_hold gs d.env ≡ b → IsSo p k s new (done st thread b (Release m a) d)
      so h z true f = record {
        long = h.long;
        env = h.env;
        held = hold c p ls vs s st k thread around gs r w d glive on q m a (mux_signal r.on zero_bit (w.marks Held m a)) (let_go d.held m a)
            (λ l. mux_at s r.on zero_bit (w.marks Held m a) true (on_at c p ls vs s st k thread around gs r w d glive on q h ∙ ap bit f)
            ∙ zero_is s ∙ ap bit (sym (fine f z).1))
            (λ n b e. other_held d.held m a n b e) h.held;
        reserves = h.reserves;
        fits = h.fits;
        writes = h.writes;
        bits = h.bits;
        releases = ap (λ l. l ++ (if is_held d.held m a then m ∷ [] else [])) h.releases ∙ sym (letting h true f);
        child = h.child;
        short = h.short;
        asks = h.asks;
        advice = h.advice;
        advises = h.advises;
        guess_long = h.guess_long;
        guess = h.guess;
        fails = h.fails;
        barrier = h.barrier;
      }
      so h z false f = record {
        long = h.long;
        env = h.env;
        held =
            hold c p ls vs s st k thread around gs r w d glive on q m a (mux_signal r.on zero_bit (w.marks Held m a)) d.held
            (λ l. mux_at s r.on zero_bit (w.marks Held m a) false (on_at c p ls vs s st k thread around gs r w d glive on q h ∙ ap bit f) ∙ holding h)
            (λ n b e. refl) h.held;
        reserves = h.reserves;
        fits = h.fits;
        writes = h.writes;
        bits = h.bits;
        releases = h.releases ∙ sym (append-nil (let_in s w.lettings)) ∙ sym (letting h false f);
        child = h.child;
        short = h.short;
        asks = h.asks;
        advice = h.advice;
        advises = h.advises;
        guess_long = h.guess_long;
        guess = h.guess;
        fails = h.fails;
        barrier = h.barrier;
      }
