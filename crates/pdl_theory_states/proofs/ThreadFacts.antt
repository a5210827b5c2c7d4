-- What holds of each live thread beside the simulation, whatever its guess: it keeps to one path, owns what it awaits, is certain after a barrier, and its blocks stay ready.
use Rattle.std.proofs.Common.{◌≡◌, refl, sym, subst, ℕ, ◌≤◌, ◌<◌, ◌⊎◌, inl, inr, Bool, true, false, ◌||◌, not, List, [], ◌∷◌, ◌++◌, Some, nat_lt, nat_le, cond, if◌then◌else◌, arith, slice_index, ltb-true, leb-true, le_refl}
use Rattle.pdl_semantics.specs.Flat.{Pipe, Op, SpecBarrier, Block, Stmt, Branch, all_hold}
use Rattle.pdl_semantics.specs.Stages.{onpath, in_stage, stage_at, goes_to, verify_stage, reserve_stage, mem_at}
use Rattle.pdl_semantics.specs.Locks.{read_ready, write_ready}
use Rattle.pdl_semantics.specs.Machine.{Ask, Awaited, Deeds, is_answered, State, Owned, request_of, word_for}
use Rattle.pdl_semantics.specs.Moves.{movers, block_ready}
use Rattle.pdl_semantics.specs.Cycle.{awaited_of, squasher, is_kept}
use Rattle.pdl_semantics.specs.Sound.{is_barrier}
use Rattle.pdl_semantics.specs.Machine
use Rattle.pdl_theory_turns.specs.Derived.{Work, Around, around, befores, still, find_ask, latest}
use Rattle.pdl_theory_turns.specs.Derived
use Rattle.pdl_theory_turns.specs.Scans.{none_of}
use Rattle.pdl_theory_turns.specs.Facts.{Sound, trunk_only}
use Rattle.pdl_theory_turns.proofs.Writes.{and_left, and_right}
use Rattle.pdl_theory_simulation.proofs.FlowFacts.{Flows}
use Rattle.pdl_theory_simulation.proofs.AcceptedFacts.{sound_flows}
use Rattle.pdl_theory_turns.proofs.DelayedReads.{AllAsks, found}
use Rattle.pdl_theory_turns.proofs.CourseOf.{apart_asks}
use Rattle.pdl_theory_simulation.proofs.Stretches.{Behind, AllFetched, fixed_here, start_of, on_way, Keeps, left_trunk}
use Rattle.pdl_theory_simulation.proofs.StretchSteps.{AsksFrom}
use Rattle.pdl_theory_simulation.proofs.Seats.{deeds_of, advised, Live, threads_of, each_map, Ordered, dacts, lacts, did, now_of, work_of_live, befores_are}
use Rattle.pdl_theory_simulation.proofs.Choices.{Known, AllKnown, keeps_now, like_here, asks_here, deeds_are, starts_here, fixed_way, fit_all}
use Rattle.pdl_theory_simulation.proofs.Sayings.{Foresees, told_here}
use Rattle.pdl_theory_simulation.proofs.LockLists.{fell, moved_one, stood, next_live, go_on}
use Rattle.pdl_theory_simulation.proofs.ThreadPlaces.{each_next, leads_of}
use Rattle.pdl_theory_simulation.proofs.Requests.{asking}
use Rattle.pdl_theory_simulation.proofs.WholeSimulation.{fetch_low, request_stays, request_made}
use Rattle.pdl_theory_states.specs.Strict.{Strict, keeps_guess, all_keep_guess}
use Rattle.pdl_theory_states.proofs.Guessed.{GuessDone, kept_guesses, guesses_all, keep_front, keep_back}
use Rattle.pdl_theory_states.proofs.PastStatements.{BlockOk, Past, Kind}
use Rattle.pdl_theory_states.proofs.UnusedValues.{AllOps, ops_map, ops_both, onto}
use Rattle.pdl_theory_states.proofs.Trails.{AllStmts, stmts_map, stmts_both, ops_stmts, Among, among_low}
use Rattle.pdl_theory_states.proofs.ThreadHistory.{Local, whole_way, AnyAsk, AllAwaited, past_of, local_answered, answered_asks, local_moved, moved_asks, moved_trail, past_end, past_q, kept_unused}
use Rattle.pdl_theory_states.proofs.OlderWrites.{calm_next}
use Rattle.pdl_theory_states.proofs.Stage.{barred, some_barrier, barred_onto, clear_all, look_at, block_like, kept_blocks, LowBlock, low_blocks}
use Rattle.pdl_semantics.proofs.Readiness.{calm_read, calm_write, read_write}
use Rattle.pdl_word.specs.Each.{Each}
use Rattle.pdl_word.proofs.Each.{each_append}
use Rattle.pdl_theory_simulation.proofs.SimulatedStates.{Sim}
use Rattle.pdl_theory_simulation.proofs.CycleStarts.{next_state}
use Rattle.pdl_theory_simulation.proofs.Orders.{AllForetold}

-- each awaited read is one of the requests, which are outstanding as its own
abbrev pub Owns : State → ℕ → List Ask → List Awaited → Type 0
Owns st n asks rs = AllAwaited (λ r. AnyAsk (λ q. (q.var ≡ r.var) × (q.mem ≡ r.mem) × (request_of st r.mem ≡ Owned n q.address)) asks) rs

-- what holds of a live thread: it keeps to its path, owns its requests, has older ones past V after a barrier, and ready blocks
pub record Lasting (p : Pipe) (st : State) (l : Live) (older : List Live) : Type 0 where
  pub local : Local p l.env l.kept l.thread
  pub guessed : AllOps (GuessDone l.advice l.env l.thread.hint) (past_of p l.env l.thread.stage)
  pub owns : Owns st l.number local.asks l.thread.awaits
  pub certain : (v : ℕ) → verify_stage p.stmts ≡ Some v → barred (past_of p l.env l.thread.stage) ≡ true → Each (λ k. v < k.thread.stage) older
  pub blocks : AllOps (BlockOk (look_at p (threads_of older)) l.env l.thread.entries (past_of p l.env l.thread.stage)) (past_of p l.env l.thread.stage)

-- of all live threads, each with the older ones
abbrev pub Along : (Live → List Live → Type 0) → List Live → Type 0
Along P [] = Unit {0}
Along P (l ∷ ls) = P l ls × Along P ls

-- a property that some request has gives each property that follows from it
pub any_ask_map : {P Q : Ask → Type 0} → ((q : Ask) → P q → Q q) → (qs : List Ask) → AnyAsk P qs → AnyAsk Q qs
any_ask_map f [] h = h
any_ask_map f (q ∷ qs) (inl h) = inl (f q h)
any_ask_map f (q ∷ qs) (inr h) = inr (any_ask_map f qs h)

-- a property of each awaited read gives each property that follows from it
pub awaited_map : {P Q : Awaited → Type 0} → ((r : Awaited) → P r → Q r) → (rs : List Awaited) → AllAwaited P rs → AllAwaited Q rs
awaited_map f [] h = tt
awaited_map f (r ∷ rs) h = (f r h.0, awaited_map f rs h.1)

-- the requests of a stage, awaited
owns_made : (st : State) (n : ℕ) (qs : List Ask) → AllAsks (λ q. request_of st q.mem ≡ Owned n q.address) qs → Owns st n qs (awaited_of qs)
owns_made st n [] h = tt
owns_made st n (q ∷ qs) h = (inl (refl, refl, h.0), awaited_map (λ r k. inr k) (awaited_of qs) (owns_made st n qs h.1))

not_barred : (xs : List Stmt) (path : List ℕ) → none_of trunk_only xs ≡ true → some_barrier (onpath path xs) ≡ true → ⊥
not_barred [] path h k = cc k
not_barred (x ∷ xs) path h k = at (all_hold x.guards path) k (λ i. not_barred xs path (and_right (not (trunk_only x.op)) _ h) i)
  where
    no : (op : Op) → not (trunk_only op) ≡ true → is_barrier op ≡ true → ⊥
    no SpecBarrier i j = cc i
    no (Block m a) i j = cc j
    no _ i j = absurd (cc j)

    first : (b c : Bool) → (b ≡ true → ⊥) → (b || c) ≡ true → c ≡ true
    first true c f i = absurd (f refl)
    first false c f i = i

    at : (b : Bool) → some_barrier (if b then record x { guards = [] } ∷ onpath path xs else onpath path xs) ≡ true
        → (some_barrier (onpath path xs) ≡ true → ⊥) → ⊥
    at true i f = f (first (is_barrier x.op) (some_barrier (onpath path xs)) (λ e. no x.op (and_left _ _ h) e) i)
    at false i f = f i

module _ (p : Pipe) (sound : Sound p) (strict : Strict p) where
  -- the facts of this pipe that the simulation takes
  abbrev pub flows : Flows p
  flows = sound_flows p sound

  -- the blocks of a thread's past stand no later than some stage
  low_past : (env : List ℕ) (s n : ℕ) → AllStmts (λ z. z.stage ≤ n) (on_way p env s) → AllOps (LowBlock p n) (past_of p env s)
  low_past env s n h =
      ops_stmts (LowBlock p n) (on_way p env s) []
      (stmts_both (λ z low i m a e. let k = low m a e in (let j = i in omega arith)) (on_way p env s) (low_blocks p sound env s) h) tt

  -- the older threads are past the reserves
  past_reserve : (s m : ℕ) (ls : List Live) → Each (λ k. Behind p s k.thread.stage) ls → reserve_stage p m ≤ s
      → Each (λ k. reserve_stage p m < k.thread.stage) ls
  past_reserve s m ls b h = each_map (λ k i. left_trunk p _ _ i (reserve_stage p m) ((sound_flows p sound).trunk_reserve m) h) ls b

  module _ (st : State) (d : Derived.State) (bits : List Bool) (ls : List Live) (sim : Sim p st d ls)
      (told : AllForetold p (sound_flows p sound) st d bits sim.arrays ls) where
    -- the stated state after the cycle
    abbrev pub next : State
    next = next_state p (sound_flows p sound) st d bits ls sim

    module _ (ks : List Live) (l : Live) (k : Known p (sound_flows p sound) st d bits sim.arrays ks l)
        (older : AllKnown p (sound_flows p sound) st d bits sim.arrays ks) (ordered : Ordered p ks)
        (behind : Each (λ k. Behind p l.thread.stage k.thread.stage) ks)
        (calm : fell p d bits ks ≡ false) (stays_on : is_kept (squasher (movers (lacts p st d bits ls))) l.number ≡ true) (h : Lasting p st l ks) where
      -- what the thread finds around it in the derived machine
      abbrev pub o : Around
      o = around p d bits (dacts p d bits ks) l.thread.stage l.thread.hint

      kind : Kind (around p d bits (dacts p d bits ks) l.thread.stage l.thread.hint)
      kind m a i = read_write (mem_at p m).lock (latest (befores (dacts p d bits ks)) m a) i

      -- the older threads go on beyond V
      beyond : (v : ℕ) → (js : List Live) → AllKnown p (sound_flows p sound) st d bits sim.arrays js
          → Each (λ k. v < k.thread.stage) js → Each (λ k. v < k.thread.stage) (go_on p st d bits js)
      beyond v [] kn e = tt
      beyond v (j ∷ js) kn e = at (fell p d bits js) (beyond v js kn.1 e.1)
        where
          at : (f : Bool) → Each (λ k. v < k.thread.stage) (go_on p st d bits js)
              → Each (λ k. v < k.thread.stage) ((if f then [] else next_live p st d bits js j) ++ go_on p st d bits js)
          at true r = r
          at false r = each_append (λ k. v < k.thread.stage) (next_live p st d bits js j) (go_on p st d bits js)
              (each_next p (sound_flows p sound) st d bits sim.arrays (λ k. v < k.thread.stage) js j kn.0 (λ i. e.0)
              (λ i q g. let u = ((sound_flows p sound).graph.up j.thread.stage q (leads_of p (sound_flows p sound) st d bits sim.arrays js j kn.0 q g)).0 in
              let w = e.0 in omega arith)) r

      -- what is ready for it stays so
      calm_block : (env : List ℕ) (op : Op) → LowBlock p l.thread.stage op → (m a : ℕ) → op ≡ Block m a
          → (read_ready (mem_at p m).lock (latest (threads_of ks) m (slice_index env a)) ≡ true
          → read_ready (mem_at p m).lock (latest (threads_of (go_on p st d bits ks)) m (slice_index env a)) ≡ true)
          × (write_ready (mem_at p m).lock (latest (threads_of ks) m (slice_index env a)) ≡ true
          → write_ready (mem_at p m).lock (latest (threads_of (go_on p st d bits ks)) m (slice_index env a)) ≡ true)
      calm_block env op low m a e =
          let c =
          calm_next p (sound_flows p sound) st d bits sim.arrays m (slice_index env a) ks older ordered
          (past_reserve l.thread.stage m ks behind (low m a e)) calm in
          ((λ i. calm_read (mem_at p m).lock _ _ c i), (λ i. calm_write (mem_at p m).lock _ _ c i))

      -- THE THREAD STANDS

      asks_known : AllAwaited (λ r. AnyAsk (λ q. q.var ≡ r.var) h.local.asks) l.thread.awaits
      asks_known = awaited_map (λ r i. any_ask_map (λ q j. j.0) h.local.asks i) l.thread.awaits h.owns

      -- a thread that stands keeps to its path, with this cycle's answers among those that are kept for it
      pub now_local : Local p l.env (l.kept ++ Machine.answered_reads p st bits l.number l.thread.awaits) (now_of p d bits l)
      now_local = local_answered p st bits l.number l.env l.kept l.thread (now_of p d bits l).env (still p bits l.thread.awaits) k.waits h.local asks_known

      now_asks : now_local.asks ≡ h.local.asks
      unfolding now_local
      now_asks = answered_asks p st bits l.number l.env l.kept l.thread (now_of p d bits l).env (still p bits l.thread.awaits) k.waits h.local asks_known

      owns_still : (rs : List Awaited) → AllFetched p l.thread.stage rs → Owns st l.number h.local.asks rs
          → Owns
          (next_state p (sound_flows p sound) st d bits ls sim) l.number h.local.asks
          (still p bits rs)
      owns_still [] f i = tt
      owns_still (r ∷ rs) f i = at (is_answered p bits r.mem) refl (owns_still rs f.1 i.1)
        where
          at : (b : Bool) → is_answered p bits r.mem ≡ b
              → Owns
              (next_state p (sound_flows p sound) st d bits ls sim) l.number h.local.asks
              (still p bits rs)
              → Owns
              (next_state p (sound_flows p sound) st d bits ls sim) l.number h.local.asks
              (cond b (still p bits rs) (r ∷ still p bits rs))
          at true e g = g
          at false e g = (
            any_ask_map
                (λ q j. (j.0, j.1, request_stays p (sound_flows p sound) st d bits ls sim told l stays_on r.mem (q.address, j.2) f.0 e)) h.local.asks i.0,
            g,
          )

      low_here : AllOps (LowBlock p l.thread.stage) (past_of p l.env l.thread.stage)
      low_here =
          low_past l.env l.thread.stage l.thread.stage
          (stmts_map (λ z i. let u = among_low p (sound_flows p sound).graph l.env l.thread.stage h.local.trail h.local.walked z.stage i in omega arith)
          (on_way p l.env l.thread.stage) h.local.among)

      -- what holds of a live thread holds of it after a cycle in which it stands
      pub lasting_stood : Lasting p
          (next_state p (sound_flows p sound) st d bits ls sim)
          (stood p st d bits l) (go_on p st d bits ks)
      lasting_stood =
          record {
            local = now_local;
            guessed = h.guessed;
            owns =
                subst
                (λ qs. Owns
                (next_state p (sound_flows p sound) st d bits ls sim) l.number qs
                (still p bits l.thread.awaits))
                (sym now_asks) (owns_still l.thread.awaits k.seated.keeps_on.fetched h.owns);
            certain = λ v e i. beyond v ks older (h.certain v e i);
            blocks =
                ops_both
                (λ op low b. block_like (look_at p (threads_of ks))
                (look_at p (threads_of (go_on p st d bits ks))) l.env l.thread.entries
                (past_of p l.env l.thread.stage) op (λ m a e. calm_block l.env op low m a e) b)
                (past_of p l.env l.thread.stage) low_here h.blocks;
          }

      -- THE THREAD MOVES

      module _ (moves : (did p d bits ks l).moves ≡ true)
          (foresees : Foresees p (sound_flows p sound) st d bits sim.arrays ks l) (asked : (m a : ℕ) → find_ask (work_of_live p d bits ks l).asks m ≡ Some a
          → asking p (sound_flows p sound) st d bits sim.arrays ls m ≡ Some (record { number = l.number; address = a })) where
        ready : (work_of_live p d bits ks l).ready ≡ true
        ready = and_right _ _ (and_left _ _ (and_left _ _ (and_left _ _ moves)))

        now_keeps : Keeps p l.env (now_of p d bits l)
        now_keeps = keeps_now p (sound_flows p sound) st d bits sim.arrays l k.seated

        block_start : AllOps
            (BlockOk (around p d bits (dacts p d bits ks) l.thread.stage l.thread.hint) (now_of p d bits l).env l.thread.entries
            (past_of p l.env l.thread.stage))
            (past_of p l.env l.thread.stage)
        block_start =
            subst
            (λ e. AllOps (BlockOk (around p d bits (dacts p d bits ks) l.thread.stage l.thread.hint) e l.thread.entries (past_of p l.env l.thread.stage))
            (past_of p l.env l.thread.stage)) k.values
            (kept_blocks (around p d bits (dacts p d bits ks) l.thread.stage l.thread.hint) l.thread.entries (past_of p l.env l.thread.stage)
            (past_of p l.env l.thread.stage)
            (l.kept ++ Machine.answered_reads p st bits l.number l.thread.awaits) l.env
            (kept_unused p l.env (l.kept ++ Machine.answered_reads p st bits l.number l.thread.awaits) (now_of p d bits l) now_local)
            (ops_map
            (λ op b. block_like (look_at p (threads_of ks))
            (around p d bits (dacts p d bits ks) l.thread.stage l.thread.hint) l.env l.thread.entries (past_of p l.env l.thread.stage) op
            (λ m a e. (
              (λ i. subst (λ ts. read_ready (mem_at p m).lock (latest ts m (slice_index l.env a)) ≡ true) (sym (befores_are p d bits ks)) i),
              (λ i. subst (λ ts. write_ready (mem_at p m).lock (latest ts m (slice_index l.env a)) ≡ true) (sym (befores_are p d bits ks)) i),
            )) b)
            (past_of p l.env l.thread.stage) h.blocks))

        ended : Past (around p d bits (dacts p d bits ks) l.thread.stage l.thread.hint) p.vars
            (onto (onpath (work_of_live p d bits ks l).env (in_stage l.thread.stage p.stmts)) (past_of p l.env l.thread.stage))
            (work_of_live p d bits ks l)
        ended =
            past_end p (sound_flows p sound) sound strict
            (around p d bits (dacts p d bits ks) l.thread.stage l.thread.hint) kind l.env
            (l.kept ++ Machine.answered_reads p st bits l.number l.thread.awaits)
            (now_of p d bits l) now_keeps k.values now_local ready refl block_start

        -- what it has guessed
        guessed_end : AllOps (GuessDone (deeds_of p st bits l).advice (work_of_live p d bits ks l).env l.thread.hint)
            (onto (onpath (work_of_live p d bits ks l).env (in_stage l.thread.stage p.stmts)) (past_of p l.env l.thread.stage))
        guessed_end =
            subst (λ (w : Work). AllOps (GuessDone (deeds_of p st bits l).advice w.env l.thread.hint) (onto mine (past_of p l.env l.thread.stage)))
            (sym (told_here p (sound_flows p sound) st d bits sim.arrays ks l k foresees).is)
            (subst (λ (e : Deeds). AllOps (GuessDone e.advice e.env l.thread.hint) (onto mine (past_of p l.env l.thread.stage)))
            (sym (deeds_are p (sound_flows p sound) st d bits sim.arrays ks l k))
            (guesses_all (around p d bits (dacts p d bits ks) l.thread.stage l.thread.hint) (word_for st l.number) (λ b. block_ready p st l.number b)
            (λ q. Derived.port_free p d bits (dacts p d bits ks) q.mem)
            (work_of_live p d bits ks l).env (in_stage l.thread.stage p.stmts) (past_of p l.env l.thread.stage) _ (start_of (now_of p d bits l))
            (starts_here p (sound_flows p sound) st d bits sim.arrays ks l k) (fit_all p (sound_flows p sound) st d bits sim.arrays ks l k)
            (fixed_way p (sound_flows p sound) st d bits sim.arrays ks l k) foresees kept_back.0 kept_back.1
            (subst (λ e. AllOps (GuessDone l.advice e l.thread.hint) (past_of p l.env l.thread.stage)) k.values
            (kept_guesses l.advice l.thread.hint (past_of p l.env l.thread.stage) (l.kept ++ Machine.answered_reads p st bits l.number l.thread.awaits) l.env
            (kept_unused p l.env (l.kept ++ Machine.answered_reads p st bits l.number l.thread.awaits) (now_of p d bits l) now_local) h.guessed))))
          where
            mine : List Stmt
            mine = onpath (work_of_live p d bits ks l).env (in_stage l.thread.stage p.stmts)

            kept_back : AllOps (λ o. keeps_guess o (onpath (work_of_live p d bits ks l).env (in_stage l.thread.stage p.stmts)) ≡ true)
                (past_of p l.env l.thread.stage) × (all_keep_guess (onpath (work_of_live p d bits ks l).env (in_stage l.thread.stage p.stmts)) ≡ true)
            kept_back =
                keep_back (on_way p l.env l.thread.stage) (onpath (work_of_live p d bits ks l).env (in_stage l.thread.stage p.stmts)) []
                (keep_front (on_way p l.env l.thread.stage ++ onpath (work_of_live p d bits ks l).env (in_stage l.thread.stage p.stmts)) _
                (subst (λ xs. all_keep_guess xs ≡ true)
                (whole_way p (sound_flows p sound) sound strict (around p d bits (dacts p d bits ks) l.thread.stage l.thread.hint) kind l.env
                (l.kept ++ Machine.answered_reads p st bits l.number l.thread.awaits) (now_of p d bits l) now_keeps k.values now_local ready refl)
                (strict.guesses (work_of_live p d bits ks l).env))) tt

        own_requests : AllAsks
            (λ q. request_of
            (next_state p (sound_flows p sound) st d bits ls sim) q.mem
            ≡ Owned l.number q.address)
            (work_of_live p d bits ks l).asks
        own_requests =
            each (work_of_live p d bits ks l).asks
            (found (work_of_live p d bits ks l).asks
            (apart_asks (around p d bits (dacts p d bits ks) l.thread.stage l.thread.hint) (in_stage l.thread.stage p.stmts)
            (start_of (now_of p d bits l)) (sound.fetch_alone l.thread.stage) tt tt)) from_stage
          where
            from_stage : AsksFrom (in_stage l.thread.stage p.stmts) (work_of_live p d bits ks l).asks
            from_stage =
                subst (λ (w : Work). AsksFrom (in_stage l.thread.stage p.stmts) w.asks)
                (sym (like_here p (sound_flows p sound) st d bits sim.arrays ks l k).is)
                (asks_here p (sound_flows p sound) st d bits sim.arrays ks l k)

            each : (qs : List Ask) → AllAsks (λ q. find_ask (work_of_live p d bits ks l).asks q.mem ≡ Some q.address) qs
                → AsksFrom (in_stage l.thread.stage p.stmts) qs
                → AllAsks
                (λ q. request_of
                (next_state p (sound_flows p sound) st d bits ls sim) q.mem
                ≡ Owned l.number q.address) qs
            each [] f a = tt
            each (q ∷ qs) f a = (
              request_made p (sound_flows p sound) st d bits ls sim told l stays_on q.mem q.address (fetch_low p (sound_flows p sound) q.mem l.thread.stage a.0)
                  (asked q.mem q.address f.0),
              each qs f.1 a.1,
            )

        -- a barrier found nobody before V
        past_barrier : (v : ℕ) → verify_stage p.stmts ≡ Some v
            → some_barrier (onpath (work_of_live p d bits ks l).env (in_stage l.thread.stage p.stmts)) ≡ true
            → Each (λ j. v < j.thread.stage) ks
        past_barrier v e b = at (stage_at p l.thread.stage).branches refl
          where
            clear : Derived.barrier_clear (Some v) l.thread.stage (threads_of ks) ≡ true
            clear =
                subst (λ ts. Derived.barrier_clear (Some v) l.thread.stage ts ≡ true) (befores_are p d bits ks)
                (subst (λ r. Derived.barrier_clear r l.thread.stage (befores (dacts p d bits ks)) ≡ true) e
                (clear_all (work_of_live p d bits ks l).env (around p d bits (dacts p d bits ks) l.thread.stage l.thread.hint)
                (in_stage l.thread.stage p.stmts) (start_of (now_of p d bits l))
                (fixed_here p (sound_flows p sound) l.env (now_of p d bits l) now_keeps
                (around p d bits (dacts p d bits ks) l.thread.stage l.thread.hint)) b ready))

            each : (js : List Live) → Each (λ j. l.thread.stage < j.thread.stage) js
                → Derived.barrier_clear (Some v) l.thread.stage (threads_of js) ≡ true
                → Each (λ j. v < j.thread.stage) js
            each [] s c = tt
            each (j ∷ js) s c = (
              one (nat_le j.thread.stage l.thread.stage) refl (and_left _ _ c),
              each js s.1 (and_right (nat_le j.thread.stage l.thread.stage || nat_lt v j.thread.stage) _ c),
            )
              where
                one : (t : Bool) → nat_le j.thread.stage l.thread.stage ≡ t → (t || nat_lt v j.thread.stage) ≡ true → v < j.thread.stage
                one true i u = absurd (let w = leb-true _ _ i in let y = s.0 in omega arith)
                one false i u = ltb-true _ _ u

            at : (c : List Branch) → (stage_at p l.thread.stage).branches ≡ c → Each (λ j. v < j.thread.stage) ks
            at [] i = each ks (each_map (λ j g. left_trunk p _ _ g l.thread.stage i (le_refl l.thread.stage)) ks behind) clear
            at (x ∷ c) i =
                absurd (not_barred (in_stage l.thread.stage p.stmts) (work_of_live p d bits ks l).env ((sound_flows p sound).branches x c l.thread.stage i) b)

        abbrev moved_local : (q : ℕ)
            → goes_to (stage_at p l.thread.stage).next (work_of_live p d bits ks l).env ≡ Some q
            → Local p (work_of_live p d bits ks l).env [] (moved_one q (advised p st bits l) (work_of_live p d bits ks l)).thread
        moved_local q goes =
            local_moved p (sound_flows p sound) sound strict
            (around p d bits (dacts p d bits ks) l.thread.stage l.thread.hint) kind l.env
            (l.kept ++ Machine.answered_reads p st bits l.number l.thread.awaits)
            (now_of p d bits l) now_keeps k.values now_local ready refl q goes block_start

        trail_moved : (q : ℕ) (goes : goes_to (stage_at p l.thread.stage).next (work_of_live p d bits ks l).env ≡ Some q)
            → (moved_local q goes).trail ≡ l.thread.stage ∷ now_local.trail
        trail_moved q goes =
            moved_trail p (sound_flows p sound) sound strict
            (around p d bits (dacts p d bits ks) l.thread.stage l.thread.hint) kind l.env
            (l.kept ++ Machine.answered_reads p st bits l.number l.thread.awaits)
            (now_of p d bits l) now_keeps k.values now_local ready refl q goes block_start

        -- what holds of a live thread holds of it after a cycle in which it moves to a next stage
        pub lasting_moved : (q : ℕ) → goes_to (stage_at p l.thread.stage).next (work_of_live p d bits ks l).env ≡ Some q
            → Lasting p (next_state p (sound_flows p sound) st d bits ls sim)
            (moved_one q (advised p st bits l) (work_of_live p d bits ks l)) (go_on p st d bits ks)
        lasting_moved q goes =
            record {
              local = moved_local q goes;
              guessed =
                  subst (λ ops. AllOps (GuessDone (deeds_of p st bits l).advice (work_of_live p d bits ks l).env l.thread.hint) ops) (sym is_past) guessed_end;
              owns =
                  subst
                  (λ qs. Owns
                  (next_state p (sound_flows p sound) st d bits ls sim) l.number qs
                  (awaited_of (work_of_live p d bits ks l).asks))
                  (sym
                  (moved_asks p (sound_flows p sound) sound strict
                  (around p d bits (dacts p d bits ks) l.thread.stage l.thread.hint) kind l.env
                  (l.kept ++ Machine.answered_reads p st bits l.number l.thread.awaits)
                  (now_of p d bits l) now_keeps k.values now_local ready refl q goes block_start))
                  (owns_made
                  (next_state p (sound_flows p sound) st d bits ls sim) l.number
                  (work_of_live p d bits ks l).asks own_requests);
              certain =
                  λ v e i. beyond v ks older
                  (before v e
                  (barred_onto (onpath (work_of_live p d bits ks l).env (in_stage l.thread.stage p.stmts))
                  (past_of p l.env l.thread.stage) (subst (λ ops. barred ops ≡ true) is_past i)));
              blocks =
                  subst
                  (λ ops. AllOps
                  (BlockOk (look_at p (threads_of (go_on p st d bits ks))) (work_of_live p d bits ks l).env (work_of_live p d bits ks l).entries ops) ops)
                  (sym is_past)
                  (ops_both
                  (λ op low b. block_like (around p d bits (dacts p d bits ks) l.thread.stage l.thread.hint)
                  (look_at p (threads_of (go_on p st d bits ks)))
                  (work_of_live p d bits ks l).env (work_of_live p d bits ks l).entries
                  (onto (onpath (work_of_live p d bits ks l).env (in_stage l.thread.stage p.stmts)) (past_of p l.env l.thread.stage)) op
                  (λ m a e. let c = calm_block (work_of_live p d bits ks l).env op low m a e in (
                    (λ i. c.0
                        (subst (λ ts. read_ready (mem_at p m).lock (latest ts m (slice_index (work_of_live p d bits ks l).env a)) ≡ true)
                        (befores_are p d bits ks) i)),
                    (λ i. c.1
                        (subst (λ ts. write_ready (mem_at p m).lock (latest ts m (slice_index (work_of_live p d bits ks l).env a)) ≡ true)
                        (befores_are p d bits ks) i)),
                  )) b)
                  (onto (onpath (work_of_live p d bits ks l).env (in_stage l.thread.stage p.stmts)) (past_of p l.env l.thread.stage)) low_end ended.blocks);
            }
          where
            is_past : past_of p (work_of_live p d bits ks l).env q
                ≡ onto (onpath (work_of_live p d bits ks l).env (in_stage l.thread.stage p.stmts)) (past_of p l.env l.thread.stage)
            is_past =
                past_q p (sound_flows p sound) sound strict
                (around p d bits (dacts p d bits ks) l.thread.stage l.thread.hint) kind l.env
                (l.kept ++ Machine.answered_reads p st bits l.number l.thread.awaits)
                (now_of p d bits l) now_keeps k.values now_local ready refl q goes

            before : (v : ℕ) → verify_stage p.stmts ≡ Some v
                → (some_barrier (onpath (work_of_live p d bits ks l).env (in_stage l.thread.stage p.stmts)) ≡ true)
                ⊎ (barred (past_of p l.env l.thread.stage) ≡ true)
                → Each (λ j. v < j.thread.stage) ks
            before v e (inl i) = past_barrier v e i
            before v e (inr i) = h.certain v e i

            low_end : AllOps (LowBlock p l.thread.stage)
                (onto (onpath (work_of_live p d bits ks l).env (in_stage l.thread.stage p.stmts)) (past_of p l.env l.thread.stage))
            low_end =
                subst (λ ops. AllOps (LowBlock p l.thread.stage) ops) is_past
                (low_past (work_of_live p d bits ks l).env q l.thread.stage
                (stmts_map (λ z i. at z.stage (subst (λ t. Among z.stage t) (trail_moved q goes) i))
                (on_way p (work_of_live p d bits ks l).env q) (moved_local q goes).among))
              where
                at : (s : ℕ) → Among s (l.thread.stage ∷ now_local.trail) → s ≤ l.thread.stage
                at s (inl e) = let i = e in omega arith
                at s (inr i) = let u = among_low p (sound_flows p sound).graph l.env l.thread.stage now_local.trail now_local.walked s i in omega arith
