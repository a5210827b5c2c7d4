-- What a cycle does to a lock: the stages' ports do what the threads that move do, it is proper use, and it makes the lock of the next pending writes.
use Rattle.std.proofs.Common.{◌≡◌, refl, sym, ap, ap₂, ◌∙◌, subst, ℕ, zero, suc, ◌+◌, ◌<◌, ◌≤◌, Bool, true, false, ◌&&◌, List, [], ◌∷◌, ◌++◌, length, Option, Some, None, is_some, arith, ⊎_elim, length-append, append-nil, ◌==◌, ◌⊎◌, inl, inr, add-zero, le-ltb, lt-ltb, ltb-true}
use Rattle.std.specs.Prelude.{if◌then◌else◌, nat_lt, ⊤, Contains}
use Rattle.std.proofs.lemmas.Bool.{false≢true, and_parts, cases_lt}
use Rattle.std.proofs.lemmas.List.{length-map, length-drop}
use Rattle.pdl_word.specs.Words.{bit}
use Rattle.pdl_word.proofs.Each.{each_get}
use Rattle.pdl_semantics.specs.Flat.{Pipe}
use Rattle.pdl_semantics.specs.Stages.{mem_at, commit_stage}
use Rattle.pdl_semantics.specs.Locks as locks
use Rattle.pdl_semantics.specs.Machine as machine
use Rattle.pdl_semantics.specs.Machine.{Thread, Pending, Written, deeds}
use Rattle.pdl_semantics.specs.Sound.{entries_by}
use Rattle.pdl_semantics.specs.SecondWrites.{reserves_twice}
use Rattle.pdl_semantics.specs.Moves.{Act as Mover}
use Rattle.pdl_semantics.specs.Cycle.{with_reserves, with_all_writes, with_writes_of, releases_of, all_releases, list_two, list_three, squasher}
use Rattle.pdl_net.specs.Circuit.{State}
use Rattle.pdl_net.specs.Signal.{Signal}
use Rattle.pdl_lockapi.specs.Lock.{WriteAct, LockAct, LockState, with_writes, entry_at, Proper}
use Rattle.pdl_lockapi.specs.Lock as lock
use Rattle.pdl_lockapi.specs.Laws.{holds_ticket, asked_addresses, Drives}
use Rattle.pdl_lockapi.specs.Forget.{forget, forgotten_entries, as_lock, has_place, place_of, IsOnce, lock_state_of, addresses, addresses_of}
use Rattle.pdl_lockapi.proofs.Threads.{same_append, ticket_covered, place_is_own, once_own}
use Rattle.pdl_machine_facts.specs.Slots.{here, stage_moves, movers_from, moving}
use Rattle.pdl_machine_facts.specs.Cycle.{IsByStages}
use Rattle.pdl_law_parts.proofs.AnsweredThreads.{Stood}
use Rattle.pdl_law_parts.specs.declared.Mark.TheVariants.{Late}
use Rattle.pdl_law_parts.specs.Lives.{mark_from}
use Rattle.pdl_law_parts.specs.Walk.{Locks, is_locked, Put, is_on, zero_bit}
use Rattle.pdl_law_parts.specs.Views.{Gates, View}
use Rattle.pdl_law_parts.specs.Ports.{reserves_to, all_reserves, puts_to, tickets_to, all_puts, release_signal, second_signal, step_of}
use Rattle.pdl_law_parts.specs.Served.{IsServed, at_most, own_with}
use Rattle.pdl_law_parts.specs.Stands.{StandsLock, IsSo, IsSeen, IsSquashed, AreLate, reserved_in, written_in, let_in}
use Rattle.pdl_law_parts.proofs.Signals.{zero_is}
use Rattle.pdl_law_parts.proofs.StageLooks.{lock_there}
use Rattle.pdl_law_parts.proofs.Moves.{ready_of}
use Rattle.pdl_law_parts.proofs.LockUse.{alike_long, writes_alike, all_new, appended_is, new_count, EachTo, each_to, each_map, HasTicket, write_acts, written_append, none_written, stage_written, place_below}
use Rattle.pdl_law_parts.proofs.AskedWrites.{written_marks}
use Rattle.pdl_law_parts.proofs.Tickets.{ticket_at_is}
use Rattle.pdl_lockapi.proofs.LockKinds.{room_there}
use Rattle.pdl_law_parts.proofs.LockPorts.{asked_append, asked_stage, lets_stage, AreFitting, fitting_append, fitting_at, fitting_stage, seconds_stage, AreDriven, driven_append, driven_count, driven_at, driven_stage, moves_or_not, no_mover, one_mover}
use Rattle.pdl_semantics.specs.PendingLists.{count_older, AreWritten}

-- RELEASES

-- there are as many pending writes as are released
pub written_long : (k : ℕ) (es : List Pending) → AreWritten k es → k ≤ length es
written_long zero es h = omega arith
written_long (suc k) [] h = absurd h
written_long (suc k) (e ∷ es) h = let i = written_long k es h.2 in omega (arith, i)

-- what is released has its value
entries_done : (k : ℕ) (es : List Pending) → AreWritten k es → (i : ℕ) → i < k → is_some (entry_at (forgotten_entries es) i).value ≡ true
entries_done zero es h i l = absurd (omega (arith, l))
entries_done (suc k) [] h i l = absurd h
entries_done (suc k) (e ∷ es) h zero l = ap is_some h.1
entries_done (suc k) (e ∷ es) h (suc i) l = entries_done k es h.2 i (omega (arith, l))

-- the ticket of the oldest pending write after at most two releases
pub base_after : (base k : ℕ) → k ≤ 2 → (if nat_lt 1 k then base + 2 else if nat_lt 0 k then base + 1 else base) ≡ base + k
base_after base zero l = sym (add-zero base)
base_after base (suc zero) l = refl
base_after base (suc (suc zero)) l = refl
base_after base (suc (suc (suc k))) l = absurd (omega (arith, l))

-- OF ALL STAGES

module _ (p : Pipe) (ls : Locks) (vs : ℕ → View) (moves : ℕ → Signal) (s : State) (st : machine.State)
    (bits : List Bool) (by : IsByStages p st bits) (used : IsServed p st bits)
    (seen : (j : ℕ) → j < length p.stages → IsSeen p vs moves s st bits j)
    (stood : (k : ℕ) (t : Thread) → here p st bits k ≡ Some t → Stood st k t) (m : ℕ) where
  -- a stage's signals tell what its thread does, where that moves
  pub so_at : (k : ℕ) (t : Thread) → k < length p.stages → here p st bits k ≡ Some t → stage_moves p st bits k ≡ true → IsSo p k s (vs k).ended (deeds p st k t)
  so_at k t l h g = ((seen k l).follows t h).so (ready_of p st bits k t by l h g)

  -- the addresses that a cycle reserves are those that its ports ask
  pub reserves_are : (n k : ℕ) → k + n ≡ length p.stages → addresses m (movers_from p st bits n k) ≡ asked_addresses s (all_reserves m vs moves n k)
  reserves_are zero k e = refl
  reserves_are (suc n) k e =
      let l : k < length p.stages = omega (arith, e) in
      let rest = movers_from p st bits n (suc k) in
      let i = reserves_are n (suc k) (omega (arith, e)) in
      let rs = (vs k).ended.reserves in
      let back = sym (asked_append s (all_reserves m vs moves n (suc k)) (reserves_to m (moves k) rs)) in
      let here' = asked_stage s m (moves k) (stage_moves p st bits k) (seen k l).leaves rs in
      ⊎_elim
      (λ (f : stage_moves p st bits k ≡ false).
      ap (λ ms. addresses m (ms ++ rest)) (no_mover p st bits k f) ∙ sym (append-nil (addresses m rest))
      ∙ ap₂ (λ x y. x ++ y) i (ap (λ b. if b then addresses_of m (reserved_in s rs) else []) (sym f) ∙ here') ∙ back)
      (λ (f : (t : Thread) × (here p st bits k ≡ Some t) × (stage_moves p st bits k ≡ true)).
      ap (λ ms. addresses m (ms ++ rest)) (one_mover p st bits k f.0 f.1 f.2)
      ∙ ap₂ (λ x y. x ++ y) i
      (ap (addresses_of m) (so_at k f.0 l f.1 f.2).reserves ∙ ap (λ b. if b then addresses_of m (reserved_in s rs) else []) (sym f.2) ∙ here')
      ∙ back)
      (moves_or_not p st bits k)

  fitting : (n k : ℕ) → k + n ≡ length p.stages → AreFitting s (all_reserves m vs moves n k)
  fitting zero k e = tt
  fitting (suc n) k e =
      let l : k < length p.stages = omega (arith, e) in
      fitting_append s (all_reserves m vs moves n (suc k)) (reserves_to m (moves k) (vs k).ended.reserves)
      (fitting n (suc k) (omega (arith, e)))
      (fitting_stage s m (moves k) (stage_moves p st bits k) (seen k l).leaves (vs k).ended.reserves (λ g. elim (moves_or_not p st bits k) [
        | inl f ↦ absurd (false≢true (sym f ∙ g))
        | inr f ↦ (so_at k f.0 l f.1 f.2).fits
      ]))

  -- so its marks tell which of its own pending writes of a memory that some path reserves twice is the second one
  late_at : (k : ℕ) (t : Thread) → k < length p.stages → here p st bits k ≡ Some t → stage_moves p st bits k ≡ true → m < length p.mems
      → reserves_twice m p.stmts ≡ true → k ≤ commit_stage p m → AreLate p k s (vs k).ended.marks t.number m (own_with p st k t m)
  late_at k t l h g low twice early = ((seen k l).follows t h).late (ready_of p st bits k t by l h g) m low twice early

  -- the releases of one stage with those of the stages after it
  released_by : (n k : ℕ) → k < length p.stages
      → all_releases m (movers_from p st bits n (suc k)) + (if stage_moves p st bits k then releases_of m (let_in s (vs k).ended.lettings) else 0)
      ≡ all_releases m (movers_from p st bits (suc n) k)
  released_by n k l =
      let rest = movers_from p st bits n (suc k) in
      let let_go = releases_of m (let_in s (vs k).ended.lettings) in
      ⊎_elim
      (λ (f : stage_moves p st bits k ≡ false).
      ap (λ b. all_releases m rest + (if b then let_go else 0)) f ∙ add-zero (all_releases m rest)
      ∙ ap (λ ms. all_releases m (ms ++ rest)) (sym (no_mover p st bits k f)))
      (λ (f : (t : Thread) × (here p st bits k ≡ Some t) × (stage_moves p st bits k ≡ true)).
      ap (λ b. all_releases m rest + (if b then let_go else 0)) f.2
      ∙ ap (λ ns. all_releases m rest + releases_of m ns) (sym (so_at k f.0 l f.1 f.2).releases)
      ∙ ap (λ ms. all_releases m (ms ++ rest)) (sym (one_mover p st bits k f.0 f.1 f.2)))
      (moves_or_not p st bits k)

  release_is : (n k : ℕ) → k + n ≡ length p.stages
      → (release_signal m vs moves n k).value s ≡ bit (nat_lt 0 (all_releases m (movers_from p st bits n k)))
  release_is zero k e = zero_is s
  release_is (suc n) k e =
      let l : k < length p.stages = omega (arith, e) in
      lets_stage s m (moves k) (stage_moves p st bits k) (seen k l).leaves (vs k).ended.lettings (release_signal m vs moves n (suc k))
      (all_releases m (movers_from p st bits n (suc k))) (release_is n (suc k) (omega (arith, e)))
      ∙ ap (λ c. bit (nat_lt 0 c)) (released_by n k l)

  second_is : (n k : ℕ) → k + n ≡ length p.stages
      → (second_signal m vs moves n k).value s ≡ bit (nat_lt 1 (all_releases m (movers_from p st bits n k)))
  second_is zero k e = zero_is s
  second_is (suc n) k e =
      let l : k < length p.stages = omega (arith, e) in
      seconds_stage s m (moves k) (stage_moves p st bits k) (seen k l).leaves (vs k).ended.lettings (release_signal m vs moves n (suc k))
      (second_signal m vs moves n (suc k)) (all_releases m (movers_from p st bits n (suc k))) (release_is n (suc k) (omega (arith, e)))
      (second_is n (suc k) (omega (arith, e)))
      ∙ ap (λ c. bit (nat_lt 1 c)) (released_by n k l)

  -- THE ACT

  -- the machine's pending writes with those that this cycle appends
  abbrev pub pending : List Pending
  pending = with_reserves m (moving p st bits) (machine.lock_of st m)

  -- the place of a thread's pending write of a variable
  abbrev place_in : Option Thread → ℕ → ℕ
  place_in None y = 0
  place_in (Some t) y = place_of t.number y pending

  -- as many pending writes as before, and those that are reserved
  pub pending_count : length pending ≡ length (machine.lock_of st m) + length (addresses m (moving p st bits))
  pending_count =
      ap length (appended_is m (moving p st bits) (machine.lock_of st m))
      ∙ length-append (machine.lock_of st m) (all_new m (moving p st bits))
      ∙ ap (λ n. length (machine.lock_of st m) + n) (new_count m (moving p st bits))

  module _ (e : is_locked p m ≡ true) (stand : StandsLock p ls vs s st m) (gates : Gates) (squashed : IsSquashed p ls vs gates s st bits) where
    abbrev base : ℕ
    base = stand.base

    -- how many writes are released
    abbrev pub gone : ℕ
    gone = all_releases m (moving p st bits)

    -- the ticket from which on a squash drops
    abbrev pub tail_with : Option ℕ → ℕ
    tail_with None = 0
    tail_with (Some n) = base + gone + count_older (suc n) (list_three st (moving p st bits) m)

    -- what the write ports of these stages do
    abbrev pub acts_of : ℕ → ℕ → List WriteAct
    acts_of zero k = []
    acts_of (suc n) k = acts_of n (suc k) ++ write_acts s m (stage_moves p st bits k) (λ y. base + place_in (here p st bits k) y) (vs k).ended.puts

    -- what the cycle does to the lock: its reservations, writes, releases and squash, by the machine's threads
    abbrev pub act_of : LockAct
    act_of = record {
      reserves = addresses m (moving p st bits);
      writes = acts_of (length p.stages) 0;
      release = nat_lt 0 gone;
      release2 = nat_lt 1 gone;
      squash = is_some (squasher (moving p st bits));
      tail = tail_with (squasher (moving p st bits));
    }

    -- the place of a thread's reservation among its own
    abbrev own_place : ℕ → Thread → ℕ → ℕ
    own_place k t y = place_of t.number y (own_with p st k t m)

    -- a thread that writes has one pending write of the variable, and is in time; the write stands behind those of older threads, and its mark tells whether another of the thread's own stands before it
    record IsOwn (k : ℕ) (t : Thread) (y : ℕ) : Type 0 where
      early : k ≤ commit_stage p m
      has : has_place t.number y pending ≡ true
      once : IsOnce t.number y pending
      place : place_of t.number y pending ≡ count_older t.number (machine.lock_of st m) + own_place k t y
      few : own_place k t y < at_most p m
      late : reserves_twice m p.stmts ≡ true → ((vs k).ended.marks Late m y).value s ≡ bit (nat_lt 0 (own_place k t y))

    -- so has each thread that moves and writes
    own_at : (k : ℕ) (t : Thread) → k < length p.stages → here p st bits k ≡ Some t → stage_moves p st bits k ≡ true
        → EachTo m (IsOwn k t) (written_in s (vs k).ended.puts)
    own_at k t l h g =
        each_to m (IsOwn k t) (written_in s (vs k).ended.puts)
        (λ y v c.
        let P : List Written → Type 0 = λ ws. Contains ws (record { mem = m; var = y; value = v }) in
        is_own y v (subst P (sym (so_at k t l h g).writes) c))
      where
        own : List Pending
        own = own_with p st k t m

        low : m < length p.mems
        low = lock_there p m e

        marked : (w : Written) → Contains (deeds p st k t).writes w → mark_from p k Late w.mem w.var ≡ true
        marked w c =
            let P : Written → Type 0 = λ w. mark_from p k Late w.mem w.var ≡ true in
            subst P c.2 (each_get P (deeds p st k t).writes c.0 w c.1 (written_marks p st k t))

        is_own : (y v : ℕ) → Contains (deeds p st k t).writes (record { mem = m; var = y; value = v }) → IsOwn k t y
        is_own y v c =
            let w = used.in_use.writer k t m y v h g c in
            let same : entries_by t.number pending ≡ own = used.own k t m h g low in
            let behind = place_is_own 0 t.number y pending (used.in_use.ordered_next m) w.1 in
            let has : has_place t.number y own ≡ true = subst (λ es. has_place t.number y es ≡ true) same behind.0 in
            let once : IsOnce t.number y own = subst (IsOnce t.number y) same (once_own t.number y pending w.2) in
            record {
              early = w.0;
              has = w.1;
              once = w.2;
              place = behind.1 ∙ ap₂ (λ n es. n + place_of t.number y es) w.3 same;
              few = (let a = place_below t.number y own once has in let b = used.few k t m h g low in omega (arith, a, b));
              late = λ z. late_at k t l h g low z w.0 y (marked (record { mem = m; var = y; value = v }) c) has once;
            }

    tail_told : (q : Option ℕ) → squasher (moving p st bits) ≡ q → is_some q ≡ true → holds_ticket (ls.bits m) (gates.tail m) s (tail_with q)
    tail_told None f g = absurd (false≢true g)
    tail_told (Some n) f g = squashed.tail m n e stand f

    -- the ticket of a location that a thread writes is that of the thread, or the one after it
    own_ticket : (k : ℕ) (t : Thread) (y : ℕ) → here p st bits k ≡ Some t → ((vs k).tickets m).width ≡ ls.bits m → IsOwn k t y
        → holds_ticket (ls.bits m) (tickets_to (reserves_twice m p.stmts) m (vs k) y) s (base + place_of t.number y pending)
    own_ticket k t y h wide o =
        let u = stood k t h in
        let thread =
        subst
        (λ (n : ℕ). holds_ticket (ls.bits m) ((vs k).tickets m) s (base + count_older n (machine.lock_of st m))) u.number
        (stand.tickets k u.thread u.slot o.early) in
        let there : base + count_older t.number (machine.lock_of st m) + own_place k t y ≡ base + place_of t.number y pending =
        (let z = o.place in omega (arith, z)) in
        subst (λ n. holds_ticket (ls.bits m) (tickets_to (reserves_twice m p.stmts) m (vs k) y) s n) there
        (ticket_at_is s (reserves_twice m p.stmts) ((vs k).ended.marks Late m) ((vs k).tickets m) y (ls.bits m)
        (base + count_older t.number (machine.lock_of st m)) (own_place k t y) wide thread o.late o.few)

    module _ (wide : (k : ℕ) → k < length p.stages → ((vs k).tickets m).width ≡ ls.bits m) where
      driven : (n k : ℕ) → k + n ≡ length p.stages → AreDriven (ls.bits m) s (acts_of n k) (all_puts (reserves_twice m p.stmts) m vs moves n k)
      driven zero k e = tt
      driven (suc n) k e =
          let l : k < length p.stages = omega (arith, e) in
          let xs = (vs k).ended.puts in
          let ticket = tickets_to (reserves_twice m p.stmts) m (vs k) in
          driven_append (ls.bits m) s (acts_of n (suc k))
          (write_acts s m (stage_moves p st bits k) (λ y. base + place_in (here p st bits k) y) xs)
          (all_puts (reserves_twice m p.stmts) m vs moves n (suc k)) (puts_to m (moves k) ticket xs)
          (driven n (suc k) (omega (arith, e)))
          (driven_stage (ls.bits m) s m (λ y. base + place_in (here p st bits k) y) (moves k) ticket (stage_moves p st bits k) xs (seen k l).leaves
          (λ g. at (moves_or_not p st bits k) g (λ t h g. (so_at k t l h g).bits))
          (λ g. at (moves_or_not p st bits k) g (λ t h g.
          let P : Option Thread → Type 0 = λ o. EachTo m (λ y. holds_ticket (ls.bits m) (ticket y) s (base + place_in o y)) (written_in s xs) in
          subst P (sym h)
          (each_map m (IsOwn k t) (λ y. holds_ticket (ls.bits m) (ticket y) s (base + place_of t.number y pending)) (written_in s xs)
          (λ y o. own_ticket k t y h (wide k l) o)
          (own_at k t l h g)))))
        where
          at : {R : Type 0}
              → (stage_moves p st bits k ≡ false) ⊎ ((t : Thread) × (here p st bits k ≡ Some t) × (stage_moves p st bits k ≡ true))
              → stage_moves p st bits k ≡ true
              → ((t : Thread) → here p st bits k ≡ Some t → stage_moves p st bits k ≡ true → R) → R
          at (inl f) g h = absurd (false≢true (sym f ∙ g))
          at (inr f) g h = h f.0 f.1 f.2

      release2_is : (b : Bool) → reserves_twice m p.stmts ≡ b
          → (if b then second_signal m vs moves (length p.stages) 0 else zero_bit).value s ≡ bit (nat_lt 1 gone)
      release2_is true f = second_is (length p.stages) 0 (omega arith)
      release2_is false f =
          let most : at_most p m ≡ 1 = ap (λ b. if b then 2 else 1) f in
          let few = used.released m (lock_there p m e) in
          zero_is s ∙ ap bit (sym (le-ltb 1 gone (omega (arith, most, few))))

      -- the stages' ports do this act
      pub drives : Drives (ls.bits m) (step_of p vs gates moves m) s act_of
      drives =
          let z : 0 + length p.stages ≡ length p.stages = omega arith in
          let ports = all_puts (reserves_twice m p.stmts) m vs moves (length p.stages) 0 in
          let d = driven (length p.stages) 0 z in
          record {
            reserves = reserves_are (length p.stages) 0 z;
            fits = fitting_at s (all_reserves m vs moves (length p.stages) 0) (fitting (length p.stages) 0 z);
            count = driven_count (ls.bits m) s (acts_of (length p.stages) 0) ports d;
            on = λ k l. (driven_at (ls.bits m) s (acts_of (length p.stages) 0) ports d k l).on;
            ticket = λ k l. (driven_at (ls.bits m) s (acts_of (length p.stages) 0) ports d k l).ticket;
            value = λ k l. (driven_at (ls.bits m) s (acts_of (length p.stages) 0) ports d k l).value;
            release = release_is (length p.stages) 0 z;
            release2 = release2_is (reserves_twice m p.stmts) refl;
            squash = squashed.squash;
            tail = λ g. tail_told (squasher (moving p st bits)) refl g;
          }

    -- the writes of these stages go into pending writes
    all_written : (n k : ℕ) → k + n ≡ length p.stages
        → forgotten_entries (with_all_writes m (movers_from p st bits n k) pending) ≡ with_writes base (acts_of n k) (forgotten_entries pending)
    all_written zero k e = refl
    all_written (suc n) k e =
        let l : k < length p.stages = omega (arith, e) in
        let rest = movers_from p st bits n (suc k) in
        let i = all_written n (suc k) (omega (arith, e)) in
        let ticket = λ (y : ℕ). base + place_in (here p st bits k) y in
        let xs = (vs k).ended.puts in
        let now = written_append base (acts_of n (suc k)) (write_acts s m (stage_moves p st bits k) ticket xs) (forgotten_entries pending) in
        let before = with_writes base (acts_of n (suc k)) (forgotten_entries pending) in
        let P : List Mover → Type 0 =
        λ ms. forgotten_entries (with_all_writes m (ms ++ rest) pending) ≡ with_writes base (acts_of (suc n) k) (forgotten_entries pending) in
        ⊎_elim
        (λ (f : stage_moves p st bits k ≡ false).
        subst P (sym (no_mover p st bits k f))
        (i ∙ sym (now ∙ ap (λ b. with_writes base (write_acts s m b ticket xs) before) f ∙ none_written s m base ticket xs before)))
        (λ (f : (t : Thread) × (here p st bits k ≡ Some t) × (stage_moves p st bits k ≡ true)).
        let t = f.0.number in
        let es = with_all_writes m rest pending in
        let j = stage_written s m base t ticket pending xs es (writes_alike m rest pending)
        (each_map m (IsOwn k f.0) (λ y. HasTicket base t (ticket y) pending y) (written_in s xs)
        (λ y o. record { has = o.has; once = o.once; told = ap (λ u. base + place_in u y) f.1 }) (own_at k f.0 l f.1 f.2)) in
        let writes = (so_at k f.0 l f.1 f.2).writes in
        let Q : List Written → Type 0 =
        λ ws. forgotten_entries (with_writes_of m t ws es) ≡ with_writes base (write_acts s m true ticket xs) (forgotten_entries es) in
        let q = subst Q (sym writes) j in
        subst P (sym (one_mover p st bits k f.0 f.1 f.2))
        (q ∙ ap (with_writes base (write_acts s m true ticket xs)) i ∙ ap (λ b. with_writes base (write_acts s m b ticket xs) before) (sym f.2) ∙ sym now))
        (moves_or_not p st bits k)

    -- tickets of these write ports
    abbrev AreWithin : ℕ → List WriteAct → Type 0
    AreWithin high [] = ⊤
    AreWithin high (a ∷ as') = (a.on ≡ true → (base ≤ a.ticket) × (a.ticket < high)) × AreWithin high as'

    within_append : (high : ℕ) (as' bs : List WriteAct) → AreWithin high as' → AreWithin high bs → AreWithin high (as' ++ bs)
    within_append high [] bs h i = i
    within_append high (a ∷ as') bs h i = (h.0, within_append high as' bs h.1 i)

    within_at : (high : ℕ) (as' : List WriteAct) → AreWithin high as' → (k : ℕ) → k < length as'
        → (lock.act_at as' k).on ≡ true → (base ≤ (lock.act_at as' k).ticket) × ((lock.act_at as' k).ticket < high)
    within_at high [] h k l o = absurd (omega arith)
    within_at high (a ∷ as') h zero l o = h.0 o
    within_at high (a ∷ as') h (suc k) l o = within_at high as' h.1 k (omega arith) o

    within_stage : (high : ℕ) (g : Bool) (ticket : ℕ → ℕ) (xs : List Put)
        → (g ≡ true → EachTo m (λ y. (base ≤ ticket y) × (ticket y < high)) (written_in s xs)) → AreWithin high (write_acts s m g ticket xs)
    within_stage high g ticket [] h = tt
    within_stage high g ticket (x ∷ xs) h = at (is_on x.on s) refl (x.mem == m) refl h (λ f. within_stage high g ticket xs f)
      where
        Within : List Written → Type 0
        Within ws = EachTo m (λ y. (base ≤ ticket y) × (ticket y < high)) ws

        at : (o : Bool) → is_on x.on s ≡ o → (c : Bool) → (x.mem == m) ≡ c
            → (g ≡ true → Within (if o then record { mem = x.mem; var = x.var; value = x.value.value s } ∷ written_in s xs else written_in s xs))
            → ((g ≡ true → Within (written_in s xs)) → AreWithin high (write_acts s m g ticket xs))
            → AreWithin high
            (if c
            then record { on = g && is_on x.on s; ticket = ticket x.var; value = x.value.value s } ∷ write_acts s m g ticket xs
            else write_acts s m g ticket xs)
        at true f true i h rest = ((λ z. (h (and_parts g (is_on x.on s) z).0).0 i), rest (λ z. (h z).1))
        at true f false i h rest = rest (λ z. (h z).1)
        at false f true i h rest = ((λ z. absurd (false≢true (sym f ∙ (and_parts g (is_on x.on s) z).1))), rest h)
        at false f false i h rest = rest h

    all_within : (n k : ℕ) → k + n ≡ length p.stages → AreWithin (base + length pending) (acts_of n k)
    all_within zero k e = tt
    all_within (suc n) k e =
        within_append (base + length pending) (acts_of n (suc k))
        (write_acts s m (stage_moves p st bits k) (λ y. base + place_in (here p st bits k) y) (vs k).ended.puts)
        (all_within n (suc k) (omega (arith, e)))
        (within_stage (base + length pending) (stage_moves p st bits k) (λ y. base + place_in (here p st bits k) y) (vs k).ended.puts
        (λ g. elim (moves_or_not p st bits k) [
          | inl f ↦ absurd (false≢true (sym f ∙ g))
          | inr f ↦
              let P : Option Thread → Type 0 =
              λ o. EachTo m (λ y. (base ≤ base + place_in o y) × (base + place_in o y < base + length pending)) (written_in s (vs k).ended.puts) in
              subst P (sym f.1)
              (each_map m (IsOwn k f.0) (λ y. (base ≤ base + place_of f.0.number y pending) × (base + place_of f.0.number y pending < base + length pending))
              (written_in s (vs k).ended.puts)
              (λ y o. let below = place_below f.0.number y pending o.once o.has in (omega arith, omega (arith, below)))
              (own_at k f.0 (omega (arith, e)) f.1 f.2))
        ]))

    abbrev before : LockState
    before = lock_state_of base (machine.lock_of st m) stand.words

    -- after appends and writes the lock has the machine's pending writes
    pub filled_is : lock.filled_entries before act_of ≡ forgotten_entries (list_two st (moving p st bits) m)
    filled_is =
        ap (with_writes base (acts_of (length p.stages) 0)) (sym (same_append m (moving p st bits) (machine.lock_of st m)))
        ∙ sym (all_written (length p.stages) 0 (omega arith))

    -- at most two are released, and these are there
    few : gone ≤ 2
    few = used.in_use.few m (lock_there p m e)

    gone_there : gone ≤ length (list_two st (moving p st bits) m)
    gone_there = written_long gone (list_two st (moving p st bits) m) (used.in_use.releaser m)

    -- a squash keeps a front of what is left
    tail_low : (q : Option ℕ) → is_some q ≡ true → lock.next_base before act_of ≤ tail_with q
    tail_low None g = absurd (false≢true g)
    tail_low (Some n) g = let b = base_after base gone few in omega (arith, b)

    tail_high : (q : Option ℕ) → tail_with q ≤ base + length pending
    tail_high None = omega arith
    tail_high (Some n) =
        let two = alike_long (list_two st (moving p st bits) m) pending (writes_alike m (moving p st bits) pending) in
        let three = length-drop gone (list_two st (moving p st bits) m) in
        let some = gone_there in
        let older = ticket_covered (suc n) (list_three st (moving p st bits) m) in
        omega (arith, two, three, some, older)

    -- what the cycle does to the lock is proper use, where the memory declares its kind and size
    pub proper : (mem_at p m).lock ≡ as_lock (ls.kind m) (ls.size m) → Proper (ls.size m) before act_of
    proper kind =
        let es = machine.lock_of st m in
        let ms = moving p st bits in
        let small = stand.few in
        let long = length-map es forget in
        let count = pending_count in
        let within = all_within (length p.stages) 0 (omega arith) in
        let done = entries_done gone (list_two st ms m) (used.in_use.releaser m) in
        record {
          two = used.in_use.two m (lock_there p m e);
          room = ⊎_elim
              (λ (i : 0 < length (addresses m ms)).
              let room =
              room_there (ls.kind m) (length (addresses m ms)) (length es) (ls.size m)
              (ap (λ l. locks.has_room l (length (addresses m ms)) (length es)) (sym kind) ∙ used.in_use.room m (omega (arith, i))) in
              omega (arith, long, room))
              (λ (i : length (addresses m ms) ≤ 0). omega (arith, long, small, i))
              (cases_lt 0 (length (addresses m ms)));
          from = λ k l o. (within_at (base + length pending) (acts_of (length p.stages) 0) within k l o).0;
          below = λ k l o. let b = (within_at (base + length pending) (acts_of (length p.stages) 0) within k l o).1 in omega (arith, b, count, long);
          done = λ f. ap (λ xs. is_some (entry_at xs 0).value) filled_is ∙ done 0 (ltb-true 0 gone f);
          both = λ f. let i = ltb-true 1 gone f in lt-ltb 0 gone (omega (arith, i));
          done2 = λ f. ap (λ xs. is_some (entry_at xs 1).value) filled_is ∙ done 1 (ltb-true 1 gone f);
          tail_from = λ g. tail_low (squasher (moving p st bits)) g;
          tail_to = λ g. let z = tail_high (squasher (moving p st bits)) in omega (arith, z, count, long);
        }
