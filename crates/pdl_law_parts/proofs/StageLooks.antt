-- What the looks of a stage find: the machine's pending writes and words, through the lock that stands for them.
use Rattle.std.proofs.Common.{◌≡◌, refl, ℕ, zero, suc, ◌+◌, ◌<◌, ◌≤◌, Bool, true, false, List, [], length, sym, ap, ◌∙◌, arith, ⊎_elim}
use Rattle.std.specs.Prelude.{slice_index, slice_index_or, if◌then◌else◌, nat_lt}
use Rattle.std.proofs.lemmas.Bool.{false≢true, cases_lt}
use Rattle.std.proofs.lemmas.List.{length-map, get_or_past}
use Rattle.pdl_word.specs.Words.{bit}
use Rattle.pdl_semantics.specs.Flat.{Plain, Mem, Pipe, has_lock}
use Rattle.pdl_semantics.specs.Stages.{plain_mem, mem_at}
use Rattle.pdl_semantics.specs.Locks.{Nothing, read_ready, write_ready, has_room, value_or}
use Rattle.pdl_semantics.specs.Machine as machine
use Rattle.pdl_semantics.specs.Machine.{older_write, reserves_of, word_for}
use Rattle.pdl_semantics.specs.SecondWrites.{reserves_twice}
use Rattle.pdl_net.specs.Circuit.{State}
use Rattle.pdl_net.specs.Signal.{Signal, mux_signal}
use Rattle.pdl_lockapi.specs.Laws.{holds_ticket, RoomLaw}
use Rattle.pdl_lockapi.specs.Second.{Room2Law}
use Rattle.pdl_lockapi.specs.Lock.{LockState, look_ready, Covered}
use Rattle.pdl_lockapi.specs.Forget.{forget, as_lock, lock_state_of}
use Rattle.pdl_lockapi.proofs.LockKinds as kinds
use Rattle.pdl_lockapi.proofs.Threads.{same_meaning, ticket_covered}
use Rattle.pdl_law_parts.specs.Walk.{Locks, Reservation, is_locked, look_of, ThroughLock, IsWord, reserved_signal, room_after}
use Rattle.pdl_law_parts.specs.Views.{View}
use Rattle.pdl_law_parts.specs.Stands.{StandsLock, reserved_in}
use Rattle.pdl_law_parts.specs.Served.{at_most}
use Rattle.pdl_law_parts.proofs.Signals.{mux_at, reserved_is}
use Rattle.pdl_semantics.specs.PendingLists.{AreOrdered, count_older}

-- a memory that is not locked has no lock
pub plain_is : (p : Pipe) (m : ℕ) → is_locked p m ≡ false → (mem_at p m).lock ≡ Plain
plain_is p m e = kinds.plain_is (mem_at p m).lock e

-- the number of a memory that has a lock is below the count of memories
pub lock_there : (p : Pipe) (m : ℕ) → is_locked p m ≡ true → m < length p.mems
lock_there p m e = ⊎_elim
    (λ (h : m < length p.mems). h)
    (λ (h : length p.mems ≤ m). absurd
    (false≢true
    (sym (ap (λ (x : Mem). has_lock x.lock) (get_or_past p.mems m plain_mem h)) ∙ e)))
    (cases_lt m (length p.mems))

-- what a look finds of the machine's pending writes: for writing, or for reading
abbrev pub finds : Pipe → machine.State → ℕ → ℕ → Bool → ℕ → Bool
finds p st thread m u a =
    if u then write_ready (mem_at p m).lock (older_write st thread m a) else read_ready (mem_at p m).lock (older_write st thread m a)

module _ (p : Pipe) (ls : Locks) (vs : ℕ → View) (s : State) (st : machine.State) (m : ℕ)
    (kind : (mem_at p m).lock ≡ as_lock (ls.kind m) (ls.size m)) (stands : StandsLock p ls vs s st m)
    (ordered : AreOrdered 0 (machine.lock_of st m)) where
  -- the lock that stands for the pending writes, and the number of a thread's ticket
  abbrev state_of : LockState
  state_of = lock_state_of stands.base (machine.lock_of st m) stands.words

  abbrev number_of : ℕ → ℕ
  number_of thread = stands.base + count_older thread (machine.lock_of st m)

  covered : (thread : ℕ) → Covered state_of (number_of thread)
  covered thread =
      let l = ticket_covered thread (machine.lock_of st m) in
      let e = length-map (machine.lock_of st m) forget in
      record { from = omega arith; to = omega (arith, l, e) }

  -- the lock's net of room tells whether there is room for one more of the machine's pending writes
  room_is : RoomLaw (ls.stands m) (ls.size m) (ls.room m) → (ls.room m).value s ≡ bit (has_room (mem_at p m).lock 1 (length (machine.lock_of st m)))
  room_is law =
      law.holds s state_of stands.stands
      ∙ ap bit
      ((same_meaning (ls.kind m) (ls.size m) stands.base 0 0 0 (machine.lock_of st m) stands.words ordered).3
      ∙ ap (λ l. has_room l 1 (length (machine.lock_of st m))) (sym kind))

  -- and its net of room for two whether there is room for two more
  room2_is : Room2Law (ls.stands m) (ls.size m) (ls.room2 m) → (ls.room2 m).value s ≡ bit (has_room (mem_at p m).lock 2 (length (machine.lock_of st m)))
  room2_is law =
      law.holds s state_of stands.stands
      ∙ ap bit
      ((same_meaning (ls.kind m) (ls.size m) stands.base 0 0 0 (machine.lock_of st m) stands.words ordered).4
      ∙ ap (λ l. has_room l 2 (length (machine.lock_of st m))) (sym kind))

  -- after reservations of which a thread may make one more the net of room tells whether there is room for all of them together
  pub room_next : RoomLaw (ls.stands m) (ls.size m) (ls.room m) → Room2Law (ls.stands m) (ls.size m) (ls.room2 m)
      → ls.twice m ≡ reserves_twice m p.stmts → (rs : List Reservation) → suc (reserves_of m (reserved_in s rs)) ≤ at_most p m
      → (room_after ls m rs).value s ≡ bit (has_room (mem_at p m).lock (suc (reserves_of m (reserved_in s rs))) (length (machine.lock_of st m)))
  room_next law law2 same rs l = at (reserves_twice m p.stmts) same l
    where
      n : ℕ
      n = reserves_of m (reserved_in s rs)

      roomy : ℕ → ℕ
      roomy k = bit (has_room (mem_at p m).lock k (length (machine.lock_of st m)))

      at : (t : Bool) → ls.twice m ≡ t → suc n ≤ (if t then 2 else 1) → (room_after ls m rs).value s ≡ roomy (suc n)
      at false e l =
          let none : 1 ≡ suc n = omega (arith, l) in
          ap (λ t. (if t then mux_signal (reserved_signal m rs) (ls.room2 m) (ls.room m) else ls.room m).value s) e
          ∙ room_is law ∙ ap roomy none
      at true e l =
          ap (λ t. (if t then mux_signal (reserved_signal m rs) (ls.room2 m) (ls.room m) else ls.room m).value s) e
          ∙ mux_at s (reserved_signal m rs) (ls.room2 m) (ls.room m) (nat_lt 0 n) (reserved_is s m rs) ∙ by n refl l
        where
          by : (k : ℕ) → n ≡ k → suc k ≤ 2 → (if nat_lt 0 k then (ls.room2 m).value s else (ls.room m).value s) ≡ roomy (suc n)
          by zero f l = room_is law ∙ ap (λ k. roomy (suc k)) (sym f)
          by (suc k) f l =
              let one : suc k ≡ 1 = omega (arith, l) in
              ap (λ k. if nat_lt 0 k then (ls.room2 m).value s else (ls.room m).value s) one
              ∙ room2_is law2 ∙ ap (λ k. roomy (suc k)) (sym (f ∙ one))

  module _ (thread : ℕ) (ticket : Signal) (mine : holds_ticket (ls.bits m) ticket s (stands.base + count_older thread (machine.lock_of st m))) where
    look_same : (u : Bool) (a : ℕ) → look_ready (ls.kind m) (look_of u) state_of (number_of thread) a ≡ finds p st thread m u a
    look_same true a =
        (same_meaning (ls.kind m) (ls.size m) stands.base 0 thread a (machine.lock_of st m) stands.words ordered).1
        ∙ ap (λ l. write_ready l (older_write st thread m a)) (sym kind)
    look_same false a =
        (same_meaning (ls.kind m) (ls.size m) stands.base 0 thread a (machine.lock_of st m) stands.words ordered).0
        ∙ ap (λ l. read_ready l (older_write st thread m a)) (sym kind)

    -- a block's signal says whether the block is ready
    pub block_is : (u : Bool) (a : ℕ) (f : Signal)
        → ThroughLock ls m ticket s (λ x t. f.value s ≡ bit (look_ready (ls.kind m) (look_of u) x t a))
        → f.value s ≡ bit (finds p st thread m u a)
    block_is u a f h = h state_of (number_of thread) stands.stands (covered thread) mine ∙ ap bit (look_same u a)

    -- a ready read gives the word that the thread finds
    pub read_is : (addr f : Signal) → IsWord p ls m addr ticket f s → is_locked p m ≡ true
        → finds p st thread m false (addr.value s) ≡ true → f.value s ≡ word_for st thread m (addr.value s)
    read_is addr f h e ready =
        let a = addr.value s in
        let r = look_same false a ∙ ready in
        h.locked e state_of (number_of thread) stands.stands (covered thread) mine r
        ∙ (same_meaning (ls.kind m) (ls.size m) stands.base 0 thread a (machine.lock_of st m) stands.words ordered).2 r
        ∙ ap (value_or (older_write st thread m a)) (sym (stands.same a h.reach))

-- a read of a memory without lock finds the word of the array
pub word_is : (p : Pipe) (ls : Locks) (s : State) (st : machine.State) (thread m : ℕ) (addr ticket f : Signal)
    → IsWord p ls m addr ticket f s → is_locked p m ≡ false → machine.lock_of st m ≡ []
    → st.arrays m (addr.value s) ≡ slice_index (slice_index_or s.arrays (ls.array m) []) (addr.value s)
    → f.value s ≡ word_for st thread m (addr.value s)
word_is p ls s st thread m addr ticket f h e l w =
    h.plain e ∙ sym w ∙ ap (λ es. value_or (machine.youngest es thread (addr.value s) Nothing) (st.arrays m (addr.value s))) (sym l)
