-- The lock after a cycle, and what it commits.
use Rattle.std.proofs.Common.{◌≡◌, ◌≢◌, refl, sym, ap, ap₂, ◌∙◌, subst, ℕ, zero, suc, ◌+◌, ◌-◌, ◌<◌, ◌≤◌, Bool, true, false, List, [], ◌∷◌, ◌++◌, length, take, drop, is_some, Option, Some, None, arith, ⊎_elim, eq-eqb, ne_eqb, lt-ltb, add-zero}
use Rattle.std.specs.Prelude.{if◌then◌else◌, nat_lt, slice_set, slice_index}
use Rattle.std.proofs.lemmas.Bool.{cases_eq}
use Rattle.std.proofs.lemmas.List.{length-map, length-set, get_or-set_same, get_or-set_other}
use Rattle.pdl_word.specs.Words.{bit}
use Rattle.pdl_semantics.specs.Tree.{LockKind}
use Rattle.pdl_semantics.specs.Flat as model
use Rattle.pdl_semantics.specs.Flat.{Pipe, Arrays, with_value, with_word}
use Rattle.pdl_semantics.specs.Stages.{mem_at}
use Rattle.pdl_semantics.specs.Locks.{commit_value}
use Rattle.pdl_semantics.specs.Machine as machine
use Rattle.pdl_semantics.specs.Machine.{Thread, Pending}
use Rattle.pdl_semantics.specs.Cycle.{all_releases, list_two, list_three, taken_out, PortWrite, port_writes, with_commit, entries_left, is_kept, squasher}
use Rattle.pdl_semantics.specs.Moves.{Act as Mover}
use Rattle.pdl_net.specs.Circuit.{Circuit, State}
use Rattle.pdl_net.specs.Signal.{Signal}
use Rattle.pdl_net.specs.Growth.{Own}
use Rattle.pdl_lockapi.specs.Lock.{Entry, LockState, LockAct, entry_at, or_zero, committed, step, Proper}
use Rattle.pdl_lockapi.specs.Laws.{IsNext, Drives, StepLaw}
use Rattle.pdl_lockapi.specs.Second.{Commit2Law}
use Rattle.pdl_lockapi.specs.Forget.{forget, forgotten_entries, as_lock, lock_state_of}
use Rattle.pdl_lockapi.proofs.Lengths.{left_long}
use Rattle.pdl_lockapi.proofs.LockKinds.{locked_is}
use Rattle.pdl_lockapi.proofs.Threads.{same_squash}
use Rattle.pdl_machine_facts.specs.Slots.{here, moving}
use Rattle.pdl_machine_facts.specs.Ports.{shown_values, second_values, commit_values}
use Rattle.pdl_machine_facts.specs.Cycle.{IsByStages}
use Rattle.pdl_law_parts.proofs.AnsweredThreads.{Stood}
use Rattle.pdl_law_parts.specs.Walk.{Locks, is_locked}
use Rattle.pdl_law_parts.specs.Views.{Gates, View}
use Rattle.pdl_law_parts.specs.Ports.{Commit, step_of}
use Rattle.pdl_law_parts.specs.Served.{IsServed}
use Rattle.pdl_law_parts.specs.Stands.{StandsLock, IsSeen, IsSquashed}
use Rattle.pdl_law_parts.proofs.StageLooks.{lock_there}
use Rattle.pdl_law_parts.proofs.LockUse.{alike_long, alike_ordered, writes_alike}
use Rattle.pdl_law_parts.proofs.LockActs.{written_long, pending, tail_with, act_of, filled_is, proper, drives, pending_count}
use Rattle.pdl_semantics.specs.PendingLists.{AreOrdered, count_older}

-- RELEASES

-- the memory's words after the values of the oldest k pending writes
abbrev words_after : ℕ → List Entry → List ℕ → List ℕ
words_after zero xs words = words
words_after (suc k) [] words = words
words_after (suc k) (x ∷ xs) words = words_after k xs (slice_set words x.addr (or_zero x.value))

-- a lock's state after at most two releases
abbrev released : ℕ → ℕ → List Entry → List ℕ → LockState
released k base xs words =
    record {
      base = if nat_lt 1 k then base + 2 else if nat_lt 0 k then base + 1 else base;
      entries = if nat_lt 1 k then drop 2 xs else if nat_lt 0 k then drop 1 xs else xs;
      words = if nat_lt 1 k then committed xs 1 (committed xs 0 words) else if nat_lt 0 k then committed xs 0 words else words;
    }

step_by : (k : ℕ) → k ≤ 2 → (base : ℕ) (es : List Pending) (words : List ℕ) → k ≤ length es
    → released k base (forgotten_entries es) words ≡ lock_state_of (base + k) (drop k es) (words_after k (forgotten_entries es) words)
step_by zero l base es words h = ap (λ n. lock_state_of n es words) (sym (add-zero base))
step_by (suc zero) l base [] words h = absurd (omega (arith, h))
step_by (suc zero) l base (e ∷ es) words h = refl
step_by (suc (suc zero)) l base [] words h = absurd (omega (arith, h))
step_by (suc (suc zero)) l base (e ∷ []) words h = absurd (omega (arith, h))
step_by (suc (suc zero)) l base (e ∷ f ∷ es) words h = refl
step_by (suc (suc (suc k))) l base es words h = absurd (omega (arith, l))

-- what a lock takes for a value that is not there is what the machine commits
pub or_zero_is : (o : Option ℕ) → or_zero o ≡ commit_value o
or_zero_is None = refl
or_zero_is (Some v) = refl

-- the first commit is that of the oldest pending write that is released
commit_by : (k : ℕ) (es : List Pending) → k ≤ length es
    → bit (nat_lt 0 k) ∷ (if nat_lt 0 k then (entry_at (forgotten_entries es) 0).addr else 0)
    ∷ (if nat_lt 0 k then or_zero (entry_at (forgotten_entries es) 0).value else 0) ∷ []
    ≡ shown_values (port_writes (take k es))
commit_by zero es l = refl
commit_by (suc k) [] l = absurd (omega (arith, l))
commit_by (suc k) (e ∷ es) l =
    ap (λ b. bit b ∷ (if b then e.address else 0) ∷ (if b then or_zero e.value else 0) ∷ []) (lt-ltb 0 (suc k) (omega arith))
    ∙ ap (λ v. 1 ∷ e.address ∷ v ∷ []) (or_zero_is e.value)

-- the second commit is that of the next pending write, where two are released
commit2_by : (k : ℕ) (es : List Pending) → k ≤ length es
    → bit (nat_lt 1 k) ∷ (if nat_lt 1 k then (entry_at (forgotten_entries es) 1).addr else 0)
    ∷ (if nat_lt 1 k then or_zero (entry_at (forgotten_entries es) 1).value else 0) ∷ []
    ≡ second_values (port_writes (take k es))
commit2_by zero es l = refl
commit2_by (suc k) [] l = absurd (omega (arith, l))
commit2_by (suc zero) (e ∷ es) l = refl
commit2_by (suc (suc k)) (e ∷ []) l = absurd (omega (arith, l))
commit2_by (suc (suc k)) (e ∷ f ∷ es) l =
    ap (λ b. bit b ∷ (if b then f.address else 0) ∷ (if b then or_zero f.value else 0) ∷ []) (lt-ltb 1 (suc (suc k)) (omega arith))
    ∙ ap (λ v. 1 ∷ f.address ∷ v ∷ []) (or_zero_is f.value)

-- the commit ports of a memory with a lock have the values of its first commit, and of the second where some path reserves it twice
pub commit_as : (k : LockKind) (n : ℕ) (l : model.Lock) (twice : Bool) (ws : List PortWrite)
    → l ≡ as_lock k n → commit_values l twice ws ≡ shown_values ws ++ (if twice then second_values ws else [])
commit_as k n l twice ws e =
    ap (λ x. commit_values x twice ws) e
    ∙ ap (λ (b : Bool). if b then shown_values ws ++ (if twice then second_values ws else []) else []) (locked_is k n)

-- one value more in a memory's array
pub word_by : (m depth : ℕ) (arrays : Arrays) (e : Pending) (words : List ℕ) → depth ≤ length words
    → ((a : ℕ) → a < depth → arrays m a ≡ slice_index words a) → (a : ℕ) → a < depth
    → with_word arrays m e.address (commit_value e.value) m a ≡ slice_index (slice_set words e.address (or_zero e.value)) a
word_by m depth arrays e words long h a l =
    let v = commit_value e.value in
    ap (λ (t : Bool). (if t then with_value (arrays m) e.address v else arrays m) a) (eq-eqb m m refl)
    ∙ ⊎_elim
    (λ (i : a ≡ e.address).
    ap (λ (t : Bool). if t then v else arrays m a) (eq-eqb a e.address i)
    ∙ sym (or_zero_is e.value)
    ∙ sym (get_or-set_same words e.address (or_zero e.value) 0 (omega (arith, i, l, long)))
    ∙ ap (λ n. slice_index (slice_set words e.address (or_zero e.value)) n) (sym i))
    (λ (i : a ≢ e.address).
    ap (λ (t : Bool). if t then v else arrays m a) (ne_eqb a e.address i)
    ∙ h a l
    ∙ sym (get_or-set_other words e.address a (or_zero e.value) 0 i))
    (cases_eq a e.address)

-- the words of the memory's array afterwards
array_by : (k m depth : ℕ) (arrays : Arrays) (es : List Pending) (words : List ℕ) → depth ≤ length words
    → ((a : ℕ) → a < depth → arrays m a ≡ slice_index words a) → (a : ℕ) → a < depth
    → with_commit arrays m (take k es) m a ≡ slice_index (words_after k (forgotten_entries es) words) a
array_by zero m depth arrays es words long h a l = h a l
array_by (suc k) m depth arrays [] words long h a l = h a l
array_by (suc k) m depth arrays (e ∷ es) words long h a l =
    array_by k m depth (with_word arrays m e.address (commit_value e.value)) es (slice_set words e.address (or_zero e.value))
    (let n = length-set words e.address (or_zero e.value) in omega (arith, n, long)) (word_by m depth arrays e words long h) a l

long_by : (k : ℕ) (xs : List Entry) (words : List ℕ) → length (words_after k xs words) ≡ length words
long_by zero xs words = refl
long_by (suc k) [] words = refl
long_by (suc k) (x ∷ xs) words = long_by k xs (slice_set words x.addr (or_zero x.value)) ∙ length-set words x.addr (or_zero x.value)

-- what releases leave stands in the order of the threads
pub ordered_drop : (k t : ℕ) (es : List Pending) → AreOrdered t es → (from : ℕ) × AreOrdered from (drop k es)
ordered_drop zero t es o = (t, o)
ordered_drop (suc k) t [] o = (t, tt)
ordered_drop (suc k) t (e ∷ es) o = ordered_drop k e.thread es o.1

module _ (p : Pipe) (ls : Locks) (vs : ℕ → View) (moves : ℕ → Signal) (s : State) (st : machine.State)
    (bits : List Bool) (by : IsByStages p st bits) (used : IsServed p st bits)
    (seen : (j : ℕ) → j < length p.stages → IsSeen p vs moves s st bits j)
    (stood : (k : ℕ) (t : Thread) → here p st bits k ≡ Some t → Stood st k t) (m : ℕ) (locked : is_locked p m ≡ true)
    (stand : StandsLock p ls vs s st m) (gates : Gates) (squashed : IsSquashed p ls vs gates s st bits) where
  abbrev ms : List Mover
  ms = moving p st bits

  -- how many writes are released
  abbrev gone : ℕ
  gone = all_releases m ms

  few : gone ≤ 2
  few = used.in_use.few m (lock_there p m locked)

  there : gone ≤ length (list_two st ms m)
  there = written_long gone (list_two st ms m) (used.in_use.releaser m)

  -- the words after the cycle
  abbrev pub words_next : List ℕ
  words_next = words_after gone (forgotten_entries (list_two st ms m)) stand.words

  -- after the cycle the lock has as many words as before
  pub words_long : length words_next ≡ length stand.words
  words_long = long_by gone (forgotten_entries (list_two st ms m)) stand.words

  -- the words after the cycle are those of the machine's memory with its commit
  pub words_same : (a : ℕ) → a < (mem_at p m).depth → with_commit st.arrays m (taken_out st ms m) m a ≡ slice_index words_next a
  words_same a l = array_by gone m (mem_at p m).depth st.arrays (list_two st ms m) stand.words stand.long stand.same a l

  -- the pending writes that are left after a squash
  abbrev pub left : List Pending
  left = entries_left (squasher ms) (list_three st ms m)

  entries_all : (xs : List Pending) → entries_left None xs ≡ xs
  entries_all [] = refl
  entries_all (x ∷ xs) = ap (λ l. x ∷ l) (entries_all xs)

  take_same : (base b c d : ℕ) (xs : List Entry) → c ≡ d → take (base + b + c - (base + b)) xs ≡ take d xs
  take_same base b c d xs e = ap (λ n. take n xs) (let z : base + b + c - (base + b) ≡ d = omega (arith, e) in z)

  left_is : (q : Option ℕ)
      → (if is_some q
      then take (tail_with p ls vs moves s st bits by used seen stood m locked stand gates squashed q - (stand.base + gone))
      (forgotten_entries (list_three st ms m))
      else forgotten_entries (list_three st ms m))
      ≡ forgotten_entries (entries_left q (list_three st ms m))
  left_is None = ap forgotten_entries (sym (entries_all (list_three st ms m)))
  left_is (Some n) =
      let o =
      ordered_drop gone 0 (list_two st ms m) (alike_ordered 0 (list_two st ms m) (pending p ls vs moves s st bits by used seen stood m)
      (writes_alike m ms (pending p ls vs moves s st bits by used seen stood m)) (used.in_use.ordered_next m)) in
      take_same stand.base gone (count_older (suc n) (list_three st ms m))
      (count_older (n + 1) (list_three st ms m)) (forgotten_entries (list_three st ms m))
      (ap (λ k. count_older k (list_three st ms m)) (let z : suc n ≡ n + 1 = omega arith in z))
      ∙ sym (same_squash o.0 n (list_three st ms m) o.1)

  abbrev cut : LockState → LockState
  cut x =
      record {
        base = x.base;
        entries =
            if is_some (squasher ms)
            then take (tail_with p ls vs moves s st bits by used seen stood m locked stand gates squashed (squasher ms) - x.base) x.entries
            else x.entries;
        words = x.words;
      }

  -- the state after the cycle, that which stands for the machine's next one
  pub step_is : step (lock_state_of stand.base (machine.lock_of st m) stand.words)
      (act_of p ls vs moves s st bits by used seen stood m locked stand gates squashed)
      ≡ lock_state_of (stand.base + gone) left words_next
  step_is =
      ap (λ xs. cut (released gone stand.base xs stand.words))
      (filled_is p ls vs moves s st bits by used seen stood m locked stand gates squashed)
      ∙ ap cut (step_by gone few stand.base (list_two st ms m) stand.words there)
      ∙ ap (λ (es : List Entry). record { base = stand.base + gone; entries = es; words = words_next }) (left_is (squasher ms))

  fewer : (q : Option ℕ) (es : List Pending) → length (entries_left q es) ≤ length es
  fewer q [] = omega arith
  fewer q (e ∷ es) = at (is_kept q e.thread) (fewer q es)
    where
      at : (b : Bool) → length (entries_left q es) ≤ length es → length (if b then e ∷ entries_left q es else entries_left q es) ≤ suc (length es)
      at true h = omega (arith, h)
      at false h = omega (arith, h)

  module _ (kind : (mem_at p m).lock ≡ as_lock (ls.kind m) (ls.size m)) where
    -- there are no more pending writes than the lock has room for
    pub few_next : length left ≤ ls.size m
    few_next =
        let cut = fewer (squasher ms) (list_three st ms m) in
        let room = (proper p ls vs moves s st bits by used seen stood m locked stand gates squashed kind).room in
        let long = length-map (machine.lock_of st m) forget in
        let count = pending_count p ls vs moves s st bits by used seen stood m in
        let same =
        alike_long (list_two st ms m) (pending p ls vs moves s st bits by used seen stood m)
        (writes_alike m ms (pending p ls vs moves s st bits by used seen stood m)) in
        let three = left_long gone (list_two st ms m) in
        omega (arith, cut, three, room, long, count, same)

    module _ (wide : (k : ℕ) → k < length p.stages → ((vs k).tickets m).width ≡ ls.bits m) where
      abbrev before : LockState
      before = lock_state_of stand.base (machine.lock_of st m) stand.words

      abbrev act : LockAct
      act = act_of p ls vs moves s st bits by used seen stood m locked stand gates squashed

      driven : Drives (ls.bits m) (step_of p vs gates moves m) s act
      driven = drives p ls vs moves s st bits by used seen stood m locked stand gates squashed wide

      used_well : Proper (ls.size m) before act
      used_well = proper p ls vs moves s st bits by used seen stood m locked stand gates squashed kind

      -- the second commit's ports show the second write that the machine takes out
      pub commit2_is : (commit : Commit)
          → Commit2Law (ls.stands m) (ls.size m) (ls.bits m) (step_of p vs gates moves m) commit.enable commit.addr commit.value
          → commit.enable.value s ∷ commit.addr.value s ∷ commit.value.value s ∷ [] ≡ second_values (port_writes (taken_out st ms m))
      commit2_is commit law =
          ap₂ (λ u v. u ∷ v) (law.commits s before act stand.stands driven used_well)
          (ap₂ (λ u v. u ∷ v ∷ []) (law.commits_addr s before act stand.stands driven used_well)
          (law.commits_value s before act stand.stands driven used_well))
          ∙ ap (λ xs. bit (nat_lt 1 gone) ∷ (if nat_lt 1 gone then (entry_at xs 1).addr else 0) ∷ (if nat_lt 1 gone then or_zero (entry_at xs 1).value else 0)
          ∷ [])
          (filled_is p ls vs moves s st bits by used seen stood m locked stand gates squashed)
          ∙ commit2_by gone (list_two st ms m) there

      module _ (own : Own) (c : Circuit) (commit : Commit)
          (law : StepLaw (ls.stands m) (ls.size m) (ls.bits m) own c (step_of p vs gates moves m) commit.enable commit.addr commit.value) where
        -- the commit ports show the first write that the machine takes out
        pub commit_is : commit.enable.value s ∷ commit.addr.value s ∷ commit.value.value s ∷ [] ≡ shown_values (port_writes (taken_out st ms m))
        commit_is =
            ap₂ (λ u v. u ∷ v) (law.commits s before act stand.stands driven used_well)
            (ap₂ (λ u v. u ∷ v ∷ []) (law.commits_addr s before act stand.stands driven used_well)
            (law.commits_value s before act stand.stands driven used_well))
            ∙ ap
            (λ xs. bit (nat_lt 0 gone) ∷ (if nat_lt 0 gone then (entry_at xs 0).addr else 0) ∷ (if nat_lt 0 gone then or_zero (entry_at xs 0).value else 0)
            ∷ [])
            (filled_is p ls vs moves s st bits by used seen stood m locked stand gates squashed)
            ∙ commit_by gone (list_two st ms m) there

        -- the next state stands for the next pending writes and words
        pub stands_next : (t : State) → IsNext c own s t → ls.stands m t (lock_state_of (stand.base + gone) left words_next)
        stands_next t next = subst (ls.stands m t) step_is (law.next s t before act stand.stands driven used_well next)
