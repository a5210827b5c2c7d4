-- The memories and the orders of forks before a cycle can take it, and have their widths and their room after it.
use Rattle.std.proofs.Common.{◌≡◌, refl, sym, ap, ap₂, ◌∙◌, subst, ℕ, zero, suc, ◌+◌, ◌^◌, ◌<◌, ◌≤◌, Bool, true, List, [], ◌∷◌, ◌++◌, Option, take, map, length, get_or, slice_index_or, ◌⊎◌, inl, inr, arith}
use Rattle.std.specs.Prelude.{vec_capacity}
use Rattle.pdl_semantics.specs.Flat.{Lock, Plain, Pipe}
use Rattle.pdl_semantics.specs.Stages.{mem_at}
use Rattle.pdl_semantics.specs.Locks.{has_room}
use Rattle.pdl_semantics.specs.Machine.{Pending, State, lock_of, fork_of}
use Rattle.pdl_semantics.specs.Moves.{Act}
use Rattle.pdl_semantics.specs.Cycle.{entries_left, list_three, cycle, first, squasher, squash_stage, branches_left, fork_next, all_releases}
use Rattle.pdl_lockapi.specs.Forget.{addresses}
use Rattle.pdl_machine_facts.specs.Slots.{moving}
use Rattle.pdl_machine_facts.specs.Cycle.{IsByStages}
use Rattle.pdl_machine_facts.specs.Use.{IsInUse}
use Rattle.pdl_machine_facts.proofs.StagewisePorts.{at_stage}
use Rattle.pdl_form.specs.Form.{Form}
use Rattle.pdl_machine_pending.specs.Memory.{Memory, AreWithin}
use Rattle.pdl_machine_pending.specs.KeptWords.{IsKept}
use Rattle.pdl_machine_run.specs.declared.stage.Stage as r_stage
use Rattle.pdl_machine_run.specs.declared.beside.Beside as r_beside
use Rattle.pdl_machine_run.specs.declared.beside.Order as r_order
use Rattle.pdl_machine_run.specs.View.{seats, thread_in}
use Rattle.pdl_machine_run.specs.Outside.{state_of}
use Rattle.pdl_machine_run.specs.StageDeeds.{memory_at}
use Rattle.pdl_machine_run.specs.Acts.{acts_of, IsCarried, AreDecided, both, left_of, memory_after, memories_after}
use Rattle.pdl_machine_run.specs.Orders.{order_after}
use Rattle.pdl_machine_run.specs.Ready.{CanStep, AllCanStep}
use Rattle.pdl_lockapi.specs.Sizes.{size_of}
use Rattle.pdl_machine_run.specs.Running.{IsRunnable, IsReached, IsBeside, AreRoomy}
use Rattle.pdl_machine_run.proofs.Memories.{Within}
use Rattle.pdl_lockapi.proofs.LockKinds.{room_size}
use Rattle.pdl_lockapi.proofs.Lengths.{appended_long}
use Rattle.pdl_machine_run.proofs.CarriedDeeds.{lock_listed}
use Rattle.pdl_machine_run.proofs.ActedThreads.{AllActed, all_acted, acts_sized, kept_both, each_within, kept_after, left_count, entries_few, AllSized}
use Rattle.pdl_machine_run.proofs.MachineCycles.{movers_known, cycle_is}
use Rattle.pdl_semantics.proofs.Facts.{after_more}

-- RUNS

-- the state after a cycle is reached where the state before it is
pub reached_next : (p : Pipe) (st : State) (bits : List Bool) → IsReached p st → IsReached p (cycle p st bits)
reached_next p st bits r = (r.0, r.1 ++ bits ∷ [], ap (λ (s : State). cycle p s bits) r.2 ∙ sym (after_more p (first p r.0) r.1 bits))

module _ (f : Form) (run : IsRunnable f) (st : State) (bits : List Bool) (r : IsReached f.pipe st) where
  -- a cycle from a state of a run goes stage by stage and memory by memory
  pub by_run : IsByStages f.pipe st bits
  by_run = subst (λ (s : State). IsByStages f.pipe s bits) (sym r.2) (run.by r.0 r.1 bits)

  -- in a state of a run the threads use the locks as the rules have it
  pub used_run : IsInUse f.pipe st bits
  used_run = subst (λ (s : State). IsInUse f.pipe s bits) (sym r.2) (run.used r.0 r.1 bits)

  -- in a state of a run a fork's list is no longer than there are stages
  pub forked_run : (k : ℕ) → length (fork_of st k) ≤ length f.pipe.stages
  forked_run = subst (λ (s : State). (k : ℕ) → length (fork_of s k) ≤ length f.pipe.stages) (sym r.2) (run.forked r.0 r.1)

-- MEMORIES AFTER A CYCLE

after_at : (ms : List Act) (sq : Option ℕ) (k m : ℕ) (xs : List Memory)
    → m < length xs → memory_at (memories_after k ms sq xs) m ≡ memory_after (k + m) ms sq (memory_at xs m)
after_at ms sq k m [] less = absurd (omega arith)
after_at ms sq k zero (x ∷ xs) less = let same : k ≡ k + 0 = omega arith in ap (λ i. memory_after i ms sq x) same
after_at ms sq k (suc m) (x ∷ xs) less =
    let same : suc k + m ≡ k + suc m = omega arith in
    after_at ms sq (suc k) m xs (omega arith) ∙ ap (λ i. memory_after i ms sq (memory_at xs m)) same

-- there are as many memories after a cycle as before it
pub after_length : (ms : List Act) (sq : Option ℕ) (k : ℕ) (xs : List Memory) → length (memories_after k ms sq xs) ≡ length xs
after_length ms sq k [] = refl
after_length ms sq k (x ∷ xs) = ap suc (after_length ms sq (suc k) xs)

-- each memory can step where each of a number can
all_step : (ms : List Act) (k : ℕ) (xs : List Memory) → ((i : ℕ) → i < length xs → CanStep (k + i) ms (memory_at xs i)) → AllCanStep k ms xs
all_step ms k [] h = tt
all_step ms k (x ∷ xs) h =
    let here : k + 0 ≡ k = omega arith in (
      subst (λ i. CanStep i ms x) here (h 0 (omega arith)),
      all_step ms (suc k) xs
          (λ i less. let same : k + suc i ≡ suc k + i = omega arith in subst (λ j. CanStep j ms (memory_at xs i)) same (h (suc i) (omega arith))),
    )

module _ (f : Form) (run : IsRunnable f) (b : r_beside.Beside) (bits : List Bool) (next : ℕ)
    (ys zs : List r_stage.Stage) (beside : IsBeside f.pipe b) (count : length ys ≡ length f.pipe.stages)
    (long : length ys ≡ length zs)
    (carried : (i : ℕ) (d : r_stage.Stage) → i < length ys → IsCarried f b bits i (thread_in (get_or ys i d).slot) (get_or zs i d))
    (decided : AreDecided f.pipe b bits 0 zs) (reached : IsReached f.pipe (state_of (seats ys) b next)) where
  -- the pipe of the form
  abbrev pub p : Pipe
  p = f.pipe

  -- the state before the cycle
  abbrev pub st : State
  st = state_of (seats ys) b next

  -- the acts of those who move
  abbrev pub ms : List Act
  ms = acts_of 0 zs

  -- the memories before the cycle
  abbrev pub xs : List Memory
  xs = b.memories.items

  -- each thread in the stages fits, and so does what it does
  pub acted : AllActed f 0 zs
  acted =
      all_acted f b bits 0 ys zs long
      (λ i d less. let same : i ≡ 0 + i = omega arith in
      subst (λ j. IsCarried f b bits j (thread_in (get_or ys i d).slot) (get_or zs i d)) same (carried i d less))

  -- what those who move reserve and write is of words that are there, and of their widths
  pub sized : AllSized p ms
  sized = acts_sized f 0 zs acted

  by : IsByStages p st bits
  by = by_run f run st bits reached

  moving_is : moving p st bits ≡ ms
  moving_is = sym by.movers ∙ movers_known f b bits next ys zs beside count long carried decided

  used : IsInUse p st bits
  used = used_run f run st bits reached

  two : (m : ℕ) → m < length p.mems → length (addresses m ms) ≤ 2
  two m there = subst (λ (as' : List Act). length (addresses m as') ≤ 2) moving_is (used.two m there)

  few_out : (m : ℕ) → m < length p.mems → all_releases m ms ≤ 2
  few_out m there = subst (λ (as' : List Act). all_releases m as' ≤ 2) moving_is (used.few m there)

  room_for : (m : ℕ) → 1 ≤ length (addresses m ms) → has_room (mem_at p m).lock (length (addresses m ms)) (length (lock_of st m)) ≡ true
  room_for m = subst
      (λ (as' : List Act). 1 ≤ length (addresses m as') → has_room (mem_at p m).lock (length (addresses m as')) (length (lock_of st m)) ≡ true)
      moving_is (used.room m)

  step_one : (m : ℕ) → m < length xs → CanStep m ms (memory_at xs m)
  step_one m less =
      let there : m < length p.mems = subst (λ n. m < n) beside.roomy.memories.count less in
      let has = beside.roomy.memories.kept m there in
      let depth = has.count in
      let few = beside.roomy.few m there in
      let room = beside.roomy.room m there in
      let most = two m there in
      let sum = appended_long m ms (memory_at xs m).pending in
      record {
        room = omega arith;
        within =
            subst (λ n. AreWithin n (both m ms (memory_at xs m).pending)) (sym depth)
            (each_within p m (both m ms (memory_at xs m).pending) (kept_both p m ms (memory_at xs m).pending sized has.pending));
        few = few_out m there;
      }

  -- each memory has room for what the acts reserve, and a word for what they release
  pub can_step : AllCanStep 0 ms xs
  can_step = all_step ms 0 xs (λ i less. let same : i ≡ 0 + i = omega arith in subst (λ j. CanStep j ms (memory_at xs i)) same (step_one i less))

  -- what is released is of words that are there
  out_within : (k n : ℕ) (es : List Pending) → AreWithin n es → AreWithin n (take k es)
  out_within zero n es h = tt
  out_within (suc k) n [] h = tt
  out_within (suc k) n (e ∷ es) h = (h.0, out_within k n es h.1)

  all_within : (k : ℕ) (ns : List Memory) → AllCanStep k ms ns → Within st ms k ns
  all_within k [] h = tt
  all_within k (x ∷ ns) h = (out_within (all_releases k ms) (length x.words) (both k ms x.pending) h.0.within, all_within (suc k) ns h.1)

  -- what the acts release of each memory is of a word that is there
  pub within : Within st ms 0 xs
  within = all_within 0 xs can_step

  -- no more are pending than there may be
  module _ (sq : Option ℕ) (squashed : sq ≡ squasher ms) where
    abbrev after : ℕ → List Pending
    after m = entries_left sq (left_of m ms (memory_at xs m).pending)

    left_is : (m : ℕ) → m < length p.mems → lock_of (cycle p st bits) m ≡ after m
    left_is m less =
        by.locks m less
        ∙ ap (λ (as' : List Act). entries_left (squasher as') (list_three st as' m)) moving_is
        ∙ ap₂ (λ (q : Option ℕ) (es : List Pending). entries_left q (left_of m ms es)) (sym squashed) (lock_listed xs m)

    few_by : (m : ℕ) → m < length p.mems
        → ((mem_at p m).lock ≡ Plain) ⊎ (length (addresses m ms) + length (memory_at xs m).pending ≤ size_of (memory_at xs m).lock)
        → length (after m) ≤ size_of (memory_at xs m).lock
    few_by m less (inl plain) =
        let used = used_run f run (cycle p st bits) bits (reached_next p st bits reached) in
        let none : after m ≡ [] = sym (left_is m less) ∙ used.plain m plain in
        let empty = ap (λ (es : List Pending). length es) none in
        omega (arith, empty)
    few_by m less (inr room) =
        let left = left_count m ms (memory_at xs m).pending in
        let few = entries_few sq (left_of m ms (memory_at xs m).pending) in
        omega (arith, left, few, room)

    few_after : (m : ℕ) → m < length p.mems → length (after m) ≤ size_of (memory_at xs m).lock
    few_after m less = at (length (addresses m ms)) refl
      where
        sized_by : ((mem_at p m).lock ≡ Plain) ⊎ (length (addresses m ms) + length (lock_of st m) ≤ size_of (mem_at p m).lock)
            → ((mem_at p m).lock ≡ Plain) ⊎ (length (addresses m ms) + length (memory_at xs m).pending ≤ size_of (memory_at xs m).lock)
        sized_by (inl e) = inl e
        sized_by (inr h) =
            inr (subst (λ (l : Lock). length (addresses m ms) + length (memory_at xs m).pending ≤ size_of l) (beside.roomy.memories.kinds m)
            (subst (λ (es : List Pending). length (addresses m ms) + length es ≤ size_of (mem_at p m).lock) (lock_listed xs m) h))

        at : (n : ℕ) → length (addresses m ms) ≡ n → length (after m) ≤ size_of (memory_at xs m).lock
        at zero e =
            let left = left_count m ms (memory_at xs m).pending in
            let fewer = entries_few sq (left_of m ms (memory_at xs m).pending) in
            let few = beside.roomy.few m less in
            omega (arith, e, left, fewer, few)
        at (suc n) e =
            few_by m less
            (sized_by (room_size (mem_at p m).lock (length (addresses m ms)) (length (lock_of st m)) (room_for m (omega (arith, e)))))

    -- the memories after the cycle have room for what may be pending and two reservations more
    pub roomy_after : AreRoomy p (memories_after 0 ms sq xs)
    roomy_after =
        record {
          memories = record {
            count = after_length ms sq 0 xs ∙ beside.roomy.memories.count;
            kept =
                λ m less. subst (λ (x : Memory). IsKept (2 ^ (mem_at p m).width) (mem_at p m).depth x) (sym (at m less))
                (kept_after p m ms sq (memory_at xs m) sized (beside.roomy.memories.kept m less));
            kinds = λ m. beside.roomy.memories.kinds m ∙ sym (lock_same 0 m xs);
          };
          room = λ m less. subst (λ (x : Memory). size_of x.lock + 2 ≤ x.capacity) (sym (at m less)) (beside.roomy.room m less);
          few = λ m less. subst (λ (x : Memory). length x.pending ≤ size_of x.lock) (sym (at m less)) (few_after m less);
        }
      where
        at : (m : ℕ) → m < length p.mems → memory_at (memories_after 0 ms sq xs) m ≡ memory_after m ms sq (memory_at xs m)
        at m less =
            let same : 0 + m ≡ m = omega arith in
            after_at ms sq 0 m xs (subst (λ n. m < n) (sym beside.roomy.memories.count) less) ∙ ap (λ i. memory_after i ms sq (memory_at xs m)) same

        lock_same : (k m : ℕ) (ns : List Memory) → (memory_at (memories_after k ms sq ns) m).lock ≡ (memory_at ns m).lock
        lock_same k m [] = refl
        lock_same k zero (x ∷ ns) = refl
        lock_same k (suc m) (x ∷ ns) = lock_same (suc k) m ns

    -- a fork's order has room
    order_at : (os : List r_order.Order) (i : ℕ) (d : r_order.Order) → i < length os
        → slice_index_or (map (λ (o : r_order.Order). o.branches.items) os) i [] ≡ (get_or os i d).branches.items
    order_at [] i d less = absurd (omega arith)
    order_at (o ∷ os) zero d less = refl
    order_at (o ∷ os) (suc i) d less = order_at os i d (omega arith)

    -- a fork's order has room for the branches of the threads that are inside after the cycle
    pub orders_room : (i : ℕ) (d : r_order.Order) → i < length b.orders.items
        → length (order_after p ms i (get_or b.orders.items i d).branches.items) ≤ vec_capacity (get_or b.orders.items i d).branches
    orders_room i d less =
        let there : i < length p.stages = subst (λ n. i < n) beside.orders less in
        let now : fork_of (cycle p st bits) i ≡ order_after p ms i (get_or b.orders.items i d).branches.items =
        ap (λ (s : State). fork_of s i) (cycle_is f b bits next ys zs beside count long carried decided)
        ∙ at_stage (λ j. branches_left p (squash_stage ms) j (fork_next p st ms j)) 0 p.stages i [] there
        ∙ ap (λ j. branches_left p (squash_stage ms) j (fork_next p st ms j)) (let same : 0 + i ≡ i = omega arith in same)
        ∙ ap (order_after p ms i) (order_at b.orders.items i d less) in
        let few = forked_run f run (cycle p st bits) bits (reached_next p st bits reached) i in
        let room = beside.long i d less in
        let same = ap (λ (l : List Bool). length l) now in
        omega (arith, few, room, same)
