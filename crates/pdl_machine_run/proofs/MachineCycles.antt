-- A cycle of the stated machine, and its ports, as the program makes them.
use Rattle.std.proofs.Common.{◌≡◌, refl, sym, ap, ap₂, ◌∙◌, subst, ℕ, zero, suc, ◌+◌, ◌<◌, Bool, true, false, ◌&&◌, ◌||◌, if◌then◌else◌, ◌==◌, List, [], ◌∷◌, ◌++◌, map, Option, Some, None, is_some, length, slice_index_or, get_or, arith, ne_eqb, eq-eqb}
use Rattle.std.proofs.lemmas.List.{length-map}
use Rattle.pdl_word.specs.Words.{bit}
use Rattle.pdl_semantics.specs.Flat.{Mem, Stage, Pipe, is_delayed}
use Rattle.pdl_semantics.specs.Stages.{plain_mem, list_any}
use Rattle.pdl_semantics.specs.Machine.{Thread, Request, NoRequest, State, lock_of}
use Rattle.pdl_semantics.specs.Moves.{Act, all_acts, movers}
use Rattle.pdl_semantics.specs.Cycle.{for_mems, for_stages, or_then, if_kept, born_thread, child_of, squasher, squash_stage, next_thread, stage_next, with_commits, with_all_advised, entries_left, list_three, taken_out, port_writes, fork_next, branches_left, request_next, request_left, after_these, after_acts, cycle, ports_these, asked_in}
use Rattle.pdl_semantics.specs.Cycle as stated
use Rattle.pdl_semantics.specs.SecondWrites.{all_twice}
use Rattle.pdl_machine_facts.specs.Ports.{stage_values, all_commit_values, request_values, all_request_values, whole_values}
use Rattle.pdl_form.specs.Form.{Form}
use Rattle.pdl_machine_pending.specs.Memory.{Memory}
use Rattle.pdl_machine_run.specs.declared.stage.Stage as r_stage
use Rattle.pdl_machine_run.specs.declared.beside.Beside as r_beside
use Rattle.pdl_machine_run.specs.View.{thread_of, thread_in, seats, deeds_view, request_view, order_views}
use Rattle.pdl_machine_run.specs.Outside.{state_of, arrays_in}
use Rattle.pdl_machine_run.specs.StageDeeds.{memory_at}
use Rattle.pdl_machine_run.specs.Acts.{act_here, all_of, acts_of, are_held, are_moving, goes, AreDecided, IsCarried, one_ends, memories_after, commits_shown}
use Rattle.pdl_machine_run.specs.Orders.{order_after, orders_after}
use Rattle.pdl_machine_run.specs.Requests.{request_after, requests_after, requests_shown}
use Rattle.pdl_machine_run.specs.Advice.{after_all_writes}
use Rattle.pdl_machine_run.specs.Running.{IsBeside}
use Rattle.pdl_machine_run.proofs.CarriedDeeds.{lock_listed, word_listed}
use Rattle.pdl_machine_run.proofs.Movers.{acts_are, movers_are}
use Rattle.pdl_machine_run.proofs.AdvisedMemories.{pending_kept}
use Rattle.pdl_machine_run.proofs.Memories.{locks_after, words_after, commits_after, arrays_listed, Within}

-- states with equal parts are equal
same_state : (a b : State)
    → a.stages ≡ b.stages → a.arrays ≡ b.arrays → a.locks ≡ b.locks → a.forks ≡ b.forks → a.requests ≡ b.requests
    → a.next ≡ b.next → a ≡ b
same_state a b s r l f q n =
    ap (λ x. record { stages = x; arrays = a.arrays; locks = a.locks; forks = a.forks; requests = a.requests; next = a.next }) s
    ∙ ap (λ x. record { stages = b.stages; arrays = x; locks = a.locks; forks = a.forks; requests = a.requests; next = a.next }) r
    ∙ ap (λ x. record { stages = b.stages; arrays = b.arrays; locks = x; forks = a.forks; requests = a.requests; next = a.next }) l
    ∙ ap (λ x. record { stages = b.stages; arrays = b.arrays; locks = b.locks; forks = x; requests = a.requests; next = a.next }) f
    ∙ ap (λ x. record { stages = b.stages; arrays = b.arrays; locks = b.locks; forks = b.forks; requests = x; next = a.next }) q
    ∙ ap (λ x. record { stages = b.stages; arrays = b.arrays; locks = b.locks; forks = b.forks; requests = b.requests; next = x }) n

-- LISTS BY STAGES AND MEMORIES

seats_listed : (g : ℕ → Option Thread) (k : ℕ) (zs : List r_stage.Stage) (ss : List Stage)
    → length zs ≡ length ss → ((i : ℕ) (d : r_stage.Stage) → i < length zs → thread_in (get_or zs i d).slot ≡ g (k + i))
    → seats zs ≡ for_stages g k ss
seats_listed g k [] [] n h = refl
seats_listed g k [] (s ∷ ss) n h = absurd (omega arith)
seats_listed g k (z ∷ zs) [] n h = absurd (omega arith)
seats_listed g k (z ∷ zs) (s ∷ ss) n h =
    let here : k + 0 ≡ k = omega arith in
    ap₂ (λ (o : Option Thread) (os : List (Option Thread)). o ∷ os) (h 0 z (omega arith) ∙ ap g here)
    (seats_listed g (suc k) zs ss (omega arith) (λ i d less. let same : k + suc i ≡ suc k + i = omega arith in h (suc i) d (omega (arith, less)) ∙ ap g same))

flags_listed : (g : ℕ → Bool) (k : ℕ) (bs : List Bool) (ss : List Stage)
    → length bs ≡ length ss → ((i : ℕ) → i < length bs → g (k + i) ≡ slice_index_or bs i false) → bs ≡ for_stages g k ss
flags_listed g k [] [] n h = refl
flags_listed g k [] (s ∷ ss) n h = absurd (omega arith)
flags_listed g k (b ∷ bs) [] n h = absurd (omega arith)
flags_listed g k (b ∷ bs) (s ∷ ss) n h =
    let here : k ≡ k + 0 = omega arith in
    ap₂ (λ (c : Bool) (cs : List Bool). c ∷ cs) (sym (ap g here ∙ h 0 (omega arith)))
    (flags_listed g (suc k) bs ss (omega arith) (λ i less. let same : suc k + i ≡ k + suc i = omega arith in ap g same ∙ h (suc i) (omega (arith, less))))

module _ (p : Pipe) (st : State) (bits : List Bool) (ms : List Act) (sq : Option ℕ) where
  orders_listed : (k : ℕ) (lists : List (List Bool)) (ss : List Stage) → length lists ≡ length ss
      → ((i : ℕ) → slice_index_or lists i [] ≡ slice_index_or st.forks (k + i) [])
      → orders_after p ms k lists ≡ for_stages (λ f. branches_left p (squash_stage ms) f (fork_next p st ms f)) k ss
  orders_listed k [] [] n h = refl
  orders_listed k [] (s ∷ ss) n h = absurd (omega arith)
  orders_listed k (l ∷ ls) [] n h = absurd (omega arith)
  orders_listed k (l ∷ ls) (s ∷ ss) n h =
      let here : k + 0 ≡ k = omega arith in
      ap₂ (λ (a : List Bool) (as' : List (List Bool)). order_after p ms k a ∷ as') (h 0 ∙ ap (λ i. slice_index_or st.forks i []) here)
      (orders_listed (suc k) ls ss (omega arith)
      (λ i. let same : k + suc i ≡ suc k + i = omega arith in h (suc i) ∙ ap (λ j. slice_index_or st.forks j []) same))

  requests_listed : (k : ℕ) (rs : List Request) (ds : List Mem) → length rs ≡ length ds
      → ((i : ℕ) → slice_index_or rs i NoRequest ≡ slice_index_or st.requests (k + i) NoRequest)
      → requests_after p bits ms sq k rs ≡ for_mems (λ m. request_left sq (request_next p st bits ms m)) k ds
  requests_listed k [] [] n h = refl
  requests_listed k [] (d ∷ ds) n h = absurd (omega arith)
  requests_listed k (r ∷ rs) [] n h = absurd (omega arith)
  requests_listed k (r ∷ rs) (d ∷ ds) n h =
      let here : k + 0 ≡ k = omega arith in
      ap₂ (λ (a : Request) (as' : List Request). request_after k ms sq (stated_answered k) a ∷ as')
      (h 0 ∙ ap (λ i. slice_index_or st.requests i NoRequest) here)
      (requests_listed (suc k) rs ds (omega arith)
      (λ i. let same : k + suc i ≡ suc k + i = omega arith in h (suc i) ∙ ap (λ j. slice_index_or st.requests j NoRequest) same))
    where
      stated_answered : ℕ → Bool
      stated_answered m = Rattle.pdl_semantics.specs.Machine.is_answered p bits m

requests_are : (ms : List Act) (k : ℕ) (ds : List Mem) → requests_shown k ms ds ≡ all_request_values ds (for_mems (λ m. asked_in ms m) k ds)
requests_are ms k [] = refl
requests_are ms k (d ∷ ds) = ap (λ (vs : List ℕ). (if is_delayed d.kind then request_values (asked_in ms k) else []) ++ vs) (requests_are ms (suc k) ds)

-- WHO STANDS WHERE, AND MOVES

module _ (test : Act → Bool) where
  abbrev flag : ℕ → Option ℕ → r_stage.Stage → Bool
  flag k None x = false
  flag k (Some n) x = test (record { stage = k; thread = thread_of n x.slot; does = deeds_view x.deeds; moves = x.moves })

  abbrev found : ℕ → List Act → Bool
  found s acts = list_any (λ (a : Act). (a.stage == s) && test a) acts

  none_found : (s k : ℕ) (zs : List r_stage.Stage) → s < k → found s (all_of k zs) ≡ false
  none_found s k [] h = refl
  none_found s k (z ∷ zs) h = at z.slot.number (none_found s (suc k) zs (omega arith))
    where
      apart : (k == s) ≡ false
      apart = ne_eqb k s (λ e. absurd (omega (arith, e, h)))

      at : (o : Option ℕ) → found s (all_of (suc k) zs) ≡ false → found s (act_here k o z ++ all_of (suc k) zs) ≡ false
      at None e = e
      at (Some n) e = ap₂ (λ (b c : Bool). (b && flag k (Some n) z) || c) apart e

  found_at : (k i : ℕ) (zs : List r_stage.Stage) (d : r_stage.Stage) → i < length zs
      → found (k + i) (all_of k zs) ≡ flag (k + i) (get_or zs i d).slot.number (get_or zs i d)
  found_at k i [] d less = absurd (omega arith)
  found_at k zero (z ∷ zs) d less = at z.slot.number (none_found (k + 0) (suc k) zs (omega arith))
    where
      here : k ≡ k + 0
      here = omega arith

      or_none : (b : Bool) → (b || false) ≡ b
      or_none true = refl
      or_none false = refl

      at : (o : Option ℕ) → found (k + 0) (all_of (suc k) zs) ≡ false → found (k + 0) (act_here k o z ++ all_of (suc k) zs) ≡ flag (k + 0) o z
      at None e = e
      at (Some n) e =
          ap₂ (λ (b c : Bool). (b && flag k (Some n) z) || c) (eq-eqb k (k + 0) here) e ∙ or_none (flag k (Some n) z) ∙ ap (λ j. flag j (Some n) z) here
  found_at k (suc i) (z ∷ zs) d less =
      at z.slot.number ∙ ap (λ j. found j (all_of (suc k) zs)) same ∙ found_at (suc k) i zs d (omega arith)
      ∙ ap (λ j. flag j (get_or zs i d).slot.number (get_or zs i d)) (sym same)
    where
      same : k + suc i ≡ suc k + i
      same = omega arith

      apart : (k == k + suc i) ≡ false
      apart = ne_eqb k (k + suc i) (λ e. absurd (omega (arith, e)))

      at : (o : Option ℕ) → found (k + suc i) (act_here k o z ++ all_of (suc k) zs) ≡ found (k + suc i) (all_of (suc k) zs)
      at None = refl
      at (Some n) = ap (λ b. (b && flag k (Some n) z) || found (k + suc i) (all_of (suc k) zs)) apart

held_by : (s : ℕ) (acts : List Act) → list_any (λ (a : Act). a.stage == s) acts ≡ list_any (λ (a : Act). (a.stage == s) && true) acts
held_by s [] = refl
held_by s (a ∷ acts) = ap₂ (λ (b c : Bool). b || c) (at (a.stage == s)) (held_by s acts)
  where
    at : (b : Bool) → b ≡ (b && true)
    at true = refl
    at false = refl

moving_by : (s : ℕ) (acts : List Act)
    → list_any (λ (a : Act). a.stage == s) (movers acts) ≡ list_any (λ (a : Act). (a.stage == s) && a.moves) acts
moving_by s [] = refl
moving_by s (a ∷ acts) = at a.moves (a.stage == s) (moving_by s acts)
  where
    at : (m b : Bool) → list_any (λ (a : Act). a.stage == s) (movers acts) ≡ list_any (λ (a : Act). (a.stage == s) && a.moves) acts
        → list_any (λ (a : Act). a.stage == s) (if m then a ∷ movers acts else movers acts)
        ≡ (((a.stage == s) && m) || list_any (λ (a : Act). (a.stage == s) && a.moves) acts)
    at true b h = go (a.stage == s)
      where
        go : (c : Bool) → (c || list_any (λ (a : Act). a.stage == s) (movers acts)) ≡ ((c && true) || list_any (λ (a : Act). (a.stage == s) && a.moves) acts)
        go true = refl
        go false = h
    at false b h = go (a.stage == s)
      where
        go : (c : Bool) → list_any (λ (a : Act). a.stage == s) (movers acts) ≡ ((c && false) || list_any (λ (a : Act). (a.stage == s) && a.moves) acts)
        go true = h
        go false = h

flag_mapped : (view : r_stage.Stage → Bool) (zs : List r_stage.Stage) (i : ℕ) (d : r_stage.Stage)
    → i < length zs → slice_index_or (map view zs) i false ≡ view (get_or zs i d)
flag_mapped view [] i d less = absurd (omega arith)
flag_mapped view (z ∷ zs) zero d less = refl
flag_mapped view (z ∷ zs) (suc i) d less = flag_mapped view zs i d (omega arith)

-- who is decided to move stands there
decided_at : (p : Pipe) (b : r_beside.Beside) (bits : List Bool) (k i : ℕ) (zs : List r_stage.Stage) (d : r_stage.Stage)
    → AreDecided p b bits k zs → i < length zs
    → flag (λ a. a.moves) (k + i) (get_or zs i d).slot.number (get_or zs i d) ≡ (get_or zs i d).moves
decided_at p b bits k i [] d h less = absurd (omega arith)
decided_at p b bits k zero (z ∷ zs) d h less = at z.slot.number h.0
  where
    at : (o : Option ℕ) → z.moves ≡ goes p b bits k o z zs → flag (λ a. a.moves) (k + 0) o z ≡ z.moves
    at None e = sym e
    at (Some n) e = refl
decided_at p b bits k (suc i) (z ∷ zs) d h less =
    let same : k + suc i ≡ suc k + i = omega arith in
    ap (λ j. flag (λ a. a.moves) j (get_or zs i d).slot.number (get_or zs i d)) same ∙ decided_at p b bits (suc k) i zs d h.1 (omega arith)

-- THE CYCLE

module _ (f : Form) (b : r_beside.Beside) (bits : List Bool) (next : ℕ) (ys zs : List r_stage.Stage)
    (beside : IsBeside f.pipe b) (count : length ys ≡ length f.pipe.stages) (long : length ys ≡ length zs)
    (carried : (i : ℕ) (d : r_stage.Stage) → i < length ys → IsCarried f b bits i (thread_in (get_or ys i d).slot) (get_or zs i d))
    (decided : AreDecided f.pipe b bits 0 zs) where
  -- the pipe of the form
  abbrev pub p : Pipe
  p = f.pipe

  -- the state before the cycle
  abbrev pub st : State
  st = state_of (seats ys) b next

  -- the acts of those who move
  abbrev pub ms : List Act
  ms = acts_of 0 zs

  -- the memories before the cycle
  abbrev pub xs : List Memory
  xs = b.memories.items

  zero_on : (m : ℕ) → 0 + m ≡ m
  zero_on m = omega arith

  -- the acts of the threads in the stages are all acts of the stated machine
  pub these_are : all_of 0 zs ≡ all_acts p st bits
  these_are =
      acts_are f b bits (seats ys) next 0 ys zs long
      (λ i d less. subst (λ j. IsCarried f b bits j (thread_in (get_or ys i d).slot) (get_or zs i d)) (sym (zero_on i)) (carried i d less)) decided

  -- those who move in the stated machine are those whom the program lets move
  pub movers_known : movers (all_acts p st bits) ≡ ms
  movers_known = ap movers (sym these_are) ∙ movers_are 0 zs

  -- the stated cycle is what comes of these acts and movers
  pub cycle_is : cycle p st bits ≡ after_these p st bits (all_of 0 zs) ms (squasher ms)
  cycle_is = ap (after_acts p st bits) (sym these_are) ∙ ap (λ (as' : List Act). after_these p st bits (all_of 0 zs) as' (squasher as')) (movers_are 0 zs)

  locked : (i : ℕ) → lock_of st (0 + i) ≡ (memory_at xs i).pending
  locked i = ap (lock_of st) (zero_on i) ∙ lock_listed xs i

  mems : length p.mems ≡ length xs
  mems = sym beside.roomy.memories.count

  arrays_are : Within st ms 0 xs → (sq : Option ℕ) → with_commits st ms 0 p.mems st.arrays ≡ arrays_in (memories_after 0 ms sq xs)
  arrays_are within sq =
      arrays_listed (with_commits st ms 0 p.mems st.arrays) (memories_after 0 ms sq xs)
      (λ m a.
      ap (λ i. with_commits st ms 0 p.mems st.arrays i a) (sym (zero_on m))
      ∙ words_after st ms sq 0 p.mems xs st.arrays mems locked (λ i c. ap (λ j. st.arrays j c) (zero_on i) ∙ word_listed xs i c) within m a)

  module _ (news : List r_stage.Stage) (c : r_beside.Beside) (called : Bool) (sq : Option ℕ) (born : Option Thread) where
    -- where stages, memories, orders and requests become what these acts make of them, the state is the one after the cycle
    pub next_state : length news ≡ length zs → sq ≡ squasher ms → born ≡ born_thread p next (child_of ms) → called ≡ is_some (child_of ms) → Within st ms 0 xs
        → arrays_in (after_all_writes ms (memories_after 0 ms sq xs)) ≡ with_all_advised ms (arrays_in (memories_after 0 ms sq xs))
        → ((q : ℕ) (d : r_stage.Stage) → q < length zs
        → thread_in (get_or news q d).slot ≡ or_then (if q == 0 then born else None) (if_kept sq (next_thread p q (all_of 0 zs))))
        → c.memories.items ≡ after_all_writes ms (memories_after 0 ms sq xs)
        → order_views c.orders.items ≡ orders_after p ms 0 (order_views b.orders.items)
        → map request_view c.requests.items ≡ requests_after p bits ms sq 0 (map request_view b.requests.items)
        → state_of (seats news) c (if called then suc next else next) ≡ cycle p st bits
    next_state same squashed bears calls within advised threads memories orders requests =
        same_state (state_of (seats news) c (if called then suc next else next))
        (after_these p st bits (all_of 0 zs) ms (squasher ms)) stages_are arrays_next locks_next forks_next requests_next
        (ap (λ (t : Bool). if t then suc next else next) calls)
        ∙ sym cycle_is
      where
        children : child_of ms ≡ child_of (movers (all_of 0 zs))
        children = ap child_of (sym (movers_are 0 zs))

        stages_are : seats news ≡ for_stages (λ q. stage_next p st (all_of 0 zs) (squasher ms) q) 0 p.stages
        stages_are =
            seats_listed (λ q. stage_next p st (all_of 0 zs) (squasher ms) q) 0 news p.stages (omega (arith, same, long, count))
            (λ i d less.
            threads i d (omega (arith, less, same))
            ∙ ap₂ (λ (o : Option Thread) (s : Option ℕ). or_then (if i == 0 then o else None) (if_kept s (next_thread p i (all_of 0 zs))))
            (bears ∙ ap (born_thread p next) children) squashed
            ∙ ap (λ q. stage_next p st (all_of 0 zs) (squasher ms) q) (sym (zero_on i)))

        arrays_next : arrays_in c.memories.items ≡ with_all_advised ms (with_commits st ms 0 p.mems st.arrays)
        arrays_next = ap arrays_in memories ∙ advised ∙ sym (ap (with_all_advised ms) (arrays_are within sq))

        locks_next : map (λ (x : Memory). x.pending) c.memories.items ≡ for_mems (λ m. entries_left (squasher ms) (list_three st ms m)) 0 p.mems
        locks_next =
            ap (λ (ns : List Memory). map (λ (x : Memory). x.pending) ns) memories
            ∙ pending_kept ms (memories_after 0 ms sq xs)
            ∙ sym (locks_after st ms sq 0 p.mems xs mems locked)
            ∙ ap (λ (s : Option ℕ). for_mems (λ m. entries_left s (list_three st ms m)) 0 p.mems) squashed

        forks_next : order_views c.orders.items ≡ for_stages (λ i. branches_left p (squash_stage ms) i (fork_next p st ms i)) 0 p.stages
        forks_next =
            orders
            ∙ orders_listed p st bits ms sq 0 (order_views b.orders.items) p.stages (length-map b.orders.items _ ∙ beside.orders)
            (λ i. ap (λ j. slice_index_or st.forks j []) (sym (zero_on i)))

        requests_next : map request_view c.requests.items ≡ for_mems (λ m. request_left (squasher ms) (request_next p st bits ms m)) 0 p.mems
        requests_next =
            requests
            ∙ requests_listed p st bits ms sq 0 (map request_view b.requests.items) p.mems (length-map b.requests.items request_view ∙ beside.requests)
            (λ i. ap (λ j. slice_index_or st.requests j NoRequest) (sym (zero_on i)))
            ∙ ap (λ (s : Option ℕ). for_mems (λ m. request_left s (request_next p st bits ms m)) 0 p.mems) squashed

  -- THE PORTS

  held_are : are_held zs ≡ for_stages (λ s. list_any (λ (a : Act). a.stage == s) (all_of 0 zs)) 0 p.stages
  held_are =
      flags_listed _ 0 (are_held zs) p.stages (length-map zs _ ∙ sym long ∙ count)
      (λ i less.
      (let there : i < length zs = omega (arith, less, length-map zs (λ (x : r_stage.Stage). is_some x.slot.number)) in
      let d : r_stage.Stage = get_or zs i (some_stage zs there) in
      held_by (0 + i) (all_of 0 zs) ∙ found_at (λ a. true) 0 i zs d there
      ∙ stands (0 + i) (get_or zs i d) (get_or zs i d).slot.number
      ∙ sym (flag_mapped (λ (x : r_stage.Stage). is_some x.slot.number) zs i d there)))
    where
      some_stage : (ns : List r_stage.Stage) → {i : ℕ} → i < length ns → r_stage.Stage
      some_stage [] h = absurd (omega arith)
      some_stage (n ∷ ns) h = n

      stands : (k : ℕ) (x : r_stage.Stage) (o : Option ℕ) → flag (λ a. true) k o x ≡ is_some o
      stands k x None = refl
      stands k x (Some n) = refl

  moving_are : are_moving zs ≡ for_stages (λ s. list_any (λ (a : Act). a.stage == s) ms) 0 p.stages
  moving_are =
      flags_listed _ 0 (are_moving zs) p.stages (length-map zs _ ∙ sym long ∙ count)
      (λ i less.
      (let there : i < length zs = omega (arith, less, length-map zs (λ (x : r_stage.Stage). x.moves)) in
      let d : r_stage.Stage = get_or zs i (some_stage zs there) in
      ap (λ (as' : List Act). list_any (λ (a : Act). a.stage == 0 + i) as') (sym (movers_are 0 zs))
      ∙ moving_by (0 + i) (all_of 0 zs) ∙ found_at (λ a. a.moves) 0 i zs d there
      ∙ decided_at p b bits 0 i zs d decided there
      ∙ sym (flag_mapped (λ (x : r_stage.Stage). x.moves) zs i d there)))
    where
      some_stage : (ns : List r_stage.Stage) → {i : ℕ} → i < length ns → r_stage.Stage
      some_stage [] h = absurd (omega arith)
      some_stage (n ∷ ns) h = n

  -- what is shown of stages, commits, requests, the end and the squash are the stated ports
  pub next_ports : (sq : Option ℕ) → sq ≡ squasher ms
      → stage_values (are_held zs) (are_moving zs)
      ++ (commits_shown b.twice.items 0 ms xs ++ (requests_shown 0 ms p.mems ++ bit (one_ends p ms) ∷ bit (is_some sq) ∷ []))
      ≡ whole_values p (stated.ports p st (all_acts p st bits))
  next_ports sq squashed =
      ap₂
      (λ (u v : List Bool). stage_values u v
      ++ (commits_shown b.twice.items 0 ms xs ++ (requests_shown 0 ms p.mems ++ bit (one_ends p ms) ∷ bit (is_some sq) ∷ []))) held_are moving_are
      ∙ ap₂ (λ (u v : List ℕ). stage_values valid moves ++ (u ++ (v ++ bit (one_ends p ms) ∷ bit (is_some sq) ∷ [])))
      (ap (λ (ts : List Bool). commits_shown ts 0 ms xs) beside.twice ∙ sym (commits_after st ms told 0 p.mems xs mems locked kinds)) (requests_are ms 0 p.mems)
      ∙ ap
      (λ (s : Option ℕ). stage_values valid moves
      ++ (all_commit_values told p.mems commits ++ (all_request_values p.mems asked ++ bit (one_ends p ms) ∷ bit (is_some s) ∷ []))) squashed
      ∙ ap (λ (as' : List Act). whole_values p (ports_these p st (all_of 0 zs) as')) (sym (movers_are 0 zs))
      ∙ ap (λ (as' : List Act). whole_values p (stated.ports p st as')) these_are
    where
      valid : List Bool
      valid = for_stages (λ s. list_any (λ (a : Act). a.stage == s) (all_of 0 zs)) 0 p.stages

      moves : List Bool
      moves = for_stages (λ s. list_any (λ (a : Act). a.stage == s) ms) 0 p.stages

      told : List Bool
      told = all_twice p.stmts 0 p.mems

      commits : List (List stated.PortWrite)
      commits = for_mems (λ m. port_writes (taken_out st ms m)) 0 p.mems

      asked : List (Option ℕ)
      asked = for_mems (λ m. asked_in ms m) 0 p.mems

      same_default : (ds : List Mem) (i : ℕ) (e : Mem) → i < length ds → slice_index_or ds i e ≡ slice_index_or ds i plain_mem
      same_default [] i e less = absurd (omega arith)
      same_default (x ∷ ds) zero e less = refl
      same_default (x ∷ ds) (suc i) e less = same_default ds i e (omega arith)

      kinds : (i : ℕ) (e : Mem) → i < length p.mems → (slice_index_or p.mems i e).lock ≡ (memory_at xs i).lock
      kinds i e less = ap (λ (d : Mem). d.lock) (same_default p.mems i e less) ∙ beside.roomy.memories.kinds i
