-- Where a squash cuts each lock: the second tickets of threads up to V are carried from cycle to cycle, and that of the thread that squashes is where its squash cuts.
use Rattle.std.proofs.Common.{◌≡◌, refl, sym, ap, ap₂, ◌∙◌, subst, ℕ, zero, suc, ◌+◌, ◌-◌, ◌*◌, ◌%◌, ◌^◌, ◌<◌, ◌≤◌, ⊎_elim, Bool, true, false, List, [], ◌∷◌, ◌++◌, length, map, Option, Some, None, arith, ◌==◌, ne_eqb}
use Rattle.std.specs.Prelude.{if◌then◌else◌, slice_index, ⊤}
use Rattle.std.proofs.Math.Nat.{mod-add-mod, add-mul-mod_self_right, le-mul_of_pos_right}
use Rattle.std.proofs.lemmas.Bool.{cases_lt}
use Rattle.std.proofs.lemmas.List.{length-map}
use Rattle.std.proofs.lemmas.Nat.{pow_pos}
use Rattle.pdl_word.specs.Words.{bit}
use Rattle.pdl_semantics.specs.Flat.{Next, Ends, Goes, Forks, Pipe, Arrays}
use Rattle.pdl_semantics.specs.Stages.{stage_at, goes_to, reserve_stage, verify_stage}
use Rattle.pdl_semantics.specs.Updates.{squash_stages}
use Rattle.pdl_semantics.specs.Machine as machine
use Rattle.pdl_semantics.specs.Machine.{Thread, Pending, deeds}
use Rattle.pdl_semantics.specs.Moves.{next_stage}
use Rattle.pdl_semantics.specs.PendingLists.{count_older}
use Rattle.pdl_semantics.specs.Cycle.{cycle, first, squasher, is_kept, if_kept, or_then, is_stage, born_thread, child_of, thread_after, all_releases, list_three, entries_left, with_reserves}
use Rattle.pdl_theory_turns.specs.Facts.{Sound}
use Rattle.pdl_net.specs.Circuit.{Circuit, State}
use Rattle.pdl_net.specs.Signal.{Signal}
use Rattle.pdl_net.specs.Cycle.{next_regs, next_arrays}
use Rattle.pdl_net.specs.Well.{Suits}
use Rattle.pdl_lockapi.specs.Laws.{holds_ticket}
use Rattle.pdl_lockapi.specs.Forget.{forget, lock_state_of}
use Rattle.pdl_lockapi.proofs.NextState.{is_next}
use Rattle.pdl_machine_facts.specs.Slots.{LeadsOn, slot, here, stage_moves, moving, ways, ways_from, leads_to, act_at, thread_into, passing_thread, first_of, arriving_thread, staying_thread}
use Rattle.pdl_machine_facts.specs.Cycle.{IsByStages}
use Rattle.pdl_machine_facts.proofs.StagewisePorts.{at_stage, past_stage}
use Rattle.pdl_machine_lockuse.specs.Cut.{IsCut}
use Rattle.pdl_law_parts.specs.Walk.{Locks, Walk, is_locked, is_on, one, zero_bit}
use Rattle.pdl_law_parts.specs.Advice.{IsAdvisedApart}
use Rattle.pdl_law_parts.specs.Views.{View, Gates, Comer, branch, out_of, new_from, comers}
use Rattle.pdl_law_parts.specs.Compiled.{IsLaid}
use Rattle.pdl_law_parts.specs.Served.{IsServed}
use Rattle.pdl_law_parts.specs.Stands.{StandsLock, IsSeen, IsSquashed}
use Rattle.pdl_law_parts.proofs.Signals.{one_is, zero_is, on_is}
use Rattle.pdl_law_parts.proofs.AnsweredThreads.{Stood}
use Rattle.pdl_law_parts.proofs.Moves.{ready_of, fork_value}
use Rattle.pdl_law_parts.proofs.LockActs.{reserves_are, pending_count}
use Rattle.pdl_law_parts.proofs.LockStep.{words_next, stands_next}
use Rattle.pdl_law_parts.proofs.LockPorts.{both_is, moves_or_not}
use Rattle.pdl_law_parts.proofs.Comers.{first_come, brought, picked_is}
use Rattle.pdl_law_parts.proofs.StageLooks.{lock_there}
use Rattle.pdl_machine_inflight.specs.InFlight.{InFlight, UpdatesTogether}
use Rattle.pdl_machine_inflight.proofs.SquashStages.{squash_early}
use Rattle.pdl_machine_inflight.proofs.Squashes.{stood_in, squashing, squasher_in}
use Rattle.pdl_machine_inflight.proofs.Comings.{stage_low}
use Rattle.pdl_law_sides.specs.Sides.{Sides, with_tickets}
use Rattle.pdl_law_sides.specs.HasSides.{HasTails}
use Rattle.pdl_law_follows.proofs.SquashFolds.{Tells, of_squasher_at}
use Rattle.pdl_law_follows.proofs.OrderSides.{Agrees, fork_at}

-- a thread past a memory's reserves, no further than V, carries the ticket of the first pending write of a younger one
abbrev pub StandTails : Pipe → Locks → (ℕ → View) → Sides → ℕ → State → machine.State → Type 0
StandTails p ls vs sides v s st =
    (k m : ℕ) (t : Thread) → slot st k ≡ Some t → is_locked p m ≡ true → reserve_stage p m < k → k ≤ v
    → (stand : StandsLock p ls vs s st m) → holds_ticket (ls.bits m) (sides.tails k m) s (stand.base + count_older (suc t.number) (machine.lock_of st m))

-- at the start no thread is past stage 0
pub tails_first : (p : Pipe) (ls : Locks) (vs : ℕ → View) (sides : Sides) (v : ℕ) (image : Arrays) (s : State)
    → StandTails p ls vs sides v s (first p image)
tails_first p ls vs sides v image s k m t e locked low high stand = absurd (⊎_elim
    (λ (l : k < length p.stages). none_some
    (sym
    (at_stage (λ q. if q == 0 then born_thread p 1 (Some p.start) else None) 0 p.stages k None l
    ∙ ap (λ b. if b then born_thread p 1 (Some p.start) else None) (ne_eqb (0 + k) 0 (λ i. absurd (omega (arith, i, low)))))
    ∙ e))
    (λ (l : length p.stages ≤ k). none_some (sym (past_stage (λ q. if q == 0 then born_thread p 1 (Some p.start) else None) 0 p.stages k None l) ∙ e))
    (cases_lt k (length p.stages)))
  where
    none_some : None ≡ Some t → ⊥
    none_some i = cc i

-- ---- NUMBERS

-- two numbers that are the same modulo a power with one offset are the same with any
same_offset : (w a b n c : ℕ) → (a + n) % 2 ^ w ≡ (b + n) % 2 ^ w → (a + c) % 2 ^ w ≡ (b + c) % 2 ^ w
same_offset w a b n c e =
    sym (with_offset a) ∙ ap (λ x. (x + (n * 2 ^ w - n + c)) % 2 ^ w) e ∙ with_offset b
  where
    with_offset : (x : ℕ) → ((x + n) % 2 ^ w + (n * 2 ^ w - n + c)) % 2 ^ w ≡ (x + c) % 2 ^ w
    with_offset x =
        let below : n ≤ n * 2 ^ w = le-mul_of_pos_right n (pow_pos w) in
        let same : x + n + (n * 2 ^ w - n + c) ≡ x + c + n * 2 ^ w = omega (arith, below) in
        mod-add-mod (x + n) (2 ^ w) (n * 2 ^ w - n + c) ∙ ap (λ y. y % 2 ^ w) same ∙ add-mul-mod_self_right (x + c) n (2 ^ w)

-- ---- A CYCLE

-- whether a thread that moves goes to a stage
branch_is : (s : State) (w : Walk) (n : Next) (q : ℕ) (env : List ℕ) → Agrees s w n env
    → is_on (branch n q w) s ≡ is_stage q (goes_to n env)
branch_is s w Ends q env h = on_is s zero_bit false (zero_is s)
branch_is s w (Goes to) q env h = at (to == q)
  where
    at : (b : Bool) → is_on (if b then one else zero_bit) s ≡ b
    at true = on_is s one true (one_is s)
    at false = on_is s zero_bit false (zero_is s)
branch_is s w (Forks x a b) q env h =
    ap (λ n. n == 1) (fork_at s w x a b env h (if a == q then one else zero_bit) (if b == q then one else zero_bit)) ∙ choose (slice_index env x == 1)
  where
    at : (b : Bool) → is_on (if b then one else zero_bit) s ≡ b
    at true = on_is s one true (one_is s)
    at false = on_is s zero_bit false (zero_is s)

    choose : (t : Bool)
        → ((if t then (if a == q then one else zero_bit).value s else (if b == q then one else zero_bit).value s) == 1) ≡ ((if t then a else b) == q)
    choose true = at (a == q)
    choose false = at (b == q)

-- who isn't removed was there
if_kept_is : (sq : Option ℕ) (o : Option Thread) (u : Thread) → if_kept sq o ≡ Some u → (o ≡ Some u) × (is_kept sq u.number ≡ true)
if_kept_is sq None u e = absurd (cc e)
if_kept_is sq (Some t) u e = at (is_kept sq t.number) refl e
  where
    at : (b : Bool) → is_kept sq t.number ≡ b → (if b then Some t else None) ≡ Some u → (Some t ≡ Some u) × (is_kept sq u.number ≡ true)
    at true f g = let same : t ≡ u = cc g in (g, subst (λ (x : Thread). is_kept sq x.number ≡ true) same f)
    at false f g = absurd (cc g)

module _ (p : Pipe) (sound : Sound p) (together : UpdatesTogether p) (leads : LeadsOn p) (apart : IsAdvisedApart p) (ls : Locks) (c : Circuit) (vs : ℕ → View) (gates : Gates)
    (moves : ℕ → Signal) (made : IsLaid p ls vs gates moves c) (sides : Sides) (v : ℕ)
    (is : verify_stage p.stmts ≡ Some v) (has : HasTails p ls c vs gates moves sides v)
    (s : State) (st : machine.State) (bits : List Bool) (suits : Suits c s) (flight : InFlight p st)
    (by : IsByStages p st bits) (used : IsServed p st bits) (cut : IsCut p st bits)
    (seen : (j : ℕ) → j < length p.stages → IsSeen p vs moves s st bits j)
    (stood : (k : ℕ) (t : Thread) → here p st bits k ≡ Some t → Stood st k t)
    (stands : StandTails p ls vs sides v s st) where
  module _ (m : ℕ) (locked : is_locked p m ≡ true) (stand : StandsLock p ls vs s st m) where
    -- the pending writes with those that this cycle appends
    abbrev pending : List Pending
    pending = with_reserves m (moving p st bits) (machine.lock_of st m)

    abbrev released : ℕ
    released = all_releases m (moving p st bits)

    -- a thread's second ticket is where its squash cuts what the cycle has appended
    tail_now : (k : ℕ) (t : Thread) → slot st k ≡ Some t → k ≤ v
        → holds_ticket (ls.bits m) (sides.tails k m) s (stand.base + count_older (suc t.number) pending)
    tail_now k t e high = ⊎_elim
        (λ (low : reserve_stage p m < k). stands k m t e locked low high stand ∙ ap (λ n. (stand.base + n) % 2 ^ ls.bits m) (sym (cut.kept k t m e low)))
        (λ (low : k ≤ reserve_stage p m).
        has.first k m locked high low s suits (lock_state_of stand.base (machine.lock_of st m) stand.words) stand.stands
        ∙ ap (λ n. n % 2 ^ ls.bits m) (
        let asked = ap length (reserves_are p ls vs moves s st bits by used seen stood m (length p.stages) 0 (omega arith)) in
        let long = length-map (machine.lock_of st m) forget in
        let count = pending_count p ls vs moves s st bits by used seen stood m in
        let all = cut.all k t m e low in
        omega (arith, asked, long, count, all)))
        (cases_lt (reserve_stage p m) k)

    -- and at the releases it shifts
    shifts : (k : ℕ) (t : Thread) → slot st k ≡ Some t → k ≤ v
        → stand.base + released + count_older (suc t.number) (list_three st (moving p st bits) m) ≡ stand.base + count_older (suc t.number) pending
    shifts k t e high = let h = cut.shifts k t m v e is high in omega (arith, h)

    -- the tail of the thread that squashes, in V or before it, is where its squash cuts the lock
    pub tail_is : Tells s (squashing p st bits) (λ z. true) sides.squash (squash_stages p.stmts) → (n : ℕ) → squasher (moving p st bits) ≡ Some n
        → holds_ticket (ls.bits m) (gates.tail m) s (stand.base + released + count_older (suc n) (list_three st (moving p st bits) m))
    tail_is told n e =
        let u = squasher_in p sound together st bits flight n e in
        let w = squash_early p u.0 u.1 in
        let same : w.0 ≡ v = some_is (sym w.1 ∙ is) in
        let low : u.0 ≤ v = (let h = w.2 in omega (arith, h, same)) in
        has.tail m locked s suits
        ∙ of_squasher_at s (squashing p st bits) sides.squash (λ z. sides.tails z m) (sides.tails v m) u.0 u.2 u.3 (squash_stages p.stmts) u.1 told
        ∙ tail_now u.0 u.4 u.5 low
        ∙ ap (λ x. x % 2 ^ ls.bits m) (sym (shifts u.0 u.4 u.5 low))
        ∙ ap (λ i. (stand.base + released + count_older (suc i) (list_three st (moving p st bits) m)) % 2 ^ ls.bits m) u.6
      where
        some_is : {a b : ℕ} → Some a ≡ Some b → a ≡ b
        some_is i = cc i

    -- ---- WHO COMES

    abbrev tailed : ℕ → View
    tailed = with_tickets vs sides.tails

    -- what a thread that comes into a stage brings
    pub record Brings (o : Comer) (u : Thread) : Type 0 where
      pub value : holds_ticket (ls.bits m) (o.tickets m) s (stand.base + count_older (suc u.number) pending)
      pub shift : stand.base + released + count_older (suc u.number) (list_three st (moving p st bits) m) ≡ stand.base + count_older (suc u.number) pending

    abbrev AreAlike : Option Comer → Option Thread → Type 0
    AreAlike None None = ⊤
    AreAlike (Some o) (Some u) = Brings o u
    AreAlike _ _ = ⊥

    alike_then : (o : Comer) (b : Bool) (cs : List Comer) (x y : Option Thread)
        → AreAlike (if b then Some o else None) x → AreAlike (first_come s cs) y
        → AreAlike (if b then Some o else first_come s cs) (or_then x y)
    alike_then o true cs (Some u) y h g = h
    alike_then o true cs None y h g = absurd h
    alike_then o false cs None y h g = g
    alike_then o false cs (Some u) y h g = absurd h

    one_alike : (q j : ℕ) → j < q → q ≤ v → j < length p.stages
        → AreAlike (if is_on (out_of p tailed moves q j).comes s then Some (out_of p tailed moves q j) else None) (passing_thread p st bits q j)
    one_alike q j low high l = ⊎_elim
        (λ (f : stage_moves p st bits j ≡ false).
        let off : is_on o.comes s ≡ false = both_is s (moves j) (branch (stage_at p j).next q (vs j).ended) false ((seen j l).leaves ∙ ap bit f) in
        let P : Option Thread → Type 0 = λ x. AreAlike (if is_on o.comes s then Some o else None) x in
        let Q : Bool → Type 0 = λ b. AreAlike (if b then Some o else None) None in
        subst P (ap (λ b. thread_into p st q j b (here p st bits j)) (sym f)) (subst Q (sym off) tt))
        (λ (f : (t : Thread) × (here p st bits j ≡ Some t) × (stage_moves p st bits j ≡ true)).
        let d = deeds p st j f.0 in
        let so = ((seen j l).follows f.0 f.1).so (ready_of p st bits j f.0 by l f.1 f.2) in
        let on : is_on o.comes s ≡ is_stage q (next_stage p j d) =
        both_is s (moves j) (branch (stage_at p j).next q (vs j).ended) true ((seen j l).leaves ∙ ap bit f.2)
        ∙ branch_is s (vs j).ended (stage_at p j).next q d.env (fork_value p apart j s (vs j).ended d l so) in
        let P : Option Thread → Type 0 = λ x. AreAlike (if is_on o.comes s then Some o else None) x in
        let Q : Bool → Type 0 =
        λ b. AreAlike (if b then Some o else None) (if is_stage q (next_stage p j d) then Some (thread_after (act_at p st j f.0)) else None) in
        subst P (sym (ap₂ (thread_into p st q j) f.2 f.1)) (subst Q (sym on) (at f.0 f.1 (is_stage q (next_stage p j d)))))
        (moves_or_not p st bits j)
      where
        o : Comer
        o = out_of p tailed moves q j

        at : (t : Thread) → here p st bits j ≡ Some t → (b : Bool)
            → AreAlike (if b then Some (out_of p tailed moves q j) else None) (if b then Some (thread_after (act_at p st j t)) else None)
        at t h false = tt
        at t h true =
            let u = stood_in p st bits j t h in
            let same = ap (λ (x : Thread). x.number) u.2 in
            record {
              value =
                  subst
                  (λ n. holds_ticket (ls.bits m) (sides.tails j m) s (stand.base + count_older (suc n) pending)) same
                  (tail_now j u.0 u.1 (omega (arith, low, high)));
              shift =
                  subst
                  (λ n. stand.base + released + count_older (suc n) (list_three st (moving p st bits) m) ≡ stand.base + count_older (suc n) pending) same
                  (shifts j u.0 u.1 (omega (arith, low, high)));
            }

    ways_alike : (q n j : ℕ) → j + n ≡ q → q ≤ v → q < length p.stages
        → AreAlike (first_come s (map (out_of p tailed moves q) (ways_from p q n j))) (first_of p st bits q (ways_from p q n j))
    ways_alike q zero j e high l = tt
    ways_alike q (suc n) j e high l = at (leads_to (stage_at p j).next q) (ways_alike q n (suc j) (omega (arith, e)) high l)
      where
        rest : List ℕ
        rest = ways_from p q n (suc j)

        at : (b : Bool) → AreAlike (first_come s (map (out_of p tailed moves q) rest)) (first_of p st bits q rest)
            → AreAlike (first_come s (map (out_of p tailed moves q) (if b then j ∷ rest else rest))) (first_of p st bits q (if b then j ∷ rest else rest))
        at true h =
            alike_then (out_of p tailed moves q j) (is_on (out_of p tailed moves q j).comes s)
            (map (out_of p tailed moves q) rest) (passing_thread p st bits q j) (first_of p st bits q rest)
            (one_alike q j (omega (arith, e)) high (omega (arith, e, l))) h
        at false h = h

    -- into a stage past the first one
    comers_alike : (q : ℕ) → 0 < q → q ≤ v → q < length p.stages → AreAlike (first_come s (comers p tailed moves q)) (arriving_thread p st bits q)
    comers_alike q above high l =
        let P : Bool → Type 0 =
        λ b. AreAlike (first_come s ((if b then new_from tailed moves (length p.stages) 0 else []) ++ map (out_of p tailed moves q) (ways p q)))
        (arriving_thread p st bits q) in
        subst P (sym (ne_eqb q 0 (λ e. absurd (omega (arith, e, above))))) (ways_alike q q 0 (omega arith) high l)

    -- what the second ticket of who stands there then takes
    came_with : (q : ℕ) (u : Thread) → 0 < q → q ≤ v → slot (cycle p st bits) q ≡ Some u
        → (brought s (λ (o : Comer). o.tickets m) (sides.tails q m) (first_come s (comers p tailed moves q))
        ≡ (stand.base + count_older (suc u.number) pending) % 2 ^ ls.bits m)
        × (stand.base + released + count_older (suc u.number) (list_three st (moving p st bits) m) ≡ stand.base + count_older (suc u.number) pending)
        × (is_kept (squasher (moving p st bits)) u.number ≡ true)
    came_with q u above high e =
        (let r = at (first_come s (comers p tailed moves q)) (arriving_thread p st bits q) (comers_alike q above high l) left.0 in (r.0, r.1, left.1))
      where
        l : q < length p.stages
        l = stage_low p st bits by q u e

        left : (or_then (arriving_thread p st bits q) (staying_thread p st bits q) ≡ Some u) × (is_kept (squasher (moving p st bits)) u.number ≡ true)
        left = if_kept_is (squasher (moving p st bits)) (or_then (arriving_thread p st bits q) (staying_thread p st bits q)) u
            (ap
            (λ b. or_then (if b then born_thread p st.next (child_of (moving p st bits)) else None)
            (if_kept (squasher (moving p st bits)) (or_then (arriving_thread p st bits q) (staying_thread p st bits q))))
            (sym (ne_eqb q 0 (λ i. absurd (omega (arith, i, above)))))
            ∙ sym (by.next q l) ∙ e)

        Goal : Option Comer → Type 0
        Goal o =
            (brought s (λ (o : Comer). o.tickets m) (sides.tails q m) o ≡ (stand.base + count_older (suc u.number) pending) % 2 ^ ls.bits m)
            × (stand.base + released + count_older (suc u.number) (list_three st (moving p st bits) m) ≡ stand.base + count_older (suc u.number) pending)

        stayed : (b : Bool) → (if b then None else here p st bits q) ≡ Some u → here p st bits q ≡ Some u
        stayed true i = absurd (cc i)
        stayed false i = i

        at : (o : Option Comer) (a : Option Thread) → AreAlike o a → or_then a (staying_thread p st bits q) ≡ Some u → Goal o
        at None (Some t) h i = absurd h
        at (Some o) None h i = absurd h
        at (Some o) (Some t) h i = let same : t ≡ u = cc i in let r = subst (Brings o) same h in (r.value, r.shift)
        at None None h i =
            let w = stood_in p st bits q u (stayed (stage_moves p st bits q) i) in
            let same = ap (λ (x : Thread). x.number) w.2 in (
              subst (λ n. holds_ticket (ls.bits m) (sides.tails q m) s (stand.base + count_older (suc n) pending)) same (tail_now q w.0 w.1 high),
              subst
                  (λ n. stand.base + released + count_older (suc n) (list_three st (moving p st bits) m) ≡ stand.base + count_older (suc n) pending) same
                  (shifts q w.0 w.1 high),
            )

    -- ---- THE NEXT STATE

    module _ (squashed : IsSquashed p ls vs gates s st bits) (t : State) (regs : t.regs ≡ next_regs c s)
        (arrays : t.arrays ≡ next_arrays c s) (stand' : StandsLock p ls vs t (cycle p st bits) m) where
      left_list : machine.lock_of (cycle p st bits) m ≡ entries_left (squasher (moving p st bits)) (list_three st (moving p st bits) m)
      left_list = by.locks m (lock_there p m locked)

      -- the oldest pending write's number shifts with the releases
      base_next : (stand.base + released + length (map forget (machine.lock_of (cycle p st bits) m))) % 2 ^ ls.bits m
          ≡ (stand'.base + length (map forget (machine.lock_of (cycle p st bits) m))) % 2 ^ ls.bits m
      base_next =
          let x = made.locks m locked in
          let words = words_next p ls vs moves s st bits by used seen stood m locked stand gates squashed in
          let on : ls.stands m t (lock_state_of (stand.base + released) (machine.lock_of (cycle p st bits) m) words) =
          subst (λ es. ls.stands m t (lock_state_of (stand.base + released) es words)) (sym left_list)
          (stands_next p ls vs moves s st bits by used seen stood m locked stand gates squashed x.kind
          (λ k l. (made.stages k l).tickets_wide m locked) (made.owns m) c (made.commits m).first x.step t
          (is_next (made.owns m) c c s t (record { has_reg = x.regs; nexts = λ k lo hi. refl; has_array = x.arrays; writes = λ i lo hi. refl }) regs arrays)) in
          sym (x.ticket.holds t (lock_state_of (stand.base + released) (machine.lock_of (cycle p st bits) m) words) on)
          ∙ x.ticket.holds t (lock_state_of stand'.base (machine.lock_of (cycle p st bits) m) stand'.words) stand'.stands

      tail_next : (q : ℕ) (u : Thread) → slot (cycle p st bits) q ≡ Some u → reserve_stage p m < q → q ≤ v
          → holds_ticket (ls.bits m) (sides.tails q m) t (stand'.base + count_older (suc u.number) (machine.lock_of (cycle p st bits) m))
      tail_next q u e low high =
          let came = came_with q u (omega (arith, low)) high e in
          let next = machine.lock_of (cycle p st bits) m in
          let count : count_older (suc u.number) next ≡ count_older (suc u.number) (list_three st (moving p st bits) m) =
          ap (count_older (suc u.number)) left_list ∙ cut.left m u.number came.2 in
          let shift = came.1 in
          let same : stand.base + count_older (suc u.number) pending ≡ stand.base + released + count_older (suc u.number) next = omega (arith, shift, count) in
          has.carried q m locked high low s t suits regs
          ∙ picked_is s (λ (o : Comer). o.tickets m) (comers p tailed moves q) (sides.tails q m)
          ∙ came.0
          ∙ ap (λ x. x % 2 ^ ls.bits m) same
          ∙ same_offset (ls.bits m) (stand.base + released) stand'.base (length (map forget next)) (count_older (suc u.number) next) base_next

  -- the second tickets go on to stand, where each lock that stands then stood before
  pub tails_kept : ((m : ℕ) → is_locked p m ≡ true → StandsLock p ls vs s st m) → IsSquashed p ls vs gates s st bits
      → (t : State) → t.regs ≡ next_regs c s → t.arrays ≡ next_arrays c s
      → StandTails p ls vs sides v t (cycle p st bits)
  tails_kept locks squashed t regs arrays q m u e locked low high stand' = tail_next m locked (locks m locked) squashed t regs arrays stand' q u e low high
