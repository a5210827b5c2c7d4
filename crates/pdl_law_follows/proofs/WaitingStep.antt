-- A delayed memory's port after a cycle: its step agrees with the machine's next state, and its use is proper.
use Rattle.std.proofs.Common.{◌≡◌, refl, sym, ap, ap₂, ◌∙◌, subst, ℕ, zero, suc, ◌+◌, ◌≤◌, ◌<◌, ⊎_elim, Bool, true, false, ◌&&◌, ◌||◌, not, List, [], ◌∷◌, ◌++◌, length, Option, Some, None, is_some, arith, ◌==◌, eq-eqb}
use Rattle.std.specs.Prelude.{if◌then◌else◌}
use Rattle.std.proofs.lemmas.Bool.{eqb-true, eqb-false, and_parts, false≢true, cases_lt}
use Rattle.std.proofs.lemmas.List.{get_or_past}
use Rattle.pdl_semantics.specs.Flat.{Pipe, list_all}
use Rattle.pdl_semantics.specs.Stages.{stage_at, goes_to}
use Rattle.pdl_semantics.specs.Machine as machine
use Rattle.pdl_semantics.specs.Machine.{Ask, Thread, NoRequest, Owned, Orphan, State, request_of, is_answered, with_answers, deeds}
use Rattle.pdl_semantics.specs.Moves.{Act, next_stage, is_free, is_empty, ports_free, no_failure}
use Rattle.pdl_semantics.specs.Cycle.{cycle, squasher, is_kept, is_outstanding, asked_of, asked_by, request_next, request_left}
use Rattle.pdl_theory_simulation.proofs.PerMemory.{at_mem}
use Rattle.pdl_machine_facts.specs.Slots.{LeadsOn, slot, with_now, here, later_acts, locks_ready, may_pass, stage_moves, mover, movers_from, moving}
use Rattle.pdl_machine_facts.specs.Cycle.{IsByStages}
use Rattle.pdl_machine_facts.proofs.Stagewise.{next_is}
use Rattle.pdl_port.specs.Port as port
use Rattle.pdl_port.specs.Port.{PortState, PortAct, Idle, asker, asked_request, left_request, step, Proper}
use Rattle.pdl_machine_inflight.specs.Readings.{Reading, reading, places, place_at, place_to, Reads}
use Rattle.pdl_machine_inflight.specs.InFlight.{Awaits, InFlight}
use Rattle.pdl_machine_inflight.proofs.ReadingFacts.{goes_to_place}
use Rattle.pdl_machine_inflight.proofs.DeedsIn.{AsksIn, asks_in}
use Rattle.pdl_machine_inflight.proofs.Squashes.{stood_in}
use Rattle.pdl_machine_inflight.proofs.Comings.{CameFrom, born, moved, stayed, came_from}
use Rattle.pdl_law_follows.proofs.WaitingPorts.{StandsAt, SameRequest, SamePort, reply_bit, asks_of, asked_at, port_act, owner_here, free_is}
use Rattle.pdl_word.specs.Each.{Each}

-- WHO ASKS

asker_none : (asked : ℕ → Bool) (n : ℕ) → ((i : ℕ) → i < n → asked i ≡ false) → asker asked n ≡ None
asker_none asked zero h = refl
asker_none asked (suc n) h =
    ap₂ (λ (o : Option ℕ) b. if is_some o then o else (if b then Some n else None)) (asker_none asked n (λ i l. h i (omega (arith, l)))) (h n (omega arith))

asker_one : (asked : ℕ → Bool) (n i : ℕ) → i < n → asked i ≡ true → ((j : ℕ) → j < n → asked j ≡ true → j ≡ i) → asker asked n ≡ Some i
asker_one asked zero i l e h = absurd (omega (arith, l))
asker_one asked (suc n) i l e h = at (n == i) refl (λ low. asker_one asked n i low e (λ j k. h j (omega (arith, k))))
  where
    none_before : n ≡ i → asker asked n ≡ None
    none_before same = asker_none asked n (λ j k. no j k (asked j) refl)
      where
        no : (j : ℕ) → j < n → (b : Bool) → asked j ≡ b → asked j ≡ false
        no j k false f = f
        no j k true f = absurd (let z = h j (omega (arith, k)) f in omega (arith, z, k, same))

    at : (b : Bool) → (n == i) ≡ b → (i < n → asker asked n ≡ Some i)
        → (if is_some (asker asked n) then asker asked n else (if asked n then Some n else None)) ≡ Some i
    at true f rest =
        let same = eqb-true n i f in
        ap₂ (λ (o : Option ℕ) b. if is_some o then o else (if b then Some n else None)) (none_before same) (ap asked same ∙ e) ∙ ap (λ j. Some j) same
    at false f rest =
        let apart = eqb-false n i f in
        ap (λ (o : Option ℕ). if is_some o then o else (if asked n then Some n else None)) (rest (omega (arith, l, apart)))

-- a request is made where a thread asks
asked_some : (m n : ℕ) (qs : List Ask) (old : machine.Request) → asks_of m qs ≡ true → (a : ℕ) × (asked_of m n qs old ≡ Owned n a)
asked_some m n [] old e = absurd (cc e)
asked_some m n (q ∷ qs) old e = at (q.mem == m) e (asked_some m n qs old)
  where
    at : (b : Bool) → (b || asks_of m qs) ≡ true → (asks_of m qs ≡ true → (a : ℕ) × (asked_of m n qs old ≡ Owned n a))
        → (a : ℕ) × ((if b then Owned n q.address else asked_of m n qs old) ≡ Owned n a)
    at true f rest = (q.address, refl)
    at false f rest = rest f

asked_none : (m n : ℕ) (qs : List Ask) (old : machine.Request) → asks_of m qs ≡ false → asked_of m n qs old ≡ old
asked_none m n [] old e = refl
asked_none m n (q ∷ qs) old e = at (q.mem == m) e (asked_none m n qs old)
  where
    at : (b : Bool) → (b || asks_of m qs) ≡ false → (asks_of m qs ≡ false → asked_of m n qs old ≡ old)
        → (if b then Owned n q.address else asked_of m n qs old) ≡ old
    at true f rest = absurd (cc f)
    at false f rest = rest f

-- a request among these has its port free
free_of_ask : (m : ℕ) (test : Ask → Bool) (qs : List Ask)
    → list_all test qs ≡ true → asks_of m qs ≡ true → (q : Ask) × (q.mem ≡ m) × (test q ≡ true)
free_of_ask m test [] h e = absurd (cc e)
free_of_ask m test (q ∷ qs) h e = at (q.mem == m) refl e (free_of_ask m test qs (and_parts (test q) (list_all test qs) h).1)
  where
    at : (b : Bool) → (q.mem == m) ≡ b → (b || asks_of m qs) ≡ true
        → (asks_of m qs ≡ true → (q : Ask) × (q.mem ≡ m) × (test q ≡ true)) → (y : Ask) × (y.mem ≡ m) × (test y ≡ true)
    at true f g rest = (q, eqb-true q.mem m f, (and_parts (test q) (list_all test qs) h).0)
    at false f g rest = rest g

-- a stage that holds a thread is one of the pipe's
here_low : (p : Pipe) (st : State) (bits : List Bool)
    → length st.stages ≡ length p.stages → (k : ℕ) (t : Thread) → here p st bits k ≡ Some t → k < length p.stages
here_low p st bits count k t e = ⊎_elim
    (λ (l : k < length p.stages). l)
    (λ (l : length p.stages ≤ k). absurd (none_some (sym (ap (with_now p st bits) (get_or_past st.stages k None (omega (arith, l, count)))) ∙ e)))
    (cases_lt k (length p.stages))
  where
    none_some : None ≡ Some t → ⊥
    none_some i = cc i

-- the request of the thread of the reading stage, else this
abbrev asked_one : Pipe → State → ℕ → Reading → Bool → Option Thread → machine.Request → machine.Request
asked_one p st m r false o old = old
asked_one p st m r true None old = old
asked_one p st m r true (Some t) old = asked_of m t.number (deeds p st r.stage t).asks old

module _ (p : Pipe) (reads : Reads p) (leads : LeadsOn p) (some : 0 < length p.stages) (st : State) (bits : List Bool)
    (flight : InFlight p st) (by : IsByStages p st bits) (m : ℕ) (r : Reading) (is : reading p m ≡ Some r)
    (r_low : r.stage < length p.stages) (x : PortState) (same : SamePort p st m r x) where
  -- only the reading stage asks
  no_asks : (k : ℕ) (t : Thread) → (k ≡ r.stage → ⊥) → asks_of m (deeds p st k t).asks ≡ false
  no_asks k t n = each (deeds p st k t).asks (asks_in p reads st k t)
    where
      each : (qs : List Ask) → Each (AsksIn p k) qs → asks_of m qs ≡ false
      each [] h = refl
      each (q ∷ qs) h = at (q.mem == m) refl (each qs h.1)
        where
          some_is : {a b : Reading} → Some a ≡ Some b → a ≡ b
          some_is z = cc z

          at : (b : Bool) → (q.mem == m) ≡ b → asks_of m qs ≡ false → (b || asks_of m qs) ≡ false
          at false e f = f
          at true e f = absurd (n (ap (λ (y : Reading). y.stage) (some_is (sym h.0 ∙ ap (reading p) (eqb-true q.mem m e) ∙ is))))

  asked_past : (k : ℕ) (b : Bool) (o : Option Thread) (rest : List Act) (old : machine.Request) → (k ≡ r.stage → ⊥)
      → asked_by m (mover p st k b o ++ rest) old ≡ asked_by m rest old
  asked_past k false o rest old n = refl
  asked_past k true None rest old n = refl
  asked_past k true (Some t) rest old n = asked_none m t.number (deeds p st k t).asks (asked_by m rest old) (no_asks k t n)

  asked_nothing : (n k : ℕ) (old : machine.Request) → ((j : ℕ) → k ≤ j → j < k + n → j ≡ r.stage → ⊥) → asked_by m (movers_from p st bits n k) old ≡ old
  asked_nothing zero k old h = refl
  asked_nothing (suc n) k old h =
      asked_past k (stage_moves p st bits k) (here p st bits k) (movers_from p st bits n (suc k)) old (h k (omega arith) (omega arith))
      ∙ asked_nothing n (suc k) old (λ j l i. h j (omega (arith, l)) (omega (arith, i)))

  asked_here : (b : Bool) (o : Option Thread) (rest : List Act) (old : machine.Request) → asked_by m rest old ≡ old
      → asked_by m (mover p st r.stage b o ++ rest) old ≡ asked_one p st m r b o old
  asked_here false o rest old h = h
  asked_here true None rest old h = h
  asked_here true (Some t) rest old h = ap (asked_of m t.number (deeds p st r.stage t).asks) h

  asked_from : (n k : ℕ) (old : machine.Request) → k ≤ r.stage → r.stage < k + n
      → asked_by m (movers_from p st bits n k) old ≡ asked_one p st m r (stage_moves p st bits r.stage) (here p st bits r.stage) old
  asked_from zero k old l h = absurd (omega (arith, l, h))
  asked_from (suc n) k old l h = at (k == r.stage) refl (λ i. asked_from n (suc k) old i (omega (arith, h)))
    where
      at : (b : Bool) → (k == r.stage) ≡ b
          → (suc k ≤ r.stage
          → asked_by m (movers_from p st bits n (suc k)) old ≡ asked_one p st m r (stage_moves p st bits r.stage) (here p st bits r.stage) old)
          → asked_by m (movers_from p st bits (suc n) k) old ≡ asked_one p st m r (stage_moves p st bits r.stage) (here p st bits r.stage) old
      at false e rest = let d = eqb-false k r.stage e in
          asked_past k (stage_moves p st bits k) (here p st bits k) (movers_from p st bits n (suc k)) old d ∙ rest (omega (arith, l, d))
      at true e rest =
          let k_is = eqb-true k r.stage e in
          ap (λ j. asked_by m (mover p st j (stage_moves p st bits j) (here p st bits j) ++ movers_from p st bits n (suc j)) old) k_is
          ∙ asked_here (stage_moves p st bits r.stage) (here p st bits r.stage)
          (movers_from p st bits n (suc r.stage)) old (asked_nothing n (suc r.stage) old (λ j i z y. omega (arith, i, y)))

  -- the request of the next state
  pub request_is : request_of (cycle p st bits) m
      ≡ request_left (squasher (moving p st bits))
      (asked_one p st m r (stage_moves p st bits r.stage) (here p st bits r.stage) (if is_answered p bits m then NoRequest else request_of st m))
  request_is =
      ap (λ (s : State). request_of s m) (next_is p leads some st bits flight.count)
      ∙ at_mem (λ i. request_left (squasher (moving p st bits)) (request_next p st bits (moving p st bits) i)) 0 p.mems m NoRequest (reads.known m r is).0
      ∙ ap (λ i. request_left (squasher (moving p st bits)) (request_next p st bits (moving p st bits) i)) (let z : 0 + m ≡ m = omega arith in z)
      ∙ ap (request_left (squasher (moving p st bits)))
      (asked_from (length p.stages) 0 (if is_answered p bits m then NoRequest else request_of st m) (omega arith) (omega (arith, r_low)))

  -- PROPER USE

  abbrev act : (ℕ → Bool) → PortAct
  act removed = port_act p st bits m r removed

  free_where : (k : ℕ) → (b : Bool) → stage_moves p st bits r.stage ≡ b → (o : Option Thread)
      → here p st bits r.stage ≡ o → asked_at p st m r b o k ≡ true
      → is_free (request_of st m) (is_answered p bits m) (later_acts p st bits r.stage) ≡ true
  free_where k false e o f h = absurd (cc h)
  free_where k true e None f h = absurd (cc h)
  free_where k true e (Some t) f h =
      let d = deeds p st r.stage t in
      let g = sym (by.goes_where r.stage t r_low f) ∙ e in
      let y = and_parts (is_empty t.awaits && locks_ready p st t.number d) _ g in
      let z = and_parts (may_pass p st bits (later_acts p st bits r.stage) r.stage d) _ y.1 in
      let w = and_parts (no_failure (later_acts p st bits r.stage)) _ z.0 in
      let v = and_parts (ports_free p st bits (later_acts p st bits r.stage) d) _ w.1 in
      let q =
      free_of_ask m
      (λ (q : Ask). is_free (request_of st q.mem) (is_answered p bits q.mem) (later_acts p st bits r.stage)) d.asks v.0
      (and_parts (asks_of m d.asks) _ h).0 in
      ap (λ i. is_free (request_of st i) (is_answered p bits i) (later_acts p st bits r.stage)) (sym q.1) ∙ q.2

  one_place : (b : Bool) (o : Option Thread) (j k : ℕ) → asked_at p st m r b o j ≡ true → asked_at p st m r b o k ≡ true → j ≡ k
  one_place false o j k e f = absurd (cc e)
  one_place true None j k e f = absurd (cc e)
  one_place true (Some t) j k e f =
      let to = place_to (stage_at p r.stage).next (deeds p st r.stage t).env in
      sym (eqb-true to j (and_parts (asks_of m (deeds p st r.stage t).asks) _ e).1) ∙ eqb-true to k (and_parts (asks_of m (deeds p st r.stage t).asks) _ f).1

  -- what a cycle does to the port is proper use, whichever places lose their threads
  pub proper_port : (removed : ℕ → Bool) → Proper (length (places p r)) x (port_act p st bits m r removed)
  proper_port removed = record {
    one = λ j k l h e f. one_place (stage_moves p st bits r.stage) (here p st bits r.stage) j k e f;
    free =
        λ k l e. sym (free_is p reads leads st bits flight by m r is r_low x same)
        ∙ free_where k (stage_moves p st bits r.stage) refl (here p st bits r.stage) refl e;
  }

  -- AFTER THE CYCLE

  module _ (flight' : InFlight p (cycle p st bits))
      (spared : (k : ℕ) (t : Thread) → here p st bits k ≡ Some t → stage_moves p st bits k ≡ true → is_kept (squasher (moving p st bits)) t.number ≡ true)
      (removed : ℕ → Bool)
      (removes : (i : ℕ) (u : Thread) → i < length (places p r) → slot st (place_at p r i) ≡ Some u
      → removed i ≡ not (is_kept (squasher (moving p st bits)) u.number)) where
    abbrev after : State
    after = cycle p st bits

    abbrev sq : Option ℕ
    sq = squasher (moving p st bits)

    low_here : (k : ℕ) (t : Thread) → here p st bits k ≡ Some t → k < length p.stages
    low_here k t e = here_low p st bits flight.count k t e

    -- one that moves awaits nothing
    moved_none : (k : ℕ) (t : Thread) → here p st bits k ≡ Some t → stage_moves p st bits k ≡ true → is_empty t.awaits ≡ true
    moved_none k t e f =
        let g = sym (by.goes_where k t (low_here k t e) e) ∙ f in
        (and_parts (is_empty t.awaits) _ (and_parts (is_empty t.awaits && locks_ready p st t.number (deeds p st k t)) _ g).0).0

    -- who owns the request of the next state stands in a place
    made_stands : (t : Thread) (a : ℕ) → here p st bits r.stage ≡ Some t → stage_moves p st bits r.stage ≡ true
        → request_of (cycle p st bits) m ≡ Owned t.number a
        → StandsAt p (cycle p st bits) r t.number (place_to (stage_at p r.stage).next (deeds p st r.stage t).env)
    made_stands t a e f g = at (came_from p st bits by o.0 o.1 o.2)
      where
        o : (k : ℕ) × (u : Thread) × (slot (cycle p st bits) k ≡ Some u) × (u.number ≡ t.number) × Awaits u m
        o = flight'.owner m t.number a g

        s : (u : Thread) × (slot st r.stage ≡ Some u) × (with_answers p st bits u ≡ t)
        s = stood_in p st bits r.stage t e

        mine : (j : ℕ) (v : Thread) → here p st bits j ≡ Some v → v.number ≡ t.number → j ≡ r.stage
        mine j v h i =
            let w = stood_in p st bits j v h in
            flight.same j r.stage w.0 s.0 w.1 s.1 (ap (λ (y : Thread). y.number) w.2 ∙ i ∙ sym (ap (λ (y : Thread). y.number) s.2))

        thread_same : {a b : Thread} → Some a ≡ Some b → a ≡ b
        thread_same z = cc z

        at : CameFrom p st bits o.0 o.1 → StandsAt p (cycle p st bits) r t.number (place_to (stage_at p r.stage).next (deeds p st r.stage t).env)
        at (born i) = absurd (let l = flight.given r.stage s.0 s.1 in let y = ap (λ (y : Thread). y.number) s.2 in let z = o.3 in omega (arith, i, l, y, z))
        at (stayed h i) = absurd (false≢true (sym i ∙ ap (stage_moves p st bits) (mine o.0 o.1 h o.3) ∙ f))
        at (moved j v h i to u_is) =
            let j_is = mine j v h (sym (ap (λ (y : Thread). y.number) u_is) ∙ o.3) in
            let v_is : v ≡ t = thread_same (sym h ∙ ap (here p st bits) j_is ∙ e) in
            let goes : goes_to (stage_at p r.stage).next (deeds p st r.stage t).env ≡ Some o.0 =
            sym (ap₂ (λ k y. next_stage p k (deeds p st k y)) j_is v_is) ∙ to in
            let place = goes_to_place (stage_at p r.stage).next o.0 (deeds p st r.stage t).env goes in
            record { low = place.0; thread = o.1; slot = ap (slot (cycle p st bits)) place.1 ∙ o.2; number = o.3 }

    -- an owner that is not answered stays in its place
    owner_stays : (n a i : ℕ) → request_of st m ≡ Owned n a → StandsAt p st r n i → x ≡ port.Owned i
        → is_answered p bits m ≡ false → request_of (cycle p st bits) m ≡ Owned n a → StandsAt p (cycle p st bits) r n i
    owner_stays n a i e h f late g = at (came_from p st bits by o.0 o.1 o.2)
      where
        o : (k : ℕ) × (u : Thread) × (slot (cycle p st bits) k ≡ Some u) × (u.number ≡ n) × Awaits u m
        o = flight'.owner m n a g

        waits : Awaits h.thread m
        waits = (owner_here p reads leads st bits flight by m r is r_low x same (place_at p r i) i h.thread refl h.slot f).0

        mine : (j : ℕ) (v : Thread) → here p st bits j ≡ Some v → v.number ≡ n → j ≡ place_at p r i
        mine j v k l =
            let w = stood_in p st bits j v k in
            flight.same j (place_at p r i) w.0 h.thread w.1 h.slot (ap (λ (y : Thread). y.number) w.2 ∙ l ∙ sym h.number)

        at : CameFrom p st bits o.0 o.1 → StandsAt p (cycle p st bits) r n i
        at (born j) = absurd (let l = flight.given (place_at p r i) h.thread h.slot in let y = h.number in let z = o.3 in omega (arith, j, l, y, z))
        at (stayed k j) = record { low = h.low; thread = o.1; slot = ap (slot (cycle p st bits)) (sym (mine o.0 o.1 k o.3)) ∙ o.2; number = o.3 }
        at (moved j v k l to u_is) =
            let j_is = mine j v k (sym (ap (λ (y : Thread). y.number) u_is) ∙ o.3) in
            let v_here : here p st bits (place_at p r i) ≡ Some (with_answers p st bits h.thread) = ap (with_now p st bits) h.slot in
            let empty = moved_none (place_at p r i) (with_answers p st bits h.thread) v_here (ap (stage_moves p st bits) (sym j_is) ∙ l) in
            absurd
            (false≢true
            (sym late
            ∙ Rattle.pdl_machine_inflight.proofs.Answers.all_in p st bits
            (place_at p r i) h.thread.number h.thread.awaits
            (flight.awaited (place_at p r i) h.thread h.slot) empty m waits))

    -- the request, where nobody asks
    left_same : (q : machine.Request) → request_of st m ≡ q → (g : PortState) → x ≡ g → SameRequest p st r q g
        → ((b : Bool) → is_answered p bits m ≡ b → request_of (cycle p st bits) m ≡ request_left sq (if b then NoRequest else q))
        → SameRequest p (cycle p st bits) r (request_of (cycle p st bits) m) (left_request (port_act p st bits m r removed) g)
    left_same q e g f h next = at (is_answered p bits m) refl q e g f h (next (is_answered p bits m) refl)
      where
        reply_is : (b : Bool) → is_answered p bits m ≡ b → (q : machine.Request) → request_of st m ≡ q → reply_bit p st bits m ≡ (is_outstanding q && b)
        reply_is b i q j = ap₂ (λ y c. is_outstanding y && c) j i

        Same : machine.Request → PortState → Type 0
        Same a b = SameRequest p (cycle p st bits) r a b

        at : (b : Bool) → is_answered p bits m ≡ b → (q : machine.Request) → request_of st m ≡ q → (g : PortState)
            → x ≡ g → SameRequest p st r q g
            → request_of (cycle p st bits) m ≡ request_left sq (if b then NoRequest else q)
            → SameRequest p (cycle p st bits) r (request_of (cycle p st bits) m) (left_request (port_act p st bits m r removed) g)
        at true i NoRequest j Idle k h n = subst (λ a. SameRequest p (cycle p st bits) r a Idle) (sym n) tt
        at false i NoRequest j Idle k h n = subst (λ a. SameRequest p (cycle p st bits) r a Idle) (sym n) tt
        at b i NoRequest j (port.Owned y) k h n = absurd h
        at b i NoRequest j port.Orphan k h n = absurd h
        at b i (Orphan a) j Idle k h n = absurd h
        at b i (Orphan a) j (port.Owned y) k h n = absurd h
        at true i (Orphan a) j port.Orphan k h n =
            subst (λ c. SameRequest p (cycle p st bits) r (request_of (cycle p st bits) m) (if c then Idle else port.Orphan))
            (sym (reply_is true i (Orphan a) j)) (subst (λ y. SameRequest p (cycle p st bits) r y Idle) (sym n) tt)
        at false i (Orphan a) j port.Orphan k h n =
            subst (λ c. SameRequest p (cycle p st bits) r (request_of (cycle p st bits) m) (if c then Idle else port.Orphan))
            (sym (reply_is false i (Orphan a) j))
            (subst (λ y. SameRequest p (cycle p st bits) r y port.Orphan) (sym n) tt)
        at b i (Owned o a) j Idle k h n = absurd h
        at b i (Owned o a) j port.Orphan k h n = absurd h
        at true i (Owned o a) j (port.Owned y) k h n =
            subst
            (λ c. SameRequest p (cycle p st bits) r (request_of (cycle p st bits) m)
            (if c then Idle else (if removed y then port.Orphan else port.Owned y)))
            (sym (reply_is true i (Owned o a) j)) (subst (λ z. SameRequest p (cycle p st bits) r z Idle) (sym n) tt)
        at false i (Owned o a) j (port.Owned y) k h n =
            subst
            (λ c. SameRequest p (cycle p st bits) r (request_of (cycle p st bits) m)
            (if c then Idle else (if removed y then port.Orphan else port.Owned y)))
            (sym (reply_is false i (Owned o a) j))
            (kept (is_kept sq o) refl (removes y h.thread h.low h.slot ∙ ap (λ z. not (is_kept sq z)) h.number))
          where
            kept : (c : Bool) → is_kept sq o ≡ c → removed y ≡ not (is_kept sq o)
                → SameRequest p (cycle p st bits) r (request_of (cycle p st bits) m) (if removed y then port.Orphan else port.Owned y)
            kept true d rem =
                let req : request_of (cycle p st bits) m ≡ Owned o a = n ∙ ap (λ c. if c then Owned o a else Orphan a) d in
                subst (λ c. SameRequest p (cycle p st bits) r (request_of (cycle p st bits) m) (if c then port.Orphan else port.Owned y)) (sym (rem ∙ ap not d))
                (subst (λ z. SameRequest p (cycle p st bits) r z (port.Owned y)) (sym req) (owner_stays o a y j h k i req))
            kept false d rem =
                let req : request_of (cycle p st bits) m ≡ Orphan a = n ∙ ap (λ c. if c then Owned o a else Orphan a) d in
                subst (λ c. SameRequest p (cycle p st bits) r (request_of (cycle p st bits) m) (if c then port.Orphan else port.Owned y)) (sym (rem ∙ ap not d))
                (subst (λ z. SameRequest p (cycle p st bits) r z port.Orphan) (sym req) tt)

    quiet_same : ((i : ℕ) → i < length (places p r) → (port_act p st bits m r removed).asked i ≡ false)
        → asked_one p st m r (stage_moves p st bits r.stage) (here p st bits r.stage) (if is_answered p bits m then NoRequest else request_of st m)
        ≡ (if is_answered p bits m then NoRequest else request_of st m)
        → SameRequest p (cycle p st bits) r (request_of (cycle p st bits) m) (step (length (places p r)) x (port_act p st bits m r removed))
    quiet_same none e =
        subst
        (λ (o : Option ℕ). SameRequest p (cycle p st bits) r (request_of (cycle p st bits) m)
        (asked_request o (left_request (port_act p st bits m r removed) x)))
        (sym (asker_none (port_act p st bits m r removed).asked (length (places p r)) none))
        (left_same (request_of st m) refl x refl same (λ b i. request_is ∙ ap (request_left sq) (e ∙ ap (λ c. if c then NoRequest else request_of st m) i)))

    -- after the cycle the port's step agrees with the request of the machine's next state
    pub same_next : SameRequest p (cycle p st bits) r (request_of (cycle p st bits) m) (step (length (places p r)) x (port_act p st bits m r removed))
    same_next = at (stage_moves p st bits r.stage) (here p st bits r.stage) refl refl
      where
        old : machine.Request
        old = if is_answered p bits m then NoRequest else request_of st m

        Goal : Type 0
        Goal = SameRequest p (cycle p st bits) r (request_of (cycle p st bits) m) (step (length (places p r)) x (port_act p st bits m r removed))

        at : (b : Bool) (o : Option Thread) → stage_moves p st bits r.stage ≡ b → here p st bits r.stage ≡ o
            → SameRequest p (cycle p st bits) r (request_of (cycle p st bits) m) (step (length (places p r)) x (port_act p st bits m r removed))
        at false o e f =
            quiet_same (λ i l. ap (λ b. asked_at p st m r b (here p st bits r.stage) i) e)
            (ap (λ b. asked_one p st m r b (here p st bits r.stage) (if is_answered p bits m then NoRequest else request_of st m)) e)
        at true None e f =
            quiet_same (λ i l. ap₂ (λ b o. asked_at p st m r b o i) e f)
            (ap₂ (λ b o. asked_one p st m r b o (if is_answered p bits m then NoRequest else request_of st m)) e f)
        at true (Some t) e f = asks (asks_of m (deeds p st r.stage t).asks) refl
          where
            to : ℕ
            to = place_to (stage_at p r.stage).next (deeds p st r.stage t).env

            asks : (c : Bool) → asks_of m (deeds p st r.stage t).asks ≡ c
                → SameRequest p (cycle p st bits) r (request_of (cycle p st bits) m) (step (length (places p r)) x (port_act p st bits m r removed))
            asks false g =
                quiet_same
                (λ i l. ap₂ (λ b o. asked_at p st m r b o i) e f ∙ ap (λ c. c && (place_to (stage_at p r.stage).next (deeds p st r.stage t).env == i)) g)
                (ap₂ (λ b o. asked_one p st m r b o (if is_answered p bits m then NoRequest else request_of st m)) e f
                ∙ asked_none m t.number (deeds p st r.stage t).asks (if is_answered p bits m then NoRequest else request_of st m) g)
            asks true g =
                let a = asked_some m t.number (deeds p st r.stage t).asks (if is_answered p bits m then NoRequest else request_of st m) g in
                let req : request_of (cycle p st bits) m ≡ Owned t.number a.0 =
                request_is
                ∙ ap (request_left sq) (ap₂ (λ b o. asked_one p st m r b o (if is_answered p bits m then NoRequest else request_of st m)) e f ∙ a.1)
                ∙ ap (λ c. if c then Owned t.number a.0 else Orphan a.0) (spared r.stage t f e) in
                let stands = made_stands t a.0 f e req in
                let mine : (i : ℕ)
                → asked_at p st m r (stage_moves p st bits r.stage) (here p st bits r.stage) i
                ≡ (place_to (stage_at p r.stage).next (deeds p st r.stage t).env == i) =
                λ i. ap₂ (λ b o. asked_at p st m r b o i) e f ∙ ap (λ c. c && (place_to (stage_at p r.stage).next (deeds p st r.stage t).env == i)) g in
                subst
                (λ (o : Option ℕ). SameRequest p (cycle p st bits) r (request_of (cycle p st bits) m)
                (asked_request o (left_request (port_act p st bits m r removed) x)))
                (sym
                (asker_one (port_act p st bits m r removed).asked (length (places p r))
                (place_to (stage_at p r.stage).next (deeds p st r.stage t).env) stands.low
                (mine (place_to (stage_at p r.stage).next (deeds p st r.stage t).env)
                ∙ eq-eqb (place_to (stage_at p r.stage).next (deeds p st r.stage t).env)
                (place_to (stage_at p r.stage).next (deeds p st r.stage t).env) refl)
                (λ j l h. sym (eqb-true (place_to (stage_at p r.stage).next (deeds p st r.stage t).env) j (sym (mine j) ∙ h)))))
                (subst (λ q. SameRequest p (cycle p st bits) r q (port.Owned (place_to (stage_at p r.stage).next (deeds p st r.stage t).env))) (sym req) stands)
