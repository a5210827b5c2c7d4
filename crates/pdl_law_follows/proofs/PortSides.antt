-- What the ports of delayed memories tell a stage, by their signals: whether its thread awaits an answer, its variables with the answers, and whether the ports of its requests are free.
use Rattle.std.proofs.Common.{◌≡◌, refl, sym, ap, ap₂, ◌∙◌, subst, ℕ, zero, suc, ◌+◌, ◌≤◌, ◌<◌, ◌⊎◌, inl, inr, ⊎_elim, Bool, true, false, ◌&&◌, List, [], ◌∷◌, length, Option, Some, None, arith, ◌==◌}
use Rattle.std.specs.Prelude.{if◌then◌else◌, slice_index}
use Rattle.std.proofs.lemmas.Bool.{eqb-true, eqb-false, false≢true, cases_lt}
use Rattle.pdl_word.specs.Words.{bit}
use Rattle.pdl_semantics.specs.Flat.{Pipe, list_all}
use Rattle.pdl_semantics.specs.Machine as machine
use Rattle.pdl_semantics.specs.Machine.{Ask, Awaited, Thread, State as MachineState, request_of, is_answered, with_answers, with_kept, deeds}
use Rattle.pdl_semantics.specs.Moves.{is_free, is_empty, ports_free}
use Rattle.pdl_net.specs.Circuit.{Circuit, State}
use Rattle.pdl_net.specs.Signal.{Signal, mux_signal}
use Rattle.pdl_machine_facts.specs.Slots.{LeadsOn, slot, later_acts, stage_moves}
use Rattle.pdl_machine_facts.specs.Cycle.{IsByStages}
use Rattle.pdl_port.specs.Port as port
use Rattle.pdl_port.specs.Port.{PortState, is_given}
use Rattle.pdl_port.specs.Laws.{Replies, AnswerSignals}
use Rattle.pdl_law_parts.specs.Walk as walk
use Rattle.pdl_law_parts.specs.Walk.{one, both, if_on, is_on}
use Rattle.pdl_law_parts.specs.Views.{View, Gates}
use Rattle.pdl_law_parts.specs.Stands.{asked_in, IsSeen}
use Rattle.pdl_law_parts.proofs.Signals.{mux_at, mux_by, both_at, one_is}
use Rattle.pdl_machine_inflight.specs.Readings.{Reading, reading, places, place_at, Reads}
use Rattle.pdl_machine_inflight.specs.InFlight.{Some-of, Awaits, IsAwaited, InFlight}
use Rattle.pdl_machine_inflight.proofs.DeedsIn.{AsksIn, asks_in}
use Rattle.pdl_machine_inflight.proofs.Answers.{word_asked, some_open, not_bound}
use Rattle.pdl_law_sides.specs.Sides.{Sides, answers_of, place_answer, memory_answer, some_answer, with_answer, place_answered, memory_answered, all_answered, ports_open}
use Rattle.pdl_law_sides.specs.HasSides.{HasPort}
use Rattle.pdl_law_follows.proofs.WaitingPorts.{SamePort, reply_bit, answered_yes, answered_no, given_right, given_comes, free_is, place_up}
use Rattle.pdl_word.specs.Each.{Each}
use Rattle.pdl_semantics.proofs.Facts.{kept_append}

-- in a state of the circuit each port stands for one that agrees with the machine
pub record PortStands (p : Pipe) (sides : Sides) (s : State) (st : MachineState) (m : ℕ) (r : Reading) : Type 0 where
  pub state : PortState
  pub stands : (sides.port m).stands s state
  pub same : SamePort p st m r state

-- each port gets the machine's reply
abbrev pub IsGiven : Pipe → Sides → State → MachineState → List Bool → Type 0
IsGiven p sides s st bits =
    (m : ℕ) (r : Reading) → reading p m ≡ Some r → Replies (sides.port m).reply (sides.port m).word s (reply_bit p st bits m) (word_asked st m)

-- a read that binds a variable in this cycle, or none
bound_or_not : (p : Pipe) (bits : List Bool) (x : ℕ) (rs : List Awaited)
    → Some-of (λ (q : Awaited). (q.var ≡ x) × (is_answered p bits q.mem ≡ true)) rs ⊎ Each (λ (q : Awaited). q.var ≡ x → is_answered p bits q.mem ≡ false) rs
bound_or_not p bits x [] = inr tt
bound_or_not p bits x (q ∷ rs) = at (q.var == x) refl (is_answered p bits q.mem) refl (bound_or_not p bits x rs)
  where
    at : (b : Bool) → (q.var == x) ≡ b → (c : Bool) → is_answered p bits q.mem ≡ c
        → Some-of (λ (y : Awaited). (y.var ≡ x) × (is_answered p bits y.mem ≡ true)) rs
        ⊎ Each (λ (y : Awaited). y.var ≡ x → is_answered p bits y.mem ≡ false) rs
        → Some-of (λ (y : Awaited). (y.var ≡ x) × (is_answered p bits y.mem ≡ true)) (q ∷ rs)
        ⊎ Each (λ (y : Awaited). y.var ≡ x → is_answered p bits y.mem ≡ false) (q ∷ rs)
    at b e c f (inl h) = inl (inr h)
    at true e true f (inr h) = inl (inl (eqb-true q.var x e, f))
    at true e false f (inr h) = inr ((λ i. f), h)
    at false e c f (inr h) = inr ((λ i. absurd (eqb-false q.var x e i)), h)

module _ (p : Pipe) (reads : Reads p) (leads : LeadsOn p)
    (inside : (m : ℕ) (r : Reading) → reading p m ≡ Some r → r.stage < length p.stages) (c : Circuit) (vs : ℕ → View)
    (gates : Gates) (moves : ℕ → Signal) (sides : Sides) (owns : ℕ → Rattle.pdl_net.specs.Growth.Own)
    (ports : (m : ℕ) (r : Reading) → reading p m ≡ Some r → HasPort p c vs gates moves sides (owns m) m r)
    (s : State) (st : MachineState) (bits : List Bool) (flight : InFlight p st) (by : IsByStages p st bits)
    (stand : (m : ℕ) (r : Reading) → reading p m ≡ Some r → PortStands p sides s st m r)
    (given : IsGiven p sides s st bits) where
  module _ (k : ℕ) (u : Thread) (f : slot st k ≡ Some u) where
    abbrev now : Thread
    now = with_answers p st bits u

    -- WHETHER IT AWAITS AN ANSWER

    -- a bit that is 1 where nothing is awaited and 0 where this is
    pub record Told (g : Signal) (Late : Type 0) : Type 0 where
      pub told : Bool
      pub value : g.value s ≡ bit told
      pub yes : is_empty (with_answers p st bits u).awaits ≡ true → told ≡ true
      pub late : Late → told ≡ false

    module _ (m : ℕ) (r : Reading) (is : reading p m ≡ Some r) where
      abbrev x : PortState
      x = (stand m r is).state

      abbrev fs : ℕ → AnswerSignals
      fs = (sides.port m).answers

      abbrev LateFrom : ℕ → Type 0
      LateFrom i =
          (j : ℕ) × (i ≤ j) × (j < length (places p r)) × (place_at p r j ≡ k) × (port.is_answered (stand m r is).state (reply_bit p st bits m) j ≡ false)

      places_told : (qs : List ℕ) (i : ℕ) → i + length qs ≡ length (places p r)
          → ((j : ℕ) → j < length qs → slice_index qs j ≡ place_at p r (i + j))
          → Told (place_answered (sides.port m).answers k qs i) (LateFrom i)
      places_told [] i e h =
          record { told = true; value = one_is s; yes = λ z. refl; late = λ z. absurd (let l = z.1 in let g = z.2 in omega (arith, l, g, e)) }
      places_told (q ∷ qs) i e h =
          at (q == k) refl
          (places_told qs (suc i) (omega (arith, e))
          (λ j l. h (suc j) (omega (arith, l)) ∙ ap (place_at p r) (let z : i + suc j ≡ suc i + j = omega arith in z)))
        where
          mine : Bool
          mine = port.is_answered (stand m r is).state (reply_bit p st bits m) i

          here_is : q ≡ place_at p r i
          here_is = h 0 (omega arith) ∙ ap (place_at p r) (let z : i + 0 ≡ i = omega arith in z)

          value : ((sides.port m).answers i).answered.value s ≡ bit (port.is_answered (stand m r is).state (reply_bit p st bits m) i)
          value =
              (ports m r is).answers.answered s (stand m r is).state (reply_bit p st bits m) (word_asked st m)
              (stand m r is).stands (given m r is) i (omega (arith, e))

          none : (b d : Bool) → d ≡ false → (b && d) ≡ false
          none true d g = g
          none false d g = refl

          split : (j : ℕ) → i ≤ j → (j ≡ i) ⊎ (suc i ≤ j)
          split j l = ⊎_elim (λ (g : i < j). inr g) (λ (g : j ≤ i). inl (omega (arith, l, g))) (cases_lt i j)

          at : (b : Bool) → (q == k) ≡ b → Told (place_answered (sides.port m).answers k qs (suc i)) (LateFrom (suc i))
              → Told
              (if b
              then both ((sides.port m).answers i).answered (place_answered (sides.port m).answers k qs (suc i))
              else place_answered (sides.port m).answers k qs (suc i))
              (LateFrom i)
          at true g rest = record {
            told = port.is_answered (stand m r is).state (reply_bit p st bits m) i && rest.told;
            value =
                both_at s ((sides.port m).answers i).answered (place_answered (sides.port m).answers k qs (suc i))
                (port.is_answered (stand m r is).state (reply_bit p st bits m) i) rest.told value (λ z. rest.value);
            yes =
                λ z. ap₂ (λ a b. a && b)
                (answered_yes p reads leads st bits flight by m r is (inside m r is)
                (stand m r is).state (stand m r is).same i k u (sym here_is ∙ eqb-true q k g) f z)
                (rest.yes z);
            late = λ z. first_or z (split z.0 z.1);
          }
            where
              first_or : (z : LateFrom i) → (z.0 ≡ i) ⊎ (suc i ≤ z.0) → (port.is_answered (stand m r is).state (reply_bit p st bits m) i && rest.told) ≡ false
              first_or z (inl w) = ap (λ b. b && rest.told) (ap (port.is_answered (stand m r is).state (reply_bit p st bits m)) (sym w) ∙ z.4)
              first_or z (inr w) = none (port.is_answered (stand m r is).state (reply_bit p st bits m) i) rest.told (rest.late (z.0, w, z.2, z.3, z.4))
          at false g rest = record {
            told = rest.told;
            value = rest.value;
            yes = rest.yes;
            late = λ z. first_or z (split z.0 z.1);
          }
            where
              first_or : (z : LateFrom i) → (z.0 ≡ i) ⊎ (suc i ≤ z.0) → rest.told ≡ false
              first_or z (inl w) = absurd (eqb-false q k g (here_is ∙ ap (place_at p r) (sym w) ∙ z.3))
              first_or z (inr w) = rest.late (z.0, w, z.2, z.3, z.4)

    -- a read of this memory is awaited beyond the cycle
    abbrev Open : ℕ → Type 0
    Open m = Awaits u m × (is_answered p bits m ≡ false)

    -- who awaits a memory reads it
    read_of : (m : ℕ) → Awaits u m → (r : Reading) × (reading p m ≡ Some r)
    read_of m w =
        let a = Rattle.pdl_law_follows.proofs.WaitingPorts.each_some (IsAwaited p st k u.number) (λ (q : Awaited). q.mem ≡ m) u.awaits (flight.awaited k u f) w in
        (a.1.read, ap (reading p) (sym a.2) ∙ a.1.is)

    memory_told : (m : ℕ) (o : Option Reading) → reading p m ≡ o → Told (memory_answered p (answers_of sides) k m o) (Open m)
    memory_told m None e = record { told = true; value = one_is s; yes = λ z. refl; late = λ z. absurd (let y = read_of m z.0 in cc (sym e ∙ y.1)) }
    memory_told m (Some r) e =
        let t = places_told m r e (places p r) 0 (omega arith) (λ j l. ap (place_at p r) (let z : j ≡ 0 + j = omega arith in z)) in
        record {
          told = t.told;
          value = t.value;
          yes = t.yes;
          late =
              λ z.
              (let o = answered_no p reads leads st bits flight by m r e (inside m r e) (stand m r e).state (stand m r e).same k u f z.0 z.1 in
              t.late (o.0, omega arith, o.1, o.2, o.3));
        }

    all_told : (n m : ℕ) → Told (all_answered p (answers_of sides) k n m) ((i : ℕ) × (m ≤ i) × (i < m + n) × Open i)
    all_told zero m = record { told = true; value = one_is s; yes = λ z. refl; late = λ z. absurd (let l = z.1 in let g = z.2 in omega (arith, l, g)) }
    all_told (suc n) m = at (memory_told m (reading p m) refl) (all_told n (suc m))
      where
        none : (b d : Bool) → d ≡ false → (b && d) ≡ false
        none true d g = g
        none false d g = refl

        at : Told (memory_answered p (answers_of sides) k m (reading p m)) (Open m)
            → Told (all_answered p (answers_of sides) k n (suc m)) ((i : ℕ) × (suc m ≤ i) × (i < suc m + n) × Open i)
            → Told (all_answered p (answers_of sides) k (suc n) m) ((i : ℕ) × (m ≤ i) × (i < m + suc n) × Open i)
        at a b = record {
          told = a.told && b.told;
          value =
              both_at s (memory_answered p (answers_of sides) k m (reading p m))
              (all_answered p (answers_of sides) k n (suc m)) a.told b.told a.value (λ z. b.value);
          yes = λ z. ap₂ (λ c d. c && d) (a.yes z) (b.yes z);
          late = λ z. by_place z (⊎_elim (λ (g : m < z.0). inr g) (λ (g : z.0 ≤ m). inl (let l = z.1 in omega (arith, l, g))) (cases_lt m z.0));
        }
          where
            by_place : (z : (i : ℕ) × (m ≤ i) × (i < m + suc n) × Open i) → (z.0 ≡ m) ⊎ (m < z.0) → (a.told && b.told) ≡ false
            by_place z (inl g) = ap (λ c. c && b.told) (a.late (subst (λ i. Awaits u i × (is_answered p bits i ≡ false)) g z.3))
            by_place z (inr g) = none a.told b.told (b.late (z.0, g, (let h = z.2 in omega (arith, h)), z.3))

    -- the answers of all ports together tell whether the thread of stage k awaits nothing more after this cycle's answers
    pub awaits_told : (all_answered p (answers_of sides) k (length p.mems) 0).value s ≡ bit (is_empty (with_answers p st bits u).awaits)
    awaits_told = (all_told (length p.mems) 0).value ∙ ap bit (at (is_empty (with_answers p st bits u).awaits) refl)
      where
        at : (b : Bool) → is_empty (with_answers p st bits u).awaits ≡ b → (all_told (length p.mems) 0).told ≡ is_empty (with_answers p st bits u).awaits
        at true e = (all_told (length p.mems) 0).yes e ∙ sym e
        at false e = found (some_open p st bits k u.number u.awaits (flight.awaited k u f) e) ∙ sym e
          where
            awaited : (rs : List Awaited)
                → Some-of (λ (q : Awaited). IsAwaited p st k u.number q × (is_answered p bits q.mem ≡ false)) rs
                → (q : Awaited) × Some-of (λ (y : Awaited). y.mem ≡ q.mem) rs × IsAwaited p st k u.number q × (is_answered p bits q.mem ≡ false)
            awaited [] i = absurd i
            awaited (q ∷ rs) (inl i) = (q, inl refl, i.0, i.1)
            awaited (q ∷ rs) (inr i) = let z = awaited rs i in (z.0, inr z.1, z.2, z.3)

            found : Some-of (λ (q : Awaited). IsAwaited p st k u.number q × (is_answered p bits q.mem ≡ false)) u.awaits
                → (all_told (length p.mems) 0).told ≡ false
            found i =
                let z = awaited u.awaits i in
                (all_told (length p.mems) 0).late (z.0.mem, omega arith, (let l = (reads.known z.0.mem z.2.read z.2.is).0 in omega (arith, l)), (z.1, z.3))

    -- ITS VARIABLES

    module _ (long : length u.env ≡ p.vars) (v : ℕ) where
      abbrev goal : ℕ
      goal = slice_index (with_kept (with_answers p st bits u).kept u.env) v

      -- an answer for the variable comes through the port of m
      pub record Comes (m : ℕ) : Type 0 where
        pub read : Reading
        pub is : reading p m ≡ Some read
        pub var : read.var ≡ v
        pub place : ℕ
        pub low : place < length (places p read)
        pub at_stage : place_at p read place ≡ k
        pub gives : is_given (stand m read is).state (reply_bit p st bits m) place ≡ true

      places_answer : (m : ℕ) (r : Reading) (is : reading p m ≡ Some r) → r.var ≡ v
          → (rest : Signal) (qs : List ℕ) (i : ℕ) → i + length qs ≡ length (places p r)
          → ((j : ℕ) → j < length qs → slice_index qs j ≡ place_at p r (i + j))
          → (rest.value s ≡ slice_index (with_kept (with_answers p st bits u).kept u.env) v)
          ⊎ ((j : ℕ) × (i ≤ j) × (j < length (places p r)) × (place_at p r j ≡ k) × (is_given (stand m r is).state (reply_bit p st bits m) j ≡ true))
          → (place_answer (sides.port m).answers k qs i rest).value s ≡ slice_index (with_kept (with_answers p st bits u).kept u.env) v
      places_answer m r is var rest [] i e h (inl g) = g
      places_answer m r is var rest [] i e h (inr g) = absurd (let l = g.1 in let z = g.2 in omega (arith, l, z, e))
      places_answer m r is var rest (q ∷ qs) i e h g =
          at (q == k) refl
          (λ z. places_answer m r is var rest qs (suc i) (omega (arith, e))
          (λ j l. h (suc j) (omega (arith, l)) ∙ ap (place_at p r) (let y : i + suc j ≡ suc i + j = omega arith in y)) z)
        where
          x : PortState
          x = (stand m r is).state

          here_is : q ≡ place_at p r i
          here_is = h 0 (omega arith) ∙ ap (place_at p r) (let z : i + 0 ≡ i = omega arith in z)

          low : i < length (places p r)
          low = omega (arith, e)

          Later : Type 0
          Later = (j : ℕ) × (suc i ≤ j) × (j < length (places p r)) × (place_at p r j ≡ k) × (is_given (stand m r is).state (reply_bit p st bits m) j ≡ true)

          tail : Signal
          tail = place_answer (sides.port m).answers k qs (suc i) rest

          at : (b : Bool) → (q == k) ≡ b
              → ((rest.value s ≡ slice_index (with_kept (with_answers p st bits u).kept u.env) v)
              ⊎ ((j : ℕ) × (suc i ≤ j) × (j < length (places p r)) × (place_at p r j ≡ k)
              × (is_given (stand m r is).state (reply_bit p st bits m) j ≡ true))
              → (place_answer (sides.port m).answers k qs (suc i) rest).value s ≡ slice_index (with_kept (with_answers p st bits u).kept u.env) v)
              → (if b
              then mux_signal ((sides.port m).answers i).given ((sides.port m).answers i).value (place_answer (sides.port m).answers k qs (suc i) rest)
              else place_answer (sides.port m).answers k qs (suc i) rest).value s
              ≡ slice_index (with_kept (with_answers p st bits u).kept u.env) v
          at false d go = go (pass g)
            where
              pass : (rest.value s ≡ slice_index (with_kept (with_answers p st bits u).kept u.env) v)
                  ⊎ ((j : ℕ) × (i ≤ j) × (j < length (places p r)) × (place_at p r j ≡ k) × (is_given (stand m r is).state (reply_bit p st bits m) j ≡ true))
                  → (rest.value s ≡ slice_index (with_kept (with_answers p st bits u).kept u.env) v)
                  ⊎ ((j : ℕ) × (suc i ≤ j) × (j < length (places p r)) × (place_at p r j ≡ k)
                  × (is_given (stand m r is).state (reply_bit p st bits m) j ≡ true))
              pass (inl y) = inl y
              pass (inr y) = ⊎_elim
                  (λ (z : i < y.0). inr (y.0, z, y.2, y.3, y.4))
                  (λ (z : y.0 ≤ i). absurd (eqb-false q k d (here_is ∙ ap (place_at p r) (let l = y.1 in let n : i ≡ y.0 = omega (arith, z, l) in n) ∙ y.3)))
                  (cases_lt i y.0)
          at true d go = by_answer (is_given (stand m r is).state (reply_bit p st bits m) i) refl
            where
              stands : (sides.port m).stands s (stand m r is).state
              stands = (stand m r is).stands

              mux_is :
                  (mux_signal ((sides.port m).answers i).given ((sides.port m).answers i).value (place_answer (sides.port m).answers k qs (suc i) rest)).value s
                  ≡ (if is_given (stand m r is).state (reply_bit p st bits m) i
                  then ((sides.port m).answers i).value.value s
                  else (place_answer (sides.port m).answers k qs (suc i) rest).value s)
              mux_is =
                  mux_at s ((sides.port m).answers i).given ((sides.port m).answers i).value (place_answer (sides.port m).answers k qs (suc i) rest)
                  (is_given (stand m r is).state (reply_bit p st bits m) i)
                  ((ports m r is).answers.given s (stand m r is).state (reply_bit p st bits m) (word_asked st m) stands (given m r is) i low)

              by_answer : (b : Bool) → is_given (stand m r is).state (reply_bit p st bits m) i ≡ b
                  → (mux_signal ((sides.port m).answers i).given ((sides.port m).answers i).value
                  (place_answer (sides.port m).answers k qs (suc i) rest)).value s
                  ≡ slice_index (with_kept (with_answers p st bits u).kept u.env) v
              by_answer true y =
                  mux_is ∙ ap (λ b. if b then ((sides.port m).answers i).value.value s else (place_answer (sides.port m).answers k qs (suc i) rest).value s) y
                  ∙ (ports m r is).answers.value s (stand m r is).state (reply_bit p st bits m) (word_asked st m) stands (given m r is) i low y
                  ∙ sym
                  (given_right p reads leads st bits flight by m r is (inside m r is)
                  (stand m r is).state (stand m r is).same k u f long i (sym here_is ∙ eqb-true q k d) y)
                  ∙ ap (slice_index (with_kept (with_answers p st bits u).kept u.env)) var
              by_answer false y =
                  mux_is
                  ∙ ap (λ b. if b then ((sides.port m).answers i).value.value s else (place_answer (sides.port m).answers k qs (suc i) rest).value s) y
                  ∙ go (pass g)
                where
                  pass : (rest.value s ≡ slice_index (with_kept (with_answers p st bits u).kept u.env) v)
                      ⊎ ((j : ℕ) × (i ≤ j) × (j < length (places p r)) × (place_at p r j ≡ k)
                      × (is_given (stand m r is).state (reply_bit p st bits m) j ≡ true))
                      → (rest.value s ≡ slice_index (with_kept (with_answers p st bits u).kept u.env) v)
                      ⊎ ((j : ℕ) × (suc i ≤ j) × (j < length (places p r)) × (place_at p r j ≡ k)
                      × (is_given (stand m r is).state (reply_bit p st bits m) j ≡ true))
                  pass (inl z) = inl z
                  pass (inr z) = ⊎_elim
                      (λ (n : i < z.0). inr (z.0, n, z.2, z.3, z.4))
                      (λ (n : z.0 ≤ i). absurd
                      (let l = z.1 in let same : z.0 ≡ i = omega (arith, n, l) in
                      false≢true (sym y ∙ ap (is_given (stand m r is).state (reply_bit p st bits m)) (sym same) ∙ z.4)))
                      (cases_lt i z.0)

      memory_right : (m : ℕ) (o : Option Reading) → reading p m ≡ o → (rest : Signal)
          → (rest.value s ≡ slice_index (with_kept (with_answers p st bits u).kept u.env) v) ⊎ Comes m
          → (memory_answer p (answers_of sides) k v m o rest).value s ≡ slice_index (with_kept (with_answers p st bits u).kept u.env) v
      memory_right m None e rest (inl g) = g
      memory_right m None e rest (inr g) = absurd (cc (sym e ∙ g.is))
      memory_right m (Some r) e rest g = at (r.var == v) refl g
        where
          some_is : {a b : Reading} → Some a ≡ Some b → a ≡ b
          some_is z = cc z

          at : (b : Bool) → (r.var == v) ≡ b
              → (rest.value s ≡ slice_index (with_kept (with_answers p st bits u).kept u.env) v) ⊎ Comes m
              → (if b then place_answer (sides.port m).answers k (places p r) 0 rest else rest).value s
              ≡ slice_index (with_kept (with_answers p st bits u).kept u.env) v
          at false d (inl h) = h
          at false d (inr h) = absurd (eqb-false r.var v d (ap (λ (y : Reading). y.var) (some_is (sym e ∙ h.is)) ∙ h.var))
          at true d (inl h) =
              places_answer m r e (eqb-true r.var v d) rest (places p r) 0 (omega arith)
              (λ j l. ap (place_at p r) (let z : j ≡ 0 + j = omega arith in z)) (inl h)
          at true d (inr h) =
              subst
              (λ (y : Reading). (place_answer (sides.port m).answers k (places p y) 0 rest).value s
              ≡ slice_index (with_kept (with_answers p st bits u).kept u.env) v)
              (some_is (sym h.is ∙ e))
              (places_answer m h.read h.is h.var rest (places p h.read) 0 (omega arith)
              (λ j l. ap (place_at p h.read) (let z : j ≡ 0 + j = omega arith in z))
              (inr (h.place, omega arith, h.low, h.at_stage, h.gives)))

      chain_right : (n m : ℕ) (rest : Signal)
          → (rest.value s ≡ slice_index (with_kept (with_answers p st bits u).kept u.env) v) ⊎ ((i : ℕ) × (m ≤ i) × (i < m + n) × Comes i)
          → (some_answer p (answers_of sides) k v n m rest).value s ≡ slice_index (with_kept (with_answers p st bits u).kept u.env) v
      chain_right zero m rest (inl g) = g
      chain_right zero m rest (inr g) = absurd (let l = g.1 in let h = g.2 in omega (arith, l, h))
      chain_right (suc n) m rest (inl g) =
          memory_right m (reading p m) refl (some_answer p (answers_of sides) k v n (suc m) rest) (inl (chain_right n (suc m) rest (inl g)))
      chain_right (suc n) m rest (inr g) = ⊎_elim
          (λ (z : m < g.0). memory_right m (reading p m) refl (some_answer p (answers_of sides) k v n (suc m) rest)
          (inl (chain_right n (suc m) rest (inr (g.0, z, (let h = g.2 in omega (arith, h)), g.3)))))
          (λ (z : g.0 ≤ m). memory_right m (reading p m) refl (some_answer p (answers_of sides) k v n (suc m) rest)
          (inr (subst (λ i. Comes i) (let l = g.1 in let same : g.0 ≡ m = omega (arith, z, l) in same) g.3)))
          (cases_lt m g.0)

      -- a variable with the answers of this cycle
      pub variable_told : (kept : Signal) → kept.value s ≡ slice_index (with_kept u.kept u.env) v
          → (with_answer p (answers_of sides) k v kept).value s ≡ slice_index (with_kept (with_answers p st bits u).kept u.env) v
      variable_told kept e = chain_right (length p.mems) 0 kept (at (bound_or_not p bits v u.awaits))
        where
          each : Each (IsAwaited p st k u.number) u.awaits
          each = flight.awaited k u f

          found : (rs : List Awaited) → Each (IsAwaited p st k u.number) rs
              → Some-of (λ (q : Awaited). (q.var ≡ v) × (is_answered p bits q.mem ≡ true)) rs
              → (q : Awaited) × Some-of (λ (y : Awaited). y.mem ≡ q.mem) rs × IsAwaited p st k u.number q × (q.var ≡ v) × (is_answered p bits q.mem ≡ true)
          found [] h i = absurd i
          found (q ∷ rs) h (inl i) = (q, inl refl, h.0, i.0, i.1)
          found (q ∷ rs) h (inr i) = let z = found rs h.1 i in (z.0, inr z.1, z.2, z.3, z.4)

          at : Some-of (λ (q : Awaited). (q.var ≡ v) × (is_answered p bits q.mem ≡ true)) u.awaits
              ⊎ Each (λ (q : Awaited). q.var ≡ v → is_answered p bits q.mem ≡ false) u.awaits
              → (kept.value s ≡ slice_index (with_kept (with_answers p st bits u).kept u.env) v) ⊎ ((i : ℕ) × (0 ≤ i) × (i < 0 + length p.mems) × Comes i)
          at (inr h) =
              inl
              (e ∙ sym (not_bound p st bits k u.number v u.awaits (with_kept u.kept u.env) each h)
              ∙ sym (ap (λ l. slice_index l v) (kept_append u.kept (machine.answered_reads p st bits u.number u.awaits) u.env)))
          at (inl h) =
              let z = found u.awaits each h in
              let m = z.0.mem in
              let r = z.2.read in
              let o =
              given_comes p reads leads st bits flight by m r z.2.is (inside m r z.2.is) (stand m r z.2.is).state (stand m r z.2.is).same k u f z.1 z.4 in
              inr (
                m,
                omega arith,
                (let l = (reads.known m r z.2.is).0 in omega (arith, l)),
                record { read = r; is = z.2.is; var = z.2.var ∙ z.3; place = o.0; low = o.1; at_stage = o.2; gives = o.3 },
              )

  -- ITS REQUESTS

  -- the port of a memory that stage k reads is free as the machine says, where the later stages are as they seem
  free_told : (m : ℕ) (r : Reading) (is : reading p m ≡ Some r)
      → ((j : ℕ) → r.stage < j → j < length p.stages → IsSeen p vs moves s st bits j)
      → (sides.port m).free.value s ≡ bit (is_free (request_of st m) (is_answered p bits m) (later_acts p st bits r.stage))
  free_told m r is later =
      let y = stand m r is in
      (ports m r is).free.holds s y.state (reply_bit p st bits m)
      (λ i. stage_moves p st bits (place_at p r i)) y.stands (given m r is).reply
      (λ i l. (let z = place_up p reads leads st bits flight by m r is (inside m r is) y.state y.same i l in later (place_at p r i) z.0 z.1).leaves)
      ∙ ap bit (sym (free_is p reads leads st bits flight by m r is (inside m r is) y.state y.same))

  requests_told : (k : ℕ) → ((j : ℕ) → k < j → j < length p.stages → IsSeen p vs moves s st bits j) → (qs : List walk.Ask) → Each (AsksIn p k) (asked_in s qs)
      → (ports_open sides qs).value s
      ≡ bit (list_all (λ (q : Ask). is_free (request_of st q.mem) (is_answered p bits q.mem) (later_acts p st bits k)) (asked_in s qs))
  requests_told k later [] h = one_is s
  requests_told k later (q ∷ qs) h = at (is_on q.on s) refl h (requests_told k later qs)
    where
      Test : Ask → Bool
      Test y = is_free (request_of st y.mem) (is_answered p bits y.mem) (later_acts p st bits k)

      if_is : (b : Bool) → is_on q.on s ≡ b → (if_on q.on (sides.port q.mem).free).value s ≡ (if b then (sides.port q.mem).free.value s else 1)
      if_is b e = mux_by s q.on (sides.port q.mem).free one ∙ ap₂ (λ d n. if d then (sides.port q.mem).free.value s else n) e (one_is s)

      at : (b : Bool) → is_on q.on s ≡ b
          → Each (AsksIn p k) (if b then record { mem = q.mem; var = q.var; address = q.addr.value s } ∷ asked_in s qs else asked_in s qs)
          → (Each (AsksIn p k) (asked_in s qs)
          → (ports_open sides qs).value s
          ≡ bit (list_all (λ (y : Ask). is_free (request_of st y.mem) (is_answered p bits y.mem) (later_acts p st bits k)) (asked_in s qs)))
          → (both (if_on q.on (sides.port q.mem).free) (ports_open sides qs)).value s
          ≡ bit
          (list_all (λ (y : Ask). is_free (request_of st y.mem) (is_answered p bits y.mem) (later_acts p st bits k))
          (if b then record { mem = q.mem; var = q.var; address = q.addr.value s } ∷ asked_in s qs else asked_in s qs))
      at true e each rest =
          both_at s (if_on q.on (sides.port q.mem).free) (ports_open sides qs)
          (is_free (request_of st q.mem) (is_answered p bits q.mem) (later_acts p st bits k))
          (list_all (λ (y : Ask). is_free (request_of st y.mem) (is_answered p bits y.mem) (later_acts p st bits k)) (asked_in s qs))
          (if_is true e ∙ free_told q.mem (record { stage = k; var = q.var }) each.0 later) (λ z. rest each.1)
      at false e each rest =
          both_at s (if_on q.on (sides.port q.mem).free)
          (ports_open sides qs) true
          (list_all (λ (y : Ask). is_free (request_of st y.mem) (is_answered p bits y.mem) (later_acts p st bits k)) (asked_in s qs))
          (if_is false e) (λ z. rest each)

  -- the ports of what a stage's thread asks for
  pub ports_told : (k : ℕ) (t : Thread) (qs : List walk.Ask) → (deeds p st k t).asks ≡ asked_in s qs
      → ((j : ℕ) → k < j → j < length p.stages → IsSeen p vs moves s st bits j)
      → (ports_open sides qs).value s ≡ bit (ports_free p st bits (later_acts p st bits k) (deeds p st k t))
  ports_told k t qs e later =
      requests_told k later qs (subst (λ (as' : List Ask). Each (AsksIn p k) as') e (asks_in p reads st k t))
      ∙ ap (λ (as' : List Ask). bit (list_all (λ (q : Ask). is_free (request_of st q.mem) (is_answered p bits q.mem) (later_acts p st bits k)) as')) (sym e)
