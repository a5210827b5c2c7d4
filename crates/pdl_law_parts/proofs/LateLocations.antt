-- The marks of late locations as a stage reserves: the reservation of a location comes after those that the thread has made of its memory.
use Rattle.std.proofs.Common.{◌≡◌, refl, sym, ap, ap₂, ◌∙◌, subst, ℕ, ◌+◌, Bool, true, false, ◌&&◌, List, [], ◌∷◌, ◌++◌, length, None, ◌==◌, arith, append-nil, cond}
use Rattle.std.specs.Prelude.{if◌then◌else◌, nat_lt}
use Rattle.std.proofs.lemmas.Bool.{and_parts, eqb-true}
use Rattle.pdl_word.specs.Words.{bit}
use Rattle.pdl_word.proofs.Bools.{by_bool}
use Rattle.pdl_word.proofs.Numbers.{eqb_self}
use Rattle.pdl_semantics.specs.Flat.{Pipe}
use Rattle.pdl_semantics.specs.Machine as machine
use Rattle.pdl_semantics.specs.Machine.{Pending, Reserved, Deeds, reserves_of}
use Rattle.pdl_semantics.specs.Cycle.{new_entries}
use Rattle.pdl_semantics.specs.SecondWrites.{reserves_twice}
use Rattle.pdl_semantics.specs.Sound.{entries_by}
use Rattle.pdl_net.specs.Circuit.{State}
use Rattle.pdl_net.specs.Signal.{Signal, mux_signal}
use Rattle.pdl_lockapi.specs.Forget.{has_place, place_of}
use Rattle.pdl_lockapi.proofs.Places.{place_front, place_behind, once_front, once_behind}
use Rattle.pdl_machine_facts.proofs.theory_turns.Steps.{new_more}
use Rattle.pdl_law_parts.specs.declared.Mark.{Mark}
use Rattle.pdl_law_parts.specs.declared.Mark.TheVariants.{Late}
use Rattle.pdl_law_parts.specs.Walk.{Locks, Reservation, with_mark, reserved_signal, late_after}
use Rattle.pdl_law_parts.specs.Stands.{TellsLate, AreLate, reserved_in, own_entries}
use Rattle.pdl_law_parts.proofs.Signals.{mux_at, reserved_is}
use Rattle.pdl_law_parts.proofs.Reservations.{entries_long}

-- PENDING WRITES

module _ (s : State) (late : Signal) (thread y : ℕ) (es : List Pending) (e : Pending) where
  -- a pending write of another location leaves the mark of this one as it was
  tells_other : ((e.thread == thread) && (e.var == y)) ≡ false → TellsLate s late thread y es → TellsLate s late thread y (es ++ e ∷ [])
  tells_other other h there once =
      let has : has_place thread y es ≡ true =
      by_bool (has_place thread y es) (has_place thread y es ≡ true) (λ f. f)
      (λ f. absurd (cc (sym there ∙ (place_behind thread y es (e ∷ []) f).0 ∙ ap (λ b. if b then true else false) other))) in
      h has (once_front thread y es (e ∷ []) once) ∙ ap (λ n. bit (nat_lt 0 n)) (sym (place_front thread y es (e ∷ []) has).1)

  -- its own comes after those that are there, where it is the only one of the location
  tells_last : ((e.thread == thread) && (e.var == y)) ≡ true → late.value s ≡ bit (nat_lt 0 (length es)) → TellsLate s late thread y (es ++ e ∷ [])
  tells_last same h there once =
      let none = once_behind thread y es (e ∷ []) once (ap (λ b. if b then true else false) same) in
      let first : length es ≡ length es + place_of thread y (e ∷ []) = plus (length es) (ap (λ b. if b then 0 else 1) same) in
      h ∙ ap (λ n. bit (nat_lt 0 n)) (first ∙ sym (place_behind thread y es (e ∷ []) none).1)
    where
      plus : (i : ℕ) {j : ℕ} → j ≡ 0 → i ≡ i + j
      plus i z = omega (arith, z)

-- SIGNALS

module _ (ls : Locks) (s : State) (m a : ℕ) (on : Signal) (rs : List Reservation) (marks : Mark → ℕ → ℕ → Signal) where
  -- the marks of late locations after a reservation
  abbrev after : ℕ → ℕ → Signal
  after n y = late_after ls m a on rs marks Late n y

  abbrev mine : Signal
  mine = mux_signal on (reserved_signal m rs) (marks Late m a)

  -- those of other locations are the same
  other_late : (n y : ℕ) → ((m == n) && (a == y)) ≡ false → after n y ≡ marks Late n y
  other_late n y e = at (ls.twice m)
    where
      at : (t : Bool) → (if t then with_mark Late m a mine marks else marks) Late n y ≡ marks Late n y
      at true = ap (λ b. if b then mine else marks Late n y) e
      at false = refl

  -- all are the same where the reservation is not made
  pub same_late : on.value s ≡ bit false → (n y : ℕ) → (after n y).value s ≡ (marks Late n y).value s
  same_late o n y =
      by_bool ((m == n) && (a == y)) ((after n y).value s ≡ (marks Late n y).value s) (λ e. at (ls.twice m) e)
      (λ e. ap (λ (f : Signal). f.value s) (other_late n y e))
    where
      at : (t : Bool) → ((m == n) && (a == y)) ≡ true
          → ((if t then with_mark Late m a mine marks else marks) Late n y).value s ≡ (marks Late n y).value s
      at true e =
          let i = and_parts (m == n) (a == y) e in
          ap (λ b. (if b then mine else marks Late n y).value s) e ∙ mux_at s on (reserved_signal m rs) (marks Late m a) false o
          ∙ ap₂ (λ j b. (marks Late j b).value s) (eqb-true m n i.0) (eqb-true a y i.1)
      at false e = refl

  -- where it is made that of its location tells whether one of the memory was made before
  made_late : ls.twice m ≡ true → on.value s ≡ bit true → (n y : ℕ) → ((m == n) && (a == y)) ≡ true
      → (after n y).value s ≡ bit (nat_lt 0 (reserves_of m (reserved_in s rs)))
  made_late t o n y e =
      ap (λ c. ((if c then with_mark Late m a mine marks else marks) Late n y).value s) t
      ∙ ap (λ b. (if b then mine else marks Late n y).value s) e
      ∙ mux_at s on (reserved_signal m rs) (marks Late m a) true o ∙ reserved_is s m rs

-- A RESERVATION

module _ (p : Pipe) (ls : Locks) (k : ℕ) (s : State) (st : machine.State) (thread m a address : ℕ) (on : Signal) (rs : List Reservation)
    (marks : Mark → ℕ → ℕ → Signal) (d : Deeds) where
  -- the pending write that a reservation makes
  abbrev mine_of : Pending
  mine_of = record { thread = thread; var = a; address = address; value = None }

  abbrev new : Reserved
  new = record { mem = m; var = a; address = address }

  -- after a reservation that is made, of a memory of which the thread had nothing pending before its stage, the marks tell which locations are late
  pub late_more : on.value s ≡ bit true → d.reserves ≡ reserved_in s rs → (reserves_twice m p.stmts ≡ true → ls.twice m ≡ true)
      → entries_by thread (machine.lock_of st m) ≡ [] → (n : ℕ) → reserves_twice n p.stmts ≡ true
      → AreLate p k s marks thread n (own_entries st thread d n)
      → AreLate p k s (late_after ls m a on rs marks) thread n (entries_by thread (machine.lock_of st n) ++ new_entries n thread (d.reserves ++ new ∷ []))
  late_more o same twice fresh n two h y live = at (m == n) refl
    where
      own : List Pending
      own = entries_by thread (machine.lock_of st n)

      news : List Pending
      news = new_entries n thread d.reserves

      mark : Signal
      mark = after ls s m a on rs marks n y

      more : (b : Bool) → (m == n) ≡ b → new_entries n thread (d.reserves ++ new ∷ []) ≡ news ++ cond b (mine_of ∷ []) []
      more b f = new_more n thread d.reserves new ∙ ap (λ c. news ++ cond c (mine_of ∷ []) []) f

      told : ((m == n) && (a == y)) ≡ false → TellsLate s mark thread y (own ++ news)
      told e = subst (λ (f : Signal). TellsLate s f thread y (own ++ news)) (sym (other_late ls s m a on rs marks n y e)) (h y live)

      at : (b : Bool) → (m == n) ≡ b → TellsLate s mark thread y (own ++ new_entries n thread (d.reserves ++ new ∷ []))
      at false f =
          subst (λ es. TellsLate s mark thread y (own ++ es)) (sym (more false f ∙ append-nil news)) (told (ap (λ b. b && (a == y)) f))
      at true f =
          let i : m ≡ n = eqb-true m n f in
          let none : own ≡ [] = subst (λ j. entries_by thread (machine.lock_of st j) ≡ []) i fresh in
          subst (λ es. TellsLate s mark thread y es) (sym (ap₂ (λ xs ys. xs ++ ys) none (more true f))) (by i none (a == y) refl)
        where
          by : m ≡ n → own ≡ [] → (b : Bool) → (a == y) ≡ b → TellsLate s mark thread y (news ++ mine_of ∷ [])
          by i none true g =
              tells_last s mark thread y news mine_of (ap₂ (λ b c. b && c) (eqb_self thread) g)
              (made_late ls s m a on rs marks (twice (subst (λ j. reserves_twice j p.stmts ≡ true) (sym i) two)) o n y (ap₂ (λ b c. b && c) f g)
              ∙ ap (λ xs. bit (nat_lt 0 (reserves_of m xs))) (sym same) ∙ ap (λ j. bit (nat_lt 0 (reserves_of j d.reserves))) i
              ∙ ap (λ l. bit (nat_lt 0 l)) (sym (entries_long n thread d.reserves)))
          by i none false g =
              tells_other s mark thread y news mine_of (ap₂ (λ b c. b && c) (eqb_self thread) g)
              (subst (λ es. TellsLate s mark thread y (es ++ news)) none (told (ap₂ (λ b c. b && c) f g)))
