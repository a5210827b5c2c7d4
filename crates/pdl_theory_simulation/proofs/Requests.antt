-- The requests of both machines after a cycle: the same are outstanding, their owners live and await them, and those of removed threads are orphans.
use Rattle.std.proofs.Common.{◌≡◌, refl, sym, ap, ap₂, ◌∙◌, subst, ℕ, ◌<◌, Bool, true, false, ◌&&◌, ◌||◌, not, List, [], ◌∷◌, ◌++◌, Option, Some, None, is_some, is_none, ◌==◌, cond, if◌then◌else◌, arith, append-nil, append_assoc, eq-eqb}
use Rattle.std.proofs.lemmas.Bool.{eqb-true}
use Rattle.pdl_semantics.specs.Flat.{Pipe, Stmt, Op, DelayedRead, list_all}
use Rattle.pdl_semantics.specs.Stages.{stage_at, goes_to, in_stage}
use Rattle.pdl_semantics.specs.Machine.{Ask, Awaited, Request, NoRequest, Owned, Orphan, is_answered, State, request_of}
use Rattle.pdl_semantics.specs.Moves.{movers, is_empty, block_ready}
use Rattle.pdl_semantics.specs.Cycle.{awaited_of, asked_of, asked_by, asked_in, address_of, request_left, is_kept}
use Rattle.pdl_semantics.specs.Promises.{DifferInAdvice}
use Rattle.pdl_theory_turns.specs.Derived.{Work, awaits_mem, asked_at, find_ask, asks_of, next_ask, port_free, still, around}
use Rattle.pdl_theory_turns.specs.Derived
use Rattle.pdl_theory_turns.specs.Scans.{none_of}
use Rattle.pdl_theory_simulation.proofs.FlowFacts.{Flows}
use Rattle.pdl_theory_turns.proofs.Writes.{and_left, and_right}
use Rattle.pdl_theory_turns.proofs.Slots.{rev}
use Rattle.pdl_theory_simulation.proofs.Stretches.{Behind, less_home}
use Rattle.pdl_theory_simulation.proofs.StretchSteps.{AsksFrom}
use Rattle.pdl_theory_simulation.proofs.Seats.{advised, Live, Ordered, dacts, lacts, lact, did, work_of_live, deeds_of}
use Rattle.pdl_theory_simulation.proofs.Choices.{has_owner, Matched, one_stage, Known, AllKnown, like_here, asks_here}
use Rattle.pdl_theory_simulation.proofs.ThreadFacts.{someone, behind_someone}
use Rattle.pdl_theory_simulation.proofs.LockLists.{fell, moved_live, stood, next_live, go_on, Agrees}
use Rattle.pdl_theory_simulation.proofs.LiveThreads.{stuck_here, born_live}
use Rattle.pdl_theory_turns.proofs.DelayedReads.{find_append}
use Rattle.pdl_semantics.specs.Sound.{is_fetch, is_delayed_read}

-- who asks for a memory, and the address
pub record Asker : Type 0 where
  pub number : ℕ
  pub address : ℕ

-- the asker: the thread of this number where it asks for an address, else the other one
abbrev pub first_of : Option ℕ → ℕ → Option Asker → Option Asker
first_of None n r = r
first_of (Some a) n r = Some (record { number = n; address = a })

-- the request of the asker, where there is one, else the old one
abbrev pub owned_by : Option Asker → Request → Request
owned_by None old = old
owned_by (Some k) old = Owned k.number k.address

abbrev address_for : Option Asker → Option ℕ
address_for None = None
address_for (Some k) = Some k.address

asked_first : (m n : ℕ) (qs : List Ask) (o : Option Asker) (old : Request)
    → asked_of m n qs (owned_by o old) ≡ owned_by (first_of (find_ask qs m) n o) old
asked_first m n [] o old = refl
asked_first m n (q ∷ qs) o old = at (q.mem == m) (asked_first m n qs o old)
  where
    at : (b : Bool) → asked_of m n qs (owned_by o old) ≡ owned_by (first_of (find_ask qs m) n o) old
        → (if b then Owned n q.address else asked_of m n qs (owned_by o old)) ≡ owned_by (first_of (if b then Some q.address else find_ask qs m) n o) old
    at true h = refl
    at false h = h

address_first : (m n : ℕ) (qs : List Ask) (o : Option Asker) → address_of m qs (address_for o) ≡ address_for (first_of (find_ask qs m) n o)
address_first m n [] o = refl
address_first m n (q ∷ qs) o = at (q.mem == m) (address_first m n qs o)
  where
    at : (b : Bool) → address_of m qs (address_for o) ≡ address_for (first_of (find_ask qs m) n o)
        → (if b then Some q.address else address_of m qs (address_for o)) ≡ address_for (first_of (if b then Some q.address else find_ask qs m) n o)
    at true h = refl
    at false h = h

or_ask : Option ℕ → Option ℕ → Option ℕ
or_ask None r = r
or_ask (Some a) r = Some a

asks_more : (xs : List Derived.Act) (b : Derived.Act) → asks_of (xs ++ b ∷ []) ≡ asks_of xs ++ (if b.moves then b.work.asks else [])
asks_more [] b = at b.moves
  where
    at : (c : Bool) → cond c (b.work.asks ++ []) [] ≡ cond c b.work.asks []
    at true = append-nil b.work.asks
    at false = refl
asks_more (x ∷ xs) b = at x.moves (asks_more xs b)
  where
    at : (c : Bool) → asks_of (xs ++ b ∷ []) ≡ asks_of xs ++ (if b.moves then b.work.asks else [])
        → cond c (x.work.asks ++ asks_of (xs ++ b ∷ [])) (asks_of (xs ++ b ∷ []))
        ≡ cond c (x.work.asks ++ asks_of xs) (asks_of xs) ++ (if b.moves then b.work.asks else [])
    at true h = ap (λ l. x.work.asks ++ l) h ∙ sym (append_assoc x.work.asks (asks_of xs) _)
    at false h = h

-- what is asked for is awaited
awaits_found : (qs : List Ask) (m : ℕ) → awaits_mem (awaited_of qs) m ≡ is_some (find_ask qs m)
awaits_found [] m = refl
awaits_found (q ∷ qs) m = at (q.mem == m) (awaits_found qs m)
  where
    at : (b : Bool) → awaits_mem (awaited_of qs) m ≡ is_some (find_ask qs m)
        → (b || awaits_mem (awaited_of qs) m) ≡ is_some (if b then Some q.address else find_ask qs m)
    at true h = refl
    at false h = h

-- a found ask is one of the list
found_from : (xs : List Stmt) (qs : List Ask) (m a : ℕ) → AsksFrom xs qs → find_ask qs m ≡ Some a → none_of (is_delayed_read m) xs ≡ false
found_from xs [] m a h e = absurd (clash e)
  where
    clash : None ≡ Some a → ⊥
    clash i = cc
found_from xs (q ∷ qs) m a h e = at (q.mem == m) refl e (λ i. found_from xs qs m a h.1 i)
  where
    at : (b : Bool) → (q.mem == m) ≡ b → (if b then Some q.address else find_ask qs m) ≡ Some a
        → (find_ask qs m ≡ Some a → none_of (is_delayed_read m) xs ≡ false) → none_of (is_delayed_read m) xs ≡ false
    at true e i f = subst (λ n. none_of (is_delayed_read n) xs ≡ false) (eqb-true q.mem m e) h.0
    at false e i f = f i

found_test : (test : ℕ → Bool) (qs : List Ask) (m a : ℕ) → list_all (λ q. test q.mem) qs ≡ true → find_ask qs m ≡ Some a → test m ≡ true
found_test test [] m a h e = absurd (clash e)
  where
    clash : None ≡ Some a → ⊥
    clash i = cc
found_test test (q ∷ qs) m a h e = at (q.mem == m) refl e (λ i. found_test test qs m a (and_right (test q.mem) _ h) i)
  where
    at : (b : Bool) → (q.mem == m) ≡ b → (if b then Some q.address else find_ask qs m) ≡ Some a → (find_ask qs m ≡ Some a → test m ≡ true) → test m ≡ true
    at true e i f = subst (λ n. test n ≡ true) (eqb-true q.mem m e) (and_left _ _ h)
    at false e i f = f i

owner_append : (n m : ℕ) (xs ys : List Live) → has_owner n m (xs ++ ys) ≡ (has_owner n m xs || has_owner n m ys)
owner_append n m [] ys = refl
owner_append n m (x ∷ xs) ys =
    ap (λ b. ((x.number == n) && awaits_mem x.thread.awaits m) || b) (owner_append n m xs ys)
    ∙ assoc ((x.number == n) && awaits_mem x.thread.awaits m) (has_owner n m xs) (has_owner n m ys)
  where
    assoc : (a b c : Bool) → (a || (b || c)) ≡ ((a || b) || c)
    assoc true b c = refl
    assoc false b c = refl

owner_behind : (n m : ℕ) (xs ys : List Live) → has_owner n m ys ≡ true → has_owner n m (xs ++ ys) ≡ true
owner_behind n m xs ys h = owner_append n m xs ys ∙ ap (λ b. has_owner n m xs || b) h ∙ or_true (has_owner n m xs)
  where
    or_true : (b : Bool) → (b || true) ≡ true
    or_true true = refl
    or_true false = refl

-- no delayed read at all is none of m
none_fetches : (m : ℕ) (xs : List Stmt) → none_of is_fetch xs ≡ true → none_of (is_delayed_read m) xs ≡ true
none_fetches m [] h = refl
none_fetches m (x ∷ xs) h = ap₂ (λ a b. a && b) (off x.op (and_left _ _ h)) (none_fetches m xs (and_right _ _ h))
  where
    off : (op : Op) → not (is_fetch op) ≡ true → not (is_delayed_read m op) ≡ true
    off (DelayedRead y n a) h = absurd (cc h)
    off _ h = refl

still_awaits : (p : Pipe) (bits : List Bool) (rs : List Awaited) (m : ℕ)
    → awaits_mem rs m ≡ true → is_answered p bits m ≡ false → awaits_mem (still p bits rs) m ≡ true
still_awaits p bits [] m h e = absurd (cc h)
still_awaits p bits (r ∷ rs) m h e = at (r.mem == m) refl h (λ i. still_awaits p bits rs m i e)
  where
    at : (b : Bool) → (r.mem == m) ≡ b → (b || awaits_mem rs m) ≡ true
        → (awaits_mem rs m ≡ true → awaits_mem (still p bits rs) m ≡ true)
        → awaits_mem (if is_answered p bits r.mem then still p bits rs else r ∷ still p bits rs) m ≡ true
    at true g i f =
        ap (λ c. awaits_mem (cond c (still p bits rs) (r ∷ still p bits rs)) m) (ap (is_answered p bits) (eqb-true _ _ g) ∙ e)
        ∙ ap (λ c. c || awaits_mem (still p bits rs) m) g
    at false g i f = by (is_answered p bits r.mem)
      where
        or_true : (b : Bool) → (b || true) ≡ true
        or_true true = refl
        or_true false = refl

        by : (c : Bool) → awaits_mem (cond c (still p bits rs) (r ∷ still p bits rs)) m ≡ true
        by true = f i
        by false = ap (λ c. (r.mem == m) || c) (f i) ∙ or_true (r.mem == m)

module _ (p : Pipe) (flows : Flows p) (st : State) (d : Derived.State) (bits : List Bool) (arrays : DifferInAdvice p st.arrays d.arrays) where
  -- the thread that asks for m in this cycle
  abbrev pub asking : List Live → ℕ → Option Asker
  asking [] m = None
  asking (l ∷ ls) m = if (did p d bits ls l).moves then first_of (find_ask (work_of_live p d bits ls l).asks m) l.number (asking ls m) else asking ls m

  -- a live thread's stage makes the same requests in both machines
  pub asks_are : (ls : List Live) (l : Live) → Known p flows st d bits arrays ls l → (deeds_of p st bits l).asks ≡ (work_of_live p d bits ls l).asks
  asks_are ls l k = ap (λ (w : Work). w.asks) (sym (like_here p flows st d bits arrays ls l k).is)

  -- the stated request of m after the new ones is that of the thread that asks for m, else the old one
  pub asked_is : (m : ℕ) (old : Request) (ls : List Live) → AllKnown p flows st d bits arrays ls
      → asked_by m (movers (lacts p st d bits ls)) old ≡ owned_by (asking ls m) old
  asked_is m old [] k = refl
  asked_is m old (l ∷ ls) k = at (did p d bits ls l).moves (asked_is m old ls k.1)
    where
      at : (b : Bool) → asked_by m (movers (lacts p st d bits ls)) old ≡ owned_by (asking ls m) old
          → asked_by m (cond b (lact p st d bits ls l ∷ movers (lacts p st d bits ls)) (movers (lacts p st d bits ls))) old
          ≡ owned_by (cond b (first_of (find_ask (work_of_live p d bits ls l).asks m) l.number (asking ls m)) (asking ls m)) old
      at true h = ap₂ (λ q r. asked_of m l.number q r) (asks_are ls l k.0) h ∙ asked_first m l.number (work_of_live p d bits ls l).asks (asking ls m) old
      at false h = h

  -- the address of m at the stated ports is that of the thread that asks for m
  pub shown_is : (m : ℕ) (ls : List Live) → AllKnown p flows st d bits arrays ls → asked_in (movers (lacts p st d bits ls)) m ≡ address_for (asking ls m)
  shown_is m [] k = refl
  shown_is m (l ∷ ls) k = at (did p d bits ls l).moves (shown_is m ls k.1)
    where
      at : (b : Bool) → asked_in (movers (lacts p st d bits ls)) m ≡ address_for (asking ls m)
          → asked_in (cond b (lact p st d bits ls l ∷ movers (lacts p st d bits ls)) (movers (lacts p st d bits ls))) m
          ≡ address_for (cond b (first_of (find_ask (work_of_live p d bits ls l).asks m) l.number (asking ls m)) (asking ls m))
      at true h = ap₂ (λ q r. address_of m q r) (asks_are ls l k.0) h ∙ address_first m l.number (work_of_live p d bits ls l).asks (asking ls m)
      at false h = h

  -- a thread that asks for m stands in the stage of its delayed read
  pub asks_at : (ls : List Live) (l : Live) → Known p flows st d bits arrays ls l → (m a : ℕ)
      → find_ask (work_of_live p d bits ls l).asks m ≡ Some a
      → none_of (is_delayed_read m) (in_stage l.thread.stage p.stmts) ≡ false
  asks_at ls l k m a e =
      found_from (in_stage l.thread.stage p.stmts)
      (work_of_live p d bits ls l).asks m a
      (subst (λ q. AsksFrom (in_stage l.thread.stage p.stmts) q) (asks_are ls l k) (asks_here p flows st d bits arrays ls l k)) e

  asking_at : (m : ℕ) (a : Asker) (ls : List Live) → AllKnown p flows st d bits arrays ls → asking ls m ≡ Some a
      → (s : ℕ) × (none_of (is_delayed_read m) (in_stage s p.stmts) ≡ false) × (someone s ls ≡ true)
  asking_at m a [] k e = absurd (clash e)
    where
      clash : None ≡ Some a → ⊥
      clash i = cc
  asking_at m a (l ∷ ls) k e = at (did p d bits ls l).moves (find_ask (work_of_live p d bits ls l).asks m) refl e (λ i. later (asking_at m a ls k.1 i))
    where
      or_true : (b : Bool) → (b || true) ≡ true
      or_true true = refl
      or_true false = refl

      later : (s : ℕ) × (none_of (is_delayed_read m) (in_stage s p.stmts) ≡ false) × (someone s ls ≡ true)
          → (s : ℕ) × (none_of (is_delayed_read m) (in_stage s p.stmts) ≡ false) × (someone s (l ∷ ls) ≡ true)
      later h = (h.0, h.1, ap (λ b. (l.thread.stage == h.0) || b) h.2 ∙ or_true (l.thread.stage == h.0))

      at : (b : Bool) (o : Option ℕ) → find_ask (work_of_live p d bits ls l).asks m ≡ o → cond b (first_of o l.number (asking ls m)) (asking ls m) ≡ Some a
          → (asking ls m ≡ Some a → (s : ℕ) × (none_of (is_delayed_read m) (in_stage s p.stmts) ≡ false) × (someone s (l ∷ ls) ≡ true))
          → (s : ℕ) × (none_of (is_delayed_read m) (in_stage s p.stmts) ≡ false) × (someone s (l ∷ ls) ≡ true)
      at true (Some x) g i f = (l.thread.stage, asks_at ls l k.0 m x g, ap (λ b. b || someone l.thread.stage ls) (eq-eqb _ _ refl))
      at true None g i f = f i
      at false o g i f = f i

  -- younger ones ask for another memory
  pub one_asks : (m : ℕ) (a : Asker) (l : Live) (ls : List Live) → AllKnown p flows st d bits arrays (l ∷ ls)
      → Ordered p (l ∷ ls) → asking ls m ≡ Some a → find_ask (work_of_live p d bits ls l).asks m ≡ None
  one_asks m a l ls k o e = at (find_ask (work_of_live p d bits ls l).asks m) refl
    where
      at : (r : Option ℕ) → find_ask (work_of_live p d bits ls l).asks m ≡ r → find_ask (work_of_live p d bits ls l).asks m ≡ None
      at None g = g
      at (Some x) g =
          absurd (let h = asking_at m a ls k.1 e in
          let same : l.thread.stage ≡ h.0 = one_stage (is_delayed_read m) p.stmts l.thread.stage h.0 (flows.one_fetch m) (asks_at ls l k.0 m x g) h.1 in
          let behind : Behind p l.thread.stage h.0 = behind_someone p l.thread.stage h.0 ls o.0 h.2 in
          let less : l.thread.stage < h.0 = less_home p _ _ behind (ap (λ n. (stage_at p n).branches) same) in omega arith)

  -- the address of m that is asked for in the derived machine is that of the thread that asks for m
  pub finds_is : (m : ℕ) (ls : List Live) → AllKnown p flows st d bits arrays ls → Ordered p ls
      → find_ask (asks_of (rev (dacts p d bits ls))) m ≡ address_for (asking ls m)
  unfolding or_ask
  finds_is m [] k o = refl
  finds_is m (l ∷ ls) k o =
      ap (λ q. find_ask q m) (asks_more (rev (dacts p d bits ls)) (did p d bits ls l)) ∙ find_append (asks_of (rev (dacts p d bits ls))) _ m
      ∙ ap (λ r. or_ask r (find_ask (if (did p d bits ls l).moves then (work_of_live p d bits ls l).asks else []) m)) (finds_is m ls k.1 o.1)
      ∙ at (did p d bits ls l).moves (asking ls m) refl (λ a e. one_asks m a l ls k o e)
    where
      mine : (r : Option ℕ) → r ≡ address_for (first_of r l.number None)
      mine None = refl
      mine (Some x) = refl

      at : (b : Bool) (r : Option Asker) → asking ls m ≡ r → ((a : Asker) → asking ls m ≡ Some a → find_ask (work_of_live p d bits ls l).asks m ≡ None)
          → or_ask (address_for r) (find_ask (if b then (work_of_live p d bits ls l).asks else []) m)
          ≡ address_for (cond b (first_of (find_ask (work_of_live p d bits ls l).asks m) l.number r) r)
      at true None e f = mine (find_ask (work_of_live p d bits ls l).asks m)
      at true (Some a) e f = ap (λ x. address_for (first_of x l.number (Some a))) (sym (f a e))
      at false None e f = refl
      at false (Some a) e f = refl

  -- THE ASKER

  ports_were_free : (ls : List Live) (l : Live) → Known p flows st d bits arrays ls l → (did p d bits ls l).moves ≡ true
      → list_all (λ q. port_free p d bits (dacts p d bits ls) q.mem) (deeds_of p st bits l).asks ≡ true
  ports_were_free ls l k i =
      let ready : (work_of_live p d bits ls l).ready ≡ true = and_right _ _ (and_left _ _ (and_left _ _ (and_left _ _ i))) in
      let all : (((list_all (λ b. block_ready p st l.number b) (deeds_of p st bits l).blocks)
      && list_all (λ q. port_free p d bits (dacts p d bits ls) q.mem) (deeds_of p st bits l).asks)
      && (not (deeds_of p st bits l).barrier || (around p d bits (dacts p d bits ls) l.thread.stage l.thread.hint).clear))
      ≡ true =
      ap (λ (w : Work). w.ready) (sym (like_here p flows st d bits arrays ls l k).is) ∙ ready in
      and_right _ _ (and_left _ _ all)

  -- where a thread asks m anew, a request of m that was outstanding is answered in this cycle
  pub port_was_free : (m a : ℕ) (k : Asker) (ls : List Live) → AllKnown p flows st d bits arrays ls
      → asking ls m ≡ Some k → asked_at d m ≡ Some a → is_answered p bits m ≡ true
  port_was_free m a k [] h e g = absurd (clash e)
    where
      clash : None ≡ Some k → ⊥
      clash i = cc
  port_was_free m a k (l ∷ ls) h e g =
      at (did p d bits ls l).moves refl (find_ask (work_of_live p d bits ls l).asks m) refl e (λ i. port_was_free m a k ls h.1 i g)
    where
      answered_now : (x : ℕ) → find_ask (work_of_live p d bits ls l).asks m ≡ Some x → (did p d bits ls l).moves ≡ true → is_answered p bits m ≡ true
      answered_now x f i =
          and_left (is_answered p bits m) _
          (subst
          (λ o. (is_none o || (is_answered p bits m && list_all (λ (o : Derived.Act). not (awaits_mem o.before.awaits m) || o.moves) (dacts p d bits ls)))
          ≡ true) g
          (found_test (port_free p d bits (dacts p d bits ls))
          (work_of_live p d bits ls l).asks m x
          (subst (λ q. list_all (λ q. port_free p d bits (dacts p d bits ls) q.mem) q ≡ true) (asks_are ls l h.0) (ports_were_free ls l h.0 i)) f))

      at : (b : Bool) → (did p d bits ls l).moves ≡ b → (o : Option ℕ)
          → find_ask (work_of_live p d bits ls l).asks m ≡ o
          → cond b (first_of o l.number (asking ls m)) (asking ls m) ≡ Some k
          → (asking ls m ≡ Some k → is_answered p bits m ≡ true) → is_answered p bits m ≡ true
      at true i (Some x) f j r = answered_now x f i
      at true i None f j r = r j
      at false i o f j r = r j

  -- a thread that asks m anew is kept by a squash, lives on after the cycle and awaits m
  pub asker_lives : (m : ℕ) (a : Asker) (sq : Option ℕ) (ls : List Live) → AllKnown p flows st d bits arrays ls
      → Agrees p d bits sq ls → asking ls m ≡ Some a
      → (is_kept sq a.number ≡ true) × (has_owner a.number m (go_on p st d bits ls) ≡ true)
  asker_lives m a sq [] k g e = absurd (clash e)
    where
      clash : None ≡ Some a → ⊥
      clash i = cc
  asker_lives m a sq (l ∷ ls) k g e =
      at (did p d bits ls l).moves refl (find_ask (work_of_live p d bits ls l).asks m) refl e (λ i. later (asker_lives m a sq ls k.1 g.1 i))
    where
      later : (is_kept sq a.number ≡ true) × (has_owner a.number m (go_on p st d bits ls) ≡ true)
          → (is_kept sq a.number ≡ true) × (has_owner a.number m (go_on p st d bits (l ∷ ls)) ≡ true)
      later h = (h.0, owner_behind a.number m (if fell p d bits ls then [] else next_live p st d bits ls l) (go_on p st d bits ls) h.1)

      stands_firm : (did p d bits ls l).moves ≡ true → fell p d bits ls ≡ false
      stands_firm i = by (fell p d bits ls) refl
        where
          by : (f : Bool) → fell p d bits ls ≡ f → fell p d bits ls ≡ false
          by true j = absurd (cc (sym i ∙ stuck_here p flows st d bits arrays ls l j))
          by false j = j

      number_is : (x : ℕ) → Some (record { number = l.number; address = x }) ≡ Some a → l.number ≡ a.number
      number_is x i = cc

      goes : (x : ℕ) → find_ask (work_of_live p d bits ls l).asks m ≡ Some x → (r : Option ℕ)
          → goes_to (stage_at p l.thread.stage).next (work_of_live p d bits ls l).env ≡ r
          → has_owner l.number m (moved_live r (advised p st bits l) (work_of_live p d bits ls l)) ≡ true
      goes x f None i =
          absurd
          (cc
          (sym (asks_at ls l k.0 m x f)
          ∙ none_fetches m (in_stage l.thread.stage p.stmts)
          (flows.fetch_inside l.thread.stage (flows.graph.last l.thread.stage (work_of_live p d bits ls l).env k.0.seated.keeps_on.inside i).0)))
      goes x f (Some q) i = ap₂ (λ b c. (b && c) || false) (eq-eqb _ _ refl) (awaits_found (work_of_live p d bits ls l).asks m ∙ ap is_some f)

      mine : (x : ℕ) → find_ask (work_of_live p d bits ls l).asks m ≡ Some x → (did p d bits ls l).moves ≡ true
          → l.number ≡ a.number
          → (is_kept sq a.number ≡ true) × (has_owner a.number m (go_on p st d bits (l ∷ ls)) ≡ true)
      mine x f i j = (
        ap (is_kept sq) (sym j) ∙ g.0 ∙ ap not (stands_firm i),
        ap (λ b. has_owner a.number m ((if b then [] else next_live p st d bits ls l) ++ go_on p st d bits ls)) (stands_firm i)
            ∙ owner_append a.number m (next_live p st d bits ls l) (go_on p st d bits ls)
            ∙ ap (λ b. b || has_owner a.number m (go_on p st d bits ls))
            (subst (λ n. has_owner n m (next_live p st d bits ls l) ≡ true) j
            (ap
            (λ b. has_owner l.number m
            (cond b (moved_live (goes_to (stage_at p l.thread.stage).next (work_of_live p d bits ls l).env) (advised p st bits l) (work_of_live p d bits ls l))
            (stood p st d bits l ∷ []))) i
            ∙ goes x f (goes_to (stage_at p l.thread.stage).next (work_of_live p d bits ls l).env) refl)),
      )

      at : (b : Bool) → (did p d bits ls l).moves ≡ b → (o : Option ℕ)
          → find_ask (work_of_live p d bits ls l).asks m ≡ o
          → cond b (first_of o l.number (asking ls m)) (asking ls m) ≡ Some a
          → (asking ls m ≡ Some a → (is_kept sq a.number ≡ true) × (has_owner a.number m (go_on p st d bits (l ∷ ls)) ≡ true))
          → (is_kept sq a.number ≡ true) × (has_owner a.number m (go_on p st d bits (l ∷ ls)) ≡ true)
      at true i (Some x) f j r = mine x f i (number_is x j)
      at true i None f j r = r j
      at false i o f j r = r j

  -- a thread that awaits what isn't answered stands
  waits_stand : (ls : List Live) (l : Live) (m : ℕ) → awaits_mem l.thread.awaits m ≡ true → is_answered p bits m ≡ false → (did p d bits ls l).moves ≡ false
  waits_stand ls l m h e = at (did p d bits ls l).moves refl
    where
      empty : (rs : List Awaited) → awaits_mem rs m ≡ true → is_empty rs ≡ true → ⊥
      empty [] i j = cc
      empty (r ∷ rs) i j = cc

      at : (b : Bool) → (did p d bits ls l).moves ≡ b → (did p d bits ls l).moves ≡ false
      at true i = absurd (empty (still p bits l.thread.awaits) (still_awaits p bits l.thread.awaits m h e) (and_right _ _ (and_left _ _ i)))
      at false i = i

  -- an owner whose request isn't answered lives on where no squash removes it
  pub owner_stays : (n m : ℕ) (sq : Option ℕ) (ls : List Live) → AllKnown p flows st d bits arrays ls
      → Agrees p d bits sq ls → has_owner n m ls ≡ true → is_answered p bits m ≡ false → is_kept sq n ≡ true
      → has_owner n m (go_on p st d bits ls) ≡ true
  owner_stays n m sq [] k g h e s = absurd (cc h)
  owner_stays n m sq (l ∷ ls) k g h e s = at (l.number == n) refl (awaits_mem l.thread.awaits m) refl h (λ i. owner_stays n m sq ls k.1 g.1 i e s)
    where
      later : has_owner n m (go_on p st d bits ls) ≡ true → has_owner n m (go_on p st d bits (l ∷ ls)) ≡ true
      later i = owner_behind n m (if fell p d bits ls then [] else next_live p st d bits ls l) (go_on p st d bits ls) i

      firm : l.number ≡ n → (f : Bool) → fell p d bits ls ≡ f → fell p d bits ls ≡ false
      firm i true j = absurd (cc (sym (ap (is_kept sq) i ∙ s) ∙ g.0 ∙ ap not j))
      firm i false j = j

      mine : l.number ≡ n → awaits_mem l.thread.awaits m ≡ true → has_owner n m (go_on p st d bits (l ∷ ls)) ≡ true
      mine i j =
          ap₂
          (λ f b. has_owner n m
          ((if f then []
          else cond b
          (moved_live (goes_to (stage_at p l.thread.stage).next (work_of_live p d bits ls l).env) (advised p st bits l) (work_of_live p d bits ls l))
          (stood p st d bits l ∷ []))
          ++ go_on p st d bits ls))
          (firm i (fell p d bits ls) refl) (waits_stand ls l m j e)
          ∙ ap₂ (λ b c. (b && c) || has_owner n m (go_on p st d bits ls)) (eq-eqb _ _ i) (still_awaits p bits l.thread.awaits m j e)

      at : (b : Bool) → (l.number == n) ≡ b → (c : Bool) → awaits_mem l.thread.awaits m ≡ c
          → ((b && c) || has_owner n m ls) ≡ true
          → (has_owner n m ls ≡ true → has_owner n m (go_on p st d bits ls) ≡ true)
          → has_owner n m (go_on p st d bits (l ∷ ls)) ≡ true
      at true i true j q r = mine (eqb-true _ _ i) j
      at true i false j q r = later (r q)
      at false i c j q r = later (r q)

  -- THE REQUESTS AFTER THE CYCLE

  -- the stated request of m after the cycle: the new one, else the old one if it isn't answered, an orphan if its owner is removed
  abbrev pub request_now : Option ℕ → List Live → ℕ → Request
  request_now sq ls m = request_left sq (owned_by (asking ls m) (if is_answered p bits m then NoRequest else request_of st m))

  -- the address that is outstanding for m in the derived machine after the cycle: the new one, else the old one if it isn't answered
  abbrev pub asked_now : List Live → ℕ → Option ℕ
  asked_now ls m = next_ask (address_for (asking ls m)) (is_answered p bits m) (asked_at d m)

  -- after a cycle the requests of m in both machines go together, where they did before it
  pub matched_next : (m n : ℕ) (c : Option (List ℕ)) (sq : Option ℕ) (ls : List Live)
      → AllKnown p flows st d bits arrays ls → Agrees p d bits sq ls → Matched (request_of st m) (asked_at d m) m ls
      → Matched (request_now sq ls m) (asked_now ls m) m (born_live p (d.hints 0) n c ++ go_on p st d bits ls)
  matched_next m n c sq ls k g h = at (asking ls m) refl
    where
      old : (q : Request) → request_of st m ≡ q → Matched q (asked_at d m) m ls → is_answered p bits m ≡ false
          → Matched (request_left sq q) (asked_at d m) m (born_live p (d.hints 0) n c ++ go_on p st d bits ls)
      old NoRequest e h i = h
      old (Orphan a) e h i = h
      old (Owned w a) e h i = by (is_kept sq w) refl
        where
          by : (b : Bool)
              → is_kept sq w ≡ b
              → Matched (if b then Owned w a else Orphan a) (asked_at d m) m (born_live p (d.hints 0) n c ++ go_on p st d bits ls)
          by true j = (h.0, owner_behind w m (born_live p (d.hints 0) n c) (go_on p st d bits ls) (owner_stays w m sq ls k g h.1 i j))
          by false j = h.0

      at : (r : Option Asker) → asking ls m ≡ r
          → Matched (request_left sq (owned_by r (if is_answered p bits m then NoRequest else request_of st m)))
          (next_ask (address_for r) (is_answered p bits m) (asked_at d m)) m (born_live p (d.hints 0) n c ++ go_on p st d bits ls)
      at (Some a) e =
          let l = asker_lives m a sq ls k g e in
          subst
          (λ b. Matched (if b then Owned a.number a.address else Orphan a.address) (Some a.address) m (born_live p (d.hints 0) n c ++ go_on p st d bits ls))
          (sym l.0)
          (refl, owner_behind a.number m (born_live p (d.hints 0) n c) (go_on p st d bits ls) l.1)
      at None e = by (is_answered p bits m) refl
        where
          by : (b : Bool) → is_answered p bits m ≡ b
              → Matched (request_left sq (if b then NoRequest else request_of st m))
              (if b then None else asked_at d m) m (born_live p (d.hints 0) n c ++ go_on p st d bits ls)
          by true i = refl
          by false i = old (request_of st m) refl h i
