-- Of threads in two stages: the fork lists, who is older, and what the later stages tell.
use Rattle.std.proofs.Common.{◌≡◌, refl, sym, ap, ap₂, ◌∙◌, subst, ℕ, suc, ◌≤◌, ◌<◌, ◌⊎◌, inl, inr, Bool, true, false, ◌&&◌, ◌||◌, not, List, [], ◌∷◌, ◌++◌, length, Option, Some, None, ◌==◌, nat_lt, nat_le, if◌then◌else◌, arith, append-nil, append_assoc, leb-true, leb-false, le_refl, eq-eqb}
use Rattle.std.proofs.lemmas.Bool.{eqb-true, eqb-false, ne_eqb, le-ltb, or_right}
use Rattle.pdl_semantics.specs.Flat.{Pipe, Branch, list_all}
use Rattle.pdl_semantics.specs.Stages.{list_any, in_stage, stage_at, verify_stage, reserve_stage, is_inside, sides_of}
use Rattle.pdl_semantics.specs.Locks.{Nothing}
use Rattle.pdl_semantics.specs.Machine.{is_answered, Request, NoRequest, Owned, Orphan, State, lock_of, fork_of, request_of, youngest, with_answers}
use Rattle.pdl_semantics.specs.Moves.{next_stage, is_free, is_first, is_nobody, is_its_turn}
use Rattle.pdl_semantics.specs.Sound.{is_delayed_read}
use Rattle.pdl_semantics.specs.Machine
use Rattle.pdl_semantics.specs.Moves
use Rattle.pdl_semantics.specs.Promises.{DifferInAdvice}
use Rattle.pdl_theory_turns.specs.Derived.{latest, pending, befores, awaits_mem, asked_at, port_free}
use Rattle.pdl_theory_turns.specs.Derived
use Rattle.pdl_theory_turns.specs.Scans.{none_of}
use Rattle.pdl_theory_turns.proofs.Nested.{within_home, inside_at, not_inside, sides_outside, outside_self, sides_inside}
use Rattle.pdl_theory_simulation.proofs.FlowFacts.{Home, Within, Trunk, Flows, Leads}
use Rattle.pdl_theory_turns.proofs.Lists.{pend, youngest_append, youngest_other}
use Rattle.pdl_theory_turns.proofs.OwnEntries.{pend_own}
use Rattle.pdl_theory_simulation.proofs.Stretches.{Behind, left_trunk, fork_left, not_behind, early}
use Rattle.pdl_theory_simulation.proofs.Seats.{Live, seat, each_map, Ordered, Rises, Falls, sacts, dacts, lacts, lact, did, deeds_of, befores_are, pends, youngest_all, length_pends}
use Rattle.pdl_theory_simulation.proofs.Choices.{has_owner, Matched, Seated, fetched_of, one_stage, waits_are, env_is, port_is, Known, AllKnown, Tells, act_is}
use Rattle.pdl_theory_simulation.proofs.Sayings.{moves_in, Foretold, MovesForeseen, AllForeseen, FailsAlike, fails_here, fails_unchecked}
use Rattle.pdl_theory_simulation.proofs.ThreadFacts.{someone, someone_more, behind_someone, sides, sides_append, Pair, pairs, sorted, lives_of, EachPair, pair_map, pair_both, sorted_each, each_sorted, pairs_each, rises_sorted, fails_none, all_pairs, later_older, view_older}
use Rattle.pdl_word.specs.Each.{Each}
use Rattle.pdl_theory_simulation.proofs.ForkListSteps.{unchecked_trunk}

-- THE OLDER PART

older_ordered : (p : Pipe) (ys : List Live) (l : Live) (older : List Live) → Ordered p (ys ++ l ∷ older) → Ordered p (l ∷ older)
older_ordered p [] l older o = o
older_ordered p (y ∷ ys) l older o = older_ordered p ys l older o.1

older_each : (A : Live → Type 0) (ys : List Live) (l : Live) (older : List Live) → Each A (ys ++ l ∷ older) → Each A (l ∷ older)
older_each A [] l older h = h
older_each A (y ∷ ys) l older h = older_each A ys l older h.1

older_falls : (n : ℕ) (ys : List Live) (l : Live) (older : List Live) → Falls n (ys ++ l ∷ older) → Falls l.number older
older_falls n [] l older f = f.1
older_falls n (y ∷ ys) l older f = older_falls y.number ys l older f.1

younger_behind : (p : Pipe) (ys : List Live) (l : Live) (older : List Live) → Ordered p (ys ++ l ∷ older)
    → Each (λ y. Behind p y.thread.stage l.thread.stage) ys
younger_behind p [] l older o = tt
younger_behind p (y ∷ ys) l older o = (first ys o.0, younger_behind p ys l older o.1)
  where
    first : (zs : List Live) → Each (λ k. Behind p y.thread.stage k.thread.stage) (zs ++ l ∷ older) → Behind p y.thread.stage l.thread.stage
    first [] b = b.0
    first (z ∷ zs) b = first zs b.1

any_not : {X : Type 0} → (test : X → Bool) (xs : List X) → list_any test xs ≡ not (list_all (λ x. not (test x)) xs)
any_not test [] = refl
any_not test (x ∷ xs) = at (test x) (any_not test xs)
  where
    at : (b : Bool) → list_any test xs ≡ not (list_all (λ x. not (test x)) xs) → (b || list_any test xs) ≡ not (not b && list_all (λ x. not (test x)) xs)
    at true h = refl
    at false h = h

-- FORK LISTS

nobody_append : (xs ys : List Bool) → is_nobody (xs ++ ys) ≡ (is_nobody xs && is_nobody ys)
nobody_append [] ys = refl
nobody_append (x ∷ xs) ys = refl

nobody_side : (f : ℕ) (bs : List Branch) → is_nobody (sides_of f bs) ≡ not (list_any (λ b. b.fork == f) bs)
nobody_side f [] = refl
nobody_side f (x ∷ bs) = at (x.fork == f) (nobody_side f bs)
  where
    at : (c : Bool)
        → is_nobody (sides_of f bs) ≡ not (list_any (λ b. b.fork == f) bs)
        → is_nobody ((if c then x.first ∷ [] else []) ++ sides_of f bs) ≡ not (c || list_any (λ b. b.fork == f) bs)
    at true h = refl
    at false h = h

-- nobody is inside where the list is empty
pub sides_nobody : (p : Pipe) (d : Derived.State) (bits : List Bool) (f : ℕ) (ls : List Live)
    → is_nobody (sides p f ls) ≡ list_all (λ (o : Derived.Act). not (is_inside p f o.before.stage)) (dacts p d bits ls)
sides_nobody p d bits f [] = refl
sides_nobody p d bits f (l ∷ ls) =
    nobody_append (sides p f ls) _ ∙ ap₂ (λ a b. a && b) (sides_nobody p d bits f ls) (nobody_side f (stage_at p l.thread.stage).branches)
    ∙ comm (list_all (λ (o : Derived.Act). not (is_inside p f o.before.stage)) (dacts p d bits ls)) (not (is_inside p f l.thread.stage))
  where
    comm : (a b : Bool) → (a && b) ≡ (b && a)
    comm true true = refl
    comm true false = refl
    comm false true = refl
    comm false false = refl

-- threads outside a fork add nothing to its list
pub sides_none : (p : Pipe) (f : ℕ) (ls : List Live) → Each (λ k. is_inside p f k.thread.stage ≡ false) ls → sides p f ls ≡ []
sides_none p f [] h = refl
sides_none p f (l ∷ ls) h = ap₂ (λ a b. a ++ b) (sides_none p f ls h.1) (sides_outside f (stage_at p l.thread.stage).branches h.0)

-- all entries of a list are this one
abbrev AllAre : Bool → List Bool → Type 0
AllAre b [] = Unit {0}
AllAre b (c ∷ cs) = (c ≡ b) × AllAre b cs

are_append : (b : Bool) (xs ys : List Bool) → AllAre b xs → AllAre b ys → AllAre b (xs ++ ys)
are_append b [] ys h k = k
are_append b (x ∷ xs) ys h k = (h.0, are_append b xs ys h.1 k)

first_other : (b : Bool) (xs rest : List Bool) → AllAre (not b) xs → is_first b (xs ++ b ∷ rest) ≡ is_nobody xs
first_other true [] rest h = refl
first_other false [] rest h = refl
first_other true (x ∷ xs) rest h = h.0
first_other false (x ∷ xs) rest h = ap not h.0

module _ (p : Pipe) (flows : Flows p) (st : State) (d : Derived.State) (bits : List Bool) (arrays : DifferInAdvice p st.arrays d.arrays) where
  -- the stated acts of these threads with their older ones, as the derived machine decides them
  abbrev pub acts_of : List Pair → List Moves.Act
  acts_of [] = []
  acts_of (x ∷ xs) = lact p st d bits x.older x.live ∷ acts_of xs

  -- the acts of all live threads with their older ones are those in the order of age
  pub acts_pairs : (ls : List Live) → acts_of (pairs ls) ≡ lacts p st d bits ls
  acts_pairs [] = refl
  acts_pairs (l ∷ ls) = ap (λ l'. lact p st d bits ls l ∷ l') (acts_pairs ls)

  all_acts_of : (test : Moves.Act → Bool) (xs : List Pair) → list_all test (acts_of xs) ≡ all_pairs (λ x. test (lact p st d bits x.older x.live)) xs
  all_acts_of test [] = refl
  all_acts_of test (x ∷ xs) = ap (λ b. test (lact p st d bits x.older x.live) && b) (all_acts_of test xs)

  -- a branch's stage fails no verify and has no barrier
  pub plain_branch : (l : Live) (x : Branch) (c : List Branch) → Home p (x ∷ c) l.thread.stage
      → ((deeds_of p st bits l).fails ≡ false) × ((deeds_of p st bits l).barrier ≡ false)
  plain_branch l x c e = fails_none (Machine.word_for st l.number) (in_stage l.thread.stage p.stmts) (record {
    env = Machine.with_kept (with_answers p st bits (seat l)).kept l.env;
    advice = l.advice;
    guess = l.thread.guess;
    held = Machine.held_before l.thread.stage l.env p.stmts [];
    blocks = [];
    reserves = [];
    writes = [];
    releases = [];
    asks = [];
    advises = [];
    barrier = false;
    child = None;
    fails = false;
  }) (flows.branches x c l.thread.stage e)

  -- what is known of each live thread, behind the older ones
  pub known_pairs : (ls : List Live) → AllKnown p flows st d bits arrays ls → EachPair (λ x. Known p flows st d bits arrays x.older x.live) (pairs ls)
  known_pairs [] k = tt
  known_pairs (l ∷ ls) k = (k.0, known_pairs ls k.1)

  -- each live thread that moves in the stated machine says what it was given
  abbrev pub AllForetold : List Live → Type 0
  AllForetold ls = EachPair (λ y. Foretold p flows st d bits arrays y.older y.live) (pairs ls)

  older_known : (ys : List Live) (l : Live) (older : List Live) → AllKnown p flows st d bits arrays (ys ++ l ∷ older)
      → AllKnown p flows st d bits arrays (l ∷ older)
  older_known [] l older k = k
  older_known (y ∷ ys) l older k = older_known ys l older k.1

  module _ (all : List Live) (matched : (m : ℕ) → Matched (request_of st m) (asked_at d m) m all) where
    -- what is known of each, where the lists are the live threads' entries
    pub known_all : (n : ℕ) (ls : List Live) → Each (Seated p st) ls → Ordered p ls → Falls n ls
        → ((m a k : ℕ) → k < n → youngest (lock_of st m) k a Nothing ≡ youngest (pends m ls) k a Nothing)
        → ((m : ℕ) → someone (reserve_stage p m) ls ≡ true → lock_of st m ≡ pends m ls)
        → AllKnown p flows st d bits arrays ls
    known_all n [] s o f g h = tt
    known_all n (l ∷ ls) s o f g h = (
      record {
        seated = s.0;
        waits = waits_are p flows st d bits arrays l.number l.thread.awaits s.0.owned;
        values = env_is p flows st d bits arrays all matched l s.0;
        older =
            λ m a. seen m a l.number f.0 (le-ltb l.number l.number (le_refl l.number)) ∙ youngest_all m l.number a ls f.1 ∙ ap (λ ts. latest ts m a)
            (sym (befores_are p d bits ls));
        room = λ m e. ap (λ ts. pending ts m) (befores_are p d bits ls) ∙ sym (ap length (whole m (mine m e) (omega arith)) ∙ length_pends m ls);
      },
      known_all l.number ls s.1 o.1 f.1
          (λ m a k i. seen m a k (let j = f.0 in omega arith) (le-ltb l.number k (let j = f.0 in omega arith)))
          (λ m i. whole m (someone_more (reserve_stage p m) l ls i) (low m (behind_someone p l.thread.stage (reserve_stage p m) ls o.0 i))),
    )
      where
        mine : (m : ℕ) → l.thread.stage ≡ reserve_stage p m → someone (reserve_stage p m) (l ∷ ls) ≡ true
        mine m e = ap (λ b. b || someone (reserve_stage p m) ls) (eq-eqb _ _ e)

        low : (m : ℕ) → Behind p l.thread.stage (reserve_stage p m) → l.thread.stage ≤ reserve_stage p m
        low m b = by (nat_le l.thread.stage (reserve_stage p m)) refl
          where
            by : (c : Bool) → nat_le l.thread.stage (reserve_stage p m) ≡ c → l.thread.stage ≤ reserve_stage p m
            by true e = leb-true _ _ e
            by false e =
                absurd
                (let i : reserve_stage p m < reserve_stage p m = left_trunk p _ _ b (reserve_stage p m) (flows.trunk_reserve m)
                (let j = leb-false _ _ e in omega arith) in omega arith)

        seen : (m a k : ℕ) → k < n → nat_lt l.number k ≡ false → youngest (lock_of st m) k a Nothing ≡ youngest (pends m ls) k a Nothing
        seen m a k i j =
            g m a k i ∙ youngest_append (pends m ls) (pend m l.number l.thread.entries) k a Nothing ∙ youngest_other m l.number k a l.thread.entries _ j

        whole : (m : ℕ) → someone (reserve_stage p m) (l ∷ ls) ≡ true → l.thread.stage ≤ reserve_stage p m → lock_of st m ≡ pends m ls
        whole m i j =
            h m i ∙ ap (λ x. pends m ls ++ x) (pend_own m l.number l.thread.entries ∙ ap (pend m l.number) (early p flows l.env l.thread s.0.keeps_on m j))
            ∙ append-nil (pends m ls)

    no_failure : (ls : List Live) → EachPair (λ y. FailsAlike p flows st d bits arrays y.older y.live) (pairs ls)
        → Moves.no_failure (lacts p st d bits ls) ≡ list_all (λ (o : Derived.Act). not (o.moves && o.work.fails)) (dacts p d bits ls)
    no_failure [] k = refl
    no_failure (l ∷ ls) k = ap₂ (λ x y. not x && y) k.0 (no_failure ls k.1)

    clear_is : (v s : ℕ) (ls : List Live) → Each (λ k. s < k.thread.stage) ls
        → Moves.none_up_to (Some v) (lacts p st d bits ls) ≡ Derived.barrier_clear (Some v) s (befores (dacts p d bits ls))
    clear_is v s [] b = refl
    clear_is v s (l ∷ ls) b = ap₂ (λ x y. (x || nat_lt v l.thread.stage) && y) (sym (off (nat_le l.thread.stage s) refl)) (clear_is v s ls b.1)
      where
        off : (c : Bool) → nat_le l.thread.stage s ≡ c → nat_le l.thread.stage s ≡ false
        off true e = absurd (let i = leb-true _ _ e in let j = b.0 in omega arith)
        off false e = e

    enters : (q : ℕ) (ls : List Live)
        → list_all (λ (o : Moves.Act). not (o.stage == q) || o.moves) (lacts p st d bits ls)
        ≡ list_all (λ (o : Derived.Act). not (o.before.stage == q) || o.moves) (dacts p d bits ls)
    enters q [] = refl
    enters q (l ∷ ls) = ap (λ y. (not (l.thread.stage == q) || (did p d bits ls l).moves) && y) (enters q ls)

    -- the thread of a request's owner awaits it
    awaiting : (n m bound : ℕ) (ls : List Live) → Falls bound ls → has_owner n m ls ≡ true → Each (λ k. k.number ≡ n → awaits_mem k.thread.awaits m ≡ true) ls
    awaiting n m bound [] f h = tt
    awaiting n m bound (l ∷ ls) f h = at (l.number == n) refl (awaits_mem l.thread.awaits m) refl h (λ i. awaiting n m l.number ls f.1 i)
      where
        none : (b : ℕ) (ks : List Live) → Falls b ks → b ≤ n → has_owner n m ks ≡ false
        none b [] f i = refl
        none b (k ∷ ks) f i =
            ap₂ (λ c e. (c && awaits_mem k.thread.awaits m) || e) (ne_eqb k.number n (λ e. absurd (let j = f.0 in omega arith)))
            (none k.number ks f.1 (let j = f.0 in omega arith))

        others : (b : ℕ) (ks : List Live) → Falls b ks → b ≤ n → Each (λ k. k.number ≡ n → awaits_mem k.thread.awaits m ≡ true) ks
        others b [] f i = tt
        others b (k ∷ ks) f i = ((λ e. absurd (let j = f.0 in omega arith)), others k.number ks f.1 (let j = f.0 in omega arith))

        at : (b : Bool) → (l.number == n) ≡ b → (c : Bool) → awaits_mem l.thread.awaits m ≡ c
            → ((b && c) || has_owner n m ls) ≡ true
            → (has_owner n m ls ≡ true → Each (λ k. k.number ≡ n → awaits_mem k.thread.awaits m ≡ true) ls)
            → Each (λ k. k.number ≡ n → awaits_mem k.thread.awaits m ≡ true) (l ∷ ls)
        at true e true g i r = ((λ j. g), others l.number ls f.1 (let j = eqb-true _ _ e in omega arith))
        at true e false g i r = absurd (cc (sym (none l.number ls f.1 (let j = eqb-true _ _ e in omega arith)) ∙ i))
        at false e c g i r = ((λ j. absurd (eqb-false _ _ e j)), r i)

    module _ (bound : ℕ) (seated : Each (Seated p st) all) (ordered : Ordered p all) (falls : Falls bound all)
        (known : AllKnown p flows st d bits arrays all) (forks : (f : ℕ) → fork_of st f ≡ sides p f all) where
      module _ (ys : List Live) (l : Live) (older : List Live) (is : all ≡ ys ++ l ∷ older) (later : List Pair) (hi : ℕ)
          (rises : Rises (suc l.thread.stage) hi (lives_of later))
          (up : (A : Pair → Type 0) → EachPair A (pairs all) → EachPair A later)
          (down : (A : Pair → Type 0) → EachPair A later → EachPair (λ y. suc l.thread.stage ≤ y.live.thread.stage → A y) (pairs all))
          (foreseen : EachPair (λ y. MovesForeseen p flows st d bits arrays y.older y.live) later) where
        mine : AllKnown p flows st d bits arrays (l ∷ older)
        mine = older_known ys l older (subst (λ x. AllKnown p flows st d bits arrays x) is known)

        behind : Each (λ k. Behind p l.thread.stage k.thread.stage) older
        behind = (older_ordered p ys l older (subst (λ x. Ordered p x) is ordered)).0

        young : Each (λ y. Behind p y.thread.stage l.thread.stage) ys
        young = younger_behind p ys l older (subst (λ x. Ordered p x) is ordered)

        older_seated : Each (Seated p st) older
        older_seated = (older_each (Seated p st) ys l older (subst (λ x. Each (Seated p st) x) is seated)).1

        -- a test of the acts of later stages is one of the older threads' acts
        tested : (test : Moves.Act → Bool)
            → EachPair
            (λ y. (Behind p y.live.thread.stage l.thread.stage → l.thread.stage < y.live.thread.stage → test (lact p st d bits y.older y.live) ≡ true)
            × (Behind p l.thread.stage y.live.thread.stage → y.live.thread.stage ≤ l.thread.stage → test (lact p st d bits y.older y.live) ≡ true))
            (pairs all)
            → list_all test (acts_of later) ≡ list_all test (lacts p st d bits older)
        tested test spec =
            all_acts_of test later
            ∙ later_older p (λ x. test (lact p st d bits x.older x.live)) all ys l older later hi is ordered rises up down spec
            ∙ sym (all_acts_of test (pairs older)) ∙ ap (list_all test) (acts_pairs older)

        -- a thread in another order by stage than by age stands in a branch
        branch_if : (A : Type 0) (s : ℕ) → (Trunk p s → ⊥) → ((x : Branch) (c : List Branch) → Home p (x ∷ c) s → A) → A
        branch_if A s none some = at (stage_at p s).branches refl
          where
            at : (b : List Branch) → (stage_at p s).branches ≡ b → A
            at [] e = absurd (none e)
            at (x ∷ c) e = some x c e

        -- each older thread fails alike in both machines: it stands in a later stage, or in a branch
        fails_older : EachPair (λ y. FailsAlike p flows st d bits arrays y.older y.live) (pairs older)
        fails_older =
            pair_both (λ y f g. f g) (pairs older)
            (pair_both alike (pairs older) (known_pairs older mine.1) (pairs_each (λ k. Behind p l.thread.stage k.thread.stage) older behind))
            (view_older (λ y. suc l.thread.stage ≤ y.live.thread.stage → MovesForeseen p flows st d bits arrays y.older y.live) ys l older
            (subst (λ x. EachPair (λ y. suc l.thread.stage ≤ y.live.thread.stage → MovesForeseen p flows st d bits arrays y.older y.live) (pairs x)) is
            (down (λ y. MovesForeseen p flows st d bits arrays y.older y.live) foreseen)))
          where
            irreflexive : {s : ℕ} → s < s → ⊥
            irreflexive i = omega arith

            alike : (y : Pair) → Known p flows st d bits arrays y.older y.live → Behind p l.thread.stage y.live.thread.stage
                → (suc l.thread.stage ≤ y.live.thread.stage → MovesForeseen p flows st d bits arrays y.older y.live)
                → FailsAlike p flows st d bits arrays y.older y.live
            alike y k b g = at (nat_le y.live.thread.stage l.thread.stage) refl
              where
                at : (c : Bool) → nat_le y.live.thread.stage l.thread.stage ≡ c → FailsAlike p flows st d bits arrays y.older y.live
                at true e =
                    branch_if _ y.live.thread.stage (λ t. irreflexive (left_trunk p _ _ b y.live.thread.stage t (leb-true _ _ e)))
                    (λ x c h. fails_unchecked p flows st d bits arrays y.older y.live
                    (unchecked_trunk (in_stage y.live.thread.stage p.stmts) (flows.branches x c y.live.thread.stage h)) (plain_branch y.live x c h).0)
                at false e = fails_here p flows st d bits arrays y.older y.live k (g (leb-false _ _ e))

        fails_same : Moves.no_failure (acts_of later) ≡ list_all (λ (o : Derived.Act). not (o.moves && o.work.fails)) (dacts p d bits older)
        fails_same =
            tested (λ o. not (o.moves && o.does.fails))
            (pair_map (λ y k. (
              (λ b i. branch_if _ y.live.thread.stage (λ e. clash (left_trunk p _ _ b y.live.thread.stage e (le_refl _)) i)
                  (λ x c e. calm (did p d bits y.older y.live).moves (plain_branch y.live x c e).0)),
              (λ b i. branch_if _ y.live.thread.stage
                  (λ e. irreflexive (left_trunk p _ _ b y.live.thread.stage e i))
                  (λ x c e. calm (did p d bits y.older y.live).moves (plain_branch y.live x c e).0)),
            )) (pairs all) (known_pairs all known))
            ∙ no_failure older fails_older
          where
            clash : {s q : ℕ} → s < q → q < s → ⊥
            clash i j = omega arith

            irreflexive : {s : ℕ} → s < s → ⊥
            irreflexive i = omega arith

            calm : (b : Bool) {c : Bool} → c ≡ false → not (b && c) ≡ true
            calm true e = ap not e
            calm false e = refl

        -- the thread in the stage of m's delayed read is younger than the owner of a request to m
        not_owner : (n m : ℕ) → none_of (is_delayed_read m) (in_stage l.thread.stage p.stmts) ≡ false → (y : Live)
            → Seated p st y → (Leads p l.thread.stage y.thread.stage → ⊥)
            → ((y.number == n) && awaits_mem y.thread.awaits m) ≡ false
        not_owner n m g y seat_y away = at (y.number == n) (awaits_mem y.thread.awaits m) refl
          where
            at : (b c : Bool) → awaits_mem y.thread.awaits m ≡ c → (b && c) ≡ false
            at true true e =
                absurd (let k = fetched_of p y.thread.stage m y.thread.awaits seat_y.keeps_on.fetched e in
                away (subst (λ s. Leads p s y.thread.stage) (one_stage (is_delayed_read m) p.stmts k.0 l.thread.stage (flows.one_fetch m) k.2 g) k.1))
            at true false e = refl
            at false c e = refl

        owner_older : (n m : ℕ) → none_of (is_delayed_read m) (in_stage l.thread.stage p.stmts) ≡ false → has_owner n m all ≡ true → has_owner n m older ≡ true
        owner_older n m g h =
            first ys young (subst (λ x. Each (Seated p st) x) is seated) (subst (λ x. has_owner n m x ≡ true) is h)
          where
            self : Leads p l.thread.stage l.thread.stage → ⊥
            self k = let i = (flows.graph.up l.thread.stage l.thread.stage k).0 in omega arith

            first : (zs : List Live) → Each (λ y. Behind p y.thread.stage l.thread.stage) zs
                → Each (Seated p st) (zs ++ l ∷ older) → has_owner n m (zs ++ l ∷ older) ≡ true
                → has_owner n m older ≡ true
            first [] b s i = ap (λ c. c || has_owner n m older) (sym (not_owner n m g l s.0 self)) ∙ i
            first (z ∷ zs) b s i =
                first zs b.1 s.1
                (ap (λ c. c || has_owner n m (zs ++ l ∷ older))
                (sym (not_owner n m g z s.0 (λ k. not_behind p flows.graph l.thread.stage z.thread.stage k b.0))) ∙ i)

        port_same : (m : ℕ) → none_of (is_delayed_read m) (in_stage l.thread.stage p.stmts) ≡ false
            → is_free (request_of st m) (is_answered p bits m) (acts_of later) ≡ port_free p d bits (dacts p d bits older) m
        port_same m g =
            at (request_of st m) refl
            ∙ port_is p flows st d bits arrays all matched m l.number older older_seated (older_falls bound ys l older (subst (λ x. Falls bound x) is falls))
            (λ n a e. owner_older n m g (owned n a e))
          where
            owned : (n a : ℕ) → request_of st m ≡ Owned n a → has_owner n m all ≡ true
            owned n a e = (subst (λ q. Matched q (asked_at d m) m all) e (matched m)).1

            off : (b c : Bool) → (b ≡ true → ⊥) → not (b && c) ≡ true
            off true c n = absurd (n refl)
            off false c n = refl

            at : (q : Request) → request_of st m ≡ q
                → is_free (request_of st m) (is_answered p bits m) (acts_of later) ≡ is_free (request_of st m) (is_answered p bits m) (lacts p st d bits older)
            at NoRequest e =
                ap (λ q. is_free q (is_answered p bits m) (acts_of later)) e ∙ sym (ap (λ q. is_free q (is_answered p bits m) (lacts p st d bits older)) e)
            at (Orphan a) e =
                ap (λ q. is_free q (is_answered p bits m) (acts_of later)) e ∙ sym (ap (λ q. is_free q (is_answered p bits m) (lacts p st d bits older)) e)
            at (Owned n a) e =
                ap (λ q. is_free q (is_answered p bits m) (acts_of later)) e
                ∙ ap (λ x. is_answered p bits m && x)
                (any_not (λ (o : Moves.Act). (o.thread.number == n) && o.moves) (acts_of later)
                ∙ ap not (tested (λ o. not ((o.thread.number == n) && o.moves))
                (pair_both (λ y w s. (
                  (λ b i. off _ _ (λ j. not_behind p flows.graph l.thread.stage y.live.thread.stage (leads y.live s (w (eqb-true _ _ j))) b)),
                  (λ b i. off _ _ (λ j. let u = (flows.graph.up l.thread.stage y.live.thread.stage (leads y.live s (w (eqb-true _ _ j)))).0 in omega arith)),
                ))
                (pairs all) (pairs_each (λ k. k.number ≡ n → awaits_mem k.thread.awaits m ≡ true) all (awaiting n m bound all falls (owned n a e)))
                (pairs_each (Seated p st) all seated)))
                ∙ sym (any_not (λ (o : Moves.Act). (o.thread.number == n) && o.moves) (lacts p st d bits older)))
                ∙ sym (ap (λ q. is_free q (is_answered p bits m) (lacts p st d bits older)) e)
              where
                leads : (y : Live) → Seated p st y → awaits_mem y.thread.awaits m ≡ true → Leads p l.thread.stage y.thread.stage
                leads y s w =
                    let k = fetched_of p y.thread.stage m y.thread.awaits s.keeps_on.fetched w in
                    subst (λ s. Leads p s y.thread.stage) (one_stage (is_delayed_read m) p.stmts k.0 l.thread.stage (flows.one_fetch m) k.2 g) k.1

        clear_same : Moves.barrier_clear p (acts_of later) (deeds_of p st bits l)
            ≡ (not (deeds_of p st bits l).barrier || Derived.barrier_clear (verify_stage p.stmts) l.thread.stage (befores (dacts p d bits older)))
        clear_same = at (stage_at p l.thread.stage).branches refl
          where
            clash : {s q : ℕ} → s < q → s < s → ⊥
            clash i j = omega arith

            trunk : (v : Option ℕ) → Trunk p l.thread.stage
                → Moves.none_up_to v (acts_of later) ≡ Derived.barrier_clear v l.thread.stage (befores (dacts p d bits older))
            trunk None e = refl
            trunk (Some v) e =
                tested (λ o. nat_lt v o.stage)
                (pair_map (λ y k. (
                  (λ b i. absurd (clash i (left_trunk p _ _ b l.thread.stage e (let j = i in omega arith)))),
                  (λ b i. absurd (let j : l.thread.stage < y.live.thread.stage = left_trunk p _ _ b l.thread.stage e
                      (le_refl _) in omega arith)),
                )) (pairs all) (known_pairs all known))
                ∙ clear_is v l.thread.stage older (each_map (λ k b. left_trunk p _ _ b l.thread.stage e (le_refl _)) older behind)

            at : (b : List Branch) → (stage_at p l.thread.stage).branches ≡ b
                → Moves.barrier_clear p (acts_of later) (deeds_of p st bits l)
                ≡ (not (deeds_of p st bits l).barrier || Derived.barrier_clear (verify_stage p.stmts) l.thread.stage (befores (dacts p d bits older)))
            at [] e = ap (λ x. not (deeds_of p st bits l).barrier || x) (trunk (verify_stage p.stmts) e)
            at (x ∷ c) e =
                ap (λ b. not b || Moves.none_up_to (verify_stage p.stmts) (acts_of later)) (plain_branch l x c e).1
                ∙ sym (ap (λ b. not b || Derived.barrier_clear (verify_stage p.stmts) l.thread.stage (befores (dacts p d bits older))) (plain_branch l x c e).1)

        enters_same : (q : ℕ) → Leads p l.thread.stage q
            → list_all (λ (o : Moves.Act). not (o.stage == q) || o.moves) (acts_of later)
            ≡ list_all (λ (o : Derived.Act). not (o.before.stage == q) || o.moves) (dacts p d bits older)
        enters_same q leads =
            tested (λ o. not (o.stage == q) || o.moves)
            (pair_map (λ y k. (
              (λ b i. off (y.live.thread.stage == q) _
                  (λ j. not_behind p flows.graph l.thread.stage q leads (subst (λ n. Behind p n l.thread.stage) (eqb-true _ _ j) b))),
              (λ b i. off
                  (y.live.thread.stage == q) _
                  (λ j. let u = (flows.graph.up l.thread.stage q leads).0 in let v = eqb-true _ _ j in omega arith)),
            )) (pairs all) (known_pairs all known))
            ∙ enters q older
          where
            off : (b c : Bool) → (b ≡ true → ⊥) → (not b || c) ≡ true
            off true c n = absurd (n refl)
            off false c n = refl

        -- the merge condition
        lists : (f : ℕ) → fork_of st f ≡ (sides p f older ++ sides_of f (stage_at p l.thread.stage).branches) ++ sides p f ys
        lists f = forks f ∙ ap (sides p f) is ∙ sides_append p f ys (l ∷ older)

        merge_same : (q : ℕ) → Leads p l.thread.stage q
            → Moves.merges_well p st l.thread.stage (Some q) ≡ Derived.fork_clear p (dacts p d bits older) (stage_at p q).merges
        merge_same q leads = at (stage_at p q).merges refl
          where
            at : (m : Option ℕ) → (stage_at p q).merges ≡ m
                → Moves.may_merge st m (stage_at p l.thread.stage).branches ≡ Derived.fork_clear p (dacts p d bits older) m
            at None e = refl
            at (Some f) e = by (flows.graph.merge l.thread.stage q f leads e)
              where
                straight : l.thread.stage ≡ f
                    → Moves.may_merge st (Some f) (stage_at p l.thread.stage).branches ≡ Derived.fork_clear p (dacts p d bits older) (Some f)
                straight i =
                    ap (λ s. is_its_turn s (fork_of st f)) none
                    ∙ ap is_nobody
                    (lists f ∙ ap₂ (λ a b. (sides p f older ++ a) ++ b) none (sides_none p f ys (each_map (λ y b. outside y b) ys young)) ∙ append-nil _
                    ∙ append-nil _)
                    ∙ sides_nobody p d bits f older
                  where
                    none : sides_of f (stage_at p l.thread.stage).branches ≡ []
                    none = ap (λ n. sides_of f (stage_at p n).branches) i ∙ sides_outside f (stage_at p f).branches (outside_self p flows.graph.fork_below f)

                    outside : (y : Live) → Behind p y.thread.stage l.thread.stage → is_inside p f y.thread.stage ≡ false
                    outside y b =
                        not_inside p f y.thread.stage
                        (λ x c h j.
                        let home : Home p c x.fork = (flows.graph.fork_below x c y.thread.stage h).0 in
                        let less : x.fork < l.thread.stage = fork_left p flows.graph x c y.thread.stage l.thread.stage b h
                        (within_home p c _ (subst (λ n. Home p c n) (j ∙ sym i) home)) in
                        let same = i in
                        omega arith)

                through : (x : Branch) (c : List Branch) → Home p (x ∷ c) l.thread.stage → x.fork ≡ f
                    → ((b : ℕ) → Within p (x ∷ c) b → b ≤ l.thread.stage)
                    → Moves.may_merge st (Some f) (stage_at p l.thread.stage).branches ≡ Derived.fork_clear p (dacts p d bits older) (Some f)
                through x c j i top =
                    ap (λ s. is_its_turn s (fork_of st f)) mine_side
                    ∙ ap (is_first x.first)
                    (lists f ∙ ap (λ a. (sides p f older ++ a) ++ sides p f ys) mine_side ∙ append_assoc (sides p f older) (x.first ∷ []) (sides p f ys))
                    ∙ first_other x.first (sides p f older) (sides p f ys) (others older behind)
                    ∙ sides_nobody p d bits f older
                  where
                    mine_side : sides_of f (stage_at p l.thread.stage).branches ≡ x.first ∷ []
                    mine_side = sides_inside p flows.graph.fork_below f x c l.thread.stage (within_home p _ _ j) i

                    flip : (a b : Bool) → (a ≡ b → ⊥) → a ≡ not b
                    flip true true n = absurd (n refl)
                    flip true false n = refl
                    flip false true n = refl
                    flip false false n = absurd (n refl)

                    -- an older thread in the same branch would stand past its last stage
                    twice : (k : Live)
                        → Behind p l.thread.stage k.thread.stage → (z : Branch) (e : List Branch) → Within p (z ∷ e) k.thread.stage
                        → z.fork ≡ f → z.first ≡ x.first → ⊥
                    twice k b z e h n same =
                        let around : e ≡ c = sym (flows.graph.fork_below z e k.thread.stage h).0 ∙ ap (λ m. (stage_at p m).branches) (n ∙ sym i)
                        ∙ (flows.graph.fork_below x c l.thread.stage (within_home p _ _ j)).0 in
                        let equal : z ≡ x = (λ u. record { fork = (n ∙ sym i) u; first = same u }) in
                        let here : Within p (x ∷ c) k.thread.stage = subst (λ m. Within p m k.thread.stage) (ap₂ (λ a d. a ∷ d) equal around) h in
                        let low : k.thread.stage ≤ l.thread.stage = top k.thread.stage here in
                        let less : l.thread.stage < k.thread.stage = b (x ∷ c) (within_home p _ _ j) here l.thread.stage j (le_refl _) in
                        omega arith

                    side : (k : Live)
                        → Behind p l.thread.stage k.thread.stage → (t : Bool) → is_inside p f k.thread.stage ≡ t
                        → AllAre (not x.first) (sides_of f (stage_at p k.thread.stage).branches)
                    side k b false g = subst (λ s. AllAre (not x.first) s) (sym (sides_outside f (stage_at p k.thread.stage).branches g)) tt
                    side k b true g =
                        inside_at p f k.thread.stage g
                        (λ z e h n. subst (λ s. AllAre (not x.first) s) (sym (sides_inside p flows.graph.fork_below f z e k.thread.stage h n))
                        (flip z.first x.first (λ same. twice k b z e h n same), tt))

                    others : (ks : List Live) → Each (λ k. Behind p l.thread.stage k.thread.stage) ks → AllAre (not x.first) (sides p f ks)
                    others [] b = tt
                    others (k ∷ ks) b = are_append (not x.first) (sides p f ks) _ (others ks b.1) (side k b.0 (is_inside p f k.thread.stage) refl)

                by : ((l.thread.stage ≡ f) × ((stage_at p q).branches ≡ (stage_at p l.thread.stage).branches))
                    ⊎ ((x : Branch) × ((stage_at p l.thread.stage).branches ≡ x ∷ (stage_at p q).branches) × (x.fork ≡ f)
                    × ((b : ℕ) → Within p (x ∷ (stage_at p q).branches) b → b ≤ l.thread.stage))
                    → Moves.may_merge st (Some f) (stage_at p l.thread.stage).branches ≡ Derived.fork_clear p (dacts p d bits older) (Some f)
                by (inl h) = straight h.0
                by (inr h) = through h.0 (stage_at p q).branches h.1 h.2 h.3

        entered_same : (r : Option ℕ) → next_stage p l.thread.stage (deeds_of p st bits l) ≡ r
            → (Moves.can_enter r (acts_of later) && Moves.merges_well p st l.thread.stage r) ≡ Derived.can_enter p (dacts p d bits older) r
        entered_same None e = refl
        entered_same (Some q) e =
            let leads : Leads p l.thread.stage q = ((deeds_of p st bits l).env, e, mine.0.seated.keeps_on.inside) in
            ap₂ (λ a b. a && b) (enters_same q leads) (merge_same q leads)

        tells : Tells p flows st d bits arrays older l (acts_of later)
        tells =
            record {
              fails = fails_same;
              port = port_same;
              clear = clear_same;
              enters = entered_same (next_stage p l.thread.stage (deeds_of p st bits l)) refl;
            }

        -- the stated machine decides of a thread, by those in later stages, what the derived one decides by the older ones
        pub act_same : Moves.act p st bits (acts_of later) l.thread.stage (with_answers p st bits (seat l)) ≡ lact p st d bits older l
        act_same = act_is p flows st d bits arrays older l (acts_of later) mine.0 tells

      -- where each thread stands among all of them
      seen_all : (ys xs : List Live) → all ≡ ys ++ xs → EachPair (λ x. (ys : List Live) × (all ≡ ys ++ x.live ∷ x.older)) (pairs xs)
      seen_all ys [] e = tt
      seen_all ys (x ∷ xs) e = ((ys, e), seen_all (ys ++ x ∷ []) xs (e ∙ sym (append_assoc ys (x ∷ []) xs)))

      -- who moves among these threads moves by their acts
      moves_among : (xs : List Pair)
          → EachPair (λ y. (did p d bits y.older y.live).moves ≡ true → moves_in y.live.number (acts_of xs) ≡ true) xs
      moves_among [] = tt
      moves_among (x ∷ xs) = (
        (λ e. ap₂ (λ b c. (b && c) || moves_in x.live.number (acts_of xs)) (eq-eqb x.live.number x.live.number refl) e),
        pair_map (λ y f. λ e. or_right ((x.live.number == y.live.number) && (did p d bits x.older x.live).moves) _ (f e)) xs (moves_among xs),
      )

      acts_from : (lo hi : ℕ) (xs : List Pair) → Rises lo hi (lives_of xs)
          → ((A : Pair → Type 0) → EachPair A (pairs all) → EachPair A xs)
          → ((A : Pair → Type 0) → EachPair A xs → EachPair (λ y. lo ≤ y.live.thread.stage → A y) (pairs all))
          → ((test : Moves.Act → Bool) → list_any test (sacts p st bits (lives_of xs)) ≡ true → list_any test (Moves.all_acts p st bits) ≡ true)
          → AllForetold all
          → sacts p st bits (lives_of xs) ≡ acts_of xs
      acts_from lo hi [] r up down reach told = refl
      acts_from lo hi (x ∷ xs) r up down reach told =
          step (acts_from (suc x.live.thread.stage) hi xs r.2 (λ A h. (up A h).1) below within told)
        where
          seen : (ys : List Live) × (all ≡ ys ++ x.live ∷ x.older)
          seen = (up (λ x. (ys : List Live) × (all ≡ ys ++ x.live ∷ x.older)) (seen_all [] all refl)).0

          below : (A : Pair → Type 0) → EachPair A xs → EachPair (λ y. suc x.live.thread.stage ≤ y.live.thread.stage → A y) (pairs all)
          below A h =
              pair_map (λ y f. λ i. f (let j = r.0 in omega arith) i) (pairs all)
              (down (λ y. suc x.live.thread.stage ≤ y.live.thread.stage → A y) ((λ i. absurd (omega arith)), pair_map (λ y a. λ i. a) xs h))

          within : (test : Moves.Act → Bool) → list_any test (sacts p st bits (lives_of xs)) ≡ true → list_any test (Moves.all_acts p st bits) ≡ true
          within test e = reach test (or_right (test _) _ e)

          -- where the threads in later stages move in both machines or in neither, they say what they were given
          foreseen : sacts p st bits (lives_of xs) ≡ acts_of xs → EachPair (λ y. MovesForeseen p flows st d bits arrays y.older y.live) xs
          foreseen same =
              pair_both (λ y t m. λ e. t (within _ (subst (λ these. moves_in y.live.number these ≡ true) (sym same) (m e)))) xs
              (up (λ y. Foretold p flows st d bits arrays y.older y.live) told).1 (moves_among xs)

          step : sacts p st bits (lives_of xs) ≡ acts_of xs → sacts p st bits (x.live ∷ lives_of xs) ≡ acts_of (x ∷ xs)
          step same =
              ap (λ later. Moves.act p st bits later x.live.thread.stage (with_answers p st bits (seat x.live)) ∷ later) same
              ∙ ap (λ a. a ∷ acts_of xs) (act_same seen.0 x.live x.older seen.1 xs hi r.2 (λ A h. (up A h).1) below (foreseen same))

      -- the stated acts are those that the derived machine decides, in the order of the stages
      pub acts_sorted : (hi : ℕ) → Each (λ k. k.thread.stage < hi) all
          → Moves.all_acts p st bits ≡ sacts p st bits (lives_of (sorted all))
          → AllForetold all
          → sacts p st bits (lives_of (sorted all)) ≡ acts_of (sorted all)
      acts_sorted hi inside begin told =
          acts_from 0 hi (sorted all) (rises_sorted p hi all inside ordered) (λ A h. sorted_each A all h)
          (λ A h. pair_map (λ y a. λ i. a) (pairs all) (each_sorted A all h))
          (λ test e. ap (list_any test) begin ∙ e) told

      pairs_foreseen : (ls : List Live)
          → EachPair (λ y. MovesForeseen p flows st d bits arrays y.older y.live) (pairs ls) → AllForeseen p flows st d bits arrays ls
      pairs_foreseen [] h = tt
      pairs_foreseen (l ∷ ls) h = (h.0, pairs_foreseen ls h.1)

      -- so each thread that moves in the derived machine says what it was given
      pub foreseen_all : Moves.all_acts p st bits ≡ acts_of (sorted all)
          → AllForetold all → AllForeseen p flows st d bits arrays all
      foreseen_all is told =
          pairs_foreseen all
          (pair_both (λ y t m. λ e. t (ap (moves_in y.live.number) is ∙ m e)) (pairs all) told
          (each_sorted (λ y. (did p d bits y.older y.live).moves ≡ true → moves_in y.live.number (acts_of (sorted all)) ≡ true) all
          (moves_among (sorted all))))
