-- Where the live threads stand after a cycle: in age order, in their stages, each but the youngest with its successor made.
use Rattle.std.proofs.Common.{◌≡◌, refl, sym, ap, ap₂, ◌∙◌, subst, ℕ, suc, ◌≤◌, ◌<◌, ◌⊎◌, inl, inr, Bool, true, false, ◌&&◌, ◌||◌, not, List, [], ◌∷◌, ◌++◌, length, Option, Some, None, is_some, ◌==◌, nat_lt, nat_le, cond, if◌then◌else◌, arith, ltb-true, ltb-false, leb-true, leb-false, eq-eqb}
use Rattle.std.proofs.lemmas.Bool.{eqb-true, eqb-false, ne_eqb}
use Rattle.pdl_semantics.specs.Flat.{Pipe, Branch, list_all}
use Rattle.pdl_semantics.specs.Stages.{stage_at, goes_to, is_inside}
use Rattle.pdl_semantics.specs.Machine.{State}
use Rattle.pdl_semantics.specs.Moves.{block_ready}
use Rattle.pdl_semantics.specs.Cycle.{next_thread, or_then, is_kept, if_kept}
use Rattle.pdl_semantics.specs.Cycle
use Rattle.pdl_semantics.specs.Machine
use Rattle.pdl_semantics.specs.Promises.{DifferInAdvice}
use Rattle.pdl_theory_turns.specs.Derived.{around}
use Rattle.pdl_theory_turns.specs.Derived
use Rattle.pdl_theory_simulation.proofs.FlowFacts.{Home, Within, Flows, Ways, Leads, stage_or, next_of}
use Rattle.pdl_theory_turns.proofs.Writes.{and_left, and_right}
use Rattle.pdl_theory_turns.proofs.Nested.{same_head, same_tail, within_home, Came, came_way}
use Rattle.pdl_theory_simulation.proofs.Stretches.{Behind, left_trunk, less_home, fork_left, Keeps, has_made, keeps_next, keeps_fresh}
use Rattle.pdl_theory_simulation.proofs.Seats.{Live, seat, find, each_map, Ordered, Falls, falls_up, dacts, lacts, did, now_of, work_of_live, advised}
use Rattle.pdl_theory_simulation.proofs.Choices.{Known, AllKnown, keeps_now, fit_all}
use Rattle.pdl_theory_simulation.proofs.Sayings.{AllForeseen}
use Rattle.pdl_theory_simulation.proofs.ThreadFacts.{EachPair, pairs}
use Rattle.pdl_theory_simulation.proofs.LockLists.{fell, moved_one, moved_live, stood, next_live, go_on, Agrees}
use Rattle.pdl_theory_simulation.proofs.LiveThreads.{stuck_here, childed_here, Made, MadeBehind, made, made_none, born_live, lives_next, comes_is, find_append}
use Rattle.pdl_word.specs.Each.{Each}
use Rattle.pdl_word.proofs.Each.{each_append}

-- nobody stands in stage q where all stand before it
none_found : (p : Pipe) (q : ℕ) (ls : List Live) → Each (λ k. Behind p q k.thread.stage) ls → find q ls ≡ None
none_found p q [] h = refl
none_found p q (l ∷ ls) h =
    ap (λ b. cond b (Some (seat l)) (find q ls))
    (ne_eqb l.thread.stage q (λ e. absurd (let i : q < l.thread.stage = less_home p _ _ h.0 (ap (λ n. (stage_at p n).branches) (sym e)) in omega arith)))
    ∙ none_found p q ls h.1

-- ORDER, AS THREADS MOVE

module _ (p : Pipe) (g : Ways p) where
  -- within the branches of one behind it, the older one was there before it moved
  was_there : (c : List Branch) (s b b' : ℕ) → Leads p b b' → Behind p s b → Within p c s → Within p c b' → Within p c b
  was_there c s b b' l h i j = at (came_way p c b b' (g.way b b' l) j)
    where
      at : Came p c b b' → Within p c b
      at (inl k) = k
      at (inr k) =
          let less : k.0.fork < b = fork_left p g k.0 (stage_at p b).branches s b h (subst (λ d. Within p d s) k.1 i) (within_home p _ b refl) in
          let same = k.2 in
          absurd (omega arith)

  -- a thread stays behind an older one that moves on
  pub behind_later : (s b b' : ℕ) → Leads p b b' → Behind p s b → Behind p s b'
  behind_later s b b' l h c i j r t k =
      let up : b < b' = (g.up b b' l).0 in
      let less : r < b = h c i (was_there c s b b' l h i j) r t k in
      omega arith

  -- the younger one moves on: not past one inside the fork that it merges
  moved_on : (c : List Branch) (s s' b : ℕ) → Leads p s s' → Behind p s b
      → ((f : ℕ) → (stage_at p s').merges ≡ Some f → is_inside p f b ≡ false) → Within p c s' → Within p c b
      → (r : ℕ) → Home p c r → r ≤ s' → (r < b) ⊎ ((r ≡ s') × (s' ≤ b))
  moved_on c s s' b l h clear i j r t k = at (came_way p c s s' (g.way s s' l) i)
    where
      passes : Within p c s → Home p c s' → s' ≤ b
      passes w home = by (nat_lt b s') refl
        where
          by : (d : Bool) → nat_lt b s' ≡ d → s' ≤ b
          by true e = let u = g.between c s s' b l w home (h c w j) j (ltb-true _ _ e) in absurd (cc (sym u.2 ∙ clear u.0 u.1))
          by false e = ltb-false _ _ e

      at : Came p c s s' → (r < b) ⊎ ((r ≡ s') × (s' ≤ b))
      at (inl w) = by (nat_le r s) refl
        where
          by : (d : Bool) → nat_le r s ≡ d → (r < b) ⊎ ((r ≡ s') × (s' ≤ b))
          by true e = inl (h c w j r t (leb-true _ _ e))
          by false e = let same : r ≡ s' = g.jump c s s' r l w t (leb-false _ _ e) k in inr (same, passes w (subst (λ n. Home p c n) same t))
      at (inr w) = inr (exact (entered r (within_home p c r t)), entered b j)
        where
          entered : (q : ℕ) → Within p c q → s' ≤ q
          entered q z =
              g.entry w.0 (stage_at p s).branches s' q (subst (λ n. Leads p n s') (sym w.2) l) (subst (λ d. Home p d s') w.1 w.3)
              (subst (λ d. Within p d q) w.1 z)

          exact : s' ≤ r → r ≡ s'
          exact z = omega arith

  -- nor into the stage of an older one that stands

  -- a younger thread that moves on stays behind where it enters neither the older one's stage nor the merge of a fork with that inside
  pub behind_moved : (s s' b : ℕ) → Leads p s s' → Behind p s b
      → ((f : ℕ) → (stage_at p s').merges ≡ Some f → is_inside p f b ≡ false) → (s' ≡ b → ⊥) → Behind p s' b
  behind_moved s s' b l h clear other c i j r t k = at (moved_on c s s' b l h clear i j r t k)
    where
      at : (r < b) ⊎ ((r ≡ s') × (s' ≤ b)) → r < b
      at (inl e) = e
      at (inr e) = by (s' == b) refl
        where
          by : (d : Bool) → (s' == b) ≡ d → r < b
          by true u = absurd (other (eqb-true _ _ u))
          by false u = let v = eqb-false _ _ u in let w = e.0 in let z = e.1 in omega arith

  -- a thread that moves on stays behind an older one that moves on too, where it doesn't enter the merge of a fork with that inside
  pub behind_both : (s s' b b' : ℕ) → Leads p s s' → Leads p b b' → Behind p s b
      → ((f : ℕ) → (stage_at p s').merges ≡ Some f → is_inside p f b ≡ false) → Behind p s' b'
  behind_both s s' b b' l m h clear c i j r t k = at (came_way p c b b' (g.way b b' m) j)
    where
      up : b < b'
      up = (g.up b b' m).0

      at : Came p c b b' → r < b'
      at (inl w) = by (moved_on c s s' b l h clear i w r t k)
        where
          by : (r < b) ⊎ ((r ≡ s') × (s' ≤ b)) → r < b'
          by (inl e) = let u = up in omega arith
          by (inr e) = let u = up in let v = e.0 in let z = e.1 in omega arith
      at (inr w) = absurd (from (came_way p c s s' (g.way s s' l) i))
        where
          from : Came p c s s' → ⊥
          from (inl z) =
              let less : w.0.fork < b = fork_left p g w.0 (stage_at p b).branches s b h (subst (λ d. Within p d s) w.1 z) (within_home p _ b refl) in
              let same = w.2 in
              omega arith
          from (inr z) =
              let e : (stage_at p s).branches ≡ (stage_at p b).branches = same_tail z.0 w.0 _ _ (sym z.1 ∙ w.1) in
              let less : s < b = less_home p s b h e in
              let same : z.0.fork ≡ w.0.fork = ap (λ (y : Branch). y.fork) (same_head z.0 w.0 _ _ (sym z.1 ∙ w.1)) in
              let u = z.2 in
              let v = w.2 in
              omega arith

module _ (p : Pipe) (flows : Flows p) where
  module _ (st : State) (d : Derived.State) (bits : List Bool) (arrays : DifferInAdvice p st.arrays d.arrays) where
    -- what holds of a thread where it stands and where it goes, holds of it after the cycle
    pub each_next : (A : Live → Type 0) (ls : List Live) (l : Live) → Known p flows st d bits arrays ls l
        → ((did p d bits ls l).moves ≡ false → A (stood p st d bits l))
        → ((did p d bits ls l).moves ≡ true → (q : ℕ)
        → goes_to (stage_at p l.thread.stage).next (work_of_live p d bits ls l).env ≡ Some q
        → A (moved_one q (advised p st bits l) (work_of_live p d bits ls l)))
        → Each A (next_live p st d bits ls l)
    each_next A ls l k f g = at (did p d bits ls l).moves refl
      where
        out : (did p d bits ls l).moves ≡ true → (r : Option ℕ)
            → goes_to (stage_at p l.thread.stage).next (work_of_live p d bits ls l).env ≡ r
            → Each A (moved_live r (advised p st bits l) (work_of_live p d bits ls l))
        out e None i = tt
        out e (Some q) i = (g e q i, tt)

        at : (b : Bool) → (did p d bits ls l).moves ≡ b
            → Each A
            (cond b (moved_live (goes_to (stage_at p l.thread.stage).next (work_of_live p d bits ls l).env) (advised p st bits l) (work_of_live p d bits ls l))
            (stood p st d bits l ∷ []))
        at true e = out e (goes_to (stage_at p l.thread.stage).next (work_of_live p d bits ls l).env) refl
        at false e = (f e, tt)

    -- what holds of each of two lists of live threads holds of both joined, the first of them left out where a thread fell
    pub each_on : (A : Live → Type 0) (f : Bool) (xs ys : List Live) → Each A xs → Each A ys → Each A ((if f then [] else xs) ++ ys)
    each_on A true xs ys h k = k
    each_on A false xs ys h k = each_append A xs ys h k

    -- ORDER

    -- from the stage of a live thread some path leads to the stage where it goes
    pub leads_of : (ls : List Live) (l : Live) → Known p flows st d bits arrays ls l → (q : ℕ)
        → goes_to (stage_at p l.thread.stage).next (work_of_live p d bits ls l).env ≡ Some q → Leads p l.thread.stage q
    leads_of ls l k q i = ((work_of_live p d bits ls l).env, i, k.seated.keeps_on.inside)

    -- what each of these threads becomes in the cycle has a property
    abbrev pub Becomes : (Live → Type 0) → List Live → Type 0
    Becomes A ls = EachPair (λ y. Each A (next_live p st d bits y.older y.live)) (pairs ls)

    -- and so has each of those that live on
    pub becomes_on : (A : Live → Type 0) (ls : List Live) → Becomes A ls → Each A (go_on p st d bits ls)
    becomes_on A [] h = tt
    becomes_on A (l ∷ ls) h = each_on A (fell p d bits ls) (next_live p st d bits ls l) (go_on p st d bits ls) h.0 (becomes_on A ls h.1)

    -- a thread that stays in stage s, behind all these threads, is behind whatever becomes of each of them
    pub become_stay : (s : ℕ) (ls : List Live) → AllKnown p flows st d bits arrays ls
        → Each (λ k. Behind p s k.thread.stage) ls → Becomes (λ k. Behind p s k.thread.stage) ls
    become_stay s [] k h = tt
    become_stay s (l ∷ ls) k h = (
      each_next (λ k. Behind p s k.thread.stage) ls l k.0 (λ e. h.0) (λ e q i. behind_later p flows.graph s l.thread.stage q (leads_of ls l k.0 q i) h.0),
      become_stay s ls k.1 h.1,
    )

    -- a thread in stage s that is behind all these threads is behind those of them that live on after the cycle
    pub behind_stay : (s : ℕ) (ls : List Live) → AllKnown p flows st d bits arrays ls
        → Each (λ k. Behind p s k.thread.stage) ls → Each (λ k. Behind p s k.thread.stage) (go_on p st d bits ls)
    behind_stay s ls k h = becomes_on (λ k. Behind p s k.thread.stage) ls (become_stay s ls k h)

    -- a thread that moves from behind all these threads into a stage that it can enter is behind whatever becomes of each of them
    pub become_move : (s s' : ℕ) → Leads p s s' → (ls : List Live) → AllKnown p flows st d bits arrays ls
        → Each (λ k. Behind p s k.thread.stage) ls → Derived.can_enter p (dacts p d bits ls) (Some s') ≡ true
        → Becomes (λ k. Behind p s' k.thread.stage) ls
    become_move s s' m [] k h e = tt
    become_move s s' m (l ∷ ls) k h e = (
      each_next (λ k. Behind p s' k.thread.stage) ls l k.0
          (λ i. behind_moved p flows.graph s s' l.thread.stage m h.0 clear (λ j. standing i (and_left _ _ (and_left _ _ e)) j))
          (λ i q j. behind_both p flows.graph s s' l.thread.stage q m (leads_of ls l k.0 q j) h.0 clear),
      become_move s s' m ls k.1 h.1 rest,
    )
      where
        standing : (did p d bits ls l).moves ≡ false → (not (l.thread.stage == s') || (did p d bits ls l).moves) ≡ true → s' ≡ l.thread.stage → ⊥
        standing i f j = clash (sym (ap₂ (λ b c. not b || c) (eq-eqb _ _ (sym j)) i) ∙ f)
          where
            clash : false ≡ true → ⊥
            clash u = cc

        fork_part : Derived.fork_clear p (did p d bits ls l ∷ dacts p d bits ls) (stage_at p s').merges ≡ true
        fork_part = fork_of_enter (did p d bits ls l ∷ dacts p d bits ls) e
          where
            fork_of_enter : (os : List Derived.Act) → Derived.can_enter p os (Some s') ≡ true → Derived.fork_clear p os (stage_at p s').merges ≡ true
            fork_of_enter os f =
                and_right (list_all (λ (o : Derived.Act). not (o.before.stage == s') || o.moves) os) (Derived.fork_clear p os (stage_at p s').merges) f

        clear : (f : ℕ) → (stage_at p s').merges ≡ Some f → is_inside p f l.thread.stage ≡ false
        clear f i =
            off (is_inside p f l.thread.stage) (and_left _ _ (subst (λ r. Derived.fork_clear p (did p d bits ls l ∷ dacts p d bits ls) r ≡ true) i fork_part))
          where
            off : (b : Bool) → not b ≡ true → b ≡ false
            off true u = absurd (cc u)
            off false u = refl

        rest : Derived.can_enter p (dacts p d bits ls) (Some s') ≡ true
        rest =
            ap₂ (λ a b. a && b)
            (and_right (not (l.thread.stage == s') || (did p d bits ls l).moves)
            (list_all (λ (o : Derived.Act). not (o.before.stage == s') || o.moves) (dacts p d bits ls)) (and_left _ _ e)) (tail
            (stage_at p s').merges fork_part)
          where
            tail : (r : Option ℕ) → Derived.fork_clear p (did p d bits ls l ∷ dacts p d bits ls) r ≡ true → Derived.fork_clear p (dacts p d bits ls) r ≡ true
            tail None f = refl
            tail (Some f) g = and_right _ _ g

    behind_move : (s s' : ℕ) → Leads p s s' → (ls : List Live) → AllKnown p flows st d bits arrays ls
        → Each (λ k. Behind p s k.thread.stage) ls → Derived.can_enter p (dacts p d bits ls) (Some s') ≡ true
        → Each (λ k. Behind p s' k.thread.stage) (go_on p st d bits ls)
    behind_move s s' m ls k h e = becomes_on (λ k. Behind p s' k.thread.stage) ls (become_move s s' m ls k h e)

    -- a live thread that moves can enter its next stage
    pub enters_here : (ls : List Live) (l : Live) → (did p d bits ls l).moves ≡ true
        → Derived.can_enter p (dacts p d bits ls) (goes_to (stage_at p l.thread.stage).next (work_of_live p d bits ls l).env) ≡ true
    enters_here ls l e = and_right _ _ e

    -- the threads that live on stand in age order
    pub ordered_on : (ls : List Live) → AllKnown p flows st d bits arrays ls → Ordered p ls → Ordered p (go_on p st d bits ls)
    ordered_on [] k o = tt
    ordered_on (l ∷ ls) k o = at (fell p d bits ls) (did p d bits ls l).moves refl (ordered_on ls k.1 o.1)
      where
        out : (did p d bits ls l).moves ≡ true → (r : Option ℕ)
            → goes_to (stage_at p l.thread.stage).next (work_of_live p d bits ls l).env ≡ r
            → Ordered p (go_on p st d bits ls)
            → Ordered p (moved_live r (advised p st bits l) (work_of_live p d bits ls l) ++ go_on p st d bits ls)
        out e None i r = r
        out e (Some q) i r = (
          behind_move l.thread.stage q (leads_of ls l k.0 q i) ls k.1 o.0
              (subst (λ r. Derived.can_enter p (dacts p d bits ls) r ≡ true) i (enters_here ls l e)),
          r,
        )

        at : (f b : Bool) → (did p d bits ls l).moves ≡ b → Ordered p (go_on p st d bits ls)
            → Ordered p
            ((if f then []
            else cond b
            (moved_live (goes_to (stage_at p l.thread.stage).next (work_of_live p d bits ls l).env) (advised p st bits l) (work_of_live p d bits ls l))
            (stood p st d bits l ∷ []))
            ++ go_on p st d bits ls)
        at true b e r = r
        at false true e r = out e (goes_to (stage_at p l.thread.stage).next (work_of_live p d bits ls l).env) refl r
        at false false e r = (behind_stay l.thread.stage ls k.1 o.0, r)

    -- a new thread finds stage 0 empty
    pub born_alone : (ls : List Live) → AllKnown p flows st d bits arrays ls → Ordered p ls
        → MadeBehind p flows st d bits arrays ls → (x : List ℕ) → made p flows st d bits arrays ls ≡ Some x
        → Each (λ k. 0 < k.thread.stage) (go_on p st d bits ls)
    born_alone [] k o m x e = tt
    born_alone (l ∷ ls) k o m x e = at (fell p d bits ls) refl
      where
        clash : None ≡ Some x → ⊥
        clash i = cc

        deep : Each (λ k. 0 < k.thread.stage) (go_on p st d bits ls)
        deep = each_map (λ k h. left_trunk p _ _ h 0 flows.graph.trunk_start (omega arith)) (go_on p st d bits ls) (behind_stay l.thread.stage ls k.1 o.0)

        at : (f : Bool) → fell p d bits ls ≡ f → Each (λ k. 0 < k.thread.stage) ((if f then [] else next_live p st d bits ls l) ++ go_on p st d bits ls)
        at true g = deep
        at false g =
            each_append (λ k. 0 < k.thread.stage) (next_live p st d bits ls l) (go_on p st d bits ls)
            (each_next (λ k. 0 < k.thread.stage) ls l k.0
            (λ i. absurd (clash (sym none
            ∙ sym
            (ap (λ b. if b then (if is_some (work_of_live p d bits ls l).child then
            (work_of_live p d bits ls l).child else made p flows st d bits arrays ls) else made p flows st d bits arrays ls) i)
            ∙ e)))
            (λ i q j. let u = (flows.graph.up l.thread.stage q (leads_of ls l k.0 q j)).0 in omega arith)) deep
          where
            none : made p flows st d bits arrays ls ≡ None
            none = made_none p flows st d bits arrays ls k.1 m g

    behind_zero : (b : ℕ) → 0 < b → Behind p 0 b
    behind_zero b h c i j r t k = omega arith

    -- after a cycle each live thread stands behind all older ones
    pub ordered_next : (ls : List Live) → AllKnown p flows st d bits arrays ls → Ordered p ls
        → MadeBehind p flows st d bits arrays ls → Ordered p (lives_next p flows st d bits arrays ls)
    ordered_next ls k o m = at (made p flows st d bits arrays ls) refl
      where
        at : (c : Option (List ℕ)) → made p flows st d bits arrays ls ≡ c → Ordered p (born_live p (d.hints 0) st.next c ++ go_on p st d bits ls)
        at None e = ordered_on ls k o
        at (Some x) e = (each_map (λ k h. behind_zero k.thread.stage h) (go_on p st d bits ls) (born_alone ls k o m x e), ordered_on ls k o)

    -- NUMBERS

    falls_on : (n : ℕ) (ls : List Live) → Falls n ls → Falls n (go_on p st d bits ls)
    falls_on n [] f = tt
    falls_on n (l ∷ ls) f = at (fell p d bits ls) (did p d bits ls l).moves (falls_on l.number ls f.1)
      where
        out : (r : Option ℕ)
            → Falls l.number (go_on p st d bits ls)
            → Falls n (moved_live r (advised p st bits l) (work_of_live p d bits ls l) ++ go_on p st d bits ls)
        out None g = falls_up l.number n (go_on p st d bits ls) (let i = f.0 in omega arith) g
        out (Some q) g = (f.0, g)

        at : (c b : Bool) → Falls l.number (go_on p st d bits ls)
            → Falls n
            ((if c then []
            else cond b
            (moved_live (goes_to (stage_at p l.thread.stage).next (work_of_live p d bits ls l).env) (advised p st bits l) (work_of_live p d bits ls l))
            (stood p st d bits l ∷ []))
            ++ go_on p st d bits ls)
        at true b g = falls_up l.number n (go_on p st d bits ls) (let i = f.0 in omega arith) g
        at false true g = out _ g
        at false false g = (f.0, g)

    -- after a cycle the live threads' numbers are below the next one, and fall towards the older ones
    pub falls_next : (ls : List Live) → Falls st.next ls
        → Falls (if is_some (made p flows st d bits arrays ls) then suc st.next else st.next) (lives_next p flows st d bits arrays ls)
    falls_next ls f = at (made p flows st d bits arrays ls)
      where
        at : (c : Option (List ℕ)) → Falls (if is_some c then suc st.next else st.next) (born_live p (d.hints 0) st.next c ++ go_on p st d bits ls)
        at None = falls_on st.next ls f
        at (Some x) = (omega arith, falls_on st.next ls f)

    -- SUCCESSORS

    has_next : (ls : List Live) (l : Live) → Known p flows st d bits arrays ls l → (q : ℕ)
        → goes_to (stage_at p l.thread.stage).next (work_of_live p d bits ls l).env ≡ Some q
        → has_made p (work_of_live p d bits ls l).env (next_of p l.thread.stage (work_of_live p d bits ls l).env) ≡ true
        → has_made p (work_of_live p d bits ls l).env q ≡ true
    has_next ls l k q i h = subst (λ n. has_made p (work_of_live p d bits ls l).env n ≡ true) (ap (stage_or (length p.stages)) i) h

    -- a thread that has made its successor has made it ever after
    pub made_on : (ls : List Live)
        → AllKnown p flows st d bits arrays ls → Made p flows st d bits arrays ls → Made p flows st d bits arrays (go_on p st d bits ls)
    made_on [] k m = tt
    made_on (l ∷ ls) k m =
        each_on (λ l. has_made p l.env l.thread.stage ≡ true) (fell p d bits ls) (next_live p st d bits ls l) (go_on p st d bits ls)
        (each_next (λ l. has_made p l.env l.thread.stage ≡ true) ls l k.0 (λ e. m.0)
        (λ e q i. has_next ls l k.0 q i ((childed_here p flows st d bits arrays ls l k.0).since m.0)))
        (made_on ls k.1 m.1)

    -- the one with the new thread has made it
    made_born : (ls : List Live) → AllKnown p flows st d bits arrays ls → MadeBehind p flows st d bits arrays ls
        → (x : List ℕ) → made p flows st d bits arrays ls ≡ Some x
        → Made p flows st d bits arrays (go_on p st d bits ls)
    made_born [] k m x e = tt
    made_born (l ∷ ls) k m x e = at (fell p d bits ls) refl
      where
        clash : None ≡ Some x → ⊥
        clash i = cc

        is_it : (c r : Option (List ℕ)) → r ≡ None → (if is_some c then c else r) ≡ Some x → is_some c ≡ true
        is_it None r i j = absurd (clash (sym i ∙ j))
        is_it (Some y) r i j = refl

        at : (f : Bool) → fell p d bits ls ≡ f → Made p flows st d bits arrays ((if f then [] else next_live p st d bits ls l) ++ go_on p st d bits ls)
        at true g = made_on ls k.1 m
        at false g =
            each_append (λ l. has_made p l.env l.thread.stage ≡ true) (next_live p st d bits ls l) (go_on p st d bits ls)
            (each_next (λ l. has_made p l.env l.thread.stage ≡ true) ls l k.0
            (λ i. absurd (clash (sym none
            ∙ sym
            (ap (λ b. if b then (if is_some (work_of_live p d bits ls l).child then
            (work_of_live p d bits ls l).child else made p flows st d bits arrays ls) else made p flows st d bits arrays ls) i)
            ∙ e)))
            (λ i q j. has_next ls l k.0 q j ((childed_here p flows st d bits arrays ls l k.0).called_it
            (is_it (work_of_live p d bits ls l).child (made p flows st d bits arrays ls) none
            (sym (ap (λ b. if b then
            (if is_some (work_of_live p d bits ls l).child then
            (work_of_live p d bits ls l).child else made p flows st d bits arrays ls) else made p flows st d bits arrays ls) i) ∙ e)))))
            (made_on ls k.1 m)
          where
            none : made p flows st d bits arrays ls ≡ None
            none = made_none p flows st d bits arrays ls k.1 m g

    -- each but the youngest has made its successor
    pub made_next : (ls : List Live) → AllKnown p flows st d bits arrays ls → MadeBehind p flows st d bits arrays ls
        → MadeBehind p flows st d bits arrays (lives_next p flows st d bits arrays ls)
    made_next ls k m = at (made p flows st d bits arrays ls) refl
      where
        tail_of : (xs : List Live) → Made p flows st d bits arrays xs → MadeBehind p flows st d bits arrays xs
        tail_of [] h = tt
        tail_of (x ∷ xs) h = h.1

        behind : (ks : List Live) → AllKnown p flows st d bits arrays ks → MadeBehind p flows st d bits arrays ks
            → MadeBehind p flows st d bits arrays (go_on p st d bits ks)
        behind [] k m = tt
        behind (l ∷ ks) k m = by (fell p d bits ks) (did p d bits ks l).moves
          where
            rest : Made p flows st d bits arrays (go_on p st d bits ks)
            rest = made_on ks k.1 m

            out : (r : Option ℕ) → MadeBehind p flows st d bits arrays (moved_live r (advised p st bits l) (work_of_live p d bits ks l) ++ go_on p st d bits ks)
            out None = tail_of (go_on p st d bits ks) rest
            out (Some q) = rest

            by : (f b : Bool)
                → MadeBehind p flows st d bits arrays
                ((if f then []
                else cond b
                (moved_live (goes_to (stage_at p l.thread.stage).next (work_of_live p d bits ks l).env) (advised p st bits l) (work_of_live p d bits ks l))
                (stood p st d bits l ∷ []))
                ++ go_on p st d bits ks)
            by true b = tail_of (go_on p st d bits ks) rest
            by false true = out (goes_to (stage_at p l.thread.stage).next (work_of_live p d bits ks l).env)
            by false false = rest

        at : (c : Option (List ℕ))
            → made p flows st d bits arrays ls ≡ c
            → MadeBehind p flows st d bits arrays (born_live p (d.hints 0) st.next c ++ go_on p st d bits ls)
        at None e = behind ls k m
        at (Some x) e = made_born ls k m x e

    -- WAYS

    -- a live thread keeps to its way, and its kept answers are in the derived machine's values
    abbrev pub OnWay : Live → Type 0
    OnWay l = Keeps p l.env l.thread × (Machine.with_kept l.kept l.env ≡ l.thread.env)

    -- those that live on after a cycle keep to their ways
    pub ways_on : (ls : List Live) → AllKnown p flows st d bits arrays ls → Each OnWay (go_on p st d bits ls)
    ways_on [] k = tt
    ways_on (l ∷ ls) k =
        each_on OnWay (fell p d bits ls) (next_live p st d bits ls l) (go_on p st d bits ls)
        (each_next OnWay ls l k.0 (λ e. (keeps_now p flows st d bits arrays l k.0.seated, k.0.values)) (λ e q i. (keeps_moved q i, refl)))
        (ways_on ls k.1)
      where
        keeps_moved : (q : ℕ) → goes_to (stage_at p l.thread.stage).next (work_of_live p d bits ls l).env ≡ Some q
            → Keeps p (work_of_live p d bits ls l).env (moved_one q (advised p st bits l) (work_of_live p d bits ls l)).thread
        keeps_moved q i =
            keeps_next p flows l.env (now_of p d bits l) (keeps_now p flows st d bits arrays l k.0.seated)
            (around p d bits (dacts p d bits ls) l.thread.stage l.thread.hint) (Machine.word_for st l.number) (λ b. block_ready p st l.number b)
            (λ q. Derived.port_free p d bits (dacts p d bits ls) q.mem) (fit_all p flows st d bits arrays ls l k.0) q i

    -- after a cycle all live threads keep to their ways, the new one too
    pub ways_next : (ls : List Live) → AllKnown p flows st d bits arrays ls → Each OnWay (lives_next p flows st d bits arrays ls)
    ways_next ls k = at (made p flows st d bits arrays ls)
      where
        at : (c : Option (List ℕ)) → Each OnWay (born_live p (d.hints 0) st.next c ++ go_on p st d bits ls)
        at None = ways_on ls k
        at (Some x) = ((keeps_fresh p flows (d.hints 0) x, refl), ways_on ls k)

    -- THE STAGES

    stands_left : (sq : Option ℕ) (q : ℕ) (ls : List Live) → AllKnown p flows st d bits arrays ls → AllForeseen p flows st d bits arrays ls → Ordered p ls
        → Agrees p d bits sq ls → if_kept sq (next_thread p q (lacts p st d bits ls)) ≡ find q (go_on p st d bits ls)
    stands_left sq q [] k fs o g = refl
    stands_left sq q (l ∷ ls) k fs o g =
        ap (λ t. if_kept sq (or_then t (next_thread p q (lacts p st d bits ls)))) (comes_is p flows st d bits arrays ls l q k.0 fs.0)
        ∙ at (fell p d bits ls) refl (did p d bits ls l).moves refl (stands_left sq q ls k.1 fs.1 o.1 g.1)
      where
        rest : Option Machine.Thread
        rest = next_thread p q (lacts p st d bits ls)

        hit : (t : Machine.Thread) (r : Option Machine.Thread) → t.number ≡ l.number → is_kept sq l.number ≡ true → if_kept sq (Some t) ≡ or_then (Some t) r
        hit t r e h = ap (λ b. if b then Some t else None) (ap (is_kept sq) e ∙ h)

        one : (x : Live) → x.number ≡ l.number → is_kept sq l.number ≡ true
            → if_kept sq (next_thread p q (lacts p st d bits ls)) ≡ find q (go_on p st d bits ls)
            → if_kept sq (or_then (find q (x ∷ [])) (next_thread p q (lacts p st d bits ls))) ≡ find q (x ∷ go_on p st d bits ls)
        one x e h r = by (x.thread.stage == q)
          where
            by : (b : Bool)
                → if_kept sq (or_then (cond b (Some (seat x)) None) (next_thread p q (lacts p st d bits ls)))
                ≡ cond b (Some (seat x)) (find q (go_on p st d bits ls))
            by true = hit (seat x) None e h
            by false = r

        -- a removed one stands where nobody else comes
        removed : is_kept sq l.number ≡ false → if_kept sq (next_thread p q (lacts p st d bits ls)) ≡ find q (go_on p st d bits ls)
            → if_kept sq (or_then (find q (stood p st d bits l ∷ [])) (next_thread p q (lacts p st d bits ls))) ≡ find q (go_on p st d bits ls)
        removed h r = by (l.thread.stage == q) refl
          where
            by : (b : Bool) → (l.thread.stage == q) ≡ b
                → if_kept sq (or_then (cond b (Some (seat (stood p st d bits l))) None) (next_thread p q (lacts p st d bits ls)))
                ≡ find q (go_on p st d bits ls)
            by true e =
                ap (λ b. if b then Some (seat (stood p st d bits l)) else None) h
                ∙ sym
                (none_found p q (go_on p st d bits ls)
                (subst (λ n. Each (λ k. Behind p n k.thread.stage) (go_on p st d bits ls)) (eqb-true _ _ e) (behind_stay l.thread.stage ls k.1 o.0)))
            by false e = r

        out : (r : Option ℕ) → is_kept sq l.number ≡ true → if_kept sq (next_thread p q (lacts p st d bits ls)) ≡ find q (go_on p st d bits ls)
            → if_kept sq (or_then (find q (moved_live r (advised p st bits l) (work_of_live p d bits ls l))) (next_thread p q (lacts p st d bits ls)))
            ≡ find q (moved_live r (advised p st bits l) (work_of_live p d bits ls l) ++ go_on p st d bits ls)
        out None h r = r
        out (Some s) h r = one (moved_one s (advised p st bits l) (work_of_live p d bits ls l)) refl h r

        at : (f : Bool) → fell p d bits ls ≡ f → (b : Bool) → (did p d bits ls l).moves ≡ b
            → if_kept sq (next_thread p q (lacts p st d bits ls)) ≡ find q (go_on p st d bits ls)
            → if_kept sq
            (or_then
            (find q
            (cond b (moved_live (goes_to (stage_at p l.thread.stage).next (work_of_live p d bits ls l).env) (advised p st bits l) (work_of_live p d bits ls l))
            (stood p st d bits l ∷ [])))
            (next_thread p q (lacts p st d bits ls)))
            ≡ find q
            ((if f then [] else cond b
            (moved_live (goes_to (stage_at p l.thread.stage).next (work_of_live p d bits ls l).env) (advised p st bits l) (work_of_live p d bits ls l))
            (stood p st d bits l ∷ [])) ++ go_on p st d bits ls)
        at true e true i r = absurd (cc (sym i ∙ stuck_here p flows st d bits arrays ls l e))
        at true e false i r = removed (g.0 ∙ ap not e) r
        at false e true i r = out (goes_to (stage_at p l.thread.stage).next (work_of_live p d bits ls l).env) (g.0 ∙ ap not e) r
        at false e false i r = one (stood p st d bits l) refl (g.0 ∙ ap not e) r

    newborn : (q n : ℕ) (c : Option (List ℕ)) → (if q == 0 then Cycle.born_thread p n c else None) ≡ find q (born_live p (d.hints 0) n c)
    newborn q n None = at (q == 0)
      where
        at : (b : Bool) → cond b (Cycle.born_thread p n None) None ≡ None
        at true = refl
        at false = refl
    newborn q n (Some x) = ap (λ b. cond b (Cycle.born_thread p n (Some x)) None) (flip q 0)
      where
        flip : (a b : ℕ) → (a == b) ≡ (b == a)
        flip a b = at (a == b) refl (b == a) refl
          where
            at : (x : Bool) → (a == b) ≡ x → (y : Bool) → (b == a) ≡ y → x ≡ y
            at true e true f = refl
            at true e false f = absurd (eqb-false b a f (sym (eqb-true a b e)))
            at false e true f = absurd (eqb-false a b e (sym (eqb-true b a f)))
            at false e false f = refl

    -- who stands in a stage after the cycle is the live thread that is found there then
    pub stage_is : (sq : Option ℕ) (q : ℕ) (ls : List Live)
        → AllKnown p flows st d bits arrays ls → AllForeseen p flows st d bits arrays ls → Ordered p ls → Agrees p d bits sq ls
        → or_then (if q == 0 then Cycle.born_thread p st.next (made p flows st d bits arrays ls) else None)
        (if_kept sq (next_thread p q (lacts p st d bits ls)))
        ≡ find q (lives_next p flows st d bits arrays ls)
    stage_is sq q ls k fs o g =
        ap₂ or_then (newborn q st.next (made p flows st d bits arrays ls)) (stands_left sq q ls k fs o g)
        ∙ sym (find_append q (born_live p (d.hints 0) st.next (made p flows st d bits arrays ls)) (go_on p st d bits ls))
