-- After a cycle a fork's list holds the branches of just the threads inside it, oldest first.
use Rattle.std.proofs.Common.{◌≡◌, refl, sym, ap, ap₂, ◌∙◌, subst, ℕ, suc, length, ◌≤◌, ◌<◌, ◌⊎◌, inl, inr, Bool, true, false, ◌&&◌, ◌||◌, not, List, [], ◌∷◌, ◌++◌, Option, Some, None, ◌==◌, cond, if◌then◌else◌, arith, append-nil, eq-eqb, le_refl}
use Rattle.std.proofs.lemmas.Bool.{eqb-true, eqb-false, ne_eqb}
use Rattle.pdl_semantics.specs.Flat.{Pipe, Branch, list_all}
use Rattle.pdl_semantics.specs.Stages.{in_stage, stage_at, goes_to, list_any, is_inside, sides_of, merges_fork}
use Rattle.pdl_semantics.specs.Machine.{State}
use Rattle.pdl_semantics.specs.Moves.{movers, next_stage, is_nobody}
use Rattle.pdl_semantics.specs.Cycle.{entered_branches, goes_into, goes_out, has_left, but_first, merges_by, squash_stage}
use Rattle.pdl_semantics.specs.Cycle
use Rattle.pdl_semantics.specs.Moves
use Rattle.pdl_semantics.specs.Promises.{DifferInAdvice}
use Rattle.pdl_theory_turns.specs.Derived.{Work, around}
use Rattle.pdl_theory_turns.specs.Derived
use Rattle.pdl_theory_turns.specs.Scans.{none_of}
use Rattle.pdl_theory_turns.proofs.Nested.{within_home, came_from_way, inside_at, not_inside, inside_of, sides_outside, sides_other, outside_self, sides_inside}
use Rattle.pdl_theory_simulation.proofs.FlowFacts.{Home, Within, Trunk, Way, Flows, Leads}
use Rattle.pdl_theory_turns.proofs.Writes.{and_right}
use Rattle.pdl_theory_simulation.proofs.Stretches.{Behind, left_trunk, fork_left, start_of}
use Rattle.pdl_theory_simulation.proofs.Seats.{Live, each_map, Ordered, dacts, lacts, lact, did, now_of, deeds_of, work_of_live, advised}
use Rattle.pdl_theory_simulation.proofs.Choices.{Known, AllKnown, like_here}
use Rattle.pdl_theory_simulation.proofs.Sayings.{MovesForeseen, AllForeseen}
use Rattle.pdl_theory_simulation.proofs.ThreadFacts.{someone, behind_someone, sides, sides_append}
use Rattle.pdl_theory_simulation.proofs.Orders.{sides_none, sides_nobody}
use Rattle.pdl_theory_simulation.proofs.LockLists.{fell, moved_live, stood, next_live, go_on}
use Rattle.pdl_theory_simulation.proofs.LiveThreads.{stuck_here, born_live, squash_stage_is, no_squash_stage}
use Rattle.pdl_theory_simulation.proofs.ThreadPlaces.{behind_stay, leads_of, enters_here, each_next}
use Rattle.pdl_theory_turns.proofs.Guesses.{unfailed}
use Rattle.pdl_semantics.specs.Stages.{is_check}
use Rattle.pdl_word.specs.Each.{Each}
use Rattle.pdl_word.proofs.Each.{each_append}
use Rattle.pdl_theory_simulation.proofs.ForkListSteps.{unchecked_trunk, list_neutral, list_inside, list_leaves}

module _ (p : Pipe) (flows : Flows p) (st : State) (d : Derived.State) (bits : List Bool) (arrays : DifferInAdvice p st.arrays d.arrays) where
  -- the live threads after the cycle, if no squash removes any
  abbrev pub all_on : List Live → List Live
  all_on [] = []
  all_on (l ∷ ls) = next_live p st d bits ls l ++ all_on ls

  -- the stated acts of the live threads that move, the youngest first
  abbrev pub ms : List Live → List Moves.Act
  ms ls = movers (lacts p st d bits ls)

  next_is : (ls : List Live) (l : Live) → Known p flows st d bits arrays ls l
      → next_stage p l.thread.stage (deeds_of p st bits l) ≡ goes_to (stage_at p l.thread.stage).next (work_of_live p d bits ls l).env
  next_is ls l k = ap (λ (w : Work). goes_to (stage_at p l.thread.stage).next w.env) (sym (like_here p flows st d bits arrays ls l k).is)

  -- ONE FORK
  module _ (f : ℕ) where
    -- what one thread does to the list
    abbrev pub leaves : Live → Bool
    leaves l = is_inside p f l.thread.stage && goes_out p f (next_stage p l.thread.stage (deeds_of p st bits l))

    -- the branch that a thread appends to the fork's list, none where it doesn't go from the fork into one
    abbrev pub enters : Live → List Bool
    enters l = if l.thread.stage == f then goes_into p f (next_stage p l.thread.stage (deeds_of p st bits l)) else []

    entered_none : (ls : List Live) → Each (λ k. k.thread.stage ≡ f → ⊥) ls → entered_branches p f (ms ls) ≡ []
    entered_none [] h = refl
    entered_none (l ∷ ls) h = at (did p d bits ls l).moves (entered_none ls h.1)
      where
        at : (b : Bool) → entered_branches p f (ms ls) ≡ [] → entered_branches p f (cond b (lact p st d bits ls l ∷ ms ls) (ms ls)) ≡ []
        at true e = ap₂ (λ a t. a ++ (if t then goes_into p f (next_stage p l.thread.stage (deeds_of p st bits l)) else [])) e (ne_eqb l.thread.stage f h.0)
        at false e = e

    left_none : (ls : List Live) → is_nobody (sides p f ls) ≡ true → has_left p f (ms ls) ≡ false
    left_none [] h = refl
    left_none (l ∷ ls) h =
        at (did p d bits ls l).moves (left_none ls (front (sides p f ls) (sides_of f (stage_at p l.thread.stage).branches) h))
        (outside (is_inside p f l.thread.stage) refl)
      where
        front : (xs ys : List Bool) → is_nobody (xs ++ ys) ≡ true → is_nobody xs ≡ true
        front [] ys e = refl
        front (x ∷ xs) ys e = absurd (cc e)

        behind : (xs ys : List Bool) → is_nobody (xs ++ ys) ≡ true → is_nobody ys ≡ true
        behind [] ys e = e
        behind (x ∷ xs) ys e = absurd (cc e)

        outside : (b : Bool) → is_inside p f l.thread.stage ≡ b → is_inside p f l.thread.stage ≡ false
        outside false e = e
        outside true e =
            inside_at p f l.thread.stage e
            (λ x c i j. absurd (cc
            (sym (behind (sides p f ls) (sides_of f (stage_at p l.thread.stage).branches) h)
            ∙ ap is_nobody (sides_inside p flows.graph.fork_below f x c l.thread.stage i j))))

        at : (b : Bool) → has_left p f (ms ls) ≡ false → is_inside p f l.thread.stage ≡ false
            → has_left p f (cond b (lact p st d bits ls l ∷ ms ls) (ms ls)) ≡ false
        at true e i = ap₂ (λ a c. (a && goes_out p f (next_stage p l.thread.stage (deeds_of p st bits l))) || c) i e
        at false e i = e

    some_left : (ls : List Live) → has_left p f (ms ls) ≡ true → is_nobody (sides p f ls) ≡ false
    some_left ls h = at (is_nobody (sides p f ls)) refl
      where
        at : (b : Bool) → is_nobody (sides p f ls) ≡ b → is_nobody (sides p f ls) ≡ false
        at true e = absurd (cc (sym h ∙ left_none ls e))
        at false e = e

    -- older threads than one inside are past the fork stage
    past_fork : (l : Live) (x : Branch) (c : List Branch) (ls : List Live) → Within p (x ∷ c) l.thread.stage → x.fork ≡ f
        → Each (λ k. Behind p l.thread.stage k.thread.stage) ls → Each (λ k. k.thread.stage ≡ f → ⊥) ls
    past_fork l x c ls e i b = each_map (λ k h j. late k h j) ls b
      where
        late : (k : Live) → Behind p l.thread.stage k.thread.stage → k.thread.stage ≡ f → ⊥
        late k h j =
            let home : Home p c x.fork = (flows.graph.fork_below x c l.thread.stage e).0 in
            let less : x.fork < k.thread.stage = fork_left p flows.graph x c l.thread.stage k.thread.stage h e
            (within_home p c _ (subst (λ n. Home p c n) (i ∙ sym j) home)) in
            absurd (omega arith)

    nobody_nil : (xs : List Bool) → is_nobody xs ≡ true → xs ≡ []
    nobody_nil [] h = refl
    nobody_nil (x ∷ xs) h = absurd (cc h)

    -- the list after the cycle, but for squashes
    pub list_all_on : (ls : List Live) → AllKnown p flows st d bits arrays ls → Ordered p ls
        → (if has_left p f (ms ls) then but_first (sides p f ls) else sides p f ls) ++ entered_branches p f (ms ls) ≡ sides p f (all_on ls)
    list_all_on [] k o = refl
    list_all_on (l ∷ ls) k o = at (did p d bits ls l).moves refl (list_all_on ls k.1 o.1)
      where
        behind_next : (xs : List Live) → sides p f (xs ++ all_on ls) ≡ sides p f (all_on ls) ++ sides p f xs
        behind_next xs = sides_append p f xs (all_on ls)

        -- the list of the fork with a thread behind the others that stays where it is
        stands : (if has_left p f (ms ls) then but_first (sides p f ls) else sides p f ls) ++ entered_branches p f (ms ls) ≡ sides p f (all_on ls)
            → (if has_left p f (ms ls)
            then but_first (sides p f ls ++ sides_of f (stage_at p l.thread.stage).branches)
            else (sides p f ls ++ sides_of f (stage_at p l.thread.stage).branches))
            ++ entered_branches p f (ms ls)
            ≡ sides p f (all_on ls) ++ sides_of f (stage_at p l.thread.stage).branches
        stands h =
            sym
            (ap (λ u. (if has_left p f (ms ls) then but_first (sides p f ls ++ sides_of f (stage_at p l.thread.stage).branches) else
            (sides p f ls ++ sides_of f (stage_at p l.thread.stage).branches)) ++ u) (append-nil _))
            ∙ by (is_inside p f l.thread.stage) refl
          where
            by : (b : Bool) → is_inside p f l.thread.stage ≡ b → (if has_left p f (ms ls)
                then but_first (sides p f ls ++ sides_of f (stage_at p l.thread.stage).branches)
                else (sides p f ls ++ sides_of f (stage_at p l.thread.stage).branches))
                ++ (entered_branches p f (ms ls) ++ [])
                ≡ sides p f (all_on ls) ++ sides_of f (stage_at p l.thread.stage).branches
            by false e =
                let none : sides_of f (stage_at p l.thread.stage).branches ≡ [] = sides_outside f _ e in
                list_neutral (has_left p f (ms ls)) (sides p f ls) (entered_branches p f (ms ls)) (sides p f (all_on ls))
                (sides_of f (stage_at p l.thread.stage).branches) (sides_of f (stage_at p l.thread.stage).branches) [] h none (sym none)
            by true e =
                inside_at p f l.thread.stage e
                (λ x c i j.
                subst
                (λ s. (if has_left p f (ms ls) then but_first (sides p f ls ++ s) else (sides p f ls ++ s)) ++ (entered_branches p f (ms ls) ++ [])
                ≡ sides p f (all_on ls) ++ s) (sym (sides_inside p flows.graph.fork_below f x c l.thread.stage i j))
                (list_inside (has_left p f (ms ls)) (sides p f ls) (entered_branches p f (ms ls)) (sides p f (all_on ls)) x.first h
                (entered_none ls (past_fork l x c ls i j o.0)) (some_left ls)))

        -- the list of the fork with a thread behind the others that is outside it and enters it, perhaps
        outside_moves : is_inside p f l.thread.stage ≡ false → (after : List Bool) → enters l ≡ after
            → (if has_left p f (ms ls) then but_first (sides p f ls) else sides p f ls) ++ entered_branches p f (ms ls) ≡ sides p f (all_on ls)
            → (if leaves l
            || has_left p f (ms ls) then but_first (sides p f ls ++ sides_of f (stage_at p l.thread.stage).branches)
            else (sides p f ls ++ sides_of f (stage_at p l.thread.stage).branches))
            ++ (entered_branches p f (ms ls) ++ enters l)
            ≡ sides p f (all_on ls) ++ after
        outside_moves off after e h =
            ap
            (λ b. (if (b && goes_out p f (next_stage p l.thread.stage (deeds_of p st bits l))) || has_left p f (ms ls) then but_first
            (sides p f ls ++ sides_of f (stage_at p l.thread.stage).branches) else
            (sides p f ls ++ sides_of f (stage_at p l.thread.stage).branches)) ++ (entered_branches p f (ms ls) ++ enters l)) off
            ∙ list_neutral (has_left p f (ms ls)) (sides p f ls) (entered_branches p f (ms ls)) (sides p f (all_on ls))
            (sides_of f (stage_at p l.thread.stage).branches) after (enters l) h (sides_outside f _ off) e

        leads : (q : ℕ) → next_stage p l.thread.stage (deeds_of p st bits l) ≡ Some q → Leads p l.thread.stage q
        leads q i = ((deeds_of p st bits l).env, i, k.0.seated.keeps_on.inside)

        -- from the fork it enters a branch
        enters_side : (q : ℕ)
            → next_stage p l.thread.stage (deeds_of p st bits l) ≡ Some q → is_inside p f l.thread.stage ≡ false
            → enters l ≡ sides_of f (stage_at p q).branches
        enters_side q i off = by (l.thread.stage == f) refl
          where
            came : (x : Branch) (c : List Branch) → x.fork ≡ f → (l.thread.stage ≡ f → ⊥) → (x.fork ≡ l.thread.stage) ⊎ Within p (x ∷ c) l.thread.stage → ⊥
            came x c e n (inl j) = n (sym j ∙ e)
            came x c e n (inr j) = cc (sym off ∙ inside_of p f l.thread.stage x c j e)

            by : (t : Bool)
                → (l.thread.stage == f) ≡ t
                → (if t then goes_into p f (next_stage p l.thread.stage (deeds_of p st bits l)) else []) ≡ sides_of f (stage_at p q).branches
            by true e = ap (goes_into p f) i
            by false e =
                sym
                (sides_outside f (stage_at p q).branches
                (not_inside p f q (λ x c w j. came x c j (eqb-false _ _ e)
                (came_from_way p x c l.thread.stage q (flows.graph.way l.thread.stage q (leads q i)) w))))

        -- inside, it enters nothing of this fork, and stays inside or leaves
        inside_moves : (x : Branch) (c : List Branch)
            → Within p (x ∷ c) l.thread.stage → x.fork ≡ f → (did p d bits ls l).moves ≡ true → (q : ℕ)
            → next_stage p l.thread.stage (deeds_of p st bits l) ≡ Some q
            → (if has_left p f (ms ls) then but_first (sides p f ls) else sides p f ls) ++ entered_branches p f (ms ls) ≡ sides p f (all_on ls)
            → (if leaves l
            || has_left p f (ms ls) then but_first (sides p f ls ++ sides_of f (stage_at p l.thread.stage).branches)
            else (sides p f ls ++ sides_of f (stage_at p l.thread.stage).branches))
            ++ (entered_branches p f (ms ls) ++ enters l)
            ≡ sides p f (all_on ls) ++ sides_of f (stage_at p q).branches
        inside_moves x c here its go q i h = at (flows.graph.way l.thread.stage q (leads q i))
          where
            below : x.fork < l.thread.stage
            below = (flows.graph.fork_below x c l.thread.stage here).1

            not_f : l.thread.stage ≡ f → ⊥
            not_f u = let v = below in omega arith

            no_entry : enters l ≡ []
            no_entry = ap (λ t. if t then goes_into p f (next_stage p l.thread.stage (deeds_of p st bits l)) else []) (ne_eqb l.thread.stage f not_f)

            mine : sides_of f (stage_at p l.thread.stage).branches ≡ x.first ∷ []
            mine = sides_inside p flows.graph.fork_below f x c l.thread.stage here its

            -- it stays inside
            moves_inside : (q : ℕ)
                → next_stage p l.thread.stage (deeds_of p st bits l) ≡ Some q
                → sides_of f (stage_at p q).branches ≡ sides_of f (stage_at p l.thread.stage).branches
                → merges_fork (stage_at p q).merges f ≡ false
                → (if has_left p f (ms ls) then but_first (sides p f ls) else sides p f ls) ++ entered_branches p f (ms ls) ≡ sides p f (all_on ls)
                → (if leaves l || has_left p f (ms ls) then but_first (sides p f ls ++ sides_of f (stage_at p l.thread.stage).branches) else
                (sides p f ls ++ sides_of f (stage_at p l.thread.stage).branches)) ++ (entered_branches p f (ms ls) ++ enters l)
                ≡ sides p f (all_on ls) ++ sides_of f (stage_at p q).branches
            moves_inside q i same no_merge h =
                (λ t. (if stays t || has_left p f (ms ls) then but_first (sides p f ls ++ mine t) else (sides p f ls ++ mine t))
                ++ (entered_branches p f (ms ls) ++ no_entry t))
                ∙ list_inside (has_left p f (ms ls)) (sides p f ls) (entered_branches p f (ms ls)) (sides p f (all_on ls)) x.first h
                (entered_none ls (past_fork l x c ls here its o.0)) (some_left ls)
                ∙ ap (λ u. sides p f (all_on ls) ++ u) (sym (same ∙ mine))
              where
                off : (t : Bool) → (t && false) ≡ false
                off true = refl
                off false = refl

                stays : leaves l ≡ false
                stays =
                    ap (λ r. is_inside p f l.thread.stage && goes_out p f r) i ∙ ap (λ t. is_inside p f l.thread.stage && t) no_merge
                    ∙ off (is_inside p f l.thread.stage)

            -- the list of the fork with a thread that leaves into the merge, the oldest inside
            moves_out : (did p d bits ls l).moves ≡ true
                → (q : ℕ) → next_stage p l.thread.stage (deeds_of p st bits l) ≡ Some q → sides_of f (stage_at p q).branches ≡ []
                → (stage_at p q).merges ≡ Some f
                → (if has_left p f (ms ls) then but_first (sides p f ls) else sides p f ls) ++ entered_branches p f (ms ls) ≡ sides p f (all_on ls)
                → (if leaves l || has_left p f (ms ls)
                then but_first (sides p f ls ++ sides_of f (stage_at p l.thread.stage).branches)
                else (sides p f ls ++ sides_of f (stage_at p l.thread.stage).branches))
                ++ (entered_branches p f (ms ls) ++ enters l)
                ≡ sides p f (all_on ls) ++ sides_of f (stage_at p q).branches
            moves_out go q i out m h =
                (λ t. (if goes t || has_left p f (ms ls) then but_first (sides p f ls ++ mine t) else (sides p f ls ++ mine t))
                ++ (entered_branches p f (ms ls) ++ no_entry t))
                ∙ list_leaves (has_left p f (ms ls)) (sides p f ls) (entered_branches p f (ms ls)) (sides p f (all_on ls)) x.first h
                (nobody_nil (sides p f ls) nobody) (entered_none ls (past_fork l x c ls here its o.0)) (left_none ls nobody)
                ∙ ap (λ u. sides p f (all_on ls) ++ u) (sym out)
              where
                goes : leaves l ≡ true
                goes =
                    ap (λ r. is_inside p f l.thread.stage && goes_out p f r) i
                    ∙ ap₂ (λ b r. b && merges_fork r f) (inside_of p f l.thread.stage x c here its) m ∙ eq-eqb f f refl

                can : Derived.can_enter p (dacts p d bits ls) (Some q) ≡ true
                can = subst (λ r. Derived.can_enter p (dacts p d bits ls) r ≡ true) (sym (next_is ls l k.0) ∙ i) (enters_here p flows st d bits arrays ls l go)

                clear : Derived.fork_clear p (dacts p d bits ls) (stage_at p q).merges ≡ true
                clear =
                    and_right (list_all (λ (o : Derived.Act). not (o.before.stage == q) || o.moves) (dacts p d bits ls))
                    (Derived.fork_clear p (dacts p d bits ls) (stage_at p q).merges) can

                nobody : is_nobody (sides p f ls) ≡ true
                nobody = sides_nobody p d bits f ls ∙ subst (λ r. Derived.fork_clear p (dacts p d bits ls) r ≡ true) m clear

            -- who stays in the branches where it is, or enters more, does not come to the merge
            longer : (a b : ℕ) → a ≡ b → b ≡ suc a → ⊥
            longer a b e g = omega arith

            twice_longer : (a b : ℕ) → a ≡ suc b → b ≡ suc a → ⊥
            twice_longer a b e g = omega arith

            no_merge_at : (q : ℕ)
                → Leads p l.thread.stage q
                → ((y : Branch) → (stage_at p l.thread.stage).branches ≡ y ∷ (stage_at p q).branches → y.fork ≡ f → ⊥)
                → merges_fork (stage_at p q).merges f ≡ false
            no_merge_at q leads' n = at (stage_at p q).merges refl
              where
                from : (g : ℕ) → g ≡ f
                    → ((l.thread.stage ≡ g) × ((stage_at p q).branches ≡ (stage_at p l.thread.stage).branches))
                    ⊎
                    ((y : Branch) × ((stage_at p l.thread.stage).branches ≡ y ∷ (stage_at p q).branches) × (y.fork ≡ g)
                    × ((b : ℕ) → Within p (y ∷ (stage_at p q).branches) b → b ≤ l.thread.stage))
                    → ⊥
                from g e (inl j) = not_f (j.0 ∙ e)
                from g e (inr j) = n j.0 j.1 (j.2 ∙ e)

                at : (r : Option ℕ) → (stage_at p q).merges ≡ r → merges_fork (stage_at p q).merges f ≡ false
                at None e = ap (λ r. merges_fork r f) e
                at (Some g) e = ap (λ r. merges_fork r f) e ∙ by (g == f) refl
                  where
                    by : (t : Bool) → (g == f) ≡ t → (g == f) ≡ false
                    by true j = absurd (from g (eqb-true _ _ j) (flows.graph.merge l.thread.stage q g leads' e))
                    by false j = j

            at : Way p l.thread.stage q
                →
                (if leaves l || has_left p f (ms ls) then but_first (sides p f ls ++ sides_of f (stage_at p l.thread.stage).branches) else
                (sides p f ls ++ sides_of f (stage_at p l.thread.stage).branches)) ++ (entered_branches p f (ms ls)
                ++ enters l) ≡ sides p f (all_on ls) ++ sides_of f (stage_at p q).branches
            at (inl e) =
                moves_inside q i (ap (sides_of f) e)
                (no_merge_at q (leads q i)
                (λ y j u. longer (length (stage_at p q).branches) (length (stage_at p l.thread.stage).branches) (ap length e) (ap length j))) h
            at (inr (inl e)) =
                moves_inside q i (ap (sides_of f) e.1 ∙ sides_other f e.0 (stage_at p l.thread.stage).branches (λ j. not_f (sym e.2 ∙ j)))
                (no_merge_at q (leads q i)
                (λ y j u. twice_longer (length (stage_at p q).branches) (length (stage_at p l.thread.stage).branches) (ap length e.1) (ap length j))) h
            at (inr (inr e)) = which (e.0.fork == f) refl
              where
                which : (t : Bool)
                    → (e.0.fork == f) ≡ t
                    →
                    (if leaves l || has_left p f (ms ls) then but_first (sides p f ls ++ sides_of f (stage_at p l.thread.stage).branches) else
                    (sides p f ls ++ sides_of f (stage_at p l.thread.stage).branches)) ++ (entered_branches p f (ms ls)
                    ++ enters l) ≡ sides p f (all_on ls) ++ sides_of f (stage_at p q).branches
                which true j =
                    moves_out go q i
                    (sides_outside f (stage_at p q).branches
                    (ap (list_any (λ (b : Branch). b.fork == f))
                    (sym (flows.graph.fork_below e.0 (stage_at p q).branches l.thread.stage (within_home p _ _ e.1)).0)
                    ∙ subst (λ n. is_inside p f n ≡ false) (sym (eqb-true _ _ j)) (outside_self p flows.graph.fork_below f)))
                    (e.2 ∙ ap Some (eqb-true _ _ j)) h
                which false j =
                    moves_inside q i (sym (ap (sides_of f) e.1 ∙ sides_other f e.0 (stage_at p q).branches (eqb-false _ _ j)))
                    (ap (λ r. merges_fork r f) e.2 ∙ j) h

        moved : (did p d bits ls l).moves ≡ true → (r : Option ℕ) → next_stage p l.thread.stage (deeds_of p st bits l) ≡ r
            → (if has_left p f (ms ls) then but_first (sides p f ls) else sides p f ls) ++ entered_branches p f (ms ls) ≡ sides p f (all_on ls)
            → (if leaves l
            || has_left p f (ms ls) then but_first (sides p f ls ++ sides_of f (stage_at p l.thread.stage).branches)
            else (sides p f ls ++ sides_of f (stage_at p l.thread.stage).branches))
            ++ (entered_branches p f (ms ls) ++ enters l)
            ≡ sides p f (moved_live r (advised p st bits l) (work_of_live p d bits ls l) ++ all_on ls)
        moved go None i h =
            outside_moves (ap (list_any (λ (b : Branch). b.fork == f)) last) [] (none (l.thread.stage == f)) h ∙ append-nil _
          where
            last : Trunk p l.thread.stage
            last = (flows.graph.last l.thread.stage (deeds_of p st bits l).env k.0.seated.keeps_on.inside i).1

            none : (t : Bool) → (if t then goes_into p f (next_stage p l.thread.stage (deeds_of p st bits l)) else []) ≡ []
            none true = ap (goes_into p f) i
            none false = refl
        moved go (Some q) i h = by (is_inside p f l.thread.stage) refl
          where
            by : (t : Bool) → is_inside p f l.thread.stage ≡ t → (if leaves l
                || has_left p f (ms ls) then but_first (sides p f ls ++ sides_of f (stage_at p l.thread.stage).branches)
                else (sides p f ls ++ sides_of f (stage_at p l.thread.stage).branches))
                ++ (entered_branches p f (ms ls) ++ enters l)
                ≡ sides p f (all_on ls) ++ sides_of f (stage_at p q).branches
            by false e = outside_moves e (sides_of f (stage_at p q).branches) (enters_side q i e) h
            by true e = inside_at p f l.thread.stage e (λ x c w j. inside_moves x c w j go q i h)

        at : (b : Bool) → (did p d bits ls l).moves ≡ b
            → (if has_left p f (ms ls) then but_first (sides p f ls) else sides p f ls) ++ entered_branches p f (ms ls) ≡ sides p f (all_on ls)
            → (if has_left p f (cond b (lact p st d bits ls l ∷ ms ls) (ms ls)) then but_first (sides p f (l ∷ ls)) else sides p f (l ∷ ls))
            ++ entered_branches p f (cond b (lact p st d bits ls l ∷ ms ls) (ms ls))
            ≡ sides p f
            (cond b (moved_live (goes_to (stage_at p l.thread.stage).next (work_of_live p d bits ls l).env) (advised p st bits l) (work_of_live p d bits ls l))
            (stood p st d bits l ∷ []) ++ all_on ls)
        at false e h = stands h ∙ sym (behind_next (stood p st d bits l ∷ []))
        at true e h =
            moved e (next_stage p l.thread.stage (deeds_of p st bits l)) refl h
            ∙ ap (λ r. sides p f (moved_live r (advised p st bits l) (work_of_live p d bits ls l) ++ all_on ls)) (next_is ls l k.0)

    -- SQUASHES

    -- a failing check stands in the trunk
    fails_at : (ls : List Live) (l : Live) → (work_of_live p d bits ls l).fails ≡ true
        → Trunk p l.thread.stage
    fails_at ls l g = trunk (stage_at p l.thread.stage).branches refl
      where
        quiet : none_of is_check (in_stage l.thread.stage p.stmts) ≡ true → (work_of_live p d bits ls l).fails ≡ false
        quiet n = unfailed (around p d bits (dacts p d bits ls) l.thread.stage l.thread.hint) (in_stage l.thread.stage p.stmts) (start_of (now_of p d bits l)) n

        trunk : (b : List Branch) → (stage_at p l.thread.stage).branches ≡ b → Trunk p l.thread.stage
        trunk [] e = e
        trunk (x ∷ c) e = absurd (cc (sym g ∙ quiet (unchecked_trunk (in_stage l.thread.stage p.stmts) (flows.branches x c l.thread.stage e))))

    fell_at : (ls : List Live)
        → AllKnown p flows st d bits arrays ls → AllForeseen p flows st d bits arrays ls → fell p d bits ls ≡ true
        → (v : ℕ) × (squash_stage (ms ls) ≡ Some v) × (someone v ls ≡ true) × Trunk p v × (v < length p.stages)
    fell_at [] k u h = absurd (cc h)
    fell_at (l ∷ ls) k u h = at ((did p d bits ls l).moves && (work_of_live p d bits ls l).fails) refl h (λ i. fell_at ls k.1 u.1 i)
      where
        or_true : (b : Bool) → (b || true) ≡ true
        or_true true = refl
        or_true false = refl

        is : squash_stage (ms (l ∷ ls)) ≡ (if (did p d bits ls l).moves
            && (work_of_live p d bits ls l).fails then Some l.thread.stage else squash_stage (ms ls))
        is = squash_stage_is p flows st d bits arrays ls l k.0 u.0

        at : (b : Bool) → ((did p d bits ls l).moves && (work_of_live p d bits ls l).fails) ≡ b → (b || fell p d bits ls) ≡ true
            → (fell p d bits ls ≡ true → (v : ℕ) × (squash_stage (ms ls) ≡ Some v) × (someone v ls ≡ true) × Trunk p v × (v < length p.stages))
            → (v : ℕ) × (squash_stage (ms (l ∷ ls)) ≡ Some v) × (someone v (l ∷ ls) ≡ true) × Trunk p v × (v < length p.stages)
        at true e g r = (
          l.thread.stage,
          is ∙ ap (λ b. if b then Some l.thread.stage else squash_stage (ms ls)) e,
          ap (λ b. b || someone l.thread.stage ls) (eq-eqb l.thread.stage l.thread.stage refl),
          fails_at ls l (and_right (did p d bits ls l).moves _ e),
          k.0.seated.keeps_on.inside,
        )
        at false e g r =
            let m = r g in (
              m.0,
              is ∙ ap (λ b. if b then Some l.thread.stage else squash_stage (ms ls)) e ∙ m.1,
              ap (λ b. (l.thread.stage == m.0) || b) m.2 ∙ or_true (l.thread.stage == m.0),
              m.3,
              m.4,
            )

    -- who is behind the one that fails is not it
    same_squash : (ls : List Live) (l : Live)
        → Known p flows st d bits arrays ls l → MovesForeseen p flows st d bits arrays ls l → fell p d bits ls ≡ true
        → squash_stage (ms (l ∷ ls)) ≡ squash_stage (ms ls)
    same_squash ls l k u e =
        squash_stage_is p flows st d bits arrays ls l k u
        ∙ ap (λ b. if b && (work_of_live p d bits ls l).fails then Some l.thread.stage else squash_stage (ms ls)) (stuck_here p flows st d bits arrays ls l e)

    not_here : (b : ℕ) → (is_inside p f b ≡ true → ⊥) → is_inside p f b ≡ false
    not_here b n = at (is_inside p f b) refl
      where
        at : (t : Bool) → is_inside p f b ≡ t → is_inside p f b ≡ false
        at true e = absurd (n e)
        at false e = e

    -- the fork around a stage that is inside it stands before it
    fork_before : (b : ℕ) → is_inside p f b ≡ true → f < b
    fork_before b h = inside_at p f b h (λ x c i e. subst (λ n. n < b) e (flows.graph.fork_below x c b i).1)

    one_side : (x : Live) → is_inside p f x.thread.stage ≡ false → sides p f (x ∷ []) ≡ []
    one_side x h = sides_none p f (x ∷ []) (h, tt)

    -- a squash leaves the lists of later forks alone; r is its stage
    pub unmerged_on : (r : Option ℕ) → merges_by p f r ≡ false → (ls : List Live) → AllKnown p flows st d bits arrays ls
        → AllForeseen p flows st d bits arrays ls → Ordered p ls
        → (fell p d bits ls ≡ true → squash_stage (ms ls) ≡ r)
        → sides p f (go_on p st d bits ls) ≡ sides p f (all_on ls)
    unmerged_on r u [] k w o is = refl
    unmerged_on r u (l ∷ ls) k w o is = at (fell p d bits ls) refl (unmerged_on r u ls k.1 w.1 o.1 stage)
      where
        or_true : (b : Bool) → (b || true) ≡ true
        or_true true = refl
        or_true false = refl

        stage : fell p d bits ls ≡ true → squash_stage (ms ls) ≡ r
        stage e =
            sym (same_squash ls l k.0 w.0 e)
            ∙ is
            (ap (λ b. ((did p d bits ls l).moves && (work_of_live p d bits ls l).fails) || b) e
            ∙ or_true ((did p d bits ls l).moves && (work_of_live p d bits ls l).fails))

        removed : fell p d bits ls ≡ true → is_inside p f l.thread.stage ≡ false
        removed e =
            not_here l.thread.stage (λ i.
            let v = fell_at ls k.1 w.1 e in
            let behind : Behind p l.thread.stage v.0 = behind_someone p l.thread.stage v.0 ls o.0 v.2 in
            let before : f < l.thread.stage = fork_before l.thread.stage i in
            let no_less : v.0 ≤ f = flows.graph.unmerged v.0 f l.thread.stage v.4 v.3 i (subst (λ q. merges_by p f q ≡ false) (sym (stage e) ∙ v.1) u) in
            let less : v.0 < v.0 = left_trunk p _ _ behind v.0 v.3 (omega arith) in
            absurd (omega arith))

        stood_side : fell p d bits ls ≡ true → sides p f (next_live p st d bits ls l) ≡ []
        stood_side e =
            ap
            (λ b. sides p f (cond b
            (moved_live (goes_to (stage_at p l.thread.stage).next (work_of_live p d bits ls l).env) (advised p st bits l) (work_of_live p d bits ls l))
            (stood p st d bits l ∷ []))) (stuck_here p flows st d bits arrays ls l e)
            ∙ one_side (stood p st d bits l) (removed e)

        at : (g : Bool) → fell p d bits ls ≡ g → sides p f (go_on p st d bits ls) ≡ sides p f (all_on ls)
            → sides p f ((if g then [] else next_live p st d bits ls l) ++ go_on p st d bits ls) ≡ sides p f (next_live p st d bits ls l ++ all_on ls)
        at true e r =
            r ∙ sym (append-nil _) ∙ ap (λ x. sides p f (all_on ls) ++ x) (sym (stood_side e)) ∙ sym (sides_append p f (next_live p st d bits ls l) (all_on ls))
        at false e r =
            sides_append p f (next_live p st d bits ls l) (go_on p st d bits ls) ∙ ap (λ x. x ++ sides p f (next_live p st d bits ls l)) r
            ∙ sym (sides_append p f (next_live p st d bits ls l) (all_on ls))

    -- after a squash the list of a fork that merges up to the stage of it is empty
    pub merged_on : (r : Option ℕ) → merges_by p f r ≡ true → (ls : List Live) → AllKnown p flows st d bits arrays ls
        → AllForeseen p flows st d bits arrays ls → Ordered p ls
        → fell p d bits ls ≡ true → squash_stage (ms ls) ≡ r → sides p f (go_on p st d bits ls) ≡ []
    merged_on r u [] k w o e is = refl
    merged_on r u (l ∷ ls) k w o e is = at (fell p d bits ls) refl (λ i. merged_on r u ls k.1 w.1 o.1 i (sym (same_squash ls l k.0 w.0 i) ∙ is))
      where
        -- where no older thread fails a verify, the first one does
        here : fell p d bits ls ≡ false → ((did p d bits ls l).moves && (work_of_live p d bits ls l).fails) ≡ true
        here g = front ((did p d bits ls l).moves && (work_of_live p d bits ls l).fails) e
          where
            front : (b : Bool) → (b || fell p d bits ls) ≡ true → b ≡ true
            front true h = refl
            front false h = absurd (cc (sym g ∙ h))

        all_out : fell p d bits ls ≡ false → sides p f (next_live p st d bits ls l ++ go_on p st d bits ls) ≡ []
        all_out g =
            sides_none p f (next_live p st d bits ls l ++ go_on p st d bits ls)
            (each_append (λ k. is_inside p f k.thread.stage ≡ false) (next_live p st d bits ls l) (go_on p st d bits ls)
            (each_next p flows st d bits arrays (λ k. is_inside p f k.thread.stage ≡ false) ls l k.0 (λ i. outside l.thread.stage (le_refl _))
            (λ i q j. outside q (let w = (flows.graph.up l.thread.stage q (leads_of p flows st d bits arrays ls l k.0 q j)).0 in omega arith)))
            (each_map (λ k h. outside k.thread.stage
            (let w : l.thread.stage < k.thread.stage = left_trunk p _ _ h l.thread.stage trunk
            (le_refl _) in omega arith)) (go_on p st d bits ls) (behind_stay p flows st d bits arrays l.thread.stage ls k.1 o.0)))
          where
            trunk : Trunk p l.thread.stage
            trunk = fails_at ls l (and_right (did p d bits ls l).moves (work_of_live p d bits ls l).fails (here g))

            stage : r ≡ Some l.thread.stage
            stage = sym is ∙ squash_stage_is p flows st d bits arrays ls l k.0 w.0 ∙ ap (λ b. if b then Some l.thread.stage else squash_stage (ms ls)) (here g)

            outside : (b : ℕ) → l.thread.stage ≤ b → is_inside p f b ≡ false
            outside b h =
                not_here b
                (λ i. let less : b < l.thread.stage = flows.graph.merged l.thread.stage f b k.0.seated.keeps_on.inside trunk i
                (subst (λ q. merges_by p f q ≡ true) stage u) in absurd (omega arith))

        at : (g : Bool) → fell p d bits ls ≡ g → (fell p d bits ls ≡ true → sides p f (go_on p st d bits ls) ≡ [])
            → sides p f ((if g then [] else next_live p st d bits ls l) ++ go_on p st d bits ls) ≡ []
        at true i r = r i
        at false i r = all_out i

    calm_on : (ls : List Live) → fell p d bits ls ≡ false → sides p f (go_on p st d bits ls) ≡ sides p f (all_on ls)
    calm_on [] e = refl
    calm_on (l ∷ ls) e =
        let rest = second ((did p d bits ls l).moves && (work_of_live p d bits ls l).fails) e in
        ap (λ g. sides p f ((if g then [] else next_live p st d bits ls l) ++ go_on p st d bits ls)) rest
        ∙ sides_append p f (next_live p st d bits ls l) (go_on p st d bits ls) ∙ ap (λ x. x ++ sides p f (next_live p st d bits ls l)) (calm_on ls rest)
        ∙ sym (sides_append p f (next_live p st d bits ls l) (all_on ls))
      where
        second : (b : Bool) → (b || fell p d bits ls) ≡ false → fell p d bits ls ≡ false
        second true g = absurd (cc g)
        second false g = g

    born_side : (n : ℕ) (c : Option (List ℕ)) (xs : List Live) → sides p f (born_live p (d.hints 0) n c ++ xs) ≡ sides p f xs
    born_side n None xs = refl
    born_side n (Some x) xs = ap (λ b. sides p f xs ++ sides_of f b) flows.graph.trunk_start ∙ append-nil _

    -- the list of fork f after the cycle
    pub fork_next : (n : ℕ) (c : Option (List ℕ)) (ls : List Live) → AllKnown p flows st d bits arrays ls
        → AllForeseen p flows st d bits arrays ls → Ordered p ls
        → Cycle.branches_left p (squash_stage (ms ls)) f ((if has_left p f (ms ls) then but_first (sides p f ls) else sides p f ls)
        ++ entered_branches p f (ms ls))
        ≡ sides p f (born_live p (d.hints 0) n c ++ go_on p st d bits ls)
    fork_next n c ls k w o =
        ap (λ l. if merges_by p f (squash_stage (ms ls)) then [] else l) (list_all_on ls k o)
        ∙ at (fell p d bits ls) refl (merges_by p f (squash_stage (ms ls))) refl ∙ sym (born_side n c (go_on p st d bits ls))
      where
        at : (g : Bool) → fell p d bits ls ≡ g → (b : Bool) → merges_by p f (squash_stage (ms ls)) ≡ b
            → (if b then [] else sides p f (all_on ls)) ≡ sides p f (go_on p st d bits ls)
        at true e true i = sym (merged_on (squash_stage (ms ls)) i ls k w o e refl)
        at true e false i = sym (unmerged_on (squash_stage (ms ls)) i ls k w o (λ _. refl))
        at false e true i = absurd (cc (sym i ∙ ap (merges_by p f) (no_squash_stage p flows st d bits arrays ls k w e)))
        at false e false i = sym (calm_on ls e)
