-- The followers are the threads of the turns, one by one: the arrays have what they have released, and who still looks at a memory has nobody behind it who has released a write of it.
use Rattle.std.proofs.Common.{◌≡◌, refl, sym, ap, ap₂, ◌∙◌, subst, ℕ, ◌≤◌, ◌<◌, inl, Bool, true, false, ◌&&◌, ◌||◌, not, List, [], ◌∷◌, ◌++◌, Option, Some, None, is_some, nat_lt, cond, if◌then◌else◌, arith, append-nil, append_assoc, le_of_lt, ltb-true, ltb-false}
use Rattle.std.proofs.lemmas.Bool.{not-true}
use Rattle.pdl_theory_turns.proofs.Nested.{within_all}
use Rattle.pdl_theory_turns.specs.Graphs.{Trunk}
use Rattle.pdl_semantics.specs.Flat.{Arrays, Pipe, Stmt, of_mem, list_all}
use Rattle.pdl_semantics.specs.Stages.{list_any, onpath, commit_stage, verify_stage}
use Rattle.pdl_semantics.specs.Machine.{State}
use Rattle.pdl_semantics.specs.Sequential.{thread}
use Rattle.pdl_semantics.specs.Sound.{Follower, followers_of, strays_of, guessed_wrong, all_pairs, has_done, is_barrier, certain_after, has_released, released_by, still_looks, stages_from, looks_at, is_delayed_read, turn_writes}
use Rattle.pdl_semantics.specs.Sound
use Rattle.pdl_theory_turns.specs.Derived
use Rattle.pdl_theory_turns.specs.Alone.{so_far}
use Rattle.pdl_theory_turns.specs.Scans.{phase_all, Fresh}
use Rattle.pdl_theory_turns.specs.Facts.{Sound, at_once}
use Rattle.pdl_theory_turns.proofs.Writes.{and_left, and_right}
use Rattle.pdl_theory_turns.proofs.Marks.{strips}
use Rattle.pdl_theory_turns.proofs.UndoneWrites.{marks}
use Rattle.pdl_theory_turns.proofs.CourseOf.{course}
use Rattle.pdl_theory_turns.proofs.Lives.{Writes, Marks}
use Rattle.pdl_theory_turns.proofs.TurnFacts.{right_guess}
use Rattle.pdl_theory.proofs.Spots.{Spot, with_hint, seats, Standing, Tail, Last, Strays}
use Rattle.pdl_theory_simulation.proofs.Stretches.{on_way}
use Rattle.pdl_theory_simulation.proofs.Seats.{Live, threads_of}
use Rattle.pdl_theory_simulation.proofs.Choices.{Seated}
use Rattle.pdl_theory_states.specs.Strict.{Strict}
use Rattle.pdl_theory_states.proofs.OldestFirst.{told}
use Rattle.pdl_theory_states.proofs.Followers.{tells, way_of, wrong_of, cons_head, cons_tail, no_lives}
use Rattle.pdl_theory_states.proofs.ThreadHistory.{here}
use Rattle.pdl_theory_states.proofs.Releases.{is_done, released_late, done_released, not_released, turn_kept, early_unreleased}
use Rattle.pdl_theory_states.proofs.StillLooks.{looks_early, binds_early}
use Rattle.pdl_word.specs.Each.{Each}

-- the threads on the turns that begin with these arrays and arguments, one for each spot, and those behind
abbrev pub lined : Pipe → Arrays → List ℕ → List Live → List Spot → List Follower
lined p arrays args os [] = []
lined p arrays args [] (sp ∷ sps) = []
lined p arrays args (o ∷ os) (sp ∷ sps) =
    record { live = told o; arrays = arrays; args = args } ∷ lined p (thread p arrays args).arrays (thread p arrays args).next os sps

-- the live threads behind those that stand on these spots
abbrev pub behind : List Live → List Spot → List Live
behind os [] = os
behind [] (sp ∷ sps) = []
behind (o ∷ os) (sp ∷ sps) = behind os sps

right_made : (c : Option (List ℕ)) (next : List ℕ) → right_guess c next ≡ true → is_some c ≡ true
right_made None next h = h
right_made (Some x) next h = refl

either_way : {X : Type 0} → (b : Bool) (x y z : X) → x ≡ z → y ≡ z → cond b x y ≡ z
either_way true x y z h k = h
either_way false x y z h k = k

all_of : {X : Type 0} → (test : X → Bool) (xs : List X) → ((x : X) → test x ≡ true) → list_all test xs ≡ true
all_of test [] f = refl
all_of test (x ∷ xs) f = ap₂ (λ a b. a && b) (f x) (all_of test xs f)

none_released : (m : ℕ) (p : Pipe) (fs : List Follower) → list_all (λ f. not (has_released m p f.live)) fs ≡ true → released_by m p fs ≡ []
none_released m p [] h = refl
none_released m p (f ∷ fs) h =
    ap₂ (λ b l. cond b (turn_writes m p f) [] ++ l) (not-true _ (and_left _ _ h)) (none_released m p fs (and_right (not (has_released m p f.live)) _ h))

module _ (p : Pipe) (sound : Sound p) (st : State) (asked : List (Option ℕ)) (past : Writes) where
  -- who follows and who is astray
  pub parted : (w : Writes) (v : Marks) (arrays : Arrays) (args ahead : List ℕ) (os : List Live) (sps : List Spot) (ts : List Derived.Thread)
      → Standing p (course p sound) asked past w v arrays args ahead sps
      → Tail p (course p sound).stray (course p sound).made arrays args sps ts → threads_of os ≡ seats p arrays args sps ++ ts → Each (Seated p st) os
      → (followers_of p arrays args (tells os) ≡ lined p arrays args os sps) × (strays_of p arrays args (tells os) ≡ tells (behind os sps))
  parted w v arrays args ahead os [] ts h t e s =
      let none : os ≡ [] = no_lives os (e ∙ t) in
      (ap (λ ks. followers_of p arrays args (tells ks)) none, ap (λ ks. strays_of p arrays args (tells ks)) none ∙ ap tells (sym none))
  parted w v arrays args ahead [] (sp ∷ sps) ts h t e s = (refl, refl)
  parted w v arrays args ahead (o ∷ os) (sp ∷ []) ts h t e s = at (so_far p (with_hint arrays sp.hint) args sp.stage).child refl t
    where
      at : (c : Option (List ℕ))
          → (so_far p (with_hint arrays sp.hint) args sp.stage).child ≡ c
          → Last p (course p sound).stray (course p sound).made sp.stage c ts
          → (record { live = told o; arrays = arrays; args = args }
          ∷ (if guessed_wrong p (thread p arrays args).next (told o) then []
          else followers_of p (thread p arrays args).arrays (thread p arrays args).next (tells os))
          ≡ record { live = told o; arrays = arrays; args = args } ∷ [])
          × ((if guessed_wrong p (thread p arrays args).next (told o) then tells os
          else strays_of p (thread p arrays args).arrays (thread p arrays args).next (tells os))
          ≡ tells os)
      at None i k =
          let none : os ≡ [] = no_lives os (cons_tail e ∙ k) in (
            ap (λ l. record { live = told o; arrays = arrays; args = args } ∷ l)
                (either_way (guessed_wrong p (thread p arrays args).next (told o)) _ _ [] refl
                (ap (λ ks. followers_of p (thread p arrays args).arrays (thread p arrays args).next (tells ks)) none)),
            either_way (guessed_wrong p (thread p arrays args).next (told o)) _ _ (tells os) refl
                (ap (λ ks. strays_of p (thread p arrays args).arrays (thread p arrays args).next (tells ks)) none ∙ ap tells (sym none)),
          )
      at (Some x) i k =
          let wrong = wrong_of p sound st (with_hint arrays sp.hint) args o sp (cons_head e) s.0 h.0.waits.gets true h.0.linked (ap is_some i) in (
            ap
                (λ b. record { live = told o; arrays = arrays; args = args }
                ∷ cond b [] (followers_of p (thread p arrays args).arrays (thread p arrays args).next (tells os))) wrong,
            ap (λ b. cond b (tells os) (strays_of p (thread p arrays args).arrays (thread p arrays args).next (tells os))) wrong,
          )
  parted w v arrays args ahead (o ∷ os) (sp ∷ sp' ∷ sps) ts h t e s =
      let right = wrong_of p sound st (with_hint arrays sp.hint) args o sp (cons_head e) s.0 h.0.waits.gets false h.0.linked (right_made _ _ h.0.linked) in
      let rest =
      parted (λ m. w m ++ of_mem m (thread p arrays args).writes) (λ m. v m ++ marks p (with_hint arrays sp.hint) args sp.stage m)
      (thread p arrays args).arrays (thread p arrays args).next (sp.stage ∷ ahead) os (sp' ∷ sps) ts h.1 t (cons_tail e) s.1 in (
        ap₂ (λ b l. record { live = told o; arrays = arrays; args = args } ∷ cond b [] l) right rest.0,
        ap₂ (λ b l. cond b (tells os) l) right rest.1,
      )

  -- behind a thread that is not past the releases nobody has released
  early_none : (m : ℕ) (w : Writes) (v : Marks) (arrays : Arrays) (args : List ℕ) (b : ℕ) (ahead : List ℕ)
      (os : List Live) (sps : List Spot) (ts : List Derived.Thread)
      → Standing p (course p sound) asked past w v arrays args (b ∷ ahead) sps
      → threads_of os ≡ seats p arrays args sps ++ ts → Each (Seated p st) os → b ≤ commit_stage p m
      → list_all (λ f. not (has_released m p f.live)) (lined p arrays args os sps) ≡ true
  early_none m w v arrays args b ahead os [] ts h e s low = refl
  early_none m w v arrays args b ahead [] (sp ∷ sps) ts h e s low = refl
  early_none m w v arrays args b ahead (o ∷ os) (sp ∷ sps) ts h e s low =
      ap₂ (λ a c. not a && c) (unreleased (has_released m p (told o)) refl)
      (early_none m (λ m. w m ++ of_mem m (thread p arrays args).writes) (λ m. v m ++ marks p (with_hint arrays sp.hint) args sp.stage m)
      (thread p arrays args).arrays (thread p arrays args).next sp.stage (b ∷ ahead) os sps ts h.1 (cons_tail e) s.1 early)
    where
      early : sp.stage ≤ commit_stage p m
      early = at (nat_lt (commit_stage p m) sp.stage) refl
        where
          at : (c : Bool) → nat_lt (commit_stage p m) sp.stage ≡ c → sp.stage ≤ commit_stage p m
          at true i =
              absurd
              (let j : commit_stage p m < b = h.0.under.0 [] (within_all p _) (within_all p _) (commit_stage p m) (sound.graph.trunk_commit m)
              (le_of_lt (ltb-true _ _ i)) in
              let k = low in omega arith)
          at false i = ltb-false _ _ i

      unreleased : (c : Bool) → has_released m p (told o) ≡ c → has_released m p (told o) ≡ false
      unreleased true i =
          absurd
          (let j : commit_stage p m < sp.stage = subst (λ (t : Derived.Thread). commit_stage p m < t.stage)
          (cons_head e) (released_late p sound st o s.0 m i) in
          let k = early in omega arith)
      unreleased false i = i

  -- 5. the commits are the writes of the ended turns and the released ones
  pub past_is : (m : ℕ) (w : Writes) (v : Marks) (arrays : Arrays) (args ahead : List ℕ) (os : List Live) (sps : List Spot) (ts : List Derived.Thread)
      → Standing p (course p sound) asked past w v arrays args ahead sps
      → threads_of os ≡ seats p arrays args sps ++ ts → Each (Seated p st) os → v m ≡ [] → w m ++ released_by m p (lined p arrays args os sps) ≡ past m
  past_is m w v arrays args ahead os [] ts h e s none = append-nil (w m) ∙ h m ∙ ap (λ l. past m ++ strips m l) none ∙ append-nil (past m)
  past_is m w v arrays args ahead [] (sp ∷ sps) ts h e s none = absurd (cc e)
  past_is m w v arrays args ahead (o ∷ os) (sp ∷ sps) ts h e s none = at (nat_lt (commit_stage p m) sp.stage) refl
      (past_is m (λ m. w m ++ of_mem m (thread p arrays args).writes) (λ m. v m ++ marks p (with_hint arrays sp.hint) args sp.stage m)
      (thread p arrays args).arrays (thread p arrays args).next (sp.stage ∷ ahead) os sps ts h.1 (cons_tail e) s.1)
    where
      stage_is : o.thread.stage ≡ sp.stage
      stage_is = ap (λ (t : Derived.Thread). t.stage) (cons_head e)

      -- past the releases it has released all
      all_released : commit_stage p m < sp.stage
          → (if has_released m p (told o) then of_mem m (thread p arrays args).writes else []) ≡ of_mem m (thread p arrays args).writes
      all_released late = by (is_done (phase_all m Fresh (on_way p o.env o.thread.stage))) refl
        where
          way : on_way p o.env o.thread.stage ≡ on_way p (thread (at_once p) arrays args).env sp.stage
          way =
              way_of p sound st (with_hint arrays sp.hint) args o sp (cons_head e) s.0 h.0.waits.gets
              ∙ ap (on_way p (thread (at_once p) arrays args).env) stage_is

          by : (c : Bool) → is_done (phase_all m Fresh (on_way p o.env o.thread.stage)) ≡ c
              → (if has_released m p (told o) then of_mem m (thread p arrays args).writes else []) ≡ of_mem m (thread p arrays args).writes
          by true i = ap (λ c. cond c (of_mem m (thread p arrays args).writes) []) (done_released p sound st o s.0 m i)
          by false i =
              ap (λ c. cond c (of_mem m (thread p arrays args).writes) []) (not_released p sound st o s.0 m i)
              ∙ sym (turn_kept p sound (with_hint arrays sp.hint) args sp.stage m late (ap (λ xs. is_done (phase_all m Fresh xs)) (sym way) ∙ i))

      early : sp.stage ≤ commit_stage p m → has_released m p (told o) ≡ false
      early low = by (has_released m p (told o)) refl
        where
          by : (c : Bool) → has_released m p (told o) ≡ c → has_released m p (told o) ≡ false
          by true i =
              absurd
              (let j : commit_stage p m < sp.stage = subst (λ n. commit_stage p m < n) stage_is (released_late p sound st o s.0 m i) in
              let k = low in omega arith)
          by false i = i

      at : (c : Bool) → nat_lt (commit_stage p m) sp.stage ≡ c
          → (v m ++ marks p (with_hint arrays sp.hint) args sp.stage m ≡ []
          → (w m ++ of_mem m (thread p arrays args).writes) ++ released_by m p (lined p (thread p arrays args).arrays (thread p arrays args).next os sps)
          ≡ past m)
          → w m
          ++ ((if has_released m p (told o) then of_mem m (thread p arrays args).writes else [])
          ++ released_by m p (lined p (thread p arrays args).arrays (thread p arrays args).next os sps))
          ≡ past m
      at true i f =
          ap (λ l. w m ++ (l ++ released_by m p (lined p (thread p arrays args).arrays (thread p arrays args).next os sps))) (all_released (ltb-true _ _ i))
          ∙ sym
          (append_assoc (w m) (of_mem m (thread p arrays args).writes)
          (released_by m p (lined p (thread p arrays args).arrays (thread p arrays args).next os sps)))
          ∙ f (ap₂ (λ a b. a ++ b) none ((course p sound).marks_late (with_hint arrays sp.hint) args sp.stage m (ltb-true _ _ i)))
      at false i f =
          ap₂ (λ c l. w m ++ (cond c (of_mem m (thread p arrays args).writes) [] ++ l)) (early (ltb-false _ _ i))
          (none_released m p (lined p (thread p arrays args).arrays (thread p arrays args).next os sps)
          (early_none m (λ m. w m ++ of_mem m (thread p arrays args).writes)
          (λ m. v m ++ marks p (with_hint arrays sp.hint) args sp.stage m)
          (thread p arrays args).arrays (thread p arrays args).next sp.stage ahead os sps ts h.1 (cons_tail e) s.1 (ltb-false _ _ i)))
          ∙ append-nil (w m) ∙ h.0.words m (inl (ltb-false _ _ i)) ∙ ap (λ l. past m ++ strips m l) none ∙ append-nil (past m)

  -- 8. who still looks has nobody behind it who has released
  module _ (strict : Strict p) where
    looks_low : (m : ℕ) (o : Live) (arrays : Arrays) (args : List ℕ) → Seated p st o
        → still_looks m p (record { live = told o; arrays = arrays; args = args }) ≡ true
        → o.thread.stage ≤ commit_stage p m
    looks_low m o arrays args seated h =
        at (list_any (λ (x : Stmt). looks_at m x.op) (onpath (thread p arrays args).env (stages_from o.thread.stage p.stmts))) refl h
      where
        at : (b : Bool)
            → list_any (λ (x : Stmt). looks_at m x.op) (onpath (thread p arrays args).env (stages_from o.thread.stage p.stmts)) ≡ b
            → (b || list_any (λ x. here p o.env o.thread.stage x && is_delayed_read m x.op) (on_way p o.env o.thread.stage)) ≡ true
            → o.thread.stage ≤ commit_stage p m
        at true e k = looks_early p sound strict (thread p arrays args).env o.thread.stage m seated.keeps_on.inside e
        at false e k = binds_early p sound o.env o.thread.stage m k

    -- behind a thread on its turn that still looks at m, no thread on its turn has released a write of m
    pub pairs_good : (m : ℕ) (w : Writes) (v : Marks) (arrays : Arrays) (args ahead : List ℕ) (os : List Live) (sps : List Spot) (ts : List Derived.Thread)
        → Standing p (course p sound) asked past w v arrays args ahead sps
        → threads_of os ≡ seats p arrays args sps ++ ts → Each (Seated p st) os
        → all_pairs (λ older younger. not (still_looks m p older && has_released m p younger.live)) (lined p arrays args os sps) ≡ true
    pairs_good m w v arrays args ahead os [] ts h e s = refl
    pairs_good m w v arrays args ahead [] (sp ∷ sps) ts h e s = refl
    pairs_good m w v arrays args ahead (o ∷ os) (sp ∷ sps) ts h e s =
        ap₂ (λ a b. a && b) (at (still_looks m p (record { live = told o; arrays = arrays; args = args })) refl)
        (pairs_good m (λ m. w m ++ of_mem m (thread p arrays args).writes) (λ m. v m ++ marks p (with_hint arrays sp.hint) args sp.stage m)
        (thread p arrays args).arrays (thread p arrays args).next (sp.stage ∷ ahead) os sps ts h.1 (cons_tail e) s.1)
      where
        at : (b : Bool) → still_looks m p (record { live = told o; arrays = arrays; args = args }) ≡ b
            → list_all (λ f. not (still_looks m p (record { live = told o; arrays = arrays; args = args }) && has_released m p f.live))
            (lined p (thread p arrays args).arrays (thread p arrays args).next os sps)
            ≡ true
        at true i =
            ap
            (λ b. list_all (λ (f : Follower). not (b && has_released m p f.live))
            (lined p (thread p arrays args).arrays (thread p arrays args).next os sps)) i
            ∙ early_none m (λ m. w m ++ of_mem m (thread p arrays args).writes)
            (λ m. v m ++ marks p (with_hint arrays sp.hint) args sp.stage m)
            (thread p arrays args).arrays (thread p arrays args).next sp.stage ahead os sps ts h.1 (cons_tail e) s.1
            (subst (λ (t : Derived.Thread). t.stage ≤ commit_stage p m) (cons_head e) (looks_low m o arrays args s.0 i))
        at false i =
            ap
            (λ b. list_all (λ (f : Follower). not (b && has_released m p f.live))
            (lined p (thread p arrays args).arrays (thread p arrays args).next os sps)) i
            ∙ all_of (λ (f : Follower). true) (lined p (thread p arrays args).arrays (thread p arrays args).next os sps) (λ f. refl)

  -- 5. nobody astray has released
  stray_each : (m v : ℕ) → verify_stage p.stmts ≡ Some v → Trunk p v → (bound : ℕ) → bound ≤ v
      → (ks : List Live) (ts : List Derived.Thread) → threads_of ks ≡ ts → Each (Seated p st) ks
      → Strays p (course p sound).stray (course p sound).made bound ts
      → list_all (λ l. not (has_done is_barrier p l)) (tells ks) ≡ true
      → list_all (λ l. not (has_released m p l)) (tells ks) ≡ true
  stray_each m v e trunk bound low [] ts i s h c = refl
  stray_each m v e trunk bound low (k ∷ ks) [] i s h c = absurd (cc i)
  stray_each m v e trunk bound low (k ∷ ks) (t ∷ ts) i s h c =
      ap₂ (λ a b. not a && b) (early_unreleased p sound st k s.0 v e below (not-true _ (and_left _ _ c)) m)
      (stray_each m v e trunk t.stage (le_of_lt (subst (λ (t : Derived.Thread). t.stage < v) (cons_head i) below)) ks ts
      (cons_tail i) s.1 h.3 (and_right (not (has_done is_barrier p (told k))) _ c))
    where
      below : k.thread.stage < v
      below = at (nat_lt k.thread.stage v) refl
        where
          at : (b : Bool) → nat_lt k.thread.stage v ≡ b → k.thread.stage < v
          at true j = ltb-true _ _ j
          at false j =
              absurd
              (let u : v < bound = h.1 v trunk (subst (λ (t : Derived.Thread). v ≤ t.stage) (cons_head i) (ltb-false _ _ j)) in let l = low in omega arith)

  -- whom an older thread up to V makes uncertain
  uncertain : (v : ℕ) (o : Sound.Live) → nat_lt v o.stage ≡ false → (ks : List Sound.Live)
      → list_all (certain_after p (Some v) o) ks ≡ true → list_all (λ l. not (has_done is_barrier p l)) ks ≡ true
  uncertain v o low [] h = refl
  uncertain v o low (k ∷ ks) h =
      ap₂ (λ a b. a && b) (at (nat_lt v k.stage) (has_done is_barrier p k) (nat_lt v o.stage) low (and_left _ _ h))
      (uncertain v o low ks (and_right (certain_after p (Some v) o k) _ h))
    where
      at : (a b c : Bool) → c ≡ false → (not (a || b) || c) ≡ true → not b ≡ true
      at a b true i j = absurd (cc i)
      at true b false i j = absurd (cc j)
      at false true false i j = absurd (cc j)
      at false false false i j = refl

  -- behind the threads on their turns nobody has released a write of m
  pub strays_good : (m : ℕ) (w : Writes) (v : Marks) (arrays : Arrays) (args ahead : List ℕ) (os : List Live) (sps : List Spot) (ts : List Derived.Thread)
      → Standing p (course p sound) asked past w v arrays args ahead sps
      → Tail p (course p sound).stray (course p sound).made arrays args sps ts
      → threads_of os ≡ seats p arrays args sps ++ ts → Each (Seated p st) os
      → all_pairs (certain_after p (verify_stage p.stmts)) (tells os) ≡ true
      → list_all (λ l. not (has_released m p l)) (tells (behind os sps)) ≡ true
  strays_good m w v arrays args ahead os [] ts h t e s c = ap (λ ks. list_all (λ l. not (has_released m p l)) (tells ks)) (no_lives os (e ∙ t))
  strays_good m w v arrays args ahead [] (sp ∷ sps) ts h t e s c = refl
  strays_good m w v arrays args ahead (o ∷ os) (sp ∷ []) ts h t e s c = at (so_far p (with_hint arrays sp.hint) args sp.stage).child refl t
    where
      at : (k : Option (List ℕ)) → (so_far p (with_hint arrays sp.hint) args sp.stage).child ≡ k
          → Last p (course p sound).stray (course p sound).made sp.stage k ts
          → list_all (λ l. not (has_released m p l)) (tells os) ≡ true
      at None i k = ap (λ ks. list_all (λ l. not (has_released m p l)) (tells ks)) (no_lives os (cons_tail e ∙ k))
      at (Some x) i k =
          let made = (course p sound).wrong_made (with_hint arrays sp.hint) args sp.stage x i
          (ap (λ y. right_guess y (thread p arrays args).next) (sym i) ∙ h.0.linked) in
          stray_each m (course p sound).v made.1 (course p sound).trunk_v sp.stage made.0 os ts (cons_tail e) s.1 k
          (uncertain (course p sound).v (told o) (not_less made.0) (tells os)
          (subst (λ y. list_all (certain_after p y (told o)) (tells os) ≡ true) made.1 (and_left _ _ c)))
        where
          not_less : sp.stage ≤ (course p sound).v → nat_lt (course p sound).v o.thread.stage ≡ false
          not_less u = by (nat_lt (course p sound).v o.thread.stage) refl
            where
              by : (b : Bool) → nat_lt (course p sound).v o.thread.stage ≡ b → nat_lt (course p sound).v o.thread.stage ≡ false
              by true j =
                  absurd
                  (let y : (course p sound).v < sp.stage = subst (λ (t : Derived.Thread). (course p sound).v < t.stage) (cons_head e) (ltb-true _ _ j) in
                  let z = u in omega arith)
              by false j = j
  strays_good m w v arrays args ahead (o ∷ os) (sp ∷ sp' ∷ sps) ts h t e s c =
      strays_good m (λ m. w m ++ of_mem m (thread p arrays args).writes) (λ m. v m ++ marks p (with_hint arrays sp.hint) args sp.stage m)
      (thread p arrays args).arrays (thread p arrays args).next (sp.stage ∷ ahead) os (sp' ∷ sps) ts h.1 t
      (cons_tail e) s.1 (and_right (list_all (certain_after p (verify_stage p.stmts) (told o)) (tells os)) _ c)
