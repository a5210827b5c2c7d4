-- After a cycle each lock's list is the entries of the threads that live on, and what it releases is what the derived machine commits.
use Rattle.std.proofs.Common.{suc, zero, ◌+◌, take, drop, ◌≡◌, ◌≢◌, refl, sym, ap, ap₂, ◌∙◌, subst, ℕ, ◌≤◌, ◌<◌, ◌⊎◌, inl, inr, Bool, true, false, ◌&&◌, not, List, [], ◌∷◌, ◌++◌, length, Option, Some, None, ◌==◌, nat_le, cond, if◌then◌else◌, arith, append-nil, leb-true, leb-false}
use Rattle.std.proofs.lemmas.Bool.{eqb-true, eqb-false}
use Rattle.pdl_semantics.specs.Flat.{Pipe, Commit, of_mem}
use Rattle.pdl_semantics.specs.Stages.{list_any, in_stage, stage_at, goes_to, is_reserve, is_release, reserve_stage, commit_stage}
use Rattle.pdl_semantics.specs.Machine.{State, Pending, word_for, with_answers}
use Rattle.pdl_semantics.specs.Moves.{movers}
use Rattle.pdl_semantics.specs.Cycle.{awaited_of, new_entries, with_reserves, with_writes_of, with_all_writes, releases_of, all_releases, is_kept, entries_left}
use Rattle.pdl_theory_turns.proofs.EntryCommits.{released}
use Rattle.pdl_semantics.specs.Moves
use Rattle.pdl_semantics.specs.Promises.{DifferInAdvice}
use Rattle.pdl_theory_turns.specs.Derived.{Entry, Work, commits_of}
use Rattle.pdl_theory_turns.specs.Derived
use Rattle.pdl_theory_simulation.proofs.FlowFacts.{Flows, stage_or, next_of, Trunk}
use Rattle.pdl_theory_turns.proofs.Writes.{of_mem_append}
use Rattle.pdl_theory_turns.proofs.Turn.{none_in_stage}
use Rattle.pdl_theory_turns.proofs.Slots.{rev}
use Rattle.pdl_theory_turns.proofs.Lists.{own, pend, Foreign, AllForeign, Reserveless, two_moved, two_stays}
use Rattle.pdl_theory_turns.proofs.OwnEntries.{Worked, pend_own, quiet_reserves, quiet_releases}
use Rattle.pdl_theory_simulation.proofs.LockRemovals.{Out, Still, out_more, foreign_append, foreign_pend, foreign_new, foreign_put_all, commits_more}
use Rattle.pdl_theory_simulation.proofs.Stretches.{Behind, left_trunk, early, late}
use Rattle.pdl_theory_simulation.proofs.Seats.{Live, seat, each_map, Ordered, Falls, falls_up, dacts, lacts, lact, did, now_of, work_of_live, deeds_of, pends, pends_append, advised}
use Rattle.pdl_theory_simulation.proofs.Choices.{Known, AllKnown, Seated, worked_here, ends_here, late_here}
use Rattle.pdl_word.specs.Each.{Each}

-- THE LIVE THREADS AFTER A CYCLE

-- whether a thread moves with a failing verify
abbrev pub fell : Pipe → Derived.State → List Bool → List Live → Bool
fell p d bits ls = list_any (λ (o : Derived.Act). o.moves && o.work.fails) (dacts p d bits ls)

-- a live thread that has moved to stage q with this work
abbrev pub moved_one : ℕ → Live → Work → Live
moved_one q l w =
    record {
      number = l.number;
      thread = record { stage = q; hint = l.thread.hint; env = w.env; entries = w.entries; guess = w.guess; awaits = awaited_of w.asks };
      env = w.env;
      kept = [];
      advice = l.advice;
    }

-- a live thread that has moved with this work, none where it has ended
abbrev pub moved_live : Option ℕ → Live → Work → List Live
moved_live None l w = []
moved_live (Some q) l w = moved_one q l w ∷ []

-- a live thread that has stood, with this cycle's answers
abbrev pub stood : Pipe → State → Derived.State → List Bool → Live → Live
stood p st d bits l = record { number = l.number; thread = now_of p d bits l; env = l.env; kept = (with_answers p st bits (seat l)).kept; advice = l.advice }

-- one thread after the cycle, where no squash removes it
abbrev pub next_live : Pipe → State → Derived.State → List Bool → List Live → Live → List Live
next_live p st d bits ls l =
    if (did p d bits ls l).moves
    then moved_live (goes_to (stage_at p l.thread.stage).next (work_of_live p d bits ls l).env) (advised p st bits l) (work_of_live p d bits ls l)
    else stood p st d bits l ∷ []

-- all of them: a failing verify removes the younger ones
abbrev pub go_on : Pipe → State → Derived.State → List Bool → List Live → List Live
go_on p st d bits [] = []
go_on p st d bits (l ∷ ls) = (if fell p d bits ls then [] else next_live p st d bits ls l) ++ go_on p st d bits ls

-- whether a squash by this thread leaves just those that the derived machine leaves
abbrev pub Agrees : Pipe → Derived.State → List Bool → Option ℕ → List Live → Type 0
Agrees p d bits sq [] = Unit {0}
Agrees p d bits sq (l ∷ ls) = (is_kept sq l.number ≡ not (fell p d bits ls)) × Agrees p d bits sq ls

left_append : (sq : Option ℕ) (xs ys : List Pending) → entries_left sq (xs ++ ys) ≡ entries_left sq xs ++ entries_left sq ys
left_append sq [] ys = refl
left_append sq (x ∷ xs) ys = at (is_kept sq x.thread) (left_append sq xs ys)
  where
    at : (b : Bool) → entries_left sq (xs ++ ys) ≡ entries_left sq xs ++ entries_left sq ys
        → cond b (x ∷ entries_left sq (xs ++ ys)) (entries_left sq (xs ++ ys)) ≡ cond b (x ∷ entries_left sq xs) (entries_left sq xs) ++ entries_left sq ys
    at true h = ap (λ l. x ∷ l) h
    at false h = h

left_pend : (sq : Option ℕ) (m n : ℕ) (es : List Entry) → entries_left sq (pend m n es) ≡ cond (is_kept sq n) (pend m n es) []
left_pend sq m n [] = at (is_kept sq n)
  where
    at : (b : Bool) → entries_left sq [] ≡ cond b (pend m n []) []
    at true = refl
    at false = refl
left_pend sq m n (e ∷ es) = left_append sq (pend m n es) _ ∙ at (is_kept sq n) refl (e.mem == m) (left_pend sq m n es)
  where
    at : (b : Bool) → is_kept sq n ≡ b → (c : Bool) → entries_left sq (pend m n es) ≡ cond b (pend m n es) []
        → entries_left sq (pend m n es) ++ entries_left sq (cond c (own n e ∷ []) []) ≡ cond b (pend m n es ++ cond c (own n e ∷ []) []) []
    at true g true h = ap₂ (λ x y. x ++ y) h (ap (λ b. cond b (own n e ∷ []) []) g)
    at true g false h = ap (λ x. x ++ []) h
    at false g true h = ap₂ (λ x y. x ++ y) h (ap (λ b. cond b (own n e ∷ []) []) g)
    at false g false h = ap (λ x. x ++ []) h

-- each of these threads is past stage r
abbrev pub Past : ℕ → List Live → Type 0
Past r ls = Each (λ k. r < k.thread.stage) ls

module _ (p : Pipe) (flows : Flows p) (st : State) (d : Derived.State) (bits : List Bool) (arrays : DifferInAdvice p st.arrays d.arrays) where
  -- the stated acts of the live threads that move, the youngest first
  abbrev pub ms : List Live → List Moves.Act
  ms ls = movers (lacts p st d bits ls)

  -- a thread's entries of m after steps 1 and 2
  abbrev pub part : ℕ → Live → List Pending
  part m l =
      with_writes_of m l.number (deeds_of p st bits l).writes (pend m l.number l.thread.entries ++ new_entries m l.number (deeds_of p st bits l).reserves)

  -- the live threads' entries of m after steps 1 and 2, the oldest thread's first
  abbrev pub two : ℕ → List Live → List Pending
  two m [] = []
  two m (l ∷ ls) = two m ls ++ (if (did p d bits ls l).moves then part m l else pend m l.number l.thread.entries)

  -- the live threads' entries of m after step 3, the oldest thread's first
  abbrev pub three : ℕ → List Live → List Pending
  three m [] = []
  three m (l ∷ ls) =
      three m ls ++ (if (did p d bits ls l).moves then pend m l.number (work_of_live p d bits ls l).entries else pend m l.number l.thread.entries)

  past_of : (r : ℕ) (l : Live) (ls : List Live) → Trunk p r
      → Each (λ k. Behind p l.thread.stage k.thread.stage) ls → r ≤ l.thread.stage → Past r ls
  past_of r l ls t b h = each_map (λ k i. left_trunk p _ _ i r t h) ls b

  -- the next stage of a thread is later than the one where it stands
  pub next_up : (s : ℕ) (env : List ℕ) → s < length p.stages → s < next_of p s env
  next_up s env low = at (goes_to (stage_at p s).next env) refl
    where
      at : (r : Option ℕ) → goes_to (stage_at p s).next env ≡ r → s < stage_or (length p.stages) r
      at None e = low
      at (Some q) e = (flows.graph.up s q (env, e, low)).0

  -- a thread reserves m in one stage, and releases it in one stage
  quiet_new : (l : Live) (m : ℕ) → l.thread.stage ≢ reserve_stage p m → new_entries m l.number (deeds_of p st bits l).reserves ≡ []
  quiet_new l m h =
      quiet_reserves m l.number (word_for st l.number)
      (in_stage l.thread.stage p.stmts) _ (none_in_stage (is_reserve m) (reserve_stage p m) l.thread.stage p.stmts (flows.reserves m) h) refl

  -- a thread that releases a write of m stands in the stage of m's releases
  pub release_here : (ls : List Live) (l : Live) (k : Known p flows st d bits arrays ls l) (m : ℕ)
      → releases_of m (deeds_of p st bits l).releases ≢ 0 → l.thread.stage ≡ commit_stage p m
  release_here ls l k m h = at (l.thread.stage == commit_stage p m) refl
    where
      at : (b : Bool) → (l.thread.stage == commit_stage p m) ≡ b → l.thread.stage ≡ commit_stage p m
      at true e = eqb-true _ _ e
      at false e =
          absurd (h (quiet_releases m (word_for st l.number) (in_stage l.thread.stage p.stmts) _
          (none_in_stage (is_release m) (commit_stage p m) l.thread.stage p.stmts (flows.releases m) (eqb-false _ _ e)) refl))

  reserveless : (m : ℕ) (ls : List Live) → Past (reserve_stage p m) ls → Reserveless m (ms ls)
  reserveless m [] r = tt
  reserveless m (l ∷ ls) r = at (did p d bits ls l).moves (quiet_new l m (λ e. absurd (let k = r.0 in omega arith))) (reserveless m ls r.1)
    where
      at : (b : Bool) → new_entries m l.number (deeds_of p st bits l).reserves ≡ [] → Reserveless m (ms ls)
          → Reserveless m (cond b (lact p st d bits ls l ∷ ms ls) (ms ls))
      at true f g = (f, g)
      at false f g = g

  foreign_two : (m n : ℕ) (ls : List Live) → Falls n ls → Foreign n (two m ls)
  foreign_two m n [] f = tt
  foreign_two m n (l ∷ ls) f =
      foreign_append n (two m ls) _ (foreign_two m n ls (falls_up l.number n ls (let i = f.0 in omega arith) f.1)) (at (did p d bits ls l).moves)
    where
      other : l.number ≢ n
      other e = let h = f.0 in absurd (omega arith)

      at : (b : Bool) → Foreign n (cond b (part m l) (pend m l.number l.thread.entries))
      at true =
          foreign_put_all n m l.number (deeds_of p st bits l).writes _
          (foreign_append n _ _ (foreign_pend n m l.number l.thread.entries other) (foreign_new n m l.number (deeds_of p st bits l).reserves other))
      at false = foreign_pend n m l.number l.thread.entries other

  -- older threads' numbers are others
  strangers : (n : ℕ) (ys : List Pending) (ls : List Live) → ((k : ℕ) → k < n → Foreign k ys) → Falls n ls → AllForeign (ms ls) ys
  strangers n ys [] h f = tt
  strangers n ys (l ∷ ls) h f = at (did p d bits ls l).moves (h l.number f.0) (strangers l.number ys ls (λ k i. h k (let j = f.0 in omega arith)) f.1)
    where
      at : (b : Bool) → Foreign l.number ys → AllForeign (ms ls) ys → AllForeign (cond b (lact p st d bits ls l ∷ ms ls) (ms ls)) ys
      at true g i = (g, i)
      at false g i = i

  -- a lock's list after steps 1 and 2 is the live threads' entries of m after these steps
  pub two_is : (m n : ℕ) (ls : List Live) → Each (Seated p st) ls → Ordered p ls → Falls n ls
      → with_all_writes m (ms ls) (with_reserves m (ms ls) (pends m ls)) ≡ two m ls
  two_is m n [] s o f = refl
  two_is m n (l ∷ ls) s o f = at (did p d bits ls l).moves (two_is m l.number ls s.1 o.1 f.1)
    where
      side : (pend m l.number l.thread.entries ≡ []) ⊎ Reserveless m (ms ls)
      side = by (nat_le (reserve_stage p m) l.thread.stage) refl
        where
          by : (b : Bool) → nat_le (reserve_stage p m) l.thread.stage ≡ b → (pend m l.number l.thread.entries ≡ []) ⊎ Reserveless m (ms ls)
          by true e = inr (reserveless m ls (past_of (reserve_stage p m) l ls (flows.trunk_reserve m) o.0 (leb-true _ _ e)))
          by false e =
              inl
              (pend_own m l.number l.thread.entries
              ∙ ap (pend m l.number) (early p flows l.env l.thread s.0.keeps_on m (let k = leb-false _ _ e in omega arith)))

      mine : (k : ℕ) → k < l.number → Foreign k (pend m l.number l.thread.entries)
      mine k h = foreign_pend k m l.number l.thread.entries (λ e. absurd (omega arith))

      news : (k : ℕ) → k < l.number → Foreign k (new_entries m l.number (deeds_of p st bits l).reserves)
      news k h = foreign_new k m l.number (deeds_of p st bits l).reserves (λ e. absurd (omega arith))

      at : (b : Bool) → with_all_writes m (ms ls) (with_reserves m (ms ls) (pends m ls)) ≡ two m ls
          → with_all_writes m (cond b (lact p st d bits ls l ∷ ms ls) (ms ls))
          (with_reserves m (cond b (lact p st d bits ls l ∷ ms ls) (ms ls)) (pends m (l ∷ ls)))
          ≡ two m ls ++ cond b (part m l) (pend m l.number l.thread.entries)
      at true h =
          two_moved m (lact p st d bits ls l) (ms ls) (pends m ls) (pend m l.number l.thread.entries) (two m ls) side
          (strangers l.number _ ls (λ k i. foreign_append k _ _ (mine k i) (news k i)) f.1) (foreign_two m l.number ls f.1) h
      at false h = two_stays m (ms ls) (pends m ls) (pend m l.number l.thread.entries) (two m ls) side (strangers l.number _ ls mine f.1) h

  -- what the derived machine commits to m in the cycle
  abbrev pub commits_here : ℕ → List Live → List Commit
  commits_here m ls = of_mem m (commits_of (rev (dacts p d bits ls)))

  -- whether a thread's stage releases a write of m
  abbrev pub takes : ℕ → Live → ℕ
  takes m l = releases_of m (deeds_of p st bits l).releases

  commits_next : (m : ℕ) (ls : List Live) (l : Live)
      → commits_here m (l ∷ ls) ≡ commits_here m ls ++ of_mem m (if (did p d bits ls l).moves then (work_of_live p d bits ls l).commits else [])
  commits_next m ls l = ap (of_mem m) (commits_more (rev (dacts p d bits ls)) (did p d bits ls l)) ∙ of_mem_append m (commits_of (rev (dacts p d bits ls))) _

  -- past the stage of its releases nobody has an entry of m
  pub gone : (m : ℕ) (ls : List Live) → AllKnown p flows st d bits arrays ls → Past (commit_stage p m) ls
      → Still (all_releases m (ms ls)) (two m ls) (three m ls) (commits_here m ls)
  gone m [] k c = (refl, refl, refl, refl)
  gone m (l ∷ ls) k c = at (did p d bits ls l).moves (commits_next m ls l) (gone m ls k.1 c.1)
    where
      w : Worked m l.number (pend m l.number l.thread.entries) (deeds_of p st bits l) (work_of_live p d bits ls l)
      w = worked_here p flows st d bits arrays ls l k.0 m

      none : pend m l.number l.thread.entries ≡ []
      none = pend_own m l.number l.thread.entries ∙ ap (pend m l.number) (late p flows l.env l.thread k.0.seated.keeps_on m c.0)

      keeps : takes m l ≡ 0
      keeps = by (takes m l) refl
        where
          by : (n : ℕ) → takes m l ≡ n → takes m l ≡ 0
          by zero e = e
          by (suc n) e = absurd (let j = release_here ls l k.0 m (λ z. cc (sym e ∙ z)) in let i = c.0 in omega arith)

      empty : part m l ≡ []
      empty =
          sym (w.after ∙ ap (λ b. drop b (part m l)) keeps)
          ∙ pend_own m l.number (work_of_live p d bits ls l).entries
          ∙ ap (pend m l.number)
          (late_here p flows st d bits arrays ls l k.0 m
          (let i = c.0 in let j = next_up l.thread.stage (work_of_live p d bits ls l).env k.0.seated.keeps_on.inside in omega arith))

      at : (b : Bool) → commits_here m (l ∷ ls) ≡ commits_here m ls ++ of_mem m (cond b (work_of_live p d bits ls l).commits [])
          → Still (all_releases m (ms ls)) (two m ls) (three m ls) (commits_here m ls)
          → Still (all_releases m (cond b (lact p st d bits ls l ∷ ms ls) (ms ls)))
          (two m ls ++ cond b (part m l) (pend m l.number l.thread.entries))
          (three m ls ++ cond b (pend m l.number (work_of_live p d bits ls l).entries) (pend m l.number l.thread.entries))
          (commits_here m (l ∷ ls))
      at true e s = (
        ap₂ (λ x y. x + y) s.0 keeps,
        ap₂ (λ x y. x ++ y) s.1 empty,
        ap₂ (λ x y. x ++ y) s.2 (w.after ∙ ap₂ drop keeps empty),
        e ∙ ap₂ (λ x y. x ++ y) s.3 (w.commits ∙ ap (λ b. released m (take b (part m l))) keeps),
      )
      at false e s = (s.0, ap₂ (λ x y. x ++ y) s.1 none, ap₂ (λ x y. x ++ y) s.2 none, e ∙ append-nil _ ∙ s.3)

  -- what step 3 takes out of the lock of m is what the derived machine commits, and it leaves the live threads' entries after it
  pub three_is : (m : ℕ) (ls : List Live) → AllKnown p flows st d bits arrays ls → Ordered p ls
      → Out m (all_releases m (ms ls)) (two m ls) (three m ls) (commits_here m ls)
  three_is m [] k o = record { left = refl; enough = omega arith; shows = refl }
  three_is m (l ∷ ls) k o = at (did p d bits ls l).moves (commits_next m ls l) (three_is m ls k.1 o.1)
    where
      w : Worked m l.number (pend m l.number l.thread.entries) (deeds_of p st bits l) (work_of_live p d bits ls l)
      w = worked_here p flows st d bits arrays ls l k.0 m

      at : (b : Bool) → commits_here m (l ∷ ls) ≡ commits_here m ls ++ of_mem m (cond b (work_of_live p d bits ls l).commits [])
          → Out m (all_releases m (ms ls)) (two m ls) (three m ls) (commits_here m ls)
          → Out m (all_releases m (cond b (lact p st d bits ls l ∷ ms ls) (ms ls)))
          (two m ls ++ cond b (part m l) (pend m l.number l.thread.entries))
          (three m ls ++ cond b (pend m l.number (work_of_live p d bits ls l).entries) (pend m l.number l.thread.entries))
          (commits_here m (l ∷ ls))
      at true e s =
          subst (λ c. Out m (all_releases m (ms ls) + takes m l) (two m ls ++ part m l) (three m ls ++ pend m l.number (work_of_live p d bits ls l).entries) c)
          (sym e)
          (out_more m (all_releases m (ms ls)) (takes m l) (two m ls) (three m ls) (part m l)
          (pend m l.number (work_of_live p d bits ls l).entries) (commits_here m ls)
          (of_mem m (work_of_live p d bits ls l).commits) s w.after (room w.full) w.commits
          (by (takes m l) refl))
        where
          room : (takes m l ≡ 0) ⊎ (length (part m l) ≡ takes m l) → takes m l ≤ length (part m l)
          room (inl i) = omega arith
          room (inr i) = omega arith

          by : (n : ℕ) → takes m l ≡ n → (takes m l ≡ 0) ⊎ Still (all_releases m (ms ls)) (two m ls) (three m ls) (commits_here m ls)
          by zero i = inl i
          by (suc n) i =
              inr
              (gone m ls k.1 (past_of (commit_stage p m) l ls (flows.trunk_commit m) o.0
              (let j = release_here ls l k.0 m (λ z. cc (sym i ∙ z)) in omega arith)))
      at false e s =
          subst (λ c. Out m (all_releases m (ms ls)) (two m ls ++ pend m l.number l.thread.entries) (three m ls ++ pend m l.number l.thread.entries) c) (sym e)
          (subst (λ n. Out m n (two m ls ++ pend m l.number l.thread.entries) (three m ls ++ pend m l.number l.thread.entries) (commits_here m ls ++ []))
          (plus (all_releases m (ms ls)))
          (out_more m (all_releases m (ms ls)) 0 (two m ls) (three m ls) (pend m l.number l.thread.entries)
          (pend m l.number l.thread.entries) (commits_here m ls)
          [] s refl (omega arith) refl (inl refl)))
        where
          plus : (n : ℕ) → n + 0 ≡ n
          plus n = omega arith

  -- no memory that isn't there is released
  pub unreleased : (m : ℕ) (ls : List Live) → AllKnown p flows st d bits arrays ls → length p.stages ≤ commit_stage p m → all_releases m (ms ls) ≡ 0
  unreleased m [] k h = refl
  unreleased m (l ∷ ls) k h = at (did p d bits ls l).moves (unreleased m ls k.1 h) (none (takes m l) refl)
    where
      none : (n : ℕ) → takes m l ≡ n → takes m l ≡ 0
      none zero e = e
      none (suc n) e = absurd (let i = release_here ls l k.0 m (λ z. cc (sym e ∙ z)) in let j = k.0.seated.keeps_on.inside in omega arith)

      at : (b : Bool) → all_releases m (ms ls) ≡ 0 → takes m l ≡ 0 → all_releases m (cond b (lact p st d bits ls l ∷ ms ls) (ms ls)) ≡ 0
      at true e g = ap₂ (λ x y. x + y) e g
      at false e g = e

  -- what step 3 leaves are the entries of the threads that live on
  pends_live : (m : ℕ) (ls : List Live) (l : Live) → Known p flows st d bits arrays ls l
      → pends m (next_live p st d bits ls l)
      ≡ (if (did p d bits ls l).moves then pend m l.number (work_of_live p d bits ls l).entries else pend m l.number l.thread.entries)
  pends_live m ls l k = at (did p d bits ls l).moves
    where
      w : Work
      w = work_of_live p d bits ls l

      out : (r : Option ℕ) → goes_to (stage_at p l.thread.stage).next (work_of_live p d bits ls l).env ≡ r
          → pends m (moved_live r (advised p st bits l) (work_of_live p d bits ls l)) ≡ pend m l.number (work_of_live p d bits ls l).entries
      out None e = sym (pend_own m l.number _ ∙ ap (pend m l.number) (ends_here p flows st d bits arrays ls l k m (ap (stage_or (length p.stages)) e)))
      out (Some q) e = refl

      at : (b : Bool)
          → pends m
          (cond b (moved_live (goes_to (stage_at p l.thread.stage).next (work_of_live p d bits ls l).env) (advised p st bits l) (work_of_live p d bits ls l))
          (stood p st d bits l ∷ []))
          ≡ cond b (pend m l.number (work_of_live p d bits ls l).entries) (pend m l.number l.thread.entries)
      at true = out (goes_to (stage_at p l.thread.stage).next (work_of_live p d bits ls l).env) refl
      at false = refl

  -- a squash drops the entries of those that it removes
  pub pends_on : (m : ℕ) (sq : Option ℕ) (ls : List Live) → AllKnown p flows st d bits arrays ls → Agrees p d bits sq ls
      → entries_left sq (three m ls) ≡ pends m (go_on p st d bits ls)
  pends_on m sq [] k g = refl
  pends_on m sq (l ∷ ls) k g =
      left_append sq (three m ls) _
      ∙ ap₂ (λ x y. x ++ y) (pends_on m sq ls k.1 g.1)
      (mine (did p d bits ls l).moves
      ∙ ap
      (λ b. cond b (if (did p d bits ls l).moves then pend m l.number (work_of_live p d bits ls l).entries else pend m l.number l.thread.entries) []) g.0
      ∙ drop (fell p d bits ls))
      ∙ sym (pends_append m (if fell p d bits ls then [] else next_live p st d bits ls l) (go_on p st d bits ls))
    where
      mine : (b : Bool)
          → entries_left sq (cond b (pend m l.number (work_of_live p d bits ls l).entries) (pend m l.number l.thread.entries))
          ≡ cond (is_kept sq l.number) (cond b (pend m l.number (work_of_live p d bits ls l).entries) (pend m l.number l.thread.entries)) []
      mine true = left_pend sq m l.number (work_of_live p d bits ls l).entries
      mine false = left_pend sq m l.number l.thread.entries

      drop : (f : Bool)
          → cond (not f) (if (did p d bits ls l).moves then pend m l.number (work_of_live p d bits ls l).entries else pend m l.number l.thread.entries) []
          ≡ pends m (cond f [] (next_live p st d bits ls l))
      drop true = refl
      drop false = sym (pends_live m ls l k.0)
