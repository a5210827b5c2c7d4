-- Sound state's points on all live threads, of every state that a run comes to.
use Rattle.std.proofs.Common.{◌≡◌, refl, ap, ap₂, ◌∙◌, subst, ℕ, ◌<◌, Bool, true, false, ◌&&◌, ◌||◌, not, List, [], ◌∷◌, Option, Some, None, ◌==◌, nat_lt, ltb-true, lt-ltb, le_of_lt}
use Rattle.std.proofs.lemmas.Bool.{or_right}
use Rattle.pdl_theory_turns.specs.Graphs.{Trunk}
use Rattle.pdl_semantics.specs.Flat.{Pipe, Stmt, list_all}
use Rattle.pdl_semantics.specs.Stages.{list_any, verify_stage}
use Rattle.pdl_semantics.specs.Machine.{State, Request, NoRequest, Owned, Orphan, Pending, lock_of, request_of}
use Rattle.pdl_semantics.specs.Sound.{live, all_pairs, all_from, in_order, are_linked, certain_after, asks_right, is_barrier, stays_ready, on_path, has_done, past_stmts}
use Rattle.pdl_semantics.specs.Sound
use Rattle.pdl_theory_turns.specs.Derived.{latest}
use Rattle.pdl_theory_turns.specs.Derived
use Rattle.pdl_theory_turns.specs.Facts.{Sound}
use Rattle.pdl_theory_turns.proofs.CourseOf
use Rattle.pdl_theory_simulation.proofs.AcceptedFacts.{sound_flows}
use Rattle.pdl_theory_turns.proofs.Lists.{pend}
use Rattle.pdl_theory_simulation.proofs.Stretches.{Behind, on_way, left_trunk}
use Rattle.pdl_theory_simulation.proofs.Seats.{Live, each_map, Ordered, Falls, falls_each, pends, befores_are}
use Rattle.pdl_theory_simulation.proofs.Choices.{AllKnown, Seated, Matched}
use Rattle.pdl_theory_simulation.proofs.ThreadFacts.{sides}
use Rattle.pdl_theory_simulation.proofs.CycleStarts.{known}
use Rattle.pdl_theory_states.proofs.OldestFirst.{told, oldest_first, live_is, all_each, Pairwise, pairs_all}
use Rattle.pdl_theory_states.proofs.Stage.{barred}
use Rattle.pdl_theory_states.proofs.ThreadFacts.{Lasting, Along}
use Rattle.pdl_theory_states.proofs.ReachedStates.{Whole, Youngest}
use Rattle.pdl_theory_states.proofs.Order.{behind_is, sides_are, sides_same, from_all}
use Rattle.pdl_theory_states.proofs.Points.{chain, asks_point, owner_any, blocks_point, path_point, any_onto, both_true}
use Rattle.pdl_theory_states.proofs.FetchCounts.{any_append, any_front}
use Rattle.pdl_word.specs.Each.{Each}
use Rattle.pdl_theory_simulation.proofs.SimulatedStates.{HaveMade, Sim}

module _ (p : Pipe) (sound : Sound p) (st : State) (d : Derived.State) (ls : List Live) (sim : Sim p st d ls) (whole : Whole p st ls) where
  -- the live threads of the stated state, oldest first, are those of the simulation
  pub live_here : live st ≡ oldest_first ls
  live_here = live_is p st st.next ls sim.stages (each_map (λ k h. h.keeps_on.inside) ls sim.seated) sim.ordered sim.falls

  -- 1.
  order_pairs : (ks : List Live) (n : ℕ) → Ordered p ks → Falls n ks → Along (Lasting p st) ks
      → Pairwise (λ k l. (nat_lt k.number l.number && Sound.is_behind p (told k) (told l)) ≡ true) ks
  order_pairs [] n o f a = tt
  order_pairs (l ∷ ks) n o f a = (each ks o.0 (falls_each l.number ks f.1) a.1, order_pairs ks l.number o.1 f.1 a.1)
    where
      each : (js : List Live) → Each (λ k. Behind p l.thread.stage k.thread.stage) js
          → Each (λ k. k.number < l.number) js → Along (Lasting p st) js
          → Each (λ k. (nat_lt k.number l.number && Sound.is_behind p (told k) (told l)) ≡ true) js
      each [] b g c = tt
      each (j ∷ js) b g c = (
        both_true (lt-ltb _ _ g.0)
            (behind_is p (sound_flows p sound).graph (told j) (told l) j.env l.env c.0.local.trail a.0.local.trail c.0.local.walked a.0.local.walked b.0),
        each js b.1 g.1 c.1,
      )

  -- threads, their numbers and the lists of forks are in order
  pub order_point : in_order p st ≡ true
  order_point =
      both_true
      (ap (all_pairs (λ older younger. nat_lt older.thread.number younger.thread.number && Sound.is_behind p older younger)) live_here
      ∙ pairs_all _ ls (order_pairs ls st.next sim.ordered sim.falls whole.along))
      (from_all _ 0 p.stages (λ f. ap₂ Sound.same_sides (sim.forks f) (ap (Sound.sides_in p f) live_here ∙ sides_are p f ls) ∙ sides_same (sides p f ls)))

  -- each live thread but the youngest has made its successor
  pub chain_point : (ls ≡ [] → ⊥) → are_linked p (live st) ≡ true
  chain_point some = ap (are_linked p) live_here ∙ at ls sim.have_made whole.youngest some
    where
      at : (ks : List Live) → HaveMade p ks → Youngest p ks → (ks ≡ [] → ⊥) → are_linked p (oldest_first ks) ≡ true
      at [] h y f = absurd (f refl)
      at (l ∷ ks) h y f = chain p l ks h y

  -- 6.
  certain_pairs : (v : ℕ) → verify_stage p.stmts ≡ Some v → (ks : List Live) → Ordered p ks → Along (Lasting p st) ks
      → Pairwise (λ k l. certain_after p (Some v) (told k) (told l) ≡ true) ks
  certain_pairs v e [] o a = tt
  certain_pairs v e (l ∷ ks) o a = (by (nat_lt v l.thread.stage) refl (has_done is_barrier p (told l)) refl, certain_pairs v e ks o.1 a.1)
    where
      trunk : Trunk p v
      trunk = subst (λ n. Trunk p n) (v_is (verify_stage p.stmts) e) (CourseOf.v_trunk p sound (verify_stage p.stmts) refl)
        where
          v_is : (o : Option ℕ) → o ≡ Some v → CourseOf.v_of p sound o ≡ v
          v_is None i = absurd (cc i)
          v_is (Some w) i = cc i

      holds : Each (λ k. v < k.thread.stage) ks → Each (λ k. certain_after p (Some v) (told k) (told l) ≡ true) ks
      holds h = each_map (λ k i. or_right (not (nat_lt v l.thread.stage || has_done is_barrier p (told l))) _ (lt-ltb _ _ i)) ks h

      every : (js : List Live) → nat_lt v l.thread.stage ≡ false → has_done is_barrier p (told l) ≡ false
          → Each (λ k. certain_after p (Some v) (told k) (told l) ≡ true) js
      every [] i j = tt
      every (k ∷ js) i j = (ap₂ (λ a b. not (a || b) || nat_lt v k.thread.stage) i j, every js i j)

      by : (b : Bool) → nat_lt v l.thread.stage ≡ b → (c : Bool) → has_done is_barrier p (told l) ≡ c
          → Each (λ k. certain_after p (Some v) (told k) (told l) ≡ true) ks
      by true i c j = holds (each_map (λ k h. left_trunk p _ _ h v trunk (le_of_lt (ltb-true _ _ i))) ks o.0)
      by false i true j = holds (a.0.certain v e (any_onto is_barrier barred (λ op ops. refl) (on_way p l.env l.thread.stage) [] j))
      by false i false j = every ks i j

  -- before a thread that is past V or a barrier all older ones are past V
  pub certain_point : all_pairs (certain_after p (verify_stage p.stmts)) (live st) ≡ true
  certain_point = ap (all_pairs (certain_after p (verify_stage p.stmts))) live_here ∙ pairs_all _ ls (at (verify_stage p.stmts) refl)
    where
      none : (ks : List Live) → Pairwise (λ k l. true ≡ true) ks
      none [] = tt
      none (l ∷ ks) = (each ks, none ks)
        where
          each : (js : List Live) → Each (λ k. true ≡ true) js
          each [] = tt
          each (j ∷ js) = (refl, each js)

      at : (o : Option ℕ) → verify_stage p.stmts ≡ o → Pairwise (λ k l. certain_after p o (told k) (told l) ≡ true) ls
      at None e = none ls
      at (Some v) e = certain_pairs v e ls sim.ordered whole.along

  -- 7.
  each_asks : (ks : List Live) → Each (Seated p st) ks → Along (Lasting p st) ks → Each (λ l. asks_right p st (told l) ≡ true) ks
  each_asks [] s a = tt
  each_asks (l ∷ ks) s a = (asks_point p st l s.0 a.0.local, each_asks ks s.1 a.1)

  -- each live thread awaits and keeps just what it asked for in its last stage
  pub requests_point : list_all (asks_right p st) (live st) ≡ true
  requests_point = ap (list_all (asks_right p st)) live_here ∙ all_each (asks_right p st) ls (each_asks ls sim.seated whole.along)

  -- each request that has an owner is awaited by a live thread of that number
  pub owners_point : all_from (λ m. Sound.has_owner st m (request_of st m)) 0 p.mems ≡ true
  owners_point = from_all _ 0 p.mems (λ m. at m (request_of st m) (sim.matched m))
    where
      at : (m : ℕ) (r : Request) → Matched r (Derived.asked_at d m) m ls → Sound.has_owner st m r ≡ true
      at m NoRequest h = refl
      at m (Owned n a) h =
          ap (list_any (λ (l : Sound.Live). (l.thread.number == n) && list_any (λ r. r.mem == m) l.thread.awaits)) live_here ∙ owner_any n m ls h.1
      at m (Orphan a) h = refl

  -- 9.
  each_block : (ks : List Live) → AllKnown p (sound_flows p sound) st d [] sim.arrays ks → Along (Lasting p st) ks
      → Each (λ l. list_all (λ (x : Stmt). stays_ready p st (told l) x.op) (past_stmts p (told l)) ≡ true) ks
  each_block [] k a = tt
  each_block (l ∷ ks) k a = (
    blocks_point p st l ks k.0.seated.keeps_on.held (λ m x. k.0.older m x ∙ ap (λ ts. latest ts m x) (befores_are p d [] ks)) a.0.blocks,
    each_block ks k.1 a.1,
  )

  -- each block that a live thread has passed is still ready, or its location was released
  pub ready_point : list_all (λ l. list_all (λ (x : Stmt). stays_ready p st l x.op) (past_stmts p l)) (live st) ≡ true
  ready_point =
      ap (list_all (λ l. list_all (λ (x : Stmt). stays_ready p st l x.op) (past_stmts p l))) live_here
      ∙ all_each _ ls (each_block ls (known p (sound_flows p sound) st d [] ls sim) whole.along)

  -- each live thread stands on its path
  each_path : (ks : List Live) → Each (Seated p st) ks → Along (Lasting p st) ks → Each (λ k. k.number < st.next) ks
      → ((m : ℕ) (test : Pending → Bool) → list_any test (pends m ks) ≡ true → list_any test (lock_of st m) ≡ true)
      → Each (λ l. on_path p st (told l) ≡ true) ks
  each_path [] s a n f = tt
  each_path (l ∷ ks) s a n f = (
    path_point p sound st l s.0 a.0.local a.0.guessed n.0 (λ m test h. f m test (any_append test (pends m ks) (pend m l.number l.thread.entries) h)),
    each_path ks s.1 a.1 n.1 (λ m test h. f m test (any_front test (pends m ks) (pend m l.number l.thread.entries) h)),
  )

  -- each live thread stands on its path, and has done just what the statements of its earlier stages say
  pub paths_point : list_all (on_path p st) (live st) ≡ true
  paths_point =
      ap (list_all (on_path p st)) live_here
      ∙ all_each (on_path p st) ls (each_path ls sim.seated whole.along (falls_each st.next ls sim.falls) (λ m test h. ap (list_any test) (sim.locks m) ∙ h))
