-- What a cycle does stage by stage, in a pipe whose threads go on to later stages.
use Rattle.std.proofs.Common.{◌≡◌, refl, sym, ap, ap₂, ◌∙◌, subst, ℕ, zero, suc, ◌+◌, ◌-◌, ◌<◌, Bool, List, [], ◌∷◌, length, None, is_some, is_none, ◌==◌, cond, if◌then◌else◌, true, false, arith}
use Rattle.std.proofs.lemmas.Bool.{ne_eqb, eqb-true}
use Rattle.pdl_semantics.specs.Flat.{Arrays, with_value, with_word, Mem, Pipe}
use Rattle.pdl_semantics.specs.Stages.{list_any}
use Rattle.pdl_semantics.specs.Machine.{Advised, State, Pending, lock_of}
use Rattle.pdl_semantics.specs.Locks.{commit_value}
use Rattle.pdl_semantics.specs.Moves.{Act, next_stage, all_acts, movers}
use Rattle.pdl_semantics.specs.Cycle.{after_these, cycle, for_mems, list_three, taken_out, port_writes, with_commit, with_commits, with_advised, with_all_advised, entries_left, or_then, if_kept, born_thread, child_of, squasher, stage_next}
use Rattle.pdl_theory_simulation.proofs.PerMemory.{at_mem, other_commit, before_commits}
use Rattle.pdl_machine_facts.specs.Slots
use Rattle.pdl_machine_facts.specs.Slots.{LeadsOn, slot, stage_moves, movers_from, moving, arriving_thread}
use Rattle.pdl_machine_facts.specs.Cycle.{newborn, IsByStages}
use Rattle.pdl_machine_facts.proofs.StagewiseActs.{line_acts, all_are, goes_is, movers_are}
use Rattle.pdl_machine_facts.proofs.StagewisePorts.{stages_below, stages_count, at_stage, valid_at, moves_at, ended_at, stands_at}

-- MEMORIES

-- commits look only at their own memory's words
same_commit : (m : ℕ) (es : List Pending) (a b : Arrays) → a m ≡ b m → with_commit a m es m ≡ with_commit b m es m
same_commit m [] a b h = h
same_commit m (e ∷ es) a b h =
    same_commit m es (with_word a m e.address (commit_value e.value)) (with_word b m e.address (commit_value e.value))
    (ap (λ w. cond (m == m) (with_value w e.address (commit_value e.value)) w) h)

-- and so do advisory writes
same_words : (m : ℕ) (ws : List Advised) (a b : Arrays) → a m ≡ b m → with_advised ws a m ≡ with_advised ws b m
same_words m [] a b h = h
same_words m (w ∷ ws) a b h =
    same_words m ws (with_word a w.mem w.address w.value) (with_word b w.mem w.address w.value) (at (m == w.mem) refl)
  where
    at : (c : Bool) → (m == w.mem) ≡ c
        → cond c (with_value (a w.mem) w.address w.value) (a m) ≡ cond c (with_value (b w.mem) w.address w.value) (b m)
    at true e = ap (λ l. with_value l w.address w.value) (subst (λ n. a n ≡ b n) (eqb-true m w.mem e) h)
    at false e = h

same_advice : (m : ℕ) (ms : List Act) (a b : Arrays) → a m ≡ b m → with_all_advised ms a m ≡ with_all_advised ms b m
same_advice m [] a b h = h
same_advice m (x ∷ ms) a b h = same_words m x.does.advises (with_all_advised ms a) (with_all_advised ms b) (same_advice m ms a b h)

commits_at : (st : State) (ms : List Act) (k n : ℕ) (xs : List Mem) (arrays : Arrays)
    → n < length xs
    → with_commits st ms k xs arrays (k + n) ≡ with_commit arrays (k + n) (taken_out st ms (k + n)) (k + n)
commits_at st ms k n [] arrays h = absurd (omega arith)
commits_at st ms k zero (x ∷ xs) arrays h =
    let e : k + 0 ≡ k = omega arith in
    subst (λ j. with_commits st ms (suc k) xs (with_commit arrays k (taken_out st ms k)) j ≡ with_commit arrays j (taken_out st ms j) j) (sym e)
    (before_commits st ms (suc k) k xs (with_commit arrays k (taken_out st ms k)) (omega arith))
commits_at st ms k (suc n) (x ∷ xs) arrays h =
    let e : suc k + n ≡ k + suc n = omega arith in
    subst
    (λ j. with_commits st ms (suc k) xs (with_commit arrays k (taken_out st ms k)) j
    ≡ with_commit (with_commit arrays k (taken_out st ms k)) j (taken_out st ms j) j) e
    (commits_at st ms (suc k) n xs (with_commit arrays k (taken_out st ms k)) (omega arith))
    ∙ same_commit (k + suc n) (taken_out st ms (k + suc n))
    (with_commit arrays k (taken_out st ms k)) arrays
    (other_commit k (k + suc n) (taken_out st ms k) arrays (ne_eqb (k + suc n) k (λ e. absurd (omega arith))))

-- ONE CYCLE

-- a pipe with a stage, by how many stand after the first
some_after : (n : ℕ) → 0 < n → (k : ℕ) × (n ≡ suc k)
some_after zero h = absurd (omega arith)
some_after (suc n) h = (n, refl)

module _ (p : Pipe) (leads : LeadsOn p) (some : 0 < length p.stages) (st : State) (bits : List Bool) (count : length st.stages ≡ length p.stages) where
  these_are : all_acts p st bits ≡ line_acts p st bits (length p.stages) 0
  these_are = all_are p st bits ∙ ap (λ n. line_acts p st bits n 0) count

  movers_here : movers (all_acts p st bits) ≡ moving p st bits
  movers_here = ap movers these_are ∙ movers_are p st bits (length p.stages) 0

  ended_is : list_any (λ (a : Act). is_none (next_stage p a.stage a.does)) (movers (all_acts p st bits)) ≡ stage_moves p st bits (length p.stages - 1)
  ended_is = ap (list_any (λ (a : Act). is_none (next_stage p a.stage a.does))) movers_here ∙ at (some_after (length p.stages) some)
    where
      at : (k : ℕ) × (length p.stages ≡ suc k)
          → list_any (λ (a : Act). is_none (next_stage p a.stage a.does)) (movers_from p st bits (length p.stages) 0)
          ≡ stage_moves p st bits (length p.stages - 1)
      at (k, e) =
          ap (λ n. list_any (λ (a : Act). is_none (next_stage p a.stage a.does)) (movers_from p st bits n 0)) e
          ∙ ended_at p st bits leads k 0 (omega (arith, e))

  -- the next state, by the movers of the stages
  abbrev next_state : State
  next_state = after_these p st bits (line_acts p st bits (length p.stages) 0) (moving p st bits) (squasher (moving p st bits))

  -- the state after a cycle is the one that the movers of the stages make
  pub next_is : cycle p st bits ≡ next_state
  next_is = λ i. after_these p st bits (these_are i) (movers_here i) (squasher (movers_here i))

  slot_next : (k : ℕ) → k < length p.stages
      → slot next_state k
      ≡ or_then (newborn p st bits k) (if_kept (squasher (moving p st bits)) (or_then (arriving_thread p st bits k) (Slots.staying_thread p st bits k)))
  slot_next k h =
      let z : 0 + k ≡ k = omega arith in
      let these = line_acts p st bits (length p.stages) 0 in
      at_stage _ 0 p.stages k None h
      ∙ ap (stage_next p st these (squasher (moving p st bits))) z
      ∙ ap₂ (λ ms o. or_then (if k == 0 then born_thread p st.next (child_of ms) else None) (if_kept (squasher (moving p st bits)) o))
      (movers_are p st bits (length p.stages) 0) (stands_at p st bits leads k h)

  -- a cycle goes stage by stage and memory by memory, where threads go on to later stages
  pub by_stages : IsByStages p st bits
  by_stages =
      record {
        movers = movers_here;
        goes_where = λ k t l e. goes_is p st bits leads count k t l e;
        valid = stages_below _ _ 0 p.stages (λ s h i. ap (list_any (λ (a : Act). a.stage == s)) these_are ∙ valid_at p st bits (length p.stages) 0 s h i);
        moves = stages_below _ _ 0 p.stages (λ s h i. ap (list_any (λ (a : Act). a.stage == s)) movers_here ∙ moves_at p st bits (length p.stages) 0 s h i);
        commits = ap (λ ms. for_mems (λ m. port_writes (taken_out st ms m)) 0 p.mems) movers_here;
        ended = ended_is;
        squash = ap (λ ms. is_some (squasher ms)) movers_here;
        count = stages_count _ 0 p.stages;
        next = λ k h. ap (λ (s : State). slot s k) next_is ∙ slot_next k h;
        locks = λ m h.
            ap (λ (s : State). lock_of s m) next_is
            ∙ at_mem _ 0 p.mems m [] h
            ∙ ap (λ i. entries_left (squasher (moving p st bits)) (list_three st (moving p st bits) i)) (let e : 0 + m ≡ m = omega arith in e);
        arrays = λ m h.
            ap (λ (s : State). s.arrays m) next_is
            ∙ same_advice m (moving p st bits)
            (with_commits st (moving p st bits) 0 p.mems st.arrays) (with_commit st.arrays m (taken_out st (moving p st bits) m))
            (let e : 0 + m ≡ m = omega arith in
            subst
            (λ j. with_commits st (moving p st bits) 0 p.mems st.arrays j ≡ with_commit st.arrays j (taken_out st (moving p st bits) j) j) e
            (commits_at st (moving p st bits) 0 m p.mems st.arrays h));
      }
