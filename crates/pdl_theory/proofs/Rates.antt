-- How many threads end in a run, in the whole language: at least as many as the cycles that are no waits, divided by the depth of the pipe.
use Rattle.std.proofs.Common.{◌≡◌, refl, sym, ap, ap₂, ◌∙◌, subst, ℕ, zero, suc, max, ◌+◌, ◌-◌, ◌*◌, ◌/◌, ◌<◌, ◌≤◌, Bool, true, false, ◌&&◌, ◌||◌, List, [], ◌∷◌, ◌++◌, length, Some, None, is_none, ◌==◌, nat_lt, cond, if◌then◌else◌, arith, ltb-true, ltb-false, lt-ltb, slice_index, slice_index_or, slice_set, replicate, div-lt_iff_lt-mul, le_refl, le_trans}
use Rattle.std.proofs.Math.Nat.{suc-mul}
use Rattle.std.proofs.lemmas.List.{get_or-set_other, get_or-set_same, length-set}
use Rattle.std.proofs.lemmas.Bool.{eqb-true, eqb-false}
use Rattle.pdl_semantics.specs.Flat.{Arrays, Pipe, Stage, Next, Ends, Goes, Forks, Commit, start_env, of_mem}
use Rattle.pdl_semantics.specs.Stages.{last_stage, stage_at, goes_to, onward, stages_on, guard_of_fork, fork_guards, longest, depth}
use Rattle.pdl_semantics.specs.Sequential.{thread, writes_from, after_turns}
use Rattle.pdl_theory_turns.specs.Derived.{Hint, Work, Thread, State, Act, act, acts, all_acts, survivors, moved_to, born_threads, exit_of, cycle, turns_from, ended_in, waits_in, is_wait, commits_of, first, turns}
use Rattle.pdl_theory_turns.specs.Alone.{KeepsPace, oldest_moves}
use Rattle.pdl_theory_turns.specs.Graphs.{stage_or, next_of}
use Rattle.pdl_theory_turns.specs.Facts.{at_once, Sound}
use Rattle.pdl_theory.proofs.Cycle.{ends_one}
use Rattle.pdl_theory.proofs.Spots.{with_hint, Spot, seat, seats, is_nil, Standing}
use Rattle.pdl_theory.proofs.Cycles.{work_same}
use Rattle.pdl_theory_turns.proofs.Writes.{row_committed}
use Rattle.pdl_theory.proofs.Follows.{Runs, runs_cycle, runs_first, oldest_of, behind_none, rows_at, low_end}
use Rattle.pdl_theory_turns.proofs.CourseOf.{course, walk, Reached, on_reached, on_visited}
use Rattle.pdl_theory_turns.proofs.StageFacts

-- THE LONGEST PATH

-- the values of these guards on a path, as 0 or 1
abbrev pub picks : List ℕ → List ℕ → List ℕ → List ℕ
picks path [] e = e
picks path (x ∷ xs) e = picks path xs (slice_set e x (if slice_index path x == 1 then 1 else 0))

picked_most : (p : Pipe) (path : List ℕ) (xs e : List ℕ) → stages_on p (picks path xs e) (length p.stages) 0 ≤ longest p e xs
picked_most p path [] e = le_refl _
picked_most p path (x ∷ xs) e = at (slice_index path x == 1) (picked_most p path xs (slice_set e x 0)) (picked_most p path xs (slice_set e x 1))
  where
    at : (b : Bool) → stages_on p (picks path xs (slice_set e x 0)) (length p.stages) 0 ≤ longest p (slice_set e x 0) xs
        → stages_on p (picks path xs (slice_set e x 1)) (length p.stages) 0 ≤ longest p (slice_set e x 1) xs
        → stages_on p (picks path xs (slice_set e x (if b then 1 else 0)))
        (length p.stages) 0 ≤ max (longest p (slice_set e x 0) xs) (longest p (slice_set e x 1) xs)
    at true f g = omega arith
    at false f g = omega arith

-- whether a number is among these
abbrev pub among : ℕ → List ℕ → Bool
among x [] = false
among x (y ∷ ys) = (y == x) || among x ys

unpicked : (path xs e : List ℕ) (x : ℕ) → among x xs ≡ false → slice_index (picks path xs e) x ≡ slice_index e x
unpicked path [] e x h = refl
unpicked path (y ∷ ys) e x h =
    unpicked path ys _ x (and_second (y == x) h) ∙ get_or-set_other e y x _ 0 (λ i. eqb-false y x (and_first (y == x) h) (sym i))
  where
    and_first : (b : Bool) → (b || among x ys) ≡ false → b ≡ false
    and_first true k = absurd (cc k)
    and_first false k = refl

    and_second : (b : Bool) → (b || among x ys) ≡ false → among x ys ≡ false
    and_second true k = absurd (cc k)
    and_second false k = k

-- a guard among these has the truth value that the path gives it, in the values picked for the path
pub picked : (path xs e : List ℕ) (x : ℕ)
    → x < length e → among x xs ≡ true → (slice_index (picks path xs e) x == 1) ≡ (slice_index path x == 1)
picked path [] e x low h = absurd (cc h)
picked path (y ∷ ys) e x low h =
    at (among x ys) refl (y == x) refl h
    (picked path ys (slice_set e y (if slice_index path y == 1 then 1 else 0)) x
    (subst (λ n. x < n) (sym (length-set e y (if slice_index path y == 1 then 1 else 0))) low))
  where
    bit : (b : Bool) → ((if b then 1 else 0) == 1) ≡ b
    bit true = refl
    bit false = refl

    at : (b : Bool) → among x ys ≡ b → (c : Bool) → (y == x) ≡ c → (c || among x ys) ≡ true
        → (among x ys ≡ true → (slice_index (picks path ys (slice_set e y (if slice_index path y == 1 then 1 else 0))) x == 1) ≡ (slice_index path x == 1))
        → (slice_index (picks path ys (slice_set e y (if slice_index path y == 1 then 1 else 0))) x == 1) ≡ (slice_index path x == 1)
    at true i c j k go = go i
    at false i true j k go =
        let same : y ≡ x = eqb-true y x j in
        ap (λ n. n == 1)
        (unpicked path ys (slice_set e y (if slice_index path y == 1 then 1 else 0)) x i
        ∙ ap (λ z. slice_index (slice_set e z (if slice_index path z == 1 then 1 else 0)) x) same
        ∙ get_or-set_same e x (if slice_index path x == 1 then 1 else 0) 0 low)
        ∙ bit (slice_index path x == 1)
    at false i false j k go = absurd (cc (sym i ∙ k))

-- a number is among two lists where it is among the one or the other
pub among_append : (x : ℕ) (xs ys : List ℕ) → among x (xs ++ ys) ≡ (among x xs || among x ys)
among_append x [] ys = refl
among_append x (z ∷ zs) ys = at (z == x) (among_append x zs ys)
  where
    at : (b : Bool) → among x (zs ++ ys) ≡ (among x zs || among x ys) → (b || among x (zs ++ ys)) ≡ ((b || among x zs) || among x ys)
    at true h = refl
    at false h = h

-- each fork's variable is a guard of a fork
pub fork_among : (xs : List Stage) (s x a b : ℕ) → (slice_index_or xs s last_stage).next ≡ Forks x a b → among x (fork_guards xs) ≡ true
fork_among [] s x a b e = absurd (cc e)
fork_among (y ∷ ys) zero x a b e =
    among_append x (guard_of_fork y.next) (fork_guards ys)
    ∙ ap (λ n. among x (guard_of_fork n) || among x (fork_guards ys)) e
    ∙ ap (λ t. (t || false) || among x (fork_guards ys)) (same x)
  where
    same : (x : ℕ) → (x == x) ≡ true
    same x = at (x == x) refl
      where
        at : (c : Bool) → (x == x) ≡ c → (x == x) ≡ true
        at true i = i
        at false i = absurd (eqb-false x x i refl)
fork_among (y ∷ ys) (suc s) x a b e =
    among_append x (guard_of_fork y.next) (fork_guards ys) ∙ or_true (among x (guard_of_fork y.next)) (fork_among ys s x a b e)
  where
    or_true : (c : Bool) {d : Bool} → d ≡ true → (c || d) ≡ true
    or_true true k = refl
    or_true false k = k

-- paths that agree on forks have the same stages
same_way : (p : Pipe) (e path : List ℕ)
    → ((s x a b : ℕ) → (stage_at p s).next ≡ Forks x a b → (slice_index e x == 1) ≡ (slice_index path x == 1))
    → (limit s : ℕ) → stages_on p e limit s ≡ stages_on p path limit s
same_way p e path f zero s = refl
same_way p e path f (suc limit) s = ap suc (at (stage_at p s).next refl (same_way p e path f limit))
  where
    at : (n : Next) → (stage_at p s).next ≡ n → ((q : ℕ) → stages_on p e limit q ≡ stages_on p path limit q)
        → onward (stages_on p e limit) (goes_to (stage_at p s).next e) ≡ onward (stages_on p path limit) (goes_to (stage_at p s).next path)
    at Ends i go = ap (λ n. onward (stages_on p e limit) (goes_to n e)) i ∙ sym (ap (λ n. onward (stages_on p path limit) (goes_to n path)) i)
    at (Goes to) i go = ap (λ n. onward (stages_on p e limit) (goes_to n e)) i ∙ go to ∙ sym (ap (λ n. onward (stages_on p path limit) (goes_to n path)) i)
    at (Forks x a b) i go =
        ap (λ n. onward (stages_on p e limit) (goes_to n e)) i
        ∙ ap (λ t. stages_on p e limit (if t then a else b)) (f s x a b i)
        ∙ go (if slice_index path x == 1 then a else b)
        ∙ sym (ap (λ n. onward (stages_on p path limit) (goes_to n path)) i)

module _ (p : Pipe) (acc : Sound p) where
  zeros : (n : ℕ) → length {A = ℕ} (replicate n 0) ≡ n
  zeros zero = refl
  zeros (suc n) = ap suc (zeros n)

  -- no path is longer than the depth
  pub path_most : (path : List ℕ) → stages_on p path (length p.stages) 0 ≤ depth p
  path_most path =
      subst (λ n. n ≤ depth p) (same_way p (picks path (fork_guards p.stages) (start_env p [])) path agree (length p.stages) 0)
      (picked_most p path (fork_guards p.stages) (start_env p []))
    where
      agree : (s x a b : ℕ) → (stage_at p s).next ≡ Forks x a b
          → (slice_index (picks path (fork_guards p.stages) (start_env p [])) x == 1) ≡ (slice_index path x == 1)
      agree s x a b e =
          picked path (fork_guards p.stages) (start_env p []) x
          (let i : length {A = ℕ} (replicate (p.vars - 0) 0) ≡ p.vars - 0 = zeros (p.vars - 0) in let j = acc.fork_known s x a b e in omega arith)
          (fork_among p.stages s x a b e)

  -- THE STAGES THAT ARE LEFT

  -- how many stages are left on a path from stage s on, with stage s
  abbrev pub left : List ℕ → ℕ → ℕ
  left path s = stages_on p path (length p.stages) s

  -- any limit that is large enough gives them
  enough : (path : List ℕ) (a b s : ℕ) → s < length p.stages → length p.stages ≤ a + s → length p.stages ≤ b + s → stages_on p path a s ≡ stages_on p path b s
  enough path zero b s low h k = absurd (omega arith)
  enough path (suc a) zero s low h k = absurd (omega arith)
  enough path (suc a) (suc b) s low h k =
      ap suc
      (ap (onward (stages_on p path a)) (acc.graph.leaves s path low)
      ∙ at (nat_lt (next_of p s path) (length p.stages)) refl (λ n. enough path a b (next_of p s path) n)
      ∙ ap (onward (stages_on p path b)) (sym (acc.graph.leaves s path low)))
    where
      up : s < next_of p s path
      up = acc.graph.up s path low

      at : (c : Bool) → nat_lt (next_of p s path) (length p.stages) ≡ c
          → (next_of p s path < length p.stages → length p.stages ≤ a + next_of p s path
          → length p.stages ≤ b + next_of p s path
          → stages_on p path a (next_of p s path) ≡ stages_on p path b (next_of p s path))
          → onward (stages_on p path a) (cond c (Some (next_of p s path)) None) ≡ onward (stages_on p path b) (cond c (Some (next_of p s path)) None)
      at true e go = go (ltb-true _ _ e) (let i = up in omega arith) (let i = up in omega arith)
      at false e go = refl

  -- from the next stage on one stage less is left than from this one
  pub left_next : (path : List ℕ) (s : ℕ) → s < length p.stages → next_of p s path < length p.stages → suc (left path (next_of p s path)) ≡ left path s
  left_next path s low inside = at (length p.stages) refl
    where
      up : s < next_of p s path
      up = acc.graph.up s path low

      at : (k : ℕ) → length p.stages ≡ k → suc (left path (next_of p s path)) ≡ left path s
      at zero e = absurd (omega arith)
      at (suc k) e =
          ap suc (enough path (length p.stages) k (next_of p s path) inside (omega arith) (let i = up in omega arith))
          ∙ ap (λ o. suc (onward (stages_on p path k) o))
          (sym (acc.graph.leaves s path low ∙ ap (λ b. cond b (Some (next_of p s path)) None) (lt-ltb _ _ inside)))
          ∙ ap (λ n. stages_on p path n s) (sym e)

  -- from one of the pipe's stages on at least one stage is left
  pub left_some : (path : List ℕ) (s : ℕ) → s < length p.stages → 0 < left path s
  left_some path s low = at (length p.stages) refl
    where
      at : (k : ℕ) → length p.stages ≡ k → 0 < left path s
      at zero e = absurd (omega arith)
      at (suc k) e = subst (λ n. 0 < stages_on p path n s) (sym e) (omega arith)

  -- a stage that is reached has no more left than the path has stages
  walk_left : (path : List ℕ) (k : ℕ) → walk p path k < length p.stages → left path (walk p path k) ≤ left path 0
  walk_left path zero low = le_refl _
  walk_left path (suc k) low = at (nat_lt (walk p path k) (length p.stages)) refl (walk_left path k)
    where
      at : (b : Bool) → nat_lt (walk p path k) (length p.stages) ≡ b
          → (walk p path k < length p.stages → left path (walk p path k) ≤ left path 0)
          → left path (walk p path (suc k)) ≤ left path 0
      at true e go = let i = go (ltb-true _ _ e) in let j = left_next path (walk p path k) (ltb-true _ _ e) low in omega arith
      at false e go = absurd (past (ltb-false _ _ e))
        where
          -- past the end a path stays there
          past : length p.stages ≤ walk p path k → ⊥
          past h = stays (walk p path k) h
            where
              beyond : (s : ℕ) (xs : List Stage) → length xs ≤ s → slice_index_or xs s last_stage ≡ last_stage
              beyond s [] h = refl
              beyond zero (x ∷ xs) h = absurd (omega arith)
              beyond (suc s) (x ∷ xs) h = beyond s xs (omega arith)

              stays : (s : ℕ) → length p.stages ≤ s → ⊥
              stays s h =
                  absurd
                  (let i : next_of p (walk p path k) path
                  ≡ length p.stages =
                  ap (λ (x : Stage). stage_or (length p.stages) (goes_to x.next path)) (beyond (walk p path k) p.stages (ltb-false _ _ e)) in
                  let j = low in omega arith)

  -- from a stage that a path comes to no more stages are left than the depth of the pipe
  pub reached_left : (path : List ℕ) (s : ℕ) → s < length p.stages → Reached p path s → left path s ≤ depth p
  reached_left path s low r =
      le_trans (subst (λ n. left path n ≤ left path 0) (sym r.1) (walk_left path r.0 (subst (λ n. n < length p.stages) r.1 low))) (path_most path)

  -- A RUN

  -- the values that tell the path of the turn after n others
  abbrev pub turn_path : Arrays → ℕ → List ℕ
  turn_path image n = (thread (at_once p) (after_turns p image n).arrays (after_turns p image n).next).env

  -- the stage of the oldest live thread, 0 where nobody lives
  abbrev pub lead : List Thread → ℕ
  lead [] = 0
  lead (t ∷ ts) = t.stage

  -- the oldest thread stands where its turn comes to
  pub leads : (image : Arrays) (n : ℕ) (past : List Commit) (st : State) → Runs p (course p acc) image n past st
      → (lead st.threads < length p.stages) × (left (turn_path image n) (lead st.threads) ≤ depth p)
  leads image n past st r = at r.spots r.threads r.standing r.live
    where
      at : (sps : List Spot) → st.threads ≡ seats p (after_turns p image n).arrays (after_turns p image n).next sps ++ r.strays
          → Standing p (course p acc) st.asked (λ m. of_mem m past) (λ m. of_mem m (writes_from p n image p.start))
          (λ m. []) (after_turns p image n).arrays (after_turns p image n).next (length p.stages ∷ []) sps
          → is_nil sps ≡ false → (lead st.threads < length p.stages) × (left (turn_path image n) (lead st.threads) ≤ depth p)
      at [] e h l = absurd (cc l)
      at (sp ∷ sps) e h l =
          let low : sp.stage < length p.stages = low_end p (course p acc) sp.stage h.0.under in
          subst (λ ts. (lead ts < length p.stages) × (left (turn_path image n) (lead ts) ≤ depth p)) (sym e) (
            low,
            reached_left (turn_path image n) sp.stage low
                (on_reached p acc (with_hint (after_turns p image n).arrays sp.hint) (after_turns p image n).next sp.stage h.0.on),
          )

  -- a cycle that no thread ends in takes the oldest one stage further, unless it is a wait
  pub cycle_left : (image : Arrays) (n : ℕ) (past : List Commit) (st : State) (bits : List Bool)
      → Runs p (course p acc) image n past st → ends_one p (all_acts p st bits) ≡ false
      → (if is_wait p st bits then 0 else 1) + left (turn_path image n) (lead (cycle p st bits).threads) ≤ left (turn_path image n) (lead st.threads)
  cycle_left image n past st bits r none = at r.spots r.threads r.standing r.live
    where
      at : (sps : List Spot) → st.threads ≡ seats p (after_turns p image n).arrays (after_turns p image n).next sps ++ r.strays
          → Standing p (course p acc) st.asked (λ m. of_mem m past) (λ m. of_mem m (writes_from p n image p.start))
          (λ m. []) (after_turns p image n).arrays (after_turns p image n).next (length p.stages ∷ []) sps
          → is_nil sps ≡ false
          → (if is_wait p st bits then 0 else 1) + left (turn_path image n) (lead (cycle p st bits).threads) ≤ left (turn_path image n) (lead st.threads)
      at [] e h l = absurd (cc l)
      at (sp ∷ sps) e h l =
          subst
          (λ ts. (if is_wait p st bits then 0 else 1) + left (turn_path image n)
          (lead (survivors p (st.hints 0) (acts p st bits [] ts))) ≤ left (turn_path image n) (lead ts))
          (sym e)
          (by (act p st bits [] t).moves refl)
        where
          t : Thread
          t = seat p (with_hint (after_turns p image n).arrays sp.hint) (after_turns p image n).next sp

          low : sp.stage < length p.stages
          low = low_end p (course p acc) sp.stage h.0.under

          rest : List Act
          rest =
              acts p st bits (act p st bits [] (seat p (with_hint (after_turns p image n).arrays sp.hint) (after_turns p image n).next sp) ∷ [])
              (seats p (thread p (after_turns p image n).arrays (after_turns p image n).next).arrays
              (thread p (after_turns p image n).arrays (after_turns p image n).next).next sps
              ++ r.strays)

          unended :
              ((act p st bits [] (seat p (with_hint (after_turns p image n).arrays sp.hint) (after_turns p image n).next sp)).moves
              && is_none (exit_of p (act p st bits [] (seat p (with_hint (after_turns p image n).arrays sp.hint) (after_turns p image n).next sp))))
              ≡ false
          unended = first_false _ _ (subst (λ ts. ends_one p (acts p st bits [] ts) ≡ false) e none)
            where
              first_false : (a b : Bool) → (a || b) ≡ false → a ≡ false
              first_false true b k = absurd (cc k)
              first_false false b k = refl

          moves_on : is_wait p st bits ≡ false
              → (act p st bits [] (seat p (with_hint (after_turns p image n).arrays sp.hint) (after_turns p image n).next sp)).moves ≡ true
          moves_on k = subst (λ ts. oldest_moves (acts p st bits [] ts) ≡ true) e (oldest_of p (course p acc) image n past st bits r k)

          by : (b : Bool) → (act p st bits [] (seat p (with_hint (after_turns p image n).arrays sp.hint) (after_turns p image n).next sp)).moves ≡ b
              → (if is_wait p st bits then 0 else 1) + left (turn_path image n)
              (lead (survivors p (st.hints 0)
              (act p st bits [] (seat p (with_hint (after_turns p image n).arrays sp.hint) (after_turns p image n).next sp) ∷ rest))) ≤ left
              (turn_path image n) sp.stage
          by false f =
              subst
              (λ c. (if is_wait p st bits then 0 else 1) + left (turn_path image n)
              (lead
              (cond c (moved_to (exit_of p a) a.now.hint a.work
              ++ (born_threads p (st.hints 0) a.work.child ++ (if a.work.fails then [] else survivors p (st.hints 0) rest)))
              (a.now ∷ survivors p (st.hints 0) rest))) ≤ left
              (turn_path image n) sp.stage)
              (sym f) (waits (is_wait p st bits) refl)
            where
              a : Act
              a = act p st bits [] (seat p (with_hint (after_turns p image n).arrays sp.hint) (after_turns p image n).next sp)

              waits : (w : Bool) → is_wait p st bits ≡ w → (if w then 0 else 1) + left (turn_path image n) sp.stage ≤ left (turn_path image n) sp.stage
              waits true i = omega arith
              waits false i = absurd (cc (sym f ∙ moves_on i))
          by true f =
              subst
              (λ c. (if is_wait p st bits then 0 else 1) + left (turn_path image n)
              (lead
              (cond c (moved_to (exit_of p a) a.now.hint a.work
              ++ (born_threads p (st.hints 0) a.work.child ++ (if a.work.fails then [] else survivors p (st.hints 0) rest)))
              (a.now ∷ survivors p (st.hints 0) rest))) ≤ left
              (turn_path image n) sp.stage)
              (sym f)
              (subst
              (λ o. (if is_wait p st bits then 0 else 1) + left (turn_path image n)
              (lead (moved_to o a.now.hint a.work
              ++ (born_threads p (st.hints 0) a.work.child ++ (if a.work.fails then [] else survivors p (st.hints 0) rest)))) ≤ left
              (turn_path image n) sp.stage)
              (sym exit)
              (less (is_wait p st bits)))
            where
              a : Act
              a = act p st bits [] (seat p (with_hint (after_turns p image n).arrays sp.hint) (after_turns p image n).next sp)

              same : next_of p sp.stage (act p st bits [] (seat p (with_hint (after_turns p image n).arrays sp.hint) (after_turns p image n).next sp)).work.env
                  ≡ next_of p sp.stage (turn_path image n)
              same =
                  ap (λ (w : Work). next_of p sp.stage w.env)
                  (work_same p (course p acc) image st bits (λ m. of_mem m past) (λ m. []) []
                  (λ m. ap (λ k. k m) r.arrays ∙ row_committed m past image) r.known [] (λ m. []) (λ m. [])
                  (λ m. []) (λ m. of_mem m (writes_from p n image p.start)) (λ m. None)
                  (with_hint (after_turns p image n).arrays sp.hint) (after_turns p image n).next (length p.stages ∷ [])
                  (suc (length p.stages) ∷ []) sp (is_nil sps) (rows_at p (course p acc) image n)
                  (behind_none p (course p acc)) h.0 f)
                  ∙ StageFacts.path_next p acc (with_hint (after_turns p image n).arrays sp.hint) (after_turns p image n).next sp.stage
                  (on_visited p acc (with_hint (after_turns p image n).arrays sp.hint) (after_turns p image n).next sp.stage h.0.on)

              leaving : exit_of p (act p st bits [] (seat p (with_hint (after_turns p image n).arrays sp.hint) (after_turns p image n).next sp))
                  ≡ cond (nat_lt (next_of p sp.stage (turn_path image n)) (length p.stages)) (Some (next_of p sp.stage (turn_path image n))) None
              leaving = acc.graph.leaves sp.stage _ low ∙ ap (λ k. cond (nat_lt k (length p.stages)) (Some k) None) same

              inside : next_of p sp.stage (turn_path image n) < length p.stages
              inside = here (nat_lt (next_of p sp.stage (turn_path image n)) (length p.stages)) refl
                where
                  here : (b : Bool) → nat_lt (next_of p sp.stage (turn_path image n)) (length p.stages) ≡ b
                      → next_of p sp.stage (turn_path image n) < length p.stages
                  here true i = ltb-true _ _ i
                  here false i =
                      absurd
                      (cc (sym (ap₂ (λ m o. m && is_none o) f (leaving ∙ ap (λ b. cond b (Some (next_of p sp.stage (turn_path image n))) None) i)) ∙ unended))

              exit : exit_of p (act p st bits [] (seat p (with_hint (after_turns p image n).arrays sp.hint) (after_turns p image n).next sp))
                  ≡ Some (next_of p sp.stage (turn_path image n))
              exit = leaving ∙ ap (λ b. cond b (Some (next_of p sp.stage (turn_path image n))) None) (lt-ltb _ _ inside)

              less : (w : Bool) → (if w then 0 else 1) + left (turn_path image n) (next_of p sp.stage (turn_path image n)) ≤ left (turn_path image n) sp.stage
              less true = let i = left_next (turn_path image n) sp.stage low inside in omega arith
              less false = let i = left_next (turn_path image n) sp.stage low inside in omega arith

  -- the sums of a cycle and of those after it
  sum_up : (w e : Bool) (c waits ended d l l' : ℕ) → 0 < l → l' ≤ d → (e ≡ false → (if w then 0 else 1) + l' ≤ l) → suc c ≤ waits + (ended * d + l')
      → suc (suc c) ≤ (if w then suc waits else waits) + ((if e then suc ended else ended) * d + l)
  sum_up true true c waits ended d l l' h i f k = let e = suc-mul ended d in omega arith
  sum_up true false c waits ended d l l' h i f k = let g : 0 + l' ≤ l = f refl in omega arith
  sum_up false true c waits ended d l l' h i f k = let e = suc-mul ended d in omega arith
  sum_up false false c waits ended d l l' h i f k = let g : 1 + l' ≤ l = f refl in omega arith

  -- cycles from a state of a run on are fewer than their waits, a depth for each thread that ends, and what is left to the oldest
  pub runs_pace : (image : Arrays) (n : ℕ) (past : List Commit) (st : State) (schedule : List (List Bool)) → Runs p (course p acc) image n past st
      → suc (length schedule) ≤ waits_in (turns_from p st schedule) +
      (ended_in (turns_from p st schedule) * depth p + left (turn_path image n) (lead st.threads))
  runs_pace image n past st [] r = let i = left_some (turn_path image n) (lead st.threads) (leads image n past st r).0 in omega arith
  runs_pace image n past st (bits ∷ schedule) r =
      sum_up (is_wait p st bits) (ends_one p (all_acts p st bits)) (length schedule) _ _ (depth p) (left (turn_path image n) (lead st.threads)) _
      (left_some (turn_path image n) (lead st.threads) (leads image n past st r).0)
      (leads image _ _ (cycle p st bits) (runs_cycle p (course p acc) image n past st bits r)).1
      (λ e. subst
      (λ k. (if is_wait p st bits then 0 else 1) + left (turn_path image k) (lead (cycle p st bits).threads) ≤ left (turn_path image n) (lead st.threads))
      (sym (ap (λ b. if b then suc n else n) e)) (cycle_left image n past st bits r e))
      (runs_pace image (if ends_one p (all_acts p st bits) then suc n else n) (past ++ commits_of (all_acts p st bits))
      (cycle p st bits) schedule (runs_cycle p (course p acc) image n past st bits r))

  -- at least as many threads end in a run as its cycles that are no waits, divided by the depth of the pipe
  pub keeps_pace : (image : Arrays) (hints : ℕ → Hint) (schedule : List (List Bool)) → KeepsPace p image hints schedule
  keeps_pace image hints schedule =
      let r = runs_first p (course p acc) image hints in
      let h = runs_pace image 0 [] (first p image hints) schedule r in
      let l = leads image 0 [] (first p image hints) r in
      let some = left_some (turn_path image 0) (lead (first p image hints).threads) l.0 in
      let low = l.1 in
      let e = suc-mul (ended_in (turns p image hints schedule)) (depth p) in
      let deep : 0 < depth p = omega arith in
      let less : (length schedule - waits_in (turns p image hints schedule)) / depth p < suc (ended_in (turns p image hints schedule)) =
      (div-lt_iff_lt-mul deep).1 (omega arith) in
      omega arith
