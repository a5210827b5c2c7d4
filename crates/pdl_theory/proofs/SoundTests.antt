-- A pipe that passes the tests of the whole language has the facts that the theorems take.
use Rattle.std.proofs.Common.{◌≡◌, refl, sym, ap, ap₂, ◌∙◌, subst, ℕ, zero, suc, ◌-◌, ◌≤◌, ◌<◌, ◌⊎◌, inl, inr, Bool, true, false, ◌&&◌, ◌||◌, not, List, [], ◌∷◌, ◌++◌, length, Option, Some, None, nat_lt, nat_le, ◌==◌, cond, if◌then◌else◌, arith, slice_index, replicate, ltb-true, ltb-false, leb-true, lt-ltb, le_refl, eq-eqb}
use Rattle.std.proofs.lemmas.Bool.{eqb-true, ne_eqb, not-true, false≢true}
use Rattle.pdl_semantics.specs.Flat.{list_all, Op, DelayedRead, Stmt, Guard, Next, Ends, Goes, Forks, Branch, Stage, Pipe, start_env}
use Rattle.pdl_semantics.specs.Stages.{onpath, in_stage, stage_at, last_stage, list_any, is_inside, is_reserve, mem_at, goes_to, commit_stage, reserve_stage, fork_guards}
use Rattle.pdl_semantics.specs.Sound.{all_below, stages_from, is_fetch}
use Rattle.pdl_theory_turns.specs.Alone.{before, answered_op}
use Rattle.pdl_theory_turns.specs.Scans.{none_of, all_at, binds_var}
use Rattle.pdl_semantics.specs.Cycle.{merges_by}
use Rattle.pdl_theory_turns.specs.Facts.{trunk_only}
use Rattle.pdl_theory_turns.proofs.StageFacts.{none_looked}
use Rattle.pdl_theory_turns.specs.Graphs.{Home, Within, Trunk, stage_or, next_of, Below, Graph, on_side, goes_by, Way, Branches}
use Rattle.pdl_theory_turns.proofs.Nested.{within_home, trunk_within}
use Rattle.pdl_theory.proofs.Outer.{branches_are, home_is, is_home_of, is_within_of, at_outer}
use Rattle.pdl_theory_turns.specs.Facts.{DifferIn, looked_all, is_unseen, fetch_apart, is_exact, is_dead, is_fetch_of, comes_by, visits_stage, FetchIf, AllFetches, at_once, Sound}
use Rattle.pdl_theory_turns.specs.Checks.{guard_vars}
use Rattle.pdl_theory_turns.specs.SoundChecks.{none_hangs, blind_passes, is_last_of, merge_sound, branch_whole, forks_whole, verifies_at, nexts_of, nexts, is_trunk, same_branches, is_home, is_within, all_outer, leads_in, any_below, is_passed, is_in_merge, stays, is_entered, merges_it, is_left, is_way, next_passes, branch_passes, side_is, no_side, side_passes, stage_sound, fork_sound, none_between, skip_passes, all_guards, fetch_stage, fetch_sound, tests, passes_tests}
use Rattle.pdl_theory_turns.proofs.Writes.{and_left, and_right}
use Rattle.pdl_theory_turns.proofs.Texts.{below_at, past_end, where_true, no_reserve}
use Rattle.pdl_theory_turns.proofs.Passes.{known, reserves, pathwise_paths, parts_paths, reserve_past, commit_past}
use Rattle.pdl_theory.proofs.Rates.{picks, among, among_append, fork_among}
use Rattle.pdl_theory.proofs.TestedPaths.{or_more, all_picks, Agree, path_agree, between_none, AllTrue, parts, agree_picks, hangs_none, before_among, all_same}
use Rattle.pdl_word.proofs.Bools.{by_bool, by_or}

-- some number below n passes
any_at : (test : ℕ → Bool) (n : ℕ) (R : Type 0) → any_below test n ≡ true → ((m : ℕ) → m < n → test m ≡ true → R) → R
any_at test zero R h f = absurd (cc h)
any_at test (suc n) R h f = by_bool (test n) R (λ t. f n (omega arith) t) (λ e. any_at test n R (rest e) (λ m low t. f m (omega arith) t))
  where
    rest : test n ≡ false → any_below test n ≡ true
    rest e = at (all_below (λ m. not (test m)) n) (not (test n)) h (ap not e)
      where
        at : (a b : Bool) → not (a && b) ≡ true → b ≡ true → not a ≡ true
        at true true k i = absurd (cc k)
        at true false k i = absurd (cc i)
        at false b k i = refl

-- what holds of the stages that may come next holds of the next one
next_in : (p : Pipe) (test : ℕ → Bool) (s : ℕ) (env : List ℕ) → list_all test (nexts p s) ≡ true → test (next_of p s env) ≡ true
next_in p test s env h = at (stage_at p s).next refl
  where
    at : (n : Next) → (stage_at p s).next ≡ n → test (next_of p s env) ≡ true
    at Ends e =
        ap (λ n. test (stage_or (length p.stages) (goes_to n env))) e ∙ and_left _ _ (subst (λ n. list_all test (nexts_of (length p.stages) n) ≡ true) e h)
    at (Goes to) e =
        ap (λ n. test (stage_or (length p.stages) (goes_to n env))) e ∙ and_left _ _ (subst (λ n. list_all test (nexts_of (length p.stages) n) ≡ true) e h)
    at (Forks x a b) e =
        ap (λ n. test (stage_or (length p.stages) (goes_to n env))) e
        ∙ pick (slice_index env x == 1) (subst (λ n. list_all test (nexts_of (length p.stages) n) ≡ true) e h)
      where
        pick : (c : Bool) → list_all test (a ∷ b ∷ []) ≡ true → test (if c then a else b) ≡ true
        pick true k = and_left (test a) _ k
        pick false k = and_left (test b) _ (and_right (test a) _ k)

-- READS AT ONCE

all_looked : (test : Op → Bool)
    → ((op : Op) → test (answered_op op) ≡ test op) → (c : ℕ) (xs : List Stmt)
    → all_at test c (looked_all xs) ≡ all_at test c xs
all_looked test f c [] = refl
all_looked test f c (x ∷ xs) = ap₂ (λ b d. (not b || (x.stage == c)) && d) (f x.op) (all_looked test f c xs)

reserve_looked : (m : ℕ) (op : Op) → is_reserve m (answered_op op) ≡ is_reserve m op
reserve_looked m (DelayedRead x n a) = refl
reserve_looked m _ = refl

-- THE PIPE

past_stage : (p : Pipe) (s : ℕ) → length p.stages ≤ s → stage_at p s ≡ last_stage
past_stage p s h = past_end p.stages s last_stage h

trunk_is : (p : Pipe) (s : ℕ) → is_trunk p s ≡ true → Trunk p s
trunk_is p s h = home_is p [] s h

module _ (p : Pipe) (h : passes_tests p ≡ true) where
  all : AllTrue (tests p)
  all = parts (tests p) h

  stage_ok : (s : ℕ) → s < length p.stages → stage_sound p s ≡ true
  stage_ok s low = below_at (stage_sound p) (length p.stages) s all.1.1.0 low

  trunk_past : (r : ℕ) → length p.stages ≤ r → Trunk p r
  trunk_past r low = ap (λ (x : Stage). x.branches) (past_stage p r low)

  next_ok : (s : ℕ) (env : List ℕ) → s < length p.stages → next_passes p s (next_of p s env) ≡ true
  next_ok s env low =
      next_in p (next_passes p s) s env
      (and_left (list_all (next_passes p s) (nexts p s)) _ (and_right (leads_in (length p.stages) (stage_at p s).next) _ (stage_ok s low)))

  up : (s : ℕ) (env : List ℕ) → s < length p.stages → s < next_of p s env
  up s env low = ltb-true _ _ (and_left (nat_lt s (next_of p s env)) _ (next_ok s env low))

  after_up : (s : ℕ) (env : List ℕ) → s < length p.stages
      → (nat_le (next_of p s env) (length p.stages)
      && (all_outer (λ c. all_below (λ r. not (is_home p c r) || not (nat_lt s r && nat_lt r (next_of p s env))) (length p.stages)) (stage_at p s).branches
      && ((not (next_of p s env == length p.stages) || (is_trunk p s && (suc s == length p.stages)))
      &&
      (all_below (λ b. not (is_within p (stage_at p (next_of p s env)).branches b) ||
      (is_passed p (stage_at p (next_of p s env)).branches s b || is_in_merge p (stage_at p (next_of p s env)).merges b)) (next_of p s env)
      && is_way p s (next_of p s env))))) ≡ true
  after_up s env low = and_right (nat_lt s (next_of p s env)) _ (next_ok s env low)

  inside : (s : ℕ) (env : List ℕ) → s < length p.stages → next_of p s env ≤ length p.stages
  inside s env low = leb-true _ _ (and_left (nat_le (next_of p s env) (length p.stages)) _ (after_up s env low))

  after_inside : (s : ℕ) (env : List ℕ) → s < length p.stages
      → (all_outer (λ c. all_below (λ r. not (is_home p c r) || not (nat_lt s r && nat_lt r (next_of p s env))) (length p.stages)) (stage_at p s).branches
      && ((not (next_of p s env == length p.stages) || (is_trunk p s && (suc s == length p.stages)))
      &&
      (all_below (λ b. not (is_within p (stage_at p (next_of p s env)).branches b) ||
      (is_passed p (stage_at p (next_of p s env)).branches s b || is_in_merge p (stage_at p (next_of p s env)).merges b)) (next_of p s env)
      && is_way p s (next_of p s env)))) ≡ true
  after_inside s env low = and_right (nat_le (next_of p s env) (length p.stages)) _ (after_up s env low)

  jump : (c : List Branch) (s : ℕ) (env : List ℕ) (r : ℕ) → s < length p.stages → Within p c s → Home p c r → s < r → r ≤ next_of p s env → r ≡ next_of p s env
  jump c s env r low here t i j =
      by_bool (nat_lt r (next_of p s env)) (r ≡ next_of p s env) (λ k. absurd (passed k)) (λ k. let x : next_of p s env ≤ r = ltb-false _ _ k in omega arith)
    where
      passed : nat_lt r (next_of p s env) ≡ true → ⊥
      passed k =
          let x : r < next_of p s env = ltb-true _ _ k in
          let y : next_of p s env ≤ length p.stages = inside s env low in
          let all_c = at_outer (λ c. all_below (λ r. not (is_home p c r) || not (nat_lt s r && nat_lt r (next_of p s env))) (length p.stages)) here.0 c
          (stage_at p s).branches here.1
          (and_left (all_outer (λ c. all_below (λ r. not (is_home p c r) || not (nat_lt s r && nat_lt r (next_of p s env))) (length p.stages))
          (stage_at p s).branches) _ (after_inside s env low)) in
          let z = below_at (λ r. not (is_home p c r) || not (nat_lt s r && nat_lt r (next_of p s env))) (length p.stages) r all_c (omega arith) in
          false≢true (sym (ap₂ (λ a b. not a || not (b && nat_lt r (next_of p s env))) (is_home_of p c r t) (lt-ltb _ _ i) ∙ ap not k) ∙ z)

  after_jump : (s : ℕ) (env : List ℕ) → s < length p.stages
      → ((not (next_of p s env == length p.stages) || (is_trunk p s && (suc s == length p.stages)))
      &&
      (all_below (λ b. not (is_within p (stage_at p (next_of p s env)).branches b) ||
      (is_passed p (stage_at p (next_of p s env)).branches s b || is_in_merge p (stage_at p (next_of p s env)).merges b)) (next_of p s env)
      && is_way p s (next_of p s env))) ≡ true
  after_jump s env low =
      and_right
      (all_outer (λ c. all_below (λ r. not (is_home p c r) || not (nat_lt s r && nat_lt r (next_of p s env))) (length p.stages)) (stage_at p s).branches) _
      (after_inside s env low)

  last : (s : ℕ) (env : List ℕ) → s < length p.stages → next_of p s env ≡ length p.stages → Trunk p s × (suc s ≡ length p.stages)
  last s env low e =
      let k = where_true (next_of p s env == length p.stages) _ (and_left
      (not (next_of p s env == length p.stages) || (is_trunk p s && (suc s == length p.stages))) _ (after_jump s env low)) (eq-eqb _ _ e) in
      (trunk_is p s (and_left (is_trunk p s) _ k), eqb-true _ _ (and_right (is_trunk p s) _ k))

  after_last : (s : ℕ) (env : List ℕ) → s < length p.stages
      →
      (all_below (λ b. not (is_within p (stage_at p (next_of p s env)).branches b) ||
      (is_passed p (stage_at p (next_of p s env)).branches s b || is_in_merge p (stage_at p (next_of p s env)).merges b)) (next_of p s env)
      && is_way p s (next_of p s env)) ≡ true
  after_last s env low = and_right (not (next_of p s env == length p.stages) || (is_trunk p s && (suc s == length p.stages))) _ (after_jump s env low)

  between : (c : List Branch) (s : ℕ) (env : List ℕ) (b : ℕ) → s < length p.stages → Within p c s → Home p c (next_of p s env)
      → next_of p s env < length p.stages → Below p c b s → Within p c b → b < next_of p s env
      → (f : ℕ) × ((stage_at p (next_of p s env)).merges ≡ Some f) × (is_inside p f b ≡ true)
  between c s env b low here t i bel there j =
      let k = where_true (is_within p (stage_at p (next_of p s env)).branches b) _
      (below_at (λ b. not (is_within p (stage_at p (next_of p s env)).branches b)
      || (is_passed p (stage_at p (next_of p s env)).branches s b || is_in_merge p (stage_at p (next_of p s env)).merges b)) (next_of p s env) b
      (and_left (all_below
      (λ b. not (is_within p (stage_at p (next_of p s env)).branches b) ||
      (is_passed p (stage_at p (next_of p s env)).branches s b || is_in_merge p
      (stage_at p (next_of p s env)).merges b)) (next_of p s env)) _ (after_last s env low)) j)
      (is_within_of p (stage_at p (next_of p s env)).branches b (subst (λ l. Within p l b) (sym t) there)) in
      by_or (is_passed p (stage_at p (next_of p s env)).branches s b) _ _ k
      (λ q. absurd (any_at (λ r. is_home p (stage_at p (next_of p s env)).branches r && nat_le b r) (suc s) ⊥ q
      (λ r r_low both.
      let x : b ≤ r = leb-true _ _ (and_right (is_home p (stage_at p (next_of p s env)).branches r) _ both) in
      let y : r < b = bel r (home_is p (stage_at p (next_of p s env)).branches r (and_left (is_home p (stage_at p (next_of p s env)).branches r) _ both) ∙ t)
      (omega arith) in
      omega arith)))
      (λ q. merged (stage_at p (next_of p s env)).merges refl q)
    where
      merged : (o : Option ℕ) → (stage_at p (next_of p s env)).merges ≡ o → is_in_merge p o b ≡ true
          → (f : ℕ) × ((stage_at p (next_of p s env)).merges ≡ Some f) × (is_inside p f b ≡ true)
      merged None e q = absurd (cc q)
      merged (Some f) e q = (f, e, q)

  leaves : (s : ℕ) (env : List ℕ) → s < length p.stages
      → goes_to (stage_at p s).next env ≡ (if nat_lt (next_of p s env) (length p.stages) then Some (next_of p s env) else None)
  leaves s env low = at (stage_at p s).next refl (and_left (leads_in (length p.stages) (stage_at p s).next) _ (stage_ok s low))
    where
      same : (n : Next) → (stage_at p s).next ≡ n → next_of p s env ≡ stage_or (length p.stages) (goes_to n env)
      same n e = ap (λ n. stage_or (length p.stages) (goes_to n env)) e

      some : (n : Next) (q : ℕ) → (stage_at p s).next ≡ n → goes_to n env ≡ Some q → q < length p.stages
          → goes_to (stage_at p s).next env ≡ (if nat_lt (next_of p s env) (length p.stages) then Some (next_of p s env) else None)
      some n q e g i =
          let k : next_of p s env ≡ q = same n e ∙ ap (stage_or (length p.stages)) g in
          ap (λ n. goes_to n env) e ∙ g ∙ sym (ap₂ (λ b m. if b then Some m else None) (ap (λ m. nat_lt m (length p.stages)) k ∙ lt-ltb _ _ i) k)

      at : (n : Next) → (stage_at p s).next ≡ n → leads_in (length p.stages) (stage_at p s).next ≡ true
          → goes_to (stage_at p s).next env ≡ (if nat_lt (next_of p s env) (length p.stages) then Some (next_of p s env) else None)
      at Ends e i =
          ap (λ n. goes_to n env) e
          ∙ sym
          (ap (λ b. if b then Some (next_of p s env) else None)
          (not-true (nat_lt (next_of p s env) (length p.stages)) (not_low (nat_lt (next_of p s env) (length p.stages)) refl)))
        where
          not_low : (b : Bool) → nat_lt (next_of p s env) (length p.stages) ≡ b → not (nat_lt (next_of p s env) (length p.stages)) ≡ true
          not_low true k =
              absurd (let x : next_of p s env < length p.stages = ltb-true _ _ k in let y : next_of p s env ≡ length p.stages = same Ends e in omega arith)
          not_low false k = ap not k
      at (Goes to) e i = some (Goes to) to e refl (ltb-true _ _ (subst (λ n. leads_in (length p.stages) n ≡ true) e i))
      at (Forks x a b) e i =
          some (Forks x a b) (if slice_index env x == 1 then a else b) e refl
          (pick (slice_index env x == 1) (subst (λ n. leads_in (length p.stages) n ≡ true) e i))
        where
          pick : (c : Bool) → (nat_lt a (length p.stages) && nat_lt b (length p.stages)) ≡ true → (if c then a else b) < length p.stages
          pick true k = ltb-true _ _ (and_left (nat_lt a (length p.stages)) _ k)
          pick false k = ltb-true _ _ (and_right (nat_lt a (length p.stages)) _ k)

  trunk_lock : (m : ℕ) → Trunk p (reserve_stage p m) × Trunk p (commit_stage p m)
  trunk_lock m =
      by_bool (nat_lt m (length p.mems)) _
      (λ e.
      let k = below_at (λ m. is_trunk p (reserve_stage p m) && is_trunk p (commit_stage p m)) (length p.mems) m all.1.1.1.0 (ltb-true _ _ e) in (
        trunk_is p (reserve_stage p m) (and_left (is_trunk p (reserve_stage p m)) _ k),
        trunk_is p (commit_stage p m)
            (and_right (is_trunk p (reserve_stage p m)) _ k),
      ))
      (λ e. (
        subst (λ n. Trunk p n) (sym (reserve_past (at_once p) (parts_paths (at_once p) all.0) m (ltb-false _ _ e))) (trunk_is p 0 all.1.0),
        subst (λ n. Trunk p n) (sym (commit_past (at_once p) (parts_paths (at_once p) all.0) m (ltb-false _ _ e))) (trunk_past (length p.stages) (le_refl _)),
      ))

  graph : Graph p
  graph =
      record {
        some_stage = (pathwise_paths (at_once p) all.0).some_stage;
        trunk_start = trunk_is p 0 all.1.0;
        trunk_past = trunk_past;
        trunk_reserve = λ m. (trunk_lock m).0;
        trunk_commit = λ m. (trunk_lock m).1;
        leaves = leaves;
        up = up;
        inside = inside;
        jump = jump;
        last = last;
        between = between;
      }

  in_low : (x : Branch) (c : List Branch) (s : ℕ) → Within p (x ∷ c) s → s < length p.stages
  in_low x c s i =
      by_bool (nat_lt s (length p.stages)) (s < length p.stages) (λ e. ltb-true _ _ e) (λ e. absurd (trunk_within p x c s (trunk_past s (ltb-false _ _ e)) i))

  fork_before : (x : Branch) (c : List Branch) (s : ℕ) → Within p (x ∷ c) s → Home p c x.fork × (x.fork < s)
  fork_before x c s i =
      at i.0
      (subst (λ o. branch_passes p s o ≡ true) i.1
      (and_left (branch_passes p s (stage_at p s).branches) _
      (and_right (list_all (next_passes p s) (nexts p s)) _ (and_right (leads_in (length p.stages) (stage_at p s).next) _ (stage_ok s (in_low x c s i))))))
    where
      at : (inner : List Branch) → branch_passes p s (inner ++ x ∷ c) ≡ true → Home p c x.fork × (x.fork < s)
      at [] k = (home_is p c x.fork (and_left (is_home p c x.fork) _ k), ltb-true _ _ (and_left (nat_lt x.fork s) _ (and_right (is_home p c x.fork) _ k)))
      at (y ∷ ys) k = at ys (and_right (nat_lt y.fork s) _ (and_right (is_home p (ys ++ x ∷ c) y.fork) _ k))

  way_ok : (s : ℕ) (env : List ℕ) → s < length p.stages → is_way p s (next_of p s env) ≡ true
  way_ok s env low =
      and_right
      (all_below (λ b. not (is_within p (stage_at p (next_of p s env)).branches b) ||
      (is_passed p (stage_at p (next_of p s env)).branches s b || is_in_merge p
      (stage_at p (next_of p s env)).merges b)) (next_of p s env)) _ (after_last s env low)

  way : (s : ℕ) (env : List ℕ) → s < length p.stages → Way p s (next_of p s env)
  way s env low =
      by_or (stays p s (next_of p s env)) _ _ (way_ok s env low) (λ k. inl (branches_are _ _ k))
      (λ k. by_or (is_entered p s (next_of p s env) (stage_at p (next_of p s env)).branches) _ _ k
      (λ j. inr (inl (enters (stage_at p (next_of p s env)).branches refl j))) (λ j. inr (inr (leaves_it (stage_at p s).branches refl j))))
    where
      enters : (l : List Branch)
          → (stage_at p (next_of p s env)).branches ≡ l → is_entered p s (next_of p s env) l ≡ true
          → (x : Branch) × ((stage_at p (next_of p s env)).branches ≡ x ∷ (stage_at p s).branches) × (x.fork ≡ s)
      enters [] e k = absurd (cc k)
      enters (x ∷ c) e k = (
        x,
        e ∙ ap (λ l. x ∷ l) (branches_are c (stage_at p s).branches (and_left (same_branches c (stage_at p s).branches) _ k)),
        eqb-true _ _ (and_left (x.fork == s) _ (and_right (same_branches c (stage_at p s).branches) _ k)),
      )

      it_merges : (o : Option ℕ) (f : ℕ) → merges_it o f ≡ true → o ≡ Some f
      it_merges None f k = absurd (cc k)
      it_merges (Some g) f k = ap Some (eqb-true _ _ k)

      leaves_it : (l : List Branch)
          → (stage_at p s).branches ≡ l → is_left p (next_of p s env) l ≡ true
          → (x : Branch) × ((stage_at p s).branches ≡ x ∷ (stage_at p (next_of p s env)).branches) × ((stage_at p (next_of p s env)).merges ≡ Some x.fork)
      leaves_it [] e k = absurd (cc k)
      leaves_it (x ∷ c) e k = (
        x,
        e ∙ ap (λ l. x ∷ l) (branches_are c (stage_at p (next_of p s env)).branches (and_left (same_branches c (stage_at p (next_of p s env)).branches) _ k)),
        it_merges (stage_at p (next_of p s env)).merges x.fork (and_right (same_branches c (stage_at p (next_of p s env)).branches) _ k),
      )

  -- who comes into a branch from its fork comes into its first stage
  entry : (x : Branch) (c : List Branch) (env : List ℕ) (r : ℕ)
      → x.fork < length p.stages → Home p (x ∷ c) (next_of p x.fork env) → Within p (x ∷ c) r → next_of p x.fork env ≤ r
  entry x c env r low i j =
      by_or (stays p x.fork (next_of p x.fork env)) _ _ (way_ok x.fork env low)
      (λ k. absurd (longer (sym (fork_before x c r j).0 ∙ sym (branches_are _ _ k) ∙ i)))
      (λ k. by_or (is_entered p x.fork (next_of p x.fork env) (stage_at p (next_of p x.fork env)).branches) _ _ k
      (λ l. first_of (subst (λ o. is_entered p x.fork (next_of p x.fork env) o ≡ true) i l)) (λ l. absurd (not_left (stage_at p x.fork).branches refl l)))
    where
      longer : c ≡ x ∷ c → ⊥
      longer e = let k : length c ≡ suc (length c) = ap length e in omega arith

      first_of : is_entered p x.fork (next_of p x.fork env) (x ∷ c) ≡ true → next_of p x.fork env ≤ r
      first_of k =
          leb-true _ _ (where_true (is_within p (x ∷ c) r) _
          (below_at (λ r. not (is_within p (x ∷ c) r) || nat_le (next_of p x.fork env) r) (length p.stages) r
          (and_right (x.fork == x.fork) _ (and_right (same_branches c (stage_at p x.fork).branches) _ k)) (in_low x c r j)) (is_within_of p (x ∷ c) r j))

      not_left : (l : List Branch) → (stage_at p x.fork).branches ≡ l → is_left p (next_of p x.fork env) l ≡ true → ⊥
      not_left [] e k = cc k
      not_left (y ∷ d) e k =
          let same : d ≡ x ∷ c = branches_are d _ (and_left (same_branches d (stage_at p (next_of p x.fork env)).branches) _ k) ∙ i in
          let n : length c ≡ suc (suc (length c)) = ap length (sym (fork_before x c r j).0 ∙ e ∙ ap (λ l. y ∷ l) same) in
          omega arith

  side : (c : Branch) (cs : List Branch) (env : List ℕ) → c.fork < length p.stages → Home p (c ∷ cs) (next_of p c.fork env) → goes_by p c env ≡ true
  side c cs env low i =
      at (stage_at p c.fork).next refl
      (and_right (branch_passes p c.fork (stage_at p c.fork).branches) _
      (and_right (list_all (next_passes p c.fork) (nexts p c.fork)) _
      (and_right (leads_in (length p.stages) (stage_at p c.fork).next) _ (stage_ok c.fork low))))
    where
      there : (n : Next) → (stage_at p c.fork).next ≡ n → Home p (c ∷ cs) (stage_or (length p.stages) (goes_to n env))
      there n e = subst (λ n. Home p (c ∷ cs) (stage_or (length p.stages) (goes_to n env))) e i

      side_of : (first : Bool) (q : ℕ) → Home p (c ∷ cs) q → side_is c.fork first (stage_at p q).branches ≡ true → c.first ≡ first
      side_of first q j k = same c.first first (where_true (c.fork == c.fork) _ (subst (λ o. side_is c.fork first o ≡ true) j k) (eq-eqb _ _ refl))
        where
          same : (x y : Bool) → (if x then y else not y) ≡ true → x ≡ y
          same true y l = sym l
          same false y l = sym (not-true y l)

      at : (n : Next) → (stage_at p c.fork).next ≡ n → side_passes p c.fork (stage_at p c.fork).next ≡ true
          → on_side (stage_at p c.fork).next c.first env ≡ true
      at Ends e k = absurd (trunk_within p c cs (length p.stages) (trunk_past (length p.stages) (le_refl _)) (within_home p _ _ (there Ends e)))
      at (Goes to) e k = absurd (never (subst (λ o. no_side c.fork o ≡ true) (there (Goes to) e) (subst (λ n. side_passes p c.fork n ≡ true) e k)))
        where
          never : not (c.fork == c.fork) ≡ true → ⊥
          never l = false≢true (sym (ap not (eq-eqb c.fork c.fork refl)) ∙ l)
      at (Forks x a b) e k =
          ap (λ n. on_side n c.first env) e ∙ pick (slice_index env x == 1) refl (there (Forks x a b) e) (subst (λ n. side_passes p c.fork n ≡ true) e k)
        where
          pick : (t : Bool) → (slice_index env x == 1) ≡ t → Home p (c ∷ cs) (if slice_index env x == 1 then a else b)
              → (side_is c.fork true (stage_at p a).branches && side_is c.fork false (stage_at p b).branches) ≡ true
              → (if c.first then slice_index env x == 1 else not (slice_index env x == 1)) ≡ true
          pick true f j l =
              ap₂ (λ u v. if u then v else not v)
              (side_of true a (subst (λ t. Home p (c ∷ cs) (if t then a else b)) f j) (and_left (side_is c.fork true (stage_at p a).branches) _ l)) f
          pick false f j l =
              ap₂ (λ u v. if u then v else not v)
              (side_of false b (subst (λ t. Home p (c ∷ cs) (if t then a else b)) f j) (and_right (side_is c.fork true (stage_at p a).branches) _ l)) f

  merge : (s : ℕ) (env : List ℕ) (f : ℕ) → s < length p.stages → (stage_at p (next_of p s env)).merges ≡ Some f
      → ((s ≡ f) × ((stage_at p (next_of p s env)).branches ≡ (stage_at p s).branches))
      ⊎
      ((x : Branch) × ((stage_at p s).branches ≡ x ∷ (stage_at p (next_of p s env)).branches) × (x.fork ≡ f)
      × ((b : ℕ) → Within p (x ∷ (stage_at p (next_of p s env)).branches) b → b ≤ s))
  merge s env f low e =
      by_or ((s == f) && stays p s (next_of p s env)) (is_last_of p s f (next_of p s env) (stage_at p s).branches) _
      (subst (λ o. merge_sound p s o (next_of p s env) ≡ true) e
      (next_in p (λ n. merge_sound p s (stage_at p n).merges n) s env
      (below_at (λ s. list_all (λ n. merge_sound p s (stage_at p n).merges n) (nexts p s)) (length p.stages) s all.1.1.1.1.1.1.1.1.1.1.1.1.0 low)))
      (λ t. inl (eqb-true _ _ (and_left (s == f) _ t), branches_are _ _ (and_right (s == f) _ t))) (λ t. inr (last_of (stage_at p s).branches refl t))
    where
      last_of : (l : List Branch) → (stage_at p s).branches ≡ l → is_last_of p s f (next_of p s env) l ≡ true
          → (x : Branch) × ((stage_at p s).branches ≡ x ∷ (stage_at p (next_of p s env)).branches) × (x.fork ≡ f)
          × ((b : ℕ) → Within p (x ∷ (stage_at p (next_of p s env)).branches) b → b ≤ s)
      last_of [] i t = absurd (cc t)
      last_of (x ∷ c) i t =
          let same : c
          ≡ (stage_at p (next_of p s env)).branches = branches_are c (stage_at p (next_of p s env)).branches
          (and_left (same_branches c (stage_at p (next_of p s env)).branches) _ t) in
          let k = and_right (same_branches c (stage_at p (next_of p s env)).branches) _ t in (
            x,
            i ∙ ap (λ l. x ∷ l) same,
            eqb-true _ _ (and_left (x.fork == f) _ k),
            λ b j.
                let here : Within p (x ∷ c) b = subst (λ l. Within p (x ∷ l) b) (sym same) j in
                leb-true _ _
                (where_true (is_within p (x ∷ c) b) _
                (below_at (λ b. not (is_within p (x ∷ c) b) || nat_le b s) (length p.stages) b (and_right (x.fork == f) _ k) (in_low x c b here))
                (is_within_of p (x ∷ c) b here)),
          )

  branches : Branches p
  branches = record { fork = fork_before; way = way; side = side; entry = entry; merge = merge }

  -- FORKS, BARRIERS AND PATHS

  fork_ok : (s x a b : ℕ) → (stage_at p s).next ≡ Forks x a b
      → (nat_lt x p.vars && (none_of (binds_var x) (stages_from (suc s) p.stmts) && none_of (is_fetch_of x) (in_stage s p.stmts))) ≡ true
  fork_ok s x a b e =
      by_bool (nat_lt s (length p.stages)) _
      (λ i. subst (λ n. fork_sound p s n ≡ true) e (below_at (λ s. fork_sound p s (stage_at p s).next) (length p.stages) s all.1.1.1.1.1.0 (ltb-true _ _ i)))
      (λ i. absurd (none (sym (ap (λ (x : Stage). x.next) (past_stage p s (ltb-false _ _ i))) ∙ e)))
    where
      none : Ends ≡ Forks x a b → ⊥
      none k = cc

  trunk_holds : (x : Branch) (c : List Branch) (s : ℕ) → Home p (x ∷ c) s → none_of trunk_only (in_stage s p.stmts) ≡ true
  trunk_holds x c s i =
      by_or (is_trunk p s) (none_of trunk_only (in_stage s p.stmts)) _
      (below_at (λ s. is_trunk p s || none_of trunk_only (in_stage s p.stmts)) (length p.stages) s all.1.1.1.1.0 (in_low x c s (within_home p _ s i)))
      (λ t. absurd (trunk_within p x c s (trunk_is p s t) (within_home p _ s i))) (λ k. k)

  -- a stage of a branch is before the verifies where its fork merges up to their stage, else the fork is in that stage or later
  whole_at : (v b : ℕ) → v < length p.stages → Trunk p v → b < length p.stages → branch_whole p v b (stage_at p b).branches ≡ true
  whole_at v b i t low =
      below_at (λ b. branch_whole p v b (stage_at p b).branches) (length p.stages) b
      (where_true (is_trunk p v) (all_below (λ b. branch_whole p v b (stage_at p b).branches) (length p.stages))
      (below_at (forks_whole p) (length p.stages) v all.1.1.1.1.1.1.1.1.1.1.1.1.1.0 i) (is_home_of p [] v t)) low

  -- of a fork around a stage
  of_fork : (v f b : ℕ) → v < length p.stages → Trunk p v → is_inside p f b ≡ true → (if merges_by p f (Some v) then nat_lt b v else nat_le v f) ≡ true
  of_fork v f b u t i =
      by_bool (nat_lt b (length p.stages)) _ (λ low. at (stage_at p b).branches i (whole_at v b u t (ltb-true _ _ low)))
      (λ high. absurd (false≢true (ap (λ l. list_any (λ (x : Branch). x.fork == f) l) (sym (trunk_past b (ltb-false _ _ high))) ∙ i)))
    where
      at : (l : List Branch)
          → list_any (λ x. x.fork == f) l ≡ true → branch_whole p v b l ≡ true
          → (if merges_by p f (Some v) then nat_lt b v else nat_le v f) ≡ true
      at [] j k = absurd (cc j)
      at (x ∷ c) j k =
          by_or (x.fork == f) (list_any (λ y. y.fork == f) c) _ j
          (λ l. subst (λ g. (if merges_by p g (Some v) then nat_lt b v else nat_le v g) ≡ true) (eqb-true _ _ l)
          (and_left (if merges_by p x.fork (Some v) then nat_lt b v else nat_le v x.fork) _ k))
          (λ l. at c l (and_right (if merges_by p x.fork (Some v) then nat_lt b v else nat_le v x.fork) _ k))

  merged : (v f b : ℕ) → v < length p.stages → Trunk p v → is_inside p f b ≡ true → merges_by p f (Some v) ≡ true → b < v
  merged v f b u n i m = ltb-true b v (sym (ap (λ t. if t then nat_lt b v else nat_le v f) m) ∙ of_fork v f b u n i)

  unmerged : (v f b : ℕ) → v < length p.stages → Trunk p v → is_inside p f b ≡ true → merges_by p f (Some v) ≡ false → v ≤ f
  unmerged v f b u n i m = leb-true v f (sym (ap (λ t. if t then nat_lt b v else nat_le v f) m) ∙ of_fork v f b u n i)

  zeros : (n : ℕ) → length {A = ℕ} (replicate n 0) ≡ n
  zeros zero = refl
  zeros (suc n) = ap suc (zeros n)

  start_long : length (start_env p []) ≡ p.vars
  start_long = zeros (p.vars - 0) ∙ (let e : p.vars - 0 ≡ p.vars = omega arith in e)

  agrees : (path : List ℕ) → Agree (all_guards p) (picks path (all_guards p) (start_env p [])) path
  agrees path =
      agree_picks path (all_guards p) (start_env p []) (subst (λ n. list_all (λ g. nat_lt g n) (all_guards p) ≡ true) (sym start_long) all.1.1.1.1.1.1.0)

  fork_guard : (s x a b : ℕ) → (stage_at p s).next ≡ Forks x a b → among x (all_guards p) ≡ true
  fork_guard s x a b e = among_append x (guard_vars p.stmts) (fork_guards p.stages) ∙ or_more (among x (guard_vars p.stmts)) (fork_among p.stages s x a b e)

  next_same : (path : List ℕ) (s : ℕ) → next_of p s (picks path (all_guards p) (start_env p [])) ≡ next_of p s path
  next_same path s = ap (stage_or (length p.stages)) (at (stage_at p s).next refl)
    where
      at : (n : Next) → (stage_at p s).next ≡ n → goes_to (stage_at p s).next (picks path (all_guards p) (start_env p [])) ≡ goes_to (stage_at p s).next path
      at Ends e = ap (λ n. goes_to n (picks path (all_guards p) (start_env p []))) e ∙ sym (ap (λ n. goes_to n path) e)
      at (Goes to) e = ap (λ n. goes_to n (picks path (all_guards p) (start_env p []))) e ∙ sym (ap (λ n. goes_to n path) e)
      at (Forks x a b) e =
          ap (λ n. goes_to n (picks path (all_guards p) (start_env p []))) e ∙ ap (λ t. Some (if t then a else b)) (agrees path x (fork_guard s x a b e))
          ∙ sym (ap (λ n. goes_to n path) e)

  visits_same : (path : List ℕ) (s : ℕ) → visits_stage p (picks path (all_guards p) (start_env p [])) s ≡ visits_stage p path s
  visits_same path s = at (stage_at p s).branches
    where
      on : (c : Branch) (n : Next) → (stage_at p c.fork).next ≡ n
          → on_side (stage_at p c.fork).next c.first (picks path (all_guards p) (start_env p [])) ≡ on_side (stage_at p c.fork).next c.first path
      on c Ends e = ap (λ n. on_side n c.first (picks path (all_guards p) (start_env p []))) e ∙ sym (ap (λ n. on_side n c.first path) e)
      on c (Goes to) e = ap (λ n. on_side n c.first (picks path (all_guards p) (start_env p []))) e ∙ sym (ap (λ n. on_side n c.first path) e)
      on c (Forks x a b) e =
          ap (λ n. on_side n c.first (picks path (all_guards p) (start_env p []))) e
          ∙ ap (λ t. if c.first then t else not t) (agrees path x (fork_guard c.fork x a b e)) ∙ sym (ap (λ n. on_side n c.first path) e)

      at : (l : List Branch) → comes_by p (picks path (all_guards p) (start_env p [])) l ≡ comes_by p path l
      at [] = refl
      at (c ∷ cs) = ap₂ (λ a b. a && b) (on c (stage_at p c.fork).next refl) (at cs)

  path_same : (path : List ℕ) → onpath (picks path (all_guards p) (start_env p [])) p.stmts ≡ onpath path p.stmts
  path_same path =
      path_agree (all_guards p) (picks path (all_guards p) (start_env p [])) path p.stmts (agrees path)
      (λ g k. among_append g (guard_vars p.stmts) (fork_guards p.stages) ∙ ap (λ b. b || among g (fork_guards p.stages)) k)

  skips : (path : List ℕ) (s : ℕ) → s < length p.stages → visits_stage p path s ≡ true
      → before (next_of p s path) (onpath path p.stmts) ≡ before (suc s) (onpath path p.stmts)
  skips path s low on =
      let t = all_picks (skip_passes p) path (all_guards p) (start_env p []) all.1.1.1.1.1.1.1.0 in
      let k : none_between (suc s) (next_of p s path) (onpath path p.stmts) ≡ true =
      (λ i. none_between (suc s) (sym (next_same path s) i) (sym (path_same path) i))
      ∙ where_true (visits_stage p (picks path (all_guards p) (start_env p [])) s) _
      (below_at (λ s. not (visits_stage p (picks path (all_guards p) (start_env p [])) s) || none_between (suc s)
      (next_of p s (picks path (all_guards p) (start_env p []))) (onpath (picks path (all_guards p) (start_env p [])) p.stmts))
      (length p.stages) s t low) (visits_same path s ∙ on) in
      between_none (suc s) (next_of p s path) (onpath path p.stmts) (up s path low) k

  -- DELAYED READS

  -- no statement stands past the last stage
  none_past : (s : ℕ) (xs : List Stmt) → length p.stages ≤ s → list_all (λ y. nat_lt y.stage (length p.stages)) xs ≡ true → in_stage s xs ≡ []
  none_past s [] low k = refl
  none_past s (x ∷ xs) low k =
      let i : x.stage < length p.stages = ltb-true _ _ (and_left (nat_lt x.stage (length p.stages)) _ k) in
      ap (λ b. cond b (x ∷ in_stage s xs) (in_stage s xs)) (ne_eqb x.stage s (λ e. absurd (omega arith)))
      ∙ none_past s xs low (and_right (nat_lt x.stage (length p.stages)) _ k)

  fetch_blind : (s : ℕ) (env env' : List ℕ) → DifferIn (in_stage s p.stmts) env env'
      → onpath env' (before (next_of p s env) p.stmts) ≡ onpath env (before (next_of p s env) p.stmts)
  fetch_blind s env env' d =
      by_bool (nat_lt s (length p.stages)) _
      (λ i.
      let k : none_hangs (picks env (all_guards p) (start_env p [])) (in_stage s p.stmts) (before (next_of p s env) p.stmts) ≡ true =
      subst (λ n. none_hangs (picks env (all_guards p) (start_env p [])) (in_stage s p.stmts) (before n p.stmts) ≡ true) (next_same env s)
      (below_at (λ s. none_hangs (picks env (all_guards p) (start_env p [])) (in_stage s p.stmts)
      (before (next_of p s (picks env (all_guards p) (start_env p []))) p.stmts)) (length p.stages) s
      (all_picks (blind_passes p) env (all_guards p) (start_env p []) all.1.1.1.1.1.1.1.1.1.1.1.1.1.1.1.1.1.0) (ltb-true _ _ i)) in
      hangs_none (all_guards p) (picks env (all_guards p) (start_env p [])) env env' (in_stage s p.stmts) (before (next_of p s env) p.stmts) (agrees env)
      (λ g j. among_append g (guard_vars p.stmts) (fork_guards p.stages)
      ∙ ap (λ b. b || among g (fork_guards p.stages)) (before_among (next_of p s env) g p.stmts j)) d k)
      (λ i. all_same env env' (before (next_of p s env) p.stmts)
      (λ x. d x (ap (none_of (is_fetch_of x)) (none_past s p.stmts (ltb-false _ _ i) all.1.1.1.1.1.1.1.1.1.0))))

  fetch_here : (s : ℕ) (gs : List Guard) (op : Op) → fetch_sound p s gs op ≡ true → FetchIf p (λ m. fetch_stage m p.stmts) s gs op
  fetch_here s gs (DelayedRead x m a) k =
      let k1 = and_right (fetch_stage m p.stmts == s) _ k in
      let k2 = and_right (nat_lt m (length p.mems)) _ k1 in
      let k3 = and_right (is_exact (mem_at p m).lock) _ k2 in
      let here : fetch_stage m p.stmts ≡ s = eqb-true _ _ (and_left (fetch_stage m p.stmts == s) _ k) in
      let known : m < length p.mems = ltb-true _ _ (and_left (nat_lt m (length p.mems)) _ k1) in
      let exact : is_exact (mem_at p m).lock ≡ true = and_left (is_exact (mem_at p m).lock) _ k2 in (
        (here, known, exact),
        λ d.
            let k4 = alone_live (is_dead gs) (list_all (λ n. nat_le n (commit_stage p m)) (nexts p s)) d k3 in
            record {
              here = here;
              known = known;
              exact = exact;
              early = λ env. leb-true _ _ (next_in p (λ n. nat_le n (commit_stage p m)) s env k4);
            },
      )
    where
      alone_live : (b c : Bool) → b ≡ false → (b || c) ≡ true → c ≡ true
      alone_live true c d k = absurd (cc d)
      alone_live false c d k = k
  fetch_here s gs _ k = tt

  fetch_all : (s : ℕ) (xs : List Stmt) → list_all (λ y. fetch_sound p y.stage y.guards y.op) xs ≡ true
      → AllFetches p (λ m. fetch_stage m p.stmts) s (in_stage s xs)
  fetch_all s [] k = tt
  fetch_all s (x ∷ xs) k = at (x.stage == s) refl (fetch_all s xs (and_right (fetch_sound p x.stage x.guards x.op) _ k))
    where
      at : (b : Bool) → (x.stage == s) ≡ b → AllFetches p (λ m. fetch_stage m p.stmts) s (in_stage s xs)
          → AllFetches p (λ m. fetch_stage m p.stmts) s (cond b (x ∷ in_stage s xs) (in_stage s xs))
      at true e r = (
        fetch_here s x.guards x.op
            (subst (λ n. fetch_sound p n x.guards x.op ≡ true) (eqb-true x.stage s e) (and_left (fetch_sound p x.stage x.guards x.op) _ k)),
        r,
      )
      at false e r = r

  in_each : (test : List Stmt → Bool) → test [] ≡ true
      → all_below (λ s. test (in_stage s p.stmts)) (length p.stages) ≡ true → (s : ℕ) → test (in_stage s p.stmts) ≡ true
  in_each test none k s =
      by_bool (nat_lt s (length p.stages)) _
      (λ i. below_at (λ s. test (in_stage s p.stmts)) (length p.stages) s k (ltb-true _ _ i))
      (λ i. ap test (none_past s p.stmts (ltb-false _ _ i) all.1.1.1.1.1.1.1.1.1.0) ∙ none)

  -- a pipe that passes the tests of the whole language has the facts of a sound one
  pub sounded : Sound p
  sounded =
      record {
        graph = graph;
        branches = branches;
        pathwise = pathwise_paths (at_once p) all.0;
        trunk_holds = trunk_holds;
        merged = merged;
        unmerged = unmerged;
        inside = all.1.1.1.1.1.1.1.1.1.0;
        reserves = λ m. sym (all_looked (is_reserve m) (reserve_looked m) (reserve_stage p m) p.stmts) ∙ reserves (at_once p) (parts_paths (at_once p) all.0) m;
        verifies = λ v e. subst (λ o. verifies_at p o ≡ true) e all.1.1.1.1.1.1.1.1.1.1.1.1.1.1.0;
        unreserved =
            λ m past. sym (none_looked (is_reserve m) (reserve_looked m) p.stmts) ∙ no_reserve m _ (looked_all p.stmts)
            (known (at_once p) (parts_paths (at_once p) all.0)) past;
        unreleased = λ m past. let e : commit_stage p m ≡ length p.stages = commit_past (at_once p) (parts_paths (at_once p) all.0) m past in omega arith;
        guards_late = all.1.1.1.1.1.1.1.1.1.1.1.1.1.1.1.0;
        skips = skips;
        fork_bound = λ s x a b e. and_left (none_of (binds_var x) (stages_from (suc s) p.stmts)) _ (and_right (nat_lt x p.vars) _ (fork_ok s x a b e));
        fork_known = λ s x a b e. ltb-true _ _ (and_left (nat_lt x p.vars) _ (fork_ok s x a b e));
        fork_seen = λ path s x a b on e. and_right (none_of (binds_var x) (stages_from (suc s) p.stmts)) _ (and_right (nat_lt x p.vars) _ (fork_ok s x a b e));
        fetch = λ m. fetch_stage m p.stmts;
        fetch_ok = λ s. fetch_all s p.stmts all.1.1.1.1.1.1.1.1.0;
        fetch_blind = fetch_blind;
        fetch_unseen = in_each is_unseen refl all.1.1.1.1.1.1.1.1.1.1.0;
        fetch_alone = in_each fetch_apart refl all.1.1.1.1.1.1.1.1.1.1.1.0;
        advice = all.1.1.1.1.1.1.1.1.1.1.1.1.1.1.1.1.1.1.0;
        fetch_inside = λ s e. where_true (suc s == length p.stages) _ (below_at
            (λ s. not (suc s == length p.stages) || none_of is_fetch (in_stage s p.stmts)) (length p.stages) s all.1.1.1.1.1.1.1.1.1.1.1.1.1.1.1.1.0
            (omega arith)) (eq-eqb _ _ e);
      }
