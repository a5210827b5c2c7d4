-- A thread after a wrong guess: it keeps to one path, whatever answers come.
use Rattle.std.proofs.Common.{◌≡◌, refl, sym, ap, ap₂, ◌∙◌, subst, ℕ, suc, ◌<◌, ◌⊎◌, inl, inr, Bool, true, false, ◌||◌, not, List, [], ◌∷◌, ◌++◌, length, None, is_some, ◌==◌, cond, if◌then◌else◌, slice_index, slice_set, append-nil, append_assoc, eq-eqb}
use Rattle.pdl_semantics.specs.Flat.{Stmt, Pipe, Branch, Next, Ends, Goes, Forks, all_hold}
use Rattle.pdl_semantics.specs.Stages.{onpath, in_stage, stage_at, verify_stage}
use Rattle.pdl_semantics.specs.Machine.{Ask, Awaited, is_answered}
use Rattle.pdl_semantics.specs.Cycle.{awaited_of}
use Rattle.pdl_theory_turns.specs.Derived.{no_hint, Hint, Work, Around, Thread, State, do_all, work_of_stage, fresh, answered_thread, with_answers, still, word_of, asked_at}
use Rattle.pdl_theory_turns.specs.Alone.{before}
use Rattle.pdl_theory_turns.specs.Scans.{Scan, no_scan, scan_after_all, none_of, binds_var, is_fixed}
use Rattle.pdl_theory_turns.specs.GuessScans.{stands_at, stands_before, Making, Unmade, Guessed, Made, making_all, is_unmade, makings_ok, all_sure}
use Rattle.pdl_theory_turns.specs.Facts.{looked_all, at_once, is_fetch_of, comes_by, visits_stage, Sound}
use Rattle.pdl_theory_turns.specs.Graphs.{next_of, Within}
use Rattle.pdl_theory_turns.proofs.Nested.{came_from, arrives, visits_same}
use Rattle.std.proofs.lemmas.List.{get_or-set_other}
use Rattle.std.proofs.lemmas.Bool.{eqb-false, ne_eqb, or_parts, not-true, false≢true}
use Rattle.pdl_theory_turns.proofs.Writes.{and_left, and_right}
use Rattle.pdl_theory_turns.proofs.Paths.{fixed_all, all_stays, taken_stays, before_path, stage_path}
use Rattle.pdl_theory_turns.proofs.Surroundings.{AllIn, in_stage_all, Covers}
use Rattle.pdl_theory_turns.proofs.OwnEntries.{fixed_to, fixed_front, fixed_second, none_second}
use Rattle.pdl_theory_turns.proofs.Guesses.{unguarded, Changed, changed_all, begins, making_append}
use Rattle.pdl_theory_turns.proofs.CertaintyScans.{some_barrier, barred_append, sure_first, sure_second}
use Rattle.pdl_theory_turns.proofs.DelayedReads.{AllAsks}
use Rattle.pdl_theory_turns.proofs.Courses.{onward}
use Rattle.pdl_theory_turns.proofs.Looks.{before_looked, stage_looked, path_looked}
use Rattle.pdl_theory_turns.proofs.StageFacts.{EachFetch, asks_each, not_fetched}
use Rattle.pdl_theory_turns.proofs.Makes
use Rattle.pdl_theory_turns.proofs.TurnPath
use Rattle.pdl_theory_turns.proofs.StrayPaths.{making_looked, ok_looked, opens_looked, barred_looked, sure_looked, fixed_looked, looked_append, looked_before, verify_looked, Barred, roam_all, steers_by, steers, side_same, Aside, AllAside, visits_answers, still_aside, aside_asks, none_stage_from, fetch_binds, before_none}
use Rattle.pdl_semantics.specs.Sound.{stages_from}

-- ROAMING THREADS

-- no statement of the stages before this one hangs on an awaited variable
abbrev pub awaits_var : ℕ → List Awaited → Bool
awaits_var x [] = false
awaits_var x (r ∷ rs) = (r.var == x) || awaits_var x rs

-- values that differ in awaited variables alone take the same of these statements
abbrev pub Blind : List Stmt → List Awaited → List ℕ → Type 0
Blind xs rs env = (env' : List ℕ) → ((x : ℕ) → awaits_var x rs ≡ false → slice_index env' x ≡ slice_index env x) → onpath env' xs ≡ onpath env xs

-- a thread after a wrong guess: on a path that hangs on no awaited read, with reserved writes alone pending, and past no barrier
pub record Roams (p : Pipe) (t : Thread) : Type 0 where
  pub covers : Covers (scan_after_all (onpath t.env (before t.stage p.stmts)) no_scan).held t.entries
  pub barred : some_barrier false (onpath t.env (before t.stage p.stmts)) ≡ false
  pub blind : Blind (before t.stage p.stmts) t.awaits t.env
  pub on : visits_stage p t.env t.stage ≡ true
  pub aside : AllAside p t.stage t.awaits

-- whether it has made its successor
abbrev pub has_made : Pipe → Thread → Bool
has_made p t = not (is_unmade (making_all Unmade (onpath t.env (before t.stage p.stmts))))

-- answers are for awaited variables
answers_other : (p : Pipe) (st : State) (bits : List Bool) (x : ℕ) (rs : List Awaited) (env : List ℕ)
    → awaits_var x rs ≡ false → slice_index (with_answers p st bits rs env) x ≡ slice_index env x
answers_other p st bits x [] env h = refl
answers_other p st bits x (r ∷ rs) env h =
    answers_other p st bits x rs (if is_answered p bits r.mem then slice_set env r.var (word_of st.arrays r.mem (asked_at st r.mem)) else env)
    (or_parts (r.var == x) (awaits_var x rs) h).1
    ∙ at (is_answered p bits r.mem)
  where
    at : (b : Bool) → slice_index (if b then slice_set env r.var (word_of st.arrays r.mem (asked_at st r.mem)) else env) x ≡ slice_index env x
    at true =
        get_or-set_other env r.var x (word_of st.arrays r.mem (asked_at st r.mem)) 0
        (λ e. eqb-false r.var x (or_parts (r.var == x) (awaits_var x rs) h).0 (sym e))
    at false = refl

still_awaits : (p : Pipe) (bits : List Bool) (x : ℕ) (rs : List Awaited) → awaits_var x rs ≡ false → awaits_var x (still p bits rs) ≡ false
still_awaits p bits x [] h = refl
still_awaits p bits x (r ∷ rs) h = at (is_answered p bits r.mem) (still_awaits p bits x rs (or_parts (r.var == x) (awaits_var x rs) h).1)
  where
    at : (b : Bool) → awaits_var x (still p bits rs) ≡ false → awaits_var x (cond b (still p bits rs) (r ∷ still p bits rs)) ≡ false
    at true k = k
    at false k = ap₂ (λ a b. a || b) (or_parts (r.var == x) (awaits_var x rs) h).0 k

-- answers leave it on its path
pub roams_answered : (p : Pipe) (st : State) (bits : List Bool) (t : Thread) → Roams p t
    → Roams p (answered_thread p st bits t) × (has_made p (answered_thread p st bits t) ≡ has_made p t)
roams_answered p st bits t r =
    let same = r.blind (with_answers p st bits t.awaits t.env) (λ x h. answers_other p st bits x t.awaits t.env h) in (
      record {
        covers = subst (λ l. Covers (scan_after_all l no_scan).held t.entries) (sym same) r.covers;
        barred = ap (some_barrier false) same ∙ r.barred;
        blind = λ env' f. r.blind env' (λ x h. f x (still_awaits p bits x t.awaits h) ∙ answers_other p st bits x t.awaits t.env h) ∙ sym same;
        on = visits_answers p st bits t.stage t.awaits t.env r.aside ∙ r.on;
        aside = still_aside p bits t.stage t.awaits r.aside;
      },
      ap (λ l. not (is_unmade (making_all Unmade l))) same,
    )

not_asked : (x : ℕ) (qs : List Ask) → AllAsks (λ q. not (q.var == x) ≡ true) qs → awaits_var x (awaited_of qs) ≡ false
not_asked x [] h = refl
not_asked x (q ∷ qs) h = ap₂ (λ a b. a || b) (not-true (q.var == x) h.0) (not_asked x qs h.1)

module _ (p : Pipe) (acc : Sound p) where
  -- a new thread is on its path and has made no successor
  pub fresh_roams : (g : Hint) (args : List ℕ) → Roams p (fresh p g args) × (has_made p (fresh p g args) ≡ false)
  fresh_roams g args = (
    record {
      covers = λ m a h. absurd (cc h);
      barred = ap (λ l. some_barrier false (onpath (fresh p g args).env l)) none;
      blind = λ env' f. ap (onpath env') none ∙ sym (ap (onpath (fresh p g args).env) none);
      on = ap (comes_by p (fresh p g args).env) acc.graph.trunk_start;
      aside = tt;
    },
    ap (λ l. not (is_unmade (making_all Unmade (onpath (fresh p g args).env l)))) none,
  )
    where
      none : before 0 p.stmts ≡ []
      none = before_none p.stmts

  module _ (o : Around) (t : Thread) where
    fixed_both : is_fixed (before t.stage p.stmts ++ in_stage t.stage p.stmts) ≡ true
    fixed_both =
        sym (fixed_looked (before t.stage p.stmts ++ in_stage t.stage p.stmts))
        ∙ ap is_fixed
        (looked_append (before t.stage p.stmts) (in_stage t.stage p.stmts)
        ∙ ap₂ (λ k l. k ++ l) (looked_before t.stage p.stmts ∙ sym (before_looked t.stage p.stmts)) (sym (stage_looked t.stage p.stmts)))
        ∙ fixed_front (before t.stage (looked_all p.stmts) ++ in_stage t.stage (looked_all p.stmts))
        (stages_from (suc t.stage) (looked_all p.stmts))
        (subst (λ l. is_fixed l ≡ true)
        (sym (append_assoc (before t.stage (looked_all p.stmts)) (in_stage t.stage (looked_all p.stmts)) (stages_from (suc t.stage) (looked_all p.stmts))))
        (acc.pathwise.fixed_by t.stage))

    -- a thread's stage does the statements of the path that the thread is seen to take when the stage is done
    along_path : work_of_stage p o t
        ≡ do_all o (onpath (work_of_stage p o t).env (in_stage t.stage p.stmts))
        (record { env = t.env; entries = t.entries; guess = t.guess; asks = []; reserves = []; commits = []; child = None; fails = false; ready = true })
    along_path =
        fixed_all (work_of_stage p o t).env o (in_stage t.stage p.stmts) _
        (fixed_to (work_of_stage p o t).env o (in_stage t.stage p.stmts)
        [] _
        (subst (λ l. is_fixed l ≡ true) (sym (append-nil (in_stage t.stage p.stmts)))
        (fixed_second (before t.stage p.stmts) (in_stage t.stage p.stmts) fixed_both))
        (λ g k. refl))

    -- what the thread did before its stage is on the path that it is seen to take when the stage is done
    same_before : onpath (work_of_stage p o t).env (before t.stage p.stmts) ≡ onpath t.env (before t.stage p.stmts)
    same_before = same_path (before t.stage p.stmts) (in_stage t.stage p.stmts) fixed_both (λ g k. all_stays g o (in_stage t.stage p.stmts) _ k)
      where
        same_path : (xs ys : List Stmt) → is_fixed (xs ++ ys) ≡ true
            → ((g : ℕ) → none_of (binds_var g) ys ≡ true → slice_index (work_of_stage p o t).env g ≡ slice_index t.env g)
            → onpath (work_of_stage p o t).env xs ≡ onpath t.env xs
        same_path [] ys h f = refl
        same_path (x ∷ xs) ys h f =
            ap₂ (λ b l. cond b (record x { guards = [] } ∷ l) l)
            (sym (taken_stays x.guards (x ∷ xs ++ ys) t.env (work_of_stage p o t).env (and_left _ _ h) (λ g k. f g (none_second (binds_var g) (x ∷ xs) ys k))))
            (same_path xs ys (and_right _ _ h) f)

    -- statements of the path by stages
    before_on : (s : ℕ) → before s (onpath (work_of_stage p o t).env (looked_all p.stmts)) ≡ onpath (work_of_stage p o t).env (before s p.stmts)
    before_on s = before_path (work_of_stage p o t).env s (looked_all p.stmts) ∙ ap (onpath (work_of_stage p o t).env) (before_looked s p.stmts)

    stage_on : in_stage t.stage (onpath (work_of_stage p o t).env (looked_all p.stmts))
        ≡ looked_all (onpath (work_of_stage p o t).env (in_stage t.stage p.stmts))
    stage_on =
        stage_path (work_of_stage p o t).env t.stage (looked_all p.stmts)
        ∙ ap (onpath (work_of_stage p o t).env) (stage_looked t.stage p.stmts)
        ∙ path_looked (work_of_stage p o t).env (in_stage t.stage p.stmts)

    piece_on : onpath (work_of_stage p o t).env (before (suc t.stage) p.stmts)
        ≡ onpath (work_of_stage p o t).env (before t.stage p.stmts) ++ looked_all (onpath (work_of_stage p o t).env (in_stage t.stage p.stmts))
    piece_on = sym (before_on (suc t.stage)) ∙ (acc.pathwise.paths (work_of_stage p o t).env).pieces t.stage ∙ ap₂ (λ k l. k ++ l) (before_on t.stage) stage_on

    -- the stage of the verifies is the same with delayed reads answered at once
    vis : verify_stage (looked_all p.stmts) ≡ verify_stage p.stmts
    vis = verify_looked p.stmts

    sure_stage : all_sure (verify_stage p.stmts)
        (some_barrier false (onpath (work_of_stage p o t).env (before t.stage p.stmts)))
        (scan_after_all (onpath (work_of_stage p o t).env (before t.stage p.stmts)) no_scan)
        (onpath (work_of_stage p o t).env (in_stage t.stage p.stmts))
        ≡ true
    sure_stage =
        sym (sure_looked (verify_stage p.stmts) _ _ (onpath (work_of_stage p o t).env (in_stage t.stage p.stmts)))
        ∙ sure_second (verify_stage p.stmts) false no_scan (onpath (work_of_stage p o t).env (before t.stage p.stmts))
        (looked_all (onpath (work_of_stage p o t).env (in_stage t.stage p.stmts)))
        (subst (λ l. all_sure (verify_stage p.stmts) false no_scan l ≡ true) (before_on (suc t.stage) ∙ piece_on)
        (sure_first (verify_stage p.stmts) false no_scan (before (suc t.stage) (onpath (work_of_stage p o t).env (looked_all p.stmts)))
        (stages_from (suc t.stage) (onpath (work_of_stage p o t).env (looked_all p.stmts)))
        (subst (λ l. all_sure (verify_stage p.stmts) false no_scan l ≡ true)
        ((acc.pathwise.paths (work_of_stage p o t).env).ordered (suc t.stage))
        (subst (λ v. all_sure v false no_scan (onpath (work_of_stage p o t).env (looked_all p.stmts)) ≡ true) vis
        (acc.pathwise.sure (work_of_stage p o t).env)))))

    free_stage : unguarded (onpath (work_of_stage p o t).env (in_stage t.stage p.stmts)) ≡ true
    free_stage = free_path (in_stage t.stage p.stmts)
      where
        free_path : (xs : List Stmt) → unguarded (onpath (work_of_stage p o t).env xs) ≡ true
        free_path [] = refl
        free_path (x ∷ xs) = at (all_hold x.guards (work_of_stage p o t).env) (free_path xs)
          where
            at : (b : Bool) → unguarded (onpath (work_of_stage p o t).env xs) ≡ true
                → unguarded (cond b (record x { guards = [] } ∷ onpath (work_of_stage p o t).env xs) (onpath (work_of_stage p o t).env xs)) ≡ true
            at true h = h
            at false h = h

    in_here : AllIn t.stage (onpath (work_of_stage p o t).env (in_stage t.stage p.stmts))
    in_here =
        subst (λ l. AllIn t.stage l) (stage_path (work_of_stage p o t).env t.stage p.stmts) (in_stage_all t.stage (onpath (work_of_stage p o t).env p.stmts))

    ok_here : makings_ok (verify_stage p.stmts)
        (making_all Unmade (onpath (work_of_stage p o t).env (before t.stage p.stmts)))
        (onpath (work_of_stage p o t).env (in_stage t.stage p.stmts))
        ≡ true
    ok_here =
        sym (ok_looked (verify_stage p.stmts) _ (onpath (work_of_stage p o t).env (in_stage t.stage p.stmts)))
        ∙ (λ i. makings_ok (sym vis i) (making_all Unmade (sym (before_on t.stage) i)) (sym stage_on i))
        ∙ Makes.makings_stage (at_once p) acc.pathwise (work_of_stage p o t).env (record { words = λ m a. 0; hint = no_hint }) [] t.stage

    -- what it makes
    makes_one : (has_made p t ≡ true → Changed (work_of_stage p o t))
        × (not
        (is_unmade
        (making_all (making_all Unmade (onpath (work_of_stage p o t).env (before t.stage p.stmts)))
        (onpath (work_of_stage p o t).env (in_stage t.stage p.stmts))))
        ≡ (has_made p t || is_some (work_of_stage p o t).child))
    makes_one = by (making_all Unmade (onpath (work_of_stage p o t).env (before t.stage p.stmts))) refl
      where
        had : (k : Making) → making_all Unmade (onpath (work_of_stage p o t).env (before t.stage p.stmts)) ≡ k → has_made p t ≡ not (is_unmade k)
        had k i = ap (λ l. not (is_unmade (making_all Unmade l))) (sym same_before) ∙ ap (λ j. not (is_unmade j)) i

        flip : (b c : Bool) → b ≡ not c → not b ≡ c
        flip b true h = ap not h
        flip b false h = ap not h

        later : (k : Making) → making_all Unmade (onpath (work_of_stage p o t).env (before t.stage p.stmts)) ≡ k → is_unmade k ≡ false
            → (has_made p t ≡ true → Changed (work_of_stage p o t))
            × (not
            (is_unmade
            (making_all (making_all Unmade (onpath (work_of_stage p o t).env (before t.stage p.stmts)))
            (onpath (work_of_stage p o t).env (in_stage t.stage p.stmts))))
            ≡ (has_made p t || is_some (work_of_stage p o t).child))
        later k i u =
            let s =
            changed_all o (verify_stage p.stmts) k (onpath (work_of_stage p o t).env (in_stage t.stage p.stmts))
            (record { env = t.env; entries = t.entries; guess = t.guess; asks = []; reserves = []; commits = []; child = None; fails = false; ready = true }) u
            (subst (λ j. makings_ok (verify_stage p.stmts) j (onpath (work_of_stage p o t).env (in_stage t.stage p.stmts)) ≡ true) i ok_here)
            (inl (refl, refl)) in (
              (λ _. subst (λ (w : Work). Changed w) (sym along_path) s.0),
              ap (λ j. not (is_unmade j)) (ap (λ j. making_all j (onpath (work_of_stage p o t).env (in_stage t.stage p.stmts))) i)
                  ∙ ap not s.1 ∙ sym (ap (λ b. b || is_some (work_of_stage p o t).child) (had k i ∙ ap not u)),
            )

        by : (k : Making) → making_all Unmade (onpath (work_of_stage p o t).env (before t.stage p.stmts)) ≡ k
            → (has_made p t ≡ true → Changed (work_of_stage p o t))
            × (not
            (is_unmade
            (making_all (making_all Unmade (onpath (work_of_stage p o t).env (before t.stage p.stmts)))
            (onpath (work_of_stage p o t).env (in_stage t.stage p.stmts))))
            ≡ (has_made p t || is_some (work_of_stage p o t).child))
        by Unmade i = (
          (λ h. absurd (false≢true (sym (had Unmade i) ∙ h))),
          ap (λ j. not (is_unmade (making_all j (onpath (work_of_stage p o t).env (in_stage t.stage p.stmts))))) i
              ∙ flip _ _
              (begins o (verify_stage p.stmts) Unmade (onpath (work_of_stage p o t).env (in_stage t.stage p.stmts))
              (record {
                env = t.env;
                entries = t.entries;
                guess = t.guess;
                asks = [];
                reserves = [];
                commits = [];
                child =
                    None;
                fails = false;
                ready = true;
              }) refl
              (subst
              (λ j. makings_ok (verify_stage p.stmts) j (onpath (work_of_stage p o t).env (in_stage t.stage p.stmts)) ≡ true) i ok_here) free_stage)
              ∙ ap (λ (w : Work). is_some w.child) (sym along_path) ∙ ap (λ b. b || is_some (work_of_stage p o t).child) (sym (had Unmade i)),
        )
        by Guessed i = later Guessed i refl
        by Made i = later Made i refl

    -- the side of its branch stays
    on_now : visits_stage p t.env t.stage ≡ true → visits_stage p (work_of_stage p o t).env t.stage ≡ true
    on_now h =
        visits_same p t.stage (work_of_stage p o t).env t.env
        (λ x c i. side_same (stage_at p x.fork).next x.first (work_of_stage p o t).env t.env
        (λ z a b f. all_stays z o (in_stage t.stage p.stmts) _
        (none_stage_from (binds_var z) (suc x.fork) t.stage p.stmts (acc.branches.fork x c t.stage i).1 (acc.fork_bound x.fork z a b f))))
        ∙ h

    -- the next stage of the thread is on its path
    on_then : visits_stage p (work_of_stage p o t).env t.stage ≡ true → t.stage < length p.stages
        → visits_stage p (work_of_stage p o t).env (next_of p t.stage (work_of_stage p o t).env) ≡ true
    on_then h low = arrives p acc.branches t.stage (work_of_stage p o t).env low h

    -- what it awaits there is no fork's variable
    aside_then : visits_stage p (work_of_stage p o t).env t.stage ≡ true
        → t.stage < length p.stages → AllAsks (λ q. Aside p (next_of p t.stage (work_of_stage p o t).env) q.var) (work_of_stage p o t).asks
    aside_then on low =
        flip (work_of_stage p o t).asks
        (λ y c e. asks_each (λ x m. steers p y x ≡ false) o (in_stage t.stage p.stmts) _ (none_steers y c e (stage_at p y.fork).next refl) tt)
      where
        flip : (qs : List Ask)
            → ((y : Branch) (c : List Branch) → Within p (y ∷ c) (next_of p t.stage (work_of_stage p o t).env) → AllAsks (λ q. steers p y q.var ≡ false) qs)
            → AllAsks (λ q. Aside p (next_of p t.stage (work_of_stage p o t).env) q.var) qs
        flip [] h = tt
        flip (q ∷ qs) h = ((λ y c e. (h y c e).0), flip qs (λ y c e. (h y c e).1))

        turned : (z : ℕ) (ys : List Stmt) → EachFetch (λ y m. not (y == z) ≡ true) ys → EachFetch (λ y m. (z == y) ≡ false) ys
        turned z [] h = tt
        turned z (y ∷ ys) h = ((λ d x m a e. apart x (h.0 d x m a e)), turned z ys h.1)
          where
            apart : (x : ℕ) → not (x == z) ≡ true → (z == x) ≡ false
            apart x k = ne_eqb z x (λ i. false≢true (sym (k' k) ∙ eq-eqb x z (sym i)))
              where
                k' : not (x == z) ≡ true → (x == z) ≡ false
                k' j = at (x == z) j
                  where
                    at : (b : Bool) → not b ≡ true → b ≡ false
                    at true l = absurd (cc l)
                    at false l = refl

        unfetched : (y : Branch) (c : List Branch) (z a b : ℕ) → Within p (y ∷ c) (next_of p t.stage (work_of_stage p o t).env)
            → (stage_at p y.fork).next ≡ Forks z a b → none_of (is_fetch_of z) (in_stage t.stage p.stmts) ≡ true
        unfetched y c z a b e f = by (came_from p acc.branches y c t.stage (work_of_stage p o t).env low e)
          where
            by : (y.fork ≡ t.stage) ⊎ Within p (y ∷ c) t.stage
                → none_of (is_fetch_of z) (in_stage t.stage p.stmts) ≡ true
            by (inl g) =
                subst (λ n. none_of (is_fetch_of z) (in_stage n p.stmts) ≡ true) g
                (acc.fork_seen (work_of_stage p o t).env y.fork z a b (subst (λ n. visits_stage p (work_of_stage p o t).env n ≡ true) (sym g) on) f)
            by (inr g) =
                fetch_binds z (in_stage t.stage p.stmts)
                (none_stage_from (binds_var z) (suc y.fork) t.stage p.stmts (acc.branches.fork y c t.stage g).1 (acc.fork_bound y.fork z a b f))

        each : (P : ℕ → ℕ → Type 0) (ys : List Stmt) → ((x m : ℕ) → P x m) → EachFetch P ys
        each P [] f = tt
        each P (y ∷ ys) f = ((λ d x m a e. f x m), each P ys f)

        none_steers : (y : Branch) (c : List Branch) → Within p (y ∷ c) (next_of p t.stage (work_of_stage p o t).env) → (n : Next)
            → (stage_at p y.fork).next ≡ n → EachFetch (λ x m. steers p y x ≡ false) (in_stage t.stage p.stmts)
        none_steers y c e Ends f = each (λ x m. steers p y x ≡ false) (in_stage t.stage p.stmts) (λ x m. ap (λ n. steers_by n x) f)
        none_steers y c e (Goes to) f = each (λ x m. steers p y x ≡ false) (in_stage t.stage p.stmts) (λ x m. ap (λ n. steers_by n x) f)
        none_steers y c e (Forks z a b) f =
            subst (λ n. EachFetch (λ x m. steers_by n x ≡ false) (in_stage t.stage p.stmts)) (sym f)
            (turned z (in_stage t.stage p.stmts) (not_fetched z (in_stage t.stage p.stmts) (unfetched y c z a b e f)))

    -- a roaming thread's stage before V, where a barrier would not be clear
    pub roam_step : Roams p t → t.stage < length p.stages → stands_before (verify_stage p.stmts) t.stage ≡ true
        → stands_at (verify_stage p.stmts) t.stage ≡ false
        → Barred o (onpath (work_of_stage p o t).env (in_stage t.stage p.stmts)) → (work_of_stage p o t).ready ≡ true
        → ((work_of_stage p o t).commits ≡ [])
        × Roams p (onward (next_of p t.stage (work_of_stage p o t).env) t.hint (work_of_stage p o t))
        × (has_made p t ≡ true → Changed (work_of_stage p o t))
        ×
        (has_made p (onward (next_of p t.stage (work_of_stage p o t).env) t.hint (work_of_stage p o t)) ≡ (has_made p t || is_some (work_of_stage p o t).child))
    roam_step st inside low apart clear ready =
        let on_path : visits_stage p (work_of_stage p o t).env t.stage ≡ true = on_now st.on in
        let skip : onpath (work_of_stage p o t).env (before (next_of p t.stage (work_of_stage p o t).env) p.stmts)
        ≡ onpath (work_of_stage p o t).env (before (suc t.stage) p.stmts) =
        sym (before_path (work_of_stage p o t).env (next_of p t.stage (work_of_stage p o t).env) p.stmts)
        ∙ acc.skips (work_of_stage p o t).env t.stage inside on_path
        ∙ before_path (work_of_stage p o t).env (suc t.stage) p.stmts in
        let piece = skip ∙ piece_on in
        let unbarred : some_barrier false (onpath (work_of_stage p o t).env (before t.stage p.stmts)) ≡ false =
        ap (some_barrier false) same_before ∙ st.barred in
        let cover : Covers (scan_after_all (onpath (work_of_stage p o t).env (before t.stage p.stmts)) no_scan).held t.entries =
        subst (λ l. Covers (scan_after_all l no_scan).held t.entries) (sym same_before) st.covers in
        let h =
        roam_all (verify_stage p.stmts) o
        (scan_after_all (onpath (work_of_stage p o t).env (before t.stage p.stmts)) no_scan) t.stage
        (onpath (work_of_stage p o t).env (in_stage t.stage p.stmts))
        (record {
          env = t.env;
          entries = t.entries;
          guess = t.guess;
          asks = [];
          reserves = [];
          commits = [];
          child = None;
          fails = false;
          ready = true;
        }) free_stage in_here clear low
        (subst
        (λ b. all_sure (verify_stage p.stmts) b (scan_after_all (onpath (work_of_stage p o t).env (before t.stage p.stmts)) no_scan)
        (onpath (work_of_stage p o t).env (in_stage t.stage p.stmts))
        ≡ true) unbarred sure_stage) cover
        (ap (λ (w : Work). w.ready) (sym along_path) ∙ ready) in
        let m = makes_one in
        let opened_now : scan_after_all (onpath (work_of_stage p o t).env (before (next_of p t.stage (work_of_stage p o t).env) p.stmts)) no_scan
        ≡ scan_after_all (onpath (work_of_stage p o t).env (in_stage t.stage p.stmts))
        (scan_after_all (onpath (work_of_stage p o t).env (before t.stage p.stmts)) no_scan) =
        ap (λ l. scan_after_all l no_scan) piece
        ∙ TurnPath.opens_append (onpath (work_of_stage p o t).env (before t.stage p.stmts))
        (looked_all (onpath (work_of_stage p o t).env (in_stage t.stage p.stmts))) no_scan
        ∙ opens_looked (onpath (work_of_stage p o t).env (in_stage t.stage p.stmts)) _ in (
          ap (λ (w : Work). w.commits) along_path ∙ h.0,
          record {
            covers = subst (λ (c : Scan). Covers c.held (work_of_stage p o t).entries) (sym opened_now)
                (subst
                (λ (w : Work). Covers
                (scan_after_all (onpath (work_of_stage p o t).env (in_stage t.stage p.stmts))
                (scan_after_all (onpath (work_of_stage p o t).env (before t.stage p.stmts)) no_scan)).held w.entries)
                (sym along_path) h.2);
            barred =
                ap (some_barrier false) piece
                ∙ barred_append false (onpath (work_of_stage p o t).env (before t.stage p.stmts))
                (looked_all (onpath (work_of_stage p o t).env (in_stage t.stage p.stmts)))
                ∙ ap (λ b. some_barrier b (looked_all (onpath (work_of_stage p o t).env (in_stage t.stage p.stmts)))) unbarred
                ∙ barred_looked false (onpath (work_of_stage p o t).env (in_stage t.stage p.stmts)) ∙ h.1;
            blind =
                λ env' f. acc.fetch_blind t.stage (work_of_stage p o t).env env'
                (λ x h. f x
                (not_asked x (work_of_stage p o t).asks
                (asks_each (λ y m. not (y == x) ≡ true) o (in_stage t.stage p.stmts) _ (not_fetched x (in_stage t.stage p.stmts) h) tt)));
            on = on_then on_path inside;
            aside = aside_asks p (next_of p t.stage (work_of_stage p o t).env) (work_of_stage p o t).asks (aside_then on_path inside);
          },
          m.0,
          ap (λ l. not (is_unmade (making_all Unmade l))) piece
              ∙ ap (λ j. not (is_unmade j))
              (making_append Unmade (onpath (work_of_stage p o t).env (before t.stage p.stmts))
              (looked_all (onpath (work_of_stage p o t).env (in_stage t.stage p.stmts)))
              ∙ making_looked _ (onpath (work_of_stage p o t).env (in_stage t.stage p.stmts)))
              ∙ m.1,
        )
