-- What a stage does to a thread: to its pending writes, its values and its successor.
use Rattle.std.proofs.Common.{◌≡◌, refl, sym, ap, ap₂, ◌∙◌, subst, ℕ, ◌≤◌, ◌<◌, ◌⊎◌, inl, inr, Bool, true, false, ◌||◌, not, List, [], ◌∷◌, ◌++◌, length, Option, Some, None, ◌==◌, cond, if◌then◌else◌, arith, slice_index, slice_set, le_refl, le_of_lt}
use Rattle.std.proofs.lemmas.Bool.{eqb-true, eqb-false}
use Rattle.pdl_semantics.specs.Flat.{Stmt, Branch, Pipe, Op}
use Rattle.pdl_semantics.specs.Stages.{onpath, in_stage, stage_at, goes_to, is_reserve, is_release, reserve_stage, commit_stage}
use Rattle.pdl_semantics.specs.Machine.{Ask, Awaited, is_answered, Blocked, Deeds, held_before, deeds_after_all, Kept}
use Rattle.pdl_semantics.specs.Cycle.{awaited_of, releases_of}
use Rattle.pdl_semantics.specs.Sound.{stages_before, stages_from, is_delayed_read}
use Rattle.pdl_theory_turns.specs.Derived.{Work, Around, work_of_stage, still, with_answers, answered_thread, Hint}
use Rattle.pdl_theory_turns.specs.Derived
use Rattle.pdl_theory_turns.specs.Scans.{Fresh, phase_all, is_over, none_of, called}
use Rattle.pdl_theory_turns.proofs.Nested.{within_all, within_home, within_more}
use Rattle.pdl_theory_simulation.proofs.FlowFacts.{Within, Trunk, Below, Way, Flows, uses_ok, calls_ok, visits_stage, next_of, stage_or, comes_by, Leads, Ways}
use Rattle.pdl_theory_turns.proofs.Entries.{entries_of}
use Rattle.pdl_theory_turns.proofs.Paths.{Fixed, none_onpath}
use Rattle.pdl_theory_turns.proofs.Deeds.{places, AllFit, loose_start}
use Rattle.pdl_theory_turns.proofs.Lists.{pend}
use Rattle.pdl_theory_turns.proofs.Steps.{Here}
use Rattle.pdl_theory_turns.proofs.OwnEntries.{Worked, worked, quiet_releases}
use Rattle.pdl_theory_simulation.proofs.Shapes.{Shape, shape_over, shape_start, shape_end, uses_front, uses_back, called_append, calls_front, calls_back, none_before, none_till, fixed_to, stays_fresh, over_early, held_ops, held_append, held_path, held_work, shape_fresh, shape_none}
use Rattle.pdl_theory_turns.proofs.TurnPath.{phase_append}
use Rattle.pdl_theory_turns.proofs.OfStage.{fixed_stage}
use Rattle.pdl_theory_turns.proofs.Turn.{none_from, none_in_stage}
use Rattle.pdl_theory_simulation.proofs.StretchSteps.{steps_all, set_stays, only_sets, awaits_var, only_asks, AsksFrom, asks_from, Childed, made_all}
use Rattle.pdl_theory_turns.specs.GuessScans.{once}
use Rattle.pdl_theory_simulation.proofs.Onces.{has_any, any_append, once_front, once_back}

-- THREADS

-- what a thread on this path has done before stage s
abbrev pub on_way : Pipe → List ℕ → ℕ → List Stmt
on_way p path s = onpath path (stages_before s p.stmts)

-- values that differ at most in awaited variables
abbrev pub Unlike : List Awaited → List ℕ → List ℕ → Type 0
Unlike rs env env' = (g : ℕ) → awaits_var rs g ≡ false → slice_index env g ≡ slice_index env' g

-- a thread in stage s is behind one in stage b: in whatever branches both stand, each stage of just these that was reached from s on was left from b on
abbrev pub Behind : Pipe → ℕ → ℕ → Type 0
Behind p s b = (c : List Branch) → Within p c s → Within p c b → Below p c b s

-- a thread behind one in stage b has reached only trunk stages before b
pub left_trunk : (p : Pipe) (s b : ℕ) → Behind p s b → (r : ℕ) → Trunk p r → r ≤ s → r < b
left_trunk p s b h r t i = h [] (within_all p s) (within_all p b) r t i

-- where one thread stands behind another in the same branches its stage is the smaller
pub less_home : (p : Pipe) (s b : ℕ) → Behind p s b → (stage_at p s).branches ≡ (stage_at p b).branches → s < b
less_home p s b h e = h (stage_at p s).branches (within_home p _ s refl) (within_home p _ b (sym e)) s refl (le_refl s)

-- who is behind a thread that stands where a fork stands is inside the fork only if the other one is past it
pub fork_left : (p : Pipe) → Ways p → (x : Branch) (c : List Branch) (s b : ℕ) → Behind p s b → Within p (x ∷ c) s → Within p c b → x.fork < b
fork_left p g x c s b h i j = let t = g.fork_below x c s i in h c (within_more p x c s i) j x.fork t.0 (le_of_lt t.1)

-- a thread is not behind one in a stage that leads to its own
pub not_behind : (p : Pipe) → Ways p → (k s : ℕ) → Leads p k s → Behind p s k → ⊥
not_behind p g k s l h = at (g.way k s l)
  where
    up : k < s
    up = (g.up k s l).0

    at : Way p k s → ⊥
    at (inl e) = let j : s < k = less_home p s k h e in let u = up in omega arith
    at (inr (inl e)) =
        let j : e.0.fork < k = fork_left p g e.0 (stage_at p k).branches s k h (within_home p _ s e.1) (within_home p _ k refl) in
        let same = e.2 in omega arith
    at (inr (inr e)) =
        let j : s < k = h (stage_at p s).branches (within_home p _ s refl) (e.0 ∷ [], e.1) s refl (le_refl s) in
        let u = up in omega arith

-- each awaited memory is read in the stage before
abbrev pub Fetched : Pipe → ℕ → ℕ → Type 0
Fetched p s m = (k : ℕ) × Leads p k s × (none_of (is_delayed_read m) (in_stage k p.stmts) ≡ false)

-- each of these awaited memories is read in the stage before
abbrev pub AllFetched : Pipe → ℕ → List Awaited → Type 0
AllFetched p s [] = Unit {0}
AllFetched p s (r ∷ rs) = Fetched p s r.mem × AllFetched p s rs

-- a thread that came into its stage with these values
pub record Keeps (p : Pipe) (env : List ℕ) (t : Derived.Thread) : Type 0 where
  pub inside : t.stage < length p.stages
  pub held : places t.entries ≡ held_before t.stage env p.stmts []
  pub shape : (m : ℕ) → Shape m (phase_all m Fresh (on_way p env t.stage)) (entries_of m t.entries)
  pub reached : visits_stage p env t.stage ≡ true
  pub path : (env' : List ℕ) → Unlike t.awaits t.env env'
      → (on_way p env' t.stage ≡ on_way p env t.stage) × (visits_stage p env' t.stage ≡ visits_stage p env t.stage)
  pub fetched : AllFetched p t.stage t.awaits

-- whether it made its successor
abbrev pub has_made : Pipe → List ℕ → ℕ → Bool
has_made p env s = called false (on_way p env s)

-- whether it has carried out a statement of a kind
abbrev pub has_done : (Op → Bool) → Pipe → List ℕ → ℕ → Bool
has_done test p env s = has_any test (on_way p env s)

-- ANSWERS

still_less : (p : Pipe) (bits : List Bool) (rs : List Awaited) (g : ℕ) → awaits_var rs g ≡ false → awaits_var (still p bits rs) g ≡ false
still_less p bits [] g h = refl
still_less p bits (r ∷ rs) g h = at (r.var == g) refl h (λ k. still_less p bits rs g k)
  where
    at : (b : Bool) → (r.var == g) ≡ b → (b || awaits_var rs g) ≡ false
        → (awaits_var rs g ≡ false → awaits_var (still p bits rs) g ≡ false)
        → awaits_var (if is_answered p bits r.mem then still p bits rs else r ∷ still p bits rs) g ≡ false
    at true e k f = absurd (cc k)
    at false e k f = by (is_answered p bits r.mem)
      where
        by : (c : Bool) → awaits_var (cond c (still p bits rs) (r ∷ still p bits rs)) g ≡ false
        by true = f k
        by false = ap₂ (λ a b. a || b) e (f k)

answers_only : (p : Pipe) (d : Derived.State) (bits : List Bool) (rs : List Awaited) (env : List ℕ) (g : ℕ)
    → awaits_var rs g ≡ false → slice_index (with_answers p d bits rs env) g ≡ slice_index env g
answers_only p d bits [] env g h = refl
answers_only p d bits (r ∷ rs) env g h = at (r.var == g) refl h (λ e k. answers_only p d bits rs e g k)
  where
    word : ℕ
    word = Derived.word_of d.arrays r.mem (Derived.asked_at d r.mem)

    at : (b : Bool) → (r.var == g) ≡ b → (b || awaits_var rs g) ≡ false
        → ((e : List ℕ) → awaits_var rs g ≡ false → slice_index (with_answers p d bits rs e) g ≡ slice_index e g)
        → slice_index (with_answers p d bits rs (if is_answered p bits r.mem then slice_set env r.var word else env)) g ≡ slice_index env g
    at true e k f = absurd (cc k)
    at false e k f = f _ k ∙ by (is_answered p bits r.mem)
      where
        by : (c : Bool) → slice_index (cond c (slice_set env r.var word) env) g ≡ slice_index env g
        by true = sym (set_stays env r.var g word (ap not e))
        by false = refl

fetched_still : (p : Pipe) (bits : List Bool) (s : ℕ) (rs : List Awaited) → AllFetched p s rs → AllFetched p s (still p bits rs)
fetched_still p bits s [] h = tt
fetched_still p bits s (r ∷ rs) h = at (is_answered p bits r.mem) (fetched_still p bits s rs h.1)
  where
    at : (b : Bool) → AllFetched p s (still p bits rs) → AllFetched p s (cond b (still p bits rs) (r ∷ still p bits rs))
    at true k = k
    at false k = (h.0, k)

-- a thread keeps to its way as answers come
pub keeps_answered : (p : Pipe) (d : Derived.State) (bits : List Bool) (env : List ℕ) (t : Derived.Thread)
    → Keeps p env t → Keeps p env (answered_thread p d bits t)
keeps_answered p d bits env t k =
    record {
      inside = k.inside;
      held = k.held;
      shape = k.shape;
      reached = k.reached;
      path = λ env' u. k.path env' (λ g h. sym (answers_only p d bits t.awaits t.env g h) ∙ u g (still_less p bits t.awaits g h));
      fetched = fetched_still p bits t.stage t.awaits k.fetched;
    }

-- A STAGE

-- the work with which a thread's stage begins
abbrev pub start_of : Derived.Thread → Work
start_of t =
    record { env = t.env; entries = t.entries; guess = t.guess; asks = []; reserves = []; commits = []; child = None; fails = false; ready = true }

module _ (p : Pipe) (flows : Flows p) (env : List ℕ) (t : Derived.Thread) (k : Keeps p env t) where
  -- the deeds with which the stage of the thread begins
  abbrev pub start_deeds : List Kept → Deeds
  start_deeds advice = record {
    env = t.env;
    advice = advice;
    guess = t.guess;
    held = held_before t.stage env p.stmts [];
    blocks = [];
    reserves = [];
    writes = [];
    releases = [];
    asks = [];
    advises = [];
    barrier = false;
    child = None;
    fails = false;
  }

  way : (on_way p t.env t.stage ≡ on_way p env t.stage) × (visits_stage p t.env t.stage ≡ visits_stage p env t.stage)
  way = k.path t.env (λ g h. refl)

  -- the guards of the stage's statements hold, when they are met, just where they hold with the thread's values at the end of the stage
  pub fixed_here : (o : Around) → Fixed (work_of_stage p o t).env o (in_stage t.stage p.stmts) (start_of t)
  fixed_here o = fixed_to (work_of_stage p o t).env o (in_stage t.stage p.stmts) (start_of t) (fixed_stage t.stage p.stmts flows.fixed_guards) refl

  steady_here : (o : Around)
      → (on_way p t.env t.stage ≡ on_way p (work_of_stage p o t).env t.stage)
      × (visits_stage p t.env t.stage ≡ visits_stage p (work_of_stage p o t).env t.stage)
  steady_here o =
      flows.steady t.stage t.env (work_of_stage p o t).env (way.1 ∙ k.reached)
      (only_sets (work_of_stage p o t).env o (in_stage t.stage p.stmts) (start_of t) (fixed_here o))

  -- the thread's way so far is that of its values at the end of the stage
  pub way_on : (o : Around) → on_way p (work_of_stage p o t).env t.stage ≡ on_way p env t.stage
  way_on o = sym (steady_here o).0 ∙ way.0

  reached_on : (o : Around) → visits_stage p (work_of_stage p o t).env t.stage ≡ true
  reached_on o = sym (steady_here o).1 ∙ way.1 ∙ k.reached

  -- the thread's way by its next stage is its way so far with the statements of this stage that it takes
  pub way_next : (o : Around)
      → on_way p (work_of_stage p o t).env (next_of p t.stage (work_of_stage p o t).env)
      ≡ on_way p env t.stage ++ onpath (work_of_stage p o t).env (in_stage t.stage p.stmts)
  way_next o =
      flows.next_piece (work_of_stage p o t).env t.stage k.inside (reached_on o)
      ∙ ap (λ l. l ++ onpath (work_of_stage p o t).env (in_stage t.stage p.stmts)) (way_on o)

  -- the lock of m
  uses_way : (path : List ℕ) (s m : ℕ) → uses_ok m Fresh (on_way p path s) ≡ true
  uses_way path s m =
      uses_front m (on_way p path s)
      (onpath path (stages_from s p.stmts)) Fresh (subst (λ l. uses_ok m Fresh l ≡ true) (flows.all_pieces path s) (flows.uses path m))

  over_at : (path : List ℕ) (s m : ℕ) → commit_stage p m < s → is_over (phase_all m Fresh (on_way p path s)) ≡ true
  over_at path s m h =
      over_early m (onpath path (stages_from s p.stmts)) _
      (none_onpath (is_release m) path (stages_from s p.stmts) (none_from (is_release m) (commit_stage p m) s p.stmts (flows.releases m) h))
      (subst (λ q. is_over q ≡ true)
      (ap (phase_all m Fresh) (flows.all_pieces path s) ∙ phase_append m (on_way p path s) (onpath path (stages_from s p.stmts)) Fresh)
      (flows.over path m))

  over_end : (path : List ℕ) (s m : ℕ) → s ≡ length p.stages → is_over (phase_all m Fresh (on_way p path s)) ≡ true
  over_end path s m e = subst (λ q. is_over q ≡ true) (ap (phase_all m Fresh) (sym (ap (on_way p path) e ∙ flows.whole path))) (flows.over path m)

  -- it goes on to a greater stage
  pub stage_up : (path : List ℕ) → t.stage < next_of p t.stage path
  stage_up path = at (goes_to (stage_at p t.stage).next path) refl
    where
      at : (r : Option ℕ) → goes_to (stage_at p t.stage).next path ≡ r → t.stage < stage_or (length p.stages) r
      at None e = k.inside
      at (Some q) e = (flows.graph.up t.stage q (path, e, k.inside)).0

  no_entry : (m : ℕ) → none_of (is_reserve m) (on_way p env t.stage) ≡ true → entries_of m t.entries ≡ []
  no_entry m h = shape_none m _ (subst (λ q. Shape m q (entries_of m t.entries)) (stays_fresh m (on_way p env t.stage) (uses_way env t.stage m) h) (k.shape m))

  -- it has no entry of m before the stage of the reserves and after that of the releases

  -- a thread up to the stage of m's reserves has no entry of m
  pub early : (m : ℕ) → t.stage ≤ reserve_stage p m → entries_of m t.entries ≡ []
  early m h =
      no_entry m
      (none_onpath (is_reserve m) env (stages_before t.stage p.stmts) (none_till (is_reserve m) (reserve_stage p m) t.stage p.stmts (flows.reserves m) h))

  -- a thread has no entry of a memory that the pipe doesn't have
  pub unknown : (m : ℕ) → length p.mems ≤ m → entries_of m t.entries ≡ []
  unknown m h = no_entry m (none_onpath (is_reserve m) env (stages_before t.stage p.stmts) (none_before (is_reserve m) t.stage p.stmts (flows.unreserved m h)))

  -- a thread past the stage of m's releases has no entry of m
  pub late : (m : ℕ) → commit_stage p m < t.stage → entries_of m t.entries ≡ []
  late m h = shape_over m _ _ (over_at env t.stage m h) (k.shape m)

  -- its work on the entries of m
  module _ (o : Around) (read : ℕ → ℕ → ℕ) (block : Blocked → Bool) (free : Ask → Bool)
      (fit : AllFit o read block free (in_stage t.stage p.stmts)) (advice : List Kept) (m n : ℕ) where
    here : Here o read block free m n (pend m n t.entries)
        (phase_all m Fresh (on_way p (work_of_stage p o t).env (next_of p t.stage (work_of_stage p o t).env)))
        (deeds_after_all read (in_stage t.stage p.stmts) (start_deeds advice)) (work_of_stage p o t)
    here =
        subst
        (λ q. Here o read block free m n (pend m n t.entries) q (deeds_after_all read (in_stage t.stage p.stmts) (start_deeds advice)) (work_of_stage p o t))
        (sym (ap (phase_all m Fresh) (way_next o) ∙ phase_append m (on_way p env t.stage) _ Fresh))
        (steps_all o read block free m n (pend m n t.entries) (work_of_stage p o t).env (in_stage t.stage p.stmts)
        (phase_all m Fresh (on_way p env t.stage)) (start_deeds advice) (start_of t)
        (loose_start o read block free (start_deeds advice) t.entries [] k.held) fit (fixed_here o)
        (uses_back m (on_way p env t.stage)
        (onpath (work_of_stage p o t).env (in_stage t.stage p.stmts)) Fresh
        (subst (λ l. uses_ok m Fresh l ≡ true) (way_next o) (uses_way (work_of_stage p o t).env (next_of p t.stage (work_of_stage p o t).env) m)))
        (shape_start m n _ t.entries (k.shape m)))

    -- a thread's stage does to its entries of m what the stated machine's deeds do
    pub stage_worked : Worked m n (pend m n t.entries) (deeds_after_all read (in_stage t.stage p.stmts) (start_deeds advice)) (work_of_stage p o t)
    stage_worked = worked m n _ _ _ _ here (by (t.stage == commit_stage p m) refl)
      where
        by : (b : Bool) → (t.stage == commit_stage p m) ≡ b
            → (releases_of m (deeds_after_all read (in_stage t.stage p.stmts) (start_deeds advice)).releases ≡ 0)
            ⊎ (is_over (phase_all m Fresh (on_way p (work_of_stage p o t).env (next_of p t.stage (work_of_stage p o t).env))) ≡ true)
        by true e = inr (over_at _ _ m (subst (λ s. s < next_of p t.stage (work_of_stage p o t).env) (eqb-true _ _ e) (stage_up (work_of_stage p o t).env)))
        by false e =
            inl
            (quiet_releases m read (in_stage t.stage p.stmts) (start_deeds advice)
            (none_in_stage (is_release m) (commit_stage p m) t.stage p.stmts (flows.releases m) (eqb-false _ _ e)) refl)

    stage_shape : Shape m (phase_all m Fresh (on_way p (work_of_stage p o t).env (next_of p t.stage (work_of_stage p o t).env)))
        (entries_of m (work_of_stage p o t).entries)
    stage_shape = shape_end m n _ _ _ _ _ _ here

    -- a thread that goes out of the pipe has no entry of m left
    pub ends_empty : next_of p t.stage (work_of_stage p o t).env ≡ length p.stages → entries_of m (work_of_stage p o t).entries ≡ []
    ends_empty e = shape_over m _ _ (over_end _ _ m e) stage_shape

    -- a thread that goes past the stage of m's releases has no entry of m left
    pub late_empty : commit_stage p m < next_of p t.stage (work_of_stage p o t).env → entries_of m (work_of_stage p o t).entries ≡ []
    late_empty e = shape_over m _ _ (over_at _ _ m e) stage_shape

  -- a thread's stage makes no second successor but by a failing verify, and one that it makes was called
  pub made_then : (o : Around)
      → has_made p (work_of_stage p o t).env (next_of p t.stage (work_of_stage p o t).env) ≡ called (has_made p env t.stage)
      (onpath (work_of_stage p o t).env (in_stage t.stage p.stmts))
  made_then o = ap (called false) (way_next o) ∙ called_append false (on_way p env t.stage) _

  -- the calls of its stage
  pub calls_here :
      (o : Around) → calls_ok (has_made p env t.stage) (onpath (work_of_stage p o t).env (in_stage t.stage p.stmts)) ≡ true
  calls_here o = calls_back false (on_way p env t.stage) _ (subst (λ l. calls_ok false l ≡ true) (way_next o)
      (calls_front false (on_way p (work_of_stage p o t).env (next_of p t.stage (work_of_stage p o t).env)) _
      (subst (λ l. calls_ok false l ≡ true)
      (flows.all_pieces (work_of_stage p o t).env (next_of p t.stage (work_of_stage p o t).env))
      (flows.calls (work_of_stage p o t).env))))

  -- by its next stage it has carried out a statement of a kind if it had before, or does in this stage
  pub done_then : (test : Op → Bool) (o : Around)
      → has_done test p (work_of_stage p o t).env (next_of p t.stage (work_of_stage p o t).env)
      ≡ (has_done test p env t.stage || has_any test (onpath (work_of_stage p o t).env (in_stage t.stage p.stmts)))
  done_then test o = ap (has_any test) (way_next o) ∙ any_append test (on_way p env t.stage) _

  -- of a kind that stands on a path once at most its stage has none where it has carried one out, else one at most
  pub once_here : (test : Op → Bool) → ((path : List ℕ) → once test false (onpath path p.stmts) ≡ true) → (o : Around)
      → once test (has_done test p env t.stage) (onpath (work_of_stage p o t).env (in_stage t.stage p.stmts)) ≡ true
  once_here test h o =
      once_back test false (on_way p env t.stage) _ (subst (λ l. once test false l ≡ true) (way_next o)
      (once_front test false (on_way p (work_of_stage p o t).env (next_of p t.stage (work_of_stage p o t).env)) _
      (subst (λ l. once test false l ≡ true)
      (flows.all_pieces (work_of_stage p o t).env (next_of p t.stage (work_of_stage p o t).env))
      (h (work_of_stage p o t).env))))

  -- its successor
  pub stage_child : (o : Around)
      → Childed (has_made p env t.stage) (has_made p (work_of_stage p o t).env (next_of p t.stage (work_of_stage p o t).env)) (work_of_stage p o t)
  stage_child o =
      subst (λ c. Childed (has_made p env t.stage) c (work_of_stage p o t)) (sym (made_then o))
      (made_all (has_made p env t.stage) (has_made p env t.stage) (work_of_stage p o t).env o (in_stage t.stage p.stmts) (start_of t) (fixed_here o)
      (calls_here o)
      (record { since = λ e. e; called_it = λ e. absurd (clash e); no_second = λ e f. refl; squashes = λ e. absurd (clash e) }))
    where
      clash : false ≡ true → ⊥
      clash i = cc

  fetched_asks : (s q : ℕ) → Leads p s q → (qs : List Ask) → AsksFrom (in_stage s p.stmts) qs → AllFetched p q (awaited_of qs)
  fetched_asks s q l [] h = tt
  fetched_asks s q l (x ∷ qs) h = ((s, l, h.0), fetched_asks s q l qs h.1)

  -- a thread that moves keeps to its way in its next stage
  pub keeps_next : (o : Around) (read : ℕ → ℕ → ℕ) (block : Blocked → Bool) (free : Ask → Bool)
      → AllFit o read block free (in_stage t.stage p.stmts) → (q : ℕ)
      → goes_to (stage_at p t.stage).next (work_of_stage p o t).env ≡ Some q
      → Keeps p (work_of_stage p o t).env
      (record {
        stage = q;
        hint = t.hint;
        env = (work_of_stage p o t).env;
        entries = (work_of_stage p o t).entries;
        guess = (work_of_stage p o t).guess;
        awaits = awaited_of (work_of_stage p o t).asks;
      })
  keeps_next o read block free fit q goes =
      subst
      (λ n. Keeps p (work_of_stage p o t).env
      (record {
        stage = n;
        hint = t.hint;
        env = (work_of_stage p o t).env;
        entries = (work_of_stage p o t).entries;
        guess = (work_of_stage p o t).guess;
        awaits = awaited_of (work_of_stage p o t).asks;
      })) is
      (record {
        inside = subst (λ n. n < length p.stages) (sym is) (flows.graph.up t.stage q leads).1;
        held =
            held_work (work_of_stage p o t).env o (in_stage t.stage p.stmts) (start_of t) (fixed_here o)
            ∙ ap (held_ops (onpath (work_of_stage p o t).env (in_stage t.stage p.stmts))) (k.held ∙ held_path t.stage env p.stmts [])
            ∙ sym
            (held_path (next_of p t.stage (work_of_stage p o t).env) (work_of_stage p o t).env p.stmts []
            ∙ ap (λ l. held_ops l []) (way_next o) ∙ held_append (on_way p env t.stage) _ []);
        shape = λ m. stage_shape o read block free fit [] m 0;
        reached =
            subst (λ n. visits_stage p (work_of_stage p o t).env n ≡ true) (sym is)
            (flows.arrives (work_of_stage p o t).env t.stage q k.inside goes (reached_on o));
        path =
            λ env' u. flows.settled t.stage env' (work_of_stage p o t).env k.inside (reached_on o)
            (λ g h. sym (u g (only_asks (work_of_stage p o t).env o (in_stage t.stage p.stmts) (start_of t) (fixed_here o) g h)));
        fetched =
            fetched_asks t.stage (next_of p t.stage (work_of_stage p o t).env)
            (subst (λ n. Leads p t.stage n) (sym is) leads)
            (work_of_stage p o t).asks (asks_from (in_stage t.stage p.stmts) o (in_stage t.stage p.stmts) (start_of t) (λ m h. h) tt);
      })
    where
      is : next_of p t.stage (work_of_stage p o t).env ≡ q
      is = ap (stage_or (length p.stages)) goes

      leads : Leads p t.stage q
      leads = ((work_of_stage p o t).env, goes, k.inside)

-- a new thread keeps to its way
pub keeps_fresh : (p : Pipe) → Flows p → (hint : Hint) (args : List ℕ) → Keeps p (Derived.fresh p hint args).env (Derived.fresh p hint args)
keeps_fresh p flows hint args =
    record {
      inside = flows.graph.some_stage;
      held = sym (held_path 0 _ p.stmts [] ∙ ap (λ l. held_ops l []) (flows.first_piece _));
      shape = λ m. subst (λ l. Shape m (phase_all m Fresh l) []) (sym (flows.first_piece (Derived.fresh p hint args).env)) (shape_fresh m);
      reached = trunk (Derived.fresh p hint args).env;
      path = λ env' u. (flows.first_piece env' ∙ sym (flows.first_piece _), trunk env' ∙ sym (trunk _));
      fetched = tt;
    }
  where
    trunk : (path : List ℕ) → visits_stage p path 0 ≡ true
    trunk path = ap (λ b. comes_by p path b) flows.graph.trunk_start
