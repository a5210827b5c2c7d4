-- Threads after a wrong guess, in the whole language, commit nothing, and stay behind the thread that guessed.
use Rattle.std.proofs.Common.{◌≡◌, refl, sym, ap, ap₂, ◌∙◌, subst, ℕ, ◌≤◌, ◌<◌, inl, inr, Bool, true, false, ◌&&◌, ◌||◌, not, List, [], ◌∷◌, ◌++◌, length, Option, Some, None, is_none, is_some, nat_lt, cond, if◌then◌else◌, arith, le_of_lt, le_refl, ltb-true, ltb-false, lt_of_lt_of_le, lt-ltb}
use Rattle.pdl_semantics.specs.Flat.{Pipe}
use Rattle.pdl_semantics.specs.Stages.{list_any, verify_stage}
use Rattle.pdl_theory_turns.specs.Derived.{Hint, Thread, State, Act, work_of_stage, around, act, acts, befores, survivors, commits_of, moved_to, born_threads, exit_of, barrier_clear, answered_thread}
use Rattle.pdl_theory_turns.proofs.Writes.{and_left, and_right}
use Rattle.pdl_theory_turns.proofs.TurnFacts.{Below, Trunk, next_of}
use Rattle.pdl_theory_turns.proofs.Nested.{within_all}
use Rattle.pdl_theory_turns.proofs.Strays.{Ahead, enter_next, step_below}
use Rattle.pdl_theory_turns.proofs.Lives.{nobody}
use Rattle.pdl_theory_turns.proofs.Courses.{Course, Strayed, onward}
use Rattle.pdl_theory_turns.proofs.Guesses.{Changed}
use Rattle.pdl_theory.proofs.Unsure.{same_none}
use Rattle.pdl_theory.proofs.Spots.{Strays}
use Rattle.pdl_theory.proofs.Cycles.{none_left}
use Rattle.pdl_word.proofs.Bools.{by_bool}

-- what a cycle leaves of the threads after a wrong guess: nothing committed, none ended, all behind the one that guessed
pub record StraysAfter (p : Pipe) (g : Hint) (stray : Thread → Type 0) (made : Thread → Bool) (bound' : ℕ) (none : Bool) (these : List Act) : Type 0 where
  pub commits : commits_of these ≡ []
  pub strays : Strays p stray made bound' (survivors p g these)
  pub ended : list_any (λ a. a.moves && is_none (exit_of p a)) these ≡ false
  pub same : nobody (survivors p g these) ≡ none

ahead_next : (p : Pipe) (v : ℕ) (older : List Act) (bound bound' s s' : ℕ) (a : Act) → Ahead p v older bound bound'
    → s ≤ v → Below p [] bound s → s ≤ s' → a.before.stage ≡ s → (a.moves ≡ true → s < s') → Ahead p v (a ∷ older) s s'
ahead_next p v older bound bound' s s' a h low b up is moved =
    record { low = low; enter = enter_next p older a s s' is moved; grows = up; unclear = λ r k t. none _ _ (h.unclear r (b r t (le_of_lt k)) t) }
  where
    none : (b c : Bool) → c ≡ false → (b && c) ≡ false
    none true c e = e
    none false c e = refl

-- a stray thread that stands
stray_stands : (p : Pipe) (g : Hint) (f : Course p) (a : Act) (rest : List Act) (bound' : ℕ) (none : Bool)
    → a.moves ≡ false → f.stray a.now → Below p [] bound' a.now.stage → f.made a.now ≡ not none
    → StraysAfter p g f.stray f.made a.now.stage none rest → StraysAfter p g f.stray f.made bound' false (a ∷ rest)
stray_stands p g f a rest bound' none stays s low made r =
    record {
      commits = ap (λ b. cond b (a.work.commits ++ commits_of rest) (commits_of rest)) stays ∙ r.commits;
      strays = subst (λ l. Strays p f.stray f.made bound' l) (sym survive) (s, low, made ∙ ap not (sym r.same), r.strays);
      ended = ap (λ b. (b && is_none (exit_of p a)) || list_any (λ o. o.moves && is_none (exit_of p o)) rest) stays ∙ r.ended;
      same = ap nobody survive;
    }
  where
    survive : survivors p g (a ∷ rest) ≡ a.now ∷ survivors p g rest
    survive =
        ap
        (λ b. cond b (moved_to (exit_of p a) a.now.hint a.work ++ (born_threads p g a.work.child ++ (if a.work.fails then [] else survivors p g rest)))
        (a.now ∷ survivors p g rest)) stays

-- one that moves
stray_moves : (p : Pipe) (g : Hint) (f : Course p) (t : Thread) (a : Act) (rest : List Act) (bound' n : ℕ) (none : Bool)
    → a.moves ≡ true → Strayed p f.stray f.made t a.work → exit_of p a ≡ Some n → n ≡ next_of p t.stage a.work.env
    → 0 < n → Below p [] bound' n → f.made t ≡ not none → a.now.hint ≡ t.hint
    → StraysAfter p g f.stray f.made n none rest
    → StraysAfter p g f.stray f.made bound' false (a ∷ rest)
stray_moves p g f t a rest bound' n none goes h out is more low made hinted r =
    record {
      commits = ap (λ b. cond b (a.work.commits ++ commits_of rest) (commits_of rest)) goes ∙ ap₂ (λ x y. x ++ y) h.commits r.commits;
      strays = subst (λ l. Strays p f.stray f.made bound' l) (sym survive) (
        subst (λ q. f.stray (onward n q a.work)) (sym hinted) (subst (λ k. f.stray (onward k t.hint a.work)) (sym is) h.goes_on),
        low,
        ap (λ q. f.made (onward n q a.work)) hinted ∙
            subst (λ k. f.made (onward k t.hint a.work) ≡ (f.made t || is_some a.work.child)) (sym is) h.made_next ∙ linked a.work.child refl,
        behind a.work.child refl,
      );
      ended = ap (λ b. (b && is_none (exit_of p a)) || list_any (λ o. o.moves && is_none (exit_of p o)) rest) goes ∙ ap₂ (λ x y. is_none x || y) out r.ended;
      same = ap nobody survive;
    }
  where
    clash : false ≡ true → ⊥
    clash k = cc

    not_some : {x : List ℕ} → None ≡ Some x → ⊥
    not_some k = cc

    empty : (l : List Thread) → nobody l ≡ true → l ≡ []
    empty [] i = refl
    empty (y ∷ l) i = absurd (cc i)

    -- those behind it that are left
    left : List Thread
    left = if a.work.fails then [] else survivors p g rest

    survive : survivors p g (a ∷ rest) ≡ onward n a.now.hint a.work ∷ (born_threads p g a.work.child ++ left)
    survive =
        ap
        (λ b. cond b (moved_to (exit_of p a) a.now.hint a.work ++ (born_threads p g a.work.child ++ (if a.work.fails then [] else survivors p g rest)))
        (a.now ∷ survivors p g rest)) goes
        ∙ ap (λ x. moved_to x a.now.hint a.work ++ (born_threads p g a.work.child ++ (if a.work.fails then [] else survivors p g rest))) out

    begins : Below p [] n 0
    begins r trunk k = omega arith

    nothing_left : none ≡ true → left ≡ []
    nothing_left q = same_none a.work.fails (survivors p g rest) (empty (survivors p g rest) (r.same ∙ q))

    -- it makes one, which is alone behind it
    alone' : (x : List ℕ) → a.work.child ≡ Some x → left ≡ []
    alone' x e = at none refl
      where
        at : (b : Bool) → none ≡ b → left ≡ []
        at true q = nothing_left q
        at false q = changed (h.once (made ∙ ap not q))
          where
            changed : Changed a.work → left ≡ []
            changed (inl k) = absurd (not_some (sym k.0 ∙ e))
            changed (inr k) = ap (λ b. cond b [] (survivors p g rest)) k.2

    -- it makes none, and all stay
    kept : a.work.child ≡ None → left ≡ survivors p g rest
    kept e = at none refl
      where
        at : (b : Bool) → none ≡ b → left ≡ survivors p g rest
        at true q = nothing_left q ∙ sym (empty (survivors p g rest) (r.same ∙ q))
        at false q = changed (h.once (made ∙ ap not q))
          where
            changed : Changed a.work → left ≡ survivors p g rest
            changed (inl k) = ap (λ b. cond b [] (survivors p g rest)) k.1
            changed (inr k) = absurd (not_some (sym e ∙ k.1))

    linked : (c : Option (List ℕ)) → a.work.child ≡ c → (f.made t || is_some a.work.child) ≡ not (nobody (born_threads p g a.work.child ++ left))
    linked None e =
        ap (λ c. f.made t || is_some c) e ∙ or_none (f.made t) ∙ made ∙ ap not (sym r.same)
        ∙ ap (λ l. not (nobody l)) (sym (kept e)) ∙ ap (λ c. not (nobody (born_threads p g c ++ left))) (sym e)
      where
        or_none : (x : Bool) → (x || false) ≡ x
        or_none true = refl
        or_none false = refl
    linked (Some x) e = ap (λ c. f.made t || is_some c) e ∙ or_some (f.made t) ∙ ap (λ c. not (nobody (born_threads p g c ++ left))) (sym e)
      where
        or_some : (y : Bool) → (y || true) ≡ true
        or_some true = refl
        or_some false = refl

    behind : (c : Option (List ℕ)) → a.work.child ≡ c → Strays p f.stray f.made n (born_threads p g a.work.child ++ left)
    behind None e =
        subst (λ c. Strays p f.stray f.made n (born_threads p g c ++ left)) (sym e) (subst (λ l. Strays p f.stray f.made n l) (sym (kept e)) r.strays)
    behind (Some x) e =
        subst (λ c. Strays p f.stray f.made n (born_threads p g c ++ left)) (sym e) (
          (h.born g x e).0,
          begins,
          (h.born g x e).1 ∙ ap (λ l. not (nobody l)) (sym (alone' x e)),
          subst (λ l. Strays p f.stray f.made 0 l) (sym (alone' x e)) tt,
        )

-- a cycle of the threads after a wrong guess
pub strays_cycle : (p : Pipe) (g : Hint) (f : Course p)
    → verify_stage p.stmts ≡ Some f.v
    → (st : State) (bits : List Bool) (older : List Act) (bound bound' : ℕ) (ts : List Thread)
    → Ahead p f.v older bound bound' → Strays p f.stray f.made bound ts
    → StraysAfter p g f.stray f.made bound' (nobody ts) (acts p st bits older ts)
strays_cycle p g f vis st bits older bound bound' [] h s = record { commits = refl; strays = tt; ended = refl; same = refl }
strays_cycle p g f vis st bits older bound bound' (t ∷ ts) h s =
    let i : bound ≤ f.v = h.low in
    let j : f.v < length p.stages = f.v_inside in
    let now = f.stray_answered st bits t s.0 in
    let deep : t.stage < f.v = shallow (λ k. s.1 f.v f.trunk_v k) i in
    let low : t.stage < length p.stages = omega arith in
    by_bool (act p st bits older t).moves (StraysAfter p g f.stray f.made bound' false (acts p st bits older (t ∷ ts)))
    (λ e.
    let ready : (work_of_stage p (around p st bits older t.stage t.hint) (answered_thread p st bits t)).ready
    ≡ true = and_right _ _ (and_left _ _ (and_left _ _ (and_left _ _ e))) in
    let done : (answered_thread p st bits t).awaits ≡ [] = none_left _ (and_right _ _ (and_left _ _ e)) in
    let clear : Trunk p t.stage → barrier_clear (verify_stage p.stmts) t.stage (befores older) ≡ false =
    λ k. subst (λ o. barrier_clear o t.stage (befores older) ≡ false) (sym vis) (h.unclear t.stage (s.1 t.stage k (le_refl t.stage)) k) in
    let strayed : Strayed p f.stray f.made (answered_thread p st bits t)
    (work_of_stage p (around p st bits older t.stage t.hint) (answered_thread p st bits t)) =
    f.stray_step (around p st bits older t.stage t.hint) (answered_thread p st bits t) now.0 done deep clear ready in
    let up : t.stage < next_of p t.stage (act p st bits older t).work.env = f.graph.up t.stage _ low in
    let in_pipe : next_of p t.stage (act p st bits older t).work.env < length p.stages =
    inner (f.graph.jump [] t.stage (act p st bits older t).work.env f.v low (within_all p t.stage) f.trunk_v deep) in
    let below : Below p [] bound' (next_of p t.stage (act p st bits older t).work.env) =
    step_below p f.graph older [] bound bound' t.stage (act p st bits older t).work.env (within_all p bound) (within_all p t.stage) h.grows (omega arith)
    (λ k. absurd (omega arith)) h.enter s.1 low (and_right _ _ e) in
    stray_moves p g f (answered_thread p st bits t) (act p st bits older t)
    (acts p st bits (act p st bits older t ∷ older) ts) bound' (next_of p t.stage (act p st bits older t).work.env)
    (nobody ts) e strayed
    (f.graph.leaves t.stage (act p st bits older t).work.env low
    ∙ ap (λ c. cond c (Some (next_of p t.stage (act p st bits older t).work.env)) None) (lt-ltb _ _ in_pipe)) refl
    (omega arith) below (now.1 ∙ s.2) refl
    (strays_cycle p g f vis st bits (act p st bits older t ∷ older) t.stage (next_of p t.stage (act p st bits older t).work.env) ts
    (ahead_next p f.v older bound bound' t.stage (next_of p t.stage (act p st bits older t).work.env)
    (act p st bits older t) h (le_of_lt deep) s.1 (le_of_lt up) refl (λ k. up)) s.3))
    (λ e. stray_stands p g f (act p st bits older t)
    (acts p st bits (act p st bits older t ∷ older) ts) bound' (nobody ts) e now.0 (λ r k l. lt_of_lt_of_le (s.1 r k l) h.grows)
    (now.1 ∙ s.2)
    (strays_cycle p g f vis st bits (act p st bits older t ∷ older) t.stage t.stage ts
    (ahead_next p f.v older bound bound' t.stage t.stage (act p st bits older t) h (le_of_lt deep) s.1
    (le_refl t.stage) refl (λ k. absurd (clash (sym e ∙ k)))) s.3))
  where
    clash : false ≡ true → ⊥
    clash k = cc

    shallow : (f.v ≤ t.stage → f.v < bound) → bound ≤ f.v → t.stage < f.v
    shallow k i = by (nat_lt t.stage f.v) refl
      where
        by : (c : Bool) → nat_lt t.stage f.v ≡ c → t.stage < f.v
        by true e = ltb-true _ _ e
        by false e = absurd (let x : f.v < bound = k (ltb-false _ _ e) in omega arith)

    inner : {m : ℕ} → (f.v ≤ m → f.v ≡ m) → m < length p.stages
    inner {m} k = by (nat_lt m f.v) refl
      where
        by : (c : Bool) → nat_lt m f.v ≡ c → m < length p.stages
        by true e = let x : m < f.v = ltb-true _ _ e in let y : f.v < length p.stages = f.v_inside in omega arith
        by false e = subst (λ z. z < length p.stages) (k (ltb-false _ _ e)) f.v_inside
