-- A delayed read that stands on some path stands before the stage of its memory's releases.
use Rattle.std.proofs.Common.{◌≡◌, refl, sym, ap, ap₂, ◌∙◌, subst, ℕ, suc, ◌+◌, ◌≤◌, ◌<◌, ◌⊎◌, inl, inr, Bool, true, false, ◌&&◌, ◌||◌, not, List, [], ◌∷◌, ◌++◌, map, drop, length, append_assoc, append-nil, Option, Some, None, unwrap_or, if◌then◌else◌, ◌==◌, nat_lt, bytes_eq, arith, eq-eqb, ltb-false}
use Rattle.std.proofs.lemmas.Bool.{false≢true, and_parts, or_parts, both_ways}
use Rattle.std.proofs.lemmas.List.Folds.{list_any-append}
use Rattle.std.specs.List.{list_any}
use Rattle.pdl_semantics.specs.Tree.{Span, Ident, Location, R, W, Variable, Stmt, Separator, CombRead, Bind, Write, DelayedRead, Reserve, Release, If, Stmts, Nil, Cons, Pipe}
use Rattle.pdl_semantics.specs.Flat
use Rattle.pdl_semantics.specs.Flat.{all_hold}
use Rattle.pdl_semantics.specs.Flatten.{flat, mem_of, var_of, flat_expr, is_advisory_mem, is_advised}
use Rattle.pdl_semantics.specs.Stages.{is_release, commit_stage}
use Rattle.pdl_kit.specs.declared.rule.Rule.TheVariants.{F3, F5, L8}
use Rattle.pdl_rules.specs.Places.{Place, Parameter, Memory, Statement, Guard, Branch, with_inner, statements, places, places_after, guards, on_path}
use Rattle.pdl_rules.specs.Parts.{location_of, is_some_and}
use Rattle.pdl_rules.specs.Typed.{is_memory}
use Rattle.pdl_rules.specs.Limits.{is_separator}
use Rattle.pdl_rules.specs.Names.{OfVariable, defines_use}
use Rattle.pdl_rules.specs.Locks
use Rattle.pdl_rules.specs.Locks.{is_locked}
use Rattle.pdl_rules.specs.Forks
use Rattle.pdl_rules.specs.Stages.{stage_in, stage_from, stage_after, first_stage, branches_of, are_outer, releases_memory, next_on, bound_late}
use Rattle.pdl_rules.specs.Refusal.{KeepsRules}
use Rattle.pdl_theory_turns.specs.Scans.{none_of, is_dead}
use Rattle.pdl_source_stages.proofs.Sites.{Site, sites_of, front_of, place_of, All, stmts_are}
use Rattle.pdl_source_stages.proofs.Walks.{cut, cut_append, cut_in, at_front}
use Rattle.pdl_source_stages.proofs.Shapes.{is_whole, is_forked, is_late, begins_stage}
use Rattle.pdl_source_stages.proofs.SiteStages.{all_map, none_of_whole}
use Rattle.pdl_source_stages.proofs.BodyShape.{body_forked}
use Rattle.pdl_source_stages.proofs.StatementStages.{all_staged}
use Rattle.pdl_source_stages.proofs.TextStages.{from_append, from_none}
use Rattle.pdl_source_stages.proofs.Firsts.{any_params, any_mems}
use Rattle.pdl_source_stages.proofs.SiteFacts.{each_stmt, AtSite, op_of, from_op, read_none, bind_none, write_none}
use Rattle.pdl_source_paths.specs.Source.{are_apart}
use Rattle.pdl_source_paths.proofs.Choices.{by_choice}
use Rattle.pdl_source_paths.proofs.PathStatements.{ops}
use Rattle.pdl_source_paths.proofs.Numbers.{mem_low, mem_is}
use Rattle.pdl_source_paths.proofs.Variables.{Here, all_here, located}
use Rattle.pdl_source_paths.proofs.Walk.{all_in_text, text_places}
use Rattle.pdl_source_paths.proofs.FlatPaths.{value}
use Rattle.pdl_source_paths.proofs.SiteStages.{some_op, first_sited, first_skip, none_sited}
use Rattle.pdl_source_paths.proofs.Memories.{stage_at, first_none}
use Rattle.pdl_source_paths.proofs.StatementTests
use Rattle.pdl_source_paths.proofs.PathTests.{named_release}
use Rattle.pdl_source_paths.proofs.GuardPaths.{some_path}
use Rattle.pdl_source_paths.proofs.SiteFacts.{Known, way}
use Rattle.pdl_source_paths.proofs.GuardFacts.{Told, all_told}
use Rattle.pdl_word.proofs.Bytes.{bytes_same}
use Rattle.pdl_semantics.specs.Sound.{is_fetch}
use Rattle.pdl_rules.proofs.EachPlace.{closing}
use Rattle.pdl_word.specs.Each.{Each}

-- THE LAST SEPARATOR

-- the last separator of these places stands in no branch
abbrev Full : List Place → Type 0
Full xs = stage_in xs [] ≡ cut xs

full_none : (front more : List Place) → cut more ≡ 0 → Full front → Full (front ++ more)
full_none front more e h =
    from_append 0 0 [] front more ∙ from_none (0 + cut front) (stage_in front []) [] more e ∙ h
    ∙ (let a = cut_append front more in let b : cut front ≡ cut (front ++ more) = omega arith in b)

full_cut : (front : List Place) (sp : Span) → Full (front ++ Statement (Separator sp) [] ∷ [])
full_cut front sp =
    from_append 0 0 [] front (Statement (Separator sp) [] ∷ [])
    ∙ (let a = cut_append front (Statement (Separator sp) [] ∷ []) in
    let c : cut (Statement (Separator sp) [] ∷ []) ≡ 1 = refl in
    let b : suc (0 + cut front) ≡ cut (front ++ Statement (Separator sp) [] ∷ []) = omega arith in b)

full_body : (front : List Place) (ss : Stmts)
    → is_forked ss ≡ true → Full front ⊎ (begins_stage ss ≡ true) → Full (front ++ statements [] ss)
full_body front Nil h (inl f) = subst Full (sym (append-nil front)) f
full_body front Nil h (inr e) = absurd (false≢true e)
full_body front (Cons (Separator sp) ss) h r =
    subst Full (append_assoc front (Statement (Separator sp) [] ∷ []) (statements [] ss))
    (full_body (front ++ Statement (Separator sp) [] ∷ []) ss h (inl (full_cut front sp)))
full_body front (Cons (If sp c when otherwise) ss) h (inr e) = absurd (false≢true e)
full_body front (Cons (If sp c when otherwise) ss) h (inl f) =
    let parts = and_parts (is_whole when otherwise || (begins_stage ss && (is_late when && is_late otherwise))) (is_forked ss) h in
    subst Full (append_assoc front (with_inner [] (If sp c when otherwise)) (statements [] ss))
    (full_body (front ++ with_inner [] (If sp c when otherwise)) ss parts.1 (by (is_whole when otherwise) refl parts.0))
  where
    by : (b : Bool) → is_whole when otherwise ≡ b → (b || (begins_stage ss && (is_late when && is_late otherwise))) ≡ true
        → Full (front ++ with_inner [] (If sp c when otherwise)) ⊎ (begins_stage ss ≡ true)
    by true e g = inl (full_none front (with_inner [] (If sp c when otherwise)) (cut_in [] (If sp c when otherwise) ∙ none_of_whole when otherwise e) f)
    by false e g = inr (and_parts (begins_stage ss) _ g).0
full_body front (Cons s ss) h (inr e) = absurd (false≢true e)
full_body front (Cons s ss) h (inl f) =
    subst Full (append_assoc front (with_inner [] s) (statements [] ss))
    (full_body (front ++ with_inner [] s) ss h (inl (full_none front (with_inner [] s) refl f)))

full_places : (p : Pipe) → is_forked p.body ≡ true → Full (places p)
full_places p h =
    full_none (front_of p ++ statements [] p.body) (closing p) refl
    (full_body (front_of p) p.body h (inl (from_none 0 0 [] (front_of p) (sym (at_front p).begun) ∙ (at_front p).begun)))

-- NO SEPARATOR BEHIND

abbrev Cuts : List Guard → List Place → Bool
Cuts c xs = list_any (λ x. is_separator x && on_path c x) xs

outer_off : (c : List Guard) (x : Place) → is_separator x ≡ true → on_path c x ≡ false → are_outer (branches_of x) [] ≡ false
outer_off c (Statement s []) e f = absurd (false≢true (sym f))
outer_off c (Statement s (b ∷ bs)) e f = refl
outer_off c _ e f = absurd (false≢true e)

no_trunk : (c : List Guard) (b f : ℕ) (xs : List Place) → Cuts c xs ≡ false → stage_from b f [] xs ≡ f
no_trunk c b f [] e = refl
no_trunk c b f (x ∷ xs) e =
    let parts = or_parts (is_separator x && on_path c x) (Cuts c xs) e in
    at (is_separator x) refl parts.0 (λ n g. no_trunk c n g xs parts.1)
  where
    at : (d : Bool) → is_separator x ≡ d → (d && on_path c x) ≡ false → ((n g : ℕ) → stage_from n g [] xs ≡ g)
        → (if d then stage_from (suc b) (if are_outer (branches_of x) [] then suc b else f) [] xs else stage_from b f [] xs) ≡ f
    at true i j go = go (suc b) (if are_outer (branches_of x) [] then suc b else f) ∙ ap (λ o. if o then suc b else f) (outer_off c x i j)
    at false i j go = go b f

outer_all : (cs bs : List Branch) → are_outer cs [] ≡ true → are_outer cs bs ≡ true
outer_all [] bs e = refl
outer_all (c ∷ cs) bs e = absurd (false≢true e)

-- what stands in more branches stands in no earlier stage
mono : (b f g : ℕ) (bs : List Branch) (xs : List Place) → f ≤ g → g ≤ b → stage_from b f [] xs ≤ stage_from b g bs xs
mono b f g bs [] h i = h
mono b f g bs (x ∷ xs) h i = at (is_separator x) (λ n k l j m. mono n k l bs xs j m)
  where
    turn : (o q : Bool) → are_outer (branches_of x) [] ≡ o → are_outer (branches_of x) bs ≡ q
        → ((if o then suc b else f) ≤ (if q then suc b else g)) × ((if q then suc b else g) ≤ suc b)
    turn true true e k = (omega arith, omega arith)
    turn true false e k = absurd (false≢true (sym k ∙ outer_all (branches_of x) bs e))
    turn false true e k = (omega arith, omega arith)
    turn false false e k = (h, omega arith)

    at : (d : Bool) → ((n k l : ℕ) → k ≤ l → l ≤ n → stage_from n k [] xs ≤ stage_from n l bs xs)
        → (if d
        then stage_from (suc b) (if are_outer (branches_of x) [] then suc b else f) [] xs else stage_from b f [] xs) ≤ (if d
        then stage_from (suc b) (if are_outer (branches_of x) bs then suc b else g) bs xs else stage_from b g bs xs)
    at true go = let r = turn (are_outer (branches_of x) []) (are_outer (branches_of x) bs) refl refl in
        go (suc b) (if are_outer (branches_of x) [] then suc b else f) (if are_outer (branches_of x) bs then suc b else g) r.0 r.1
    at false go = go b f g h i

-- the next stage on a path is a later one, where a separator of the path stands after
next_up : (c : List Guard) (b : ℕ) (xs : List Place) → (Cuts c xs ≡ false) ⊎ (b < next_on c b xs)
next_up c b [] = inl refl
next_up c b (x ∷ xs) = at (is_separator x) (on_path c x) (λ n. next_up c n xs)
  where
    at : (d o : Bool) → ((n : ℕ) → (Cuts c xs ≡ false) ⊎ (n < next_on c n xs))
        → (((d && o) || Cuts c xs) ≡ false) ⊎ (b < (if d then (if o then suc b else next_on c (suc b) xs) else next_on c b xs))
    at true true go = inr (omega arith)
    at true false go = more (go (suc b))
      where
        more : (Cuts c xs ≡ false) ⊎ (suc b < next_on c (suc b) xs) → (Cuts c xs ≡ false) ⊎ (b < next_on c (suc b) xs)
        more (inl e) = inl e
        more (inr l) = inr (omega arith)
    at false o go = go b

-- what comes after an element of a list
pub drop_past : (xs : List Place) (x : Place) (ys : List Place) → drop (suc (length xs)) (xs ++ x ∷ ys) ≡ ys
drop_past [] x ys = refl
drop_past (z ∷ xs) x ys = drop_past xs x ys

module _ (p : Pipe) (rules : KeepsRules p) where
  -- with none after it, a site stands in the last stage
  at_end : (t : Site) (h : Known p t) (c : List Guard) → is_separator (place_of t) ≡ false → Cuts c h.fine.later ≡ false → t.walk.stage ≡ stage_after (places p)
  at_end t h c e f =
      let last = full_places p (body_forked p rules) in
      let none : Cuts c (place_of t ∷ h.fine.later) ≡ false = ap₂ (λ a b. (a && on_path c (place_of t)) || b) e f in
      let same : stage_in (places p) [] ≡ stage_in t.front [] =
      ap (λ l. stage_in l []) h.fine.whole ∙ from_append 0 0 [] t.front (place_of t ∷ h.fine.later)
      ∙ no_trunk c (0 + cut t.front) (stage_in t.front []) (place_of t ∷ h.fine.later) none in
      let low = mono 0 0 0 t.branches t.front (let z : 0 ≤ 0 = omega arith in z) (let z : 0 ≤ 0 = omega arith in z) in
      let staged : stage_in t.front t.branches ≡ t.walk.stage = h.fine.staged in
      let begun : t.walk.begun ≡ cut t.front = h.fine.here.begun in
      let some = h.low in
      let parts = ap cut h.fine.whole in
      let sum = cut_append t.front (place_of t ∷ h.fine.later) in
      let places_after : cut (places p) ≡ stage_after (places p) = refl in
      let up : stage_in t.front [] ≤ stage_in t.front t.branches = low in
      omega arith

  -- the releases of a memory, by its name
  module _ (n : List ℕ) (there : is_memory p.mems n ≡ true) where
    none_front : list_any (releases_memory n) (front_of p) ≡ false
    none_front =
        list_any-append (releases_memory n) (map Parameter p.params) (map Memory p.mems)
        ∙ ap₂ (λ a b. a || b) (any_params (releases_memory n) (λ a. refl) p.params) (any_mems (releases_memory n) (λ m. refl) p.mems)

    -- without any it has none in the flat form
    no_release : All (λ t. releases_memory n (place_of t) ≡ false) (sites_of p) → commit_stage (flat p) (mem_of p.mems n) ≡ length (flat p).stages
    no_release h =
        ap (λ o. unwrap_or o (length (flat p).stages))
        (stage_at is_release (flat p).stmts (mem_of p.mems n) p.mems (mem_low p.mems n there)
        ∙ first_none (is_release (mem_of p.mems n))
        (flat p).stmts
        (ap (none_of (is_release (mem_of p.mems n))) (stmts_are p)
        ∙ none_sited (is_release (mem_of p.mems n)) p.mems (sites_of p) (each (sites_of p) (all_here p) h)))
      where
        of_stmt : (t : Site) → Here p t → releases_memory n (place_of t) ≡ false → some_op (is_release (mem_of p.mems n)) (ops p.mems t) ≡ false
        of_stmt t k e =
            StatementTests.no_release p.mems (mem_of p.mems n) t.walk.vars t.stmt
            (λ sp at f. mem_is p.mems at.mem.name n (named sp at f) there ∙ ap (λ s. releases_memory n (Statement s t.branches)) (sym f) ∙ e)
          where
            named : (sp : Span) (at : Location) → t.stmt ≡ Release sp at → is_memory p.mems at.mem.name ≡ true
            named sp at f = (located p rules t k at (ap location_of f)).0

        each : (ts : List Site) → All (Here p) ts → All (λ t. releases_memory n (place_of t) ≡ false) ts
            → All (λ t. some_op (is_release (mem_of p.mems n)) (ops p.mems t) ≡ false) ts
        each [] a b = tt
        each (t ∷ ts) a b = (of_stmt t a.0 b.0, each ts a.1 b.1)

    none_of_places : (ts : List Site) → list_any (releases_memory n) (map place_of ts) ≡ false → All (λ t. releases_memory n (place_of t) ≡ false) ts
    none_of_places [] e = tt
    none_of_places (t ∷ ts) e = let parts = or_parts (releases_memory n (place_of t)) (list_any (releases_memory n) (map place_of ts)) e in
        (parts.0, none_of_places ts parts.1)

    first : (first_stage (releases_memory n) [] (places p) ≡ Some (commit_stage (flat p) (mem_of p.mems n)))
        ⊎ (commit_stage (flat p) (mem_of p.mems n) ≡ length (flat p).stages)
    first =
        at
        (first_sited (releases_memory n) (commit_stage (flat p) (mem_of p.mems n)) (front_of p) (closing p)
        (sites_of p) (all_in_text p) (all_staged p (body_forked p rules)) (named_release p rules n)
        (λ front. refl))
      where
        at :
            ((first_stage (releases_memory n) (front_of p) (map place_of (sites_of p) ++ closing p) ≡ None)
            × (list_any (releases_memory n) (map place_of (sites_of p)) ≡ false))
            ⊎ (first_stage (releases_memory n) (front_of p) (map place_of (sites_of p) ++ closing p) ≡ Some (commit_stage (flat p) (mem_of p.mems n)))
            → (first_stage (releases_memory n) [] (places p) ≡ Some (commit_stage (flat p) (mem_of p.mems n)))
            ⊎ (commit_stage (flat p) (mem_of p.mems n) ≡ length (flat p).stages)
        at (inl r) = inr (no_release (none_of_places (sites_of p) r.1))
        at (inr r) =
            inl
            (ap (first_stage (releases_memory n) []) (text_places p)
            ∙ first_skip (releases_memory n) [] (front_of p) (map place_of (sites_of p) ++ closing p) none_front ∙ r)

    -- F5
    unlocked : is_locked p.mems n ≡ false → commit_stage (flat p) (mem_of p.mems n) ≡ length (flat p).stages
    unlocked e = no_release (all_map (Here p) (λ t. releases_memory n (place_of t) ≡ false) (λ t h. at t h t.stmt refl) (sites_of p) (all_here p))
      where
        at : (t : Site) → Here p t → (s : Stmt) → t.stmt ≡ s → releases_memory n (Statement s t.branches) ≡ false
        at t h (Release sp l) f = by (bytes_eq l.mem.name n) refl
          where
            by : (b : Bool) → bytes_eq l.mem.name n ≡ b → b ≡ false
            by false g = refl
            by true g =
                absurd
                (both_ways (not (is_locked p.mems l.mem.name))
                (ap (λ x. Locks.breaks_f5 p (Statement x t.branches)) (sym f) ∙ rules F5 t.front (place_of t) h.later h.whole)
                (ap (λ m. not (is_locked p.mems m)) (bytes_same l.mem.name n g) ∙ ap not e))
        at t h _ f = refl

  -- L8
  read_early : (t : Site) (h : Known p t) (sp : Span) (y : Ident) (l : Location) → t.stmt ≡ DelayedRead sp y l
      → (env : List ℕ) → all_hold t.gs env ≡ true → t.walk.stage < commit_stage (flat p) (mem_of p.mems l.mem.name)
  read_early t h sp y l e env tk = at (is_locked p.mems l.mem.name) refl (first l.mem.name there)
    where
      here : Here p t
      here = record { later = h.fine.later; whole = h.fine.whole; at = h.fine.here; after = h.after }

      there : is_memory p.mems l.mem.name ≡ true
      there = (located p rules t here l (ap location_of e)).0

      inside : t.walk.stage < length (flat p).stages
      inside = h.fine.inside

      cut_none : is_separator (place_of t) ≡ false
      cut_none = ap (λ s. is_separator (Statement s t.branches)) e

      on : on_path (way p env) (place_of t) ≡ true
      on = sym (h.alike env) ∙ tk

      after_is : places_after p t.front ≡ h.fine.later
      after_is = ap (drop (suc (length t.front))) h.fine.whole ∙ drop_past t.front (place_of t) h.fine.later

      not_last : (t.walk.stage == stage_after (places p)) ≡ false
      not_last =
          ap (λ k. k == stage_after (places p)) (sym h.fine.staged)
          ∙ (or_parts (stage_in t.front t.branches == stage_after (places p)) (list_any (Forks.breaks_fetch_order l.mem.name) t.front)
          (ap (λ s. Forks.breaks_f3 p t.front (Statement s t.branches)) (sym e) ∙ rules F3 t.front (place_of t) h.fine.later h.fine.whole)).0

      later : t.walk.stage < next_on (way p env) (stage_after t.front) (places_after p t.front)
      later = by (next_up (way p env) (stage_after t.front) (places_after p t.front))
        where
          by : (Cuts (way p env) (places_after p t.front) ≡ false) ⊎ (stage_after t.front < next_on (way p env) (stage_after t.front) (places_after p t.front))
              → t.walk.stage < next_on (way p env) (stage_after t.front) (places_after p t.front)
          by (inl f) =
              absurd
              (both_ways _ not_last (eq-eqb t.walk.stage (stage_after (places p)) (at_end t h (way p env) cut_none (ap (Cuts (way p env)) (sym after_is) ∙ f))))
          by (inr g) = let begun : t.walk.begun ≡ stage_after t.front = h.fine.here.begun in let low = h.low in omega arith

      bound : bound_late p (way p env) t.front (Statement (DelayedRead sp y l) t.branches) ≡ false
      bound =
          ap (λ s. bound_late p (way p env) t.front (Statement s t.branches)) (sym e) ∙ ap (λ b. b && bound_late p (way p env) t.front (place_of t)) (sym on)
          ∙ by_choice (λ path. on_path path (place_of t) && bound_late p path t.front (place_of t)) (value p env)
          (guards (places p)) (rules L8 t.front (place_of t) h.fine.later h.fine.whole)

      at : (b : Bool) → is_locked p.mems l.mem.name ≡ b
          → (first_stage (releases_memory l.mem.name) [] (places p) ≡ Some (commit_stage (flat p) (mem_of p.mems l.mem.name)))
          ⊎ (commit_stage (flat p) (mem_of p.mems l.mem.name) ≡ length (flat p).stages)
          → t.walk.stage < commit_stage (flat p) (mem_of p.mems l.mem.name)
      at false f r = let k = unlocked l.mem.name there f in let i = inside in omega arith
      at true f (inr r) = let i = inside in omega arith
      at true f (inl r) =
          let k : nat_lt (commit_stage (flat p) (mem_of p.mems l.mem.name)) (next_on (way p env) (stage_after t.front) (places_after p t.front)) ≡ false =
          sym (ap₂ (λ b o. b && is_some_and (λ c. nat_lt c (next_on (way p env) (stage_after t.front) (places_after p t.front))) o) f r) ∙ bound in
          let m = ltb-false _ _ k in
          let i = later in
          omega arith

  module _ (apart : are_apart (places p) ≡ true) (named : list_any (defines_use (OfVariable [])) (places p) ≡ false) where
    -- a delayed read that stands on some path stands before the stage of its memory's releases
    abbrev pub IsEarly : Flat.Stmt → Type 0
    IsEarly z = (x m a : ℕ) → z.op ≡ Flat.DelayedRead x m a → is_dead z.guards ≡ false → z.stage < commit_stage (flat p) m

    -- each delayed read of the source that stands on some path stands before the stage of its memory's releases
    pub all_early : Each IsEarly (flat p).stmts
    all_early = each_stmt p IsEarly (all_map (Told p) (AtSite IsEarly p.mems) one (sites_of p) (all_told p rules apart named))
      where
        fetched : Flat.Op → ℕ
        fetched (Flat.DelayedRead x m a) = m
        fetched _ = 0

        one : (t : Site) → Told p t → AtSite IsEarly p.mems t
        one t h op e x m a f live = at t.stmt refl (e ∙ ap Some f)
          where
            wrong : from_op is_fetch (op_of p.mems t.walk.vars t.stmt) ≡ true
            wrong = ap (from_op is_fetch) (e ∙ ap Some f)

            member : (o : Option Flat.Op) → ℕ
            member None = 0
            member (Some o) = fetched o

            at : (s : Stmt) → t.stmt ≡ s → op_of p.mems t.walk.vars t.stmt ≡ Some (Flat.DelayedRead x m a) → t.walk.stage < commit_stage (flat p) m
            at (DelayedRead sp y l) g i =
                let env = some_path t.gs live in
                subst (λ k. t.walk.stage < commit_stage (flat p) k)
                (ap (λ s. member (op_of p.mems t.walk.vars s)) (sym g) ∙ ap member i)
                (read_early t h.known sp y l g env.0 env.1)
            at (If sp (Variable v) when otherwise) g i = absurd (false≢true (sym (ap (λ s. from_op is_fetch (op_of p.mems t.walk.vars s)) g) ∙ wrong))
            at (If sp c when otherwise) g i = absurd (false≢true (sym (ap (λ s. from_op is_fetch (op_of p.mems t.walk.vars s)) g) ∙ wrong))
            at (Reserve sp l R) g i = absurd (false≢true (sym (ap (λ s. from_op is_fetch (op_of p.mems t.walk.vars s)) g) ∙ wrong))
            at (Reserve sp l W) g i = absurd (false≢true (sym (ap (λ s. from_op is_fetch (op_of p.mems t.walk.vars s)) g) ∙ wrong))
            at (CombRead sp x l) g i =
                absurd
                (false≢true (sym (read_none is_fetch (is_advisory_mem p.mems l.mem.name) (length t.walk.vars) (mem_of p.mems l.mem.name)
                (var_of t.walk.vars l.address.name) refl refl) ∙ (sym (ap (λ s. from_op is_fetch (op_of p.mems t.walk.vars s)) g) ∙ wrong)))
            at (Bind sp x v) g i =
                absurd
                (false≢true (sym (bind_none is_fetch (is_advised t.walk.vars v) (length t.walk.vars) (flat_expr t.walk.vars v) refl refl)
                ∙ (sym (ap (λ s. from_op is_fetch (op_of p.mems t.walk.vars s)) g) ∙ wrong)))
            at (Write sp l v) g i =
                absurd
                (false≢true (sym (write_none is_fetch (is_advisory_mem p.mems l.mem.name) (mem_of p.mems l.mem.name) (var_of t.walk.vars l.address.name)
                (flat_expr t.walk.vars v) refl refl) ∙ (sym (ap (λ s. from_op is_fetch (op_of p.mems t.walk.vars s)) g) ∙ wrong)))
            at s g i = absurd (false≢true (sym (ap (λ s. from_op is_fetch (op_of p.mems t.walk.vars s)) g) ∙ wrong))
