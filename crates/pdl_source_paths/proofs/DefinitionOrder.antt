-- Along a path: what is defined stands no later than a place after its definition, and a delayed read that is given there in an earlier stage.
use Rattle.std.proofs.Common.{◌≡◌, refl, sym, ap, ◌∙◌, subst, ℕ, suc, ◌≤◌, ◌<◌, ◌⊎◌, inl, inr, Bool, true, false, ◌||◌, List, [], ◌∷◌, ◌++◌, filter, if◌then◌else◌, arith, ⊎_elim}
use Rattle.std.proofs.lemmas.Bool.{false≢true, or_cases, both_ways}
use Rattle.std.proofs.lemmas.List.Folds.{list_any-append}
use Rattle.std.specs.List.{list_any}
use Rattle.pdl_rules.specs.Places.{Place, Guard, on_path}
use Rattle.pdl_rules.specs.Limits.{is_separator}
use Rattle.pdl_rules.specs.Names.{is_delayed}
use Rattle.pdl_source_stages.proofs.Sites.{Site, place_of, All}
use Rattle.pdl_source_paths.proofs.PathStatements.{on_sites}
use Rattle.pdl_source_paths.proofs.Order.{Next, Rises}
use Rattle.pdl_source_paths.proofs.Walk.{OnPath}

-- a site that is found is the site y
abbrev pub IsIt : (Place → Bool) → Site → Site → Type 0
IsIt def y x = def (place_of x) ≡ true → (x.walk.stage ≡ y.walk.stage) × (place_of x ≡ place_of y)

-- what these places have before them: y if they define it, in an earlier stage if they give it and y reads delayed
abbrev pub Came : List Guard → (Place → Bool) → (List Place → Bool) → Site → ℕ → List Place → Type 0
Came c def given y k earlier =
    (list_any def earlier ≡ true → (y.walk.stage ≤ k) × (on_path c (place_of y) ≡ true))
    × (given earlier ≡ true → is_delayed (place_of y) ≡ true → y.walk.stage < k)

-- what is given with one place more was given before, or is cut off by a separator after a place that defines it, or is defined without delay
abbrev pub Gives : (Place → Bool) → (List Place → Bool) → Type 0
Gives def given =
    (earlier : List Place) (x : Place) → given (earlier ++ x ∷ []) ≡ true
    → (given earlier ≡ true) ⊎ (((is_separator x ≡ true) × (list_any def earlier ≡ true)) ⊎ ((def x ≡ true) × (is_delayed x ≡ false)))

module _ (c : List Guard) (def : Place → Bool) (given : List Place → Bool) (y : Site)
    (cuts : (x : Place) → is_separator x ≡ true → def x ≡ false) (gives : Gives def given) where
  push : (earlier : List Place) (x : Place) → list_any def (earlier ++ x ∷ []) ≡ true → (list_any def earlier ≡ true) ⊎ (def x ≡ true)
  push earlier x e =
      ⊎_elim (λ t. inl t) (λ t. ⊎_elim (λ u. inr u) (λ u. absurd (false≢true u)) (or_cases (def x) false t))
      (or_cases (list_any def earlier) (def x || false) (sym (list_any-append def earlier (x ∷ [])) ∙ e))

  after_cut : (k : ℕ) (earlier : List Place) (x : Place) → is_separator x ≡ true → Came c def given y k earlier → Came c def given y (suc k) (earlier ++ x ∷ [])
  after_cut k earlier x e h = (
    λ f. ⊎_elim (λ t. let r = h.0 t in ((let l : y.walk.stage ≤ k = r.0 in omega arith), r.1))
        (λ t. absurd (both_ways (def x) (cuts x e) t)) (push earlier x f),
    λ f d.
        by (gives earlier x f) d,
  )
    where
      by : (given earlier ≡ true) ⊎ (((is_separator x ≡ true) × (list_any def earlier ≡ true)) ⊎ ((def x ≡ true) × (is_delayed x ≡ false)))
          → is_delayed (place_of y) ≡ true → y.walk.stage < suc k
      by (inl t) d = let l = h.1 t d in omega arith
      by (inr (inl t)) d = let l = (h.0 t.1).0 in omega arith
      by (inr (inr t)) d = absurd (both_ways (def x) (cuts x e) t.0)

  later : (k s : ℕ) (earlier : List Place) → k ≤ s → Came c def given y k earlier → Came c def given y s earlier
  later k s earlier low h = ((λ f. let r = h.0 f in ((let l : y.walk.stage ≤ k = r.0 in omega arith), r.1)), λ f d. let l = h.1 f d in omega arith)

  after_one : (k : ℕ) (earlier : List Place) (t : Site) → k ≤ t.walk.stage → is_separator (place_of t) ≡ false
      → on_path c (place_of t) ≡ true → IsIt def y t → Came c def given y k earlier
      → Came c def given y t.walk.stage (earlier ++ place_of t ∷ [])
  after_one k earlier t low e on it h = (
    λ f. ⊎_elim (λ u. (later k t.walk.stage earlier low h).0 u)
        (λ u. let i = it u in ((let j : t.walk.stage ≡ y.walk.stage = i.0 in omega arith), ap (on_path c) (sym i.1) ∙ on))
        (push earlier (place_of t) f),
    λ f d. by (gives earlier (place_of t) f) d,
  )
    where
      by : (given earlier ≡ true)
          ⊎ (((is_separator (place_of t) ≡ true) × (list_any def earlier ≡ true)) ⊎ ((def (place_of t) ≡ true) × (is_delayed (place_of t) ≡ false)))
          → is_delayed (place_of y) ≡ true → y.walk.stage < t.walk.stage
      by (inl u) d = let l = h.1 u d in omega arith
      by (inr (inl u)) d = absurd (false≢true (sym e ∙ u.0))
      by (inr (inr u)) d = absurd (false≢true (sym u.1 ∙ ap is_delayed (it u.0).1 ∙ d))

  -- at each site on a path but separators, y stands no later if defined before, and earlier if it is a delayed read that is given
  pub came_along : (k end : ℕ) (earlier : List Place) (ts : List Site) → Rises k ts end → OnPath c earlier ts
      → All (IsIt def y) ts → Came c def given y k earlier
      → All (λ t. is_separator (place_of t) ≡ false → Came c def given y t.walk.stage (filter (on_path c) t.front)) ts
  came_along k end earlier [] r on it h = tt
  came_along k end earlier (t ∷ ts) r on it h =
      at (is_separator (place_of t)) refl r (λ n rise came. came_along n end (earlier ++ place_of t ∷ []) ts rise on.2 it.1 came)
    where
      at : (b : Bool) → is_separator (place_of t) ≡ b → Next b k t.walk.stage (λ n. Rises n ts end)
          → ((n : ℕ) → Rises n ts end → Came c def given y n (earlier ++ place_of t ∷ [])
          → All (λ t. is_separator (place_of t) ≡ false → Came c def given y t.walk.stage (filter (on_path c) t.front)) ts)
          → All (λ t. is_separator (place_of t) ≡ false → Came c def given y t.walk.stage (filter (on_path c) t.front)) (t ∷ ts)
      at true e j go = ((λ f. absurd (false≢true (sym f ∙ e))), go (suc k) j (after_cut k earlier (place_of t) e h))
      at false e j go = (
        (λ f. subst (Came c def given y t.walk.stage) (sym on.0) (later k t.walk.stage earlier j.0 h)),
        go t.walk.stage j.1 (after_one k earlier t j.0 e on.1 it.0 h),
      )

-- of the sites of a text those on the path
pub off_path : (P : Site → Type 0) (c : List Guard) (ts : List Site) → All P (on_sites c ts)
    → All (λ t. on_path c (place_of t) ≡ true → P t) ts
off_path P c [] h = tt
off_path P c (t ∷ ts) h = at (on_path c (place_of t)) refl h (off_path P c ts)
  where
    at : (b : Bool) → on_path c (place_of t) ≡ b → All P (if b then t ∷ on_sites c ts else on_sites c ts)
        → (All P (on_sites c ts) → All (λ t. on_path c (place_of t) ≡ true → P t) ts)
        → All (λ t. on_path c (place_of t) ≡ true → P t) (t ∷ ts)
    at true e k go = ((λ f. k.0), go k.1)
    at false e k go = ((λ f. absurd (false≢true (sym e ∙ f))), go k)
