-- On a path a location that is blocked to be read is released after, so no read of a lock stands after the releases.
use Rattle.std.proofs.Common.{◌≡◌, refl, sym, ap, ◌∙◌, subst, ℕ, suc, ◌≤◌, ◌⊎◌, inl, inr, Bool, true, false, ◌&&◌, not, List, [], ◌∷◌, ◌++◌, map, if◌then◌else◌, Some, None, arith}
use Rattle.std.proofs.lemmas.Bool.{false≢true, and_parts, both_ways, not-false}
use Rattle.pdl_semantics.specs.Tree.{Location, R, Stmt, Separator, CombRead, DelayedRead, Reserve, Block, Release, Pipe}
use Rattle.pdl_rules.specs.Places.{Place, Statement, Branch}
use Rattle.pdl_rules.specs.Limits.{is_separator}
use Rattle.pdl_rules.specs.Locks
use Rattle.pdl_rules.specs.Locks.{is_locked, same_location, Hold, Nothing, Reserved, Blocked, Released, after_block, after_place, hold_after, is_blocked_for, is_unreleased, reserves_location, leaves_open}
use Rattle.pdl_rules.specs.Stages.{releases_memory}
use Rattle.pdl_rules.proofs.EachPlace.{Each, closing}
use Rattle.pdl_rules.proofs.SingleWrites.{KeepsLocks, any_weaker, held_alike}
use Rattle.pdl_source_stages.proofs.Sites.{Site, place_of, All}
use Rattle.pdl_source_paths.proofs.Order.{Next, Rises}
use Rattle.pdl_source_paths.proofs.ReadsKept.{open_reserved, read_open, held_more, reads_at}

module _ (p : Pipe) (l : Location) where
  left_open : (before : List Place) → is_unreleased (hold_after l before) ≡ true → (x : Place) → reserves_location l x ≡ true → leaves_open before x ≡ true
  left_open before e (Statement (Reserve sp at k) bs) f = ap is_unreleased (held_alike at l f before) ∙ e
  left_open before e _ f = absurd (false≢true f)

  -- a statement leaves it open, or releases its memory
  still_open : (h : Hold) (s : Stmt) (bs : List Branch) → is_unreleased h ≡ true
      → (is_unreleased (after_place l h (Statement s bs)) ≡ true)
      ⊎ ((releases_memory l.mem.name (Statement s bs) ≡ true) × (is_separator (Statement s bs) ≡ false))
  still_open h (Reserve sp at k) bs e = inl (by (same_location at l))
    where
      by : (b : Bool) → is_unreleased (if b then Reserved k else h) ≡ true
      by true = refl
      by false = e
  still_open h (Block sp at) bs e = inl (by (same_location at l))
    where
      blocks : (g : Hold) → is_unreleased g ≡ true → is_unreleased (after_block g) ≡ true
      blocks Nothing i = i
      blocks (Reserved k) i = i
      blocks (Blocked k) i = i
      blocks Released i = i

      by : (b : Bool) → is_unreleased (if b then after_block h else h) ≡ true
      by true = blocks h e
      by false = e
  still_open h (Release sp at) bs e = by (same_location at l) refl
    where
      by : (b : Bool) → same_location at l ≡ b
          → (is_unreleased (if b then Released else h) ≡ true) ⊎ ((releases_memory l.mem.name (Statement (Release sp at) bs) ≡ true) × (false ≡ false))
      by true f = inr ((and_parts _ _ f).0, refl)
      by false f = inl e
  still_open h _ bs e = inl e

  -- where a location isn't released yet on a path, the releases of its memory stand no earlier than the stage that the path is in
  pub released_after : (commit k end : ℕ) (before : List Place) (ts : List Site) → Rises k ts end
      → Each (KeepsLocks p) before (map place_of ts ++ closing p) → is_unreleased (hold_after l before) ≡ true
      → All (λ t. releases_memory l.mem.name (place_of t) ≡ true → t.walk.stage ≡ commit) ts → k ≤ commit
  released_after commit k end before [] r each e h = absurd (both_ways _ each.0.l7 (any_weaker _ _ (left_open before e) before (open_reserved l before e)))
  released_after commit k end before (t ∷ ts) r each e h =
      at (still_open (hold_after l before) t.stmt t.branches e)
      (is_separator (place_of t)) refl r (λ n rise f. released_after commit n end (before ++ place_of t ∷ []) ts rise each.1 f h.1)
    where
      low : (b : Bool) → is_separator (place_of t) ≡ b → Next b k t.walk.stage (λ n. Rises n ts end) → is_separator (place_of t) ≡ false → k ≤ t.walk.stage
      low true f rise g = absurd (false≢true (sym g ∙ f))
      low false f rise g = rise.0

      at : (is_unreleased (after_place l (hold_after l before) (place_of t)) ≡ true)
          ⊎ ((releases_memory l.mem.name (place_of t) ≡ true) × (is_separator (place_of t) ≡ false))
          → (b : Bool) → is_separator (place_of t) ≡ b → Next b k t.walk.stage (λ n. Rises n ts end)
          → ((n : ℕ) → Rises n ts end → is_unreleased (hold_after l (before ++ place_of t ∷ [])) ≡ true → n ≤ commit) → k ≤ commit
      at (inl f) true g rise go = let i = go (suc k) rise (ap is_unreleased (held_more l before (place_of t)) ∙ f) in omega arith
      at (inl f) false g rise go = let i = go t.walk.stage rise.1 (ap is_unreleased (held_more l before (place_of t)) ∙ f) in let j = rise.0 in omega arith
      at (inr f) b g rise go = let i = h.0 f.0 in let j = low b g rise f.1 in omega arith

-- no read on a path stands after the releases
pub late_along : (p : Pipe) (commit : List ℕ → ℕ) (k end : ℕ) (before : List Place) (ts : List Site) → Rises k ts end
    → Each (KeepsLocks p) before (map place_of ts ++ closing p)
    → ((m : List ℕ) → All (λ t. releases_memory m (place_of t) ≡ true → t.walk.stage ≡ commit m) ts)
    → All (λ t. (at : Location) → reads_at t.stmt ≡ Some at → is_locked p.mems at.mem.name ≡ true → t.walk.stage ≤ commit at.mem.name) ts
late_along p commit k end before [] r each h = tt
late_along p commit k end before (t ∷ ts) r each h =
    by (is_separator (place_of t)) refl r (λ n rise. late_along p commit n end (before ++ place_of t ∷ []) ts rise each.1 (λ m. (h m).1))
  where
    one : {a b : Location} → Some a ≡ Some b → a ≡ b
    one z = cc z

    open_there : (at : Location) → reads_at t.stmt ≡ Some at → is_locked p.mems at.mem.name ≡ true
        → (is_unreleased (hold_after at (before ++ place_of t ∷ [])) ≡ true)
    open_there at e lock = of_stmt t.stmt refl e
      where
        opened : (m : Location) → m ≡ at
            → (is_locked p.mems m.mem.name && not (is_blocked_for R (hold_after m before))) ≡ false
            → is_unreleased (hold_after at before) ≡ true
        opened m i f =
            subst
            (λ n. is_locked p.mems n.mem.name ≡ true
            → (is_locked p.mems n.mem.name && not (is_blocked_for R (hold_after n before))) ≡ false
            → is_unreleased (hold_after n before) ≡ true) i
            (λ j g. read_open _ (not-false _ (sym (ap (λ b. b && not (is_blocked_for R (hold_after m before))) j) ∙ g))) lock
            (subst (λ n. (is_locked p.mems n.mem.name && not (is_blocked_for R (hold_after n before))) ≡ false) i f)

        of_stmt : (s : Stmt) → t.stmt ≡ s → reads_at s ≡ Some at → is_unreleased (hold_after at (before ++ place_of t ∷ [])) ≡ true
        of_stmt (CombRead sp x m) i f =
            ap is_unreleased (held_more at before (place_of t) ∙ ap (λ s. after_place at (hold_after at before) (Statement s t.branches)) i)
            ∙ opened m (one f) (ap (λ s. Locks.lacks_hold p before (Statement s t.branches)) (sym i) ∙ each.0.l1)
        of_stmt (DelayedRead sp x m) i f =
            ap is_unreleased (held_more at before (place_of t) ∙ ap (λ s. after_place at (hold_after at before) (Statement s t.branches)) i)
            ∙ opened m (one f) (ap (λ s. Locks.lacks_hold p before (Statement s t.branches)) (sym i) ∙ each.0.l1)
        of_stmt _ i f = absurd (nothing f)
          where
            nothing : None ≡ Some at → ⊥
            nothing z = cc z

    no_cut : (at : Location) → reads_at t.stmt ≡ Some at → is_separator (place_of t) ≡ true → ⊥
    no_cut at e f = of_stmt t.stmt e f
      where
        of_stmt : (s : Stmt) → reads_at s ≡ Some at → is_separator (Statement s t.branches) ≡ true → ⊥
        of_stmt (Separator sp) i g = nothing i
          where
            nothing : None ≡ Some at → ⊥
            nothing z = cc z
        of_stmt _ i g = false≢true g

    by : (b : Bool) → is_separator (place_of t) ≡ b → Next b k t.walk.stage (λ n. Rises n ts end)
        → ((n : ℕ) → Rises n ts end
        → All (λ u. (at : Location) → reads_at u.stmt ≡ Some at → is_locked p.mems at.mem.name ≡ true → u.walk.stage ≤ commit at.mem.name) ts)
        → All (λ u. (at : Location) → reads_at u.stmt ≡ Some at → is_locked p.mems at.mem.name ≡ true → u.walk.stage ≤ commit at.mem.name) (t ∷ ts)
    by true f rise go = ((λ at e lock. absurd (no_cut at e f)), go (suc k) rise)
    by false f rise go = (
      (λ at e lock. released_after p at (commit at.mem.name) t.walk.stage end (before ++ place_of t ∷ []) ts rise.1 each.1 (open_there at e lock)
          (h at.mem.name).1),
      go t.walk.stage rise.1,
    )
