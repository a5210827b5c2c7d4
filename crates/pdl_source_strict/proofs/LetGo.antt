-- After each block of a path stands a release of its location.
use Rattle.std.proofs.Common.{◌≡◌, refl, sym, ap, ◌∙◌, subst, ℕ, ◌⊎◌, inl, inr, Bool, true, false, List, [], ◌∷◌, ◌++◌, map, if◌then◌else◌, Some, bytes_eq, eq-eqb}
use Rattle.std.proofs.lemmas.Bool.{false≢true, and_parts, and_from, or_left, or_right, both_ways, not-false}
use Rattle.pdl_semantics.specs.Tree.{Span, Location, R, W, Stmt, Separator, CombRead, Bind, SpecCall, DelayedRead, Write, Reserve, Block, Release, If, Call, Verify, Update, SpecCheck, SpecBarrier, Variable, Mem, Pipe}
use Rattle.pdl_semantics.specs.Flat
use Rattle.pdl_semantics.specs.Flatten.{Var, var_of, mem_of, is_advisory_mem, is_advised}
use Rattle.pdl_source_stages.proofs.SiteFacts.{either_read, either_bind, either_write}
use Rattle.pdl_semantics.specs.Stages.{list_any}
use Rattle.pdl_semantics.specs.Sound.{is_release_at}
use Rattle.pdl_rules.specs.Places.{Place, Statement, Branch}
use Rattle.pdl_rules.specs.Parts.{location_of}
use Rattle.pdl_rules.specs.Locks
use Rattle.pdl_rules.specs.Locks.{same_location, Hold, Nothing, Reserved, Blocked, Released, after_block, after_place, hold_after, is_reserved, is_unreleased, reserves_location, leaves_open}
use Rattle.pdl_rules.specs.Typed.{is_named}
use Rattle.pdl_rules.proofs.EachPlace.{Each, closing}
use Rattle.pdl_rules.proofs.SingleWrites.{KeepsLocks, any_weaker, held_alike}
use Rattle.pdl_source_stages.proofs.Sites.{Site, place_of, All}
use Rattle.pdl_source_paths.proofs.Numbers.{var_stays}
use Rattle.pdl_source_paths.proofs.PathStatements.{ops_of, seen_ops, seen}
use Rattle.pdl_source_paths.proofs.Growth.{Grown, Grows, grown_more, past_grown, vars_past}
use Rattle.pdl_source_paths.proofs.ReadsKept.{open_reserved, held_more}
use Rattle.pdl_theory_states.specs.Strict.{all_let_go, lets_go}
use Rattle.pdl_word.proofs.Bytes.{bytes_same, bytes_refl}

-- whether one of these statements releases the location of these numbers
abbrev releases_in : ℕ → ℕ → List Flat.Stmt → Bool
releases_in m a xs = list_any (λ (z : Flat.Stmt). is_release_at m a z.op) xs

any_after : (m a : ℕ) (xs ys : List Flat.Stmt) → releases_in m a ys ≡ true → releases_in m a (xs ++ ys) ≡ true
any_after m a [] ys h = h
any_after m a (x ∷ xs) ys h = or_right (is_release_at m a x.op) _ (any_after m a xs ys h)

module _ (p : Pipe) (at : Location) where
  left_open : (before : List Place) → is_unreleased (hold_after at before) ≡ true → (x : Place) → reserves_location at x ≡ true → leaves_open before x ≡ true
  left_open before e (Statement (Reserve sp l k) bs) f = ap is_unreleased (held_alike l at f before) ∙ e
  left_open before e _ f = absurd (false≢true f)

  -- a statement leaves a location open, or releases it
  abbrev ReleasesIt : Stmt → Type 0
  ReleasesIt s = (sp : Span) × (l : Location) × (s ≡ Release sp l) × (same_location l at ≡ true)

  open_or_released : (h : Hold) (s : Stmt) (bs : List Branch) → is_unreleased h ≡ true
      → (is_unreleased (after_place at h (Statement s bs)) ≡ true) ⊎ ReleasesIt s
  open_or_released h (Reserve sp l k) bs e = inl (by (same_location l at))
    where
      by : (b : Bool) → is_unreleased (if b then Reserved k else h) ≡ true
      by true = refl
      by false = e
  open_or_released h (Block sp l) bs e = inl (by (same_location l at))
    where
      blocks : (g : Hold) → is_unreleased g ≡ true → is_unreleased (after_block g) ≡ true
      blocks Nothing i = i
      blocks (Reserved k) i = i
      blocks (Blocked k) i = i
      blocks Released i = i

      by : (b : Bool) → is_unreleased (if b then after_block h else h) ≡ true
      by true = blocks h e
      by false = e
  open_or_released h (Release sp l) bs e = by (same_location l at) refl
    where
      by : (b : Bool) → same_location l at ≡ b → (is_unreleased (if b then Released else h) ≡ true) ⊎ ReleasesIt (Release sp l)
      by true f = inr (sp, l, refl, f)
      by false f = inl e
  open_or_released h _ bs e = inl e

  -- its numbers
  same_names : (l : Location) → same_location l at ≡ true → (l.mem.name ≡ at.mem.name) × (l.address.name ≡ at.address.name)
  same_names l e = let k = and_parts (bytes_eq l.mem.name at.mem.name) (bytes_eq l.address.name at.address.name) e in
      (bytes_same l.mem.name at.mem.name k.0, bytes_same l.address.name at.address.name k.1)

  grown_number : (vs ws : List Var) → is_named vs at.address.name ≡ true → Grown vs ws → var_of ws at.address.name ≡ var_of vs at.address.name
  grown_number vs ws n g = ap (λ l. var_of l at.address.name) g.1 ∙ var_stays vs g.0 at.address.name n

  released_here : (ms : List Mem) (k : ℕ) (vs ws : List Var) (s : Stmt) (rest : List Flat.Stmt)
      → is_named vs at.address.name ≡ true → Grown vs ws → ReleasesIt s
      → releases_in (mem_of ms at.mem.name) (var_of vs at.address.name) (seen_ops k (ops_of ms ws s) ++ rest) ≡ true
  released_here ms k vs ws s rest n g r =
      let names = same_names r.1 r.3 in
      subst (λ s. releases_in (mem_of ms at.mem.name) (var_of vs at.address.name) (seen_ops k (ops_of ms ws s) ++ rest) ≡ true) (sym r.2)
      (or_left _ _
      (and_from _ _ (eq-eqb (mem_of ms r.1.mem.name) (mem_of ms at.mem.name) (ap (mem_of ms) names.0))
      (eq-eqb (var_of ws r.1.address.name) (var_of vs at.address.name) (ap (var_of ws) names.1 ∙ grown_number vs ws n g))))

  -- what is open is released in the end
  released_after : (ms : List Mem) (vs ws us : List Var) (before : List Place) (ts : List Site)
      → is_named vs at.address.name ≡ true → Grown vs ws → Grows ms ws ts us
      → Each (KeepsLocks p) before (map place_of ts ++ closing p) → is_unreleased (hold_after at before) ≡ true
      → releases_in (mem_of ms at.mem.name) (var_of vs at.address.name) (seen ms ts) ≡ true
  released_after ms vs ws us before [] n g gs each e = absurd (both_ways _ each.0.l7 (any_weaker _ _ (left_open before e) before (open_reserved at before e)))
  released_after ms vs ws us before (t ∷ ts) n g gs each e =
      by (open_or_released (hold_after at before) t.stmt t.branches e)
      (λ f. released_after ms vs (vars_past ms t.walk.vars t.stmt) us (before ++ place_of t ∷ []) ts n
      (grown_more vs t.walk.vars (vars_past ms t.walk.vars t.stmt) (grown_more vs ws t.walk.vars g gs.0) (past_grown ms t.walk.vars t.stmt)) gs.1 each.1
      (ap is_unreleased (held_more at before (place_of t)) ∙ f))
    where
      by : (is_unreleased (after_place at (hold_after at before) (place_of t)) ≡ true) ⊎ ReleasesIt t.stmt
          → (is_unreleased (after_place at (hold_after at before) (place_of t)) ≡ true
          → releases_in (mem_of ms at.mem.name) (var_of vs at.address.name) (seen ms ts) ≡ true)
          → releases_in (mem_of ms at.mem.name) (var_of vs at.address.name) (seen_ops t.walk.stage (ops_of ms t.walk.vars t.stmt) ++ seen ms ts) ≡ true
      by (inl f) go = any_after (mem_of ms at.mem.name) (var_of vs at.address.name) (seen_ops t.walk.stage (ops_of ms t.walk.vars t.stmt)) (seen ms ts) (go f)
      by (inr f) go = released_here ms t.walk.stage vs t.walk.vars t.stmt (seen ms ts) n (grown_more vs ws t.walk.vars g gs.0) f

  -- a block leaves its location open
  open_after : (before : List Place) (sp : Span) (bs : List Branch)
      → Locks.lacks_hold p before (Statement (Block sp at) bs) ≡ false
      → is_unreleased (hold_after at (before ++ Statement (Block sp at) bs ∷ [])) ≡ true
  open_after before sp bs h =
      ap is_unreleased (held_more at before (Statement (Block sp at) bs))
      ∙ ap (λ b. is_unreleased (if b then after_block (hold_after at before) else hold_after at before))
      (and_from _ _ (bytes_refl at.mem.name) (bytes_refl at.address.name))
      ∙ by (hold_after at before) (not-false _ h)
    where
      by : (g : Hold) → is_reserved g ≡ true → is_unreleased (after_block g) ≡ true
      by Nothing i = absurd (false≢true i)
      by (Reserved k) i = refl
      by (Blocked k) i = absurd (false≢true i)
      by Released i = absurd (false≢true i)

-- A PATH

-- after each block of these sites stands a release of its location, where they keep the rules on locks
pub sites_let_go : (p : Pipe) (ms : List Mem) (vs us : List Var) (before : List Place) (ts : List Site)
    → Grows ms vs ts us → Each (KeepsLocks p) before (map place_of ts ++ closing p)
    → All (λ t. (at : Location) → location_of t.stmt ≡ Some at → is_named t.walk.vars at.address.name ≡ true) ts
    → all_let_go (seen ms ts) ≡ true
sites_let_go p ms vs us before [] g each named = refl
sites_let_go p ms vs us before (t ∷ ts) g each named =
    here t.stmt refl (sites_let_go p ms (vars_past ms t.walk.vars t.stmt) us (before ++ place_of t ∷ []) ts g.1 each.1 named.1)
  where
    block : (sp : Span) (at : Location) → t.stmt ≡ Block sp at
        → lets_go (Flat.Block (mem_of ms at.mem.name) (var_of t.walk.vars at.address.name)) (seen ms ts) ≡ true
    block sp at e =
        released_after p at ms t.walk.vars (vars_past ms t.walk.vars t.stmt) us (before ++ place_of t ∷ []) ts (named.0 at (ap location_of e))
        (past_grown ms t.walk.vars t.stmt) g.1 each.1
        (subst (λ s. is_unreleased (hold_after at (before ++ Statement s t.branches ∷ [])) ≡ true) (sym e)
        (open_after p at before sp t.branches (subst (λ s. Locks.lacks_hold p before (Statement s t.branches) ≡ false) e each.0.l1)))

    here : (s : Stmt) → t.stmt ≡ s → all_let_go (seen ms ts) ≡ true → all_let_go (seen_ops t.walk.stage (ops_of ms t.walk.vars s) ++ seen ms ts) ≡ true
    here (Block sp at) e rest = and_from _ _ (block sp at e) rest
    here (Separator sp) e rest = rest
    here (CombRead sp x from) e rest =
        either_read (λ op. all_let_go (seen_ops t.walk.stage (op ∷ []) ++ seen ms ts) ≡ true) (is_advisory_mem ms from.mem.name) _ _ _ rest rest
    here (Bind sp x v) e rest = either_bind (λ op. all_let_go (seen_ops t.walk.stage (op ∷ []) ++ seen ms ts) ≡ true) (is_advised t.walk.vars v) _ _ rest rest
    here (SpecCall sp x args) e rest = rest
    here (DelayedRead sp x from) e rest = rest
    here (Write sp to v) e rest =
        either_write (λ op. all_let_go (seen_ops t.walk.stage (op ∷ []) ++ seen ms ts) ≡ true) (is_advisory_mem ms to.mem.name) _ _ _ rest rest
    here (Reserve sp at R) e rest = rest
    here (Reserve sp at W) e rest = rest
    here (Release sp at) e rest = rest
    here (If sp (Variable x) when otherwise) e rest = rest
    here (If sp c when otherwise) e rest = rest
    here (Call sp args) e rest = rest
    here (Verify sp x args) e rest = rest
    here (Update sp x args) e rest = rest
    here (SpecCheck sp) e rest = rest
    here (SpecBarrier sp) e rest = rest
