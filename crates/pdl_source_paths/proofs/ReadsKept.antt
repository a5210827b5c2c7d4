-- On each path of a source that breaks no rule, each read of a lock was blocked for reading, and no address of it is bound again.
use Rattle.std.proofs.Common.{◌≡◌, refl, sym, ap, ap₂, ◌∙◌, subst, ℕ, suc, ◌<◌, ◌≤◌, Bool, true, false, ◌&&◌, ◌||◌, not, List, [], ◌∷◌, ◌++◌, length, fold, if◌then◌else◌, nat_le, ◌==◌, bytes_eq, arith, ◌⊎◌, inl, inr, ⊎_elim, eq-eqb, le-leb, length-append, append-nil, Option, Some, None}
use Rattle.std.proofs.lemmas.Bool.{false≢true, and_parts, and_from, or_parts, or_cases, or_left, or_right, eqb-true, ne_eqb, not-false, both_ways, cases_Bool}
use Rattle.std.proofs.lemmas.List.Folds.{list_any-append}
use Rattle.std.specs.List.{list_any}
use Rattle.std.proofs.lemmas.List.Sums.{fold_push}
use mathlib.Core.Path.{fun_ext}
use Rattle.pdl_semantics.specs.Tree.{Span, Expr, Variable, Location, Kind, R, W, Stmt, Separator, CombRead, Bind, SpecCall, DelayedRead, Write, Reserve, Block, Release, If, Call, Verify, Update, SpecCheck, SpecBarrier, Mem, Pipe}
use Rattle.pdl_semantics.specs.Flat
use Rattle.pdl_semantics.specs.Flatten.{Var, var_of, mem_of, flat_expr, is_advisory_mem, is_advised}
use Rattle.pdl_source_stages.proofs.SiteFacts.{either_read, either_bind, either_write}
use Rattle.pdl_semantics.specs.Stages.{mem_at, reserve_stage, commit_stage}
use Rattle.pdl_rules.specs.Places.{Place, Statement, Branch}
use Rattle.pdl_rules.specs.Locks.{is_locked, same_location, same_kind, Hold, Nothing, Reserved, Blocked, Released, after_block, after_place, hold_after, is_reserved, is_blocked_for, is_held_for, is_unreleased, reserves_location}
use Rattle.pdl_rules.specs.Parts.{location_of}
use Rattle.pdl_rules.specs.Stages.{reserves_memory}
use Rattle.pdl_rules.specs.Typed.{is_named, is_memory}
use Rattle.pdl_rules.proofs.SingleWrites.{KeepsLocks, any_weaker, any_front, any_last, held_alike, reserves_to_write, reserves_some, reserves_alike}
use Rattle.pdl_rules.proofs.KnownVariables.{any_split}
use Rattle.pdl_theory_turns.specs.Alone
use Rattle.pdl_theory_turns.specs.Alone.{answered_op}
use Rattle.pdl_theory_turns.specs.Scans.{is_plain, is_address, has_location, Scan, scan_after, op_ok, reads_ok}
use Rattle.pdl_source_paths.proofs.Numbers.{var_low, var_same, var_stays, mem_same}
use Rattle.pdl_source_paths.proofs.PathStatements
use Rattle.pdl_source_paths.proofs.PathStatements.{ops_of, seen_ops}
use Rattle.pdl_source_paths.proofs.Variables.{IsNamed}
use Rattle.pdl_source_paths.proofs.Growth
use Rattle.pdl_source_paths.proofs.Growth.{vars_past, Grown}
use Rattle.pdl_word.proofs.Bytes.{bytes_same, bytes_refl}

-- LOCATIONS

-- the numbers of a location
abbrev pub numbered : List Mem → List Var → Location → Alone.Location
numbered ms vs l = record { mem = mem_of ms l.mem.name; var = var_of vs l.address.name }

-- locations of the same numbers are the same
pub same_numbers : (ms : List Mem) (vs : List Var) (a b : Location) → IsNamed ms vs a → IsNamed ms vs b
    → ((mem_of ms a.mem.name == mem_of ms b.mem.name) && (var_of vs a.address.name == var_of vs b.address.name)) ≡ true
    → same_location a b ≡ true
same_numbers ms vs a b h k e =
    let parts = and_parts (mem_of ms a.mem.name == mem_of ms b.mem.name) _ e in
    let m = mem_same ms a.mem.name b.mem.name h.0 k.0 (eqb-true _ _ parts.0) in
    let x = var_same vs a.address.name b.address.name h.1 k.1 (eqb-true _ _ parts.1) in
    and_from _ _ (subst (λ n. bytes_eq a.mem.name n ≡ true) m (bytes_refl a.mem.name))
    (subst (λ n. bytes_eq a.address.name n ≡ true) x (bytes_refl a.address.name))

-- and the same locations have the same numbers
numbers_same : (ms : List Mem) (vs : List Var) (a b : Location) → same_location a b ≡ true
    → ((mem_of ms a.mem.name == mem_of ms b.mem.name) && (var_of vs a.address.name == var_of vs b.address.name)) ≡ true
numbers_same ms vs a b e =
    let parts = and_parts (bytes_eq a.mem.name b.mem.name) _ e in
    and_from _ _ (eq-eqb _ _ (ap (mem_of ms) (bytes_same _ _ parts.0))) (eq-eqb _ _ (ap (var_of vs) (bytes_same _ _ parts.1)))

-- the address of an opened location is used
opened_uses : (ls : List Alone.Location) (m x : ℕ) → has_location ls m x ≡ true → is_address ls x ≡ true
opened_uses [] m x h = absurd (false≢true h)
opened_uses (l ∷ ls) m x h =
    ⊎_elim
    (λ e. or_left (l.var == x) (is_address ls x) (and_parts (l.mem == m) (l.var == x) e).1)
    (λ e. or_right (l.var == x) (is_address ls x) (opened_uses ls m x e))
    (or_cases ((l.mem == m) && (l.var == x)) (has_location ls m x) h)

-- what is open of a location was reserved
unreserved : (l : Location) (xs : List Place) (h : Hold)
    → is_unreleased h ≡ false → list_any (reserves_location l) xs ≡ false
    → is_unreleased (fold (after_place l) h xs) ≡ false
unreserved l [] h e f = e
unreserved l (x ∷ xs) h e f = let parts = or_parts (reserves_location l x) (list_any (reserves_location l) xs) f in
    unreserved l xs (after_place l h x) (here x parts.0) parts.1
  where
    still : (b : Bool) (g : Hold) → is_unreleased g ≡ false → is_unreleased h ≡ false → is_unreleased (if b then g else h) ≡ false
    still true g i j = i
    still false g i j = j

    blocks : (g : Hold) → is_unreleased g ≡ false → is_unreleased (after_block g) ≡ false
    blocks Nothing i = i
    blocks (Reserved k) i = i
    blocks (Blocked k) i = i
    blocks Released i = i

    here : (y : Place) → reserves_location l y ≡ false → is_unreleased (after_place l h y) ≡ false
    here (Statement (Reserve s at k) bs) i = ap (λ b. is_unreleased (if b then Reserved k else h)) i ∙ e
    here (Statement (Block s at) bs) i = still (same_location at l) (after_block h) (blocks h e) e
    here (Statement (Release s at) bs) i = still (same_location at l) Released refl e
    here _ i = e

-- a location that is unreleased after some places was reserved by one of them
pub open_reserved : (l : Location) (xs : List Place) → is_unreleased (hold_after l xs) ≡ true → list_any (reserves_location l) xs ≡ true
open_reserved l xs e = ⊎_elim (λ t. t) (λ t. absurd (both_ways _ (unreserved l xs Nothing refl t) e)) (cases_Bool (list_any (reserves_location l) xs))

-- a location that is blocked for reading is unreleased
pub read_open : (h : Hold) → is_blocked_for R h ≡ true → is_unreleased h ≡ true
read_open Nothing e = absurd (false≢true e)
read_open (Reserved k) e = refl
read_open (Blocked k) e = refl
read_open Released e = absurd (false≢true e)

-- a location that is reserved is unreleased
pub reserved_open : (h : Hold) → is_reserved h ≡ true → is_unreleased h ≡ true
reserved_open Nothing e = absurd (false≢true e)
reserved_open (Reserved k) e = refl
reserved_open (Blocked k) e = absurd (false≢true e)
reserved_open Released e = absurd (false≢true e)

-- what reserves a location reserves its memory
pub of_memory : (l : Location) (x : Place) → reserves_location l x ≡ true → reserves_memory l.mem.name x ≡ true
of_memory l (Statement (Reserve s at k) bs) e = (and_parts (bytes_eq at.mem.name l.mem.name) _ e).0
of_memory l _ e = absurd (false≢true e)

-- a name that isn't there yet gets a number after the others
var_high : (vs us : List Var) (x : List ℕ) → is_named vs x ≡ false → length vs ≤ var_of (vs ++ us) x
var_high [] us x h = omega arith
var_high (v ∷ vs) us x h =
    let parts = or_parts (bytes_eq v.name x) (is_named vs x) h in
    let i : length vs ≤ var_of (vs ++ us) x = var_high vs us x parts.1 in
    subst (λ b. suc (length vs) ≤ (if b then 0 else suc (var_of (vs ++ us) x))) (sym parts.0)
    (let j : suc (length vs) ≤ suc (var_of (vs ++ us) x) = omega arith in j)

-- THE SCAN

-- the locations of a scan are those that these places reserved and blocked
pub record Scanned (p : Pipe) (vs : List Var) (before : List Place) (c : Scan) : Type 0 where
  pub held_low : (x : ℕ) → length vs ≤ x → is_address c.held x ≡ false
  pub blocked_low : (x : ℕ) → length vs ≤ x → is_address c.blocked x ≡ false
  pub held_is : (l : Location) → IsNamed p.mems vs l
      → has_location c.held (mem_of p.mems l.mem.name) (var_of vs l.address.name) ≡ true
      → list_any (reserves_to_write l) before ≡ true
  pub blocked_is : (l : Location) → is_blocked_for R (hold_after l before) ≡ true
      → has_location c.blocked (mem_of p.mems l.mem.name) (var_of vs l.address.name) ≡ true
  pub kinds : (l : Location) → list_any (reserves_to_write l) before ≡ true → is_held_for R (hold_after l before) ≡ false
  pub named : (l : Location) → list_any (reserves_location l) before ≡ true → is_named vs l.address.name ≡ true

-- the empty scan is that of places none of which reserves anything
pub none_scanned : (p : Pipe) (vs : List Var) (before : List Place)
    → ((l : Location) → list_any (reserves_location l) before ≡ false)
    → ((l : Location) → list_any (reserves_to_write l) before ≡ false)
    → Scanned p vs before (record { held = []; blocked = [] })
none_scanned p vs before none nor = record {
  held_low = λ x h. refl;
  blocked_low = λ x h. refl;
  held_is = λ l h e. absurd (false≢true e);
  blocked_is = λ l e. absurd (both_ways _ (none l) (open_reserved l before (read_open _ e)));
  kinds = λ l e. absurd (both_ways _ (nor l) e);
  named = λ l e. absurd (both_ways _ (none l) e);
}

-- a statement that reserves, blocks and releases nothing, with variables added
plain_next : (p : Pipe) (vs us : List Var) (before : List Place) (x : Place) (c : Scan)
    → ((l : Location) (h : Hold) → after_place l h x ≡ h) → ((l : Location) → reserves_location l x ≡ false)
    → ((l : Location) → reserves_to_write l x ≡ false) → Scanned p vs before c
    → Scanned p (vs ++ us) (before ++ x ∷ []) c
plain_next p vs us before x c same none nor k = record {
  held_low = λ y h. k.held_low y (longer y h);
  blocked_low = λ y h. k.blocked_low y (longer y h);
  held_is = λ l h e. ⊎_elim
      (λ t. any_front (reserves_to_write l) before x
      (k.held_is l (h.0, t) (subst (λ n. has_location c.held (mem_of p.mems l.mem.name) n ≡ true) (var_stays vs us l.address.name t) e)))
      (λ t. absurd (both_ways _ (k.held_low _ (var_high vs us l.address.name t)) (opened_uses c.held _ _ e)))
      (cases_Bool (is_named vs l.address.name));
  blocked_is = λ l e.
      let e' : is_blocked_for R (hold_after l before) ≡ true =
      sym (ap (is_blocked_for R) (fold_push (after_place l) Nothing before x ∙ same l (hold_after l before))) ∙ e in
      subst (λ n. has_location c.blocked (mem_of p.mems l.mem.name) n ≡ true)
      (sym (var_stays vs us l.address.name (k.named l (open_reserved l before (read_open _ e')))))
      (k.blocked_is l e');
  kinds =
      λ l e. ap (is_held_for R) (fold_push (after_place l) Nothing before x ∙ same l (hold_after l before))
      ∙ k.kinds l (before_it (reserves_to_write l) (nor l) e);
  named = λ l e. more l.address.name (k.named l (before_it (reserves_location l) (none l) e));
}
  where
    longer : (y : ℕ) → length (vs ++ us) ≤ y → length vs ≤ y
    longer y h = let e = length-append vs us in omega arith

    before_it : (test : Place → Bool) → test x ≡ false → list_any test (before ++ x ∷ []) ≡ true → list_any test before ≡ true
    before_it test f e = ⊎_elim (λ t. t) (λ t. absurd (both_ways _ f t)) (any_split test before x e)

    more : (y : List ℕ) → is_named vs y ≡ true → is_named (vs ++ us) y ≡ true
    more y e = list_any-append _ vs us ∙ or_left (is_named vs y) _ e

same_next : (p : Pipe) (vs : List Var) (before : List Place) (x : Place) (c : Scan)
    → ((l : Location) (h : Hold) → after_place l h x ≡ h) → ((l : Location) → reserves_location l x ≡ false)
    → ((l : Location) → reserves_to_write l x ≡ false) → Scanned p vs before c → Scanned p vs (before ++ x ∷ []) c
same_next p vs before x c same none nor k = subst (λ us. Scanned p us (before ++ x ∷ []) c) (append-nil vs) (plain_next p vs [] before x c same none nor k)

-- what a statement holds of a location, where it is of this one or not
pub held_more : (l : Location) (before : List Place) (x : Place) → hold_after l (before ++ x ∷ []) ≡ after_place l (hold_after l before) x
held_more l before x = fold_push (after_place l) Nothing before x

module _ (p : Pipe) (vs : List Var) (before : List Place) (c : Scan) (s : Span) (at : Location) (bs : List Branch)
    (there : IsNamed p.mems vs at) (k : Scanned p vs before c) where
  abbrev m0 : ℕ
  m0 = mem_of p.mems at.mem.name

  name_of : (l : Location) → same_location at l ≡ true → is_named vs l.address.name ≡ true
  name_of l e = subst (λ n. is_named vs n ≡ true) (bytes_same _ _ (and_parts (bytes_eq at.mem.name l.mem.name) _ e).1) there.1

  -- a location that was reserved to be written is not reserved again
  not_again : (kind : Kind) → KeepsLocks p before (Statement (Reserve s at kind) bs) → (l : Location)
      → same_location at l ≡ true → list_any (reserves_to_write l) before ≡ true → ⊥
  not_again kind keeps l e r =
      both_ways _ keeps.l5 (ap (λ f. list_any f before) (fun_ext (reserves_alike at l e)) ∙ any_weaker _ _ (reserves_some l) before r)

  module _ (kind : Kind) (keeps : KeepsLocks p before (Statement (Reserve s at kind) bs)) where
    kinds_reserve : (l : Location)
        → list_any (reserves_to_write l) (before ++ Statement (Reserve s at kind) bs ∷ []) ≡ true
        → is_held_for R (hold_after l (before ++ Statement (Reserve s at kind) bs ∷ [])) ≡ false
    kinds_reserve l e =
        ap (is_held_for R) (held_more l before (Statement (Reserve s at kind) bs))
        ∙ by (same_location at l) refl (any_split (reserves_to_write l) before (Statement (Reserve s at kind) bs) e)
      where
        writes_kind : (j : Kind) → same_kind W j ≡ true → same_kind R j ≡ false
        writes_kind W h = refl
        writes_kind R h = absurd (false≢true h)

        by : (b : Bool) → same_location at l ≡ b
            → (list_any (reserves_to_write l) before ≡ true) ⊎ ((same_kind W kind && same_location at l) ≡ true)
            → is_held_for R (if b then Reserved kind else hold_after l before) ≡ false
        by true f (inl t) = absurd (not_again kind keeps l f t)
        by true f (inr t) = writes_kind kind (and_parts (same_kind W kind) _ t).0
        by false f (inl t) = k.kinds l t
        by false f (inr t) = absurd (both_ways _ f (and_parts (same_kind W kind) _ t).1)

    blocked_reserve : (l : Location)
        → is_blocked_for R (hold_after l (before ++ Statement (Reserve s at kind) bs ∷ [])) ≡ true
        → has_location c.blocked (mem_of p.mems l.mem.name) (var_of vs l.address.name) ≡ true
    blocked_reserve l e = by (same_location at l) (sym (ap (is_blocked_for R) (held_more l before (Statement (Reserve s at kind) bs))) ∙ e)
      where
        by : (b : Bool) → is_blocked_for R (if b then Reserved kind else hold_after l before) ≡ true
            → has_location c.blocked (mem_of p.mems l.mem.name) (var_of vs l.address.name) ≡ true
        by true f = absurd (false≢true f)
        by false f = k.blocked_is l f

    named_reserve : (l : Location) → list_any (reserves_location l) (before ++ Statement (Reserve s at kind) bs ∷ []) ≡ true → is_named vs l.address.name ≡ true
    named_reserve l e = ⊎_elim (k.named l) (name_of l) (any_split (reserves_location l) before (Statement (Reserve s at kind) bs) e)

  read_next : KeepsLocks p before (Statement (Reserve s at R) bs) → Scanned p vs (before ++ Statement (Reserve s at R) bs ∷ []) c
  read_next keeps = record {
    held_low = k.held_low;
    blocked_low = k.blocked_low;
    held_is = λ l h e. any_front (reserves_to_write l) before (Statement (Reserve s at R) bs) (k.held_is l h e);
    blocked_is = blocked_reserve R keeps;
    kinds = kinds_reserve R keeps;
    named = named_reserve R keeps;
  }

  low_front : (ls : List Alone.Location) → ((x : ℕ) → length vs ≤ x → is_address ls x ≡ false) → (x : ℕ) → length vs ≤ x
      → is_address (numbered p.mems vs at ∷ ls) x ≡ false
  low_front ls f x h =
      let i : var_of vs at.address.name < length vs = var_low vs at.address.name there.1 in
      ap₂ (λ a b. a || b) (ne_eqb (var_of vs at.address.name) x (λ e. absurd (omega arith))) (f x h)

  write_next : KeepsLocks p before (Statement (Reserve s at W) bs)
      → Scanned p vs (before ++ Statement (Reserve s at W) bs ∷ []) (record { held = numbered p.mems vs at ∷ c.held; blocked = c.blocked })
  write_next keeps = record {
    held_low = low_front c.held k.held_low;
    blocked_low = k.blocked_low;
    held_is = λ l h e. ⊎_elim
        (λ t. any_last (reserves_to_write l) before (Statement (Reserve s at W) bs) (same_numbers p.mems vs at l there h t))
        (λ t. any_front (reserves_to_write l) before (Statement (Reserve s at W) bs) (k.held_is l h t))
        (or_cases ((m0 == mem_of p.mems l.mem.name) && (var_of vs at.address.name == var_of vs l.address.name)) _ e);
    blocked_is = blocked_reserve W keeps;
    kinds = kinds_reserve W keeps;
    named = named_reserve W keeps;
  }

  -- what a block and a release leave of the kinds
  kinds_kept : (x : Place) (f : Hold → Hold)
      → ((l : Location) (h : Hold) → after_place l h x ≡ (if same_location at l then f h else h))
      → ((h : Hold) → is_held_for R h ≡ false → is_held_for R (f h) ≡ false)
      → ((l : Location) → reserves_to_write l x ≡ false) → (l : Location)
      → list_any (reserves_to_write l) (before ++ x ∷ []) ≡ true
      → is_held_for R (hold_after l (before ++ x ∷ [])) ≡ false
  kinds_kept x f after keepf nor l e =
      ap (is_held_for R) (held_more l before x ∙ after l (hold_after l before))
      ∙ by (same_location at l) (k.kinds l (⊎_elim (λ t. t) (λ t. absurd (both_ways _ (nor l) t)) (any_split (reserves_to_write l) before x e)))
    where
      by : (b : Bool) → is_held_for R (hold_after l before) ≡ false → is_held_for R (if b then f (hold_after l before) else hold_after l before) ≡ false
      by true h = keepf (hold_after l before) h
      by false h = h

  named_kept : (x : Place) → ((l : Location) → reserves_location l x ≡ false) → (l : Location)
      → list_any (reserves_location l) (before ++ x ∷ []) ≡ true → is_named vs l.address.name ≡ true
  named_kept x none l e = k.named l (⊎_elim (λ t. t) (λ t. absurd (both_ways _ (none l) t)) (any_split (reserves_location l) before x e))

  release_next : Scanned p vs (before ++ Statement (Release s at) bs ∷ []) c
  release_next = record {
    held_low = k.held_low;
    blocked_low = k.blocked_low;
    held_is = λ l h e. any_front (reserves_to_write l) before (Statement (Release s at) bs) (k.held_is l h e);
    blocked_is = λ l e. by l (same_location at l) (sym (ap (is_blocked_for R) (held_more l before (Statement (Release s at) bs))) ∙ e);
    kinds = kinds_kept (Statement (Release s at) bs) (λ h. Released) (λ l h. refl) (λ h e. refl) (λ l. refl);
    named = named_kept (Statement (Release s at) bs) (λ l. refl);
  }
    where
      by : (l : Location) (b : Bool) → is_blocked_for R (if b then Released else hold_after l before) ≡ true
          → has_location c.blocked (mem_of p.mems l.mem.name) (var_of vs l.address.name) ≡ true
      by l true f = absurd (false≢true f)
      by l false f = k.blocked_is l f

  -- a block adds its location where that isn't reserved to be written
  abbrev blocked_scan : Bool → Scan
  blocked_scan b = if b then c else record { held = c.held; blocked = numbered p.mems vs at ∷ c.blocked }

  block_next : KeepsLocks p before (Statement (Block s at) bs)
      → Scanned p vs (before ++ Statement (Block s at) bs ∷ []) (blocked_scan (has_location c.held m0 (var_of vs at.address.name)))
  block_next keeps = at_once (has_location c.held m0 (var_of vs at.address.name)) refl
    where
      blocks : (h : Hold) → is_held_for R h ≡ false → is_held_for R (after_block h) ≡ false
      blocks Nothing i = i
      blocks (Reserved j) i = i
      blocks (Blocked j) i = i
      blocks Released i = i

      -- it was reserved, for reading if it is blocked for reading now
      reading : (h : Hold) → is_reserved h ≡ true → is_blocked_for R (after_block h) ≡ true → is_held_for R h ≡ true
      reading Nothing i e = absurd (false≢true i)
      reading (Reserved j) i e = e
      reading (Blocked j) i e = absurd (false≢true i)
      reading Released i e = absurd (false≢true i)

      more : (b : Bool) (l : Location)
          → has_location c.blocked (mem_of p.mems l.mem.name) (var_of vs l.address.name) ≡ true
          → has_location (blocked_scan b).blocked (mem_of p.mems l.mem.name) (var_of vs l.address.name) ≡ true
      more true l e = e
      more false l e = or_right ((m0 == mem_of p.mems l.mem.name) && (var_of vs at.address.name == var_of vs l.address.name)) _ e

      here : (b : Bool) → has_location c.held m0 (var_of vs at.address.name) ≡ b → (l : Location)
          → same_location at l ≡ true → is_blocked_for R (after_block (hold_after l before)) ≡ true
          → has_location (blocked_scan b).blocked (mem_of p.mems l.mem.name) (var_of vs l.address.name) ≡ true
      here true e l f g =
          let same : hold_after at before ≡ hold_after l before = held_alike at l f before in
          let r : is_held_for R (hold_after at before) ≡ true =
          reading (hold_after at before) (not-false _ keeps.l1) (ap (λ h. is_blocked_for R (after_block h)) same ∙ g) in
          absurd (both_ways _ (k.kinds at (k.held_is at there e)) r)
      here false e l f g =
          or_left ((m0 == mem_of p.mems l.mem.name) && (var_of vs at.address.name == var_of vs l.address.name)) _ (numbers_same p.mems vs at l f)

      at_once : (b : Bool) → has_location c.held m0 (var_of vs at.address.name) ≡ b → Scanned p vs (before ++ Statement (Block s at) bs ∷ []) (blocked_scan b)
      at_once b e = record {
        held_low = low b;
        blocked_low = low_blocked b;
        held_is = λ l h f. any_front (reserves_to_write l) before (Statement (Block s at) bs) (k.held_is l h (held_same b l f));
        blocked_is = λ l f. by l (same_location at l) refl (sym (ap (is_blocked_for R) (held_more l before (Statement (Block s at) bs))) ∙ f);
        kinds = kinds_kept (Statement (Block s at) bs) after_block (λ l h. refl) blocks (λ l. refl);
        named = named_kept (Statement (Block s at) bs) (λ l. refl);
      }
        where
          low : (b : Bool) (x : ℕ) → length vs ≤ x → is_address (blocked_scan b).held x ≡ false
          low true x h = k.held_low x h
          low false x h = k.held_low x h

          low_blocked : (b : Bool) (x : ℕ) → length vs ≤ x → is_address (blocked_scan b).blocked x ≡ false
          low_blocked true x h = k.blocked_low x h
          low_blocked false x h = low_front c.blocked k.blocked_low x h

          held_same : (b : Bool) (l : Location)
              → has_location (blocked_scan b).held (mem_of p.mems l.mem.name) (var_of vs l.address.name) ≡ true
              → has_location c.held (mem_of p.mems l.mem.name) (var_of vs l.address.name) ≡ true
          held_same true l f = f
          held_same false l f = f

          by : (l : Location) (d : Bool) → same_location at l ≡ d
              → is_blocked_for R (if d then after_block (hold_after l before) else hold_after l before) ≡ true
              → has_location (blocked_scan b).blocked (mem_of p.mems l.mem.name) (var_of vs l.address.name) ≡ true
          by l true f g = here b e l f g
          by l false f g = more b l (k.blocked_is l g)

-- ALL STATEMENTS

-- a scan of reads that is right with some variables is right with more
pub scanned_grown : (p : Pipe) (vs us : List Var) (before : List Place) (c : Scan) → Grown vs us → Scanned p vs before c
    → Scanned p us before c
scanned_grown p vs us before c g k = subst (λ ws. Scanned p ws before c) (sym g.1) (record {
  held_low = λ y h. k.held_low y (longer y h);
  blocked_low = λ y h. k.blocked_low y (longer y h);
  held_is = λ l h e. ⊎_elim
      (λ t. k.held_is l (h.0, t) (subst (λ n. has_location c.held (mem_of p.mems l.mem.name) n ≡ true) (var_stays vs g.0 l.address.name t) e))
      (λ t. absurd (both_ways _ (k.held_low _ (var_high vs g.0 l.address.name t)) (opened_uses c.held _ _ e)))
      (cases_Bool (is_named vs l.address.name));
  blocked_is =
      λ l e. subst (λ n. has_location c.blocked (mem_of p.mems l.mem.name) n ≡ true)
      (sym (var_stays vs g.0 l.address.name (k.named l (open_reserved l before (read_open _ e))))) (k.blocked_is l e);
  kinds = k.kinds;
  named = λ l e. list_any-append _ vs g.0 ∙ or_left (is_named vs l.address.name) _ (k.named l e);
})
  where
    longer : (y : ℕ) → length (vs ++ g.0) ≤ y → length vs ≤ y
    longer y h = let e = length-append vs g.0 in omega arith

-- what operations of one stage leave of a scan
abbrev pub opens_ops : List Flat.Op → Scan → Scan
opens_ops [] c = c
opens_ops (op ∷ os) c = opens_ops os (scan_after (answered_op op) c)

-- whether a scan of reads passes these operations of stage k one after the other
abbrev pub ops_ok : Flat.Pipe → ℕ → Scan → List Flat.Op → Bool
ops_ok q k c [] = true
ops_ok q k c (op ∷ os) = op_ok q k c (answered_op op) && ops_ok q k (scan_after (answered_op op) c) os

-- a scan of reads passes operations of one stage with the rest where it passes them and then the rest
pub reads_append : (q : Flat.Pipe) (k : ℕ) (c : Scan) (os : List Flat.Op) (rest : List Flat.Stmt)
    → ops_ok q k c os ≡ true → reads_ok q (opens_ops os c) rest ≡ true → reads_ok q c (seen_ops k os ++ rest) ≡ true
reads_append q k c [] rest h i = i
reads_append q k c (op ∷ os) rest h i =
    let parts = and_parts (op_ok q k c (answered_op op)) (ops_ok q k (scan_after (answered_op op) c) os) h in
    and_from _ _ parts.0 (reads_append q k (scan_after (answered_op op) c) os rest parts.1 i)

-- the location that a statement reads
abbrev pub reads_at : Stmt → Option Location
reads_at (CombRead _ _ at) = Some at
reads_at (DelayedRead _ _ at) = Some at
reads_at _ = None

module _ (p : Pipe) (q : Flat.Pipe) (lock_is : (m : List ℕ) → is_plain (mem_at q (mem_of p.mems m)).lock ≡ not (is_locked p.mems m))
    (vs : List Var) (before : List Place) (c : Scan) (bs : List Branch) (i : Scanned p vs before c) where
  -- a statement with no location but that of a read
  scanned_if : (e : Expr) (x : Place) → ((l : Location) (h : Hold) → after_place l h x ≡ h)
      → ((l : Location) → reserves_location l x ≡ false) → ((l : Location) → reserves_to_write l x ≡ false)
      → (s : Span) → Scanned p (Growth.if_past vs e) (before ++ x ∷ []) (opens_ops (PathStatements.if_ops vs e) c)
  scanned_if (Variable y) x same none nor s = same_next p vs before x c same none nor i
  scanned_if _ x same none nor s = plain_next p vs _ before x c same none nor i

  -- after a statement that keeps the rules of locks the scan has the locations that the places with it reserved and blocked
  pub scanned_next : (s : Stmt) → KeepsLocks p before (Statement s bs)
      → ((at : Location) → location_of s ≡ Some at → IsNamed p.mems vs at)
      → Scanned p (vars_past p.mems vs s) (before ++ Statement s bs ∷ []) (opens_ops (ops_of p.mems vs s) c)
  scanned_next (Separator sp) k there = same_next p vs before (Statement (Separator sp) bs) c (λ l h. refl) (λ l. refl) (λ l. refl) i
  scanned_next (CombRead sp x at) k there =
      either_read (λ op. Scanned p (vars_past p.mems vs (CombRead sp x at)) (before ++ Statement (CombRead sp x at) bs ∷ []) (opens_ops (op ∷ []) c))
      (is_advisory_mem p.mems at.mem.name) (length vs) (mem_of p.mems at.mem.name) (var_of vs at.address.name)
      (plain_next p vs _ before (Statement (CombRead sp x at) bs) c (λ l h. refl) (λ l. refl) (λ l. refl) i)
      (plain_next p vs _ before (Statement (CombRead sp x at) bs) c (λ l h. refl) (λ l. refl) (λ l. refl) i)
  scanned_next (Bind sp x v) k there =
      either_bind (λ op. Scanned p (vars_past p.mems vs (Bind sp x v)) (before ++ Statement (Bind sp x v) bs ∷ []) (opens_ops (op ∷ []) c)) (is_advised vs v)
      (length vs) (flat_expr vs v) (plain_next p vs _ before (Statement (Bind sp x v) bs) c (λ l h. refl) (λ l. refl) (λ l. refl) i)
      (plain_next p vs _ before (Statement (Bind sp x v) bs) c (λ l h. refl) (λ l. refl) (λ l. refl) i)
  scanned_next (SpecCall sp x v) k there = same_next p vs before (Statement (SpecCall sp x v) bs) c (λ l h. refl) (λ l. refl) (λ l. refl) i
  scanned_next (DelayedRead sp x at) k there = plain_next p vs _ before (Statement (DelayedRead sp x at) bs) c (λ l h. refl) (λ l. refl) (λ l. refl) i
  scanned_next (Write sp at v) k there =
      either_write (λ op. Scanned p (vars_past p.mems vs (Write sp at v)) (before ++ Statement (Write sp at v) bs ∷ []) (opens_ops (op ∷ []) c))
      (is_advisory_mem p.mems at.mem.name) (mem_of p.mems at.mem.name) (var_of vs at.address.name) (flat_expr vs v)
      (same_next p vs before (Statement (Write sp at v) bs) c (λ l h. refl) (λ l. refl) (λ l. refl) i)
      (same_next p vs before (Statement (Write sp at v) bs) c (λ l h. refl) (λ l. refl) (λ l. refl) i)
  scanned_next (Reserve sp at R) k there = read_next p vs before c sp at bs (there at refl) i k
  scanned_next (Reserve sp at W) k there = write_next p vs before c sp at bs (there at refl) i k
  scanned_next (Block sp at) k there = block_next p vs before c sp at bs (there at refl) i k
  scanned_next (Release sp at) k there = release_next p vs before c sp at bs (there at refl) i
  scanned_next (If sp e when otherwise) k there = scanned_if e (Statement (If sp e when otherwise) bs) (λ l h. refl) (λ l. refl) (λ l. refl) sp
  scanned_next (Call sp args) k there = same_next p vs before (Statement (Call sp args) bs) c (λ l h. refl) (λ l. refl) (λ l. refl) i
  scanned_next (Verify sp g args) k there = same_next p vs before (Statement (Verify sp g args) bs) c (λ l h. refl) (λ l. refl) (λ l. refl) i
  scanned_next (Update sp g args) k there = same_next p vs before (Statement (Update sp g args) bs) c (λ l h. refl) (λ l. refl) (λ l. refl) i
  scanned_next (SpecCheck sp) k there = same_next p vs before (Statement (SpecCheck sp) bs) c (λ l h. refl) (λ l. refl) (λ l. refl) i
  scanned_next (SpecBarrier sp) k there = same_next p vs before (Statement (SpecBarrier sp) bs) c (λ l h. refl) (λ l. refl) (λ l. refl) i

  -- in stage k, where the reserves before stand no later, and a read no later than the releases
  module _ (k : ℕ) (since : (m : List ℕ) → is_memory p.mems m ≡ true → list_any (reserves_memory m) before ≡ true → reserve_stage q (mem_of p.mems m) ≤ k) where
    unbound : not (is_address c.blocked (length vs)) ≡ true
    unbound = ap not (i.blocked_low (length vs) (let l : length vs ≤ length vs = omega arith in l))

    read_ok : (at : Location) → (is_locked p.mems at.mem.name && not (is_blocked_for R (hold_after at before))) ≡ false
        → (is_locked p.mems at.mem.name ≡ true → k ≤ commit_stage q (mem_of p.mems at.mem.name))
        → (not (is_address c.blocked (length vs))
        && (is_plain (mem_at q (mem_of p.mems at.mem.name)).lock
        || (has_location c.blocked (mem_of p.mems at.mem.name) (var_of vs at.address.name) && nat_le k (commit_stage q (mem_of p.mems at.mem.name))))
        && true)
        ≡ true
    read_ok at l1 late = and_from _ _ (and_from _ _ unbound (by (is_locked p.mems at.mem.name) refl (lock_is at.mem.name) l1)) refl
      where
        by : (b : Bool) → is_locked p.mems at.mem.name ≡ b
            → is_plain (mem_at q (mem_of p.mems at.mem.name)).lock ≡ not b
            → (b && not (is_blocked_for R (hold_after at before))) ≡ false
            → (is_plain (mem_at q (mem_of p.mems at.mem.name)).lock
            || (has_location c.blocked (mem_of p.mems at.mem.name) (var_of vs at.address.name) && nat_le k (commit_stage q (mem_of p.mems at.mem.name))))
            ≡ true
        by false g e f = or_left _ _ e
        by true g e f = or_right _ _ (and_from _ _ (i.blocked_is at (not-false _ f)) (le-leb k _ (late g)))

    if_ok : (e : Expr) → ops_ok q k c (PathStatements.if_ops vs e) ≡ true
    if_ok (Variable y) = refl
    if_ok _ = and_from _ _ unbound refl

    -- a scan of reads passes each statement that keeps the rules of locks
    pub scan_ok : (s : Stmt) → KeepsLocks p before (Statement s bs) → ((at : Location) → location_of s ≡ Some at → IsNamed p.mems vs at)
        → ((at : Location) → reads_at s ≡ Some at → is_locked p.mems at.mem.name ≡ true → k ≤ commit_stage q (mem_of p.mems at.mem.name))
        → ops_ok q k c (ops_of p.mems vs s) ≡ true
    scan_ok (CombRead sp x at) h there late =
        either_read (λ op. ops_ok q k c (op ∷ []) ≡ true) (is_advisory_mem p.mems at.mem.name) (length vs) (mem_of p.mems at.mem.name)
        (var_of vs at.address.name) (refl) (read_ok at h.l1 (late at refl))
    scan_ok (DelayedRead sp x at) h there late = read_ok at h.l1 (late at refl)
    scan_ok (Bind sp x v) h there late =
        either_bind (λ op. ops_ok q k c (op ∷ []) ≡ true) (is_advised vs v) (length vs) (flat_expr vs v) (refl) (and_from _ _ unbound refl)
    scan_ok (Write sp at v) h there late =
        either_write (λ op. ops_ok q k c (op ∷ []) ≡ true) (is_advisory_mem p.mems at.mem.name) (mem_of p.mems at.mem.name) (var_of vs at.address.name)
        (flat_expr vs v) (refl) (refl)
    scan_ok (If sp e when otherwise) h there late = if_ok e
    scan_ok (Reserve sp at R) h there late = refl
    scan_ok (Reserve sp at W) h there late = refl
    scan_ok (Block sp at) h there late =
        let open_there = open_reserved at before (reserved_open (hold_after at before) (not-false _ h.l1)) in
        and_from _ _ (le-leb _ k (since at.mem.name (there at refl).0 (any_weaker _ _ (of_memory at) before open_there))) refl
    scan_ok _ h there late = refl
