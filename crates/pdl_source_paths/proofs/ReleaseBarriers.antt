-- On each path no write reservation is released before the verifies' stage, unless after a barrier.
use Rattle.std.proofs.Common.{◌≡◌, refl, sym, ap, ap₂, ◌∙◌, ℕ, Bool, true, false, ◌&&◌, ◌||◌, not, List, [], ◌∷◌, ◌++◌, Option, Some, length}
use Rattle.std.proofs.lemmas.Bool.{false≢true, and_parts, and_from, both_ways, not-false}
use Rattle.std.proofs.lemmas.List.Folds.{list_any-append}
use Rattle.std.specs.List.{list_any}
use Rattle.pdl_semantics.specs.Tree.{Span, Expr, Variable, Location, R, W, Stmt, Separator, CombRead, Bind, SpecCall, DelayedRead, Write, Reserve, Block, Release, If, Call, Verify, Update, SpecCheck, SpecBarrier, Pipe}
use Rattle.pdl_semantics.specs.Flat
use Rattle.pdl_semantics.specs.Flatten.{Var, var_of, mem_of, flat_expr, is_advisory_mem, is_advised}
use Rattle.pdl_source_stages.proofs.SiteFacts.{either_read, either_bind, either_write}
use Rattle.pdl_rules.specs.Places.{Place, Statement, Branch}
use Rattle.pdl_rules.specs.Parts.{location_of}
use Rattle.pdl_rules.specs.Locks.{Hold, Nothing, Reserved, Blocked, Released, hold_after, is_blocked, is_held_for}
use Rattle.pdl_rules.specs.Speculation.{releases_unsure}
use Rattle.pdl_rules.specs.Speculation
use Rattle.pdl_rules.proofs.SingleWrites.{KeepsLocks}
use Rattle.pdl_theory_turns.specs.Alone.{answered_op}
use Rattle.pdl_theory_turns.specs.Scans.{has_location, scan_after, Scan}
use Rattle.pdl_theory_turns.specs.GuessScans.{stands_before, is_barrier, is_sure, all_sure}
use Rattle.pdl_source_paths.proofs.PathStatements
use Rattle.pdl_source_paths.proofs.PathStatements.{ops_of, seen_ops}
use Rattle.pdl_source_paths.proofs.Variables.{IsNamed}
use Rattle.pdl_source_paths.proofs.ReadsKept.{Scanned, opens_ops}

-- lists of statements of one stage
abbrev pub barred_ops : Bool → List Flat.Op → Bool
barred_ops b [] = b
barred_ops b (op ∷ os) = barred_ops (b || is_barrier (answered_op op)) os

-- whether each release among these operations of stage s is certain
abbrev pub sure_oks : Option ℕ → Bool → Scan → ℕ → List Flat.Op → Bool
sure_oks v b c s [] = true
sure_oks v b c s (op ∷ os) = is_sure v b c s (answered_op op) && sure_oks v (b || is_barrier (answered_op op)) (scan_after (answered_op op) c) s os

-- releases are certain among operations of one stage and the rest where they are among each
pub sures_append : (v : Option ℕ) (b : Bool) (c : Scan) (s : ℕ) (os : List Flat.Op) (rest : List Flat.Stmt)
    → sure_oks v b c s os ≡ true → all_sure v (barred_ops b os) (opens_ops os c) rest ≡ true
    → all_sure v b c (seen_ops s os ++ rest) ≡ true
sures_append v b c s [] rest h i = i
sures_append v b c s (op ∷ os) rest h i =
    let parts = and_parts (is_sure v b c s (answered_op op)) (sure_oks v (b || is_barrier (answered_op op)) (scan_after (answered_op op) c) s os) h in
    and_from _ _ parts.0 (sures_append v (b || is_barrier (answered_op op)) (scan_after (answered_op op) c) s os rest parts.1 i)

module _ (p : Pipe) (v : Option ℕ) (vs : List Var) (before : List Place) (c : Scan) (bs : List Branch) (s : ℕ)
    (i : Scanned p vs before c) (b : Bool) (barred : list_any Speculation.is_barrier before ≡ b) where
  release_sure : (sp : Span) (at : Location) → KeepsLocks p before (Statement (Release sp at) bs) → IsNamed p.mems vs at
      → (stands_before v s ≡ true → releases_unsure before (Statement (Release sp at) bs) ≡ false)
      → ((b || (not (has_location c.held (mem_of p.mems at.mem.name) (var_of vs at.address.name)) || not (stands_before v s))) && true) ≡ true
  release_sure sp at k named asked =
      and_from _ _ (by b barred (has_location c.held (mem_of p.mems at.mem.name) (var_of vs at.address.name)) refl (stands_before v s) refl) refl
    where
      write_held : (h : Hold) → is_blocked h ≡ true → is_held_for R h ≡ false → is_held_for W h ≡ true
      write_held Nothing e f = absurd (false≢true e)
      write_held (Reserved k) e f = absurd (false≢true e)
      write_held (Blocked W) e f = refl
      write_held (Blocked R) e f = absurd (false≢true (sym f))
      write_held Released e f = absurd (false≢true e)

      by : (x : Bool) → list_any Speculation.is_barrier before ≡ x → (o : Bool)
          → has_location c.held (mem_of p.mems at.mem.name) (var_of vs at.address.name) ≡ o → (w : Bool)
          → stands_before v s ≡ w → (x || (not o || not w)) ≡ true
      by true e o f w g = refl
      by false e false f w g = refl
      by false e true f false g = refl
      by false e true f true g =
          let w = write_held (hold_after at before) (not-false _ k.l1) (i.kinds at (i.held_is at named f)) in
          absurd (both_ways _ (asked g) (and_from _ _ w (ap not e)))

  or_no : (x : Bool) → (x || false) ≡ x
  or_no true = refl
  or_no false = refl

  and_true : (x : Bool) → x ≡ true → (x && true) ≡ true
  and_true x e = and_from x true e refl

  still : (x : Place) → Speculation.is_barrier x ≡ false → list_any Speculation.is_barrier (before ++ x ∷ []) ≡ b
  still x e = list_any-append Speculation.is_barrier before (x ∷ []) ∙ ap₂ (λ k l. k || (l || false)) barred e ∙ or_no b

  still_bind : (x : Place) → Speculation.is_barrier x ≡ false → list_any Speculation.is_barrier (before ++ x ∷ []) ≡ (b || false)
  still_bind x e = still x e ∙ sym (or_no b)

  abbrev Goes : Stmt → List Flat.Op → Type 0
  Goes t os = (sure_oks v b c s os ≡ true) × (list_any Speculation.is_barrier (before ++ Statement t bs ∷ []) ≡ barred_ops b os)

  if_next : (t : Stmt) (e : Expr) → Speculation.is_barrier (Statement t bs) ≡ false → Goes t (PathStatements.if_ops vs e)
  if_next t (Variable y) e = (refl, still (Statement t bs) e)
  if_next t _ e = (refl, still_bind (Statement t bs) e)

  -- a statement that releases nothing uncertain before V passes, and a barrier came just where one of the places with it is one
  pub sure_by : (t : Stmt) → KeepsLocks p before (Statement t bs)
      → ((at : Location) → location_of t ≡ Some at → IsNamed p.mems vs at)
      → (stands_before v s ≡ true → releases_unsure before (Statement t bs) ≡ false) → Goes t (ops_of p.mems vs t)
  sure_by (Separator sp) k h a = (refl, still (Statement (Separator sp) bs) refl)
  sure_by (CombRead sp x at) k h a =
      either_read (λ op. Goes (CombRead sp x at) (op ∷ [])) (is_advisory_mem p.mems at.mem.name) (length vs) (mem_of p.mems at.mem.name)
      (var_of vs at.address.name) ((refl, still_bind (Statement (CombRead sp x at) bs) refl)) ((refl, still_bind (Statement (CombRead sp x at) bs) refl))
  sure_by (Bind sp x e) k h a =
      either_bind (λ op. Goes (Bind sp x e) (op ∷ [])) (is_advised vs e) (length vs) (flat_expr vs e) ((refl, still_bind (Statement (Bind sp x e) bs) refl))
      ((refl, still_bind (Statement (Bind sp x e) bs) refl))
  sure_by (SpecCall sp g args) k h a = (refl, still_bind (Statement (SpecCall sp g args) bs) refl)
  sure_by (DelayedRead sp x at) k h a = (refl, still_bind (Statement (DelayedRead sp x at) bs) refl)
  sure_by (Write sp at e) k h a =
      either_write (λ op. Goes (Write sp at e) (op ∷ [])) (is_advisory_mem p.mems at.mem.name) (mem_of p.mems at.mem.name) (var_of vs at.address.name)
      (flat_expr vs e) ((refl, still_bind (Statement (Write sp at e) bs) refl)) ((refl, still_bind (Statement (Write sp at e) bs) refl))
  sure_by (Reserve sp at R) k h a = (refl, still_bind (Statement (Reserve sp at R) bs) refl)
  sure_by (Reserve sp at W) k h a = (refl, still_bind (Statement (Reserve sp at W) bs) refl)
  sure_by (Block sp at) k h a = (refl, still_bind (Statement (Block sp at) bs) refl)
  sure_by (Release sp at) k h a = (release_sure sp at k (h at refl) a, still_bind (Statement (Release sp at) bs) refl)
  sure_by (If sp e when otherwise) k h a = if_next (If sp e when otherwise) e refl
  sure_by (Call sp args) k h a = (refl, still_bind (Statement (Call sp args) bs) refl)
  sure_by (Verify sp g args) k h a = (refl, still_bind (Statement (Verify sp g args) bs) refl)
  sure_by (Update sp g args) k h a = (refl, still_bind (Statement (Update sp g args) bs) refl)
  sure_by (SpecCheck sp) k h a = (refl, still_bind (Statement (SpecCheck sp) bs) refl)
  sure_by (SpecBarrier sp) k h a = (refl, list_any-append Speculation.is_barrier before (Statement (SpecBarrier sp) bs ∷ []) ∙ ap (λ x. x || true) barred)
