-- On each path there is one update at most.
use Rattle.std.proofs.Common.{◌≡◌, refl, sym, ap, ◌∙◌, subst, ℕ, Bool, true, false, ◌&&◌, ◌||◌, not, List, [], ◌∷◌, ◌++◌, if◌then◌else◌, nat_lt, Some}
use Rattle.std.proofs.lemmas.Bool.{or_parts}
use Rattle.std.proofs.lemmas.List.Folds.{list_any-append}
use Rattle.std.specs.List.{list_any}
use Rattle.pdl_semantics.specs.Tree.{Span, Ident, Expr, Variable, R, W, Mem, Stmt, Separator, CombRead, Bind, SpecCall, DelayedRead, Write, Reserve, Block, Release, If, Call, Verify, Update, SpecCheck, SpecBarrier, Pipe}
use Rattle.pdl_semantics.specs.Flat
use Rattle.pdl_semantics.specs.Flatten.{Var, flat, is_advisory_mem, is_advised}
use Rattle.pdl_semantics.specs.Stages
use Rattle.pdl_rules.specs.Places.{Place, Statement, Branch, Guard, on_path}
use Rattle.pdl_rules.specs.Parts.{is_some_and}
use Rattle.pdl_rules.specs.Speculation.{is_verify, guess_stages}
use Rattle.pdl_rules.specs.Speculation
use Rattle.pdl_rules.specs.Refusal.{KeepsRules}
use Rattle.pdl_theory_turns.specs.Alone.{answered_op}
use Rattle.pdl_theory_turns.specs.GuessScans.{is_update, once}
use Rattle.pdl_source_stages.proofs.SiteFacts.{either_read, either_bind, either_write}
use Rattle.pdl_source_stages.proofs.Sites.{Site, sites_of, front_of, place_of, All}
use Rattle.pdl_source_stages.proofs.StatementStages.{Staged}
use Rattle.pdl_source_paths.proofs.Choices.{path_of}
use Rattle.pdl_source_paths.proofs.PathStatements.{ops_of, ops, seen_ops, seen, on_sites}
use Rattle.pdl_source_paths.proofs.Walk.{InText}
use Rattle.pdl_source_paths.proofs.Guesses.{Told, update_right}

-- OPERATIONS

-- whether one of these operations is an update
abbrev updates_in : List Flat.Op → Bool
updates_in [] = false
updates_in (op ∷ os) = is_update (answered_op op) || updates_in os

-- operations without update before other statements
once_past : (been : Bool) (s : ℕ) (os : List Flat.Op) (rest : List Flat.Stmt)
    → updates_in os ≡ false → once is_update been rest ≡ true → once is_update been (seen_ops s os ++ rest) ≡ true
once_past been s [] rest h i = i
once_past been s (op ∷ os) rest h i =
    let parts = or_parts (is_update (answered_op op)) (updates_in os) h in
    ap (λ u. not (been && u) && once is_update (been || u) (seen_ops s os ++ rest)) parts.0
    ∙ at been (once_past been s os rest parts.1 i)
  where
    at : (b : Bool) → once is_update b (seen_ops s os ++ rest) ≡ true
        → (not (b && false) && once is_update (b || false) (seen_ops s os ++ rest)) ≡ true
    at true k = k
    at false k = k

-- a statement that is no update does none in flat form
none_in : (ms : List Mem) (vs : List Var) (bs : List Branch) (s : Stmt)
    → Speculation.is_update (Statement s bs) ≡ false → updates_in (ops_of ms vs s) ≡ false
none_in ms vs bs (Update sp n args) h = absurd (cc h)
none_in ms vs bs (Bind sp x a) h = either_bind (λ op. updates_in (op ∷ []) ≡ false) (is_advised vs a) _ _ refl refl
none_in ms vs bs (CombRead sp x at) h = either_read (λ op. updates_in (op ∷ []) ≡ false) (is_advisory_mem ms at.mem.name) _ _ _ refl refl
none_in ms vs bs (Write sp at a) h = either_write (λ op. updates_in (op ∷ []) ≡ false) (is_advisory_mem ms at.mem.name) _ _ _ refl refl
none_in ms vs bs (Reserve sp at R) h = refl
none_in ms vs bs (Reserve sp at W) h = refl
none_in ms vs bs (If sp (Variable y) a b) h = refl
none_in ms vs bs (If sp x a b) h = refl
none_in ms vs bs (Separator sp) h = refl
none_in ms vs bs (DelayedRead sp x at) h = refl
none_in ms vs bs (Block sp at) h = refl
none_in ms vs bs (Release sp at) h = refl
none_in ms vs bs (Call sp args) h = refl
none_in ms vs bs (SpecCall sp n args) h = refl
none_in ms vs bs (Verify sp n args) h = refl
none_in ms vs bs (SpecCheck sp) h = refl
none_in ms vs bs (SpecBarrier sp) h = refl

-- a place that is an update has this statement
update_of : (s : Stmt) (bs : List Branch) → Speculation.is_update (Statement s bs) ≡ true
    → (sp : Span) × (n : Ident) × (args : List Expr) × (s ≡ Update sp n args)
update_of (Update sp n args) bs h = (sp, n, args, refl)
update_of _ bs h = absurd (cc h)

-- ALONG A PATH

module _ (p : Pipe) (rules : KeepsRules p) (v : Guard → Bool) (staged : All Staged (sites_of p))
    (verify_at : All (λ t. is_verify (place_of t) ≡ true → Stages.verify_stage (flat p).stmts ≡ Some t.walk.stage) (sites_of p)) where
  -- the path of the rules with these truth values
  abbrev c : List Guard
  c = path_of p v

  -- whether a place is on the path and is an update
  abbrev updates : Place → Bool
  updates y = on_path c y && Speculation.is_update y

  -- an update on the path is the first one
  first_update : (t : Site) → Told p rules v staged verify_at t → on_path c (place_of t) ≡ true
      → (sp : Span) (n : Ident) (args : List Expr) → t.stmt ≡ Update sp n args → list_any updates t.front ≡ false
  first_update t h on sp n args e =
      (or_parts
      (list_any (λ j. not (nat_lt j t.walk.stage)) (guess_stages c t.front n.name)
      || is_some_and (λ w. not (nat_lt t.walk.stage w)) (Speculation.verify_stage p)) _
      (update_right p rules v staged verify_at t h.here h.stage on sp n args e)).1

  -- whether an update is on the path, with one more place that is one or isn't
  updates_next : (front : List Place) (x : Place) (b d : Bool) → list_any updates front ≡ b → updates x ≡ d → list_any updates (front ++ x ∷ []) ≡ (b || d)
  updates_next front x b d e f =
      list_any-append updates front (x ∷ [])
      ∙ ap (λ i. list_any updates front || (i || false)) f ∙ ap (λ i. i || (d || false)) e ∙ ap (λ i. b || i) (or_false d)
    where
      or_false : (b : Bool) → (b || false) ≡ b
      or_false true = refl
      or_false false = refl

  once_from : (been : Bool) (front : List Place) (ts : List Site) → InText front ts → All (Told p rules v staged verify_at) ts
      → list_any updates front ≡ been → once is_update been (seen p.mems (on_sites c ts)) ≡ true
  once_from been front [] text h k = refl
  once_from been front (t ∷ ts) text h k =
      at (on_path c (place_of t)) refl (λ b k'. once_from b (front ++ place_of t ∷ []) ts text.1 h.1 k')
    where
      rest : List Flat.Stmt
      rest = seen p.mems (on_sites c ts)

      or_same : (b : Bool) → (b || false) ≡ b
      or_same true = refl
      or_same false = refl

      here : on_path c (place_of t) ≡ true → ((b : Bool) → list_any updates (front ++ place_of t ∷ []) ≡ b → once is_update b rest ≡ true)
          → (d : Bool) → Speculation.is_update (place_of t) ≡ d → once is_update been (seen_ops t.walk.stage (ops p.mems t) ++ rest) ≡ true
      here e go false i =
          once_past been t.walk.stage (ops p.mems t) rest (none_in p.mems t.walk.vars t.branches t.stmt i)
          (go been
          (updates_next front (place_of t) been false k (ap (λ b. b && Speculation.is_update (place_of t)) e ∙ i) ∙ or_same been))
      here e go true i =
          let u = update_of t.stmt t.branches i in
          let none : been ≡ false =
          sym k ∙ ap (list_any updates) (sym text.0) ∙ first_update t h.0 e u.0 u.1 u.2 u.3 in
          subst (λ s. once is_update been (seen_ops t.walk.stage (ops_of p.mems t.walk.vars s) ++ rest) ≡ true) (sym u.3)
          (ap (λ b. not (b && true) && once is_update (b || true) rest) none
          ∙ go true
          (updates_next front (place_of t) false true (k ∙ none) (ap (λ b. b && Speculation.is_update (place_of t)) e ∙ i)))

      at : (b : Bool) → on_path c (place_of t) ≡ b
          → ((d : Bool) → list_any updates (front ++ place_of t ∷ []) ≡ d → once is_update d rest ≡ true)
          → once is_update been (seen p.mems (if b then t ∷ on_sites c ts else on_sites c ts)) ≡ true
      at true e go = here e go (Speculation.is_update (place_of t)) refl
      at false e go =
          go been (updates_next front (place_of t) been false k (ap (λ b. b && Speculation.is_update (place_of t)) e) ∙ or_same been)

  none_updates : (front : List Place) → list_any Speculation.is_update front ≡ false → list_any updates front ≡ false
  none_updates [] h = refl
  none_updates (x ∷ front) h =
      let parts = or_parts (Speculation.is_update x) (list_any Speculation.is_update front) h in
      ap (λ b. (on_path c x && b) || list_any updates front) parts.0 ∙ at (on_path c x) (none_updates front parts.1)
    where
      at : (b : Bool) → list_any updates front ≡ false → ((b && false) || list_any updates front) ≡ false
      at true k = k
      at false k = k

  -- of the flat statements of the sites on the path one is an update at most, where none of the parameters and memories before is one
  pub one_update : (ts : List Site) → InText (front_of p) ts → All (Told p rules v staged verify_at) ts
      → list_any Speculation.is_update (front_of p) ≡ false → once is_update false (seen p.mems (on_sites c ts)) ≡ true
  one_update ts text h k = once_from false (front_of p) ts text h (none_updates (front_of p) k)
