-- On each path the next thread is made once: by a call, or by a guess that is verified once after it.
use Rattle.std.proofs.Common.{◌≡◌, refl, sym, ap₂, ◌∙◌, subst, ℕ, Bool, true, false, ◌&&◌, ◌||◌, List, [], ◌∷◌, ◌++◌, bytes_eq, Option, ⊎_elim, length}
use Rattle.std.proofs.lemmas.Bool.{false≢true, and_parts, and_from, both_ways}
use Rattle.std.proofs.lemmas.List.Folds.{list_any-append}
use Rattle.std.specs.List.{list_any}
use Rattle.pdl_semantics.specs.Tree.{Span, Ident, Expr, Variable, R, W, Stmt, Separator, CombRead, Bind, SpecCall, DelayedRead, Write, Reserve, Block, Release, If, Call, Verify, Update, SpecCheck, SpecBarrier, Mem}
use Rattle.pdl_semantics.specs.Flat
use Rattle.pdl_semantics.specs.Flatten.{Var, var_of, mem_of, flat_expr, is_advisory_mem, is_advised}
use Rattle.pdl_source_stages.proofs.SiteFacts.{either_read, either_bind, either_write}
use Rattle.pdl_rules.specs.Places.{Place, Statement, Branch}
use Rattle.pdl_rules.specs.Names.{OfGuess, defines_use}
use Rattle.pdl_rules.specs.Calls.{is_call}
use Rattle.pdl_rules.specs.Speculation.{is_verify, is_verify_of}
use Rattle.pdl_rules.proofs.SingleWrites.{any_weaker, any_front, any_last}
use Rattle.pdl_rules.proofs.KnownVariables.{any_split}
use Rattle.pdl_theory_turns.specs.Alone.{answered_op}
use Rattle.pdl_theory_turns.specs.GuessScans.{Making, Unmade, Guessed, Made, next_making, making_all, is_unmade, is_guessed, is_made, making_ok, makings_ok, stands_at, stands_before}
use Rattle.pdl_source_paths.proofs.PathStatements
use Rattle.pdl_source_paths.proofs.PathStatements.{ops_of, seen_ops}
use Rattle.pdl_word.proofs.Bytes.{bytes_refl}

-- LISTS OF STATEMENTS

-- how far a thread is with making the next one, after these operations
abbrev pub making_ops : Making → List Flat.Op → Making
making_ops k [] = k
making_ops k (op ∷ os) = making_ops (next_making k (answered_op op)) os

-- whether these operations of one stage make the next thread in order, from this point on
abbrev pub making_oks : Option ℕ → Making → ℕ → List Flat.Op → Bool
making_oks v k s [] = true
making_oks v k s (op ∷ os) = making_ok v k s (answered_op op) && making_oks v (next_making k (answered_op op)) s os

-- where a statement's operations make the next thread by the rules, and the rest does then, all do
pub makings_append : (v : Option ℕ) (k : Making) (s : ℕ) (os : List Flat.Op) (rest : List Flat.Stmt)
    → making_oks v k s os ≡ true → makings_ok v (making_ops k os) rest ≡ true
    → makings_ok v k (seen_ops s os ++ rest) ≡ true
makings_append v k s [] rest h i = i
makings_append v k s (op ∷ os) rest h i =
    let parts = and_parts (making_ok v k s (answered_op op)) (making_oks v (next_making k (answered_op op)) s os) h in
    and_from _ _ parts.0 (makings_append v (next_making k (answered_op op)) s os rest parts.1 i)

-- how far a thread is after a statement's operations and the rest, by how far it is after the operations
pub making_append : (k : Making) (s : ℕ) (os : List Flat.Op) (rest : List Flat.Stmt)
    → making_all k (seen_ops s os ++ rest) ≡ making_all (making_ops k os) rest
making_append k s [] rest = refl
making_append k s (op ∷ os) rest = making_append (next_making k (answered_op op)) s os rest

-- WHAT WAS MADE

-- how far the places before are
abbrev pub Stood : Making → List Place → Type 0
Stood Unmade before = (list_any is_call before ≡ false) × (list_any is_verify before ≡ false)
Stood Guessed before =
    (list_any is_call before ≡ true) × (list_any is_verify before ≡ false) × (g : List ℕ) × (list_any (defines_use (OfGuess g)) before ≡ true)
Stood Made before =
    (list_any is_call before ≡ true) × ((g : List ℕ) → list_any (defines_use (OfGuess g)) before ≡ true → list_any (is_verify_of g) before ≡ true)

-- a guess is made by a call, and verified by a verify
pub guess_calls : (g : List ℕ) (x : Place) → defines_use (OfGuess g) x ≡ true → is_call x ≡ true
guess_calls g (Statement (SpecCall _ _ _) bs) e = refl
guess_calls g (Statement (Call _ _) bs) e = refl
guess_calls g (Statement (Separator _) bs) e = absurd (false≢true e)
guess_calls g (Statement (CombRead _ _ _) bs) e = absurd (false≢true e)
guess_calls g (Statement (Bind _ _ _) bs) e = absurd (false≢true e)
guess_calls g (Statement (DelayedRead _ _ _) bs) e = absurd (false≢true e)
guess_calls g (Statement (Write _ _ _) bs) e = absurd (false≢true e)
guess_calls g (Statement (Reserve _ _ _) bs) e = absurd (false≢true e)
guess_calls g (Statement (Block _ _) bs) e = absurd (false≢true e)
guess_calls g (Statement (Release _ _) bs) e = absurd (false≢true e)
guess_calls g (Statement (If _ _ _ _) bs) e = absurd (false≢true e)
guess_calls g (Statement (Verify _ _ _) bs) e = absurd (false≢true e)
guess_calls g (Statement (Update _ _ _) bs) e = absurd (false≢true e)
guess_calls g (Statement (SpecCheck _) bs) e = absurd (false≢true e)
guess_calls g (Statement (SpecBarrier _) bs) e = absurd (false≢true e)
guess_calls g _ e = absurd (false≢true e)

-- the verify of a guess is a verify
pub verifies_one : (g : List ℕ) (x : Place) → is_verify_of g x ≡ true → is_verify x ≡ true
verifies_one g (Statement (Verify _ _ _) bs) e = refl
verifies_one g _ e = absurd (false≢true e)

-- where none of some places passes a test, and the next one does not, none of all passes
pub none_more : (test : Place → Bool) (before : List Place) (x : Place)
    → list_any test before ≡ false → test x ≡ false → list_any test (before ++ x ∷ []) ≡ false
none_more test before x h e = list_any-append test before (x ∷ []) ∙ ap₂ (λ a b. a || (b || false)) h e

-- a place that makes nothing and verifies nothing
stood_next : (k : Making) (before : List Place) (x : Place)
    → is_call x ≡ false → is_verify x ≡ false → Stood k before → Stood k (before ++ x ∷ [])
stood_next Unmade before x c v s = (none_more is_call before x s.0 c, none_more is_verify before x s.1 v)
stood_next Guessed before x c v s =
    (any_front is_call before x s.0, none_more is_verify before x s.1 v, s.2, any_front (defines_use (OfGuess s.2)) before x s.3)
stood_next Made before x c v s = (
  any_front is_call before x s.0,
  (λ g e. ⊎_elim (λ t. any_front (is_verify_of g) before x (s.1 g t)) (λ t. absurd (both_ways _ c (guess_calls g x t)))
      (any_split (defines_use (OfGuess g)) before x e)),
)

-- THE STATEMENTS

module _ (ms : List Mem) (v : Option ℕ) (before : List Place) (bs : List Branch) (vs : List Var) (s : ℕ) where
  abbrev Goes : Making → Stmt → List Flat.Op → Type 0
  Goes k t os = (making_oks v k s os ≡ true) × Stood (making_ops k os) (before ++ Statement t bs ∷ [])

  still : (k : Making) (t : Stmt) → is_call (Statement t bs) ≡ false → is_verify (Statement t bs) ≡ false
      → Stood k before → (true ≡ true) × Stood k (before ++ Statement t bs ∷ [])
  still k t c w i = (refl, stood_next k before (Statement t bs) c w i)

  unmade : (k : Making) → Stood k before → list_any is_call before ≡ false → is_unmade k ≡ true
  unmade Unmade i e = refl
  unmade Guessed i e = absurd (both_ways _ e i.0)
  unmade Made i e = absurd (both_ways _ e i.0)

  calls : (k : Making) (sp : Span) (args : List Expr) → Stood k before → list_any is_call before ≡ false
      → ((is_unmade k && true) ≡ true) × Stood Made (before ++ Statement (Call sp args) bs ∷ [])
  calls k sp args i e = (
    and_from _ _ (unmade k i e) refl,
    (
      any_last is_call before (Statement (Call sp args) bs) refl,
      (λ g d. ⊎_elim (λ t. absurd (both_ways _ e (any_weaker _ _ (guess_calls g) before t)))
          (λ t. absurd (false≢true t)) (any_split (defines_use (OfGuess g)) before (Statement (Call sp args) bs) d)),
    ),
  )

  -- nothing was verified before the first guess
  none_verified : (k : Making) → Stood k before → list_any is_call before ≡ false → list_any is_verify before ≡ false
  none_verified Unmade i e = i.1
  none_verified Guessed i e = absurd (both_ways _ e i.0)
  none_verified Made i e = absurd (both_ways _ e i.0)

  guesses : (k : Making) (sp : Span) (g : Ident) (args : List Expr) → Stood k before → list_any is_call before ≡ false → stands_before v s ≡ true
      → (((is_unmade k && stands_before v s) && true) ≡ true) × Stood Guessed (before ++ Statement (SpecCall sp g args) bs ∷ [])
  guesses k sp g args i e low = (
    and_from _ _ (and_from _ _ (unmade k i e) low) refl,
    (
      any_last is_call before (Statement (SpecCall sp g args) bs) refl,
      none_more is_verify before (Statement (SpecCall sp g args) bs) (none_verified k i e) refl,
      g.name,
      any_last (defines_use (OfGuess g.name)) before (Statement (SpecCall sp g args) bs) (bytes_refl g.name),
    ),
  )

  -- a verify of a guess before, that wasn't verified yet
  module _ (sp : Span) (g : Ident) (args : List Expr) (there : list_any (defines_use (OfGuess g.name)) before ≡ true)
      (one : (n : List ℕ) → list_any (defines_use (OfGuess n)) before ≡ true → n ≡ g.name)
      (unverified : list_any (is_verify_of g.name) before ≡ false) where
    guessed : (k : Making) → Stood k before → is_guessed k ≡ true
    guessed Unmade i = absurd (both_ways _ i.0 (any_weaker _ _ (guess_calls g.name) before there))
    guessed Guessed i = refl
    guessed Made i = absurd (both_ways _ unverified (i.1 g.name there))

    updated : (k : Making) → Stood k before → stands_before v s ≡ true
        → (((is_guessed k && stands_before v s) && true) ≡ true) × Stood Guessed (before ++ Statement (Update sp g args) bs ∷ [])
    updated k i low = (and_from _ _ (and_from _ _ (guessed k i) low) refl, on k i (guessed k i))
      where
        on : (k : Making) → Stood k before → is_guessed k ≡ true → Stood Guessed (before ++ Statement (Update sp g args) bs ∷ [])
        on Unmade i e = absurd (false≢true e)
        on Guessed i e = stood_next Guessed before (Statement (Update sp g args) bs) refl refl i
        on Made i e = absurd (false≢true e)

    verified : (k : Making) → Stood k before → stands_at v s ≡ true
        → (((is_guessed k && stands_at v s) && true) ≡ true) × Stood Made (before ++ Statement (Verify sp g args) bs ∷ [])
    verified k i at = (
      and_from _ _ (and_from _ _ (guessed k i) at) refl,
      (
        any_front is_call before (Statement (Verify sp g args) bs) (any_weaker _ _ (guess_calls g.name) before there),
        (λ n d. ⊎_elim
            (λ t. any_last (is_verify_of n) before (Statement (Verify sp g args) bs)
            (subst (λ m. bytes_eq g.name m ≡ true) (sym (one n t)) (bytes_refl g.name)))
            (λ t. absurd (false≢true t))
            (any_split (defines_use (OfGuess n)) before (Statement (Verify sp g args) bs) d)),
      ),
    )

  if_next : (k : Making) (t : Stmt) (e : Expr) → is_call (Statement t bs) ≡ false → is_verify (Statement t bs) ≡ false
      → Stood k before → Goes k t (PathStatements.if_ops vs e)
  if_next k t (Variable y) c w i = still k t c w i
  if_next k t _ c w i = still k t c w i

  -- what the rules of calls ask of a statement after these places
  abbrev pub Asked : Stmt → Type 0
  Asked (Call sp args) = list_any is_call before ≡ false
  Asked (SpecCall sp g args) = (list_any is_call before ≡ false) × (stands_before v s ≡ true)
  Asked (Verify sp g args) =
      (list_any (defines_use (OfGuess g.name)) before ≡ true)
      × ((n : List ℕ) → list_any (defines_use (OfGuess n)) before ≡ true → n ≡ g.name)
      × (list_any (is_verify_of g.name) before ≡ false) × (stands_at v s ≡ true)
  Asked (Update sp g args) =
      (list_any (defines_use (OfGuess g.name)) before ≡ true)
      × ((n : List ℕ) → list_any (defines_use (OfGuess n)) before ≡ true → n ≡ g.name)
      × (list_any (is_verify_of g.name) before ≡ false) × (stands_before v s ≡ true)
  Asked _ = Unit {0}

  -- a statement that keeps the rules of calls makes the next thread in order, and with it the places are as far as its operations say
  pub stood_by : (k : Making) (t : Stmt) → Asked t → Stood k before → Goes k t (ops_of ms vs t)
  stood_by k (Call sp args) a i = calls k sp args i a
  stood_by k (SpecCall sp g args) a i = guesses k sp g args i a.0 a.1
  stood_by k (Verify sp g args) a i = verified sp g args a.0 a.1 a.2 k i a.3
  stood_by k (Update sp g args) a i = updated sp g args a.0 a.1 a.2 k i a.3
  stood_by k (Separator sp) a i = still k (Separator sp) refl refl i
  stood_by k (CombRead sp x at) a i =
      either_read (λ op. Goes k (CombRead sp x at) (op ∷ [])) (is_advisory_mem ms at.mem.name) (length vs) (mem_of ms at.mem.name) (var_of vs at.address.name)
      (still k (CombRead sp x at) refl refl i) (still k (CombRead sp x at) refl refl i)
  stood_by k (Bind sp x e) a i =
      either_bind (λ op. Goes k (Bind sp x e) (op ∷ [])) (is_advised vs e) (length vs) (flat_expr vs e) (still k (Bind sp x e) refl refl i)
      (still k (Bind sp x e) refl refl i)
  stood_by k (DelayedRead sp x at) a i = still k (DelayedRead sp x at) refl refl i
  stood_by k (Write sp at e) a i =
      either_write (λ op. Goes k (Write sp at e) (op ∷ [])) (is_advisory_mem ms at.mem.name) (mem_of ms at.mem.name) (var_of vs at.address.name)
      (flat_expr vs e) (still k (Write sp at e) refl refl i) (still k (Write sp at e) refl refl i)
  stood_by k (Reserve sp at R) a i = still k (Reserve sp at R) refl refl i
  stood_by k (Reserve sp at W) a i = still k (Reserve sp at W) refl refl i
  stood_by k (Block sp at) a i = still k (Block sp at) refl refl i
  stood_by k (Release sp at) a i = still k (Release sp at) refl refl i
  stood_by k (If sp e when otherwise) a i = if_next k (If sp e when otherwise) e refl refl i
  stood_by k (SpecCheck sp) a i = still k (SpecCheck sp) refl refl i
  stood_by k (SpecBarrier sp) a i = still k (SpecBarrier sp) refl refl i

-- at the end the next thread is made, where each guess on the path is verified there
pub made_end : (k : Making) (before : List Place) → Stood k before
    → list_any is_call before ≡ true
    → ((g : List ℕ) → list_any (defines_use (OfGuess g)) before ≡ true → list_any (is_verify_of g) before ≡ true)
    → is_made k ≡ true
made_end Unmade before i e f = absurd (both_ways _ i.0 e)
made_end Guessed before i e f = absurd (both_ways _ i.1 (any_weaker _ _ (verifies_one i.2) before (f i.2 i.3)))
made_end Made before i e f = refl
