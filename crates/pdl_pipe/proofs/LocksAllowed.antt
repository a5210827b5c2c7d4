-- The memories of a pipe that keeps the rules can have the locks that they ask for.
use Rattle.std.proofs.Common.{◌≡◌, ℕ, Bool, true, false, not, ◌&&◌, ◌||◌, ◌==◌, List, [], ◌∷◌, ◌++◌, map, Option, Some, None, refl, sym, ap, ◌∙◌, subst, append_assoc}
use Rattle.std.proofs.lemmas.Bool.{and_parts, or_parts, not-false, not-true, eqb-true, eqb-false}
use Rattle.std.proofs.Math.Bool.{or-false}
use Rattle.pdl_kit.specs.declared.mem_info.MemInfo.{MemInfo}
use Rattle.pdl_kit.specs.declared.rule.Rule.TheVariants.{Z7}
use Rattle.pdl_semantics.specs.Tree as tree
use Rattle.pdl_semantics.specs.Tree.{LockKind, LockDecl, Mem, Pipe}
use Rattle.pdl_semantics.specs.Flat as flat
use Rattle.pdl_semantics.specs.Flat.{is_delayed, is_advisory}
use Rattle.pdl_semantics.specs.Flatten.{flat_lock, mems_of}
use Rattle.pdl_rules.specs.Places.{Place, Parameter, Memory, End, StartClause, places, statements}
use Rattle.pdl_rules.specs.Parts.{is_some_and}
use Rattle.pdl_rules.specs.Limits.{is_size, is_width, is_depth, allows_lock, is_wrong_lock}
use Rattle.pdl_rules.specs.Refusal.{KeepsRules}
use Rattle.pdl_lockapi.proofs.LockKinds.{lock_is}
use Rattle.pdl_lockapi.specs.Forget.{as_lock}
use Rattle.pdl_lock_ring.specs.Slots.{IsSize}
use Rattle.pdl_lock_any.specs.AskedLock.{IsSizedLock}
use Rattle.pdl_lock_any.proofs.AskedKinds.{sized_allowed}
use Rattle.pdl_form.specs.Form.{Form}
use Rattle.pdl_pipe_walk.specs.Locked.{Members}
use Rattle.pdl_pipe_locks.specs.Suited.{AreSuited}
use Rattle.pdl_word.specs.Each.{Each}
use Rattle.pdl_lock_kinds.specs.AskedLocks.{IsInTime, AreInTime, AreSizedLocks}

-- ---- sizes

flip : (a b : ℕ) → (a == b) ≡ (b == a)
flip a b = at (a == b) refl (b == a) refl
  where
    at : (x : Bool) → (a == b) ≡ x → (y : Bool) → (b == a) ≡ y → x ≡ y
    at true e true f = refl
    at true e false f = absurd (eqb-false b a f (sym (eqb-true a b e)))
    at false e true f = absurd (eqb-false a b e (sym (eqb-true b a f)))
    at false e false f = refl

regroup : (a b c d e : Bool) → (a || b || c || d || e) ≡ (a || (b || (c || (d || e))))
regroup true b c d e = refl
regroup false true c d e = refl
regroup false false true d e = refl
regroup false false false true e = refl
regroup false false false false e = refl

size_of : (s : ℕ) → is_size s ≡ true → IsSize s
size_of s h =
    regroup (s == 1) (s == 2) (s == 4) (s == 8) (s == 16) ∙
    ap (λ b. b || ((s == 2) || ((s == 4) || ((s == 8) || (s == 16))))) (flip s 1)
    ∙ ap (λ b. (1 == s) || (b || ((s == 4) || ((s == 8) || (s == 16))))) (flip s 2)
    ∙ ap (λ b. (1 == s) || ((2 == s) || (b || ((s == 8) || (s == 16))))) (flip s 4)
    ∙ ap (λ b. (1 == s) || ((2 == s) || ((4 == s) || (b || (s == 16))))) (flip s 8)
    ∙ ap (λ b. (1 == s) || ((2 == s) || ((4 == s) || ((8 == s) || b)))) (flip s 16 ∙ sym (or-false (16 == s)))
    ∙ h

-- ---- memories

lock_fits : (m : Mem) (l : Option LockDecl) → is_some_and (is_wrong_lock m) l ≡ false → IsSizedLock (flat_lock l) m.depth.value
lock_fits m None e = tt
lock_fits m (Some l) e =
    let parts = and_parts (is_size l.size.value) (allows_lock m.depth.value (is_delayed m.kind) l.kind l.size.value)
    (not-false _ (or_parts (is_advisory m.kind) _ e).1) in
    subst (λ x. IsSizedLock x m.depth.value) (sym (lock_is l))
    (sized_allowed l.kind l.size.value m.depth.value (is_delayed m.kind) (size_of l.size.value parts.0) parts.1)

-- a lock that gives values is one of a memory that answers at once
time_allowed : (k : LockKind) (size depth : ℕ) (m : flat.Mem) → allows_lock depth (is_delayed m.kind) k size ≡ true → IsInTime (as_lock k size) m
time_allowed tree.Queue size depth m e = tt
time_allowed tree.Bypass size depth m e = not-true (is_delayed m.kind) e
time_allowed tree.Rename size depth m e = not-true (is_delayed m.kind) (and_parts (not (is_delayed m.kind)) _ e).0

lock_in_time : (m : Mem) (l : Option LockDecl) (x : flat.Mem) → is_delayed x.kind ≡ is_delayed m.kind → is_some_and (is_wrong_lock m) l ≡ false
    → IsInTime (flat_lock l) x
lock_in_time m None x d e = tt
lock_in_time m (Some l) x d e =
    let parts = and_parts (is_size l.size.value) (allows_lock m.depth.value (is_delayed m.kind) l.kind l.size.value)
    (not-false _ (or_parts (is_advisory m.kind) _ e).1) in
    subst (λ k. IsInTime k x) (sym (lock_is l))
    (time_allowed l.kind l.size.value m.depth.value x (ap (λ b. allows_lock m.depth.value b l.kind l.size.value) d ∙ parts.1))

abbrev IsRight : Mem → Type 0
IsRight m = is_some_and (is_wrong_lock m) m.lock ≡ false

all_right : (p : Pipe) → KeepsRules p → (ms : List Mem) (before later : List Place) → places p ≡ before ++ (map Memory ms ++ later)
    → Each IsRight ms
all_right p rules [] before later e = tt
all_right p rules (m ∷ ms) before later e = (
  (or_parts (not (is_width m.width.value && is_depth m.depth.value)) _ (rules Z7 before (Memory m) _ e)).1,
  all_right p rules ms (before ++ Memory m ∷ []) later (e ∙ sym (append_assoc before (Memory m ∷ []) (map Memory ms ++ later))),
)

right_locks : (p : Pipe) → KeepsRules p → Each IsRight p.mems
right_locks p rules =
    all_right p rules p.mems (map Parameter p.params) (statements [] p.body ++ End p.end ∷ StartClause p.start ∷ [])
    (append_assoc (map Parameter p.params ++ map Memory p.mems) (statements [] p.body) (End p.end ∷ StartClause p.start ∷ [])
    ∙ append_assoc (map Parameter p.params) (map Memory p.mems) (statements [] p.body ++ End p.end ∷ StartClause p.start ∷ []))

all_fit : (ms : List Mem) → Each IsRight ms → AreSizedLocks (mems_of ms)
all_fit [] h = tt
all_fit (m ∷ ms) h = (lock_fits m m.lock h.0, all_fit ms h.1)

all_in_time : (ms : List Mem) → Each IsRight ms → AreInTime (mems_of ms)
all_in_time [] h = tt
all_in_time (m ∷ ms) h = (lock_in_time m m.lock _ refl h.0, all_in_time ms h.1)

-- a pipe that keeps the rules asks for locks of sizes that locks can have
pub sized_locks : (p : Pipe) → KeepsRules p → AreSizedLocks (mems_of p.mems)
sized_locks p rules = all_fit p.mems (right_locks p rules)

-- a pipe that keeps the rules asks for bypass and renaming locks only of memories that answer at once
pub locks_in_time : (p : Pipe) → KeepsRules p → AreInTime (mems_of p.mems)
locks_in_time p rules = all_in_time p.mems (right_locks p rules)

-- ---- locks

-- locks that suit a form suit the same form
pub suited_as : {T : Type 0} (suits : T → MemInfo → Type 0) (l : Members T) (f g : Form) (xs ys : List (Option T)) → f ≡ g → ys ≡ xs
    → AreSuited suits l f xs → AreSuited suits l g ys
suited_as suits l f g xs ys e s h = subst (λ k. AreSuited suits l k ys) e (subst (AreSuited suits l f) (sym s) h)
