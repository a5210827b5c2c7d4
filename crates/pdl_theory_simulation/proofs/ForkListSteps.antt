-- The list of a fork as one more thread comes behind: one that enters, one that stays, and one that leaves.
use Rattle.std.proofs.Common.{◌≡◌, refl, sym, ap, ap₂, ◌∙◌, Bool, true, false, ◌&&◌, not, List, [], ◌∷◌, ◌++◌, if◌then◌else◌, append-nil, append_assoc}
use Rattle.pdl_semantics.specs.Flat.{Op, Verify, Stmt}
use Rattle.pdl_semantics.specs.Stages.{is_check}
use Rattle.pdl_semantics.specs.Moves.{is_nobody}
use Rattle.pdl_semantics.specs.Cycle.{but_first}
use Rattle.pdl_theory_turns.specs.Scans.{none_of}
use Rattle.pdl_theory_simulation.proofs.FlowFacts.{trunk_only}
use Rattle.pdl_theory_turns.proofs.Writes.{and_left, and_right}

-- statements that may stand in a branch have no verify and no update among them
pub unchecked_trunk : (xs : List Stmt) → none_of trunk_only xs ≡ true → none_of is_check xs ≡ true
unchecked_trunk [] h = refl
unchecked_trunk (x ∷ xs) h = ap₂ (λ a b. a && b) (off x.op (and_left _ _ h)) (unchecked_trunk xs (and_right _ _ h))
  where
    off : (op : Op) → not (trunk_only op) ≡ true → not (is_check op) ≡ true
    off (Verify last args) h = absurd (cc h)
    off _ h = refl

but_append : (xs : List Bool) (c : Bool) → is_nobody xs ≡ false → but_first (xs ++ c ∷ []) ≡ but_first xs ++ c ∷ []
but_append [] c h = absurd (cc h)
but_append (x ∷ xs) c h = refl

-- THE LIST OF FORK f, AS ONE MORE THREAD COMES BEHIND

-- behind the others, a thread that isn't inside the fork leaves of its list what they leave, and adds the branch that it enters, if it enters one
pub list_neutral : (l : Bool) (f e n b a x : List Bool)
    → (if l then but_first f else f) ++ e ≡ n → b ≡ [] → x ≡ a
    → (if l then but_first (f ++ b) else (f ++ b)) ++ (e ++ x) ≡ n ++ a
list_neutral l f e n b a x h i j =
    ap₂ (λ u v. (if l then but_first (f ++ u) else (f ++ u)) ++ (e ++ v)) i j
    ∙ ap (λ u. (if l then but_first u else u) ++ (e ++ a)) (append-nil f)
    ∙ sym (append_assoc (if l then but_first f else f) e a) ∙ ap (λ u. u ++ a) h

-- behind the others, a thread that is inside the fork and stays so has its branch last in the list that they leave
pub list_inside : (l : Bool) (f e n : List Bool) (c : Bool)
    → (if l then but_first f else f) ++ e ≡ n → e ≡ [] → (l ≡ true → is_nobody f ≡ false)
    → (if l then but_first (f ++ c ∷ []) else (f ++ c ∷ [])) ++ (e ++ []) ≡ n ++ c ∷ []
list_inside true f e n c h i j =
    ap (λ u. but_first (f ++ c ∷ []) ++ (u ++ [])) i ∙ append-nil _ ∙ but_append f c (j refl)
    ∙ ap (λ u. u ++ c ∷ []) (sym (append-nil (but_first f)) ∙ ap (λ u. but_first f ++ u) (sym i) ∙ h)
list_inside false f e n c h i j =
    ap (λ u. (f ++ c ∷ []) ++ (u ++ [])) i ∙ append-nil _
    ∙ ap (λ u. u ++ c ∷ []) (sym (append-nil f) ∙ ap (λ u. f ++ u) (sym i) ∙ h)

-- a thread that is first inside the fork and leaves it takes its branch out of the list
pub list_leaves : (l : Bool) (f e n : List Bool) (c : Bool)
    → (if l then but_first f else f) ++ e ≡ n → f ≡ [] → e ≡ [] → l ≡ false
    → but_first (f ++ c ∷ []) ++ (e ++ []) ≡ n ++ []
list_leaves l f e n c h i j k =
    ap₂ (λ u v. but_first (u ++ c ∷ []) ++ (v ++ [])) i j
    ∙ sym (ap (λ u. u ++ []) (sym h ∙ (λ t. (if k t then but_first (i t) else (i t)) ++ j t)))
