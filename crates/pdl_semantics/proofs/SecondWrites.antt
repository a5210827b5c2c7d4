-- A memory that no path reserves twice for writing has at most one write reservation on each path.
use Rattle.std.proofs.Common.{◌≡◌, refl, sym, ap, ap₂, ◌∙◌, ℕ, suc, ◌≤◌, Bool, true, false, ◌&&◌, ◌||◌, not, List, [], ◌∷◌, ◌++◌, ◌==◌, cond, slice_index, arith}
use Rattle.std.proofs.lemmas.Bool.{eqb-true, and_parts, or_parts}
use Rattle.pdl_semantics.specs.Flat.{Guard, Stmt, list_all, takes_branch, all_hold}
use Rattle.pdl_semantics.specs.Stages.{list_any, onpath, is_write_reserve}
use Rattle.pdl_semantics.specs.SecondWrites.{write_reserves, same_truth, agrees_with, are_consistent, reserves_too, reserves_twice}

-- GUARDS THAT HOLD ON ONE PATH

one_truth : (a b c : Bool) → cond a c (not c) ≡ true → cond b c (not c) ≡ true → same_truth b a ≡ true
one_truth true true c h k = refl
one_truth true false c h k = absurd (cc (sym k ∙ ap not h))
one_truth false true c h k = absurd (cc (sym h ∙ ap not k))
one_truth false false c h k = refl

agree_here : (path : List ℕ) (g h : Guard) → takes_branch g.first (slice_index path g.var) ≡ true
    → takes_branch h.first (slice_index path h.var) ≡ true → agrees_with g h ≡ true
agree_here path g h e f = at (h.var == g.var) refl
  where
    at : (b : Bool) → (h.var == g.var) ≡ b → (not b || same_truth h.first g.first) ≡ true
    at true i =
        one_truth g.first h.first (slice_index path g.var == 1) e
        (ap (λ x. cond h.first (slice_index path x == 1) (not (slice_index path x == 1))) (sym (eqb-true h.var g.var i)) ∙ f)
    at false i = refl

agree_all : (path : List ℕ) (g : Guard) (hs : List Guard) → takes_branch g.first (slice_index path g.var) ≡ true
    → all_hold hs path ≡ true → list_all (agrees_with g) hs ≡ true
agree_all path g [] e f = refl
agree_all path g (h ∷ hs) e f =
    let k = and_parts (takes_branch h.first (slice_index path h.var)) (all_hold hs path) f in
    ap₂ (λ a b. a && b) (agree_here path g h e k.0) (agree_all path g hs e k.1)

-- guards that hold on a path are consistent
consistent_here : (path : List ℕ) (gs : List Guard) → all_hold gs path ≡ true → are_consistent gs ≡ true
consistent_here path [] h = refl
consistent_here path (g ∷ gs) h =
    let k = and_parts (takes_branch g.first (slice_index path g.var)) (all_hold gs path) h in
    ap₂ (λ a b. a && b) (agree_all path g gs k.0 k.1) (consistent_here path gs k.1)

hold_both : (path : List ℕ) (gs hs : List Guard) → all_hold gs path ≡ true → all_hold hs path ≡ true → all_hold (gs ++ hs) path ≡ true
hold_both path [] hs e f = f
hold_both path (g ∷ gs) hs e f =
    let k = and_parts (takes_branch g.first (slice_index path g.var)) (all_hold gs path) e in
    ap₂ (λ a b. a && b) k.0 (hold_both path gs hs k.1 f)

-- WRITE RESERVATIONS

-- where no other statement reserves the memory on a path with these guards, a path on which these hold has no further reservation
none_more : (m : ℕ) (path : List ℕ) (gs : List Guard) (xs : List Stmt) → all_hold gs path ≡ true
    → list_any (reserves_too m gs) xs ≡ false → write_reserves m (onpath path xs) ≡ 0
none_more m path gs [] e h = refl
none_more m path gs (x ∷ xs) e h =
    let k = or_parts (reserves_too m gs x) (list_any (reserves_too m gs) xs) h in
    at (all_hold x.guards path) refl (none_more m path gs xs e k.1) k.0
  where
    other : (b c : Bool) → c ≡ true → (b && c) ≡ false → b ≡ false
    other true c f i = absurd (cc (sym f ∙ i))
    other false c f i = refl

    at : (b : Bool) → all_hold x.guards path ≡ b → write_reserves m (onpath path xs) ≡ 0 → reserves_too m gs x ≡ false
        → write_reserves m (cond b (record x { guards = [] } ∷ onpath path xs) (onpath path xs)) ≡ 0
    at true f r i =
        ap (λ c. cond c (suc (write_reserves m (onpath path xs))) (write_reserves m (onpath path xs)))
        (other (is_write_reserve m x.op) (are_consistent (gs ++ x.guards)) (consistent_here path (gs ++ x.guards) (hold_both path gs x.guards e f)) i)
        ∙ r
    at false f r i = r

-- a memory that is not reserved twice is reserved at most once on each path
pub single_reserve : (m : ℕ) (path : List ℕ) (xs : List Stmt) → reserves_twice m xs ≡ false → write_reserves m (onpath path xs) ≤ 1
single_reserve m path [] h = omega arith
single_reserve m path (x ∷ xs) h =
    let k = or_parts (is_write_reserve m x.op && list_any (reserves_too m x.guards) xs) (reserves_twice m xs) h in
    at (all_hold x.guards path) refl (by (is_write_reserve m x.op) k.0 (single_reserve m path xs k.1)) (single_reserve m path xs k.1)
  where
    by : (b : Bool) → (b && list_any (reserves_too m x.guards) xs) ≡ false → write_reserves m (onpath path xs) ≤ 1 → all_hold x.guards path ≡ true
        → cond b (suc (write_reserves m (onpath path xs))) (write_reserves m (onpath path xs)) ≤ 1
    by true i r e = let none = none_more m path x.guards xs e i in omega (arith, none)
    by false i r e = r

    at : (b : Bool) → all_hold x.guards path ≡ b
        → (all_hold x.guards path ≡ true → cond (is_write_reserve m x.op) (suc (write_reserves m (onpath path xs))) (write_reserves m (onpath path xs)) ≤ 1)
        → write_reserves m (onpath path xs) ≤ 1
        → write_reserves m (cond b (record x { guards = [] } ∷ onpath path xs) (onpath path xs)) ≤ 1
    at true e f r = f e
    at false e f r = r
