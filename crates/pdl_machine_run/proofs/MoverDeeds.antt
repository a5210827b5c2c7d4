-- Reservations and releases of those who move, stage by stage.
use Rattle.std.proofs.Common.{◌≡◌, refl, sym, ap, ◌∙◌, ℕ, zero, suc, ◌+◌, ◌<◌, ◌≤◌, List, [], ◌∷◌, ◌++◌, drop, length, length-append, Option, Some, None, get_or, arith}
use Rattle.std.proofs.lemmas.List.{drop_more}
use Rattle.pdl_semantics.specs.Machine.{Pending}
use Rattle.pdl_semantics.specs.Moves.{Act}
use Rattle.pdl_semantics.specs.Cycle.{new_entries, with_reserves, all_releases}
use Rattle.pdl_machine_run.specs.declared.stage.Stage as r_stage
use Rattle.pdl_machine_run.specs.Acts.{mover_of, act_of, acts_of}

appended_both : (m : ℕ) (as' bs : List Act) (list : List Pending)
    → with_reserves m (as' ++ bs) list ≡ with_reserves m as' (with_reserves m bs list)
appended_both m [] bs list = refl
appended_both m (a ∷ as') bs list = ap (λ (es : List Pending). es ++ new_entries m a.thread.number a.does.reserves) (appended_both m as' bs list)

appended_longer : (m : ℕ) (as' : List Act) (list : List Pending) → length list ≤ length (with_reserves m as' list)
appended_longer m [] list = omega arith
appended_longer m (a ∷ as') list =
    let rest = appended_longer m as' list in
    let sum = length-append (with_reserves m as' list) (new_entries m a.thread.number a.does.reserves) in
    omega arith

-- the number of its stage makes no difference
appended_anywhere : (m j k : ℕ) (o : Option ℕ) (x : r_stage.Stage) (list : List Pending)
    → with_reserves m (act_of j o x) list ≡ with_reserves m (act_of k o x) list
appended_anywhere m j k None x list = refl
appended_anywhere m j k (Some n) x list = refl

-- the stages from j on make no more entries than all
appended_part : (m k j : ℕ) (xs : List r_stage.Stage) (list : List Pending)
    → length (with_reserves m (acts_of (k + j) (drop j xs)) list) ≤ length (with_reserves m (acts_of k xs) list)
appended_part m k zero xs list =
    let same : k + 0 ≡ k = omega arith in
    let equal = ap (λ i. length (with_reserves m (acts_of i xs) list)) same in
    omega arith
appended_part m k (suc j) [] list = omega arith
appended_part m k (suc j) (x ∷ xs) list =
    let same : k + suc j ≡ suc k + j = omega arith in
    let rest = appended_part m (suc k) j xs list in
    let equal = ap (λ i. length (with_reserves m (acts_of i (drop j xs)) list)) same in
    let both = ap (λ (es : List Pending). length es) (appended_both m (act_of k (mover_of x) x) (acts_of (suc k) xs) list) in
    let longer = appended_longer m (act_of k (mover_of x) x) (with_reserves m (acts_of (suc k) xs) list) in
    omega arith

-- the stage before them has room too
pub room_here : (m i j : ℕ) (xs : List r_stage.Stage) (x d : r_stage.Stage) (list : List Pending) (most : ℕ)
    → j < length xs → x ≡ get_or xs j d → length (with_reserves m (acts_of 0 xs) list) ≤ most
    → length (with_reserves m (act_of i (mover_of x) x) (with_reserves m (acts_of (j + 1) (drop (j + 1) xs)) list)) ≤ most
room_here m i j xs x d list most there is room =
    let part = appended_part m 0 j xs list in
    let same : 0 + j ≡ j = omega arith in
    let up : suc j ≡ j + 1 = omega arith in
    let at = ap (λ k. length (with_reserves m (acts_of k (drop j xs)) list)) same in
    let split : acts_of j (drop j xs) ≡ act_of j (mover_of x) x ++ acts_of (j + 1) (drop (j + 1) xs) =
    ap (acts_of j) (drop_more xs j d there) ∙ ap (λ (y : r_stage.Stage). act_of j (mover_of y) y ++ acts_of (suc j) (drop (j + 1) xs)) (sym is)
    ∙ ap (λ k. act_of j (mover_of x) x ++ acts_of k (drop (j + 1) xs)) up in
    let later = with_reserves m (acts_of (j + 1) (drop (j + 1) xs)) list in
    let whole : length (with_reserves m (acts_of j (drop j xs)) list) ≡ length (with_reserves m (act_of i (mover_of x) x) later) =
    ap (λ (as' : List Act). length (with_reserves m as' list)) split
    ∙ ap (λ (es : List Pending). length es)
    (appended_both m (act_of j (mover_of x) x) (acts_of (j + 1) (drop (j + 1) xs)) list ∙ appended_anywhere m j i (mover_of x) x later) in
    omega arith

-- RELEASES

released_both : (m : ℕ) (as' bs : List Act) → all_releases m (as' ++ bs) ≡ all_releases m bs + all_releases m as'
released_both m [] bs = omega arith
released_both m (a ∷ as') bs = let rest = released_both m as' bs in omega arith

-- the number of its stage makes no difference
released_anywhere : (m j k : ℕ) (o : Option ℕ) (x : r_stage.Stage) → all_releases m (act_of j o x) ≡ all_releases m (act_of k o x)
released_anywhere m j k None x = refl
released_anywhere m j k (Some n) x = refl

-- the stages from j on release no more than all
released_part : (m k j : ℕ) (xs : List r_stage.Stage) → all_releases m (acts_of (k + j) (drop j xs)) ≤ all_releases m (acts_of k xs)
released_part m k zero xs =
    let same : k + 0 ≡ k = omega arith in
    let equal = ap (λ i. all_releases m (acts_of i xs)) same in
    omega arith
released_part m k (suc j) [] = omega arith
released_part m k (suc j) (x ∷ xs) =
    let same : k + suc j ≡ suc k + j = omega arith in
    let rest = released_part m (suc k) j xs in
    let equal = ap (λ i. all_releases m (acts_of i (drop j xs))) same in
    let both = released_both m (act_of k (mover_of x) x) (acts_of (suc k) xs) in
    omega arith

-- with the stage before them they release no more than all
pub few_here : (m i j : ℕ) (xs : List r_stage.Stage) (x d : r_stage.Stage)
    → j < length xs → x ≡ get_or xs j d
    → all_releases m (acts_of (j + 1) (drop (j + 1) xs)) + all_releases m (act_of i (mover_of x) x) ≤ all_releases m (acts_of 0 xs)
few_here m i j xs x d there is =
    let part = released_part m 0 j xs in
    let same : 0 + j ≡ j = omega arith in
    let up : suc j ≡ j + 1 = omega arith in
    let at = ap (λ k. all_releases m (acts_of k (drop j xs))) same in
    let split : acts_of j (drop j xs) ≡ act_of j (mover_of x) x ++ acts_of (j + 1) (drop (j + 1) xs) =
    ap (acts_of j) (drop_more xs j d there) ∙ ap (λ (y : r_stage.Stage). act_of j (mover_of y) y ++ acts_of (suc j) (drop (j + 1) xs)) (sym is)
    ∙ ap (λ k. act_of j (mover_of x) x ++ acts_of k (drop (j + 1) xs)) up in
    let whole : all_releases m (acts_of j (drop j xs)) ≡ all_releases m (acts_of (j + 1) (drop (j + 1) xs)) + all_releases m (act_of j (mover_of x) x) =
    ap (all_releases m) split ∙ released_both m (act_of j (mover_of x) x) (acts_of (j + 1) (drop (j + 1) xs)) in
    let anywhere = released_anywhere m j i (mover_of x) x in
    omega arith
