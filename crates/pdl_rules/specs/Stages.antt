-- Stages: rules L2 and L8. The stage of a place goes by the text: the k-th separator begins stage k.
use Rattle.std.specs.Prelude.{ℕ, suc, Bool, true, false, not, ◌&&◌, ◌==◌, nat_lt, List, [], ◌∷◌, ◌++◌, count_by, if◌then◌else◌, bytes_eq, Option, Some, None}
use Rattle.std.specs.List.{list_any}
use Rattle.pdl_semantics.specs.Tree.{Stmt, Separator, CombRead, Bind, SpecCall, DelayedRead, Write, Reserve, Block, Release, If, Call, Verify, Update, SpecCheck, SpecBarrier, Pipe}
use Rattle.pdl_rules.specs.Places.{Place, Guard, Branch, at_statement, same_guard, same_truth, on_path, paths, places, places_after}
use Rattle.pdl_rules.specs.Forms.{reserves, releases}
use Rattle.pdl_rules.specs.Parts.{is_some_and}
use Rattle.pdl_rules.specs.Limits.{is_separator}
use Rattle.pdl_rules.specs.Locks.{is_locked}

-- how many stages have begun after stage 0 by these places
abbrev pub stage_after : List Place → ℕ
stage_after before = count_by is_separator before

-- the branches that a place stands in
abbrev pub branches_of : Place → List Branch
branches_of x = at_statement [] (λ s bs. bs) x

-- whether two branches are the same: of one guard, with one truth value
abbrev pub same_branch : Branch → Branch → Bool
same_branch a b = same_guard a.guard b.guard && same_truth a.truth b.truth

-- whether what stands in the branches bs stands in these too
abbrev pub are_outer : List Branch → List Branch → Bool
are_outer [] bs = true
are_outer (a ∷ xs) [] = false
are_outer (a ∷ xs) (b ∷ bs) = same_branch a b && are_outer xs bs

-- the stage of what stands in the branches bs: that of the last separator before it whose branches it stands in too, else the first; `begun` stages have begun, and the last such one is `found`
abbrev pub stage_from : ℕ → ℕ → List Branch → List Place → ℕ
stage_from begun found bs [] = found
stage_from begun found bs (x ∷ xs) =
    if is_separator x
    then stage_from (suc begun) (if are_outer (branches_of x) bs then suc begun else found) bs xs
    else stage_from begun found bs xs

-- the stage of what stands in these branches, with these places before it
abbrev pub stage_in : List Place → List Branch → ℕ
stage_in before bs = stage_from 0 0 bs before

-- the stage of a place, with these places before it
abbrev pub stage_of : List Place → Place → ℕ
stage_of before x = stage_in before (branches_of x)

-- the stage of the first of these places that passes the test; the others stand before them
abbrev pub first_stage : (Place → Bool) → List Place → List Place → Option ℕ
first_stage test before [] = None
first_stage test before (x ∷ xs) = if test x then Some (stage_of before x) else first_stage test (before ++ x ∷ []) xs

-- the stages of all places that pass the test
abbrev pub stages_that : (Place → Bool) → List Place → List Place → List ℕ
stages_that test before [] = []
stages_that test before (x ∷ xs) =
    if test x then stage_of before x ∷ stages_that test (before ++ x ∷ []) xs else stages_that test (before ++ x ∷ []) xs

-- whether a place in stage s has one before it that passes the test, the first of them in another stage
abbrev pub is_elsewhere : (Place → Bool) → List Place → ℕ → Bool
is_elsewhere test before s = is_some_and (λ k. not (k == s)) (first_stage test [] before)

-- whether a place reserves the memory, and whether it releases it
abbrev pub reserves_memory : List ℕ → Place → Bool
reserves_memory m x = at_statement false (λ s bs. reserves (λ at k. bytes_eq at.mem.name m) s) x

-- whether a place releases the memory
abbrev pub releases_memory : List ℕ → Place → Bool
releases_memory m x = at_statement false (λ s bs. releases (λ at. bytes_eq at.mem.name m) s) x

-- whether a statement in stage k reserves a memory in another stage than its first reserve, or releases it in another than its first release
abbrev pub moves_stage : List Place → ℕ → Stmt → Bool
moves_stage before k (Separator _) = false
moves_stage before k (CombRead _ _ _) = false
moves_stage before k (Bind _ _ _) = false
moves_stage before k (SpecCall _ _ _) = false
moves_stage before k (DelayedRead _ _ _) = false
moves_stage before k (Write _ _ _) = false
moves_stage before k (Reserve _ at _) = is_elsewhere (reserves_memory at.mem.name) before k
moves_stage before k (Block _ _) = false
moves_stage before k (Release _ at) = is_elsewhere (releases_memory at.mem.name) before k
moves_stage before k (If _ _ _ _) = false
moves_stage before k (Call _ _) = false
moves_stage before k (Verify _ _ _) = false
moves_stage before k (Update _ _ _) = false
moves_stage before k (SpecCheck _) = false
moves_stage before k (SpecBarrier _) = false

-- L2 at a place: a reserve or release of a memory in another stage than the first one
abbrev pub breaks_l2 : List Place → Place → Bool
breaks_l2 before x = at_statement false (λ s bs. moves_stage before (stage_in before bs) s) x

-- the stage that the next separator on a path begins, of which this many began before; 0 where there is none
abbrev pub next_on : List Guard → ℕ → List Place → ℕ
next_on path begun [] = 0
next_on path begun (x ∷ xs) =
    if is_separator x then (if on_path path x then suc begun else next_on path (suc begun) xs) else next_on path begun xs

-- whether a read of memory m that is bound in stage s is bound after the stage of m's releases, where m has a lock
abbrev pub is_bound_late : Pipe → List ℕ → ℕ → Bool
is_bound_late p m s = is_locked p.mems m && is_some_and (λ c. nat_lt c s) (first_stage (releases_memory m) [] (places p))

-- whether a read is bound too late: a comb read is bound in its stage, k, a delayed one in the next on the path, l
abbrev pub binds_late : Pipe → ℕ → ℕ → Stmt → Bool
binds_late p k l (Separator _) = false
binds_late p k l (CombRead _ _ at) = is_bound_late p at.mem.name k
binds_late p k l (Bind _ _ _) = false
binds_late p k l (SpecCall _ _ _) = false
binds_late p k l (DelayedRead _ _ at) = is_bound_late p at.mem.name l
binds_late p k l (Write _ _ _) = false
binds_late p k l (Reserve _ _ _) = false
binds_late p k l (Block _ _) = false
binds_late p k l (Release _ _) = false
binds_late p k l (If _ _ _ _) = false
binds_late p k l (Call _ _) = false
binds_late p k l (Verify _ _ _) = false
binds_late p k l (Update _ _ _) = false
binds_late p k l (SpecCheck _) = false
binds_late p k l (SpecBarrier _) = false

-- whether a place is a read of a locked memory that this path binds after the stage of its releases
abbrev pub bound_late : Pipe → List Guard → List Place → Place → Bool
bound_late p path before x =
    at_statement false (λ s bs. binds_late p (stage_in before bs) (next_on path (stage_after before) (places_after p before)) s) x

-- L8 at a place: a read of a locked memory that some path binds after the stage of its releases
abbrev pub breaks_l8 : Pipe → List Place → Place → Bool
breaks_l8 p before x = list_any (λ path. on_path path x && bound_late p path before x) (paths p)
