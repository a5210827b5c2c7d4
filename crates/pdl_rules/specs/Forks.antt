-- Forks and delayed reads: rules F1 to F4. A fork is an `if` that holds a separator.
use Rattle.std.specs.Prelude.{ℕ, ◌+◌, Bool, true, false, not, ◌&&◌, ◌||◌, ◌==◌, List, [], ◌∷◌, drop, take, length, if◌then◌else◌, bytes_eq}
use Rattle.std.specs.List.{list_any}
use Rattle.pdl_semantics.specs.Tree.{Stmt, Separator, CombRead, Bind, SpecCall, DelayedRead, Write, Reserve, Block, Release, If, Call, Verify, Update, SpecCheck, SpecBarrier, Stmts, Location, Mem, Pipe}
use Rattle.pdl_semantics.specs.Flat.{is_delayed}
use Rattle.pdl_semantics.specs.Flatten.{separators}
use Rattle.pdl_rules.specs.Places.{Place, Branch, at_statement, statements, places, places_after}
use Rattle.pdl_rules.specs.Forms.{fetches}
use Rattle.pdl_rules.specs.Parts.{parts_of}
use Rattle.pdl_rules.specs.Limits.{is_separator}
use Rattle.pdl_rules.specs.Stages.{stage_after, stage_in, branches_of, are_outer}

-- whether a separator stands somewhere in these statements
abbrev pub holds_separator : Stmts → Bool
holds_separator ss = not (separators ss == 0)

-- whether a statement is a reserve, a release, or a call or guess statement
abbrev pub is_trunk_only : Stmt → Bool
is_trunk_only (Separator _) = false
is_trunk_only (CombRead _ _ _) = false
is_trunk_only (Bind _ _ _) = false
is_trunk_only (SpecCall _ _ _) = true
is_trunk_only (DelayedRead _ _ _) = false
is_trunk_only (Write _ _ _) = false
is_trunk_only (Reserve _ _ _) = true
is_trunk_only (Block _ _) = false
is_trunk_only (Release _ _) = true
is_trunk_only (If _ _ _ _) = false
is_trunk_only (Call _ _) = true
is_trunk_only (Verify _ _ _) = true
is_trunk_only (Update _ _ _) = true
is_trunk_only (SpecCheck _) = true
is_trunk_only (SpecBarrier _) = true

-- F1 at a place: a reserve, a release, or a call or guess statement, in a branch that holds a separator
abbrev pub breaks_f1 : Place → Bool
breaks_f1 x = at_statement false (λ s bs. is_trunk_only s && list_any (λ (b : Branch). holds_separator b.inside) bs) x

-- whether a statement is a fork: one of its branches holds a separator
abbrev pub is_fork : Stmt → Bool
is_fork s = list_any holds_separator (parts_of s).branches

-- how many places stand inside a statement
abbrev pub places_in : List Stmts → ℕ
places_in [] = 0
places_in (ss ∷ rest) = length (statements [] ss) + places_in rest

-- whether a separator that stands in just these branches comes first
abbrev pub starts_with_separator : List Branch → List Place → Bool
starts_with_separator bs [] = false
starts_with_separator bs (x ∷ xs) = is_separator x && (are_outer (branches_of x) bs && are_outer bs (branches_of x))

-- whether what stands in these branches stands in the stage of the fork around it
abbrev pub is_in_outer_stage : List Place → List Branch → Bool
is_in_outer_stage before [] = false
is_in_outer_stage before (b ∷ bs) = stage_in before (b ∷ bs) == stage_in before (take (length bs) (b ∷ bs))

-- whether a statement in these branches, with these places before and after it, is a fork of the fifth level, one in a branch of another before that branch's first separator, and so in the stage of the other one, or one that no separator follows directly
abbrev pub is_wrong_fork : List Place → List Place → Stmt → List Branch → Bool
is_wrong_fork before later s bs =
    is_fork s && (length bs == 4 || is_in_outer_stage before bs || not (starts_with_separator bs (drop (places_in (parts_of s).branches) later)))

-- F2 at a place: a fork of the fifth level, one in the stage of the fork around it, or one that no separator follows directly
abbrev pub breaks_f2 : Pipe → List Place → Place → Bool
breaks_f2 p before x = at_statement false (λ s bs. is_wrong_fork before (places_after p before) s bs) x

-- whether a place is a delayed read of this memory
abbrev pub breaks_fetch_order : List ℕ → Place → Bool
breaks_fetch_order m x = at_statement false (λ s bs. fetches (λ at. bytes_eq at.mem.name m) s) x

-- whether a delayed read of this location, in stage k, is in the last stage or not the first of its memory
abbrev pub is_wrong_fetch : Pipe → List Place → ℕ → Location → Bool
is_wrong_fetch p before k at = (k == stage_after (places p)) || list_any (breaks_fetch_order at.mem.name) before

-- F3 at a place: a delayed read in the last stage, or of a memory that a delayed read before it reads
abbrev pub breaks_f3 : Pipe → List Place → Place → Bool
breaks_f3 p before x = at_statement false (λ s bs. fetches (is_wrong_fetch p before (stage_in before bs)) s) x

-- whether the memory of this name is delayed
abbrev pub is_delayed_memory : List Mem → List ℕ → Bool
is_delayed_memory [] m = false
is_delayed_memory (x ∷ xs) m = if bytes_eq x.name.name m then is_delayed x.kind else is_delayed_memory xs m

-- whether a statement is a comb read of a delayed memory, or a delayed read of a comb one
abbrev pub is_wrong_read : List Mem → Stmt → Bool
is_wrong_read ms (Separator _) = false
is_wrong_read ms (CombRead _ _ at) = is_delayed_memory ms at.mem.name
is_wrong_read ms (Bind _ _ _) = false
is_wrong_read ms (SpecCall _ _ _) = false
is_wrong_read ms (DelayedRead _ _ at) = not (is_delayed_memory ms at.mem.name)
is_wrong_read ms (Write _ _ _) = false
is_wrong_read ms (Reserve _ _ _) = false
is_wrong_read ms (Block _ _) = false
is_wrong_read ms (Release _ _) = false
is_wrong_read ms (If _ _ _ _) = false
is_wrong_read ms (Call _ _) = false
is_wrong_read ms (Verify _ _ _) = false
is_wrong_read ms (Update _ _ _) = false
is_wrong_read ms (SpecCheck _) = false
is_wrong_read ms (SpecBarrier _) = false

-- F4 at a place: a read of the other kind than its memory's
abbrev pub breaks_f4 : Pipe → Place → Bool
breaks_f4 p x = at_statement false (λ s bs. is_wrong_read p.mems s) x
