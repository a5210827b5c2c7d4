-- The rules on locks are the same of a source without its updates.
use Rattle.std.proofs.Common.{◌≡◌, refl, sym, ap, ap₂, ◌∙◌, ℕ, Bool, true, false, ◌&&◌, not, ◌==◌, nat_lt, nat_le, bytes_eq, List, [], ◌∷◌, ◌++◌, if◌then◌else◌, Option, Some, None}
use Rattle.std.specs.List.{list_any}
use mathlib.Core.Path.{fun_ext}
use Rattle.std.proofs.lemmas.Bool.{false≢true}
use Rattle.pdl_semantics.specs.Tree.{Location, Kind, R, W, Stmt, Separator, CombRead, DelayedRead, Write, Reserve, Block, Release, Update, Pipe}
use Rattle.pdl_semantics.specs.Flatten.{is_advisory_mem}
use Rattle.pdl_semantics.specs.UpdateFree.{without_update}
use Rattle.pdl_rules.specs.Places.{Guard, Place, Parameter, Statement, End, at_statement, places, places_after}
use Rattle.pdl_rules.specs.Forms.{writes, reserves, releases}
use Rattle.pdl_rules.specs.Parts.{parts_of, is_some_and}
use Rattle.pdl_rules.specs.Locks.{is_locked, same_location, same_kind, Hold, Nothing, after_statement, after_place, hold_after, is_reserved, is_blocked, is_blocked_for, is_held_for, acts_unheld, lacks_hold, breaks_l1, is_reserve_of, is_write_of, reads_late, is_late_read, breaks_l3, most_reservations, is_one_too_many, breaks_l4, reserves_location, is_reserved_again, breaks_l5, writes_location, first_reserved, is_out_of_turn, writes_wrongly, is_not_written_once, breaks_l6, is_unreleased, leaves_open, ends_open, breaks_l7}
use Rattle.pdl_rules.specs.Stages.{stage_after, stage_in, first_stage, reserves_memory, releases_memory, moves_stage, breaks_l2, next_on, is_bound_late, binds_late, breaks_l8}
use Rattle.pdl_rules.specs.Speculation.{is_update}
use Rattle.pdl_source.proofs.ThinPlaces.{thin_stmt, thin_place, thin, places_thin, Stays, thin_same, thin_at, stays_at, any_thin, count_thin, fold_thin, some_path_thin, each_path_thin}
use Rattle.pdl_source.proofs.ThinStages.{in_thin, after_thin, first_thin, elsewhere_thin, next_thin, later_thin}

-- what is held of a location
pub hold_thin : (at : Location) (xs : List Place) → hold_after at (thin xs) ≡ hold_after at xs
hold_thin at xs = fold_thin (after_place at) same none Nothing xs
  where
    same : (h : Hold) (x : Place) → after_place at h (thin_place x) ≡ after_place at h x
    same h = thin_at h _ _ (λ s bs. thin_same (after_statement at h) (λ s c w o. refl) s)

    none : (h : Hold) (x : Place) → is_update x ≡ true → after_place at h x ≡ h
    none h (Statement (Update s g args) bs) i = refl
    none h (Statement _ bs) i = absurd (false≢true i)
    none h (Parameter a) i = absurd (false≢true i)
    none h _ i = absurd (false≢true i)

-- L1 is broken at the same places
pub l1 : (p : Pipe) (before : List Place) (x : Place) → breaks_l1 (without_update p) (thin before) (thin_place x) ≡ breaks_l1 p before x
l1 p before x =
    some_path_thin p _ (λ earlier. lacks_hold (without_update p) earlier (thin_place x)) before x
    (λ earlier. thin_at false _ _ (λ s bs. held earlier (thin_stmt s) ∙ thin_same (acts_unheld p.mems earlier) (λ s c w o. refl) s) x)
  where
    held : (earlier : List Place) (s : Stmt) → acts_unheld p.mems (thin earlier) s ≡ acts_unheld p.mems earlier s
    held earlier (CombRead s x at) = ap (λ h. is_locked p.mems at.mem.name && not (is_blocked_for R h)) (hold_thin at earlier)
    held earlier (DelayedRead s x at) = ap (λ h. is_locked p.mems at.mem.name && not (is_blocked_for R h)) (hold_thin at earlier)
    held earlier (Write s at e) = ap (λ h. not (is_advisory_mem p.mems at.mem.name) && not (is_blocked_for W h)) (hold_thin at earlier)
    held earlier (Block s at) = ap (λ h. not (is_reserved h)) (hold_thin at earlier)
    held earlier (Release s at) = ap (λ h. not (is_blocked h)) (hold_thin at earlier)
    held earlier (Separator s) = refl
    held earlier _ = refl

reserve_memory_stays : (m : List ℕ) → Stays (reserves_memory m)
reserve_memory_stays m = stays_at (λ s. reserves (λ at k. bytes_eq at.mem.name m) s) (λ s c w o. refl) (λ s g args. refl)

release_memory_stays : (m : List ℕ) → Stays (releases_memory m)
release_memory_stays m = stays_at (λ s. releases (λ at. bytes_eq at.mem.name m) s) (λ s c w o. refl) (λ s g args. refl)

-- L2 is broken at the same places
pub l2 : (before : List Place) (x : Place) → breaks_l2 (thin before) (thin_place x) ≡ breaks_l2 before x
l2 before =
    thin_at false _ _
    (λ s bs. ap (λ k. moves_stage (thin before) k (thin_stmt s)) (in_thin before bs) ∙ moves (stage_in before bs) (thin_stmt s)
    ∙ thin_same (moves_stage before (stage_in before bs)) (λ s c w o. refl) s)
  where
    moves : (k : ℕ) (s : Stmt) → moves_stage (thin before) k s ≡ moves_stage before k s
    moves k (Reserve s at j) = elsewhere_thin (reserves_memory at.mem.name) (reserve_memory_stays at.mem.name) before k
    moves k (Release s at) = elsewhere_thin (releases_memory at.mem.name) (release_memory_stays at.mem.name) before k
    moves k (Separator s) = refl
    moves k _ = refl

reserve_of_stays : (k : Kind) (m : List ℕ) → Stays (is_reserve_of k m)
reserve_of_stays k m = stays_at (λ s. reserves (λ at j. same_kind k j && bytes_eq at.mem.name m) s) (λ s c w o. refl) (λ s g args. refl)

write_of_stays : (m : List ℕ) → Stays (is_write_of m)
write_of_stays m = stays_at (λ s. writes (λ at e. bytes_eq at.mem.name m) s) (λ s c w o. refl) (λ s g args. refl)

-- L3 is broken at the same places
pub l3 : (p : Pipe) (before : List Place) (x : Place) → breaks_l3 (without_update p) (thin before) (thin_place x) ≡ breaks_l3 p before x
l3 p before x =
    some_path_thin p _ (λ earlier. is_late_read (without_update p) earlier (thin_place x)) before x
    (λ earlier. thin_at false _ _ (λ s bs. late earlier (thin_stmt s) ∙ thin_same (reads_late p.mems earlier) (λ s c w o. refl) s) x)
  where
    late : (earlier : List Place) (s : Stmt) → reads_late p.mems (thin earlier) s ≡ reads_late p.mems earlier s
    late earlier (CombRead s x at) =
        ap (λ b. not (is_advisory_mem p.mems at.mem.name) && b) (any_thin (is_write_of at.mem.name) (write_of_stays at.mem.name) earlier)
    late earlier (DelayedRead s x at) = any_thin (is_write_of at.mem.name) (write_of_stays at.mem.name) earlier
    late earlier (Reserve s at R) = any_thin (is_reserve_of W at.mem.name) (reserve_of_stays W at.mem.name) earlier
    late earlier (Reserve s at W) = refl
    late earlier (Separator s) = refl
    late earlier _ = refl

-- reservations that are asked the same
reserves_alike : (f g : Location → Kind → Bool) → ((at : Location) (k : Kind) → f at k ≡ g at k) → (s : Stmt) → reserves f (thin_stmt s) ≡ reserves g s
reserves_alike f g same (Reserve s at k) = same at k
reserves_alike f g same (Separator s) = refl
reserves_alike f g same _ = refl

-- L4 is broken at the same places
pub l4 : (p : Pipe) (before : List Place) (x : Place) → breaks_l4 (without_update p) (thin before) (thin_place x) ≡ breaks_l4 p before x
l4 p before x =
    some_path_thin p _ (λ earlier. is_one_too_many (without_update p) earlier (thin_place x)) before x
    (λ earlier. thin_at false _ _
    (λ s bs. reserves_alike _ _
    (λ at k. ap (λ n. nat_le (most_reservations p.mems k at.mem.name) n)
    (count_thin (is_reserve_of k at.mem.name) (reserve_of_stays k at.mem.name) earlier)) s) x)

reserved_stays : (l : Location) → Stays (reserves_location l)
reserved_stays l = stays_at (λ s. reserves (λ at k. same_location at l) s) (λ s c w o. refl) (λ s g args. refl)

-- L5 is broken at the same places
pub l5 : (p : Pipe) (before : List Place) (x : Place) → breaks_l5 (without_update p) (thin before) (thin_place x) ≡ breaks_l5 p before x
l5 p before x =
    some_path_thin p _ (λ earlier. is_reserved_again earlier (thin_place x)) before x
    (λ earlier. thin_at false _ _ (λ s bs. reserves_alike _ _ (λ at k. any_thin (reserves_location at) (reserved_stays at) earlier) s) x)

written_stays : (l : Location) → Stays (writes_location l)
written_stays l = stays_at (λ s. writes (λ at e. same_location at l) s) (λ s c w o. refl) (λ s g args. refl)

-- the location that is reserved first
first_reserved_thin : (m : List ℕ) (xs : List Place) → first_reserved m (thin xs) ≡ first_reserved m xs
first_reserved_thin m [] = refl
first_reserved_thin m (x ∷ xs) =
    at (is_update x) (is_reserve_of W m x) refl ((reserve_of_stays W m).same x) ((reserve_of_stays W m).none x) (first_reserved_thin m xs)
  where
    place : Place → Option Location
    place y = at_statement None (λ s bs. (parts_of s).location) y

    at : (u k : Bool) → is_update x ≡ u → is_reserve_of W m (thin_place x) ≡ k → (is_update x ≡ true → k ≡ false)
        → first_reserved m (thin xs) ≡ first_reserved m xs
        → first_reserved m (if u then thin xs else thin_place x ∷ thin xs) ≡ (if k then place x else first_reserved m xs)
    at true true i r none e = absurd (false≢true (sym (none i)))
    at true false i r none e = e
    at false true i r none e =
        ap (λ (b : Bool). if b then place (thin_place x) else first_reserved m (thin xs)) r
        ∙ thin_at None _ _ (λ s bs. thin_same (λ t. (parts_of t).location) (λ s c w o. refl) s) x
    at false false i r none e = ap (λ (b : Bool). if b then place (thin_place x) else first_reserved m (thin xs)) r ∙ e

-- L6 is broken at the same places
pub l6 : (p : Pipe) (before : List Place) (x : Place) → breaks_l6 (without_update p) (thin before) (thin_place x) ≡ breaks_l6 p before x
l6 p before x =
    some_path_thin p _ (λ earlier. is_not_written_once earlier (thin_place x)) before x
    (λ earlier. thin_at false _ _ (λ s bs. wrong earlier (thin_stmt s) ∙ thin_same (writes_wrongly earlier) (λ s c w o. refl) s) x)
  where
    turn : (at : Location) (earlier : List Place) (o : Option Location) → is_out_of_turn at (thin earlier) o ≡ is_out_of_turn at earlier o
    turn at earlier None = refl
    turn at earlier (Some first) = ap (λ b. not (same_location first at) && not b) (any_thin (writes_location first) (written_stays first) earlier)

    wrong : (earlier : List Place) (s : Stmt) → writes_wrongly (thin earlier) s ≡ writes_wrongly earlier s
    wrong earlier (Write s at e) =
        turn at earlier (first_reserved at.mem.name (thin earlier)) ∙ ap (is_out_of_turn at earlier) (first_reserved_thin at.mem.name earlier)
    wrong earlier (Release s at) =
        ap₂ (λ h n. is_held_for W h && not (n == 1)) (hold_thin at earlier) (count_thin (writes_location at) (written_stays at) earlier)
    wrong earlier (Separator s) = refl
    wrong earlier _ = refl

-- whether a place reserves a location of which this is told
abbrev asks_of : (Location → Bool) → Place → Bool
asks_of test x = at_statement false (λ s bs. reserves (λ at k. test at) s) x

-- L7 is broken at the same places
pub l7 : (p : Pipe) (before : List Place) (x : Place) → breaks_l7 (without_update p) (thin before) (thin_place x) ≡ breaks_l7 p before x
l7 p before x = some_path_thin p _ (λ earlier. ends_open earlier (thin_place x)) before x (λ earlier. ends earlier x)
  where
    open' : (earlier : List Place) → list_any (leaves_open (thin earlier)) (thin earlier) ≡ list_any (leaves_open earlier) earlier
    open' earlier =
        ap (λ t. list_any (asks_of t) (thin earlier)) (fun_ext (λ at. ap is_unreleased (hold_thin at earlier)))
        ∙ any_thin (leaves_open earlier)
        (stays_at (λ s. reserves (λ at k. is_unreleased (hold_after at earlier)) s) (λ s c w o. refl) (λ s g args. refl)) earlier

    ends : (earlier : List Place) (x : Place) → ends_open (thin earlier) (thin_place x) ≡ ends_open earlier x
    ends earlier (End s) = open' earlier
    ends earlier (Parameter a) = refl
    ends earlier _ = refl

-- L8 is broken at the same places
pub l8 : (p : Pipe) (before : List Place) (x : Place) (later : List Place) → places p ≡ before ++ x ∷ later → is_update x ≡ false
    → breaks_l8 (without_update p) (thin before) (thin_place x) ≡ breaks_l8 p before x
l8 p before x later e i =
    each_path_thin p _ _ x
    (λ path. thin_at false _ _
    (λ s bs. ap₂ (λ k l. binds_late (without_update p) k l (thin_stmt s)) (in_thin before bs) (next path)
    ∙ binds (stage_in before bs) (next_on path (stage_after before) (places_after p before)) (thin_stmt s)
    ∙ thin_same (binds_late p (stage_in before bs) (next_on path (stage_after before) (places_after p before))) (λ s c w o. refl) s) x)
  where
    next : (path : List Guard) → next_on path (stage_after (thin before)) (places_after (without_update p) (thin before))
        ≡ next_on path (stage_after before) (places_after p before)
    next path = ap₂ (next_on path) (after_thin before) (later_thin p before x later e i) ∙ next_thin path (stage_after before) (places_after p before)

    late : (m : List ℕ) (s : ℕ) → is_bound_late (without_update p) m s ≡ is_bound_late p m s
    late m s =
        ap (λ o. is_locked p.mems m && is_some_and (λ c. nat_lt c s) o)
        (ap (first_stage (releases_memory m) []) (places_thin p) ∙ first_thin (releases_memory m) (release_memory_stays m) [] (places p))

    binds : (k l : ℕ) (s : Stmt) → binds_late (without_update p) k l s ≡ binds_late p k l s
    binds k l (CombRead s x at) = late at.mem.name k
    binds k l (DelayedRead s x at) = late at.mem.name l
    binds k l (Separator s) = refl
    binds k l _ = refl
