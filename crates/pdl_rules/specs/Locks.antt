-- Locks: rules F5, L1 and L3 to L7. The rules L are asked on each path, of the places before on that path, the earlier ones.
use Rattle.std.specs.Prelude.{ℕ, Bool, true, false, not, ◌&&◌, ◌||◌, ◌==◌, nat_le, List, [], ◌∷◌, Option, Some, None, fold, count_by, if◌then◌else◌, bytes_eq}
use Rattle.std.specs.List.{list_any}
use Rattle.std.specs.Option.{is_some}
use Rattle.pdl_semantics.specs.Tree.{Location, Kind, R, W, Stmt, Separator, CombRead, Bind, SpecCall, DelayedRead, Write, Reserve, Block, Release, LockDecl, If, Call, Verify, SpecCheck, SpecBarrier, Mem, Pipe, Update}
use Rattle.pdl_semantics.specs.Flatten.{is_advisory_mem}
use Rattle.pdl_rules.specs.Places.{Place, Parameter, Memory, Statement, End, StartClause, at_statement, on_some_path}
use Rattle.pdl_rules.specs.Forms.{writes, reserves}
use Rattle.pdl_rules.specs.Parts.{parts_of}

-- whether a memory has a lock, by its name
abbrev pub is_locked : List Mem → List ℕ → Bool
is_locked [] m = false
is_locked (x ∷ xs) m = if bytes_eq x.name.name m then is_some x.lock else is_locked xs m

-- whether a statement reserves, blocks, writes or releases a memory without lock
abbrev pub lacks_lock : List Mem → Stmt → Bool
lacks_lock ms (Separator _) = false
lacks_lock ms (CombRead _ _ _) = false
lacks_lock ms (Bind _ _ _) = false
lacks_lock ms (SpecCall _ _ _) = false
lacks_lock ms (DelayedRead _ _ _) = false
lacks_lock ms (Write _ at _) = not (is_locked ms at.mem.name || is_advisory_mem ms at.mem.name)
lacks_lock ms (Reserve _ at _) = not (is_locked ms at.mem.name)
lacks_lock ms (Block _ at) = not (is_locked ms at.mem.name)
lacks_lock ms (Release _ at) = not (is_locked ms at.mem.name)
lacks_lock ms (If _ _ _ _) = false
lacks_lock ms (Call _ _) = false
lacks_lock ms (Verify _ _ _) = false
lacks_lock ms (Update _ _ _) = false
lacks_lock ms (SpecCheck _) = false
lacks_lock ms (SpecBarrier _) = false

-- F5 at a place: a reserve, block, write or release of a memory without lock
abbrev pub breaks_f5 : Pipe → Place → Bool
breaks_f5 p x = at_statement false (λ s bs. lacks_lock p.mems s) x

-- THE STATE OF A LOCATION

-- whether two locations are of one memory and one address by their names
abbrev pub same_location : Location → Location → Bool
same_location a b = bytes_eq a.mem.name b.mem.name && bytes_eq a.address.name b.address.name

-- whether two reservations are of one kind, to be read or to be written
abbrev pub same_kind : Kind → Kind → Bool
same_kind R R = true
same_kind R W = false
same_kind W R = false
same_kind W W = true

-- what a thread holds of a location
pub data Hold : Type 0 where
  Nothing : Hold
  Reserved : (kind : Kind) → Hold
  Blocked : (kind : Kind) → Hold
  Released : Hold

-- what is held after a block: what was reserved is blocked
abbrev pub after_block : Hold → Hold
after_block Nothing = Nothing
after_block (Reserved k) = Blocked k
after_block (Blocked k) = Blocked k
after_block Released = Released

-- what is held of a location after a statement, by what was held before it
abbrev pub after_statement : Location → Hold → Stmt → Hold
after_statement at h (Separator _) = h
after_statement at h (CombRead _ _ _) = h
after_statement at h (Bind _ _ _) = h
after_statement at h (SpecCall _ _ _) = h
after_statement at h (DelayedRead _ _ _) = h
after_statement at h (Write _ _ _) = h
after_statement at h (Reserve _ l k) = if same_location l at then Reserved k else h
after_statement at h (Block _ l) = if same_location l at then after_block h else h
after_statement at h (Release _ l) = if same_location l at then Released else h
after_statement at h (If _ _ _ _) = h
after_statement at h (Call _ _) = h
after_statement at h (Verify _ _ _) = h
after_statement at h (Update _ _ _) = h
after_statement at h (SpecCheck _) = h
after_statement at h (SpecBarrier _) = h

-- what is held of a location after a place, by what was held before it
abbrev pub after_place : Location → Hold → Place → Hold
after_place at h x = at_statement h (λ s bs. after_statement at h s) x

-- what is held of a location after these places
abbrev pub hold_after : Location → List Place → Hold
hold_after at earlier = fold (after_place at) Nothing earlier

-- whether a location is reserved and not yet blocked
abbrev pub is_reserved : Hold → Bool
is_reserved Nothing = false
is_reserved (Reserved _) = true
is_reserved (Blocked _) = false
is_reserved Released = false

-- whether a location is blocked, for either kind
abbrev pub is_blocked : Hold → Bool
is_blocked Nothing = false
is_blocked (Reserved _) = false
is_blocked (Blocked _) = true
is_blocked Released = false

-- whether a location is blocked for this kind
abbrev pub is_blocked_for : Kind → Hold → Bool
is_blocked_for k Nothing = false
is_blocked_for k (Reserved _) = false
is_blocked_for k (Blocked j) = same_kind k j
is_blocked_for k Released = false

-- whether a location is reserved or blocked for this kind
abbrev pub is_held_for : Kind → Hold → Bool
is_held_for k Nothing = false
is_held_for k (Reserved j) = same_kind k j
is_held_for k (Blocked j) = same_kind k j
is_held_for k Released = false

-- whether a statement lacks the hold that it needs; a read of a memory without lock needs none
abbrev pub acts_unheld : List Mem → List Place → Stmt → Bool
acts_unheld ms earlier (Separator _) = false
acts_unheld ms earlier (CombRead _ _ at) = is_locked ms at.mem.name && not (is_blocked_for R (hold_after at earlier))
acts_unheld ms earlier (Bind _ _ _) = false
acts_unheld ms earlier (SpecCall _ _ _) = false
acts_unheld ms earlier (DelayedRead _ _ at) = is_locked ms at.mem.name && not (is_blocked_for R (hold_after at earlier))
acts_unheld ms earlier (Write _ at _) = not (is_advisory_mem ms at.mem.name) && not (is_blocked_for W (hold_after at earlier))
acts_unheld ms earlier (Reserve _ _ _) = false
acts_unheld ms earlier (Block _ at) = not (is_reserved (hold_after at earlier))
acts_unheld ms earlier (Release _ at) = not (is_blocked (hold_after at earlier))
acts_unheld ms earlier (If _ _ _ _) = false
acts_unheld ms earlier (Call _ _) = false
acts_unheld ms earlier (Verify _ _ _) = false
acts_unheld ms earlier (Update _ _ _) = false
acts_unheld ms earlier (SpecCheck _) = false
acts_unheld ms earlier (SpecBarrier _) = false

-- whether a place has a statement without the hold that it needs
abbrev pub lacks_hold : Pipe → List Place → Place → Bool
lacks_hold p earlier x = at_statement false (λ s bs. acts_unheld p.mems earlier s) x

-- L1 at a place: on some path its statement lacks the hold that it needs
abbrev pub breaks_l1 : Pipe → List Place → Place → Bool
breaks_l1 p before x = on_some_path (λ earlier. lacks_hold p earlier x) p before x

-- RESERVATIONS AND WRITES

-- whether a place reserves the memory for this kind
abbrev pub is_reserve_of : Kind → List ℕ → Place → Bool
is_reserve_of k m x = at_statement false (λ s bs. reserves (λ at j. same_kind k j && bytes_eq at.mem.name m) s) x

-- whether a place writes the memory
abbrev pub is_write_of : List ℕ → Place → Bool
is_write_of m x = at_statement false (λ s bs. writes (λ at e. bytes_eq at.mem.name m) s) x

-- whether a statement reserves a memory to be read after its write reservation, or reads it after a write
abbrev pub reads_late : List Mem → List Place → Stmt → Bool
reads_late ms earlier (Separator _) = false
reads_late ms earlier (CombRead _ _ at) = not (is_advisory_mem ms at.mem.name) && list_any (is_write_of at.mem.name) earlier
reads_late ms earlier (Bind _ _ _) = false
reads_late ms earlier (SpecCall _ _ _) = false
reads_late ms earlier (DelayedRead _ _ at) = list_any (is_write_of at.mem.name) earlier
reads_late ms earlier (Write _ _ _) = false
reads_late ms earlier (Reserve _ at R) = list_any (is_reserve_of W at.mem.name) earlier
reads_late ms earlier (Reserve _ _ W) = false
reads_late ms earlier (Block _ _) = false
reads_late ms earlier (Release _ _) = false
reads_late ms earlier (If _ _ _ _) = false
reads_late ms earlier (Call _ _) = false
reads_late ms earlier (Verify _ _ _) = false
reads_late ms earlier (Update _ _ _) = false
reads_late ms earlier (SpecCheck _) = false
reads_late ms earlier (SpecBarrier _) = false

-- whether a place reads after a write of the memory, or reserves it to be read after a write reservation
abbrev pub is_late_read : Pipe → List Place → Place → Bool
is_late_read p earlier x = at_statement false (λ s bs. reads_late p.mems earlier s) x

-- L3 at a place: on some path a read, or a reservation to be read, that comes too late
abbrev pub breaks_l3 : Pipe → List Place → Place → Bool
breaks_l3 p before x = on_some_path (λ earlier. is_late_read p earlier x) p before x

-- the size that a lock is declared with, 0 without lock
abbrev pub declared_size : Option LockDecl → ℕ
declared_size None = 0
declared_size (Some l) = l.size.value

-- the size of a memory's lock, by its name
abbrev pub lock_size : List Mem → List ℕ → ℕ
lock_size [] m = 0
lock_size (x ∷ xs) m = if bytes_eq x.name.name m then declared_size x.lock else lock_size xs m

-- how many reservations of a memory for this kind there may be on a path; one for writing where its lock has room for one
abbrev pub most_reservations : List Mem → Kind → List ℕ → ℕ
most_reservations ms R m = 4
most_reservations ms W m = if lock_size ms m == 1 then 1 else 2

-- whether a place makes one reservation of its memory more than there may be of this kind
abbrev pub is_one_too_many : Pipe → List Place → Place → Bool
is_one_too_many p earlier x =
    at_statement false
    (λ s bs. reserves (λ at k. nat_le (most_reservations p.mems k at.mem.name) (count_by (is_reserve_of k at.mem.name) earlier)) s) x

-- L4 at a place: on some path one reservation too many of a memory
abbrev pub breaks_l4 : Pipe → List Place → Place → Bool
breaks_l4 p before x = on_some_path (λ earlier. is_one_too_many p earlier x) p before x

-- whether a place reserves this location
abbrev pub reserves_location : Location → Place → Bool
reserves_location l x = at_statement false (λ s bs. reserves (λ at k. same_location at l) s) x

-- whether a place reserves a location that an earlier one reserves
abbrev pub is_reserved_again : List Place → Place → Bool
is_reserved_again earlier x = at_statement false (λ s bs. reserves (λ at k. list_any (reserves_location at) earlier) s) x

-- L5 at a place: on some path it reserves a location again
abbrev pub breaks_l5 : Pipe → List Place → Place → Bool
breaks_l5 p before x = on_some_path (λ earlier. is_reserved_again earlier x) p before x

-- whether a place writes this location
abbrev pub writes_location : Location → Place → Bool
writes_location l x = at_statement false (λ s bs. writes (λ at e. same_location at l) s) x

-- whether a location is held to be written, and the earlier places don't write it exactly once
abbrev pub is_not_written : List Place → Location → Bool
is_not_written earlier at = is_held_for W (hold_after at earlier) && not (count_by (writes_location at) earlier == 1)

-- the location of a memory that is reserved first for writing
abbrev pub first_reserved : List ℕ → List Place → Option Location
first_reserved m [] = None
first_reserved m (x ∷ xs) = if is_reserve_of W m x then at_statement None (λ s bs. (parts_of s).location) x else first_reserved m xs

-- whether a location is another one than that which is reserved first, and this isn't written yet
abbrev pub is_out_of_turn : Location → List Place → Option Location → Bool
is_out_of_turn at earlier None = false
is_out_of_turn at earlier (Some first) = not (same_location first at) && not (list_any (writes_location first) earlier)

-- whether a statement releases a write reservation through which there was not exactly one write, or writes through the second
-- one of a memory before the first
abbrev pub writes_wrongly : List Place → Stmt → Bool
writes_wrongly earlier (Separator _) = false
writes_wrongly earlier (CombRead _ _ _) = false
writes_wrongly earlier (Bind _ _ _) = false
writes_wrongly earlier (SpecCall _ _ _) = false
writes_wrongly earlier (DelayedRead _ _ _) = false
writes_wrongly earlier (Write _ at _) = is_out_of_turn at earlier (first_reserved at.mem.name earlier)
writes_wrongly earlier (Reserve _ _ _) = false
writes_wrongly earlier (Block _ _) = false
writes_wrongly earlier (Release _ at) = is_not_written earlier at
writes_wrongly earlier (If _ _ _ _) = false
writes_wrongly earlier (Call _ _) = false
writes_wrongly earlier (Verify _ _ _) = false
writes_wrongly earlier (Update _ _ _) = false
writes_wrongly earlier (SpecCheck _) = false
writes_wrongly earlier (SpecBarrier _) = false

-- whether a place releases a write reservation without exactly one write, or writes out of the order of the reservations
abbrev pub is_not_written_once : List Place → Place → Bool
is_not_written_once earlier x = at_statement false (λ s bs. writes_wrongly earlier s) x

-- L6 at a place: on some path it releases a write reservation without exactly one write, or writes out of turn
abbrev pub breaks_l6 : Pipe → List Place → Place → Bool
breaks_l6 p before x = on_some_path (λ earlier. is_not_written_once earlier x) p before x

-- whether a location in this hold is reserved and not released
abbrev pub is_unreleased : Hold → Bool
is_unreleased Nothing = false
is_unreleased (Reserved _) = true
is_unreleased (Blocked _) = true
is_unreleased Released = false

-- whether a place reserves a location that is not released after these places
abbrev pub leaves_open : List Place → Place → Bool
leaves_open earlier x = at_statement false (λ s bs. reserves (λ at k. is_unreleased (hold_after at earlier)) s) x

-- whether a place is the end, and an earlier one reserves a location that is not released
abbrev pub ends_open : List Place → Place → Bool
ends_open earlier (Parameter _) = false
ends_open earlier (Memory _) = false
ends_open earlier (Statement _ _) = false
ends_open earlier (End _) = list_any (leaves_open earlier) earlier
ends_open earlier (StartClause _) = false

-- L7 at a place: on some path it is the end, with a location reserved and not released
abbrev pub breaks_l7 : Pipe → List Place → Place → Bool
breaks_l7 p before x = on_some_path (λ earlier. ends_open earlier x) p before x
