-- What was done so far at a location, and with a memory.
use Rattle.std.specs.Prelude.{◌≡◌, ℕ, ◌<◌, Bool, List, length, get_or, min, count_by, slice_get, Option, None, Some}
use Rattle.std.specs.List.{list_any}
use Rattle.pdl_semantics.specs.Tree.{Location, R, W}
use Rattle.pdl_rules.specs.Places.{Place}
use Rattle.pdl_rules.specs.Parts.{is_some_and}
use Rattle.pdl_rules.specs.Locks as spec
use Rattle.pdl_paths.specs.Actions.{location_at}
use Rattle.pdl_locks.specs.declared.numbers.Keys.{Keys}
use Rattle.pdl_locks.specs.declared.numbers.Keys.TheVariants.{Locations, Memories}
use Rattle.pdl_locks.specs.declared.uses.LocationUse as location
use Rattle.pdl_locks.specs.declared.uses.MemoryUse as memory
use Rattle.pdl_locks.specs.Numbers.{first_place}
use Rattle.pdl_locks.specs.Holds.{hold_view}

-- what is kept of a location tells its uses on the path so far; writes count up to two
pub record IsUsed (used : location.LocationUse) (l : Location) (earlier : List Place) : Type 0 where
  pub hold : hold_view used.hold ≡ spec.hold_after l earlier
  pub reserved : used.reserved ≡ list_any (spec.reserves_location l) earlier
  pub writes : used.writes ≡ min 2 (count_by (spec.writes_location l) earlier)

-- what is kept of a memory tells its uses on the path so far; read reservations count up to four, write reservations up to two
pub record IsUsedMemory (used : memory.MemoryUse) (l : Location) (earlier : List Place) : Type 0 where
  pub reads : used.reads ≡ min 4 (count_by (spec.is_reserve_of R l.mem.name) earlier)
  pub reserves : used.reserves ≡ min 2 (count_by (spec.is_reserve_of W l.mem.name) earlier)
  pub written : used.written ≡ list_any (spec.is_write_of l.mem.name) earlier

-- the use is that of the place's own location, or of its memory, after these places
abbrev pub IsOwn : {T : Type 0} → (T → Location → List Place → Type 0) → T → List Place → Place → Type 0
IsOwn Is used earlier x = (l : Location) → location_at x ≡ Some l → Is used l earlier

-- of each location of a pipe this is the use after these places, by its number
pub record AreKept {T : Type 0} (keys : Keys) (Is : T → Location → List Place → Type 0) (all earlier : List Place) (uses : List T) : Type 0 where
  pub one_each : length uses ≡ length all
  pub each : (l : Location) (other : T) → first_place keys l all < length all → Is (get_or uses (first_place keys l all) other) l earlier

-- the number of the location that was reserved first for writing, where one was
abbrev pub first_number : List Place → Option Location → Option ℕ
first_number all None = None
first_number all (Some f) = Some (first_place Locations f all)

-- this is the number of the location of a memory that was reserved first for writing
abbrev pub IsFirst : List Place → Option ℕ → Location → List Place → Type 0
IsFirst all n l earlier = n ≡ first_number all (spec.first_reserved l.mem.name earlier)

-- the location of a memory that was reserved first stands at one of the places
abbrev pub IsThere : List Place → Location → List Place → Type 0
IsThere all l earlier = (f : Location) → spec.first_reserved l.mem.name earlier ≡ Some f → first_place Locations f all < length all

-- it tells whether the place's own location is out of turn after these places
abbrev pub IsTurn : Bool → List Place → Place → Type 0
IsTurn waits earlier x =
    (l : Location) → location_at x ≡ Some l → waits ≡ spec.is_out_of_turn l earlier (spec.first_reserved l.mem.name earlier)

-- what is kept of the locations of a pipe, and of which location of each memory was reserved first
abbrev pub AreTurns : List Place → List Place → List location.LocationUse → List (Option ℕ) → Type 0
AreTurns all earlier uses first = AreKept Locations IsUsed all earlier uses × AreKept Memories (IsFirst all) all earlier first

-- whether the location that has a number is reserved and not released
abbrev pub is_open : List location.LocationUse → ℕ → Bool
is_open uses n = is_some_and (λ (used : location.LocationUse). spec.is_unreleased (hold_view used.hold)) (slice_get uses n)
