-- What the kinds of lock make of the pending writes of older threads.
use Rattle.std.specs.Prelude.{ℕ, Bool, true, false, not, Option, Some, None, ◌+◌, nat_le}
use Rattle.pdl_semantics.specs.Flat.{Lock, Plain, Queue, Bypass, Rename}

-- what the youngest of these pending writes says of an address: there is none, its value is still to come, or its value
pub data Latest : Type 0 where
  Nothing : Latest
  Coming : Latest
  Known : (value : ℕ) → Latest

-- what a pending write says by its value: that it is known, or still to come
abbrev pub as_latest : Option ℕ → Latest
as_latest None = Coming
as_latest (Some v) = Known v

-- whether no write of the address is pending
abbrev pub is_nothing : Latest → Bool
is_nothing Nothing = true
is_nothing _ = false

-- whether the value of the youngest pending write is still to come
abbrev pub is_coming : Latest → Bool
is_coming Coming = true
is_coming _ = false

-- the value of a ready read: the pending one, or the array's word where there is none
abbrev pub value_or : Latest → ℕ → ℕ
value_or Nothing v = v
value_or Coming v = v
value_or (Known w) v = w

-- a queue's read waits until no older write of the address is pending, the others' until its value is known
abbrev pub read_ready : Lock → Latest → Bool
read_ready Plain l = true
read_ready (Queue size) l = is_nothing l
read_ready (Bypass size) l = not (is_coming l)
read_ready (Rename size) l = not (is_coming l)

-- a queue's write waits likewise, the others' never
abbrev pub write_ready : Lock → Latest → Bool
write_ready Plain l = true
write_ready (Queue size) l = is_nothing l
write_ready (Bypass size) l = true
write_ready (Rename size) l = true

-- whether there is no lock
abbrev pub is_plain : Lock → Bool
is_plain Plain = true
is_plain (Queue size) = false
is_plain (Bypass size) = false
is_plain (Rename size) = false

-- whether a ready read finds no pending write
abbrev pub is_exact : Lock → Bool
is_exact Plain = true
is_exact (Queue size) = true
is_exact (Bypass size) = false
is_exact (Rename size) = false

-- whether there is room for k more beside n pending writes
abbrev pub has_room : Lock → ℕ → ℕ → Bool
has_room Plain k n = true
has_room (Queue size) k n = nat_le (k + n) size
has_room (Bypass size) k n = nat_le (k + n) size
has_room (Rename size) k n = nat_le (k + n) size

-- the value that a release puts into the array
abbrev pub commit_value : Option ℕ → ℕ
commit_value None = 0
commit_value (Some v) = v
