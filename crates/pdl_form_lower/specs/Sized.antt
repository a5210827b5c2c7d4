-- The sizes that a text tells of its memories are in bounds, as its limits want.
use Rattle.std.specs.Prelude.{◌≤◌, List, [], ◌∷◌, Option, Some, None}
use Rattle.pdl_semantics.specs.Tree.{LockDecl, Mem}
use Rattle.pdl_word.specs.Words.{widest}

-- at most 16 writes of a lock may be pending
abbrev pub IsSizedLock : Option LockDecl → Type 0
IsSizedLock None = Unit {0}
IsSizedLock (Some l) = l.size.value ≤ 16

-- a memory's words have at most widest bits, it has at most 65,536 of them, and its lock is in bounds
pub record IsSizedMem (m : Mem) : Type 0 where
  pub width : m.width.value ≤ widest
  pub depth : m.depth.value ≤ 65536
  pub lock : IsSizedLock m.lock

-- the sizes of all memories are in bounds
abbrev pub AreSizedMems : List Mem → Type 0
AreSizedMems [] = Unit {0}
AreSizedMems (m ∷ ms) = IsSizedMem m × AreSizedMems ms
