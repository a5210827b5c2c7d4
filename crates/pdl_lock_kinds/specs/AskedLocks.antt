-- The locks that the memories of a pipe ask for, by their kinds and sizes.
use Rattle.std.specs.Prelude.{◌≡◌, false, List, [], ◌∷◌, map, Option, ⊤}
use Rattle.pdl_semantics.specs.Flat.{Lock, Plain, Queue, Bypass, Rename, Mem, is_delayed}
use Rattle.pdl_lock_any.specs.declared.AnyLock.{AnyLock}
use Rattle.pdl_lock_any.specs.AskedLock.{lock_asked, IsSizedLock}

-- the lock that each memory asks for, where it has one
abbrev pub locks_asked : List Mem → List (Option AnyLock)
locks_asked ms = map (λ (m : Mem). lock_asked m.lock) ms

-- a lock that gives values is one of a memory that answers at once
abbrev pub IsInTime : Lock → Mem → Type 0
IsInTime Plain m = ⊤
IsInTime (Queue n) m = ⊤
IsInTime (Bypass n) m = is_delayed m.kind ≡ false
IsInTime (Rename n) m = is_delayed m.kind ≡ false

-- each lock that gives values is of a memory that answers at once
abbrev pub AreInTime : List Mem → Type 0
AreInTime [] = ⊤
AreInTime (m ∷ ms) = IsInTime m.lock m × AreInTime ms

-- each lock has a size that it can have
abbrev pub AreSizedLocks : List Mem → Type 0
AreSizedLocks [] = ⊤
AreSizedLocks (m ∷ ms) = IsSizedLock m.lock m.depth × AreSizedLocks ms
