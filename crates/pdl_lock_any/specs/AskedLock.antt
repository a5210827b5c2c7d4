-- The lock that a memory asks for, and the sizes that it can have.
use Rattle.std.specs.Prelude.{ℕ, ◌≤◌, Option, Some, None, ⊤}
use Rattle.pdl_semantics.specs.Flat as flat
use Rattle.pdl_semantics.specs.Flat.{Lock}
use Rattle.pdl_lock_ring.specs.Slots.{IsSize}
use Rattle.pdl_lock_any.specs.declared.AnyLock.{AnyLock}
use Rattle.pdl_lock_any.specs.declared.AnyLock.TheVariants.{Queue, Bypass, Rename}

-- the module of a lock, by its kind
abbrev pub lock_asked : Lock → Option AnyLock
lock_asked flat.Plain = None
lock_asked (flat.Queue size) = Some (Queue (record { size = size }))
lock_asked (flat.Bypass size) = Some (Bypass (record { size = size }))
lock_asked (flat.Rename size) = Some (Rename (record { size = size }))

-- sizes that locks can have; a renaming lock serves up to 64 words and no more writes than words
abbrev pub IsSizedLock : Lock → ℕ → Type 0
IsSizedLock flat.Plain depth = ⊤
IsSizedLock (flat.Queue size) depth = IsSize size
IsSizedLock (flat.Bypass size) depth = IsSize size
IsSizedLock (flat.Rename size) depth = IsSize size × (depth ≤ 64) × (size ≤ depth)
