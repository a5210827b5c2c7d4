-- What a lock has room for, by its kind.
use Rattle.std.specs.Prelude.{ℕ, ◌+◌}
use Rattle.pdl_semantics.specs.Flat.{Lock, Plain, Queue, Bypass, Rename}

-- how many writes may be pending
abbrev pub size_of : Lock → ℕ
size_of Plain = 0
size_of (Queue n) = n
size_of (Bypass n) = n
size_of (Rename n) = n

-- how many words the array of a memory of so many words has
abbrev pub words_in : Lock → ℕ → ℕ
words_in Plain d = d
words_in (Queue _) d = d
words_in (Bypass _) d = d
words_in (Rename n) d = d + d
