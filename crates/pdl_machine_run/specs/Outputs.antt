-- How many outputs a pipe has.
use Rattle.std.specs.Prelude.{ℕ, Bool, ◌+◌, ◌*◌, if◌then◌else◌, List, ◌∷◌, length}
use Rattle.pdl_semantics.specs.Flat.{Lock, Mem, Pipe, has_lock, is_delayed}
use Rattle.pdl_semantics.specs.SecondWrites.{all_twice}

-- how many show the commits of a memory with this lock, where it is told whether some path reserves it twice
abbrev pub commit_count : Lock → Bool → ℕ
commit_count l twice = if has_lock l then (if twice then 6 else 3) else 0

-- with two for the requests of a delayed one
abbrev pub memory_count : Bool → Mem → ℕ
memory_count twice m = commit_count m.lock twice + (if is_delayed m.kind then 2 else 0)

-- how many outputs all memories have
abbrev pub all_memory_count : List Bool → List Mem → ℕ
all_memory_count (t ∷ ts) (m ∷ ms) = memory_count t m + all_memory_count ts ms
all_memory_count _ _ = 0

-- how many outputs a pipe has: two for each stage, those of the memories, `ended` and `squash`
abbrev pub output_count : Pipe → ℕ
output_count p = 2 * length p.stages + all_memory_count (all_twice p.stmts 0 p.mems) p.mems + 2
