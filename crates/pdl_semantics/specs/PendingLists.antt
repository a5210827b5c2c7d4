-- Pending writes of a memory as a list: whose they are, and how many are older than a thread.
use Rattle.std.specs.Prelude.{◌≡◌, ℕ, zero, suc, ◌≤◌, List, [], ◌∷◌, Some, if◌then◌else◌, nat_lt}
use Rattle.pdl_semantics.specs.Machine.{Pending}

-- the threads of the pending writes are these, from a number on, in order
abbrev pub AreOrdered : ℕ → List Pending → Type 0
AreOrdered t [] = Unit {0}
AreOrdered t (e ∷ es) = (t ≤ e.thread) × AreOrdered e.thread es

-- how many of them are of threads older than this one
abbrev pub count_older : ℕ → List Pending → ℕ
count_older t [] = 0
count_older t (e ∷ es) = if nat_lt e.thread t then suc (count_older t es) else count_older t es

-- each of the oldest k of them has its value
abbrev pub AreWritten : ℕ → List Pending → Type 0
AreWritten zero es = Unit {0}
AreWritten (suc k) [] = ⊥
AreWritten (suc k) (e ∷ es) = (v : ℕ) × (e.value ≡ Some v) × AreWritten k es
