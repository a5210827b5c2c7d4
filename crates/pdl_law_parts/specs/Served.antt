-- How the threads use the locks in a cycle, as circuits serve them that commit at most two writes of a memory in a cycle, and one where no path reserves it twice.
use Rattle.std.specs.Prelude.{◌≡◌, ℕ, ◌<◌, ◌≤◌, Bool, true, false, if◌then◌else◌, List, [], Some, length}
use Rattle.pdl_semantics.specs.Flat.{Pipe}
use Rattle.pdl_semantics.specs.Machine.{Thread, Pending, State, lock_of, reserves_of, deeds}
use Rattle.pdl_semantics.specs.Cycle.{with_reserves, all_releases}
use Rattle.pdl_semantics.specs.Sound.{entries_by}
use Rattle.pdl_semantics.specs.SecondWrites.{reserves_twice}
use Rattle.pdl_machine_facts.specs.Slots.{here, stage_moves, moving}
use Rattle.pdl_machine_facts.specs.Use.{IsInUse}
use Rattle.pdl_law_parts.specs.Stands.{own_entries}

-- how many writes of memory m one thread may have pending, and a cycle may release: one where no path reserves the memory twice for writing
abbrev pub at_most : Pipe → ℕ → ℕ
at_most p m = if reserves_twice m p.stmts then 2 else 1

-- the pending writes of memory m of a thread in stage k, with those that it reserves there
abbrev pub own_with : Pipe → State → ℕ → Thread → ℕ → List Pending
own_with p st k t m = own_entries st t.number (deeds p st k t) m

-- the use of the locks, with what each thread has of its own
pub record IsServed (p : Pipe) (st : State) (bits : List Bool) : Type 0 where
  pub in_use : IsInUse p st bits
  pub most : (k : ℕ) (t : Thread) (m : ℕ) → here p st bits k ≡ Some t → m < length p.mems → reserves_of m (deeds p st k t).reserves ≤ at_most p m
  -- a thread that reserves a write of a memory has none of it pending before
  pub fresh : (k : ℕ) (t : Thread) (m : ℕ) → here p st bits k ≡ Some t → m < length p.mems
      → 1 ≤ reserves_of m (deeds p st k t).reserves → entries_by t.number (lock_of st m) ≡ []
  -- of the pending writes with those that this cycle appends a thread that moves has its own, and no more
  pub own : (k : ℕ) (t : Thread) (m : ℕ) → here p st bits k ≡ Some t → stage_moves p st bits k ≡ true → m < length p.mems
      → entries_by t.number (with_reserves m (moving p st bits) (lock_of st m)) ≡ own_with p st k t m
  -- a thread that stays has what it had
  pub kept : (k : ℕ) (t : Thread) (m : ℕ) → here p st bits k ≡ Some t → stage_moves p st bits k ≡ false → m < length p.mems
      → entries_by t.number (with_reserves m (moving p st bits) (lock_of st m)) ≡ entries_by t.number (lock_of st m)
  pub few : (k : ℕ) (t : Thread) (m : ℕ) → here p st bits k ≡ Some t → stage_moves p st bits k ≡ true → m < length p.mems
      → length (own_with p st k t m) ≤ at_most p m
  pub released : (m : ℕ) → m < length p.mems → all_releases m (moving p st bits) ≤ at_most p m
