-- The same of squashes, stage by stage, as the law of a netlist takes the use of the locks.
use Rattle.std.specs.Prelude.{◌≡◌, ℕ, suc, ◌+◌, ◌≤◌, ◌<◌, Bool, true, List, Some, length, take}
use Rattle.pdl_semantics.specs.Flat.{Pipe}
use Rattle.pdl_semantics.specs.Stages.{reserve_stage, verify_stage}
use Rattle.pdl_semantics.specs.Machine.{Thread, State, lock_of}
use Rattle.pdl_semantics.specs.Cycle.{with_reserves, all_releases, list_three, is_kept, entries_left, squasher}
use Rattle.pdl_machine_facts.specs.Slots.{slot, moving}
use Rattle.pdl_semantics.specs.PendingLists.{count_older}

-- where a thread's squash cuts the list of pending writes: after its own and older ones
pub record IsCut (p : Pipe) (st : State) (bits : List Bool) : Type 0 where
  -- up to the stage of the reserves that is after all of them, those of this cycle included
  pub all : (k : ℕ) (t : Thread) (m : ℕ) → slot st k ≡ Some t → k ≤ reserve_stage p m
      → count_older (suc t.number) (with_reserves m (moving p st bits) (lock_of st m)) ≡ length (with_reserves m (moving p st bits) (lock_of st m))
  -- later reservations stand after it
  pub kept : (k : ℕ) (t : Thread) (m : ℕ) → slot st k ≡ Some t → reserve_stage p m < k
      → count_older (suc t.number) (with_reserves m (moving p st bits) (lock_of st m)) ≡ count_older (suc t.number) (lock_of st m)
  -- up to V it shifts by what is released
  pub shifts : (k : ℕ) (t : Thread) (m v : ℕ) → slot st k ≡ Some t → verify_stage p.stmts ≡ Some v → k ≤ v
      → count_older (suc t.number) (list_three st (moving p st bits) m) + all_releases m (moving p st bits)
      ≡ count_older (suc t.number) (with_reserves m (moving p st bits) (lock_of st m))
  -- a squash that leaves the thread keeps it, and the thread's own cuts there
  pub left : (m n : ℕ) → is_kept (squasher (moving p st bits)) n ≡ true
      → count_older (suc n) (entries_left (squasher (moving p st bits)) (list_three st (moving p st bits) m))
      ≡ count_older (suc n) (list_three st (moving p st bits) m)
  pub cuts : (m n : ℕ) → squasher (moving p st bits) ≡ Some n
      → entries_left (Some n) (list_three st (moving p st bits) m)
      ≡ take (count_older (suc n) (list_three st (moving p st bits) m)) (list_three st (moving p st bits) m)
