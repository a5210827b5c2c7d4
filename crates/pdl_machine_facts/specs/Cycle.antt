-- What a cycle does, stage by stage and memory by memory.
use Rattle.std.specs.Prelude.{◌≡◌, ℕ, ◌-◌, ◌<◌, Bool, ◌&&◌, List, Option, Some, None, is_some, length, if◌then◌else◌, ◌==◌}
use Rattle.pdl_semantics.specs.Flat.{Pipe}
use Rattle.pdl_semantics.specs.Machine.{Thread, State, lock_of, deeds}
use Rattle.pdl_semantics.specs.Moves.{next_stage, is_empty, all_acts}
use Rattle.pdl_semantics.specs.Moves as model
use Rattle.pdl_semantics.specs.Cycle.{Ports, cycle, for_mems, for_stages, list_three, taken_out, port_writes, with_commit, with_all_advised, entries_left, or_then, if_kept, born_thread, child_of, squasher}
use Rattle.pdl_semantics.specs.Cycle as model_cycle
use Rattle.pdl_machine_facts.specs.Slots.{slot, here, later_acts, locks_ready, may_pass, stage_moves, may_enter, moving, arriving_thread, staying_thread}

-- the ports of a cycle from a state
abbrev pub ports_of : Pipe → State → List Bool → Ports
ports_of p st bits = model_cycle.ports p st (all_acts p st bits)

-- the new thread, where one comes into this stage
abbrev pub newborn : Pipe → State → List Bool → ℕ → Option Thread
newborn p st bits k = if k == 0 then born_thread p st.next (child_of (moving p st bits)) else None

-- who moves in a cycle, its ports and the state after it, by the stages and the memories
pub record IsByStages (p : Pipe) (st : State) (bits : List Bool) : Type 0 where
  pub movers : model.movers (all_acts p st bits) ≡ moving p st bits
  -- a thread moves where it awaits nothing and the locks let it, where the rest lets it, and where its next stage is free
  pub goes_where : (k : ℕ) (t : Thread) → k < length p.stages → here p st bits k ≡ Some t
      → stage_moves p st bits k
      ≡ ((is_empty t.awaits && locks_ready p st t.number (deeds p st k t))
      && (may_pass p st bits (later_acts p st bits k) k (deeds p st k t) && may_enter p st bits (next_stage p k (deeds p st k t))))
  -- the ports
  pub valid : (ports_of p st bits).valid ≡ for_stages (λ k. is_some (slot st k)) 0 p.stages
  pub moves : (ports_of p st bits).moves ≡ for_stages (λ k. stage_moves p st bits k) 0 p.stages
  pub commits : (ports_of p st bits).commits ≡ for_mems (λ m. port_writes (taken_out st (moving p st bits) m)) 0 p.mems
  pub ended : (ports_of p st bits).ended ≡ stage_moves p st bits (length p.stages - 1)
  pub squash : (ports_of p st bits).squash ≡ is_some (squasher (moving p st bits))
  -- the next state: into a stage comes a new thread or one out of an earlier stage, and who doesn't move stays, as long as no squash removes it
  pub count : length (cycle p st bits).stages ≡ length p.stages
  pub next : (k : ℕ) → k < length p.stages
      → slot (cycle p st bits) k
      ≡ or_then (newborn p st bits k) (if_kept (squasher (moving p st bits)) (or_then (arriving_thread p st bits k) (staying_thread p st bits k)))
  pub locks : (m : ℕ) → m < length p.mems → lock_of (cycle p st bits) m ≡ entries_left (squasher (moving p st bits)) (list_three st (moving p st bits) m)
  -- the words of a memory: what is released comes first, and then what is written without a lock
  pub arrays : (m : ℕ) → m < length p.mems
      → (cycle p st bits).arrays m ≡ with_all_advised (moving p st bits) (with_commit st.arrays m (taken_out st (moving p st bits) m)) m
