-- What a netlist writes to its memories, and what the threads of its pipe write that run one after another; and how fast they end.
use Rattle.std.specs.Prelude.{◌≡◌, IsTrue, ℕ, ◌+◌, ◌-◌, ◌/◌, ◌≤◌, Bool, false, List, [], ◌∷◌, ◌++◌, map, count_by, length, slice_index_or}
use Rattle.pdl_semantics.specs.Tree as tree
use Rattle.pdl_semantics.specs.Flat.{Commit, Plain, is_advisory, Pipe, Arrays, arrays_of}
use Rattle.pdl_semantics.specs.Flatten.{flat}
use Rattle.pdl_semantics.specs.Sequential.{seqwrites}
use Rattle.pdl_semantics.specs.Stages.{mem_at, depth}
use Rattle.pdl_semantics.specs.Moves.{all_acts}
use Rattle.pdl_semantics.specs.Machine.{State}
use Rattle.pdl_semantics.specs.Cycle.{first, state_after}
use Rattle.pdl_semantics.specs.Lines.{Put, Cycle}
use Rattle.pdl_semantics.specs.Promises.{IsPrefix, row, wrote, oldest_act, it_moves}
use Rattle.pdl_rules.specs.Memories.{infos_of}
use Rattle.pdl_net.specs.declared.Netlist.{Netlist}
use Rattle.pdl_net.specs.Run.{start, nports, some_waits}
use Rattle.pdl_image.specs.Images.{IsImage}
use Rattle.pdl_law_parts.specs.Places.{delayed_count}
use Rattle.pdl_law_parts.specs.Runs.{cycle_by}
use Rattle.pdl_law_parts.specs.States.{held_after}
use Rattle.pdl_law_sides.specs.WholeNetlist.{in_order, replies_of}
use Rattle.pdl_law_follows.specs.Memories.{replies_in}

-- the writes that reach memory m in some cycles, in order
abbrev pub writes_to : ℕ → List Put → List Commit
writes_to m [] = []
writes_to m (w ∷ ws) = record { mem = m; address = w.address; value = w.value } ∷ writes_to m ws

-- the writes that reach memory m in all of some cycles
abbrev pub commits_in : ℕ → List Cycle → List Commit
commits_in m [] = []
commits_in m (c ∷ cs) = writes_to m (slice_index_or c.puts m []) ++ commits_in m cs

-- in how many cycles a thread ended
abbrev pub ended_in : List Cycle → ℕ
ended_in cs = count_by (λ c. c.ended) cs

-- how many cycles left a request unanswered
abbrev pub waits_in : List Cycle → ℕ
waits_in cs = count_by (λ c. c.wait) cs

-- the cycles of a run of the netlist, by `ended` and the commit ports of the pipe's memories, in declared order
abbrev pub cycles_of : tree.Pipe → Netlist → List (List ℕ) → List ℕ → List Cycle
cycles_of p n image schedule = map (cycle_by n (infos_of p.mems)) (nports n image schedule)

-- what a memory receives in these cycles has all sequential writes of the threads that ended, and is a prefix of the sequential writes of as many threads more as there are stages; a memory without lock receives nothing; the machine's array at the end is the image with what was received, in order
pub record AreSequential (p : Pipe) (image : Arrays) (schedule : List (List Bool)) (cs : List Cycle) : Type 0 where
  pub whole : (m : ℕ) → IsPrefix (seqwrites p image m (ended_in cs)) (commits_in m cs)
  pub prefix : (m : ℕ) → IsPrefix (commits_in m cs) (seqwrites p image m (ended_in cs + length p.stages))
  pub unlocked : (m : ℕ) → (mem_at p m).lock ≡ Plain → commits_in m cs ≡ []
  pub end : (m : ℕ) → is_advisory (mem_at p m).kind ≡ false
      → row (state_after p (first p image) schedule).arrays m ≡ wrote (row image m) (commits_in m cs)

-- from each image, with each schedule of replies, the memories receive the sequential writes
abbrev pub RefinesThreads : tree.Pipe → Netlist → Type 0
RefinesThreads p n =
    (image : List (List ℕ)) (schedule : List ℕ) → IsImage n.mems image
    → AreSequential (flat p) (arrays_of (in_order (flat p) image)) (replies_in (flat p) schedule) (cycles_of p n image schedule)

-- a netlist's cycle after a schedule leaves a request unanswered
abbrev pub waits_after : Netlist → List (List ℕ) → List ℕ → ℕ → Bool
waits_after n image schedule bits = some_waits (held_after n (start n image) schedule).stores bits

-- the state of the machine of a pipe after a schedule of the netlist
abbrev pub machine_after : Pipe → List (List ℕ) → List ℕ → State
machine_after p image schedule = state_after p (first p (arrays_of (in_order p image))) (replies_in p schedule)

-- in each cycle of each run of the netlist that leaves no request unanswered the oldest thread moves
abbrev pub MovesOldest : tree.Pipe → Netlist → Type 0
MovesOldest p n =
    (image : List (List ℕ)) (schedule : List ℕ) (bits : ℕ) → IsImage n.mems image → waits_after n image schedule bits ≡ false
    → IsTrue (it_moves (oldest_act (all_acts (flat p) (machine_after (flat p) image schedule) (replies_of (delayed_count (flat p)) bits))))

-- in each run at least as many threads end as its cycles that are no waits, divided by the depth
abbrev pub EndsThreads : tree.Pipe → Netlist → Type 0
EndsThreads p n =
    (image : List (List ℕ)) (schedule : List ℕ) → IsImage n.mems image
    → (length schedule - waits_in (cycles_of p n image schedule)) / depth (flat p) ≤ ended_in (cycles_of p n image schedule)
