-- The threads in the stages: what they do, which move, and what stands in each stage after them.
use Rattle.std.specs.Prelude.{◌≡◌, ℕ, suc, Bool, true, false, ◌&&◌, if◌then◌else◌, ◌==◌, List, [], ◌∷◌, ◌++◌, map, length, take, drop, Option, Some, None, is_none, is_some, ⊤}
use Rattle.pdl_semantics.specs.Flat.{Pipe}
use Rattle.pdl_semantics.specs.Stages.{list_any}
use Rattle.pdl_semantics.specs.Locks.{read_ready, write_ready, has_room}
use Rattle.pdl_semantics.specs.Machine.{Thread, Pending, Blocked, Deeds, State, deeds, with_answers}
use Rattle.pdl_semantics.specs.Moves.{Act, next_stage, no_failure, is_empty, ports_free, barrier_clear, can_enter, merges_well, blocks_ready, have_room}
use Rattle.pdl_semantics.specs.Cycle.{with_reserves, with_all_writes, all_releases, port_writes, entries_left, is_stage, thread_after}
use Rattle.pdl_form.specs.Form.{Form}
use Rattle.pdl_machine_pending.specs.Memory.{Memory, all_committed_to}
use Rattle.pdl_machine_pending.specs.View.{pending_view}
use Rattle.pdl_machine_facts.specs.Ports.{commit_values}
use Rattle.pdl_machine_run.specs.declared.stage.Stage as r_stage
use Rattle.pdl_machine_run.specs.declared.beside.Beside as r_beside
use Rattle.pdl_machine_run.specs.declared.step.Taken as r_taken
use Rattle.pdl_machine_run.specs.declared.step.Taken.TheVariants as r_takens
use Rattle.pdl_machine_run.specs.View.{deeds_view, thread_of, thread_in}
use Rattle.pdl_machine_run.specs.Outside.{outside}
use Rattle.pdl_machine_run.specs.StageDeeds.{memory_at, latest_in}
use Rattle.pdl_machine_run.specs.Typed.{IsFine, AreFit}

-- ACTS

-- the act of the thread of this number in stage k, if there is one
abbrev pub act_here : ℕ → Option ℕ → r_stage.Stage → List Act
act_here k None x = []
act_here k (Some number) x = record { stage = k; thread = thread_of number x.slot; does = deeds_view x.deeds; moves = x.moves } ∷ []

-- the acts of the threads in these stages, of which the first is k
abbrev pub all_of : ℕ → List r_stage.Stage → List Act
all_of k [] = []
all_of k (x ∷ xs) = act_here k x.slot.number x ++ all_of (suc k) xs

-- the number of the thread that moves out of a stage
abbrev pub mover_of : r_stage.Stage → Option ℕ
mover_of x = if x.moves then x.slot.number else None

-- the act of who moves out of stage k
abbrev pub act_of : ℕ → Option ℕ → r_stage.Stage → List Act
act_of k None x = []
act_of k (Some number) x = record { stage = k; thread = thread_of number x.slot; does = deeds_view x.deeds; moves = true } ∷ []

-- the acts of those who move out of these stages, of which the first is k
abbrev pub acts_of : ℕ → List r_stage.Stage → List Act
acts_of k [] = []
acts_of k (x ∷ xs) = act_of k (mover_of x) x ++ acts_of (suc k) xs

-- of each stage whether it holds a thread, and whether that moves
abbrev pub are_held : List r_stage.Stage → List Bool
are_held xs = map (λ (x : r_stage.Stage). is_some x.slot.number) xs

-- of each stage whether its thread moves
abbrev pub are_moving : List r_stage.Stage → List Bool
are_moving xs = map (λ (x : r_stage.Stage). x.moves) xs

-- WHO DOES WHAT

-- the thread that stood in stage k has this cycle's answers, and its stage's statements are carried out for it
abbrev pub IsCarried : Form → r_beside.Beside → List Bool → ℕ → Option Thread → r_stage.Stage → Type 0
IsCarried f b bits k None x = x.slot.number ≡ None
IsCarried f b bits k (Some t) x =
    (thread_in x.slot ≡ Some (with_answers f.pipe (outside b) bits t))
    × (deeds_view x.deeds ≡ deeds f.pipe (outside b) k (with_answers f.pipe (outside b) bits t))
    × IsFine f k (with_answers f.pipe (outside b) bits t)
    × AreFit f (deeds_view x.deeds)

-- WHO MOVES

-- whether a thread's block is ready
abbrev pub block_in : List Memory → ℕ → Blocked → Bool
block_in xs thread b =
    if b.writes
    then write_ready (memory_at xs b.mem).lock (latest_in xs thread b.mem b.address)
    else read_ready (memory_at xs b.mem).lock (latest_in xs thread b.mem b.address)

-- whether a memory has room for so many reservations more
abbrev pub is_roomy : List Memory → ℕ → ℕ → Bool
is_roomy xs more m = has_room (memory_at xs m).lock more (length (memory_at xs m).pending)

-- whether a thread of this number moves
abbrev pub is_mover : ℕ → List Act → Bool
is_mover thread acts = list_any (λ (o : Act). (o.thread.number == thread) && o.moves) acts

-- whether a thread's blocks are ready, its reservations have room, it awaits nothing, and it is its turn at a merge
abbrev pub passes_beside : Pipe → State → ℕ → Thread → Deeds → Bool
passes_beside p st k t d =
    (blocks_ready p st t.number d && have_room p st d) && (is_empty t.awaits && merges_well p st k (next_stage p k d))

-- whether the threads in later stages let the thread in stage k move
abbrev pub passes_later : Pipe → State → List Bool → List Act → ℕ → Deeds → Bool
passes_later p st bits later k d =
    no_failure later && (ports_free p st bits later d && (barrier_clear p later d && can_enter (next_stage p k d) later))

-- whether the thread in stage k, if there is one, moves, where these are the later stages
abbrev pub goes : Pipe → r_beside.Beside → List Bool → ℕ → Option ℕ → r_stage.Stage → List r_stage.Stage → Bool
goes p b bits k None x later = false
goes p b bits k (Some number) x later =
    passes_beside p (outside b) k (thread_of number x.slot) (deeds_view x.deeds)
    && passes_later p (outside b) bits (all_of (suc k) later) k (deeds_view x.deeds)

-- it is decided who moves of those in these stages, of which the first is k
abbrev pub AreDecided : Pipe → r_beside.Beside → List Bool → ℕ → List r_stage.Stage → Type 0
AreDecided p b bits k [] = ⊤
AreDecided p b bits k (x ∷ xs) = (x.moves ≡ goes p b bits k x.slot.number x xs) × AreDecided p b bits (suc k) xs

-- whether one of those who move ends
abbrev pub one_ends : Pipe → List Act → Bool
one_ends p ms = list_any (λ (a : Act). is_none (next_stage p a.stage a.does)) ms

-- MEMORIES

-- the pending writes of memory m with the reservations and writes of these acts
abbrev pub both : ℕ → List Act → List Pending → List Pending
both m ms list = with_all_writes m ms (with_reserves m ms list)

-- the pending writes of memory m that are left after these acts and their releases
abbrev pub left_of : ℕ → List Act → List Pending → List Pending
left_of m ms list = drop (all_releases m ms) (both m ms list)

-- the pending writes of memory m that these acts release, the oldest first
abbrev pub out_of : ℕ → List Act → List Pending → List Pending
out_of m ms list = take (all_releases m ms) (both m ms list)

-- the pending write that there is, alone
abbrev pub entries_of : Option Pending → List Pending
entries_of None = []
entries_of (Some e) = e ∷ []

-- the pending writes that two releases gave, one after the other
abbrev pub given_by : Option Pending → Option Pending → List Pending
given_by None second = []
given_by (Some e) None = e ∷ []
given_by (Some e) (Some f) = e ∷ f ∷ []

-- the pending writes that were taken out of a memory
abbrev pub taken_view : r_taken.Taken → List Pending
taken_view r_takens.Nothing = []
taken_view (r_takens.One e) = pending_view e ∷ []
taken_view (r_takens.Two e f) = pending_view e ∷ pending_view f ∷ []

-- memory m after these acts and a squash
abbrev pub memory_after : ℕ → List Act → Option ℕ → Memory → Memory
memory_after m ms sq x = record x { words = all_committed_to x.words (out_of m ms x.pending); pending = entries_left sq (left_of m ms x.pending) }

-- the memories from m on after these acts and a squash
abbrev pub memories_after : ℕ → List Act → Option ℕ → List Memory → List Memory
memories_after m ms sq [] = []
memories_after m ms sq (x ∷ xs) = memory_after m ms sq x ∷ memories_after (suc m) ms sq xs

-- what the ports show of their commits, where it is told of each memory whether it shows two
abbrev pub commits_shown : List Bool → ℕ → List Act → List Memory → List ℕ
commits_shown (t ∷ ts) m ms (x ∷ xs) = commit_values x.lock t (port_writes (out_of m ms x.pending)) ++ commits_shown ts (suc m) ms xs
commits_shown _ m ms _ = []

-- STAGES

-- the thread that comes out of stage k into stage q
abbrev pub comes : Pipe → ℕ → ℕ → Option ℕ → r_stage.Stage → Option Thread
comes p q k None x = None
comes p q k (Some number) x =
    if is_stage q (next_stage p k (deeds_view x.deeds))
    then Some (thread_after (record { stage = k; thread = thread_of number x.slot; does = deeds_view x.deeds; moves = true }))
    else None

-- the thread that stays in a stage
abbrev pub stays : r_stage.Stage → Option Thread
stays x = if x.moves then None else thread_in x.slot
