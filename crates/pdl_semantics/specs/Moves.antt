-- Which threads move in a cycle. It is decided from the stage with the greatest number down to stage 0; `later` are the acts of the threads in later stages.
use Rattle.std.specs.Prelude.{ℕ, suc, Bool, true, false, ◌&&◌, ◌||◌, not, List, [], ◌∷◌, Option, Some, None, if◌then◌else◌, nat_lt, ◌==◌, length}
use Rattle.pdl_semantics.specs.Flat.{list_all, Branch, Pipe}
use Rattle.pdl_semantics.specs.Stages.{list_any, mem_at, stage_at, sides_of, verify_stage, goes_to}
use Rattle.pdl_semantics.specs.Locks.{read_ready, write_ready, has_room}
use Rattle.pdl_semantics.specs.Machine.{Awaited, Thread, Request, NoRequest, Owned, Orphan, State, lock_of, fork_of, request_of, Blocked, reserves_of, Deeds, deeds, older_write, with_answers, is_answered}

-- a thread in a cycle: its stage, itself with this cycle's answers, what its stage's statements do, and whether it moves
pub record Act : Type 0 where
  pub stage : ℕ
  pub thread : Thread
  pub does : Deeds
  pub moves : Bool

-- the stage that it goes to, none from the last
abbrev pub next_stage : Pipe → ℕ → Deeds → Option ℕ
next_stage p s d = goes_to (stage_at p s).next d.env

-- 1. no thread in a later stage moves with a failing verify or a changing update
abbrev pub no_failure : List Act → Bool
no_failure later = list_all (λ o. not (o.moves && o.does.fails)) later

-- 2. each block is ready
abbrev pub block_ready : Pipe → State → ℕ → Blocked → Bool
block_ready p st thread b =
    if b.writes
    then write_ready (mem_at p b.mem).lock (older_write st thread b.mem b.address)
    else read_ready (mem_at p b.mem).lock (older_write st thread b.mem b.address)

-- each block of the thread's stage is ready
abbrev pub blocks_ready : Pipe → State → ℕ → Deeds → Bool
blocks_ready p st thread d = list_all (λ b. block_ready p st thread b) d.blocks

-- 3. there is room for the thread's write reservations of each memory, together
abbrev pub have_room : Pipe → State → Deeds → Bool
have_room p st d = list_all (λ r. has_room (mem_at p r.mem).lock (reserves_of r.mem d.reserves) (length (lock_of st r.mem))) d.reserves

-- 4. each read that it awaits was answered before or is answered now
abbrev pub is_empty : List Awaited → Bool
is_empty [] = true
is_empty (r ∷ rs) = false

-- 5. the port of each delayed read is free: no request is outstanding, or it is answered in this cycle and is an orphan or its owner moves
abbrev pub is_free : Request → Bool → List Act → Bool
is_free NoRequest bit later = true
is_free (Orphan a) bit later = bit
is_free (Owned owner a) bit later = bit && list_any (λ o. (o.thread.number == owner) && o.moves) later

-- the port of each delayed read of the thread's stage is free
abbrev pub ports_free : Pipe → State → List Bool → List Act → Deeds → Bool
ports_free p st bits later d = list_all (λ q. is_free (request_of st q.mem) (is_answered p bits q.mem) later) d.asks

-- 6. at a barrier no later stage up to V holds a thread
abbrev pub none_up_to : Option ℕ → List Act → Bool
none_up_to None later = true
none_up_to (Some v) later = list_all (λ o. nat_lt v o.stage) later

-- there is no barrier, or no later stage up to V holds a thread
abbrev pub barrier_clear : Pipe → List Act → Deeds → Bool
barrier_clear p later d = not d.barrier || none_up_to (verify_stage p.stmts) later

-- 7. there is no next stage, or it is empty or its thread moves
abbrev pub can_enter : Option ℕ → List Act → Bool
can_enter None later = true
can_enter (Some q) later = list_all (λ o. not (o.stage == q) || o.moves) later

-- 8. into the merge of a fork: from one of its branches, that is the first of the fork's list; straight from the fork, the list is empty
abbrev pub is_first : Bool → List Bool → Bool
is_first b [] = false
is_first b (c ∷ cs) = if b then c else not c

-- whether a fork's list is empty: no thread is inside
abbrev pub is_nobody : List Bool → Bool
is_nobody [] = true
is_nobody (c ∷ cs) = false

-- whether a thread from this branch of a fork, or straight from the fork, may enter the merge, by the fork's list
abbrev pub is_its_turn : List Bool → List Bool → Bool
is_its_turn [] list = is_nobody list
is_its_turn (b ∷ bs) list = is_first b list

-- whether a thread from these branches may enter a stage that merges this fork, or none
abbrev pub may_merge : State → Option ℕ → List Branch → Bool
may_merge st None from = true
may_merge st (Some f) from = is_its_turn (sides_of f from) (fork_of st f)

-- whether a thread in stage s may enter this next stage, as a merge
abbrev pub merges_well : Pipe → State → ℕ → Option ℕ → Bool
merges_well p st s None = true
merges_well p st s (Some q) = may_merge st (stage_at p q).merges (stage_at p s).branches

-- a thread moves where all eight hold
abbrev pub may_move : Pipe → State → List Bool → List Act → ℕ → Thread → Deeds → Bool
may_move p st bits later s t d =
    no_failure later
    && blocks_ready p st t.number d
    && have_room p st d
    && is_empty t.awaits  -- 4. each read that it awaits was answered before or is answered now
    && ports_free p st bits later d
    && barrier_clear p later d
    && can_enter (next_stage p s d) later
    && merges_well p st s (next_stage p s d)

-- a thread's act, where its stage's statements do this
abbrev pub act_of : Pipe → State → List Bool → List Act → ℕ → Thread → Deeds → Act
act_of p st bits later s t d = record { stage = s; thread = t; does = d; moves = may_move p st bits later s t d }

-- a thread's act, by what its stage's statements do in this state
abbrev pub act : Pipe → State → List Bool → List Act → ℕ → Thread → Act
act p st bits later s t = act_of p st bits later s t (deeds p st s t)

-- the acts of the threads in these stages, of which the first is s; they are decided from the last stage down
abbrev pub acts : Pipe → State → List Bool → ℕ → List (Option Thread) → List Act
acts p st bits s [] = []
acts p st bits s (None ∷ stages) = acts p st bits (suc s) stages
acts p st bits s (Some t ∷ stages) =
    let later = acts p st bits (suc s) stages in
    act p st bits later s (with_answers p st bits t) ∷ later

-- the acts of all threads in a cycle
abbrev pub all_acts : Pipe → State → List Bool → List Act
all_acts p st bits = acts p st bits 0 st.stages

-- the acts of the threads that move
abbrev pub movers : List Act → List Act
movers [] = []
movers (a ∷ these) = if a.moves then a ∷ movers these else movers these
