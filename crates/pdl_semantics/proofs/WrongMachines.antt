-- Wrong machines, each shown to print other lines than the right one.
use Rattle.std.proofs.Common.{◌≡◌, refl, ℕ, suc, Bool, true, false, ◌&&◌, ◌||◌, not, List, [], ◌∷◌, Option, Some, None, if◌then◌else◌, ◌==◌, codes}
use Rattle.std.specs.Fmt.{digits}
use Rattle.pdl_word.specs.Words.{add, slice, zext}
use Rattle.pdl_semantics.specs.Tree
use Rattle.pdl_semantics.specs.Flat.{list_all, Stmt, Pipe, word_at, arrays_of}
use Rattle.pdl_semantics.specs.Stages.{list_any, is_verify}
use Rattle.pdl_semantics.specs.Flatten.{flat}
use Rattle.pdl_semantics.specs.Lines.{lines, columns, turn_cycles, run_lines, seq_lines}
use Rattle.pdl_semantics.specs.Locks.{Latest, Nothing, as_latest, value_or}
use Rattle.pdl_semantics.specs.Machine.{Thread, Pending, Request, Owned, Orphan, State, lock_of, request_of, deeds, deeds_with, with_answers, is_answered}
use Rattle.pdl_semantics.specs.Moves.{Act, act_of, all_acts, no_failure, blocks_ready, have_room, is_empty, is_free, ports_free, barrier_clear, can_enter, merges_well, next_stage, movers}
use Rattle.pdl_semantics.specs.Cycle.{for_mems, list_three, after_acts, first, ports, is_wait, Turn}
use Rattle.pdl_semantics.proofs.Pipes.{guess, guess_reserved, copy_guessed, two_branches, count_late, far_barrier, without_barrier}
use Rattle.pdl_semantics.proofs.MachineRows.{zeros, idle, bits, copied}

-- a machine: which threads move, and the state after a cycle
abbrev pub Decides : Type 0
Decides = Pipe → State → List Bool → List Act

-- how a machine goes on: the state after a cycle of these acts
abbrev pub GoesOn : Type 0
GoesOn = Pipe → State → List Bool → List Act → State

abbrev turns_by : Decides → GoesOn → Pipe → State → List (List Bool) → List Turn
turns_by decide next p st [] = []
turns_by decide next p st (bits ∷ schedule) =
    let these = decide p st bits in
    record { ports = ports p st these; wait = is_wait p st bits } ∷ turns_by decide next p (next p st bits these) schedule

-- the lines that it prints from this image with these replies, and from an image of zeros with none
abbrev lines_from : Decides → GoesOn → Tree.Pipe → List (List ℕ) → List (List Bool) → List ℕ
lines_from decide next p image schedule =
    lines (columns p.mems) (turn_cycles (turns_by decide next (flat p) (first (flat p) (arrays_of image)) schedule))

abbrev lines_by : Decides → GoesOn → Tree.Pipe → ℕ → List ℕ
lines_by decide next p cycles = lines_from decide next p (zeros ∷ []) (idle cycles)

-- acts where another function makes them
abbrev acts_by : (Pipe → State → List Bool → List Act → ℕ → Thread → Act) → Pipe → State → List Bool → ℕ → List (Option Thread) → List Act
acts_by make p st bits s [] = []
acts_by make p st bits s (None ∷ stages) = acts_by make p st bits (suc s) stages
acts_by make p st bits s (Some t ∷ stages) =
    let later = acts_by make p st bits (suc s) stages in
    make p st bits later s (with_answers p st bits t) ∷ later

-- the acts of all threads where another function makes them
abbrev pub decides_by : (Pipe → State → List Bool → List Act → ℕ → Thread → Act) → Decides
decides_by make p st bits = acts_by make p st bits 0 st.stages

-- A SQUASH THAT KEEPS the younger threads' pending writes

-- the state after a cycle, with the pending writes of the threads that a squash removes
abbrev pub keeps_entries : GoesOn
keeps_entries p st bits these = record (after_acts p st bits these) { locks = for_mems (λ m. list_three st (movers these) m) 0 p.mems }

squash_keeps : lines_by all_acts keeps_entries (guess_reserved 2) 9
    ≡ codes "3 m 0 00\n6 m 1 00\n9 m 2 02\nend cycles 9 ended 3 waits 0 squashes 3\n"
unfolding digits add slice zext
squash_keeps = refl

-- A MERGE THAT TAKES any branch

-- a thread's act where it may move into a merge from any branch
abbrev pub any_branch : Pipe → State → List Bool → List Act → ℕ → Thread → Act
any_branch p st bits later s t =
    let d = deeds p st s t in
    record {
      stage = s;
      thread = t;
      does = d;
      moves = no_failure later && blocks_ready p st t.number d && have_room p st d && is_empty t.awaits && ports_free p st bits later d
          && barrier_clear p later d && can_enter (next_stage p s d) later;
    }

merge_takes_any : lines_by (decides_by any_branch) after_acts two_branches 8 ≡
    codes "4 m 0 00\n5 m 1 01\n6 m 2 00\n7 m 3 03\n8 m 0 00\nend cycles 8 ended 5 waits 0 squashes 0\n"
unfolding digits add slice zext
merge_takes_any = refl

-- A BYPASS READ THAT SEES a younger thread's write

-- what the last pending write of an address by another thread says, be it older or younger
abbrev pub youngest_other : List Pending → ℕ → ℕ → Latest → Latest
youngest_other [] thread a found = found
youngest_other (e ∷ es) thread a found =
    youngest_other es thread a (if not (e.thread == thread) && (e.address == a) then as_latest e.value else found)

-- a thread's act where its reads see the pending writes of younger threads too
abbrev pub sees_younger : Pipe → State → List Bool → List Act → ℕ → Thread → Act
sees_younger p st bits later s t =
    act_of p st bits later s t
    (deeds_with (λ m a. value_or (youngest_other (lock_of st m) t.number a Nothing) (word_at st.arrays m a)) p s t)

bypass_sees_younger : lines_by (decides_by sees_younger) after_acts count_late 10
    ≡ codes "5 m 0 01\n7 m 0 01\n9 m 0 02\nend cycles 10 ended 3 waits 0 squashes 0\n"
unfolding digits add slice zext
bypass_sees_younger = refl

-- A BARRIER THAT LOOKS ONE STAGE ahead

right_barrier : run_lines far_barrier (zeros ∷ []) (idle 5) ≡ codes "1 m 0 07\n5 m 2 07\nend cycles 5 ended 1 waits 0 squashes 1\n"
unfolding digits add slice zext
right_barrier = refl

-- a thread's act where a barrier asks of the next stage alone that it holds no thread
abbrev pub looks_one_stage : Pipe → State → List Bool → List Act → ℕ → Thread → Act
looks_one_stage p st bits later s t =
    let d = deeds p st s t in
    record {
      stage = s;
      thread = t;
      does = d;
      moves = no_failure later && blocks_ready p st t.number d && have_room p st d && is_empty t.awaits && ports_free p st bits later d
          && (not d.barrier || list_all (λ o. not (o.stage == suc s)) later) && can_enter (next_stage p s d) later
          && merges_well p st s (next_stage p s d);
    }

barrier_looks_one_stage : lines_by (decides_by looks_one_stage) after_acts far_barrier 5 ≡
    codes "1 m 0 07\n3 m 1 07\n5 m 2 07\nend cycles 5 ended 1 waits 0 squashes 1\n"
unfolding digits add slice zext
barrier_looks_one_stage = refl

-- A VERIFY THAT SQUASHES always

abbrev squashes_always : Pipe → State → List Bool → List Act → ℕ → Thread → Act
squashes_always p st bits later s t =
    let d = deeds p st s t in
    act_of p st bits later s t
    (if list_any (λ (x : Stmt). (x.stage == s) && is_verify x.op) p.stmts then record d { child = Some t.guess; fails = true } else d)

right_guesses_squashed : lines_by (decides_by squashes_always) after_acts (guess 1) 7
    ≡ codes "3 m 0 00\n6 m 1 01\nend cycles 7 ended 2 waits 0 squashes 2\n"
unfolding digits add slice zext
right_guesses_squashed = refl

-- A LATE REPLY GIVEN TO THE THREAD THAT STANDS THERE NOW: who asks while an orphan is outstanding takes over its request

abbrev is_free_or_orphan : Request → Bool → List Act → Bool
is_free_or_orphan (Orphan a) bit later = true
is_free_or_orphan r bit later = is_free r bit later

-- a thread's act where it may ask while an orphan is outstanding
abbrev pub asks_at_once : Pipe → State → List Bool → List Act → ℕ → Thread → Act
asks_at_once p st bits later s t =
    let d = deeds p st s t in
    record {
      stage = s;
      thread = t;
      does = d;
      moves = no_failure later && blocks_ready p st t.number d && have_room p st d && is_empty t.awaits
          && list_all (λ q. is_free_or_orphan (request_of st q.mem) (is_answered p bits q.mem) later) d.asks && barrier_clear p later d
          && can_enter (next_stage p s d) later && merges_well p st s (next_stage p s d);
    }

abbrev taken_over : ℕ → ℕ → List Act → Request
taken_over m address [] = Orphan address
taken_over m address (a ∷ ms) = if list_any (λ q. q.mem == m) a.does.asks then Owned a.thread.number address else taken_over m address ms

abbrev owned_late : List Act → Bool → ℕ → Request → Request → Request
owned_late ms false m (Orphan address) next = taken_over m address ms
owned_late ms answered m r next = next

-- the state after a cycle, where who asks while an orphan is unanswered takes over its request
abbrev pub gives_late : GoesOn
gives_late p st bits these =
    let right = after_acts p st bits these in
    record right { requests = for_mems (λ m. owned_late (movers these) (is_answered p bits m) m (request_of st m) (request_of right m)) 0 p.mems }

late_reply_given : lines_from (decides_by asks_at_once) gives_late copy_guessed copied (bits (1 ∷ 1 ∷ 0 ∷ 0 ∷ 1 ∷ 1 ∷ 1 ∷ []))
    ≡ codes "3 m 0 0a\n6 m 2 0b\nend cycles 7 ended 2 waits 2 squashes 2\n"
unfolding digits add slice zext
late_reply_given = refl

-- A PIPE THAT BREAKS A RULE: a write released before the verify, with no barrier. The write of a thread that is squashed stays

without_barrier_commits : run_lines without_barrier (zeros ∷ [])
    (idle 4) ≡ codes "1 m 0 07\n2 m 1 07\n3 m 2 07\nend cycles 4 ended 1 waits 0 squashes 1\n"
unfolding digits add slice zext
without_barrier_commits = refl

without_barrier_means : seq_lines without_barrier (zeros ∷ []) 2 ≡ codes "1 m 0 07\n2 m 2 07\nend threads 2\n"
unfolding digits add slice zext
without_barrier_means = refl
