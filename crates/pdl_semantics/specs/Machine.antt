-- The state of the pipeline machine, and what a thread's stage does in it: a numbered thread in each stage, the pending writes of each lock, the branches taken in each fork, the requests.
use Rattle.std.specs.Prelude.{ℕ, suc, Bool, true, false, ◌&&◌, ◌||◌, List, [], ◌∷◌, ◌++◌, Option, Some, None, is_some, if◌then◌else◌, nat_lt, ◌==◌, slice_index, slice_index_or, slice_set}
use Rattle.pdl_semantics.specs.Flat.{Arrays, Op, Bind, CombRead, DelayedRead, Write, ReserveRead, ReserveWrite, Block, Release, Call, SpecCall, Verify, SpecCheck, SpecBarrier, AdviceBind, AdviceRead, AdviceWrite, Expr, Stmt, Pipe, value_of, values_of, all_hold, word_at}
use Rattle.pdl_semantics.specs.Stages.{in_stage, reply_place}
use Rattle.pdl_semantics.specs.Locks.{Latest, Nothing, as_latest, value_or}

-- THE STATE

-- a read that awaits its answer, and the variable that it binds
pub record Awaited : Type 0 where
  pub mem : ℕ
  pub var : ℕ

-- a value for a variable that isn't among the others: an answer that came while its thread couldn't move, or an advised value
pub record Kept : Type 0 where
  pub var : ℕ
  pub word : ℕ

-- the values with these
abbrev pub with_kept : List Kept → List ℕ → List ℕ
with_kept [] env = env
with_kept (k ∷ ks) env = with_kept ks (slice_set env k.var k.word)

-- a thread: its number, its values (arguments, bound variables and truth values of guards), those of advised variables, the arguments of its present guess, the reads that it still awaits, and its kept answers. Advised values stand apart: expressions find them in guesses, in updates of guesses, and in what is advisory itself, and nowhere else
pub record Thread : Type 0 where
  pub number : ℕ
  pub env : List ℕ
  pub advice : List Kept
  pub guess : List ℕ
  pub awaits : List Awaited
  pub kept : List Kept

-- a pending write: its thread, the variable by which that reserved it, its address, and its value or none
pub record Pending : Type 0 where
  pub thread : ℕ
  pub var : ℕ
  pub address : ℕ
  pub value : Option ℕ

-- a delayed memory has no request, one with its owner and address, or an orphan with its address
pub data Request : Type 0 where
  NoRequest : Request
  Owned : (owner address : ℕ) → Request
  Orphan : (address : ℕ) → Request

-- the state of the machine between two cycles
pub record State : Type 0 where
  pub stages : List (Option Thread)  -- for each stage at most one thread
  pub arrays : Arrays
  pub locks : List (List Pending)  -- for each memory its pending writes, oldest first
  pub forks : List (List Bool)  -- for each stage that forks the branches taken by the threads inside, oldest first; true is the first branch
  pub requests : List Request  -- for each memory
  pub next : ℕ  -- the next thread's number

-- the pending writes of memory m, the oldest first
abbrev pub lock_of : State → ℕ → List Pending
lock_of st m = slice_index_or st.locks m []

-- the branches that the threads inside fork f have taken, the oldest thread's first
abbrev pub fork_of : State → ℕ → List Bool
fork_of st f = slice_index_or st.forks f []

-- the request of memory m
abbrev pub request_of : State → ℕ → Request
request_of st m = slice_index_or st.requests m NoRequest

-- WHAT A STAGE'S STATEMENTS DO

-- a request that a thread makes as it moves
pub record Ask : Type 0 where
  pub mem : ℕ
  pub var : ℕ
  pub address : ℕ

-- whether two lists of numbers are the same
abbrev pub same_args : List ℕ → List ℕ → Bool
same_args [] [] = true
same_args (x ∷ xs) (y ∷ ys) = (x == y) && same_args xs ys
same_args _ _ = false

-- a location: a memory and the variable of its address
pub record HeldLocation : Type 0 where
  pub mem : ℕ
  pub var : ℕ

-- whether this location is one of these
abbrev pub is_held : List HeldLocation → ℕ → ℕ → Bool
is_held [] m a = false
is_held (l ∷ ls) m a = ((l.mem == m) && (l.var == a)) || is_held ls m a

-- these locations without the first one that is this
abbrev pub let_go : List HeldLocation → ℕ → ℕ → List HeldLocation
let_go [] m a = []
let_go (l ∷ ls) m a = if (l.mem == m) && (l.var == a) then ls else l ∷ let_go ls m a

-- the locations that are held for writing after a statement
abbrev pub held_after : Op → List HeldLocation → List HeldLocation
held_after (ReserveWrite m a) ls = record { mem = m; var = a } ∷ ls
held_after (Release m a) ls = let_go ls m a
held_after (Bind x e) ls = ls
held_after (CombRead x m a) ls = ls
held_after (DelayedRead x m a) ls = ls
held_after (Write m a e) ls = ls
held_after (ReserveRead m a) ls = ls
held_after (Block m a) ls = ls
held_after (Call args) ls = ls
held_after (SpecCall args) ls = ls
held_after (Verify last args) ls = ls
held_after SpecCheck ls = ls
held_after SpecBarrier ls = ls
held_after (AdviceBind x e) ls = ls
held_after (AdviceRead x m a) ls = ls
held_after (AdviceWrite m a e) ls = ls

-- the locations that are held for writing after the statements of the path in the stages before s
abbrev pub held_before : ℕ → List ℕ → List Stmt → List HeldLocation → List HeldLocation
held_before s path [] ls = ls
held_before s path (x ∷ xs) ls =
    held_before s path xs (if nat_lt x.stage s && all_hold x.guards path then held_after x.op ls else ls)

-- a block: its memory and address, and whether the location is reserved for writing
pub record Blocked : Type 0 where
  pub mem : ℕ
  pub address : ℕ
  pub writes : Bool

-- a write reservation: its memory and its address
pub record Reserved : Type 0 where
  pub mem : ℕ
  pub var : ℕ
  pub address : ℕ

-- a value that a thread writes to a memory
pub record Written : Type 0 where
  pub mem : ℕ
  pub var : ℕ
  pub value : ℕ

-- a write of an advisory memory
pub record Advised : Type 0 where
  pub mem : ℕ
  pub address : ℕ
  pub value : ℕ

-- how many of these reservations are of m
abbrev pub reserves_of : ℕ → List Reserved → ℕ
reserves_of m [] = 0
reserves_of m (r ∷ rs) = if r.mem == m then suc (reserves_of m rs) else reserves_of m rs

-- what the statements of a stage on the thread's path do, in text order
pub record Deeds : Type 0 where
  pub env : List ℕ  -- the values after them
  pub advice : List Kept
  pub guess : List ℕ
  pub held : List HeldLocation
  pub blocks : List Blocked
  pub reserves : List Reserved
  pub writes : List Written
  pub releases : List ℕ  -- the memories whose write reservations are released, each as often as one of its own is
  pub asks : List Ask  -- the delayed reads
  pub advises : List Advised  -- the writes of advisory memories
  pub barrier : Bool  -- whether there is a spec_barrier
  pub child : Option (List ℕ)  -- the new thread's arguments
  pub fails : Bool  -- whether a verify fails or an update changes the guess: a squash

-- a verify or an update of these arguments: where the present guess is another, they replace it, and a thread with them the younger ones
abbrev pub after_verify : List ℕ → Deeds → Deeds
after_verify args d = if same_args args d.guess then d else record d { child = Some args; guess = args; fails = true }

-- the values with the advised ones
abbrev pub all_values : Deeds → List ℕ
all_values d = with_kept d.advice d.env

-- the arguments of a verify, or of an update, which may use advised values as a guess may
abbrev pub checked_args : Bool → List Expr → Deeds → List ℕ
checked_args true args d = values_of args d.env
checked_args false args d = values_of args (all_values d)

-- the deeds with the value of one more advised variable
abbrev pub with_advised : ℕ → ℕ → Deeds → Deeds
with_advised x v d = record d { advice = d.advice ++ record { var = x; word = v } ∷ [] }

-- one statement, where `read` gives the words that reads find
abbrev pub deeds_after : (ℕ → ℕ → ℕ) → Op → Deeds → Deeds
deeds_after read (Bind x e) d = record d { env = slice_set d.env x (value_of e d.env) }
deeds_after read (CombRead x m a) d = record d { env = slice_set d.env x (read m (slice_index d.env a)) }
deeds_after read (DelayedRead x m a) d = record d { asks = d.asks ++ record { mem = m; var = x; address = slice_index d.env a } ∷ [] }
deeds_after read (Write m a e) d = record d { writes = d.writes ++ record { mem = m; var = a; value = value_of e d.env } ∷ [] }
deeds_after read (ReserveRead m a) d = d
deeds_after read (ReserveWrite m a) d =
    record d {
      held = held_after (ReserveWrite m a) d.held;
      reserves = d.reserves ++ record { mem = m; var = a; address = slice_index d.env a } ∷ [];
    }
deeds_after read (Block m a) d =
    record d { blocks = d.blocks ++ record { mem = m; address = slice_index d.env a; writes = is_held d.held m a } ∷ [] }
deeds_after read (Release m a) d =
    record d {
      held = held_after (Release m a) d.held;
      releases = d.releases ++ (if is_held d.held m a then m ∷ [] else []);
    }
deeds_after read (Call args) d = record d { child = Some (values_of args d.env) }
deeds_after read (SpecCall args) d = record d { child = Some (values_of args (all_values d)); guess = values_of args (all_values d) }
deeds_after read (Verify last args) d = after_verify (checked_args last args d) d
deeds_after read SpecCheck d = d
deeds_after read SpecBarrier d = record d { barrier = true }
deeds_after read (AdviceBind x e) d = with_advised x (value_of e (all_values d)) d
deeds_after read (AdviceRead x m a) d = with_advised x (read m (slice_index (all_values d) a)) d
deeds_after read (AdviceWrite m a e) d =
    record d { advises = d.advises ++ record { mem = m; address = slice_index (all_values d) a; value = value_of e (all_values d) } ∷ [] }

-- what statements do in text order, those whose guards hold
abbrev pub deeds_after_all : (ℕ → ℕ → ℕ) → List Stmt → Deeds → Deeds
deeds_after_all read [] d = d
deeds_after_all read (x ∷ xs) d = deeds_after_all read xs (if all_hold x.guards d.env then deeds_after read x.op d else d)

-- LOCKS AND ANSWERS AT THE START OF A CYCLE

-- the reply bit of a memory
abbrev pub is_answered : Pipe → List Bool → ℕ → Bool
is_answered p bits m = slice_index_or bits (reply_place p m) false

-- the youngest of the older threads' pending writes of an address
abbrev pub youngest : List Pending → ℕ → ℕ → Latest → Latest
youngest [] thread a found = found
youngest (e ∷ es) thread a found =
    youngest es thread a (if nat_lt e.thread thread && (e.address == a) then as_latest e.value else found)

-- what the youngest pending write by an older thread says of an address of memory m
abbrev pub older_write : State → ℕ → ℕ → ℕ → Latest
older_write st thread m a = youngest (lock_of st m) thread a Nothing

-- the word that a read finds
abbrev pub word_for : State → ℕ → ℕ → ℕ → ℕ
word_for st thread m a = value_or (older_write st thread m a) (word_at st.arrays m a)

-- the answer that a thread's request of m has in this cycle
abbrev pub answer_to : State → ℕ → ℕ → Request → Bool → Option ℕ
answer_to st thread m (Owned owner a) bit = if bit && (owner == thread) then Some (word_at st.arrays m a) else None
answer_to st thread m _ bit = None

-- the answer that a thread has from memory m in this cycle
abbrev pub answer_for : Pipe → State → List Bool → ℕ → ℕ → Option ℕ
answer_for p st bits thread m = answer_to st thread m (request_of st m) (is_answered p bits m)

-- an answer, where there is one, kept for the variable that it is for
abbrev pub kept_answer : ℕ → Option ℕ → List Kept
kept_answer x None = []
kept_answer x (Some word) = record { var = x; word = word } ∷ []

-- the reads that a thread awaits beyond this cycle
abbrev pub unanswered_reads : Pipe → State → List Bool → ℕ → List Awaited → List Awaited
unanswered_reads p st bits thread [] = []
unanswered_reads p st bits thread (r ∷ rs) =
    (if is_some (answer_for p st bits thread r.mem) then [] else r ∷ []) ++ unanswered_reads p st bits thread rs

-- the answers that this cycle gives to the reads which a thread awaits
abbrev pub answered_reads : Pipe → State → List Bool → ℕ → List Awaited → List Kept
answered_reads p st bits thread [] = []
answered_reads p st bits thread (r ∷ rs) = kept_answer r.var (answer_for p st bits thread r.mem) ++ answered_reads p st bits thread rs

-- a thread with this cycle's answers
abbrev pub with_answers : Pipe → State → List Bool → Thread → Thread
with_answers p st bits t =
    record t {
      awaits = unanswered_reads p st bits t.number t.awaits;
      kept = t.kept ++ answered_reads p st bits t.number t.awaits;
    }

-- what a thread's stage does where reads find these words
abbrev pub deeds_with : (ℕ → ℕ → ℕ) → Pipe → ℕ → Thread → Deeds
deeds_with read p s t =
    deeds_after_all read (in_stage s p.stmts) (record {
      env = with_kept t.kept t.env;
      advice = t.advice;
      guess = t.guess;
      held = held_before s t.env p.stmts [];
      blocks = [];
      reserves = [];
      writes = [];
      releases = [];
      asks = [];
      advises = [];
      barrier = false;
      child = None;
      fails = false;
    })

-- what it does in this state
abbrev pub deeds : Pipe → State → ℕ → Thread → Deeds
deeds p st s t = deeds_with (word_for st t.number) p s t
