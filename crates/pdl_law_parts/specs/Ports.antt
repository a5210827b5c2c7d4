-- What the stages do to each lock and to the arrays of advisory memories, and what the netlist shows.
use Rattle.std.specs.Prelude.{ℕ, zero, suc, ◌==◌, Bool, List, [], ◌∷◌, ◌++◌, length, if◌then◌else◌, codes, decimal}
use Rattle.pdl_semantics.specs.Flat.{Mem, Pipe, has_lock}
use Rattle.pdl_semantics.specs.SecondWrites.{reserves_twice}
use Rattle.pdl_net.specs.declared.BinOp.TheVariants.{Add}
use Rattle.pdl_net.specs.Signal.{Signal, const_signal, bin_signal, mux_signal}
use Rattle.pdl_net.specs.Meaning.{WriteSignal}
use Rattle.pdl_lockapi.specs.Laws.{ReserveSignal, TicketSignal, StepSignals}
use Rattle.pdl_law_parts.specs.declared.Mark.TheVariants.{Late}
use Rattle.pdl_law_parts.specs.Walk.{Reservation, Put, Letting, Advising, one, zero_bit, both}
use Rattle.pdl_law_parts.specs.Views.{View, Gates}

-- ---- the ports of a memory's lock over n stages, of which the first is k; those of the last stage stand first

-- the reserve ports of a memory by the reservations of one stage, where its thread moves
abbrev pub reserves_to : ℕ → Signal → List Reservation → List ReserveSignal
reserves_to m moves [] = []
reserves_to m moves (r ∷ rs) = if r.mem == m then record { enable = both moves r.on; addr = r.addr } ∷ reserves_to m moves rs else reserves_to m moves rs

-- the reserve ports of a memory over n stages
abbrev pub all_reserves : ℕ → (ℕ → View) → (ℕ → Signal) → ℕ → ℕ → List ReserveSignal
all_reserves m vs moves zero k = []
all_reserves m vs moves (suc n) k = all_reserves m vs moves n (suc k) ++ reserves_to m (moves k) (vs k).ended.reserves

-- a ticket, or the one after it where this is 1
abbrev pub one_more : Signal → Signal → Signal
one_more on f = mux_signal on (bin_signal Add f (const_signal f.width 1)) f

-- the ticket of a location by its thread's ticket of the memory: the one after it where the location is late
abbrev pub ticket_at : Bool → (ℕ → Signal) → Signal → ℕ → Signal
ticket_at twice late ticket a = if twice then one_more (late a) ticket else ticket

-- the write ports of a memory by the writes of one stage, where its thread moves, with the ticket of each location
abbrev pub puts_to : ℕ → Signal → (ℕ → Signal) → List Put → List TicketSignal
puts_to m moves ticket [] = []
puts_to m moves ticket (x ∷ xs) =
    if x.mem == m
    then record { enable = both moves x.on; ticket = ticket x.var; value = x.value } ∷ puts_to m moves ticket xs
    else puts_to m moves ticket xs

-- the tickets of a stage's locations of a memory
abbrev pub tickets_to : Bool → ℕ → View → ℕ → Signal
tickets_to twice m v a = ticket_at twice (v.ended.marks Late m) (v.tickets m) a

-- the write ports of a memory over n stages
abbrev pub all_puts : Bool → ℕ → (ℕ → View) → (ℕ → Signal) → ℕ → ℕ → List TicketSignal
all_puts twice m vs moves zero k = []
all_puts twice m vs moves (suc n) k = all_puts twice m vs moves n (suc k) ++ puts_to m (moves k) (tickets_to twice m (vs k)) (vs k).ended.puts

-- whether a thread moves that releases its write reservation of the memory, else this
abbrev pub release_moves : ℕ → Signal → List Letting → Signal → Signal
release_moves m moves [] rest = rest
release_moves m moves (l ∷ ls) rest = if l.mem == m then mux_signal (both moves l.on) one (release_moves m moves ls rest) else release_moves m moves ls rest

-- whether in one of n stages a thread moves that releases its write reservation of the memory
abbrev pub release_signal : ℕ → (ℕ → View) → (ℕ → Signal) → ℕ → ℕ → Signal
release_signal m vs moves zero k = zero_bit
release_signal m vs moves (suc n) k = release_moves m (moves k) (vs k).ended.lettings (release_signal m vs moves n (suc k))

-- whether a thread moves that makes two of these releases of the memory, where `any` says of others whether one is made, and `rest` whether two are
abbrev pub second_moves : ℕ → Signal → List Letting → Signal → Signal → Signal
second_moves m moves [] any rest = rest
second_moves m moves (l ∷ ls) any rest =
    if l.mem == m
    then mux_signal (both moves l.on) (release_moves m moves ls any) (second_moves m moves ls any rest)
    else second_moves m moves ls any rest

-- whether in n stages threads move that release two write reservations of the memory
abbrev pub second_signal : ℕ → (ℕ → View) → (ℕ → Signal) → ℕ → ℕ → Signal
second_signal m vs moves zero k = zero_bit
second_signal m vs moves (suc n) k =
    second_moves m (moves k) (vs k).ended.lettings (release_signal m vs moves n (suc k)) (second_signal m vs moves n (suc k))

-- all that a cycle does to a lock; where no path reserves its memory twice there is no second release
abbrev pub step_of : Pipe → (ℕ → View) → Gates → (ℕ → Signal) → ℕ → StepSignals
step_of p vs gates moves m = record {
  reserves = all_reserves m vs moves (length p.stages) 0;
  writes = all_puts (reserves_twice m p.stmts) m vs moves (length p.stages) 0;
  release = release_signal m vs moves (length p.stages) 0;
  release2 = if reserves_twice m p.stmts then second_signal m vs moves (length p.stages) 0 else zero_bit;
  squash = gates.squash;
  tail = gates.tail m;
}

-- ---- the ports of the array of a memory without lock, over n stages, of which the first is k; those of the last stage stand first

-- the write ports of a memory's array by the advisory writes of one stage, where its thread moves
abbrev pub advises_to : ℕ → Signal → List Advising → List WriteSignal
advises_to m moves [] = []
advises_to m moves (x ∷ xs) =
    if x.mem == m then record { enable = both moves x.on; addr = x.addr; value = x.value } ∷ advises_to m moves xs else advises_to m moves xs

-- the write ports of a memory's array over n stages: of two that write one word in a cycle the later one holds
abbrev pub all_advises : ℕ → (ℕ → View) → (ℕ → Signal) → ℕ → ℕ → List WriteSignal
all_advises m vs moves zero k = []
all_advises m vs moves (suc n) k = all_advises m vs moves n (suc k) ++ advises_to m (moves k) (vs k).ended.advises

-- ---- outputs

-- an output with its signal
pub record Shown : Type 0 where
  pub name : List ℕ
  pub signal : Signal

-- an output with this name and signal
abbrev pub shown_signal : List ℕ → Signal → Shown
shown_signal x f = record { name = x; signal = f }

-- what a memory commits: whether, where and what
pub record Commit : Type 0 where
  pub enable : Signal
  pub addr : Signal
  pub value : Signal

-- what a memory commits in a cycle: the older write first
pub record Commits : Type 0 where
  pub first : Commit
  pub second : Commit

-- of each of n stages whether it holds a thread and whether that moves; the first has the number k
abbrev pub stages_shown : (ℕ → View) → (ℕ → Signal) → ℕ → ℕ → List Shown
stages_shown vs moves zero k = []
stages_shown vs moves (suc n) k =
    shown_signal (codes "v_" ++ decimal k) (vs k).valid ∷ shown_signal (codes "g_" ++ decimal k) (moves k) ∷ stages_shown vs moves n (suc k)

-- the three outputs of what a memory commits first, by its name
abbrev pub first_shown : List ℕ → Commit → List Shown
first_shown name c = shown_signal (codes "c_" ++ name) c.enable ∷ shown_signal (codes "ca_" ++ name) c.addr ∷ shown_signal (codes "cd_" ++ name) c.value ∷ []

-- the three outputs of what it commits second
abbrev pub second_shown : List ℕ → Commit → List Shown
second_shown name c = shown_signal (codes "c2_" ++ name) c.enable ∷ shown_signal (codes "ca2_" ++ name) c.addr ∷ shown_signal (codes "cd2_" ++ name) c.value ∷ []

-- the outputs of what a memory commits, by its name: of a second commit where some path reserves it twice for writing
abbrev pub commit_shown : List ℕ → Bool → Commits → List Shown
commit_shown name twice c = first_shown name c.first ++ (if twice then second_shown name c.second else [])

-- of each memory with a lock, of which the first has the number m, by the memories' names
abbrev pub commits_shown : (ℕ → List ℕ) → (ℕ → Bool) → (ℕ → Commits) → ℕ → List Mem → List Shown
commits_shown names twice commits m [] = []
commits_shown names twice commits m (x ∷ xs) =
    (if has_lock x.lock then commit_shown (names m) (twice m) (commits m) else []) ++ commits_shown names twice commits (suc m) xs
