-- The text that runs print, as bytes.
use Rattle.std.specs.Prelude.{ℕ, zero, suc, ◌+◌, ◌/◌, Bool, true, false, List, [], ◌∷◌, ◌++◌, codes, decimal, length, count_by, flat_map}
use Rattle.pdl_semantics.specs.Tree.{Mem, Pipe}
use Rattle.pdl_semantics.specs.Flat.{Commit, of_mem, arrays_of}
use Rattle.pdl_semantics.specs.Flatten.{flat}
use Rattle.pdl_semantics.specs.Sequential.{threads}
use Rattle.pdl_semantics.specs.Stages.{depth}
use Rattle.pdl_semantics.specs.Cycle.{PortWrite, Turn, turns, view}
use Rattle.pdl_word.specs.Digits.{hex}

-- how many digits a word of so many bits has
abbrev pub hex_digits : ℕ → ℕ
hex_digits width = (width + 3) / 4

-- a memory as lines show it, with the width of its words
pub record Column : Type 0 where
  pub name : List ℕ
  pub width : ℕ

-- a word written at an address
pub record Put : Type 0 where
  pub address : ℕ
  pub value : ℕ

-- a cycle as lines show it: for each memory the words that reached it, whether a thread ended, whether the cycle was a wait, and whether it had a squash
pub record Cycle : Type 0 where
  pub puts : List (List Put)
  pub ended : Bool
  pub wait : Bool
  pub squash : Bool

-- `<number> <mem> <address decimal> <value>`; the number is that of the cycle or the thread, the value has all its hexadecimal digits
abbrev pub put_line : ℕ → Column → Put → List ℕ
put_line n m w =
    decimal n ++ codes " " ++ m.name ++ codes " " ++ decimal w.address ++ codes " " ++ hex (hex_digits m.width) w.value ++ codes "\n"

-- the lines of one memory in a cycle
abbrev pub mem_lines : ℕ → Column → List Put → List ℕ
mem_lines n m ws = flat_map (put_line n m) ws

-- the lines of one cycle: those of each memory in order
abbrev pub cycle_lines : ℕ → List Column → List (List Put) → List ℕ
cycle_lines n (m ∷ ms) (ws ∷ rest) = mem_lines n m ws ++ cycle_lines n ms rest
cycle_lines n _ _ = []

-- the lines of cycles, of which the first has this number
abbrev pub lines_from : ℕ → List Column → List Cycle → List ℕ
lines_from n ms [] = []
lines_from n ms (c ∷ cs) = cycle_lines n ms c.puts ++ lines_from (suc n) ms cs

-- `end cycles C ended N waits W squashes Q`
abbrev pub end_line : ℕ → ℕ → ℕ → ℕ → List ℕ
end_line cycles ended waits squashes =
    codes "end cycles " ++ decimal cycles ++ codes " ended " ++ decimal ended ++ codes " waits " ++ decimal waits
    ++ codes " squashes " ++ decimal squashes ++ codes "\n"

-- the text of a run: cycles are numbered from 1
abbrev pub lines : List Column → List Cycle → List ℕ
lines ms cs =
    lines_from 1 ms cs
    ++ end_line (length cs) (count_by (λ c. c.ended) cs) (count_by (λ c. c.wait) cs) (count_by (λ c. c.squash) cs)

-- SEQUENTIAL RUNS

-- a memory of a pipe, as lines show it
abbrev pub column : Mem → Column
column m = record { name = m.name.name; width = m.width.value }

-- the memories of a pipe in declared order
abbrev pub columns : List Mem → List Column
columns [] = []
columns (m ∷ ms) = column m ∷ columns ms

-- the words that these writes put into a memory
abbrev pub puts_of : List Commit → List Put
puts_of [] = []
puts_of (c ∷ cs) = record { address = c.address; value = c.value } ∷ puts_of cs

-- the writes by memory, of which the first has the number m
abbrev pub by_mem : ℕ → List Column → List Commit → List (List Put)
by_mem m [] cs = []
by_mem m (x ∷ xs) cs = puts_of (of_mem m cs) ∷ by_mem (suc m) xs cs

-- a cycle in which a whole thread runs and ends
abbrev pub thread_cycle : List Column → List Commit → Cycle
thread_cycle ms writes = record { puts = by_mem 0 ms writes; ended = true; wait = false; squash = false }

-- cycles in each of which a whole thread runs and ends
abbrev pub thread_cycles : List Column → List (List Commit) → List Cycle
thread_cycles ms [] = []
thread_cycles ms (ws ∷ rest) = thread_cycle ms ws ∷ thread_cycles ms rest

-- the text of a run of k cycles in each of which one thread runs from beginning to end, as in a pipe of one stage
abbrev pub sequential_lines : Pipe → List (List ℕ) → ℕ → List ℕ
sequential_lines p image k = lines (columns p.mems) (thread_cycles (columns p.mems) (threads (flat p) (arrays_of image) k))

-- the memory of this number
abbrev pub column_at : List Column → ℕ → Column
column_at [] m = record { name = []; width = 0 }
column_at (x ∷ xs) zero = x
column_at (x ∷ xs) (suc m) = column_at xs m

-- `<thread> <mem> <address decimal> <value>` for each write of a thread, in text order
abbrev pub thread_lines : ℕ → List Column → List Commit → List ℕ
thread_lines n ms cs = flat_map (λ c. put_line n (column_at ms c.mem) (record { address = c.address; value = c.value })) cs

-- the lines of threads, of which the first has this number
abbrev pub threads_lines : ℕ → List Column → List (List Commit) → List ℕ
threads_lines n ms [] = []
threads_lines n ms (ws ∷ rest) = thread_lines n ms ws ++ threads_lines (suc n) ms rest

-- the writes of the first k threads, numbered from 1, and the line `end threads k`
abbrev pub seq_lines : Pipe → List (List ℕ) → ℕ → List ℕ
seq_lines p image k =
    threads_lines 1 (columns p.mems) (threads (flat p) (arrays_of image) k)
    ++ codes "end threads " ++ decimal k ++ codes "\n"

-- RUNS OF THE MACHINE

-- the words that releases put into their arrays
abbrev pub puts_for : List PortWrite → List Put
puts_for [] = []
puts_for (w ∷ ws) = record { address = w.address; value = w.value } ∷ puts_for ws

-- the words that releases put into the array of each memory
abbrev pub puts_in : List (List PortWrite) → List (List Put)
puts_in [] = []
puts_in (ws ∷ rest) = puts_for ws ∷ puts_in rest

-- a cycle of the machine, as lines show it
abbrev pub turn_cycle : Turn → Cycle
turn_cycle t = record { puts = puts_in t.ports.commits; ended = t.ports.ended; wait = t.wait; squash = t.ports.squash }

-- cycles of the machine, as lines show them
abbrev pub turn_cycles : List Turn → List Cycle
turn_cycles [] = []
turn_cycles (t ∷ ts) = turn_cycle t ∷ turn_cycles ts

-- the text of a run from this image with these replies, one list of bits for each cycle
abbrev pub run_lines : Pipe → List (List ℕ) → List (List Bool) → List ℕ
run_lines p image schedule = lines (columns p.mems) (turn_cycles (turns (flat p) (arrays_of image) schedule))

-- for each cycle, numbered from 1, its number and a letter for each stage
abbrev pub view_from : ℕ → List (List ℕ) → List ℕ
view_from n [] = []
view_from n (stages ∷ rest) = decimal n ++ codes " " ++ stages ++ codes "\n" ++ view_from (suc n) rest

-- the text of `view` for a run from this image with these replies
abbrev pub view_lines : Pipe → List (List ℕ) → List (List Bool) → List ℕ
view_lines p image schedule = view_from 1 (view (turns (flat p) (arrays_of image) schedule))

-- `accepted stages K depth D`
abbrev pub accepted_line : Pipe → List ℕ
accepted_line p =
    codes "accepted stages " ++ decimal (length (flat p).stages) ++ codes " depth " ++ decimal (depth (flat p)) ++ codes "\n"
