-- The stages in a netlist: what each begins and ends with, which threads move, and who comes into a stage.
use Rattle.std.specs.Prelude.{ℕ, zero, suc, ◌==◌, List, [], ◌∷◌, ◌++◌, map, if◌then◌else◌, length, slice_index_or}
use Rattle.pdl_semantics.specs.Flat.{Next, Ends, Goes, Forks, Pipe}
use Rattle.pdl_semantics.specs.Stages.{stage_at}
use Rattle.pdl_net.specs.Signal.{Signal, no_signal, mux_signal}
use Rattle.pdl_machine_facts.specs.Slots.{ways}
use Rattle.pdl_law_parts.specs.declared.Mark.{Mark}
use Rattle.pdl_law_parts.specs.Walk.{Birth, Walk, one, zero_bit, both}

-- a stage: whether it holds a thread, that thread's variables as they were kept and its ticket of each lock, and the walk before and after its rows; the walk begins with the answers of this cycle
pub record View : Type 0 where
  pub valid : Signal
  pub kept : ℕ → Signal
  pub tickets : ℕ → Signal
  pub begun : Walk
  pub ended : Walk

-- what stands beside the stages, in signals: whether it lets a stage's thread move, whether it removes a thread that stays, whether it squashes, and of each lock the ticket from which on a squash drops pending writes
pub record Gates : Type 0 where
  pub gate : ℕ → Signal
  pub kill : ℕ → Signal
  pub squash : Signal
  pub tail : ℕ → Signal

-- ---- who moves

-- whether a stage is free for a thread: it is empty or its thread moves
abbrev pub free : (ℕ → View) → (ℕ → Signal) → ℕ → Signal
free vs moves q = mux_signal (vs q).valid (moves q) one

-- whether the next stage is free; after the last one all is
abbrev pub way_on : Next → (ℕ → Signal) → Walk → Signal
way_on Ends free w = one
way_on (Goes to) free w = free to
way_on (Forks x first second) free w = mux_signal (w.vars x) (free first) (free second)

-- whether a stage's thread moves: it is there, the locks let it, the gate of what stands beside the stages is open, and its next stage is free
abbrev pub moves_where : Pipe → (ℕ → View) → (ℕ → Signal) → (ℕ → Signal) → ℕ → Signal
moves_where p vs gate moves k =
    both (vs k).valid (both (vs k).ended.ready (both (gate k) (way_on (stage_at p k).next (free vs moves) (vs k).ended)))

-- ---- who comes

-- a thread that may come into a stage: whether it comes, its variables, the marks of its locations, its tickets, and its guess
pub record Comer : Type 0 where
  pub comes : Signal
  pub vars : ℕ → Signal
  pub marks : Mark → ℕ → ℕ → Signal
  pub tickets : ℕ → Signal
  pub guess : ℕ → Signal

-- whether a thread that moves goes to stage q
abbrev pub branch : Next → ℕ → Walk → Signal
branch Ends q w = zero_bit
branch (Goes to) q w = if to == q then one else zero_bit
branch (Forks x first second) q w = mux_signal (w.vars x) (if first == q then one else zero_bit) (if second == q then one else zero_bit)

-- who comes out of stage j into stage q
abbrev pub out_of : Pipe → (ℕ → View) → (ℕ → Signal) → ℕ → ℕ → Comer
out_of p vs moves q j = record {
  comes = both (moves j) (branch (stage_at p j).next q (vs j).ended);
  vars = (vs j).ended.vars;
  marks = (vs j).ended.marks;
  tickets = (vs j).tickets;
  guess = λ i. slice_index_or (vs j).ended.guess i no_signal;
}

-- a new thread: its arguments, and zeros after them
abbrev pub new_by : Signal → Birth → Comer
new_by moves b = record {
  comes = both moves b.on;
  vars = λ x. slice_index_or b.args x no_signal;
  marks = λ k m a. zero_bit;
  tickets = λ m. no_signal;
  guess = λ i. no_signal;
}

-- who comes of the calls of n stages, of which the first is k
abbrev pub new_from : (ℕ → View) → (ℕ → Signal) → ℕ → ℕ → List Comer
new_from vs moves zero k = []
new_from vs moves (suc n) k = map (new_by (moves k)) (vs k).ended.births ++ new_from vs moves n (suc k)

-- all that may come into a stage: into stage 0 new threads
abbrev pub comers : Pipe → (ℕ → View) → (ℕ → Signal) → ℕ → List Comer
comers p vs moves q = (if q == 0 then new_from vs moves (length p.stages) 0 else []) ++ map (out_of p vs moves q) (ways p q)

-- what the first that comes brings, else this
abbrev pub first_coming : (Comer → Signal) → List Comer → Signal → Signal
first_coming of [] f = f
first_coming of (c ∷ cs) f = mux_signal c.comes (of c) (first_coming of cs f)
