-- What stands beside the stages, in signals: the ports of delayed memories, the orders of forks, and speculation; and what the stages ask of them.
use Rattle.std.specs.Prelude.{ℕ, zero, suc, ◌==◌, Bool, List, [], ◌∷◌, Option, Some, None, if◌then◌else◌, nat_lt, length, filter}
use Rattle.pdl_semantics.specs.Flat.{Next, Ends, Goes, Forks, Branch, Pipe}
use Rattle.pdl_semantics.specs.Stages.{stage_at, is_inside, sides_of, merges_fork, verify_stage}
use Rattle.pdl_semantics.specs.Updates.{squash_stages}
use Rattle.pdl_semantics.specs.Cycle.{merges_by}
use Rattle.pdl_net.specs.Circuit.{State}
use Rattle.pdl_net.specs.Signal.{Signal, mux_signal}
use Rattle.pdl_port.specs.Port.{PortState}
use Rattle.pdl_port.specs.Laws.{AnswerSignals}
use Rattle.pdl_port.specs.Laws as port_laws
use Rattle.pdl_order.specs.Laws as order_laws
use Rattle.pdl_law_parts.specs.Walk.{Ask, Walk, one, zero_bit, both, if_on}
use Rattle.pdl_law_parts.specs.Views.{View, Gates, way_on}
use Rattle.pdl_machine_inflight.specs.Readings.{Reading, reading, places, place_at}

-- a delayed memory's port: which states of the circuit stand for which of the port, the reply and the word from outside, the answers of each place, and whether it is free
pub record PortNets : Type 1 where
  pub stands : State → PortState → Type 0
  pub reply : Signal
  pub word : Signal
  pub answers : ℕ → AnswerSignals
  pub free : Signal

-- a fork's order: which states of the circuit stand for which list, the first entry, and whether there is none
pub record OrderNets : Type 1 where
  pub stands : State → List Bool → Type 0
  pub first : Signal
  pub empty : Signal

-- of each memory the port, of each stage that forks the order, of each stage that squashes whether it does, whom it removes, and which stages no thread stands behind up to it, and of each stage and memory the ticket from which on the thread's squash would drop pending writes
pub record Sides : Type 1 where
  pub port : ℕ → PortNets
  pub order : ℕ → OrderNets
  pub squash : ℕ → Signal
  pub removed : ℕ → ℕ → Signal
  pub clear : ℕ → ℕ → Signal
  pub tails : ℕ → ℕ → Signal

-- the answers of each memory's port
abbrev pub answers_of : Sides → ℕ → ℕ → AnswerSignals
answers_of sides m = (sides.port m).answers

-- ---- what a stage begins with

-- the answer that comes into stage k through one of these places, of which the first has the number i, else this
abbrev pub place_answer : (ℕ → AnswerSignals) → ℕ → List ℕ → ℕ → Signal → Signal
place_answer f k [] i rest = rest
place_answer f k (q ∷ qs) i rest = if q == k then mux_signal (f i).given (f i).value (place_answer f k qs (suc i) rest) else place_answer f k qs (suc i) rest

-- the answer that comes into stage k of memory m, where its delayed read binds x, else this
abbrev pub memory_answer : Pipe → (ℕ → ℕ → AnswerSignals) → ℕ → ℕ → ℕ → Option Reading → Signal → Signal
memory_answer p answers k x m None rest = rest
memory_answer p answers k x m (Some r) rest = if r.var == x then place_answer (answers m) k (places p r) 0 rest else rest

-- the answer for x that comes into stage k of one of n memories, of which the first is m, else this
abbrev pub some_answer : Pipe → (ℕ → ℕ → AnswerSignals) → ℕ → ℕ → ℕ → ℕ → Signal → Signal
some_answer p answers k x zero m rest = rest
some_answer p answers k x (suc n) m rest = memory_answer p answers k x m (reading p m) (some_answer p answers k x n (suc m) rest)

-- a variable with this cycle's answers, where it was kept so
abbrev pub with_answer : Pipe → (ℕ → ℕ → AnswerSignals) → ℕ → ℕ → Signal → Signal
with_answer p answers k x kept = some_answer p answers k x (length p.mems) 0 kept

-- ---- whether a thread may pass

-- whether the thread of stage k awaits no answer any more through one of these places, of which the first has the number i
abbrev pub place_answered : (ℕ → AnswerSignals) → ℕ → List ℕ → ℕ → Signal
place_answered f k [] i = one
place_answered f k (q ∷ qs) i = if q == k then both (f i).answered (place_answered f k qs (suc i)) else place_answered f k qs (suc i)

-- whether the thread of stage k awaits no answer of memory m any more
abbrev pub memory_answered : Pipe → (ℕ → ℕ → AnswerSignals) → ℕ → ℕ → Option Reading → Signal
memory_answered p answers k m None = one
memory_answered p answers k m (Some r) = place_answered (answers m) k (places p r) 0

-- whether the thread of stage k awaits no answer of n memories any more, of which the first is m
abbrev pub all_answered : Pipe → (ℕ → ℕ → AnswerSignals) → ℕ → ℕ → ℕ → Signal
all_answered p answers k zero m = one
all_answered p answers k (suc n) m = both (memory_answered p answers k m (reading p m)) (all_answered p answers k n (suc m))

-- a stage moves only where none of these stages, as far as they are later, squashes
abbrev pub unsquashed : List ℕ → ℕ → (ℕ → Signal) → Signal
unsquashed [] k squash = one
unsquashed (z ∷ zs) k squash = if nat_lt k z then mux_signal (squash z) zero_bit (unsquashed zs k squash) else unsquashed zs k squash

-- whether one of these stages has a bit that is 1
abbrev pub any_of : List ℕ → (ℕ → Signal) → Signal
any_of [] f = zero_bit
any_of (z ∷ []) f = f z
any_of (z ∷ y ∷ zs) f = mux_signal (f z) one (any_of (y ∷ zs) f)

-- whether one of these stages, as far as they are later, removes who stands in stage k
abbrev pub any_removes : List ℕ → (ℕ → ℕ → Signal) → ℕ → Signal
any_removes zs removed k = any_of (filter (nat_lt k) zs) (λ z. removed z k)

-- of these stages the one that squashes has this signal; the last one, where none before it does
abbrev pub of_squasher : List ℕ → (ℕ → Signal) → (ℕ → Signal) → Signal → Signal
of_squasher [] squash of none = none
of_squasher (z ∷ []) squash of none = of z
of_squasher (z ∷ y ∷ zs) squash of none = mux_signal (squash z) (of z) (of_squasher (y ∷ zs) squash of none)

-- the port of each delayed read on its path is free
abbrev pub ports_open : Sides → List Ask → Signal
ports_open sides [] = one
ports_open sides (q ∷ qs) = both (if_on q.on (sides.port q.mem).free) (ports_open sides qs)

-- whether no later stage up to V holds a thread
abbrev pub clear_to : Option ℕ → (ℕ → ℕ → Signal) → ℕ → Signal
clear_to None clear k = one
clear_to (Some v) clear k = clear v k

-- at a barrier no later stage up to V holds a thread
abbrev pub barrier_open : Option ℕ → ℕ → Signal → Signal → Signal
barrier_open None k barrier clear = one
barrier_open (Some v) k barrier clear = if nat_lt k v then if_on barrier clear else one

-- into a merge from the side of the fork that is the first of its list, and straight from the fork where that is empty
abbrev pub branch_turn : OrderNets → List Bool → Signal
branch_turn o [] = o.empty
branch_turn o (b ∷ bs) = mux_signal o.empty zero_bit (if b then o.first else mux_signal o.first zero_bit one)

-- whether a thread of these branches may go into a stage, which merges this fork or none
abbrev pub merge_turn : Sides → Option ℕ → List Branch → Signal
merge_turn sides None from = one
merge_turn sides (Some f) from = branch_turn (sides.order f) (sides_of f from)

-- whether the thread of stage k may go into stage q by the order of the fork that q merges
abbrev pub turn : Pipe → Sides → ℕ → ℕ → Signal
turn p sides k q = merge_turn sides (stage_at p q).merges (stage_at p k).branches

-- the whole gate of stage k, by what stands beside the stages
abbrev pub gate_where : Pipe → (ℕ → View) → Gates → Sides → ℕ → Signal
gate_where p vs gates sides k =
    both (all_answered p (answers_of sides) k (length p.mems) 0)
    (both (unsquashed (squash_stages p.stmts) k sides.squash)
    (both (ports_open sides (vs k).ended.asks)
    (both (barrier_open (verify_stage p.stmts) k (vs k).ended.barrier (clear_to (verify_stage p.stmts) sides.clear k))
    (way_on (stage_at p k).next (turn p sides k) (vs k).ended))))

-- ---- what the stages do to a port

-- whether a thread moves that asks the memory, and the address, 0 where none does
abbrev pub asks_memory : ℕ → Signal → List Ask → Signal
asks_memory m moves [] = zero_bit
asks_memory m moves (q ∷ qs) = if q.mem == m then mux_signal (both moves q.on) one (asks_memory m moves qs) else asks_memory m moves qs

-- the address that a thread which moves asks of the memory, 0 where none does
abbrev pub asked_address : ℕ → Signal → List Ask → Signal
asked_address m moves [] = zero_bit
asked_address m moves (q ∷ qs) = if q.mem == m then mux_signal (both moves q.on) q.addr (asked_address m moves qs) else asked_address m moves qs

-- whether a thread that moves goes to the place of this number
abbrev pub goes_to_place : Next → ℕ → Walk → Signal
goes_to_place Ends i w = zero_bit
goes_to_place (Goes to) i w = if i == 0 then one else zero_bit
goes_to_place (Forks x first second) i w = if i == 0 then mux_signal (w.vars x) one zero_bit else mux_signal (w.vars x) zero_bit one

-- whether the thread that comes into a place asks
abbrev pub asked_into : Pipe → (ℕ → View) → (ℕ → Signal) → ℕ → Reading → ℕ → Signal
asked_into p vs moves m r i = both (asks_memory m (moves r.stage) (vs r.stage).ended.asks) (goes_to_place (stage_at p r.stage).next i (vs r.stage).ended)

-- what a cycle does to the port of a memory that is read delayed
abbrev pub port_step : Pipe → (ℕ → View) → Gates → (ℕ → Signal) → Sides → ℕ → Reading → port_laws.StepSignals
port_step p vs gates moves sides m r = record {
  reply = (sides.port m).reply;
  moves = λ i. moves (place_at p r i);
  removed = λ i. gates.kill (place_at p r i);
  asked = asked_into p vs moves m r;
}

-- ---- what they do to an order

-- whether the thread of a fork goes into its first branch, and into its second one
abbrev pub into_first : Pipe → ℕ → Next → Walk → Signal
into_first p f Ends w = zero_bit
into_first p f (Goes to) w = zero_bit
into_first p f (Forks x first second) w = if is_inside p f first then mux_signal (w.vars x) one zero_bit else zero_bit

-- whether the thread of a fork goes into its second branch
abbrev pub into_second : Pipe → ℕ → Next → Walk → Signal
into_second p f Ends w = zero_bit
into_second p f (Goes to) w = zero_bit
into_second p f (Forks x first second) w = if is_inside p f second then mux_signal (w.vars x) zero_bit one else zero_bit

-- whether a thread goes into a stage that merges the fork
abbrev pub merging : Pipe → ℕ → ℕ → Signal
merging p f q = if merges_fork (stage_at p q).merges f then one else zero_bit

-- whether a thread goes from a stage into one that merges the fork
abbrev pub into_merge : Pipe → ℕ → Next → Walk → Signal
into_merge p f Ends w = zero_bit
into_merge p f (Goes to) w = merging p f to
into_merge p f (Forks x first second) w = mux_signal (w.vars x) (merging p f first) (merging p f second)

-- whether out of n stages, of which the first is k, one in a branch of the fork lets its thread into the merge
abbrev pub leaves_fork : Pipe → (ℕ → View) → (ℕ → Signal) → ℕ → ℕ → ℕ → Signal
leaves_fork p vs moves f zero k = zero_bit
leaves_fork p vs moves f (suc n) k =
    if is_inside p f k
    then mux_signal (both (moves k) (into_merge p f (stage_at p k).next (vs k).ended)) one (leaves_fork p vs moves f n (suc k))
    else leaves_fork p vs moves f n (suc k)

-- whether one of these stages squashes, in which or before which the fork merges
abbrev pub emptied_by : Pipe → ℕ → List ℕ → (ℕ → Signal) → Signal
emptied_by p f zs squash = any_of (filter (λ z. merges_by p f (Some z)) zs) squash

-- what a cycle does to the order of a fork, where stages squash so
abbrev pub order_step : Pipe → (ℕ → View) → (ℕ → Signal) → (ℕ → Signal) → ℕ → order_laws.StepSignals
order_step p vs squash moves f = record {
  entered_first = both (moves f) (into_first p f (stage_at p f).next (vs f).ended);
  entered_second = both (moves f) (into_second p f (stage_at p f).next (vs f).ended);
  left = leaves_fork p vs moves f (length p.stages) 0;
  emptied = emptied_by p f (squash_stages p.stmts) squash;
}

-- ---- tails

-- the stages with these tickets in place of their own
abbrev pub with_tickets : (ℕ → View) → (ℕ → ℕ → Signal) → ℕ → View
with_tickets vs tails k = record (vs k) { tickets = tails k }
