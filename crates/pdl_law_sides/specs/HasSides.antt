-- What stands beside the stages of a pipe, by the laws of its circuits.
use Rattle.std.specs.Prelude.{◌≡◌, ℕ, ◌+◌, ◌<◌, ◌≤◌, true, Some, length, Contains}
use Rattle.pdl_semantics.specs.Flat.{Pipe}
use Rattle.pdl_semantics.specs.Stages.{stage_at, reserve_stage, verify_stage}
use Rattle.pdl_semantics.specs.Updates.{squash_stages}
use Rattle.pdl_net.specs.Circuit.{Circuit, State, HasReg}
use Rattle.pdl_net.specs.Signal.{Signal}
use Rattle.pdl_net.specs.Well.{Suits}
use Rattle.pdl_net.specs.Growth.{Own}
use Rattle.pdl_lockapi.specs.Lock.{LockState, next_ticket}
use Rattle.pdl_lockapi.specs.Laws.{holds_ticket, asked_addresses}
use Rattle.pdl_port.specs.Laws as port_laws
use Rattle.pdl_squash.specs.Laws as squash_laws
use Rattle.pdl_order.specs.Laws as order_laws
use Rattle.pdl_law_parts.specs.Walk.{Locks, is_locked, zero_bit}
use Rattle.pdl_law_parts.specs.Views.{View, Gates, Comer, comers, first_coming}
use Rattle.pdl_law_parts.specs.Ports.{all_reserves}
use Rattle.pdl_law_parts.specs.Compiled.{Same, Becomes}
use Rattle.pdl_machine_inflight.specs.Readings.{Reading, reading, places, place_at, branch_stages}
use Rattle.pdl_law_sides.specs.Sides.{Sides, answers_of, with_answer, gate_where, any_of, any_removes, of_squasher, port_step, order_step, with_tickets}

-- a fragment without array has its own registers
pub record HasOwn (c : Circuit) (own : Own) : Type 0 where
  pub regs : (r : ℕ) → own.from ≤ r → r < own.to → HasReg c r
  pub none : own.last ≤ own.first

-- the port of a memory that is read delayed
pub record HasPort (p : Pipe) (c : Circuit) (vs : ℕ → View) (gates : Gates) (moves : ℕ → Signal) (sides : Sides)
    (own : Own) (m : ℕ) (r : Reading) : Type 0 where
  pub owned : HasOwn c own
  pub starts : port_laws.StartLaw (sides.port m).stands c own
  pub answers : port_laws.AnswerLaw (sides.port m).stands (length (places p r)) (sides.port m).reply (sides.port m).word (sides.port m).answers
  pub free : port_laws.FreeLaw (sides.port m).stands (length (places p r)) (sides.port m).reply (λ i. moves (place_at p r i)) (sides.port m).free
  pub step : port_laws.StepLaw (sides.port m).stands (length (places p r)) own c (port_step p vs gates moves sides m r)

-- the order of a fork
pub record HasOrder (p : Pipe) (c : Circuit) (vs : ℕ → View) (gates : Gates) (moves : ℕ → Signal) (sides : Sides) (own : Own) (f : ℕ) : Type 0 where
  pub owned : HasOwn c own
  pub starts : order_laws.StartLaw (sides.order f).stands c own
  pub first : order_laws.FirstLaw (sides.order f).stands (sides.order f).first (sides.order f).empty
  pub step : order_laws.StepLaw (sides.order f).stands (branch_stages p f) own c (order_step p vs sides.squash moves f)

-- the nets by which a stage squashes
abbrev pub squash_of : (ℕ → View) → (ℕ → Signal) → ℕ → squash_laws.SquashSignals
squash_of vs moves z = record { valid = λ k. (vs k).valid; stage = z; moves = moves z; fails = (vs z).ended.fails }

-- squashes, by V and by U of the stages before them: each has its law, and of all stages one squashes or removes where one of the two does
pub record HasRemovals (p : Pipe) (c : Circuit) (vs : ℕ → View) (gates : Gates) (moves : ℕ → Signal) (sides : Sides) : Type 0 where
  pub law : (z : ℕ) → Contains (squash_stages p.stmts) z → squash_laws.SquashLaw (squash_of vs moves z) (sides.squash z) (sides.removed z) (sides.clear z)
  pub squash : Same c gates.squash (any_of (squash_stages p.stmts) sides.squash)
  pub kill : (k : ℕ) → k < length p.stages → Same c (gates.kill k) (any_removes (squash_stages p.stmts) sides.removed k)

-- where a squash cuts each lock: up to the stage of its reserves after all that this cycle reserves, and from there on up to V where it did before
pub record HasTails (p : Pipe) (ls : Locks) (c : Circuit) (vs : ℕ → View) (gates : Gates) (moves : ℕ → Signal) (sides : Sides) (v : ℕ) : Type 0 where
  pub first : (k m : ℕ) → is_locked p m ≡ true → k ≤ v → k ≤ reserve_stage p m
      → (s : State) → Suits c s → (x : LockState) → ls.stands m s x
      → holds_ticket (ls.bits m) (sides.tails k m) s (next_ticket x + length (asked_addresses s (all_reserves m vs moves (length p.stages) 0)))
  pub carried : (k m : ℕ) → is_locked p m ≡ true → k ≤ v → reserve_stage p m < k
      → Becomes c (sides.tails k m) (first_coming (λ (o : Comer). o.tickets m) (comers p (with_tickets vs sides.tails) moves k) (sides.tails k m))
  pub tail : (m : ℕ) → is_locked p m ≡ true
      → Same c (gates.tail m) (of_squasher (squash_stages p.stmts) sides.squash (λ z. sides.tails z m) (sides.tails v m))

-- all of it, and how the stages take it: variables with the answers of this cycle, and gates
pub record HasSides (p : Pipe) (ls : Locks) (c : Circuit) (vs : ℕ → View) (gates : Gates) (moves : ℕ → Signal) (sides : Sides) : Type 0 where
  pub begun : (k x : ℕ) → k < length p.stages → Same c ((vs k).begun.vars x) (with_answer p (answers_of sides) k x ((vs k).kept x))
  pub gate : (k : ℕ) → k < length p.stages → Same c (gates.gate k) (gate_where p vs gates sides k)
  pub port_owns : ℕ → Own
  pub ports : (m : ℕ) (r : Reading) → reading p m ≡ Some r → HasPort p c vs gates moves sides (port_owns m) m r
  pub order_owns : ℕ → Own
  pub orders : (f q : ℕ) → f < length p.stages → (stage_at p q).merges ≡ Some f → HasOrder p c vs gates moves sides (order_owns f) f
  pub removals : HasRemovals p c vs gates moves sides
  pub tails : (v : ℕ) → verify_stage p.stmts ≡ Some v → HasTails p ls c vs gates moves sides v
