-- Parts of a circuit by number, where there are some, each with registers of its own.
use Rattle.std.specs.Prelude.{◌≡◌, ℕ, ◌<◌, ◌≤◌, List, length, Option, Some, None}
use Rattle.pdl_net.specs.Circuit.{Circuit, HasReg, HasArray, shapes_of}
use Rattle.pdl_net.specs.Meaning.{next_signal, write_signals}
use Rattle.pdl_net.specs.Growth.{Own, Outside, Keeps}
use Rattle.pdl_pipe_walk.specs.Locked.{some_at}

-- the first n parts, of which each has what it should have; their registers follow one another from a lower one up to a higher one
pub record AreParts {T : Type 0} (own : T → Own) (Has : ℕ → Option T → Type 0) (low high : ℕ) (xs : List (Option T)) (n : ℕ) : Type 0 where
  pub count : length xs ≡ n
  pub each : (i : ℕ) → i < n → Has i (some_at xs i)
  pub from : (i : ℕ) (x : T) → i < n → some_at xs i ≡ Some x → low ≤ (own x).from
  pub to : (i : ℕ) (x : T) → i < n → some_at xs i ≡ Some x → (own x).to ≤ high
  pub apart : (i j : ℕ) (x y : T) → i < j → j < n → some_at xs i ≡ Some x → some_at xs j ≡ Some y → (own x).to ≤ (own y).from

-- a part whose registers are new
pub record IsNewPart {T : Type 0} (own : T → Own) (old new : Circuit) (o : Option T) : Type 0 where
  pub from : (x : T) → o ≡ Some x → length old.regs ≤ (own x).from
  pub to : (x : T) → o ≡ Some x → (own x).to ≤ length new.regs

-- ---- what changes

-- the registers of a part, where there is one
abbrev pub own_of : {T : Type 0} → (T → Own) → Option T → Own
own_of own None = record { from = 0; to = 0; first = 0; last = 0 }
own_of own (Some x) = own x

-- the registers of the part of this number; none where there is no such part
abbrev pub own_at : {T : Type 0} → (T → Own) → List (Option T) → ℕ → Own
own_at own xs i = own_of own (some_at xs i)

-- only registers of some of n parts have changed what they take next
pub record ExtendsParts (owns : ℕ → Own) (n : ℕ) (old new : Circuit) : Type 0 where
  pub keeps : Keeps old new
  pub nexts : (k : ℕ) → HasReg old k → ((i : ℕ) → i < n → Outside (owns i).from (owns i).to k) → next_signal new k ≡ next_signal old k
  pub writes : (k : ℕ) → HasArray old k → write_signals new k ≡ write_signals old k
  pub ports : new.ports ≡ old.ports
  pub shapes : shapes_of new ≡ shapes_of old
