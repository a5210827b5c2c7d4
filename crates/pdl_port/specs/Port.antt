-- The port of a delayed memory: whose request is outstanding, what a cycle does to it, and what a cycle makes of it.
use Rattle.std.specs.Prelude.{◌≡◌, ℕ, zero, suc, ◌<◌, Bool, true, false, ◌&&◌, ◌==◌, if◌then◌else◌, Option, Some, None, is_some}

-- a request is outstanding of the thread in a place, or of one that was removed, or none is
pub data PortState : Type 0 where
  Idle : PortState
  Owned : (place : ℕ) → PortState
  Orphan : PortState

-- what a cycle does to a port: whether the outstanding request is answered, and of each place whether its thread moves, whether it is removed, and whether the thread that comes into it makes a request
pub record PortAct : Type 0 where
  pub reply : Bool
  pub moves : ℕ → Bool
  pub removed : ℕ → Bool
  pub asked : ℕ → Bool

-- the request is that of the thread in a place
abbrev pub owns : PortState → ℕ → Bool
owns Idle k = false
owns (Owned j) k = j == k
owns Orphan k = false

-- the thread of a place waits for no answer: it awaits none, or gets it now
abbrev pub is_answered : PortState → Bool → ℕ → Bool
is_answered x reply k = if owns x k then reply else true

-- the answer that comes now is for the thread of a place
abbrev pub is_given : PortState → Bool → ℕ → Bool
is_given x reply k = if owns x k then reply else false

-- the port is free: no request is outstanding, or it is answered now, and its thread was removed or moves now
abbrev pub is_free : PortState → Bool → (ℕ → Bool) → Bool
is_free Idle reply moves = true
is_free (Owned k) reply moves = reply && moves k
is_free Orphan reply moves = reply

-- the first of n places that asks
abbrev pub asker : (ℕ → Bool) → ℕ → Option ℕ
asker asked zero = None
asker asked (suc n) = if is_some (asker asked n) then asker asked n else (if asked n then Some n else None)

-- an answer ends a request, and the removal of its thread leaves an orphan of one that isn't answered
abbrev pub left_request : PortAct → PortState → PortState
left_request a Idle = Idle
left_request a (Owned k) = if a.reply then Idle else (if a.removed k then Orphan else Owned k)
left_request a Orphan = if a.reply then Idle else Orphan

-- a new request stands in place of any other
abbrev pub asked_request : Option ℕ → PortState → PortState
asked_request None x = x
asked_request (Some k) x = Owned k

-- the port of n places after a cycle
abbrev pub step : ℕ → PortState → PortAct → PortState
step n x a = asked_request (asker a.asked n) (left_request a x)

-- proper use of a port of n places in one cycle: at most one place asks, and only where the port is free
pub record Proper (n : ℕ) (x : PortState) (a : PortAct) : Type 0 where
  pub one : (j k : ℕ) → j < n → k < n → a.asked j ≡ true → a.asked k ≡ true → j ≡ k
  pub free : (k : ℕ) → k < n → a.asked k ≡ true → is_free x a.reply a.moves ≡ true
