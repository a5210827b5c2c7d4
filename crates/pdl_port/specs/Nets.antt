-- The nets of a port as signals.
use Rattle.std.specs.Prelude.{◌≡◌, ℕ, zero, suc, ◌+◌, ◌<◌, List, length}
use Rattle.pdl_net.specs.Circuit.{Circuit}
use Rattle.pdl_net.specs.Signal.{Signal, reg_signal, const_signal, mux_signal}
use Rattle.pdl_net.specs.Meaning.{Means, next_signal}
use Rattle.pdl_net.specs.Growth.{Own}
use Rattle.pdl_port.specs.declared.Answer.{Answer}
use Rattle.pdl_port.specs.declared.layout.PortLayout.{PortLayout}
use Rattle.pdl_port.specs.Laws.{AnswerSignals, StepSignals, answer_in}
use Rattle.pdl_port.specs.Places.{owns_at}

-- the thread of place k owns the outstanding request
abbrev pub owns_signal : PortLayout → ℕ → Signal
owns_signal l k = reg_signal 1 (owns_at l k)

-- an owner waits for a reply, and has what comes now
abbrev pub answered_signal : PortLayout → Signal → ℕ → Signal
answered_signal l reply k = mux_signal (owns_signal l k) reply (const_signal 1 1)

-- the thread of place k owns the outstanding request, and the reply to it comes now
abbrev pub given_signal : PortLayout → Signal → ℕ → Signal
given_signal l reply k = mux_signal (owns_signal l k) reply (const_signal 1 0)

-- what a port tells of place k, by its registers, the reply and its word
abbrev pub place_signals : PortLayout → Signal → Signal → ℕ → AnswerSignals
place_signals l reply word k = record { answered = answered_signal l reply k; given = given_signal l reply k; value = word }

-- the nets of the first n places say this
pub record AreAnswers (c : Circuit) (l : PortLayout) (reply word : Signal) (answers : List Answer) (n : ℕ) : Type 0 where
  pub count : length answers ≡ n
  pub answered : (k : ℕ) → k < n → Means c (answer_in answers k).answered (answered_signal l reply k)
  pub given : (k : ℕ) → k < n → Means c (answer_in answers k).given (given_signal l reply k)
  pub value : (k : ℕ) → k < n → Means c (answer_in answers k).value word

-- the port is free: an orphan is answered, the owner among the first n places is answered and moves, or there is neither
unfoldable pub free_signal : PortLayout → Signal → (ℕ → Signal) → ℕ → Signal
free_signal l reply moves zero = mux_signal (reg_signal 1 l.from) reply (const_signal 1 1)
free_signal l reply moves (suc k) = mux_signal (owns_signal l k) (mux_signal reply (moves k) (const_signal 1 0)) (free_signal l reply moves k)

-- the thread of place k owns a request that isn't answered
abbrev pub open_signal : PortLayout → StepSignals → ℕ → Signal
open_signal l f k = mux_signal f.reply (const_signal 1 0) (owns_signal l k)

-- what the register of place k takes next
abbrev pub next_owns : PortLayout → StepSignals → ℕ → Signal
next_owns l f k = mux_signal (f.asked k) (const_signal 1 1) (mux_signal (f.removed k) (const_signal 1 0) (open_signal l f k))

-- an orphan is left: one that isn't answered, or the unanswered request of a thread in the first n places that is removed
unfoldable pub orphan_signal : PortLayout → StepSignals → ℕ → Signal
orphan_signal l f zero = mux_signal f.reply (const_signal 1 0) (reg_signal 1 l.from)
orphan_signal l f (suc k) = mux_signal (f.removed k) (mux_signal (open_signal l f k) (const_signal 1 1) (orphan_signal l f k)) (orphan_signal l f k)

-- what the registers of the first n places take next
pub record NextPlaces (c : Circuit) (l : PortLayout) (f : StepSignals) (n : ℕ) : Type 0 where
  pub owns : (k : ℕ) → k < n → next_signal c (owns_at l k) ≡ next_owns l f k

-- what all registers take next
pub record NextPort (c : Circuit) (l : PortLayout) (f : StepSignals) : Type 0 where
  pub places : NextPlaces c l f l.places
  pub orphan : next_signal c l.from ≡ orphan_signal l f l.places

-- the registers of a port
abbrev pub own_all : PortLayout → Own
own_all l = record { from = l.from; to = l.from + (l.places + 1); first = 0; last = 0 }

-- the registers of the places of a port
abbrev pub own_places : PortLayout → Own
own_places l = record { from = l.from + 1; to = l.from + l.places + 1; first = 0; last = 0 }
