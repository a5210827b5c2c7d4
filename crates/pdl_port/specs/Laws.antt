-- What the calls of a port ensure.
use Rattle.std.specs.Prelude.{◌≡◌, ℕ, ◌+◌, ◌<◌, ◌≤◌, Bool, true, List, length, slice_index, slice_index_or}
use Rattle.pdl_word.specs.Words.{bit}
use Rattle.pdl_net.specs.declared.Net.{Net}
use Rattle.pdl_net.specs.declared.Net.TheVariants.{Input}
use Rattle.pdl_net.specs.Circuit.{Circuit, State, HasReg}
use Rattle.pdl_net.specs.Signal.{Signal}
use Rattle.pdl_net.specs.Meaning.{signal}
use Rattle.pdl_net.specs.Growth.{Own}
use Rattle.pdl_net.specs.HasWidth.{HasWidth}
use Rattle.pdl_lockapi.specs.Laws.{IsReset, IsNext}
use Rattle.pdl_port.specs.declared.Answer.{Answer}
use Rattle.pdl_port.specs.declared.PortRegs.{PortRegs}
use Rattle.pdl_port.specs.declared.PortStep.{PortStep}
use Rattle.pdl_port.specs.Port.{PortState, Idle, PortAct, step, Proper, is_answered, is_given, is_free}

-- how many places a port has
abbrev pub places : PortRegs → ℕ
places r = length r.answers

-- the registers of a port: from this number up to that one
abbrev pub first_reg : PortRegs → ℕ
first_reg r = slice_index r.regs 0

-- the number after that of a port's last register
abbrev pub end_reg : PortRegs → ℕ
end_reg r = first_reg r + length r.regs

-- the registers of a port, which has no array
abbrev pub own : PortRegs → Own
own r = record { from = first_reg r; to = end_reg r; first = 0; last = 0 }

-- the registers are new and follow one another
pub record IsFragment (old new : Circuit) (r : PortRegs) : Type 0 where
  pub some : 1 ≤ length r.regs
  pub listed : (k : ℕ) → k < length r.regs → slice_index r.regs k ≡ first_reg r + k
  pub above : length old.regs ≤ first_reg r
  pub has_reg : (k : ℕ) → first_reg r ≤ k → k < end_reg r → HasReg new k

-- what stands for the answer of a place that isn't there
abbrev pub no_answer : Answer
no_answer = record { answered = Input 0; given = Input 0; value = Input 0 }

-- the nets of the k-th of some answers
abbrev pub answer_in : List Answer → ℕ → Answer
answer_in answers k = slice_index_or answers k no_answer

-- the nets of a port's answer for place k
abbrev pub answer_at : PortRegs → ℕ → Answer
answer_at r k = answer_in r.answers k

-- the nets of the answers are there: 1 bit, 1 bit, and a word
pub record HasAnswerNets (c : Circuit) (width : ℕ) (r : PortRegs) : Type 0 where
  pub answered : (k : ℕ) → k < places r → HasWidth c (answer_at r k).answered 1
  pub given : (k : ℕ) → k < places r → HasWidth c (answer_at r k).given 1
  pub value : (k : ℕ) → k < places r → HasWidth c (answer_at r k).value width

-- registers at reset stand for a port without request
pub record StartLaw (stands : State → PortState → Type 0) (c : Circuit) (o : Own) : Type 0 where
  pub starts : (s : State) → IsReset c o.from o.to s → stands s Idle

-- in this state the first net, a reply, is this bit, and where it is 1 the second one, its word, has this value
pub record Replies (f g : Signal) (s : State) (r : Bool) (w : ℕ) : Type 0 where
  pub reply : f.value s ≡ bit r
  pub word : r ≡ true → g.value s ≡ w

-- what a port tells of one place
pub record AnswerSignals : Type 0 where
  pub answered : Signal
  pub given : Signal
  pub value : Signal

-- what a port tells of place k, by its nets in a circuit
abbrev pub answer_signals : Circuit → PortRegs → ℕ → AnswerSignals
answer_signals c r k = record { answered = signal c (answer_at r k).answered; given = signal c (answer_at r k).given; value = signal c (answer_at r k).value }

-- the nets of a place say whether its thread waits for no answer, whether the answer that comes now is for it, and that answer
pub record AnswerLaw (stands : State → PortState → Type 0) (n : ℕ) (reply word : Signal) (f : ℕ → AnswerSignals) : Type 0 where
  pub answered : (s : State) (x : PortState) (r : Bool) (w : ℕ) → stands s x → Replies reply word s r w → (k : ℕ)
      → k < n → (f k).answered.value s ≡ bit (is_answered x r k)
  pub given : (s : State) (x : PortState) (r : Bool) (w : ℕ) → stands s x → Replies reply word s r w → (k : ℕ) → k < n
      → (f k).given.value s ≡ bit (is_given x r k)
  pub value : (s : State) (x : PortState) (r : Bool) (w : ℕ) → stands s x → Replies reply word s r w → (k : ℕ) → k < n
      → is_given x r k ≡ true → (f k).value.value s ≡ w

-- the k-th of some nets
abbrev pub net_at : List Net → ℕ → Net
net_at nets k = slice_index_or nets k (Input 0)

-- the signal of the k-th of some nets
abbrev pub signal_at : Circuit → List Net → ℕ → Signal
signal_at c nets k = signal c (net_at nets k)

-- these are n nets that are there, each of 1 bit
pub record HasBits (c : Circuit) (nets : List Net) (n : ℕ) : Type 0 where
  pub count : length nets ≡ n
  pub each : (k : ℕ) → k < n → HasWidth c (net_at nets k) 1

-- in this state the nets of n places are these bits
abbrev pub AreBits : ℕ → State → (ℕ → Signal) → (ℕ → Bool) → Type 0
AreBits n s f on = (k : ℕ) → k < n → (f k).value s ≡ bit (on k)

-- the net of a port says whether it is free
pub record FreeLaw (stands : State → PortState → Type 0) (n : ℕ) (reply : Signal) (moves : ℕ → Signal) (free : Signal) : Type 0 where
  pub holds : (s : State) (x : PortState) (r : Bool) (on : ℕ → Bool) → stands s x → reply.value s ≡ bit r
      → AreBits n s moves on → free.value s ≡ bit (is_free x r on)

-- what the nets of a step mean
pub record StepSignals : Type 0 where
  pub reply : Signal
  pub moves : ℕ → Signal
  pub removed : ℕ → Signal
  pub asked : ℕ → Signal

-- what the nets of a step mean in a circuit
abbrev pub step_signals : Circuit → PortRegs → PortStep → StepSignals
step_signals c r p = record {
  reply = signal c r.reply;
  moves = signal_at c p.moves;
  removed = signal_at c p.removed;
  asked = signal_at c p.asked;
}

-- in this state the nets of a step do this to a port of n places
pub record Drives (n : ℕ) (f : StepSignals) (s : State) (a : PortAct) : Type 0 where
  pub reply : f.reply.value s ≡ bit a.reply
  pub moves : AreBits n s f.moves a.moves
  pub removed : AreBits n s f.removed a.removed
  pub asked : AreBits n s f.asked a.asked

-- in a cycle of proper use the next state stands for the step's
pub record StepLaw (stands : State → PortState → Type 0) (n : ℕ) (o : Own) (c : Circuit) (f : StepSignals) : Type 0 where
  pub next : (s t : State) (x : PortState) (a : PortAct) → stands s x → Drives n f s a → Proper n x a → IsNext c o s t → stands t (step n x a)
