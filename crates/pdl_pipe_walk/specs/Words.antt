-- The signals of a memory's word and of a block's look, and what reads and blocks make of them.
use Rattle.std.specs.Prelude.{◌≡◌, ℕ, true, false, Option, Some}
use Rattle.pdl_word.specs.Words.{bit}
use Rattle.pdl_semantics.specs.Flat.{Pipe}
use Rattle.pdl_semantics.specs.Stages.{mem_at}
use Rattle.pdl_net.specs.Circuit.{State}
use Rattle.pdl_net.specs.Signal.{Signal, read_signal}
use Rattle.pdl_lockapi.specs.declared.Kind.{Kind as LookKind}
use Rattle.pdl_lockapi.specs.declared.Kind.TheVariants as look_kind
use Rattle.pdl_lockapi.specs.Lock.{look_ready}
use Rattle.pdl_lockapi.specs.Laws.{LookLaw}
use Rattle.pdl_pipe_exprs.specs.Nets.{signal_at}
use Rattle.pdl_law_parts.specs.declared.Mark.TheVariants.{Held}
use Rattle.pdl_law_parts.specs.Walk.{Locks, is_locked, is_on, look_of, ThroughLock, both, if_on}
use Rattle.pdl_law_parts.specs.Places.{comb_place}
use Rattle.pdl_pipe_walk.specs.Parts.{Parts, mark_of}
use Rattle.pdl_pipe_walk.specs.Steps.{with_var}

-- what a look through the lock of a memory gives: whether it is ready, and a value
abbrev pub IsLookOf : Locks → ℕ → LookKind → Signal → Signal → Signal → Option Signal → Type 0
IsLookOf ls m kind addr ticket ready value = LookLaw (ls.stands m) (ls.kind m) (ls.bits m) kind addr ticket ready value

-- the word that is read: of a memory without lock its array's word, of another what a look for reading gives
pub record IsWordSignal (p : Pipe) (ls : Locks) (m : ℕ) (addr ticket f : Signal) : Type 0 where
  pub plain : is_locked p m ≡ false → f ≡ read_signal (mem_at p m).width (comb_place p m) addr
  pub ready : Signal
  pub looked : is_locked p m ≡ true → IsLookOf ls m look_kind.R addr ticket ready (Some f)

-- whether a location is ready: for writing where it is held, else for reading
abbrev pub IsLooked : Locks → ℕ → Signal → Signal → Signal → Signal → Type 0
IsLooked ls m held addr ticket f =
    (s : State) → ThroughLock ls m ticket s (λ x t. f.value s ≡ bit (look_ready (ls.kind m) (look_of (is_on held s)) x t (addr.value s)))

-- a read: where its condition is 1 a variable becomes the word
pub record IsRead (p : Pipe) (ls : Locks) (tickets : ℕ → Signal) (on : Signal) (x m a : ℕ) (w w' : Parts) : Type 0 where
  pub word : Signal
  pub is_word : IsWordSignal p ls m (signal_at w.vars a) (tickets m) word
  pub next : w' ≡ with_var x on word w

-- a block: where its condition is 1 the thread waits until the look is ready
pub record IsBlocked (ls : Locks) (tickets : ℕ → Signal) (on : Signal) (m a : ℕ) (w w' : Parts) : Type 0 where
  pub look : Signal
  pub is_look : IsLooked ls m (mark_of w.marks Held m a) (signal_at w.vars a) (tickets m) look
  pub next : w' ≡ record w { ready = both w.ready (if_on on look) }
