-- What the steps of the locks go round.
use Rattle.std.specs.Prelude.{ℕ, Bool, false, slice_index_or}
use Rattle.pdl_form.specs.FormView.{form}
use Rattle.pdl_net.specs.Circuit.{Circuit}
use Rattle.pdl_lockapi.specs.Laws.{StepSignals}
use Rattle.pdl_net.specs.Meaning.{signal}
use Rattle.pdl_pipe_walk.specs.Locked.{Members, AreLocked, tickets_in}
use Rattle.pdl_pipe_walk.specs.Setting.{TellsTwice}
use Rattle.pdl_pipe_locks.specs.declared.steps.Round.{Round}
use Rattle.pdl_pipe_locks.specs.Ports.{signals_of}
use Rattle.pdl_pipe_locks.specs.Deeds.{steps_in, AreDeeds, AreSquashNets}

-- the memories of a round have their arrays and locks in a circuit
abbrev pub HasRoundLocks : {T : Type 0} → Members T → Circuit → Round T → Type 0
HasRoundLocks l c r = AreLocked l c (form r.pipe.now).pipe r.locks.now

-- the deeds of a round are there, one for each stage
abbrev pub HasRoundDeeds : {T : Type 0} → Members T → Circuit → Round T → Type 0
HasRoundDeeds l c r = AreDeeds l c (form r.pipe.now).pipe (form r.pipe.now).widths r.locks.now r.deeds.now

-- a round's nets of a squash are there
abbrev pub HasRoundSquash : {T : Type 0} → Members T → Circuit → Round T → Type 0
HasRoundSquash l c r = AreSquashNets l c r.locks.now r.squash r.tails.now

-- the flags of a round say of each memory whether some path reserves it twice for writing
abbrev pub HasRoundTwice : {T : Type 0} → Round T → Type 0
HasRoundTwice r = TellsTwice (form r.pipe.now) r.twice.now

-- the flag of memory m
abbrev pub is_twice : {T : Type 0} → Round T → ℕ → Bool
is_twice r m = slice_index_or r.twice.now m false

-- what the stages do to the lock of a memory, by the nets of its ports
abbrev pub round_signals : {T : Type 0} → Circuit → Round T → ℕ → StepSignals
round_signals c r m = signals_of c (is_twice r m) r.deeds.now m (signal c r.squash) (tickets_in c r.tails.now m)

-- what the stages do to the lock of each memory, by their deeds
abbrev pub round_steps : {T : Type 0} → Circuit → Round T → ℕ → StepSignals
round_steps c r = steps_in c (form r.pipe.now).pipe r.deeds.now r.squash r.tails.now
