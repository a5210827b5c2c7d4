-- What the statements of a stage are made nets in.
use Rattle.std.specs.Prelude.{◌≡◌, ℕ, Bool, List}
use Rattle.pdl_semantics.specs.Flat.{Stmt}
use Rattle.pdl_semantics.specs.SecondWrites.{all_twice}
use Rattle.pdl_form.specs.Form.{Form}
use Rattle.pdl_form.specs.FormView.{form}
use Rattle.pdl_net.specs.Circuit.{Circuit}
use Rattle.pdl_net.specs.Signal.{Signal}
use Rattle.pdl_law_parts.specs.Walk.{Locks}
use Rattle.pdl_pipe_walk.specs.declared.locks.Setting.{Setting}
use Rattle.pdl_pipe_walk.specs.declared.nets.WalkNets.{WalkNets}
use Rattle.pdl_pipe_walk.specs.Locked.{Members, AreLocked, AreTickets, locks_in, tickets_in}
use Rattle.pdl_pipe_walk.specs.Steps.{AreNetSteps}

-- the memories of a setting have their arrays and locks in a circuit
abbrev pub HasLocks : {T : Type 0} → Members T → Circuit → Setting T → Type 0
HasLocks l c s = AreLocked l c (form s.pipe.now).pipe s.locks.now

-- a setting has a ticket for each memory
abbrev pub HasTickets : {T : Type 0} → Members T → Circuit → Setting T → Type 0
HasTickets l c s = AreTickets l c s.locks.now s.tickets.now

-- truth values tell of each memory whether some path reserves it twice to write
abbrev pub TellsTwice : Form → List Bool → Type 0
TellsTwice f xs = xs ≡ all_twice f.pipe.stmts 0 f.pipe.mems

-- those of a setting do
abbrev pub HasTwice : {T : Type 0} → Setting T → Type 0
HasTwice s = TellsTwice (form s.pipe.now) s.twice.now

-- the locks of a setting as a circuit has them
abbrev pub set_locks : {T : Type 0} → Members T → Circuit → Setting T → Locks
set_locks l c s = locks_in l (form s.pipe.now).pipe c s.locks.now

-- the tickets of a setting as a circuit has them
abbrev pub set_tickets : {T : Type 0} → Circuit → Setting T → ℕ → Signal
set_tickets c s = tickets_in c s.tickets.now

-- the rows lead from a stage's nets in one circuit to its nets in a later one, with these locks and tickets
abbrev pub AreSetSteps : {T : Type 0} → Members T → Setting T → List Stmt → Circuit → WalkNets → Circuit → WalkNets → Type 0
AreSetSteps l s xs a w b w' = AreNetSteps l (form s.pipe.now).pipe s.locks.now s.tickets.now xs a w b w'
