-- A statement as a step from one walk to another, while the circuit grows.
use Rattle.std.specs.Prelude.{◌≡◌, ℕ, Bool, ◌==◌, List, [], ◌∷◌, ◌++◌, Option, slice_set, if◌then◌else◌}
use Rattle.pdl_word.specs.Words.{bit}
use Rattle.pdl_semantics.specs.Flat.{Guard, Op, Stmt, Pipe}
use Rattle.pdl_net.specs.declared.Net.{Net}
use Rattle.pdl_net.specs.Circuit.{Circuit, State}
use Rattle.pdl_net.specs.Signal.{Signal, mux_signal}
use Rattle.pdl_net.specs.Growth.{Keeps}
use Rattle.pdl_net.specs.Well.{IsWell, Suits}
use Rattle.pdl_pipe_exprs.specs.Nets.{signal_at}
use Rattle.pdl_law_parts.specs.declared.Mark.{Mark}
use Rattle.pdl_law_parts.specs.declared.Mark.TheVariants.{Held, Late}
use Rattle.pdl_law_parts.specs.Walk.{Locks, Reservation, Walk, Row, IsOp, taken_in, walk_after, AreRows, one, zero_bit, both, if_on, reserved_signal}
use Rattle.pdl_pipe_walk.specs.declared.locks.MemLock.{MemLock}
use Rattle.pdl_pipe_walk.specs.declared.nets.WalkNets.{WalkNets}
use Rattle.pdl_pipe_walk.specs.Parts.{Parts, mark_of, walk_in}
use Rattle.pdl_pipe_walk.specs.Guesses.{choices, differ_signal}
use Rattle.pdl_pipe_walk.specs.Locked.{Members, locks_in, tickets_in}

-- ---- what statements change, each under its condition

-- a variable is set to a value
abbrev pub with_var : ℕ → Signal → Signal → Parts → Parts
with_var x on f w = record w { vars = slice_set w.vars x (mux_signal on f (signal_at w.vars x)) }

-- a value is written to a location of a memory
abbrev pub with_put : ℕ → ℕ → Signal → Signal → Parts → Parts
with_put m a on f w = record w { puts = w.puts ++ record { mem = m; var = a; on = on; value = f } ∷ [] }

-- a location gets or loses a mark
abbrev pub with_mark : Mark → ℕ → ℕ → Signal → Signal → Parts → Parts
with_mark k m a on bit w = record w { marks = record { mark = k; mem = m; var = a; signal = mux_signal on bit (mark_of w.marks k m a) } ∷ w.marks }

-- the thread waits for a bit
abbrev pub with_wait : Signal → Signal → Parts → Parts
with_wait on f w = record w { ready = both w.ready (if_on on f) }

-- whether a reservation is made of the memory, or a later one as this tells
abbrev pub reserved_or : ℕ → Reservation → Signal → Signal
reserved_or m r rest = if r.mem == m then mux_signal r.on one rest else rest

-- where an earlier reservation of the memory is made a location becomes late, and the thread waits for room for two
abbrev pub with_second : ℕ → ℕ → Signal → Signal → Signal → Parts → Parts
with_second m a on room room2 w =
    with_wait on (mux_signal (reserved_signal m w.reserves) room2 room) (with_mark Late m a on (reserved_signal m w.reserves) w)

-- the thread waits for room, as after an earlier reservation where some path reserves the memory twice
abbrev pub with_room : Locks → ℕ → ℕ → Signal → Parts → Parts
with_room ls m a on w = if ls.twice m then with_second m a on (ls.room m) (ls.room2 m) w else with_wait on (ls.room m) w

-- one more reservation is made
abbrev pub with_reservation : Reservation → Parts → Parts
with_reservation r w = record w { reserves = w.reserves ++ r ∷ [] }

-- a location is reserved: it becomes held, and the thread waits where there is no room
abbrev pub with_reserve : Locks → ℕ → ℕ → Signal → Parts → Parts
with_reserve ls m a on w =
    with_reservation (record { mem = m; var = a; on = on; addr = signal_at w.vars a }) (with_room ls m a on (with_mark Held m a on one w))

-- a location is released, where it is held
abbrev pub with_release : ℕ → ℕ → Signal → Parts → Parts
with_release m a on w =
    record (with_mark Held m a on zero_bit w) { lettings = w.lettings ++ record { mem = m; on = both on (mark_of w.marks Held m a) } ∷ [] }

-- a call with these arguments makes a new thread
abbrev pub with_call : Signal → List Signal → Parts → Parts
with_call on args w = record w { births = record { on = on; args = args } ∷ w.births }

-- a memory is asked for the word at a location, which is to be bound to a variable
abbrev pub with_ask : ℕ → ℕ → ℕ → Signal → Parts → Parts
with_ask m x a on w = record w { asks = w.asks ++ record { mem = m; var = x; on = on; addr = signal_at w.vars a } ∷ [] }

-- a value is written to a location of an advisory memory
abbrev pub with_advising : ℕ → ℕ → Signal → Signal → Parts → Parts
with_advising m a on f w = record w { advises = w.advises ++ record { mem = m; on = on; addr = signal_at w.vars a; value = f } ∷ [] }

-- a call whose arguments are kept as the guess
abbrev pub with_guess : Signal → List Signal → Parts → Parts
with_guess on args w = record (with_call on args w) { guess = choices on args w.guess }

-- a call with these arguments where they aren't those of the guess
abbrev pub with_verify : Signal → List Signal → Parts → Parts
with_verify on args w =
    record (with_call (both on (differ_signal args w.guess)) args w) { fails = mux_signal (both on (differ_signal args w.guess)) one w.fails }

-- the same, and where the condition is 1 the arguments become the guess
abbrev pub with_update : Signal → List Signal → Parts → Parts
with_update on args w = record (with_verify on args w) { guess = choices on args w.guess }

-- a verify, or where it isn't the last one an update
abbrev pub with_compare : Bool → Signal → List Signal → Parts → Parts
with_compare last on args w = if last then with_verify on args w else with_update on args w

-- the thread waits for the barrier
abbrev pub with_barrier : Signal → Parts → Parts
with_barrier on w = record w { barrier = mux_signal on one w.barrier }

-- ---- steps

-- in each well-formed circuit that this one grows to
abbrev pub Later : Circuit → (Circuit → Type 0) → Type 0
Later c P = (d : Circuit) → Keeps c d → IsWell d → P d

-- a row under these guards leads from one walk to another
pub record IsStep (c : Circuit) (p : Pipe) (ls : Locks) (tickets : ℕ → Signal) (gs : List Guard) (op : Op) (w w' : Walk) : Type 0 where
  pub row : Row
  pub on : Later c (λ d. (s : State) → Suits d s → row.on.value s ≡ bit (taken_in gs w s))
  pub does : Later c (λ d. IsOp d p ls tickets gs op w row)
  pub next : w' ≡ walk_after op row ls w

-- rows one after another lead from one walk to another
abbrev pub AreSteps : Circuit → Pipe → Locks → (ℕ → Signal) → List Stmt → Walk → Walk → Type 0
AreSteps c p ls tickets xs w w' = Later c (λ d. AreRows d p ls tickets xs w w')

-- the rows lead from a stage's nets in one circuit to its nets in a later one, with these locks and tickets
abbrev pub AreNetSteps : {T : Type 0} → Members T → Pipe → List (Option (MemLock T)) → List Net → List Stmt → Circuit
    → WalkNets → Circuit → WalkNets → Type 0
AreNetSteps l p locks tickets xs a w b w' = AreSteps b p (locks_in l p a locks) (tickets_in a tickets) xs (walk_in a w) (walk_in b w')
