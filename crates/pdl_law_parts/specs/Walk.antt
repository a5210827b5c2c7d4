-- A stage on the way through its rows, in signals: the variables, whether the locks let its thread move so far, and what it does, each with the condition under which it does so.
use Rattle.std.specs.Prelude.{◌≡◌, ℕ, ◌<◌, ◌≤◌, Bool, true, false, ◌==◌, ◌&&◌, List, [], ◌∷◌, ◌++◌, if◌then◌else◌, slice_index, slice_index_or, length, map, ⊤, not}
use Rattle.pdl_word.specs.Words.{bit}
use Rattle.pdl_semantics.specs.Tree.{LockKind}
use Rattle.pdl_semantics.specs.Flat.{Expr, Op, Bind, CombRead, DelayedRead, Write, ReserveRead, ReserveWrite, Block, Release, Call, SpecCall, Verify, SpecCheck, SpecBarrier, AdviceBind, AdviceRead, AdviceWrite, Guard, Stmt, Pipe, has_lock, takes_branch, value_of}
use Rattle.pdl_semantics.specs.Stages.{mem_at}
use Rattle.pdl_semantics.specs.Machine.{same_args}
use Rattle.pdl_net.specs.Circuit.{Circuit, State}
use Rattle.pdl_net.specs.Signal.{Signal, const_signal, mux_signal}
use Rattle.pdl_net.specs.Well.{Suits}
use Rattle.pdl_lockapi.specs.declared.Kind.{Kind as LookKind}
use Rattle.pdl_lockapi.specs.declared.Kind.TheVariants as look_kind
use Rattle.pdl_lockapi.specs.Lock.{LockState, look_ready, look_value, Covered}
use Rattle.pdl_lockapi.specs.Laws.{FitsIn, holds_ticket}
use Rattle.pdl_law_parts.specs.declared.Mark.{Mark}
use Rattle.pdl_law_parts.specs.declared.Mark.TheVariants.{Held, Late}
use Rattle.pdl_law_parts.specs.Lives.{uses_var}

-- what is known of the locks, by the numbers of their memories: which states of the circuit stand for which of the lock, its kind, how many writes may be pending, the bits of a ticket, and the signals of room, of room for two and of the next ticket; whether some path reserves the memory twice for writing; and the number of each memory's array
pub record Locks : Type 1 where
  pub stands : ℕ → State → LockState → Type 0
  pub kind : ℕ → LockKind
  pub size : ℕ → ℕ
  pub bits : ℕ → ℕ
  pub room : ℕ → Signal
  pub room2 : ℕ → Signal
  pub ticket : ℕ → Signal
  pub twice : ℕ → Bool
  pub array : ℕ → ℕ

-- whether a memory has a lock
abbrev pub is_locked : Pipe → ℕ → Bool
is_locked p m = has_lock (mem_at p m).lock

-- one bit that is always 1
abbrev pub one : Signal
one = const_signal 1 1

-- one bit that is always 0
abbrev pub zero_bit : Signal
zero_bit = const_signal 1 0

-- whether both of two bits are 1
abbrev pub both : Signal → Signal → Signal
both a b = mux_signal a b zero_bit

-- a condition is 1 in a state
abbrev pub is_on : Signal → State → Bool
is_on f s = f.value s == 1

-- a reservation for writing: the variable of its location, its condition and its address
pub record Reservation : Type 0 where
  pub mem : ℕ
  pub var : ℕ
  pub on : Signal
  pub addr : Signal

-- a write of a memory: the variable of its location, its condition and its value
pub record Put : Type 0 where
  pub mem : ℕ
  pub var : ℕ
  pub on : Signal
  pub value : Signal

-- a release of a memory's write reservation, with its condition
pub record Letting : Type 0 where
  pub mem : ℕ
  pub on : Signal

-- a call: its condition and the arguments of the new thread
pub record Birth : Type 0 where
  pub on : Signal
  pub args : List Signal

-- a request of a delayed memory: the variable for its answer, its condition and its address
pub record Ask : Type 0 where
  pub mem : ℕ
  pub var : ℕ
  pub on : Signal
  pub addr : Signal

-- a write of an advisory memory: its condition, its address and its value
pub record Advising : Type 0 where
  pub mem : ℕ
  pub on : Signal
  pub addr : Signal
  pub value : Signal

-- a stage on the way through its rows: its variables, what is held, what it waits for, and what its thread does
pub record Walk : Type 0 where
  pub vars : ℕ → Signal
  -- the marks of a location, by its memory and its variable
  pub marks : Mark → ℕ → ℕ → Signal
  -- whether each block so far is ready and each reservation has room
  pub ready : Signal
  pub reserves : List Reservation
  pub puts : List Put
  pub lettings : List Letting
  -- the latest first
  pub births : List Birth
  pub asks : List Ask
  pub advises : List Advising
  -- the arguments of the guess, whether a verify fails or an update changes it, and whether there is a barrier
  pub guess : List Signal
  pub fails : Signal
  pub barrier : Signal

-- a walk before its first row: nothing is asked and nothing done
pub record IsFresh (w : Walk) : Type 0 where
  pub ready : w.ready ≡ one
  pub reserves : w.reserves ≡ []
  pub puts : w.puts ≡ []
  pub lettings : w.lettings ≡ []
  pub births : w.births ≡ []
  pub asks : w.asks ≡ []
  pub advises : w.advises ≡ []
  pub fails : w.fails ≡ zero_bit
  pub barrier : w.barrier ≡ zero_bit

-- ---- rows

-- the signals that a row brings: whether it stands on the thread's path; after a row that binds the variable's, of a block whether its look is ready, of a write the value, of a verify whether it fails, of an update whether it changes the guess; the arguments of a call, and the guess after a row that guesses
pub record Row : Type 0 where
  pub on : Signal
  pub value : Signal
  pub args : List Signal
  pub guess : List Signal

-- whether the guards are taken
abbrev pub taken_in : List Guard → Walk → State → Bool
taken_in [] w s = true
taken_in (g ∷ gs) w s = takes_branch g.first ((w.vars g.var).value s) && taken_in gs w s

-- in each state in which the guards are taken
abbrev pub WhereTaken : Circuit → List Guard → Walk → (State → Type 0) → Type 0
WhereTaken c gs w P = (s : State) → Suits c s → taken_in gs w s ≡ true → P s

-- in each state in which the guards are not taken
abbrev pub WhereNot : Circuit → List Guard → Walk → (State → Type 0) → Type 0
WhereNot c gs w P = (s : State) → Suits c s → taken_in gs w s ≡ false → P s

-- values of variables that are those of the signals, as far as an expression uses them
abbrev pub AgreeOn : Expr → Walk → State → List ℕ → Type 0
AgreeOn e w s env = (x : ℕ) → uses_var e x ≡ true → slice_index env x ≡ (w.vars x).value s

-- a signal has the value of an expression
abbrev pub HasValue : Expr → Walk → Signal → State → Type 0
HasValue e w f s = (env : List ℕ) → AgreeOn e w s env → f.value s ≡ value_of e env

-- signals, one for each of these expressions, have their values
abbrev pub HaveValues : List Expr → Walk → List Signal → State → Type 0
HaveValues [] w [] s = ⊤
HaveValues (e ∷ es) w (f ∷ fs) s = HasValue e w f s × HaveValues es w fs s
HaveValues _ w _ s = ⊥

-- the values of signals in a state
abbrev pub values_at : State → List Signal → List ℕ
values_at s fs = map (λ (f : Signal). f.value s) fs

-- a block is for writing where its location is held for that
abbrev pub look_of : Bool → LookKind
look_of true = look_kind.W
look_of false = look_kind.R

-- through a lock that the state stands for, and a ticket
abbrev pub ThroughLock : Locks → ℕ → Signal → State → (LockState → ℕ → Type 0) → Type 0
ThroughLock ls m ticket s P = (x : LockState) (t : ℕ) → ls.stands m s x → Covered x t → holds_ticket (ls.bits m) ticket s t → P x t

-- a signal gives the word of an address, of a memory with a lock where its read is ready
pub record IsWord (p : Pipe) (ls : Locks) (m : ℕ) (addr ticket f : Signal) (s : State) : Type 0 where
  pub reach : addr.value s < (mem_at p m).depth
  pub plain : is_locked p m ≡ false → f.value s ≡ slice_index (slice_index_or s.arrays (ls.array m) []) (addr.value s)
  pub locked : is_locked p m ≡ true
      → ThroughLock ls m ticket s (λ x t. look_ready (ls.kind m) look_kind.R x t (addr.value s) ≡ true → f.value s ≡ look_value x t (addr.value s))

-- what a row's signals say, by its guards, where the thread has these tickets; the address of a reservation for writing fits. What is advised is bound and written as what is not, but by all values
abbrev pub IsOp : Circuit → Pipe → Locks → (ℕ → Signal) → List Guard → Op → Walk → Row → Type 0
IsOp c p ls tickets gs (Bind x e) w r = (x < p.vars) × WhereTaken c gs w (HasValue e w r.value) × WhereNot c gs w (λ s. r.value.value s ≡ (w.vars x).value s)
IsOp c p ls tickets gs (CombRead x m a) w r =
    (x < p.vars) × WhereTaken c gs w (IsWord p ls m (w.vars a) (tickets m) r.value) × WhereNot c gs w (λ s. r.value.value s ≡ (w.vars x).value s)
IsOp c p ls tickets gs (Write m a e) w r = WhereTaken c gs w (HasValue e w r.value)
IsOp c p ls tickets gs (ReserveRead m a) w r = ⊤
IsOp c p ls tickets gs (ReserveWrite m a) w r = (is_locked p m ≡ true) × WhereTaken c gs w (FitsIn (w.vars a))
IsOp c p ls tickets gs (Block m a) w r =
    (is_locked p m ≡ true)
    × WhereTaken c gs w
    (λ s. ThroughLock ls m (tickets m) s (λ x t. r.value.value s ≡ bit (look_ready (ls.kind m) (look_of (is_on (w.marks Held m a) s)) x t ((w.vars a).value s))))
IsOp c p ls tickets gs (Release m a) w r = ⊤
IsOp c p ls tickets gs (Call args) w r = (length r.args ≤ p.vars) × WhereTaken c gs w (HaveValues args w r.args)
IsOp c p ls tickets gs (DelayedRead x m a) w r = ⊤
IsOp c p ls tickets gs (SpecCall args) w r =
    (length r.args ≤ p.vars) × WhereTaken c gs w (HaveValues args w r.args)
    × (length r.guess ≡ length w.guess) × WhereTaken c gs w (λ s. values_at s r.guess ≡ values_at s r.args)
    × WhereNot c gs w (λ s. values_at s r.guess ≡ values_at s w.guess)
IsOp c p ls tickets gs (Verify false args) w r =
    (length r.args ≤ p.vars) × WhereTaken c gs w (HaveValues args w r.args)
    × (length w.guess ≡ length args) × WhereTaken c gs w (λ s. r.value.value s ≡ bit (not (same_args (values_at s r.args) (values_at s w.guess))))
    × (length r.guess ≡ length w.guess) × WhereTaken c gs w (λ s. values_at s r.guess ≡ values_at s r.args)
    × WhereNot c gs w (λ s. values_at s r.guess ≡ values_at s w.guess)
IsOp c p ls tickets gs (Verify true args) w r =
    (length r.args ≤ p.vars) × WhereTaken c gs w (HaveValues args w r.args)
    × (length w.guess ≡ length args) × WhereTaken c gs w (λ s. r.value.value s ≡ bit (not (same_args (values_at s r.args) (values_at s w.guess))))
IsOp c p ls tickets gs SpecCheck w r = ⊤
IsOp c p ls tickets gs SpecBarrier w r = ⊤
IsOp c p ls tickets gs (AdviceBind x e) w r =
    (x < p.vars) × WhereTaken c gs w (HasValue e w r.value) × WhereNot c gs w (λ s. r.value.value s ≡ (w.vars x).value s)
IsOp c p ls tickets gs (AdviceRead x m a) w r =
    (x < p.vars) × WhereTaken c gs w (IsWord p ls m (w.vars a) (tickets m) r.value) × WhereNot c gs w (λ s. r.value.value s ≡ (w.vars x).value s)
IsOp c p ls tickets gs (AdviceWrite m a e) w r = WhereTaken c gs w (HasValue e w r.value)

-- the signals of a statement's row: its condition tells whether the guards are taken, and the others are as its operation asks
pub record IsRow (c : Circuit) (p : Pipe) (ls : Locks) (tickets : ℕ → Signal) (x : Stmt) (w : Walk) (r : Row) : Type 0 where
  pub on : (s : State) → Suits c s → r.on.value s ≡ bit (taken_in x.guards w s)
  pub op : IsOp c p ls tickets x.guards x.op w r

-- ---- after a row

-- the walk where a variable has this signal
abbrev pub with_var : ℕ → Signal → Walk → Walk
with_var x f w = record w { vars = λ y. if y == x then f else w.vars y }

-- whether two marks are the same
abbrev pub same_mark : Mark → Mark → Bool
same_mark Held Held = true
same_mark Held Late = false
same_mark Late Held = false
same_mark Late Late = true

-- the signals of marks, where one mark of one location has this one
abbrev pub with_mark : Mark → ℕ → ℕ → Signal → (Mark → ℕ → ℕ → Signal) → Mark → ℕ → ℕ → Signal
with_mark k m a f marks j n b = if same_mark k j && ((m == n) && (a == b)) then f else marks j n b

-- whether one of these reservations is of the memory
abbrev pub reserved_signal : ℕ → List Reservation → Signal
reserved_signal m [] = zero_bit
reserved_signal m (r ∷ rs) = if r.mem == m then mux_signal r.on one (reserved_signal m rs) else reserved_signal m rs

-- whether there is room for a reservation of the memory after these: for two where one of them is made
abbrev pub room_after : Locks → ℕ → List Reservation → Signal
room_after ls m rs = if ls.twice m then mux_signal (reserved_signal m rs) (ls.room2 m) (ls.room m) else ls.room m

-- the signals of marks after a reservation that follows these: where no path reserves the memory twice no location of it is late
abbrev pub late_after : Locks → ℕ → ℕ → Signal → List Reservation → (Mark → ℕ → ℕ → Signal) → Mark → ℕ → ℕ → Signal
late_after ls m a on rs marks = if ls.twice m then with_mark Late m a (mux_signal on (reserved_signal m rs) (marks Late m a)) marks else marks

-- a condition that counts where the row stands on the path
abbrev pub if_on : Signal → Signal → Signal
if_on on f = mux_signal on f one

-- the walk after a row, by what the row does and the signals that it brings
abbrev pub walk_after : Op → Row → Locks → Walk → Walk
walk_after (Bind x e) r ls w = with_var x r.value w
walk_after (CombRead x m a) r ls w = with_var x r.value w
walk_after (Write m a e) r ls w = record w { puts = w.puts ++ record { mem = m; var = a; on = r.on; value = r.value } ∷ [] }
walk_after (ReserveWrite m a) r ls w =
    record w {
      marks = late_after ls m a r.on w.reserves (with_mark Held m a (mux_signal r.on one (w.marks Held m a)) w.marks);
      ready = both w.ready (if_on r.on (room_after ls m w.reserves));
      reserves = w.reserves ++ record { mem = m; var = a; on = r.on; addr = w.vars a } ∷ [];
    }
walk_after (Block m a) r ls w = record w { ready = both w.ready (if_on r.on r.value) }
walk_after (Release m a) r ls w =
    record w {
      marks = with_mark Held m a (mux_signal r.on zero_bit (w.marks Held m a)) w.marks;
      lettings = w.lettings ++ record { mem = m; on = both r.on (w.marks Held m a) } ∷ [];
    }
walk_after (Call args) r ls w = record w { births = record { on = r.on; args = r.args } ∷ w.births }
walk_after (DelayedRead x m a) r ls w = record w { asks = w.asks ++ record { mem = m; var = x; on = r.on; addr = w.vars a } ∷ [] }
walk_after (SpecCall args) r ls w = record w { births = record { on = r.on; args = r.args } ∷ w.births; guess = r.guess }
walk_after (Verify false args) r ls w =
    record w {
      births = record { on = both r.on r.value; args = r.args } ∷ w.births;
      guess = r.guess;
      fails = mux_signal (both r.on r.value) one w.fails;
    }
walk_after (Verify true args) r ls w =
    record w { births = record { on = both r.on r.value; args = r.args } ∷ w.births; fails = mux_signal (both r.on r.value) one w.fails }
walk_after SpecBarrier r ls w = record w { barrier = mux_signal r.on one w.barrier }
walk_after (ReserveRead _ _) r ls w = w
walk_after SpecCheck r ls w = w
walk_after (AdviceBind x e) r ls w = with_var x r.value w
walk_after (AdviceRead x m a) r ls w = with_var x r.value w
walk_after (AdviceWrite m a e) r ls w = record w { advises = w.advises ++ record { mem = m; on = r.on; addr = w.vars a; value = r.value } ∷ [] }

-- rows lead from one walk to another
abbrev pub AreRows : Circuit → Pipe → Locks → (ℕ → Signal) → List Stmt → Walk → Walk → Type 0
AreRows c p ls tickets [] w w' = w' ≡ w
AreRows c p ls tickets (x ∷ xs) w w' = (r : Row) × IsRow c p ls tickets x w r × AreRows c p ls tickets xs (walk_after x.op r ls w) w'
