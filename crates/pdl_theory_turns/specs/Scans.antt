-- Scans over the statements of one path, and over a text, that tell whether locks and values are used as the rules of the language say.
use Rattle.std.specs.Prelude.{ℕ, Bool, true, false, ◌&&◌, ◌||◌, not, List, [], ◌∷◌, if◌then◌else◌, ◌==◌, nat_le}
use Rattle.pdl_theory_turns.specs.semantics.Flat.{Op, Bind, CombRead, DelayedRead, Write, ReserveRead, ReserveWrite, Block, Release, Call, SpecCall, Verify, SpecCheck, SpecBarrier, AdviceBind, AdviceRead, AdviceWrite, Stmt, Guard, Pipe}
use Rattle.pdl_theory_turns.specs.semantics.Forms.{on_binding}
use Rattle.pdl_theory_turns.specs.semantics.Stages.{mem_at, commit_stage, reserve_stage}
pub use Rattle.pdl_theory_turns.specs.semantics.Locks.{is_plain}
pub use Rattle.pdl_theory_turns.specs.semantics.SecondWrites.{write_reserves}
use Rattle.pdl_theory_turns.specs.Alone.{Location, is_nil, is_among, is_oldest, drop_var, but_last}
use Rattle.pdl_theory_turns.specs.semantics.Sound.{is_call}

-- whether there is no guard
abbrev pub no_guards : List Guard → Bool
no_guards [] = true
no_guards (g ∷ gs) = false

-- whether a variable is the address of one of these locations
abbrev pub is_address : List Location → ℕ → Bool
is_address [] x = false
is_address (l ∷ ls) x = (l.var == x) || is_address ls x

-- whether the location of memory m and variable a is among these
abbrev pub has_location : List Location → ℕ → ℕ → Bool
has_location [] m a = false
has_location (l ∷ ls) m a = ((l.mem == m) && (l.var == a)) || has_location ls m a

-- the locations that were reserved for writing, and those that were blocked for reading
pub record Scan : Type 0 where
  pub held : List Location
  pub blocked : List Location

-- nothing reserved and nothing blocked
abbrev pub no_scan : Scan
no_scan = record { held = []; blocked = [] }

-- the location of memory m and variable a
abbrev pub location : ℕ → ℕ → Location
location m a = record { mem = m; var = a }

-- a scan after one more statement
abbrev pub scan_after : Op → Scan → Scan
scan_after (Block m a) c = if has_location c.held m a then c else record { held = c.held; blocked = location m a ∷ c.blocked }
scan_after (ReserveWrite m a) c = record { held = location m a ∷ c.held; blocked = c.blocked }
scan_after (Bind x e) c = c
scan_after (CombRead x m a) c = c
scan_after (DelayedRead x m a) c = c
scan_after (Write m a e) c = c
scan_after (ReserveRead m a) c = c
scan_after (Release m a) c = c
scan_after (Call args) c = c
scan_after (SpecCall args) c = c
scan_after (Verify last args) c = c
scan_after SpecCheck c = c
scan_after SpecBarrier c = c
scan_after (AdviceBind x e) c = c
scan_after (AdviceRead x m a) c = c
scan_after (AdviceWrite m a e) c = c

-- a scan after these statements
abbrev pub scan_after_all : List Stmt → Scan → Scan
scan_after_all [] c = c
scan_after_all (x ∷ xs) c = scan_after_all xs (scan_after x.op c)

-- a statement of stage s after such statements: a variable that is the address of a blocked read is not bound again, a block stands no earlier than the reserves, and a read of a lock is blocked for reading and stands no later than the releases
abbrev pub op_ok : Pipe → ℕ → Scan → Op → Bool
op_ok p s c (Bind x e) = not (is_address c.blocked x)
op_ok p s c (CombRead x m a) =
    not (is_address c.blocked x) && (is_plain (mem_at p m).lock || (has_location c.blocked m a && nat_le s (commit_stage p m)))
op_ok p s c (Block m a) = nat_le (reserve_stage p m) s
op_ok p s c (DelayedRead x m a) = false
op_ok p s c (Write m a e) = true
op_ok p s c (ReserveRead m a) = true
op_ok p s c (ReserveWrite m a) = true
op_ok p s c (Release m a) = true
op_ok p s c (Call args) = true
op_ok p s c (SpecCall args) = true
op_ok p s c (Verify last args) = true
op_ok p s c SpecCheck = true
op_ok p s c SpecBarrier = true
op_ok p s c (AdviceBind x e) = true
op_ok p s c (AdviceRead x m a) = true
op_ok p s c (AdviceWrite m a e) = true

-- each of these statements is without guards, and its binding, read or block is in order
abbrev pub reads_ok : Pipe → Scan → List Stmt → Bool
reads_ok p c [] = true
reads_ok p c (x ∷ xs) = (no_guards x.guards && op_ok p x.stage c x.op) && reads_ok p (scan_after x.op c) xs

-- each statement of memory m's kind stands in this stage
abbrev pub all_at : (Op → Bool) → ℕ → List Stmt → Bool
all_at test s [] = true
all_at test s (x ∷ xs) = (not (test x.op) || (x.stage == s)) && all_at test s xs

-- no statement passes the test
abbrev pub none_of : (Op → Bool) → List Stmt → Bool
none_of test [] = true
none_of test (x ∷ xs) = not (test x.op) && none_of test xs

-- how far a thread is with its writes to a memory: the variables of the locations that it reserved for writing, the youngest first
pub record Phase : Type 0 where
  pub unwritten : List ℕ  -- those without a value
  pub full : List ℕ  -- those with one
  pub gone : List ℕ  -- those that it released

-- before the first reservation
abbrev pub Fresh : Phase
Fresh = record { unwritten = []; full = []; gone = [] }

-- the phase after a write through the location of variable a, which is the oldest one without a value
abbrev pub after_write : Phase → ℕ → Phase
after_write ph a = record { unwritten = but_last ph.unwritten; full = a ∷ ph.full; gone = ph.gone }

-- the phase after the release of the location of variable a
abbrev pub after_release : Phase → ℕ → Phase
after_release ph a = if is_among a ph.full then record { unwritten = ph.unwritten; full = drop_var a ph.full; gone = a ∷ ph.gone } else ph

-- the phase after the location of variable a is reserved for writing
abbrev pub after_reserve : Phase → ℕ → Phase
after_reserve ph a = record { unwritten = a ∷ ph.unwritten; full = ph.full; gone = ph.gone }

-- the phase of m's write after one more statement
abbrev pub next_phase : ℕ → Phase → Op → Phase
next_phase m ph (ReserveWrite n a) = if n == m then after_reserve ph a else ph
next_phase m ph (Write n a e) = if n == m then after_write ph a else ph
next_phase m ph (Release n a) = if n == m then after_release ph a else ph
next_phase m ph (Bind x e) = ph
next_phase m ph (CombRead x n a) = ph
next_phase m ph (DelayedRead x n a) = ph
next_phase m ph (ReserveRead n a) = ph
next_phase m ph (Block n a) = ph
next_phase m ph (Call args) = ph
next_phase m ph (SpecCall args) = ph
next_phase m ph (Verify last args) = ph
next_phase m ph SpecCheck = ph
next_phase m ph SpecBarrier = ph
next_phase m ph (AdviceBind x e) = ph
next_phase m ph (AdviceRead x _ a) = ph
next_phase m ph (AdviceWrite _ a e) = ph

-- whether m may be read: no location of it is written yet
abbrev pub may_read : Phase → Bool
may_read ph = is_nil ph.full && is_nil ph.gone

-- whether the location of variable a may be written: writes come in the order of their reservations
abbrev pub may_write : Phase → ℕ → Bool
may_write ph a = is_oldest a ph.unwritten

-- whether the location of variable a isn't reserved yet
abbrev pub is_new : Phase → ℕ → Bool
is_new ph a = not (is_among a ph.unwritten) && (not (is_among a ph.full) && not (is_among a ph.gone))

-- a statement in this phase of m: a location's variable is not bound again before the write, a read precedes the writes, and a release comes after its write
abbrev pub phase_ok : ℕ → Phase → Op → Bool
phase_ok m ph (Bind x e) = not (is_among x ph.unwritten)
phase_ok m ph (CombRead x n a) = not (is_among x ph.unwritten) && (not (n == m) || may_read ph)
phase_ok m ph (DelayedRead x n a) = false
phase_ok m ph (Write n a e) = not (n == m) || may_write ph a
phase_ok m ph (ReserveWrite n a) = not (n == m) || is_new ph a
phase_ok m ph (Release n a) = not (n == m) || not (is_among a ph.unwritten)
phase_ok m ph (ReserveRead n a) = true
phase_ok m ph (Block n a) = true
phase_ok m ph (Call args) = true
phase_ok m ph (SpecCall args) = true
phase_ok m ph (Verify last args) = true
phase_ok m ph SpecCheck = true
phase_ok m ph SpecBarrier = true
phase_ok m ph (AdviceBind x e) = true
phase_ok m ph (AdviceRead x _ a) = true
phase_ok m ph (AdviceWrite _ a e) = true

-- each of these statements, without guards, is in order in its phase of m's write
abbrev pub phases_ok : ℕ → Phase → List Stmt → Bool
phases_ok m ph [] = true
phases_ok m ph (x ∷ xs) = (no_guards x.guards && phase_ok m ph x.op) && phases_ok m (next_phase m ph x.op) xs

-- the phase of m's write after these statements
abbrev pub phase_all : ℕ → Phase → List Stmt → Phase
phase_all m ph [] = ph
phase_all m ph (x ∷ xs) = phase_all m (next_phase m ph x.op) xs

-- whether each location that is reserved for writing is released
abbrev pub is_over : Phase → Bool
is_over ph = is_nil ph.unwritten && is_nil ph.full

-- whether the next thread is called, before or by these statements
abbrev pub called : Bool → List Stmt → Bool
called c [] = c
called c (x ∷ xs) = called (c || is_call x.op) xs

-- whether a statement binds variable g
abbrev pub binds_var : ℕ → Op → Bool
binds_var g op = on_binding (λ x. x == g) false op

-- a guard's variable is not bound where it is tested or later
abbrev pub free_of : List Guard → List Stmt → Bool
free_of [] xs = true
free_of (g ∷ gs) xs = none_of (binds_var g.var) xs && free_of gs xs

-- whether guards contradict one another, so that the statement stands on no path
abbrev pub against : Guard → List Guard → Bool
against g [] = false
against g (h ∷ hs) = ((g.var == h.var) && (if g.first then not h.first else h.first)) || against g hs

-- whether some two of these guards contradict one another
abbrev pub is_dead : List Guard → Bool
is_dead [] = false
is_dead (g ∷ gs) = against g gs || is_dead gs

-- or the statement is never carried out
abbrev pub keeps_guards : List Guard → List Stmt → Bool
keeps_guards gs xs = is_dead gs || free_of gs xs

-- the variables of each statement's guards are bound neither by it nor later in the text, if it isn't dead
abbrev pub is_fixed : List Stmt → Bool
is_fixed [] = true
is_fixed (x ∷ xs) = keeps_guards x.guards (x ∷ xs) && is_fixed xs
