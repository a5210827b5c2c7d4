-- What is known of the locks stays while the circuit grows.
use Rattle.std.proofs.Common.{◌≡◌, ℕ, ◌+◌, ◌-◌, ◌≤◌, ◌∙◌, Bool, List, [], ◌∷◌, length, map, refl, sym, ap, ap₂, subst, arith}
use Rattle.std.specs.Prelude.{Option, slice_index_or, if◌then◌else◌}
use Rattle.pdl_semantics.specs.Tree.{LockKind}
use Rattle.pdl_semantics.specs.Flat.{Mem, Pipe}
use Rattle.pdl_semantics.specs.Stages.{mem_at}
use Rattle.pdl_semantics.specs.SecondWrites.{reserves_twice}
use Rattle.pdl_net.specs.declared.Net.{Net}
use Rattle.pdl_net.specs.Circuit.{Circuit, State, HasReg}
use Rattle.pdl_net.specs.Signal.{Signal, no_signal}
use Rattle.pdl_net.specs.Meaning.{signal, IsThere}
use Rattle.pdl_net.specs.Growth.{Keeps}
use Rattle.pdl_net.proofs.KeptWidths.{width_keeps}
use Rattle.pdl_lockapi.specs.declared.LockRegs.{LockRegs}
use Rattle.pdl_lockapi.specs.Lock.{LockState}
use Rattle.pdl_lockapi.specs.Laws.{first_reg, end_reg, RoomLaw, TicketLaw, StepSignals}
use Rattle.pdl_lockapi.specs.Second.{Room2Law}
use Rattle.pdl_pipe_exprs.specs.Nets.{signals_in, signal_at}
use Rattle.pdl_pipe_exprs.proofs.NetLists.{there_keeps, signals_keep}
use Rattle.pdl_law_parts.specs.Places.{comb_place}
use Rattle.pdl_law_parts.specs.Views.{View}
use Rattle.pdl_law_parts.specs.Walk.{zero_bit}
use Rattle.pdl_law_parts.specs.Ports.{all_reserves, all_puts, release_signal, second_signal}
use Rattle.pdl_pipe_walk.specs.declared.locks.MemLock.{MemLock}
use Rattle.pdl_pipe_walk.specs.Parts.{walk_of}
use Rattle.pdl_pipe_walk.specs.Locked.{Members, IsLockIn, AreLocked, AreTickets, tickets_in}
use Rattle.pdl_pipe_walk.proofs.NetGrowth.{walk_keep}
use Rattle.pdl_pipe_locks.proofs.PortStages.{view_same}
use Rattle.pdl_pipe_locks.specs.declared.deeds.StageDeeds.{StageDeeds}
use Rattle.pdl_pipe_locks.specs.Lawful.{IsLawful, AreLawful}
use Rattle.pdl_pipe_locks.specs.Deeds.{no_parts, view_with, view_in, steps_in, IsDeed, AreDeeds, AreSquashNets}
use Rattle.pdl_pipe_locks.specs.Ports.{signals_of}
use Rattle.pdl_word.specs.Each.{Each}

-- the registers of each lock are placed as well in a circuit that keeps what stands in theirs
abbrev pub Stays : {T : Type 0} → Members T → Type 0
Stays {T} l = (x : T) (a b : Circuit) (r : LockRegs) → Keeps a b → l.placed x a r → l.placed x b r

-- ---- one lock

-- the lock of a memory stays in a circuit that keeps what stands in its own
pub lock_kept : {T : Type 0} (l : Members T) (a b : Circuit) (place : ℕ) (mem : Mem) (x : MemLock T) → Keeps a b
    → Stays l → IsLockIn l a place mem x → IsLockIn l b place mem x
lock_kept l a b place mem x k stays i = record {
  is_placed = stays x.lock a b x.regs k i.is_placed;
  room = width_keeps a b x.regs.room 1 k i.room;
  room2 = width_keeps a b x.regs.room2 1 k i.room2;
  ticket = width_keeps a b x.regs.ticket (l.tickets x.lock) k i.ticket;
  wide = i.wide;
  bits = i.bits;
  array = i.array;
}

-- the laws of a lock stay, where its nets of room, of room for two and of the next ticket are there
pub lawful_kept : (stands : State → LockState → Type 0) (kind : LockKind) (size tickets : ℕ) (a b : Circuit) (r : LockRegs)
    → Keeps a b → IsThere a r.room → IsThere a r.room2 → IsThere a r.ticket → IsLawful stands kind size tickets a r
    → IsLawful stands kind size tickets b r
lawful_kept stands kind size tickets a b r k room room2 ticket x = record {
  some = x.some;
  regs = λ n lo hi. k.has_reg n (x.regs n lo hi);
  start =
      record { starts = λ s image z long words. x.start.starts s image (record { regs = λ n lo hi. z.regs n lo hi ∙ k.reset n (x.regs n lo hi) }) long words };
  places = x.places;
  room = subst (λ f. RoomLaw stands size f) (sym (k.kept r.room room)) x.room;
  room2 = subst (λ f. Room2Law stands size f) (sym (k.kept r.room2 room2)) x.room2;
  ticket = subst (λ f. TicketLaw stands tickets f) (sym (k.kept r.ticket ticket)) x.ticket;
}

-- the registers of a lock end where those of its circuit end, at the latest
pub regs_end : (stands : State → LockState → Type 0) (kind : LockKind) (size tickets : ℕ) (c : Circuit) (r : LockRegs)
    → IsLawful stands kind size tickets c r → end_reg r ≤ length c.regs
unfolding HasReg
regs_end stands kind size tickets c r x =
    let n = length r.regs in
    let some : 1 ≤ n = x.some in
    let last = x.regs (first_reg r + (n - 1)) (omega arith) (omega arith) in
    omega (arith, last, some)

-- ---- all locks

-- the arrays and locks of all memories stay in a circuit that keeps what stands in theirs
pub locked_kept : {T : Type 0} (l : Members T) (a b : Circuit) (p : Pipe) (xs : List (Option (MemLock T))) → Keeps a b
    → Stays l → AreLocked l a p xs → AreLocked l b p xs
locked_kept l a b p xs k stays h = record {
  count = h.count;
  locked = h.locked;
  locks = λ m x low e. lock_kept l a b (comb_place p m) (mem_at p m) x k stays (h.locks m x low e);
  has_array = λ m low once. k.has_array (comb_place p m) (h.has_array m low once);
  width = λ m low once. k.word (comb_place p m) (h.has_array m low once) ∙ h.width m low once;
  depth = λ m low e once. k.depth (comb_place p m) (h.has_array m low once) ∙ h.depth m low e once;
}

-- the laws of all locks stay in a circuit that keeps what stands in theirs
pub laws_kept : {T : Type 0} (l : Members T) (a b : Circuit) (p : Pipe) (xs : List (Option (MemLock T))) → Keeps a b
    → AreLocked l a p xs → AreLawful l a p xs → AreLawful l b p xs
laws_kept l a b p xs k h x = record {
  laws =
      λ m y low e. lawful_kept (l.stands y.lock y.regs) (l.kind y.lock) (l.size y.lock)
      (l.tickets y.lock) a b y.regs k (h.locks m y low e).room.there (h.locks m y low e).room2.there (h.locks m y low e).ticket.there (x.laws m y low e);
  kinds = x.kinds;
  deep = λ m y low once e. k.depth (comb_place p m) (h.has_array m low once) ∙ x.deep m y low once e;
  apart = x.apart;
}

-- ---- the stages

tickets_kept : {T : Type 0} (l : Members T) (a b : Circuit) (xs : List (Option (MemLock T))) (ts : List Net) → Keeps a b
    → AreTickets l a xs ts → AreTickets l b xs ts
tickets_kept l a b xs ts k h = record {
  there = there_keeps a b ts k h.there;
  count = h.count;
  wide = λ m x low e. ap (λ (fs : List Signal). (signal_at fs m).width) (signals_keep a b ts k h.there) ∙ h.wide m x low e;
}

deed_kept : {T : Type 0} (l : Members T) (a b : Circuit) (p : Pipe) (ws : List ℕ) (xs : List (Option (MemLock T))) (d : StageDeeds)
    → Keeps a b → IsDeed l a p ws xs d → IsDeed l b p ws xs d
deed_kept l a b p ws xs d k h = record {
  moves = width_keeps a b d.moves 1 k h.moves;
  walk = walk_keep a b k p ws d.ended.now h.walk;
  tickets = tickets_kept l a b xs d.tickets.now k h.tickets;
}

each_deed_kept : {T : Type 0} (l : Members T) (a b : Circuit) (p : Pipe) (ws : List ℕ) (xs : List (Option (MemLock T)))
    (ds : List StageDeeds)
    → Keeps a b → Each (IsDeed l a p ws xs) ds → Each (IsDeed l b p ws xs) ds
each_deed_kept l a b p ws xs [] k h = tt
each_deed_kept l a b p ws xs (d ∷ ds) k h = (deed_kept l a b p ws xs d k h.0, each_deed_kept l a b p ws xs ds k h.1)

-- the nets of what the stages do to the locks stay there, with their widths
pub deeds_kept : {T : Type 0} (l : Members T) (a b : Circuit) (p : Pipe) (ws : List ℕ) (xs : List (Option (MemLock T)))
    (ds : List StageDeeds)
    → Keeps a b → AreDeeds l a p ws xs ds → AreDeeds l b p ws xs ds
deeds_kept l a b p ws xs ds k h = record { count = h.count; each = each_deed_kept l a b p ws xs ds k h.each }

view_kept : {T : Type 0} (l : Members T) (a b : Circuit) (p : Pipe) (ws : List ℕ) (xs : List (Option (MemLock T))) (d : StageDeeds)
    → Keeps a b → IsDeed l a p ws xs d → view_in b d ≡ view_in a d
view_kept l a b p ws xs d k h = view_same a b d k h.tickets.there h.walk.there

views_kept : {T : Type 0} (l : Members T) (a b : Circuit) (p : Pipe) (ws : List ℕ) (xs : List (Option (MemLock T))) (ds : List StageDeeds)
    → Keeps a b → Each (IsDeed l a p ws xs) ds → map (view_in b) ds ≡ map (view_in a) ds
views_kept l a b p ws xs [] k h = refl
views_kept l a b p ws xs (d ∷ ds) k h = ap₂ (λ (v : View) (vs : List View). v ∷ vs) (view_kept l a b p ws xs d k h.0) (views_kept l a b p ws xs ds k h.1)

abbrev move_in : Circuit → StageDeeds → Signal
move_in c d = signal c d.moves

moves_kept : {T : Type 0} (l : Members T) (a b : Circuit) (p : Pipe) (ws : List ℕ) (xs : List (Option (MemLock T))) (ds : List StageDeeds)
    → Keeps a b → Each (IsDeed l a p ws xs) ds → map (move_in b) ds ≡ map (move_in a) ds
moves_kept l a b p ws xs [] k h = refl
moves_kept l a b p ws xs (d ∷ ds) k h = ap₂ (λ (f : Signal) (fs : List Signal). f ∷ fs) (k.kept d.moves h.0.moves.there) (moves_kept l a b p ws xs ds k h.1)

-- the nets of a squash and its tails stay there, with their widths
pub squash_kept : {T : Type 0} (l : Members T) (a b : Circuit) (xs : List (Option (MemLock T))) (x : Net) (ts : List Net)
    → Keeps a b → AreSquashNets l a xs x ts → AreSquashNets l b xs x ts
squash_kept l a b xs x ts k h = record {
  squash = width_keeps a b x 1 k h.squash;
  tails = tickets_kept l a b xs ts k h.tails;
}

-- the step's signals, by the lists of the stages and of their moves
abbrev step_by : Bool → ℕ → ℕ → List View → List Signal → Signal → List Signal → StepSignals
step_by twice n m vs fs squash tails =
    record {
      reserves = all_reserves m (λ k. slice_index_or vs k (view_with (λ m. no_signal) (walk_of no_parts))) (λ k. signal_at fs k) n 0;
      writes = all_puts twice m (λ k. slice_index_or vs k (view_with (λ m. no_signal) (walk_of no_parts))) (λ k. signal_at fs k) n 0;
      release = release_signal m (λ k. slice_index_or vs k (view_with (λ m. no_signal) (walk_of no_parts))) (λ k. signal_at fs k) n 0;
      release2 = if twice
          then second_signal m (λ k. slice_index_or vs k (view_with (λ m. no_signal) (walk_of no_parts))) (λ k. signal_at fs k) n 0
          else zero_bit;
      squash = squash;
      tail = signal_at tails m;
    }

-- the signals of a lock's step are the same in a circuit that grew
pub step_same : {T : Type 0} (l : Members T) (a b : Circuit) (p : Pipe) (ws : List ℕ) (xs : List (Option (MemLock T)))
    (ds : List StageDeeds) (x : Net) (ts : List Net) (m : ℕ)
    → Keeps a b → AreDeeds l a p ws xs ds → AreSquashNets l a xs x ts → steps_in b p ds x ts m ≡ steps_in a p ds x ts m
step_same l a b p ws xs ds x ts m k d s =
    let n = length p.stages in
    let vs = views_kept l a b p ws xs ds k d.each in
    let fs = moves_kept l a b p ws xs ds k d.each in
    let twice = reserves_twice m p.stmts in
    ap₂ (λ us gs. step_by twice n m us gs (signal b x) (signals_in b ts)) vs fs
    ∙ ap₂ (step_by twice n m (map (view_in a) ds) (map (move_in a) ds)) (k.kept x s.squash.there) (signals_keep a b ts k s.tails.there)

-- the signals of a lock's ports are those of its step by what the stages do
pub signals_are : {T : Type 0} (l : Members T) (c : Circuit) (p : Pipe) (ws : List ℕ) (xs : List (Option (MemLock T)))
    (ds : List StageDeeds) (x : Net) (ts : List Net) (m : ℕ) (twice : Bool)
    → AreDeeds l c p ws xs ds → twice ≡ reserves_twice m p.stmts → signals_of c twice ds m (signal c x) (tickets_in c ts m) ≡ steps_in c p ds x ts m
signals_are l c p ws xs ds x ts m twice d e =
    ap₂ (λ b n. step_by b n m (map (view_in c) ds) (map (move_in c) ds) (signal c x) (signals_in c ts)) e d.count
