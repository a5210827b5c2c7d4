-- Locks in a circuit that grows, and what looks tell.
use Rattle.std.proofs.Common.{◌≡◌, ℕ, zero, suc, ◌<◌, true, false, List, [], ◌∷◌, length, refl, sym, ap, ap₂, ◌∙◌, subst, arith}
use mathlib.Core.Path.{fun_ext}
use Rattle.std.specs.Prelude.{◌==◌, Option, Some, None, is_some}
use Rattle.std.proofs.lemmas.Bool.{false≢true}
use Rattle.pdl_semantics.specs.Flat.{Mem, Pipe}
use Rattle.pdl_semantics.specs.Stages.{mem_at}
use Rattle.pdl_net.specs.declared.Net.{Net}
use Rattle.pdl_net.specs.Circuit.{Circuit, State}
use Rattle.pdl_net.specs.Signal.{Signal, mux_signal, read_signal}
use Rattle.pdl_net.specs.Meaning.{signal, IsThere, Means}
use Rattle.pdl_net.specs.HasWidth.{HasWidth}
use Rattle.pdl_net.specs.Growth.{Keeps, Extends}
use Rattle.pdl_net.proofs.KeptWidths.{width_keeps}
use Rattle.pdl_lockapi.specs.declared.Kind.TheVariants as look_kind
use Rattle.pdl_lockapi.specs.declared.LockRegs.{LockRegs}
use Rattle.pdl_lockapi.specs.Laws.{LookLaw}
use Rattle.pdl_pipe_exprs.specs.declared.bits.Bits.{Bits}
use Rattle.pdl_pipe_exprs.specs.Nets.{signals_in, signal_at}
use Rattle.pdl_pipe_exprs.specs.Conditions.{AreBits}
use Rattle.pdl_pipe_exprs.proofs.NetLists.{there_keeps, signals_keep}
use Rattle.pdl_law_parts.specs.Walk.{Locks, is_locked, is_on, zero_bit}
use Rattle.pdl_law_parts.proofs.Signals.{one_is, zero_is}
use Rattle.pdl_law_parts.proofs.Establish.{block_one, block_two}
use Rattle.pdl_law_parts.specs.Places.{comb_place}
use Rattle.pdl_pipe_walk.specs.declared.locks.MemLock.{MemLock}
use Rattle.pdl_pipe_walk.specs.Locked.{Members, some_at, of_lock, locks_in, IsLockIn, AreLocked, AreTickets, room_net, room2_net}
use Rattle.pdl_pipe_walk.specs.Words.{IsWordSignal, IsLooked}

some_low : {X : Type 0} (xs : List (Option X)) (m : ℕ) (x : X) → some_at xs m ≡ Some x → m < length xs
some_low [] m x e = absurd (none e)
  where
    none : None ≡ Some x → ⊥
    none e = false≢true (ap is_some e)
some_low (y ∷ ys) zero x e = omega arith
some_low (y ∷ ys) (suc m) x e = let l = some_low ys m x e in omega (arith, l)

module _ {T : Type 0} (l : Members T) (a b : Circuit) (e : Keeps a b)
    (stays : (t : T) (a b : Circuit) (r : LockRegs) → Keeps a b → l.placed t a r → l.placed t b r) (p : Pipe)
    (xs : List (Option (MemLock T))) (h : AreLocked l a p xs) where
  lock_keep : (i : ℕ) (mem : Mem) (x : MemLock T) → IsLockIn l a i mem x → IsLockIn l b i mem x
  lock_keep i mem x k = record {
    is_placed = stays x.lock a b x.regs e k.is_placed;
    room = width_keeps a b x.regs.room 1 e k.room;
    room2 = width_keeps a b x.regs.room2 1 e k.room2;
    ticket = width_keeps a b x.regs.ticket (l.tickets x.lock) e k.ticket;
    wide = k.wide;
    bits = k.bits;
    array = k.array;
  }

  -- each memory still has its array, and its lock where it has one
  pub locked_keep : AreLocked l b p xs
  locked_keep = record {
    count = h.count;
    locked = h.locked;
    locks = λ m x low s. lock_keep (comb_place p m) (mem_at p m) x (h.locks m x low s);
    has_array = λ m low once. e.has_array (comb_place p m) (h.has_array m low once);
    width = λ m low once. e.word (comb_place p m) (h.has_array m low once) ∙ h.width m low once;
    depth = λ m low u once. e.depth (comb_place p m) (h.has_array m low once) ∙ h.depth m low u once;
  }

  same_net : (f : MemLock T → Net)
      → ((m : ℕ) (x : MemLock T) → m < length p.mems → some_at xs m ≡ Some x → IsThere a (f x))
      → (m : ℕ) (o : Option (MemLock T)) → some_at xs m ≡ o
      → of_lock (λ x. signal b (f x)) zero_bit o ≡ of_lock (λ x. signal a (f x)) zero_bit o
  same_net f t m None s = refl
  same_net f t m (Some x) s = e.kept (f x) (t m x (let low = some_low xs m x s in omega (arith, low, h.count)) s)

  -- the locks are the same in both circuits
  pub locks_same : locks_in l p b xs ≡ locks_in l p a xs
  locks_same =
      ap₂ (λ (r t : ℕ → Signal). record (locks_in l p b xs) { room = r; ticket = t })
      (fun_ext (λ m. same_net (λ x. x.regs.room) (λ m x low s. (h.locks m x low s).room.there) m (some_at xs m) refl))
      (fun_ext (λ m. same_net (λ x. x.regs.ticket) (λ m x low s. (h.locks m x low s).ticket.there) m (some_at xs m) refl))
      ∙ ap (λ (r : ℕ → Signal). record (locks_in l p a xs) { room2 = r })
      (fun_ext (λ m. same_net (λ x. x.regs.room2) (λ m x low s. (h.locks m x low s).room2.there) m (some_at xs m) refl))

  -- the tickets still are there with the bits of their locks' tickets
  pub tickets_keep : (ts : List Net) → AreTickets l a xs ts → AreTickets l b xs ts
  tickets_keep ts t = record {
    there = there_keeps a b ts e t.there;
    count = t.count;
    wide = λ m x low s. ap (λ (fs : List Signal). (signal_at fs m).width) (signals_keep a b ts e t.there) ∙ t.wide m x low s;
  }

-- ---- looks

held_off : (c : Circuit) (x : Bits) (y : Net) → AreBits c x → y ≡ x.zero → (s : State) → is_on (signal c y) s ≡ false
held_off c x y b e s = ap (λ n. n == 1) (ap (λ (f : Signal). f.value s) (ap (signal c) e ∙ b.zero.same) ∙ zero_is s)

held_on : (c : Circuit) (x : Bits) (y : Net) → AreBits c x → y ≡ x.one → (s : State) → is_on (signal c y) s ≡ true
held_on c x y b e s = ap (λ n. n == 1) (ap (λ (f : Signal). f.value s) (ap (signal c) e ∙ b.one.same) ∙ one_is s)

module _ (ls : Locks) (m : ℕ) (addr ticket : Signal) where
  -- where the location is never held, a look for reading tells whether it is ready
  pub looked_off : (c : Circuit) (x : Bits) (y : Net) → AreBits c x → y ≡ x.zero → (f : Signal) (v : Option Signal)
      → LookLaw (ls.stands m) (ls.kind m) (ls.bits m) look_kind.R addr ticket f v
      → IsLooked ls m (signal c y) addr ticket f
  looked_off c x y b e f v law s = block_one ls m addr ticket f (signal c y) v false s law (held_off c x y b e s)

  -- where the location is always held, a look for writing tells whether it is ready
  pub looked_on : (c : Circuit) (x : Bits) (y : Net) → AreBits c x → y ≡ x.one → (f : Signal) (v : Option Signal)
      → LookLaw (ls.stands m) (ls.kind m) (ls.bits m) look_kind.W addr ticket f v
      → IsLooked ls m (signal c y) addr ticket f
  looked_on c x y b e f v law s = block_one ls m addr ticket f (signal c y) v true s law (held_on c x y b e s)

  -- a look for writing where the location is held, else one for reading, tells whether it is ready
  pub looked_either : (held f g : Signal) (v u : Option Signal)
      → LookLaw (ls.stands m) (ls.kind m) (ls.bits m) look_kind.W addr ticket f v
      → LookLaw (ls.stands m) (ls.kind m) (ls.bits m) look_kind.R addr ticket g u
      → IsLooked ls m held addr ticket (mux_signal held f g)
  looked_either held f g v u write read s = block_two ls m addr ticket f g held v u s write read

-- the word of a memory without lock
pub plain_word : (p : Pipe) (ls : Locks) (c : Circuit) (x : Net) (m : ℕ) (addr ticket : Signal) (w : ℕ)
    → is_locked p m ≡ false → w ≡ (mem_at p m).width → Means c x (read_signal w (comb_place p m) addr)
    → IsWordSignal p ls m addr ticket (signal c x)
plain_word p ls c x m addr ticket w e wide h = record {
  plain = λ u. h.same ∙ ap (λ n. read_signal n (comb_place p m) addr) wide;
  ready = zero_bit;
  looked = λ u. absurd (false≢true (sym e ∙ u));
}

-- a look by a net that says which: the look for reading was made first
pub looked_join : (ls : Locks) (m : ℕ) (a b2 b3 d : Circuit) (held addr ticket f g x : Net) (v u : Option Signal)
    → Extends a b2 → Extends b2 b3 → IsThere a held → IsThere a addr → IsThere a ticket → IsThere b2 g
    → LookLaw (ls.stands m) (ls.kind m) (ls.bits m) look_kind.R (signal a addr) (signal a ticket) (signal b2 g) u
    → LookLaw (ls.stands m) (ls.kind m) (ls.bits m) look_kind.W (signal b2 addr) (signal b2 ticket) (signal b3 f) v
    → Means d x (mux_signal (signal b3 held) (signal b3 f) (signal b3 g))
    → IsLooked ls m (signal a held) (signal a addr) (signal a ticket) (signal d x)
looked_join ls m a b2 b3 d held addr ticket f g x v u e k th ta tt' tg read write means =
    let P : Signal → Signal → Type 0 = λ y t. LookLaw (ls.stands m) (ls.kind m) (ls.bits m) look_kind.W y t (signal b3 f) v in
    let now = subst (λ t. P (signal a addr) t) (e.kept ticket tt') (subst (λ y. P y (signal b2 ticket)) (e.kept addr ta) write) in
    let held_same = k.kept held (e.there held th) ∙ e.kept held th in
    let same : signal d x ≡ mux_signal (signal a held) (signal b3 f) (signal b2 g) =
    means.same ∙ ap₂ (λ h j. mux_signal h (signal b3 f) j) held_same (k.kept g tg) in
    subst (λ h. IsLooked ls m (signal a held) (signal a addr) (signal a ticket) h) (sym same)
    (looked_either ls m (signal a addr) (signal a ticket) (signal a held) (signal b3 f) (signal b2 g) v u now read)

-- whether a location is ready, by equal signals for its being held, its address and the ticket
pub looked_as : (ls : Locks) (m : ℕ) (h h' addr addr' ticket ticket' f : Signal)
    → h ≡ h' → addr ≡ addr' → ticket ≡ ticket' → IsLooked ls m h addr ticket f → IsLooked ls m h' addr' ticket' f
looked_as ls m h h' addr addr' ticket ticket' f e g k l =
    subst (λ t. IsLooked ls m h' addr' t f) k (subst (λ y. IsLooked ls m h' y ticket f) g (subst (λ x. IsLooked ls m x addr ticket f) e l))

-- the signal of a memory's word, by an equal address and ticket
pub word_as : (p : Pipe) (ls : Locks) (m : ℕ) (addr addr' ticket ticket' f : Signal)
    → addr ≡ addr' → ticket ≡ ticket' → IsWordSignal p ls m addr ticket f → IsWordSignal p ls m addr' ticket' f
word_as p ls m addr addr' ticket ticket' f g k l = subst (λ t. IsWordSignal p ls m addr' t f) k (subst (λ y. IsWordSignal p ls m y ticket f) g l)

module _ {T : Type 0} (l : Members T) (c : Circuit) (p : Pipe) (xs : List (Option (MemLock T))) (h : AreLocked l c p xs)
    (m : ℕ) (low : m < length p.mems) (locked : is_locked p m ≡ true) where
  -- a ticket has the bits of its lock's
  pub ticket_bits : (ts : List Net) → AreTickets l c xs ts → (signal_at (signals_in c ts) m).width ≡ (locks_in l p c xs).bits m
  ticket_bits ts t = by (some_at xs m) refl
    where
      by : (o : Option (MemLock T)) → some_at xs m ≡ o → (signal_at (signals_in c ts) m).width ≡ of_lock (λ x. l.tickets x.lock) 1 o
      by None e = absurd (false≢true (sym (ap is_some e) ∙ h.locked m low ∙ locked))
      by (Some x) e = t.wide m x (omega (arith, low, h.count)) e

  -- the net of a locked memory's room means what its lock tells of room
  pub room_signal : signal c (room_net (some_at xs m)) ≡ (locks_in l p c xs).room m
  room_signal = by (some_at xs m) refl
    where
      by : (o : Option (MemLock T)) → some_at xs m ≡ o → signal c (room_net o) ≡ of_lock (λ x. signal c x.regs.room) zero_bit o
      by None e = absurd (false≢true (sym (ap is_some e) ∙ h.locked m low ∙ locked))
      by (Some x) e = refl

  -- the net of a locked memory's room is there, with 1 bit
  pub room_there : HasWidth c (room_net (some_at xs m)) 1
  room_there = by (some_at xs m) refl
    where
      by : (o : Option (MemLock T)) → some_at xs m ≡ o → HasWidth c (room_net o) 1
      by None e = absurd (false≢true (sym (ap is_some e) ∙ h.locked m low ∙ locked))
      by (Some x) e = (h.locks m x low e).room

  -- so does that of its room for two
  pub room2_signal : signal c (room2_net (some_at xs m)) ≡ (locks_in l p c xs).room2 m
  room2_signal = by (some_at xs m) refl
    where
      by : (o : Option (MemLock T)) → some_at xs m ≡ o → signal c (room2_net o) ≡ of_lock (λ x. signal c x.regs.room2) zero_bit o
      by None e = absurd (false≢true (sym (ap is_some e) ∙ h.locked m low ∙ locked))
      by (Some x) e = refl

  -- the net of a locked memory's room for two is there, with 1 bit
  pub room2_there : HasWidth c (room2_net (some_at xs m)) 1
  room2_there = by (some_at xs m) refl
    where
      by : (o : Option (MemLock T)) → some_at xs m ≡ o → HasWidth c (room2_net o) 1
      by None e = absurd (false≢true (sym (ap is_some e) ∙ h.locked m low ∙ locked))
      by (Some x) e = (h.locks m x low e).room2
