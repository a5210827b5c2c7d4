-- The steps of the locks, one after the other.
use Rattle.std.proofs.Common.{◌≡◌, ℕ, ◌+◌, ◌^◌, ◌<◌, ◌≤◌, ◌∙◌, false, List, [], ◌∷◌, ◌++◌, length, length-append, refl, sym, ap, subst, arith, inl, inr}
use borrow.Author.Count.{below_more}
use Rattle.std.specs.Prelude.{Option, Some, None, is_some}
use Rattle.pdl_semantics.specs.Flat.{Mem, Pipe, is_delayed}
use Rattle.pdl_semantics.specs.Stages.{mem_at}
use Rattle.pdl_net.specs.declared.Net.{Net}
use Rattle.pdl_net.specs.Circuit.{Circuit, State, HasArray}
use Rattle.pdl_net.specs.Signal.{Signal}
use Rattle.pdl_net.specs.Meaning.{signal, write_signals}
use Rattle.pdl_net.specs.Growth.{Own, Outside, Keeps, ExtendsBut}
use Rattle.pdl_net.proofs.Keeps.{but_keeps, keeps_refl, keeps_trans}
use Rattle.pdl_net.proofs.KeptWidths.{width_keeps}
use Rattle.pdl_lockapi.specs.declared.LockNets.{LockNets}
use Rattle.pdl_lockapi.specs.Lock.{LockState}
use Rattle.pdl_lockapi.specs.Laws.{first_reg, end_reg, own, OwnKept, HasCommitNets, HidesLaw, StepLaw, StepSignals}
use Rattle.pdl_lockapi.specs.Second.{Commit2Law}
use Rattle.pdl_lockapi.proofs.LockKinds.{next_kept, hides_kept}
use Rattle.pdl_law_parts.specs.Places.{comb_place}
use Rattle.pdl_pipe_walk.specs.declared.locks.MemLock.{MemLock}
use Rattle.pdl_pipe_walk.specs.Locked.{Members, some_at, IsLockIn, AreLocked}
use Rattle.pdl_pipe_locks.specs.Lawful.{AreLawful}
use Rattle.pdl_pipe_locks.proofs.Places.{place_below, own_place, outside_place}
use Rattle.pdl_pipe_locks.specs.Stepped.{own_of, FitsMemory, IsStepped, IsSteppedMemory, AreStepped, ExtendsLocks}
use Rattle.pdl_pipe_walk.proofs.Lists.{some_before, some_last}

-- ---- the step of one lock

fits_memory : (c : Circuit) (mem : Mem) (bits width : ℕ) (commit addr value : Net) → 2 ^ bits ≡ mem.depth → width ≡ mem.width
    → HasCommitNets c bits width commit addr value → FitsMemory c mem commit addr value
fits_memory c mem bits width commit addr value deep wide h = record {
  commit = h.commit;
  addr_there = h.addr.there;
  addr_reach = ap (λ k. 2 ^ k) h.addr.width ∙ deep;
  value = record { there = h.value.there; width = h.value.width ∙ wide };
}

-- a lock has made its step, where that keeps its laws and the nets of both commits have the memory's widths
pub is_stepped : {T : Type 0} (l : Members T) (a c : Circuit) (place : ℕ) (mem : Mem) (f : StepSignals) (x : MemLock T) (n : LockNets)
    → IsLockIn l a place mem x → HasCommitNets c x.regs.bits x.regs.width n.commit n.addr n.value
    → HasCommitNets c x.regs.bits x.regs.width n.commit2 n.addr2 n.value2
    → StepLaw (l.stands x.lock x.regs) (l.size x.lock) (l.tickets x.lock) (own x.regs) c f (signal c n.commit) (signal c n.addr) (signal c n.value)
    → Commit2Law (l.stands x.lock x.regs) (l.size x.lock) (l.tickets x.lock) f (signal c n.commit2) (signal c n.addr2) (signal c n.value2)
    → HidesLaw (l.kind x.lock) c (own x.regs) f → IsStepped l c mem f x n
is_stepped l a c place mem f x n i h k law law2 hides = record {
  law = law;
  law2 = law2;
  hides = hides;
  nets = fits_memory c mem x.regs.bits x.regs.width n.commit n.addr n.value i.bits i.wide h;
  nets2 = fits_memory c mem x.regs.bits x.regs.width n.commit2 n.addr2 n.value2 i.bits i.wide k;
}

-- the step of a memory that has a lock is that of the lock
pub stepped_some : {T : Type 0} (l : Members T) (c : Circuit) (mem : Mem) (f : StepSignals) (o : Option (MemLock T))
    (x : MemLock T) (n : LockNets)
    → o ≡ Some x → IsStepped l c mem f x n → IsSteppedMemory l c mem f o (Some n)
stepped_some {T} l c mem f o x n e h = record {
  has = sym (ap is_some e);
  lock = λ y z g q.
      let a : x ≡ y = cc (e, g) in
      let b : n ≡ z = cc q in
      let P : MemLock T → Type 0 = λ w. IsStepped l c mem f w z in
      let Q : LockNets → Type 0 = λ w. IsStepped l c mem f x w in
      subst P a (subst Q b h);
}

-- a memory without lock needs no step, and has no commit nets
pub stepped_not : {T : Type 0} (l : Members T) (c : Circuit) (mem : Mem) (f : StepSignals) (o : Option (MemLock T))
    → o ≡ None → IsSteppedMemory l c mem f o None
stepped_not l c mem f o e = record { has = sym (ap is_some e); lock = λ y z g q. absurd (cc (e, g)) }

-- ---- what is kept of a step

-- the law of a lock's step holds on where its registers and its array take next what they took, for the same commit signals
pub law_kept : (stands : State → LockState → Type 0) (size tickets : ℕ) (o : Own) (a b : Circuit) (f : StepSignals)
    (commit addr value commit' addr' value' : Signal)
    → OwnKept o a b → commit' ≡ commit → addr' ≡ addr → value' ≡ value
    → StepLaw stands size tickets o a f commit addr value → StepLaw stands size tickets o b f commit' addr' value'
law_kept stands size tickets o a b f commit addr value commit' addr' value' k e g h x =
    let here : StepLaw stands size tickets o b f commit addr value = record {
      commits = x.commits;
      commits_addr = x.commits_addr;
      commits_value = x.commits_value;
      next = λ s t y d z dr p n. x.next s t y d z dr p (next_kept o a b s t k n);
    } in
    let P : Signal → Type 0 = λ q. StepLaw stands size tickets o b f q addr value in
    let Q : Signal → Type 0 = λ q. StepLaw stands size tickets o b f commit' q value in
    let R : Signal → Type 0 = λ q. StepLaw stands size tickets o b f commit' addr' q in
    subst R (sym h) (subst Q (sym g) (subst P (sym e) here))

-- the law of a second commit holds of signals that are the same
pub second_kept : (stands : State → LockState → Type 0) (size tickets : ℕ) (f : StepSignals) (commit addr value commit' addr' value' : Signal)
    → commit' ≡ commit → addr' ≡ addr → value' ≡ value
    → Commit2Law stands size tickets f commit addr value → Commit2Law stands size tickets f commit' addr' value'
second_kept stands size tickets f commit addr value commit' addr' value' e g h x =
    let P : Signal → Type 0 = λ q. Commit2Law stands size tickets f q addr value in
    let Q : Signal → Type 0 = λ q. Commit2Law stands size tickets f commit' q value in
    let R : Signal → Type 0 = λ q. Commit2Law stands size tickets f commit' addr' q in
    subst R (sym h) (subst Q (sym g) (subst P (sym e) x))

-- the nets of a commit stay there, with their widths
pub fits_kept : (a b : Circuit) (mem : Mem) (commit addr value : Net) → Keeps a b → FitsMemory a mem commit addr value → FitsMemory b mem commit addr value
fits_kept a b mem commit addr value k h = record {
  commit = width_keeps a b commit 1 k h.commit;
  addr_there = k.there addr h.addr_there;
  addr_reach = ap (λ (q : Signal). 2 ^ q.width) (k.kept addr h.addr_there) ∙ h.addr_reach;
  value = width_keeps a b value mem.width k h.value;
}

-- the step of a lock stays where its registers and its array take next what they took
pub stepped_kept : {T : Type 0} (l : Members T) (a b : Circuit) (mem : Mem) (f : StepSignals) (y : MemLock T) (n : LockNets)
    → Keeps a b → OwnKept (own y.regs) a b → IsStepped l a mem f y n → IsStepped l b mem f y n
stepped_kept l a b mem f y n k w x =
    record {
      law =
          law_kept (l.stands y.lock y.regs) (l.size y.lock) (l.tickets y.lock) (own y.regs) a b f (signal a n.commit)
          (signal a n.addr) (signal a n.value) (signal b n.commit) (signal b n.addr) (signal b n.value) w
          (k.kept n.commit x.nets.commit.there) (k.kept n.addr x.nets.addr_there) (k.kept n.value x.nets.value.there) x.law;
      law2 =
          second_kept (l.stands y.lock y.regs) (l.size y.lock) (l.tickets y.lock) f (signal a n.commit2)
          (signal a n.addr2) (signal a n.value2) (signal b n.commit2) (signal b n.addr2) (signal b n.value2)
          (k.kept n.commit2 x.nets2.commit.there) (k.kept n.addr2 x.nets2.addr_there) (k.kept n.value2 x.nets2.value.there) x.law2;
      hides = hides_kept (l.kind y.lock) (own y.regs) a b f w x.hides;
      nets = fits_kept a b mem n.commit n.addr n.value k x.nets;
      nets2 = fits_kept a b mem n.commit2 n.addr2 n.value2 k x.nets2;
    }

-- ---- all locks

-- a circuit is its own growth by the steps of no locks
pub locks_none : {T : Type 0} (xs : List (Option (MemLock T))) (c : Circuit) → ExtendsLocks xs 0 c c
locks_none xs c = record { keeps = keeps_refl c; nexts = λ k h o. refl; writes = λ n h o. refl; ports = refl; shapes = refl }

-- with the step of one lock more, at most the first m + 1 locks have changed what they take next
pub locks_more : {T : Type 0} (xs : List (Option (MemLock T))) (m : ℕ) (a b c : Circuit) → ExtendsLocks xs m a b
    → ExtendsBut (own_of (some_at xs m)) b c → ExtendsLocks xs (m + 1) a c
locks_more xs m a b c x y = record {
  keeps = keeps_trans a b c x.keeps (but_keeps (own_of (some_at xs m)) b c y);
  nexts = λ k h o. y.nexts k (x.keeps.has_reg k h) (o m (omega arith)) ∙ x.nexts k h (λ j l. o j (omega (arith, l)));
  writes = λ n h o. y.writes n (x.keeps.has_array n h) (o m (omega arith)) ∙ x.writes n h (λ j l. o j (omega (arith, l)));
  ports = y.ports ∙ x.ports;
  shapes = y.shapes ∙ x.shapes;
}

-- where at most the first m locks have changed what they take next, at most the first n have, for a greater n
pub locks_wider : {T : Type 0} (xs : List (Option (MemLock T))) (m n : ℕ) (a b : Circuit)
    → m ≤ n → ExtendsLocks xs m a b → ExtendsLocks xs n a b
locks_wider xs m n a b h x = record {
  keeps = x.keeps;
  nexts = λ k r o. x.nexts k r (λ j l. o j (omega (arith, h, l)));
  writes = λ k r o. x.writes k r (λ j l. o j (omega (arith, h, l)));
  ports = x.ports;
  shapes = x.shapes;
}

module _ {T : Type 0} (l : Members T) (a : Circuit) (p : Pipe) (xs : List (Option (MemLock T)))
    (locked : AreLocked l a p xs) (lawful : AreLawful l a p xs) where
  -- the registers of an earlier lock are not those of a later one, nor is its array
  regs_apart : (j m : ℕ) (x : MemLock T) (k : ℕ) → j < m → m < length p.mems → some_at xs j ≡ Some x
      → first_reg x.regs ≤ k → k < end_reg x.regs → Outside (own_of (some_at xs m)).from (own_of (some_at xs m)).to k
  regs_apart j m x k h low e lo hi = at (some_at xs m) refl
    where
      at : (o : Option (MemLock T)) → some_at xs m ≡ o → Outside (own_of o).from (own_of o).to k
      at None f = inr (omega arith)
      at (Some y) f = let d = lawful.apart j m x y h low e f in inl (omega (arith, hi, d))

  array_apart : (j m : ℕ) → j < m → m < length p.mems → is_delayed (mem_at p j).kind ≡ false
      → Outside (own_of (some_at xs m)).first (own_of (some_at xs m)).last (comb_place p j)
  array_apart j m h low once = at (some_at xs m) refl
    where
      at : (o : Option (MemLock T)) → some_at xs m ≡ o → Outside (own_of o).first (own_of o).last (comb_place p j)
      at None f = inr (omega arith)
      at (Some y) f =
          outside_place (mem_at p m) (comb_place p m) y.regs.array (locked.locks m y low f).array (comb_place p j)
          (λ u. inl (place_below p j m h (omega (arith, low)) once))

  -- an earlier lock keeps what its registers and its array take next while a later lock makes its step
  pub own_apart : (j m : ℕ) (x : MemLock T) (b c : Circuit) → j < m → m < length p.mems → some_at xs j ≡ Some x
      → Keeps a b → ExtendsBut (own_of (some_at xs m)) b c → OwnKept (own x.regs) b c
  own_apart j m x b c h low e k d =
      let under : j < length p.mems = omega (arith, h, low) in
      let it = locked.locks j x under e in
      let law = lawful.laws j x under e in
      let is = own_place (mem_at p j) (comb_place p j) x.regs.array it.array in
      record {
        has_reg = λ n lo hi. d.has_reg n (k.has_reg n (law.regs n lo hi));
        nexts = λ n lo hi. d.nexts n (k.has_reg n (law.regs n lo hi)) (regs_apart j m x n h low e lo hi);
        has_array = λ n lo hi. let q = is n lo hi in
            subst (HasArray c) (sym q.1) (d.has_array (comb_place p j) (k.has_array (comb_place p j) (locked.has_array j under q.0)));
        writes = λ n lo hi.
            let q = is n lo hi in
            subst (λ i. write_signals c i ≡ write_signals b i) (sym q.1)
            (d.writes (comb_place p j) (k.has_array (comb_place p j) (locked.has_array j under q.0)) (array_apart j m h low q.0));
      }

  -- an earlier step stays
  earlier : (j m : ℕ) (b c : Circuit) (f : StepSignals) (n : Option LockNets) → j < m → m < length p.mems → Keeps a b
      → ExtendsBut (own_of (some_at xs m)) b c → IsSteppedMemory l b (mem_at p j) f (some_at xs j) n
      → IsSteppedMemory l c (mem_at p j) f (some_at xs j) n
  earlier j m b c f n h low k d y = record {
    has = y.has;
    lock = λ x z e q. stepped_kept l b c (mem_at p j) f x z (but_keeps (own_of (some_at xs m)) b c d) (own_apart j m x b c h low e k d) (y.lock x z e q);
  }

  -- before the first step no memory has made one
  pub stepped_none : (f : ℕ → StepSignals) → AreStepped l a p f xs [] 0
  stepped_none f = record { count = refl; each = λ m h. absurd (omega (arith, h)) }

  -- with the step of one memory more, the first m + 1 memories have made theirs
  pub stepped_more : (m : ℕ) (b c : Circuit) (f : ℕ → StepSignals) (g : StepSignals) (ns : List (Option LockNets)) (n : Option LockNets)
      → m < length p.mems → g ≡ f m → Keeps a b → ExtendsBut (own_of (some_at xs m)) b c
      → IsSteppedMemory l c (mem_at p m) g (some_at xs m) n → AreStepped l b p f xs ns m → AreStepped l c p f xs (ns ++ n ∷ []) (m + 1)
  stepped_more m b c f g ns n low e k d z w =
      let P = λ (j : ℕ) (q : Option LockNets). IsSteppedMemory l c (mem_at p j) (f j) (some_at xs j) q in
      record {
        count = length-append ns (n ∷ []) ∙ ap (λ k. k + 1) w.count;
        each = below_more (λ j. P j (some_at (ns ++ n ∷ []) j)) m
            (λ j h. subst (P j) (sym (some_before ns n j (omega (arith, h, w.count)))) (earlier j m b c (f j) (some_at ns j) h low k d (w.each j h)))
            (subst (P m) (sym (some_last ns n m w.count)) (subst (λ (s : StepSignals). IsSteppedMemory l c (mem_at p m) s (some_at xs m) n) e z));
      }

  -- nothing writes the array of the next lock yet
  pub still_unwritten : (m : ℕ) (b : Circuit) → m < length p.mems → is_delayed (mem_at p m).kind ≡ false → ExtendsLocks xs m a b
      → write_signals a (comb_place p m) ≡ [] → write_signals b (comb_place p m) ≡ []
  still_unwritten m b low once x e = x.writes (comb_place p m) (locked.has_array m low once) (λ j h. outside j h (some_at xs j) refl) ∙ e
    where
      outside : (j : ℕ) → j < m → (o : Option (MemLock T)) → some_at xs j ≡ o → Outside (own_of o).first (own_of o).last (comb_place p m)
      outside j h None f = inr (omega arith)
      outside j h (Some y) f =
          outside_place (mem_at p j)
          (comb_place p j) y.regs.array (locked.locks j y (omega (arith, h, low)) f).array (comb_place p m)
          (λ u. inr (let l = place_below p j m h (omega (arith, low)) u in omega (arith, l)))
