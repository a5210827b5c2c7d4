-- The memories, one after the other.
use Rattle.std.proofs.Common.{◌≡◌, ℕ, zero, suc, ◌+◌, ◌<◌, ◌≤◌, ◌∙◌, false, List, [], ◌∷◌, ◌++◌, length, length-append, drop, get_or, refl, sym, ap, ap₂, subst, arith, append_assoc, append-nil}
use borrow.Author.Count.{below_more}
use Rattle.std.specs.Prelude.{Option, Some, is_some}
use Rattle.std.proofs.lemmas.List.{get_or-map, drop_more, drop_all, length-map}
use Rattle.pdl_kit.specs.declared.mem_info.MemInfo.{MemInfo}
use Rattle.pdl_semantics.specs.Flat.{Mem, Pipe, has_lock, is_delayed}
use Rattle.pdl_semantics.specs.Stages.{plain_mem, mem_at}
use Rattle.pdl_net.specs.Circuit.{Circuit, Shape, shapes_of, HasArray, array_width, array_depth}
use Rattle.pdl_net.specs.Meaning.{write_signals}
use Rattle.pdl_net.specs.Growth.{Keeps, ExtendsArrays}
use Rattle.pdl_net.proofs.Keeps.{arrays_keeps, arrays_trans, regs_grow}
use Rattle.pdl_lockapi.specs.Laws.{first_reg, end_reg}
use Rattle.pdl_lockapi.specs.Forget.{as_lock}
use Rattle.pdl_form.specs.Form.{Form}
use Rattle.pdl_form.specs.declared.form.FlatMem as r_mem
use Rattle.pdl_form.specs.View.{mem_view, mems_view, mem_names}
use Rattle.pdl_form_types.specs.Stmts.{IsTypedMem, AreTypedMems}
use Rattle.pdl_lockapi.specs.Sizes.{words_in}
use Rattle.pdl_lockapi.proofs.LockKinds.{words_are, words_plain}
use Rattle.pdl_law_parts.specs.Places.{comb_place}
use Rattle.pdl_pipe_walk.specs.declared.locks.MemLock.{MemLock}
use Rattle.pdl_pipe_walk.specs.Locked.{Members, some_at, IsLockIn, AreLocked}
use Rattle.pdl_pipe_locks.specs.Suited.{shape_in, arrays_in, shapes_in, AreComb, AreSuited}
use Rattle.pdl_pipe_locks.specs.Lawful.{IsLawfulLock, AreLawful, AreUnwritten}
use Rattle.pdl_pipe_locks.specs.NewMemories.{AreServed, IsNewMemory}
use Rattle.pdl_pipe_locks.proofs.LockGrowth.{Stays, lock_kept, lawful_kept, regs_end}
use Rattle.pdl_pipe_locks.proofs.NewLock.{array_more, one_array, new_there, new_width, new_depth}
use Rattle.pdl_pipe_locks.proofs.Places.{place_more}
use Rattle.pdl_pipe_walk.proofs.Lists.{some_before, some_last}

-- ---- the memory of a number

-- the i-th memory of the program is memory i of the pipe
pub mem_is : (p : Pipe) (ms : List r_mem.FlatMem) (i : ℕ) (d : r_mem.FlatMem)
    → mems_view ms ≡ p.mems → i < length ms → d ≡ get_or ms i d → mem_view d ≡ mem_at p i
mem_is p ms i d e h q = ap mem_view q ∙ sym (get_or-map mem_view ms i d plain_mem h) ∙ ap (λ xs. get_or xs i plain_mem) e

-- there are as many memories of the program as in the pipe
pub mem_count : (p : Pipe) (ms : List r_mem.FlatMem) → mems_view ms ≡ p.mems → length ms ≡ length p.mems
mem_count p ms e = sym (length-map ms mem_view) ∙ ap length e

-- there are as many names as memories in the pipe
pub name_count : (names : List (List ℕ)) (p : Pipe) (ms : List r_mem.FlatMem)
    → mem_names ms ≡ names → mems_view ms ≡ p.mems → length names ≡ length p.mems
name_count names p ms e h = sym (ap length e) ∙ length-map ms (λ (m : r_mem.FlatMem). m.name) ∙ mem_count p ms h

-- the i-th memory has the i-th name
pub name_is : (names : List (List ℕ)) (ms : List r_mem.FlatMem) (i : ℕ) (d : r_mem.FlatMem)
    → mem_names ms ≡ names → i < length ms → d ≡ get_or ms i d → d.name ≡ get_or names i []
name_is names ms i d e h q = ap (λ (m : r_mem.FlatMem). m.name) q ∙ sym (get_or-map (λ (m : r_mem.FlatMem). m.name) ms i d [] h) ∙ ap (λ xs. get_or xs i []) e

-- the i-th of some typed memories is typed
pub typed_at : (ms : List Mem) (i : ℕ) → i < length ms → AreTypedMems ms → IsTypedMem (get_or ms i plain_mem)
typed_at [] i h s = absurd (omega (arith, h))
typed_at (m ∷ ms) zero h s = s.0
typed_at (m ∷ ms) (suc i) h s = typed_at ms i (omega (arith, h)) s.1

-- the i-th of some memories that answer at once does so
pub comb_at : (ms : List Mem) (i : ℕ) → i < length ms → AreComb ms → is_delayed (get_or ms i plain_mem).kind ≡ false
comb_at [] i h s = absurd (omega (arith, h))
comb_at (m ∷ ms) zero h s = s.0
comb_at (m ∷ ms) (suc i) h s = comb_at ms i (omega (arith, h)) s.1

-- the i-th of locks that suit a form serves memory i
pub served_at : {T : Type 0} (suits : T → MemInfo → Type 0) (l : Members T) (f : Form) (ls : List (Option T)) (i : ℕ)
    (name : List ℕ) (mem : Mem) (o : Option T)
    → AreSuited suits l f ls → i < length f.pipe.mems → name ≡ get_or f.names i [] → mem ≡ mem_at f.pipe i
    → o ≡ some_at ls i → AreServed suits l name mem o
served_at {T} suits l f ls i name mem o s low a b e =
    let here : AreServed suits l (get_or f.names i []) (mem_at f.pipe i) (some_at ls i) =
    record { locked = s.locked i low; lock = λ y q. record { suited = s.suited i y low q; kind = s.kinds i y low q } } in
    let P : List ℕ → Type 0 = λ x. AreServed suits l x (mem_at f.pipe i) (some_at ls i) in
    let Q : Mem → Type 0 = λ x. AreServed suits l name x (some_at ls i) in
    subst (λ (x : Option T). AreServed suits l name mem x) (sym e) (subst Q (sym b) (subst P (sym a) here))

-- ---- the first i memories

-- a lock that was made for a memory: its laws, its kind and size, and registers after those that were there
pub record IsMadeLock {T : Type 0} (l : Members T) (a c : Circuit) (i : ℕ) (mem : Mem) (x : MemLock T) : Type 0 where
  pub is_in : IsLockIn l c i mem x
  pub laws : IsLawfulLock l c x
  pub kind : mem.lock ≡ as_lock (l.kind x.lock) (l.size x.lock)
  pub above : length a.regs ≤ first_reg x.regs

-- the array of a memory that answers at once
pub record IsMadeArray (c : Circuit) (i : ℕ) (mem : Mem) : Type 0 where
  pub there : HasArray c i
  pub wide : array_width c i ≡ mem.width
  pub deep : array_depth c i ≡ words_in mem.lock mem.depth
  pub unwritten : write_signals c i ≡ []

-- a memory that was made: its array where it answers at once, and a lock where it should have one
pub record IsMadeMemory {T : Type 0} (l : Members T) (a c : Circuit) (i : ℕ) (mem : Mem) (o : Option (MemLock T)) : Type 0 where
  pub array : is_delayed mem.kind ≡ false → IsMadeArray c i mem
  pub locked : is_some o ≡ has_lock mem.lock
  pub lock : (x : MemLock T) → o ≡ Some x → IsMadeLock l a c i mem x

-- the first i memories were made: arrays in their order, and the registers of each lock after those of the earlier ones
pub record AreMadeTo {T : Type 0} (l : Members T) (a c : Circuit) (names : List (List ℕ)) (p : Pipe) (xs : List (Option (MemLock T))) (i : ℕ) : Type 0 where
  pub count : length xs ≡ i
  pub arrays : length c.arrays ≡ comb_place p i
  pub added : List Shape
  pub extends : ExtendsArrays a c added
  pub whole : added ++ shapes_in (drop i names) (drop i p.mems) ≡ shapes_in names p.mems
  pub each : (m : ℕ) → m < i → IsMadeMemory l a c (comb_place p m) (mem_at p m) (some_at xs m)
  pub apart : (n : ℕ) → n < i → (m : ℕ) (x y : MemLock T) → m < n → some_at xs m ≡ Some x → some_at xs n ≡ Some y → end_reg x.regs ≤ first_reg y.regs

arrays_refl : (c : Circuit) → ExtendsArrays c c []
arrays_refl c = record {
  there = λ x h. h;
  kept = λ x h. refl;
  has_reg = λ r h. h;
  width = λ r h. refl;
  reset = λ r h. refl;
  has_array = λ m h. h;
  word = λ m h. refl;
  depth = λ m h. refl;
  nexts = λ r h. refl;
  writes = λ m h. refl;
  ports = refl;
  shapes = sym (append-nil (shapes_of c));
}

-- where the circuit has no arrays, no memory is made as yet
pub made_none : {T : Type 0} (l : Members T) (a : Circuit) (names : List (List ℕ)) (p : Pipe) → a.arrays ≡ [] → AreMadeTo l a a names p [] 0
made_none l a names p e = record {
  count = refl;
  arrays = ap length e;
  added = [];
  extends = arrays_refl a;
  whole = refl;
  each = λ m h. absurd (omega (arith, h));
  apart = λ m h. absurd (omega (arith, h));
}

made_lock_kept : {T : Type 0} (l : Members T) (stays : Stays l) (a b c : Circuit) (i : ℕ) (mem : Mem) (x : MemLock T)
    → Keeps b c → IsMadeLock l a b i mem x → IsMadeLock l a c i mem x
made_lock_kept l stays a b c i mem x k h = record {
  is_in = lock_kept l b c i mem x k stays h.is_in;
  laws = lawful_kept (l.stands x.lock x.regs) (l.kind x.lock) (l.size x.lock) (l.tickets x.lock) b c x.regs k h.is_in.room.there h.is_in.room2.there h.is_in.ticket.there
      h.laws;
  kind = h.kind;
  above = h.above;
}

module _ {T : Type 0} (l : Members T) (stays : Stays l) (a b c : Circuit) (names : List (List ℕ)) (p : Pipe)
    (xs : List (Option (MemLock T))) (i : ℕ) (name : List ℕ) (mem : Mem) (o : Option (MemLock T))
    (low : i < length p.mems) (named : i < length names) (name_at : name ≡ get_or names i []) (at_mem : mem ≡ mem_at p i)
    (grows : ExtendsArrays b c (arrays_in name mem))
    (free : is_delayed mem.kind ≡ false → write_signals c (length b.arrays) ≡ []) (new : IsNewMemory l b c mem o)
    (h : AreMadeTo l a b names p xs i) where
  keeps : Keeps b c
  keeps = arrays_keeps b c (arrays_in name mem) grows

  before : (m : ℕ) → m < i → some_at (xs ++ o ∷ []) m ≡ some_at xs m
  before m k = some_before xs o m (omega (arith, k, h.count))

  here : some_at (xs ++ o ∷ []) i ≡ o
  here = some_last xs o i h.count

  whole_here : (h.added ++ arrays_in name mem) ++ shapes_in (drop (i + 1) names) (drop (i + 1) p.mems) ≡ shapes_in names p.mems
  whole_here =
      let rest = shapes_in (drop (i + 1) names) (drop (i + 1) p.mems) in
      let e : shapes_in (drop i names) (drop i p.mems) ≡ arrays_in name mem ++ rest =
      ap₂ shapes_in (drop_more names i [] named) (drop_more p.mems i plain_mem low) ∙ ap₂ (λ x y. arrays_in x y ++ rest) (sym name_at) (sym at_mem) in
      append_assoc h.added (arrays_in name mem) rest ∙ ap (λ ys. h.added ++ ys) (sym e) ∙ h.whole

  lock_here : (x : MemLock T) → o ≡ Some x → IsMadeLock l a c (comb_place p i) mem x
  lock_here x e =
      let n = new.lock x e in
      record {
        is_in = subst (λ k. IsLockIn l c k mem x) h.arrays n.is_in;
        laws = n.laws;
        kind = n.kind;
        above = let g = regs_grow a b (arrays_keeps a b h.added h.extends) in omega (arith, g, n.above);
      }

  array_here : is_delayed mem.kind ≡ false → IsMadeArray c (comb_place p i) mem
  array_here e =
      let one : ExtendsArrays b c (shape_in name mem ∷ []) = subst (λ (fs : List Shape). ExtendsArrays b c fs) (one_array name mem e) grows in
      let made : IsMadeArray c (length b.arrays) mem = record {
        there = new_there b c (shape_in name mem) one;
        wide = new_width b c (shape_in name mem) one;
        deep = new_depth b c (shape_in name mem) one;
        unwritten = free e;
      } in
      subst (λ k. IsMadeArray c k mem) h.arrays made

  memory_here : IsMadeMemory l a c (comb_place p i) (mem_at p i) (some_at (xs ++ o ∷ []) i)
  memory_here =
      let P : Mem → Type 0 = λ x. IsMadeMemory l a c (comb_place p i) x o in
      subst (λ (x : Option (MemLock T)). IsMadeMemory l a c (comb_place p i) (mem_at p i) x) (sym here)
      (subst P at_mem (record { array = array_here; locked = new.locked; lock = lock_here }))

  array_before : (k : ℕ) (x : Mem) → IsMadeArray b k x → IsMadeArray c k x
  array_before k x y = record {
    there = keeps.has_array k y.there;
    wide = keeps.word k y.there ∙ y.wide;
    deep = keeps.depth k y.there ∙ y.deep;
    unwritten = grows.writes k y.there ∙ y.unwritten;
  }

  memory_before : (m : ℕ) → m < i → IsMadeMemory l a c (comb_place p m) (mem_at p m) (some_at (xs ++ o ∷ []) m)
  memory_before m k =
      let x = h.each m k in
      subst (λ (y : Option (MemLock T)). IsMadeMemory l a c (comb_place p m) (mem_at p m) y) (sym (before m k))
      (record {
        array = λ e. array_before (comb_place p m) (mem_at p m) (x.array e);
        locked = x.locked;
        lock = λ y e. made_lock_kept l stays a b c (comb_place p m) (mem_at p m) y keeps (x.lock y e);
      })

  apart_here : (m : ℕ) (x y : MemLock T) → m < i → some_at (xs ++ o ∷ []) m ≡ Some x → some_at (xs ++ o ∷ []) i ≡ Some y → end_reg x.regs ≤ first_reg y.regs
  apart_here m x y k e f =
      let it = (h.each m k).lock x (sym (before m k) ∙ e) in
      let ends = regs_end (l.stands x.lock x.regs) (l.kind x.lock) (l.size x.lock) (l.tickets x.lock) b x.regs it.laws in
      let begins = (new.lock y (sym here ∙ f)).above in
      omega (arith, ends, begins)

  -- with one memory more, the first i + 1 memories are made
  pub made_more : AreMadeTo l a c names p (xs ++ o ∷ []) (i + 1)
  made_more = record {
    count = length-append xs (o ∷ []) ∙ ap (λ n. n + 1) h.count;
    arrays = let n = array_more b c (arrays_in name mem) grows in let k = place_more p i name low in
        let e = ap (λ (x : Mem). length (arrays_in name x)) at_mem in omega (arith, n, k, e, h.arrays);
    added = h.added ++ arrays_in name mem;
    extends = arrays_trans a b c h.added (arrays_in name mem) h.extends grows;
    whole = whole_here;
    each = below_more (λ m. IsMadeMemory l a c (comb_place p m) (mem_at p m) (some_at (xs ++ o ∷ []) m)) i memory_before memory_here;
    apart =
        below_more
        (λ n. (m : ℕ) (x y : MemLock T) → m < n → some_at (xs ++ o ∷ []) m ≡ Some x → some_at (xs ++ o ∷ []) n ≡ Some y → end_reg x.regs ≤ first_reg y.regs) i
        (λ n k m x y q e f. h.apart n k m x y q (sym (before m (omega (arith, q, k))) ∙ e) (sym (before n k) ∙ f)) (λ m x y k e f. apart_here m x y k e f);
  }

-- ---- all memories

module _ {T : Type 0} (l : Members T) (a c : Circuit) (names : List (List ℕ)) (p : Pipe)
    (xs : List (Option (MemLock T))) (i : ℕ) (named : length names ≡ length p.mems) (all : i ≡ length p.mems)
    (h : AreMadeTo l a c names p xs i) where
  added_all : h.added ≡ shapes_in names p.mems
  added_all =
      let ns : drop i names ≡ [] = drop_all i names (omega (arith, named, all)) in
      let ms : drop i p.mems ≡ [] = drop_all i p.mems (omega (arith, all)) in
      sym (append-nil h.added) ∙ ap (λ ys. h.added ++ ys) (sym (ap₂ shapes_in ns ms)) ∙ h.whole

  -- where all memories are made, the circuit has grown by their arrays
  pub all_extends : ExtendsArrays a c (shapes_in names p.mems)
  all_extends = subst (λ (fs : List Shape). ExtendsArrays a c fs) added_all h.extends

  made : (m : ℕ) → m < length p.mems → IsMadeMemory l a c (comb_place p m) (mem_at p m) (some_at xs m)
  made m k = h.each m (omega (arith, k, all))

  -- where all memories are made, each has its array and its lock
  pub all_locked : AreLocked l c p xs
  all_locked = record {
    count = h.count ∙ all;
    locked = λ m k. (made m k).locked;
    locks = λ m x k e. ((made m k).lock x e).is_in;
    has_array = λ m k once. ((made m k).array once).there;
    width = λ m k once. ((made m k).array once).wide;
    depth = λ m k e once. ((made m k).array once).deep ∙ words_plain (mem_at p m).lock (mem_at p m).depth e;
  }

  -- where all memories are made, their locks keep their laws
  pub all_lawful : AreLawful l c p xs
  all_lawful = record {
    laws = λ m x k e. ((made m k).lock x e).laws;
    kinds = λ m x k e. ((made m k).lock x e).kind;
    deep =
        λ m x k once e. ((made m k).array once).deep
        ∙ ap (λ y. words_in y (mem_at p m).depth) ((made m k).lock x e).kind
        ∙ words_are (l.kind x.lock) (l.size x.lock) (mem_at p m).depth;
    apart = λ m n x y q k e f. h.apart n (omega (arith, k, all)) m x y q e f;
  }

  -- where all memories are made, no port writes their arrays
  pub all_unwritten : AreUnwritten c p
  all_unwritten m k once = ((made m k).array once).unwritten

  -- where all memories are made, the registers of each lock come after those that were there before
  pub all_above : (m : ℕ) (x : MemLock T) → m < length p.mems → some_at xs m ≡ Some x → length a.regs ≤ first_reg x.regs
  all_above m x k e = ((made m k).lock x e).above
