-- The locks that memories ask for suit them.
use Rattle.std.proofs.Common.{◌≡◌, ℕ, zero, suc, ◌<◌, List, [], ◌∷◌, length, get_or, sym, ap, ◌∙◌, subst, arith}
use Rattle.std.specs.Prelude.{Some, None, is_some}
use Rattle.std.proofs.lemmas.List.{length-map, get_or-map}
use Rattle.pdl_semantics.specs.Flat.{Lock, Plain, Queue, Bypass, Rename, Mem}
use Rattle.pdl_semantics.specs.Stages.{plain_mem, mem_at}
use Rattle.pdl_form.specs.Form.{Form}
use Rattle.pdl_form_types.specs.Stmts.{IsTypedMem, AreTypedMems}
use Rattle.pdl_lockapi.specs.Forget.{as_lock}
use Rattle.pdl_lock_ring.specs.Slots.{Suits, IsSize}
use Rattle.pdl_lock_any.specs.declared.AnyLock.{AnyLock}
use Rattle.pdl_lock_any.specs.declared.AnyLock.TheVariants as any_lock
use Rattle.pdl_lock_any.specs.Any.{any_kind, any_size, any_suits}
use Rattle.pdl_lock_any.specs.AskedLock.{lock_asked, IsSizedLock}
use Rattle.pdl_lock_any.proofs.AskedKinds.{some_asked, kind_asked, suit_asked}
use Rattle.pdl_pipe_walk.specs.Locked.{Members, some_at}
use Rattle.pdl_pipe_locks.specs.Suited.{info_of, AreSuited}
use Rattle.pdl_pipe_locks.proofs.MadeMemories.{typed_at}
use Rattle.pdl_lock_kinds.specs.AskedLocks.{locks_asked, IsInTime, AreInTime, AreSizedLocks}

asked_at : (ms : List Mem) (m : ℕ) → m < length ms → some_at (locks_asked ms) m ≡ lock_asked (get_or ms m plain_mem).lock
asked_at ms m h = get_or-map (λ (x : Mem). lock_asked x.lock) ms m plain_mem None h

sized_at : (ms : List Mem) (i : ℕ)
    → i < length ms → AreSizedLocks ms → IsSizedLock (get_or ms i plain_mem).lock (get_or ms i plain_mem).depth
sized_at [] i h s = absurd (omega (arith, h))
sized_at (m ∷ ms) zero h s = s.0
sized_at (m ∷ ms) (suc i) h s = sized_at ms i (omega (arith, h)) s.1

slots_suit : (n : ℕ) (name : List ℕ) (m : Mem) → IsTypedMem m → IsSize n → Suits n (info_of name m)
slots_suit n name m t s =
    record { size = s; width_low = t.low; width_high = t.high; depth = record { bits = t.bits; low = t.some; high = t.few; power = t.depth } }

in_time_at : (ms : List Mem) (i : ℕ) → i < length ms → AreInTime ms → IsInTime (get_or ms i plain_mem).lock (get_or ms i plain_mem)
in_time_at [] i h s = absurd (omega (arith, h))
in_time_at (m ∷ ms) zero h s = s.0
in_time_at (m ∷ ms) (suc i) h s = in_time_at ms i (omega (arith, h)) s.1

-- a queue suits a memory of either kind
suit_in_time : (k : Lock) (x : AnyLock) (name : List ℕ) (m : Mem) → ((n : ℕ) → IsSize n → Suits n (info_of name m))
    → IsInTime k m → IsSizedLock k m.depth → lock_asked k ≡ Some x → any_suits x (info_of name m)
suit_in_time Plain x name m t c s e = absurd (cc e)
suit_in_time (Queue n) x name m t c s e = let same : any_lock.Queue (record { size = n }) ≡ x = cc e in
    subst (λ (y : AnyLock). any_suits y (info_of name m)) same (t n s)
suit_in_time (Bypass n) x name m t c s e = suit_asked (Bypass n) x (info_of name m) t c s e
suit_in_time (Rename n) x name m t c s e = suit_asked (Rename n) x (info_of name m) t c s e

-- the locks that typed memories ask for suit them, where sizes are allowed and locks with values are in time
pub are_suited : (l : Members AnyLock) (f : Form)
    → l.kind ≡ any_kind → l.size ≡ any_size → AreTypedMems f.pipe.mems → AreInTime f.pipe.mems
    → AreSizedLocks f.pipe.mems → AreSuited any_suits l f (locks_asked f.pipe.mems)
are_suited l f k z t c s = record {
  count = length-map f.pipe.mems (λ (m : Mem). lock_asked m.lock);
  locked = λ m h. ap is_some (asked_at f.pipe.mems m h) ∙ some_asked (mem_at f.pipe m).lock;
  suited = λ m x h e.
      suit_in_time (mem_at f.pipe m).lock x (get_or f.names m []) (mem_at f.pipe m)
      (λ n. slots_suit n (get_or f.names m []) (mem_at f.pipe m) (typed_at f.pipe.mems m h t))
      (in_time_at f.pipe.mems m h c) (sized_at f.pipe.mems m h s) (sym (asked_at f.pipe.mems m h) ∙ e);
  kinds = λ m x h e.
      let here = kind_asked (mem_at f.pipe m).lock x (sym (asked_at f.pipe.mems m h) ∙ e) in
      here ∙ ap (λ g. as_lock (g x) (any_size x)) (sym k) ∙ ap (λ g. as_lock (l.kind x) (g x)) (sym z);
}
