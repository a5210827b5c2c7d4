-- The lock that a memory asks for is of the memory's kind and size, and serves the memory.
use Rattle.std.proofs.Common.{◌≡◌, refl, ap, subst, ℕ, Bool, true, false, not, nat_le, Some, leb-true}
use Rattle.std.specs.Prelude.{is_some}
use Rattle.std.proofs.lemmas.Bool.{and_parts}
use Rattle.pdl_kit.specs.declared.mem_info.MemInfo.{MemInfo}
use Rattle.pdl_semantics.specs.Tree as tree
use Rattle.pdl_semantics.specs.Tree.{LockKind}
use Rattle.pdl_semantics.specs.Flat as flat
use Rattle.pdl_semantics.specs.Flat.{Lock, has_lock}
use Rattle.pdl_rules.specs.Limits.{allows_lock}
use Rattle.pdl_lockapi.specs.Forget.{as_lock}
use Rattle.pdl_lock_ring.specs.Slots.{Suits, IsSize}
use Rattle.pdl_lock_any.specs.declared.AnyLock.{AnyLock}
use Rattle.pdl_lock_any.specs.declared.AnyLock.TheVariants.{Queue, Bypass, Rename}
use Rattle.pdl_lock_any.specs.Any.{any_kind, any_size, any_suits}
use Rattle.pdl_lock_any.specs.AskedLock.{lock_asked, IsSizedLock}

-- a lock is asked for where the memory has one, and only there
pub some_asked : (x : Lock) → is_some (lock_asked x) ≡ has_lock x
some_asked flat.Plain = refl
some_asked (flat.Queue n) = refl
some_asked (flat.Bypass n) = refl
some_asked (flat.Rename n) = refl

-- the lock that is asked for has the kind and the size of the memory's
pub kind_asked : (x : Lock) (l : AnyLock) → lock_asked x ≡ Some l → x ≡ as_lock (any_kind l) (any_size l)
kind_asked flat.Plain l e = absurd (cc e)
kind_asked (flat.Queue n) l e = let same : Queue (record { size = n }) ≡ l = cc e in ap (λ (y : AnyLock). as_lock (any_kind y) (any_size y)) same
kind_asked (flat.Bypass n) l e = let same : Bypass (record { size = n }) ≡ l = cc e in ap (λ (y : AnyLock). as_lock (any_kind y) (any_size y)) same
kind_asked (flat.Rename n) l e = let same : Rename (record { size = n }) ≡ l = cc e in ap (λ (y : AnyLock). as_lock (any_kind y) (any_size y)) same

-- a memory that slots of each size suit, and that answers at once
pub suit_asked : (x : Lock) (l : AnyLock) (m : MemInfo) → ((n : ℕ) → IsSize n → Suits n m)
    → m.delayed ≡ false → IsSizedLock x m.depth → lock_asked x ≡ Some l → any_suits l m
suit_asked flat.Plain l m t c s e = absurd (cc e)
suit_asked (flat.Queue n) l m t c s e = let same : Queue (record { size = n }) ≡ l = cc e in subst (λ (y : AnyLock). any_suits y m) same (t n s)
suit_asked (flat.Bypass n) l m t c s e =
    let same : Bypass (record { size = n }) ≡ l = cc e in
    subst (λ (y : AnyLock). any_suits y m) same (record { sizes = t n s; comb = c })
suit_asked (flat.Rename n) l m t c s e =
    let same : Rename (record { size = n }) ≡ l = cc e in
    subst (λ (y : AnyLock). any_suits y m) same (record { sizes = t n s.0; comb = c; shallow = s.1; deep = s.2 })

-- a lock that the rules allow has a size that it can have
pub sized_allowed : (k : LockKind) (size depth : ℕ) (delayed : Bool) → IsSize size
    → allows_lock depth delayed k size ≡ true → IsSizedLock (as_lock k size) depth
sized_allowed tree.Queue size depth delayed s e = s
sized_allowed tree.Bypass size depth delayed s e = s
sized_allowed tree.Rename size depth delayed s e =
    let fits = and_parts (nat_le depth 64) (nat_le size depth) (and_parts (not delayed) _ e).1 in
    (s, leb-true depth 64 fits.0, leb-true size depth fits.1)
