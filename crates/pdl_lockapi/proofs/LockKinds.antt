-- What holds of a lock by its kind. Proofs on the machine and on netlists name no kind: what they need of the kinds is here.
use Rattle.std.proofs.Common.{◌≡◌, refl, sym, ap, ◌∙◌, ℕ, ◌+◌, ◌*◌, ◌≤◌, nat_le, true, false, [], Some, ◌⊎◌, inl, inr, leb-true, arith}
use Rattle.std.specs.Prelude.{slice_index_or}
use Rattle.pdl_semantics.specs.Tree.{LockKind, Queue, Bypass, Rename, LockDecl}
use Rattle.pdl_semantics.specs.Flat as flat
use Rattle.pdl_semantics.specs.Flat.{Lock, has_lock}
use Rattle.pdl_semantics.specs.Flatten.{flat_lock}
use Rattle.pdl_semantics.specs.Locks.{has_room}
use Rattle.pdl_net.specs.Circuit.{Circuit, State}
use Rattle.pdl_net.specs.Signal.{Signal}
use Rattle.pdl_net.specs.Growth.{Own}
use Rattle.pdl_lockapi.specs.Laws.{words_of, after_writes, IsNext, OwnKept, StepSignals, HidesLaw}
use Rattle.pdl_lockapi.specs.Forget.{as_lock}
use Rattle.pdl_lockapi.specs.Sizes.{size_of, words_in}

-- WHAT A LOCK IS

-- a memory that has no lock is a plain one
pub plain_is : (l : Lock) → has_lock l ≡ false → l ≡ flat.Plain
plain_is flat.Plain e = refl
plain_is _ e = absurd (cc e)

-- a lock of each kind is a lock
pub locked_is : (k : LockKind) (n : ℕ) → has_lock (as_lock k n) ≡ true
locked_is Queue n = refl
locked_is Bypass n = refl
locked_is Rename n = refl

-- a declared lock is that of its kind, with its size
pub lock_is : (l : LockDecl) → flat_lock (Some l) ≡ as_lock l.kind l.size.value
lock_is l = at l.kind
  where
    at : (k : LockKind) → flat_lock (Some (record l { kind = k })) ≡ as_lock k l.size.value
    at Queue = refl
    at Bypass = refl
    at Rename = refl

-- ROOM

-- there is room for more up to the size
pub room_is : (k : LockKind) (size more n : ℕ) → has_room (as_lock k size) more n ≡ nat_le (more + n) size
room_is Queue size more n = refl
room_is Bypass size more n = refl
room_is Rename size more n = refl

-- where a lock has room for more, these and what is pending are no more than its size
pub room_there : (k : LockKind) (more n size : ℕ) → has_room (as_lock k size) more n ≡ true → more + n ≤ size
room_there k more n size e = leb-true (more + n) size (sym (room_is k size more n) ∙ e)

-- where there is room for more, the memory has no lock, or these and what is pending are no more than its size
pub room_size : (l : Lock) (more n : ℕ) → has_room l more n ≡ true → (l ≡ flat.Plain) ⊎ (more + n ≤ size_of l)
room_size flat.Plain more n e = inl refl
room_size (flat.Queue size) more n e = inr (leb-true (more + n) size e)
room_size (flat.Bypass size) more n e = inr (leb-true (more + n) size e)
room_size (flat.Rename size) more n e = inr (leb-true (more + n) size e)

-- THE WORDS OF THE MEMORY'S ARRAY

-- the array of a lock has as many words as one of its kind has for the memory
pub words_are : (k : LockKind) (n d : ℕ) → words_in (as_lock k n) d ≡ words_of k d
words_are Queue n d = refl
words_are Bypass n d = refl
words_are Rename n d = refl

-- a memory without lock has its own words
pub words_plain : (l : Lock) (d : ℕ) → has_lock l ≡ false → words_in l d ≡ d
words_plain l d e = ap (λ x. words_in x d) (plain_is l e)

-- a lock keeps the words of its memory once or twice
pub once_or_twice : (k : LockKind) (d : ℕ) → (words_of k d ≡ d) ⊎ (words_of k d ≡ 2 * d)
once_or_twice Queue d = inl refl
once_or_twice Bypass d = inl refl
once_or_twice Rename d = inr (twice d)
  where
    twice : (n : ℕ) → n + n ≡ 2 * n
    twice n = omega arith

-- HIDDEN VALUES

-- a fragment has the same next states in a circuit that keeps what it takes next
pub next_kept : (o : Own) (a b : Circuit) (s t : State) → OwnKept o a b → IsNext b o s t → IsNext a o s t
next_kept o a b s t k n = record {
  regs = λ i lo hi. n.regs i lo hi ∙ ap (λ (f : Signal). f.value s) (k.nexts i lo hi);
  arrays = λ m lo hi. n.arrays m lo hi ∙ ap (λ ps. after_writes s ps (slice_index_or s.arrays m [])) (k.writes m lo hi);
}

-- a fragment that hides written values hides them in a circuit that keeps what it takes next
pub hides_kept : (k : LockKind) (o : Own) (a b : Circuit) (f : StepSignals) → OwnKept o a b → HidesLaw k a o f → HidesLaw k b o f
hides_kept Queue o a b f k x = tt
hides_kept Bypass o a b f k x = tt
hides_kept Rename o a b f k x = record { same = λ s t u v same m n. x.same s t u v same (next_kept o a b s u k m) (next_kept o a b t v k n) }
