-- The memories of a source that breaks no rule: their locks, their names, and the stages of their reserves and releases.
use Rattle.std.proofs.Common.{◌≡◌, refl, sym, ap, ◌∙◌, subst, ℕ, zero, suc, ◌+◌, ◌≤◌, ◌<◌, ◌==◌, nat_le, le-leb, ltb-true, Bool, true, false, ◌&&◌, not, List, [], ◌∷◌, ◌++◌, length, map, Option, None, Some, cond, if◌then◌else◌, nat_lt, bytes_eq, slice_index_or, arith, lt-ltb, append_assoc}
use Rattle.std.specs.Option.{is_some}
use Rattle.std.proofs.lemmas.Bool.{false≢true, and_parts, or_parts, or_left, or_right, or_from, not-false, eqb-true, eqb-false, both_ways, false_from_ne_true}
use Rattle.std.specs.List.{list_any}
use Rattle.pdl_semantics.specs.Tree.{W, LockKind, Queue, Bypass, Rename, LockDecl, Mem, Pipe}
use Rattle.pdl_semantics.specs.Flat
use Rattle.pdl_semantics.specs.Flatten.{mem_of, mems_of, flat_lock, first_stage, first_stages, is_advisory_mem}
use Rattle.pdl_semantics.specs.Stages.{plain_mem}
use Rattle.pdl_semantics.specs.Locks.{has_room}
use Rattle.pdl_kit.specs.declared.rule.Rule.TheVariants.{Z7, N2}
use Rattle.pdl_rules.specs.Places.{Place, Parameter, Memory, statements, places}
use Rattle.pdl_rules.specs.Parts
use Rattle.pdl_rules.specs.Limits
use Rattle.pdl_rules.specs.Limits.{is_size, is_width, is_depth, allows_lock}
use Rattle.pdl_rules.specs.Locks.{is_locked, declared_size, lock_size, most_reservations}
use Rattle.pdl_rules.specs.Refusal.{KeepsRules}
use Rattle.pdl_rules.specs.Typed.{is_memory, AreDistinct}
use Rattle.pdl_rules.proofs.SingleWrites.{any_front, any_last}
use Rattle.pdl_rules.proofs.KnownVariables.{takes_name}
use Rattle.pdl_theory_turns.specs.Scans.{is_plain, none_of}
use Rattle.pdl_word.proofs.Bytes.{bytes_same, bytes_refl}
use Rattle.pdl_source_stages.proofs.Trunks.{first_index}
use Rattle.pdl_rules.proofs.EachPlace.{closing}

-- NUMBERS

-- each number below the count is a memory's
pub at_number : (ms : List Mem) (i : ℕ) → AreDistinct ms → i < length ms → (m : List ℕ) × (is_memory ms m ≡ true) × (mem_of ms m ≡ i)
at_number [] i d low = absurd (omega arith)
at_number (x ∷ ms) zero d low = (
  x.name.name,
  or_left (bytes_eq x.name.name x.name.name) _ (bytes_refl x.name.name),
  ap (λ b. if b then 0 else suc (mem_of ms x.name.name)) (bytes_refl x.name.name),
)
at_number (x ∷ ms) (suc i) d low =
    let h = at_number ms i d.1 (omega arith) in (
      h.0,
      or_right (bytes_eq x.name.name h.0) _ h.1,
      ap (λ b. if b then 0 else suc (mem_of ms h.0))
          (false_from_ne_true _ (λ t. both_ways (is_memory ms x.name.name) d.0 (subst (λ n. is_memory ms n ≡ true) (sym (bytes_same x.name.name h.0 t)) h.1)))
          ∙ ap suc h.2,
    )

-- the flat form has as many memories as the source
pub mems_length : (ms : List Mem) → length (mems_of ms) ≡ length ms
mems_length [] = refl
mems_length (m ∷ ms) = ap suc (mems_length ms)

-- the rest of the text after these memories
abbrev pub After : Pipe → List Place → List Mem → Type 0
After p before ms = (later : List Place) × (places p ≡ before ++ (map Memory ms ++ later))

after_next : (p : Pipe) (before : List Place) (m : Mem) (ms : List Mem) → After p before (m ∷ ms) → After p (before ++ Memory m ∷ []) ms
after_next p before m ms h = (h.0, h.1 ∙ sym (append_assoc before (Memory m ∷ []) (map Memory ms ++ h.0)))

-- the memories of a source stand in its text right after the parameters
pub all_after : (p : Pipe) → After p (map Parameter p.params) p.mems
all_after p = (
  statements [] p.body ++ closing p,
  append_assoc (map Parameter p.params ++ map Memory p.mems) (statements [] p.body) (closing p)
      ∙ append_assoc (map Parameter p.params) (map Memory p.mems) (statements [] p.body ++ closing p),
)

not_again : (p : Pipe) → KeepsRules p → (n : List ℕ) (ms : List Mem) (before : List Place)
    → ((x : List ℕ) → bytes_eq x n ≡ true → list_any (takes_name x) before ≡ true) → After p before ms
    → is_memory ms n ≡ false
not_again p rules n [] before h b = refl
not_again p rules n (m ∷ ms) before h b =
    let free =
    (or_parts (bytes_eq m.name.name p.name.name) (list_any (takes_name m.name.name) before) (rules N2 before (Memory m) (map Memory ms ++ b.0) b.1)).1 in
    or_from (bytes_eq m.name.name n) (is_memory ms n)
    (false_from_ne_true (bytes_eq m.name.name n) (λ e. both_ways (list_any (takes_name m.name.name) before) free (h m.name.name e)))
    (not_again p rules n ms (before ++ Memory m ∷ []) (λ x e. any_front (takes_name x) before (Memory m) (h x e)) (after_next p before m ms b))

-- no memory of a source that breaks no rule has the name of one before it
pub distinct : (p : Pipe) → KeepsRules p → (ms : List Mem) (before : List Place) → After p before ms → AreDistinct ms
distinct p rules [] before b = tt
distinct p rules (m ∷ ms) before b = (
  not_again p rules m.name.name ms (before ++ Memory m ∷ []) (λ x e. any_last (takes_name x) before (Memory m) e) (after_next p before m ms b),
  distinct p rules ms (before ++ Memory m ∷ []) (after_next p before m ms b),
)

-- LOCKS

plain_lock : (l : Option LockDecl) → is_plain (flat_lock l) ≡ not (is_some l)
plain_lock None = refl
plain_lock (Some l) = at l.kind
  where
    at : (k : LockKind) → is_plain (flat_lock (Some (record l { kind = k }))) ≡ false
    at Queue = refl
    at Bypass = refl
    at Rename = refl

-- in the flat form a memory has no lock exactly where the memory of its name has none
pub lock_tells : (ms : List Mem) (m : List ℕ) → is_plain (slice_index_or (mems_of ms) (mem_of ms m) plain_mem).lock ≡ not (is_locked ms m)
lock_tells [] m = refl
lock_tells (x ∷ ms) m = at (bytes_eq x.name.name m) (lock_tells ms m)
  where
    at : (b : Bool) → is_plain (slice_index_or (mems_of ms) (mem_of ms m) plain_mem).lock ≡ not (is_locked ms m)
        → is_plain (slice_index_or (mems_of (x ∷ ms)) (cond b 0 (suc (mem_of ms m))) plain_mem).lock ≡ not (cond b (is_some x.lock) (is_locked ms m))
    at true h = plain_lock x.lock
    at false h = h

sized : (n : ℕ) → is_size n ≡ true → nat_lt 0 n ≡ true
sized zero h = absurd (false≢true h)
sized (suc n) h = lt-ltb 0 (suc n) (omega arith)

-- a lock has room for as many writes as a path may reserve
abbrev most : ℕ → ℕ
most n = if n == 1 then 1 else 2

room_size : (n k : ℕ) → nat_lt 0 n ≡ true → k ≤ most n → nat_le (k + 0) n ≡ true
room_size n k h low = at (n == 1) refl low
  where
    at : (b : Bool) → (n == 1) ≡ b → k ≤ (if b then 1 else 2) → nat_le (k + 0) n ≡ true
    at true e l = le-leb (k + 0) n (let i = eqb-true n 1 e in omega arith)
    at false e l = le-leb (k + 0) n (let i = eqb-false n 1 e in let j = ltb-true 0 n h in omega arith)

room_lock : (l : Option LockDecl)
    → ((d : LockDecl) → l ≡ Some d → is_size d.size.value ≡ true) → (k : ℕ) → k ≤ most (declared_size l) → has_room (flat_lock l) k 0 ≡ true
room_lock None f k low = refl
room_lock (Some l) f k low = at l.kind (room_size l.size.value k (sized l.size.value (f l refl)) low)
  where
    at : (j : LockKind) → nat_le (k + 0) l.size.value ≡ true → has_room (flat_lock (Some (record l { kind = j }))) k 0 ≡ true
    at Queue h = h
    at Bypass h = h
    at Rename h = h

-- each lock of a source that breaks no rule has room for a write where none is pending
pub rooms : (p : Pipe) → KeepsRules p → (ms : List Mem) (before : List Place) (m : List ℕ) → After p before ms
    → (k : ℕ) → k ≤ most_reservations ms W m → has_room (slice_index_or (mems_of ms) (mem_of ms m) plain_mem).lock k 0 ≡ true
rooms p rules [] before m b k low = refl
rooms p rules (x ∷ ms) before m b k low = at (bytes_eq x.name.name m) low (rooms p rules ms (before ++ Memory x ∷ []) m (after_next p before x ms b) k)
  where
    known : (d : LockDecl) → x.lock ≡ Some d → is_size d.size.value ≡ true
    known d e =
        let wrong = (or_parts (not (is_width x.width.value && is_depth x.depth.value))
        (Parts.is_some_and (Limits.is_wrong_lock x) x.lock)
        (rules Z7 before (Memory x) (map Memory ms ++ b.0) b.1)).1 in
        let h =
        (or_parts (Flat.is_advisory x.kind) (not (is_size d.size.value && allows_lock x.depth.value (Flat.is_delayed x.kind) d.kind d.size.value))
        (sym (ap (Parts.is_some_and (Limits.is_wrong_lock x)) e) ∙ wrong)).1 in
        (and_parts (is_size d.size.value) _ (not-false _ h)).0

    at : (c : Bool)
        → k ≤ most (cond c (declared_size x.lock) (lock_size ms m))
        → (k ≤ most (lock_size ms m) → has_room (slice_index_or (mems_of ms) (mem_of ms m) plain_mem).lock k 0 ≡ true)
        → has_room (slice_index_or (mems_of (x ∷ ms)) (cond c 0 (suc (mem_of ms m))) plain_mem).lock k 0 ≡ true
    at true l f = room_lock x.lock known k l
    at false l f = f l

-- an advisory memory has no lock
pub advisory_unlocked : (p : Pipe)
    → KeepsRules p → (ms : List Mem) (before : List Place) (m : List ℕ) → After p before ms → is_advisory_mem ms m ≡ true
    → is_locked ms m ≡ false
advisory_unlocked p rules [] before m b h = refl
advisory_unlocked p rules (x ∷ ms) before m b h =
    at (bytes_eq x.name.name m) h (advisory_unlocked p rules ms (before ++ Memory x ∷ []) m (after_next p before x ms b))
  where
    wrong : Parts.is_some_and (Limits.is_wrong_lock x) x.lock ≡ false
    wrong =
        (or_parts (not (is_width x.width.value && is_depth x.depth.value)) (Parts.is_some_and (Limits.is_wrong_lock x) x.lock)
        (rules Z7 before (Memory x) (map Memory ms ++ b.0) b.1)).1

    none : (l : Option LockDecl) → Parts.is_some_and (Limits.is_wrong_lock x) l ≡ false → Flat.is_advisory x.kind ≡ true → is_some l ≡ false
    none None w a = refl
    none (Some d) w a =
        absurd
        (false≢true (sym (or_parts (Flat.is_advisory x.kind)
        (not (is_size d.size.value && allows_lock x.depth.value (Flat.is_delayed x.kind) d.kind d.size.value)) w).0 ∙ a))

    at : (c : Bool)
        → cond c (Flat.is_advisory x.kind) (is_advisory_mem ms m) ≡ true → (is_advisory_mem ms m ≡ true → is_locked ms m ≡ false)
        → cond c (is_some x.lock) (is_locked ms m) ≡ false
    at true a f = none x.lock wrong a
    at false a f = f a

-- STAGES

-- the list of the first stages of a kind of statement has one entry for each memory
pub stages_length : (test : ℕ → Flat.Op → Bool) (xs : List Flat.Stmt) (j : ℕ) (ms : List Mem)
    → length (first_stages test xs j ms) ≡ length ms
stages_length test xs j [] = refl
stages_length test xs j (m ∷ ms) = ap suc (stages_length test xs (suc j) ms)

-- the i-th of the first stages is that of the first statement of this kind on memory i
pub stage_at : (test : ℕ → Flat.Op → Bool) (xs : List Flat.Stmt) (i : ℕ) (ms : List Mem)
    → i < length ms → slice_index_or (first_stages test xs 0 ms) i None ≡ first_stage (test i) xs
stage_at test xs i ms low = first_index test xs 0 i ms low ∙ ap (λ n. first_stage (test n) xs) (let e : 0 + i ≡ i = omega arith in e)

-- a kind of which there is no statement has no first stage
pub first_none : (test : Flat.Op → Bool) (xs : List Flat.Stmt) → none_of test xs ≡ true → first_stage test xs ≡ None
first_none test [] h = refl
first_none test (x ∷ xs) h =
    at (test x.op) (and_parts (not (test x.op)) (none_of test xs) h).0 (first_none test xs (and_parts (not (test x.op)) (none_of test xs) h).1)
  where
    at : (b : Bool) → not b ≡ true → first_stage test xs ≡ None → (if b then Some x.stage else first_stage test xs) ≡ None
    at true e i = absurd (false≢true e)
    at false e i = i
