-- The addresses of pending writes stay below the depth.
use Rattle.std.proofs.Common.{append_assoc, ◌≡◌, ◌≢◌, ℕ, suc, ◌+◌, ◌-◌, ◌<◌, ◌≤◌, List, [], ◌∷◌, ◌++◌, length, set, take, drop, sym, ap, ◌∙◌, subst, arith, ⊎_elim, length-append, length-drop, length-take, length-set, get_or-take, get_or-set_same, get_or-set_other}
use Rattle.std.specs.Prelude.{if◌then◌else◌, Bool, true, false}
use Rattle.std.proofs.lemmas.Bool.{cases_lt, cases_eq}
use Rattle.std.proofs.lemmas.List.{append-nil, get_or_append_left, get_or_push, get_or-drop}
use Rattle.pdl_net.specs.Circuit.{State}
use Rattle.pdl_lockapi.specs.Lock.{Entry, LockState, LockAct, WriteAct, entry_at, no_entry, fresh, with_entry_value, with_reserves, with_write, with_writes, filled_entries, after_release, step, next_base}
use Rattle.pdl_lockapi.specs.Laws.{ReserveSignal, reserve_at, asked_addresses}
use Rattle.pdl_lock_ring.proofs.RingValues.{if_one, if_other}
use Rattle.pdl_rename.specs.Places.{AreBelow}

-- each of a list of addresses is below a number
abbrev pub AllBelow : ℕ → List ℕ → Type 0
AllBelow d [] = Unit {0}
AllBelow d (y ∷ ys) = (y < d) × AllBelow d ys

-- the addresses of enabled reservations are below a number, where each enabled port has one below it
pub asked_below : (s : State) (d : ℕ) (fs : List ReserveSignal)
    → ((k : ℕ) → k < length fs → (reserve_at fs k).enable.value s ≡ 1 → (reserve_at fs k).addr.value s < d)
    → AllBelow d (asked_addresses s fs)
asked_below s d [] h = tt
asked_below s d (f ∷ fs) h =
    let rest = asked_below s d fs (λ k l e. h (suc k) (omega arith) e) in
    ⊎_elim
    (λ (e : f.enable.value s ≡ 1). subst (AllBelow d)
    (sym (if_one (f.enable.value s) (f.addr.value s ∷ asked_addresses s fs) (asked_addresses s fs) e))
    (h 0 (omega arith) e, rest))
    (λ (e : f.enable.value s ≢ 1). subst (AllBelow d) (sym (if_other (f.enable.value s) (f.addr.value s ∷ asked_addresses s fs) (asked_addresses s fs) e)) rest)
    (cases_eq (f.enable.value s) 1)

-- where no write is pending, each pending write's address is below the depth
pub none_below : (d : ℕ) → AreBelow d []
none_below d k h = absurd (omega arith)

push_below : (d a : ℕ) (xs : List Entry) → a < d → AreBelow d xs → AreBelow d (xs ++ fresh a ∷ [])
push_below d a xs h b k l =
    let len = length-append xs (fresh a ∷ []) in
    ⊎_elim
    (λ (i : k < length xs). let q = ap (λ (e : Entry). e.addr) (get_or_append_left xs (fresh a ∷ []) no_entry k i) in omega (arith, q, b k i))
    (λ (i : length xs ≤ k). let e : length xs ≡ k = omega (arith, len) in
    let q = ap (λ (e : Entry). e.addr) (get_or_push xs (fresh a) no_entry k e) in omega (arith, q))
    (cases_lt k (length xs))

appended_below : (d : ℕ) (ys : List ℕ) (xs : List Entry) → length ys ≤ 2 → AllBelow d ys → AreBelow d xs → AreBelow d (with_reserves ys xs)
appended_below d [] xs two h b = subst (AreBelow d) (sym (append-nil xs)) b
appended_below d (y ∷ []) xs two h b = push_below d y xs h.0 b
appended_below d (y ∷ z ∷ []) xs two h b =
    subst (AreBelow d) (append_assoc xs (fresh y ∷ []) (fresh z ∷ [])) (push_below d z (xs ++ fresh y ∷ []) h.1.0 (push_below d y xs h.0 b))
appended_below d (y ∷ z ∷ z' ∷ ys) xs two h b = absurd (omega (arith, two))

set_below : (d i v : ℕ) (xs : List Entry) → AreBelow d xs → AreBelow d (set xs i (with_entry_value (entry_at xs i) v))
set_below d i v xs b k l =
    let g = with_entry_value (entry_at xs i) v in
    let len = length-set xs i g in
    let lt : k < length xs = omega (arith, len) in
    ⊎_elim
    (λ (e : k ≡ i).
    let q : entry_at (set xs i g) k ≡ g = ap (entry_at (set xs i g)) e ∙ get_or-set_same xs i g no_entry (omega arith) in
    let r = ap (λ (e : Entry). e.addr) q in
    let u : (entry_at xs k).addr ≡ (entry_at xs i).addr = ap (λ j. (entry_at xs j).addr) e in
    omega (arith, r, u, b k lt))
    (λ (e : k ≢ i). let q = ap (λ (e : Entry). e.addr) (get_or-set_other xs i k g no_entry e) in omega (arith, q, b k lt))
    (cases_eq k i)

put_below : (d base : ℕ) (w : WriteAct) (xs : List Entry) → AreBelow d xs → AreBelow d (with_write base w xs)
put_below d base w xs b =
    let e = set_below d (w.ticket - base) w.value xs b in
    elim w.on as (λ t. AreBelow d (if t then set xs (w.ticket - base) (with_entry_value (entry_at xs (w.ticket - base)) w.value) else xs))
    [ true ↦ e | false ↦ b ]

written_below : (d base : ℕ) (ws : List WriteAct) (xs : List Entry) → AreBelow d xs → AreBelow d (with_writes base ws xs)
written_below d base [] xs b = b
written_below d base (w ∷ ws) xs b = written_below d base ws (with_write base w xs) (put_below d base w xs b)

-- reservations below the depth, at most two, and writes leave the pending writes below it
pub filled_below : (d : ℕ) (x : LockState) (a : LockAct)
    → length a.reserves ≤ 2 → AllBelow d a.reserves → AreBelow d x.entries → AreBelow d (filled_entries x a)
filled_below d x a one h b = written_below d x.base a.writes (with_reserves a.reserves x.entries) (appended_below d a.reserves x.entries one h b)

drop_below : (d n : ℕ) (xs : List Entry) → AreBelow d xs → AreBelow d (drop n xs)
drop_below d n xs b k l =
    let q = ap (λ (e : Entry). e.addr) (get_or-drop n xs k no_entry) in
    let len = length-drop n xs in
    let r = b (n + k) (omega (arith, len, l)) in
    omega (arith, q, r)

take_below : (d n : ℕ) (xs : List Entry) → AreBelow d xs → AreBelow d (take n xs)
take_below d n xs b k l =
    let len = length-take n xs in
    let q = ap (λ (e : Entry). e.addr) (get_or-take n xs k no_entry (omega (arith, len))) in
    omega (arith, q, b k (omega (arith, len)))

left_below : (d : ℕ) (t u : Bool) (xs : List Entry) → AreBelow d xs → AreBelow d (if u then drop 2 xs else if t then drop 1 xs else xs)
left_below d t true xs b = drop_below d 2 xs b
left_below d true false xs b = drop_below d 1 xs b
left_below d false false xs b = b

-- the pending writes after a cycle are below the depth, if they are after its reservations and writes
pub step_below : (d : ℕ) (x : LockState) (a : LockAct) → AreBelow d (filled_entries x a) → AreBelow d (step x a).entries
step_below d x a b =
    let c : AreBelow d (after_release a (filled_entries x a)) = left_below d a.release a.release2 (filled_entries x a) b in
    let taken = take_below d (a.tail - next_base x a) (after_release a (filled_entries x a)) c in
    elim a.squash as
    (λ t. AreBelow d (if t then take (a.tail - next_base x a) (after_release a (filled_entries x a)) else after_release a (filled_entries x a)))
    [ true ↦ taken | false ↦ c ]
