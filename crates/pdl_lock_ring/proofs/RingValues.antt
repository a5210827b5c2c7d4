-- What slots hold after reservations, writes, releases and a squash: values alone.
use Rattle.std.proofs.Common.{◌≡◌, ◌≢◌, ℕ, ◌+◌, ◌-◌, ◌%◌, ◌<◌, ◌≤◌, List, [], ◌∷◌, ◌++◌, length, set, take, drop, refl, sym, ap, ap₂, ◌∙◌, subst, arith, append_assoc, ⊎_elim, length-append, length-drop, length-take, length-set, ne_eqb, get_or-take, get_or-set_same, get_or-set_other}
use Rattle.std.specs.Prelude.{◌==◌, if◌then◌else◌, Bool, true, false, Some, is_some}
use Rattle.std.proofs.lemmas.Bool.{cases_eq, cases_Bool}
use Rattle.std.proofs.lemmas.List.{append-nil, get_or_append_left, get_or_push, get_or-drop}
use Rattle.std.proofs.lemmas.Nat.{mod_below}
use Rattle.pdl_word.specs.Words as words
use Rattle.pdl_word.specs.Words.{bit}
use Rattle.pdl_lockapi.specs.Lock.{Entry, WriteAct, entry_at, no_entry, fresh, with_entry_value, with_reserves, with_write, with_writes}
use Rattle.pdl_lock_ring.specs.Slots.{Holds}
use Rattle.pdl_lock_ring.proofs.SlotNumbers.{apart}

-- a choice by a number that is 1 gives the first
pub if_one : {A : Type 0} (c : ℕ) (x y : A) → c ≡ 1 → (if c == 1 then x else y) ≡ x
if_one c x y e = rw e refl

-- a choice by a number that is not 1 gives the second
pub if_other : {A : Type 0} (c : ℕ) (x y : A) → c ≢ 1 → (if c == 1 then x else y) ≡ y
if_other c x y n = ap (λ (t : Bool). if t then x else y) (ne_eqb _ _ n)

-- a choice by a number that is 0 gives the second
pub if_zero : {A : Type 0} (c : ℕ) (x y : A) → c ≡ 0 → (if c == 1 then x else y) ≡ y
if_zero c x y e = rw e refl

-- a net that holds a bit, as a test
pub test_bit : (v : ℕ) (t : Bool) → v ≡ bit t → (v == 1) ≡ t
test_bit v true e = rw e refl
test_bit v false e = rw e refl

-- a choice by a test that passes gives the first
pub if_true : {A : Type 0} (t : Bool) (x y : A) → t ≡ true → (if t then x else y) ≡ x
if_true t x y e = rw e refl

-- a choice by a test that fails gives the second
pub if_false : {A : Type 0} (t : Bool) (x y : A) → t ≡ false → (if t then x else y) ≡ y
if_false t x y e = rw e refl

-- a mux by 1 gives its first word
pub mux_one : (c x y : ℕ) → c ≡ 1 → words.mux c x y ≡ x
unfolding words.mux
mux_one c x y e = rw e refl

-- a mux by 0 gives its second word
pub mux_zero : (c x y : ℕ) → c ≡ 0 → words.mux c x y ≡ y
unfolding words.mux
mux_zero c x y e = rw e refl

-- the test for equality gives 1 for equal numbers
pub eq_one : (i k : ℕ) → i ≡ k → words.equal i k ≡ 1
unfolding words.equal
eq_one i k e = grind arith

-- the test for equality gives 0 for different numbers
pub eq_none : (i k : ℕ) → i ≢ k → words.equal i k ≡ 0
unfolding words.equal
eq_none i k n = ap (λ (t : Bool). if t then 1 else 0) (ne_eqb _ _ n)

-- slots hold the same pending writes by other functions that agree on the slots
pub holds_same : (n base : ℕ) (A H X A' H' X' : ℕ → ℕ) (xs : List Entry)
    → 1 ≤ n → ((k : ℕ) → k < n → A' k ≡ A k) → ((k : ℕ) → k < n → H' k ≡ H k) → ((k : ℕ) → k < n → X' k ≡ X k)
    → Holds n base A H X xs → Holds n base A' H' X' xs
holds_same n base A H X A' H' X' xs some a f x h = record {
  room = h.room;
  has_addr = λ i l. a ((base + i) % n) (mod_below (base + i) n some) ∙ h.has_addr i l;
  is_full = λ i l. f ((base + i) % n) (mod_below (base + i) n some) ∙ h.is_full i l;
  has_value = λ i v l e. x ((base + i) % n) (mod_below (base + i) n some) ∙ h.has_value i v l e;
}

-- where slots and pending writes are the same but for one of each, and that slot holds that write
pub record IsChanged (n base j : ℕ) (A H X A' H' X' : ℕ → ℕ) (xs ys : List Entry) : Type 0 where
  pub within : j < length ys
  pub room : length ys ≤ n
  pub other : (i : ℕ) → i < length ys → i ≢ j → (i < length xs) × (entry_at ys i ≡ entry_at xs i)
  pub addrs : (k : ℕ) → k ≢ (base + j) % n → A' k ≡ A k
  pub bits : (k : ℕ) → k ≢ (base + j) % n → H' k ≡ H k
  pub values : (k : ℕ) → k ≢ (base + j) % n → X' k ≡ X k
  pub addr : A' ((base + j) % n) ≡ (entry_at ys j).addr
  pub full : H' ((base + j) % n) ≡ bit (is_some (entry_at ys j).value)
  pub value : (v : ℕ) → (entry_at ys j).value ≡ Some v → X' ((base + j) % n) ≡ v

changed_holds : (n base j : ℕ) (A H X A' H' X' : ℕ → ℕ) (xs ys : List Entry) → IsChanged n base j A H X A' H' X' xs ys
    → Holds n base A H X xs → Holds n base A' H' X' ys
changed_holds n base j A H X A' H' X' xs ys c h =
    let there =
    λ (i : ℕ) (l : i < length ys) (q : i ≢ j)
    (e : (base + i) % n ≡ (base + j) % n). q (apart n base i j (omega (arith, l, c.room)) (omega (arith, c.within, c.room)) e) in
    record {
      room = c.room;
      has_addr = λ i l. ⊎_elim
          (λ (q : i ≡ j). ap (λ k. A' ((base + k) % n)) q ∙ c.addr ∙ ap (λ k. (entry_at ys k).addr) (sym q))
          (λ (q : i ≢ j). c.addrs ((base + i) % n) (there i l q) ∙ h.has_addr i (c.other i l q).0 ∙ ap (λ (e : Entry). e.addr) (sym (c.other i l q).1))
          (cases_eq i j);
      is_full = λ i l. ⊎_elim
          (λ (q : i ≡ j). ap (λ k. H' ((base + k) % n)) q ∙ c.full ∙ ap (λ k. bit (is_some (entry_at ys k).value)) (sym q))
          (λ (q : i ≢ j). c.bits ((base + i) % n) (there i l q) ∙ h.is_full i (c.other i l q).0
          ∙ ap (λ (e : Entry). bit (is_some e.value)) (sym (c.other i l q).1))
          (cases_eq i j);
      has_value = λ i v l f. ⊎_elim
          (λ (q : i ≡ j). ap (λ k. X' ((base + k) % n)) q ∙ c.value v (ap (λ k. (entry_at ys k).value) (sym q) ∙ f))
          (λ (q : i ≢ j). c.values ((base + i) % n) (there i l q) ∙ h.has_value i v (c.other i l q).0 (ap (λ (e : Entry). e.value) (sym (c.other i l q).1) ∙ f))
          (cases_eq i j);
    }

-- a slot that is given to a new pending write
one_more : (n base t a : ℕ) (A H X : ℕ → ℕ) (xs : List Entry) → length xs + 1 ≤ n → t ≡ (base + length xs) % n → Holds n base A H X xs
    → Holds n base (λ k. words.mux (words.equal t k) a (A k)) (λ k. words.mux (words.equal t k) 0 (H k)) X (xs ++ fresh a ∷ [])
one_more n base t a A H X xs room e h =
    let j = length xs in
    let len : length (xs ++ fresh a ∷ []) ≡ j + 1 = length-append xs (fresh a ∷ []) in
    let last : entry_at (xs ++ fresh a ∷ []) j ≡ fresh a = get_or_push xs (fresh a) no_entry j refl in
    let off = λ (k : ℕ) (q : k ≢ (base + j) % n). eq_none t k (λ z. q (sym z ∙ e)) in
    changed_holds n base j A H X (λ k. words.mux (words.equal t k) a (A k)) (λ k. words.mux (words.equal t k) 0 (H k)) X xs (xs ++ fresh a ∷ [])
    (record {
      within = omega (arith, len);
      room = omega (arith, len, room);
      other = λ i l q. let lt : i < j = omega (arith, l, len, q) in (lt, get_or_append_left xs (fresh a ∷ []) no_entry i lt);
      addrs = λ k q. mux_zero (words.equal t k) a (A k) (off k q);
      bits = λ k q. mux_zero (words.equal t k) 0 (H k) (off k q);
      values = λ k q. refl;
      addr = mux_one (words.equal t ((base + j) % n)) a (A ((base + j) % n)) (eq_one t ((base + j) % n) e) ∙ ap (λ (x : Entry). x.addr) (sym last);
      full =
          mux_one (words.equal t ((base + j) % n)) 0 (H ((base + j) % n)) (eq_one t ((base + j) % n) e) ∙ ap (λ (x : Entry). bit (is_some x.value)) (sym last);
      value = λ v f. let g : (fresh a).value ≡ Some v = ap (λ (x : Entry). x.value) (sym last) ∙ f in absurd (cc g);
    }) h

-- no slot is
none_more : (n base t a : ℕ) (A H X : ℕ → ℕ) (xs : List Entry) → 1 ≤ n → t ≡ n → Holds n base A H X xs
    → Holds n base (λ k. words.mux (words.equal t k) a (A k)) (λ k. words.mux (words.equal t k) 0 (H k)) X xs
none_more n base t a A H X xs some e h =
    let off = λ (k : ℕ) (l : k < n). eq_none t k (λ z. omega (arith, z, e, l)) in
    holds_same n base A H X (λ k. words.mux (words.equal t k) a (A k)) (λ k. words.mux (words.equal t k) 0 (H k)) X xs some
    (λ k l. mux_zero (words.equal t k) a (A k) (off k l)) (λ k l. mux_zero (words.equal t k) 0 (H k) (off k l)) (λ k l. refl) h

-- the slots and the addresses that the reservations of a cycle are given, after so many entries; where there is none, no slot's number
abbrev pub AreGiven : ℕ → ℕ → List ℕ → ℕ → ℕ → ℕ → ℕ → Type 0
AreGiven n next [] t1 t2 a1 a2 = (t1 ≡ n) × (t2 ≡ n)
AreGiven n next (y ∷ []) t1 t2 a1 a2 = (t1 ≡ next % n) × (t2 ≡ n) × (a1 ≡ y)
AreGiven n next (y ∷ z ∷ ys) t1 t2 a1 a2 = (t1 ≡ next % n) × (t2 ≡ (next + 1) % n) × (a1 ≡ y) × (a2 ≡ z)

-- slots that were given to at most two reservations hold the pending writes with these appended
pub append_holds : (n base : ℕ) (A H X : ℕ → ℕ) (xs : List Entry) (ys : List ℕ) (t1 t2 a1 a2 : ℕ)
    → 1 ≤ n → length ys ≤ 2 → length xs + length ys ≤ n → AreGiven n (base + length xs) ys t1 t2 a1 a2
    → Holds n base A H X xs
    → Holds n base (λ k. words.mux (words.equal t2 k) a2 (words.mux (words.equal t1 k) a1 (A k)))
    (λ k. words.mux (words.equal t2 k) 0 (words.mux (words.equal t1 k) 0 (H k))) X (with_reserves ys xs)
append_holds n base A H X xs [] t1 t2 a1 a2 some two room g h =
    let P : List Entry → Type 0 =
    λ l. Holds n base (λ k. words.mux (words.equal t2 k) a2 (words.mux (words.equal t1 k) a1 (A k)))
    (λ k. words.mux (words.equal t2 k) 0 (words.mux (words.equal t1 k) 0 (H k))) X l in
    subst P (sym (append-nil xs))
    (none_more n base t2 a2 (λ k. words.mux (words.equal t1 k) a1 (A k))
    (λ k. words.mux (words.equal t1 k) 0 (H k)) X xs some g.1 (none_more n base t1 a1 A H X xs some g.0 h))
append_holds n base A H X xs (y ∷ []) t1 t2 a1 a2 some two room g h =
    let P : ℕ → Type 0 =
    λ a. Holds n base (λ k. words.mux (words.equal t2 k) a2 (words.mux (words.equal t1 k) a1 (A k)))
    (λ k. words.mux (words.equal t2 k) 0 (words.mux (words.equal t1 k) 0 (H k))) X (xs ++ fresh a ∷ []) in
    subst P g.2
    (none_more n base t2 a2 (λ k. words.mux (words.equal t1 k) a1 (A k))
    (λ k. words.mux (words.equal t1 k) 0 (H k)) X (xs ++ fresh a1 ∷ []) some g.1 (one_more n base t1 a1 A H X xs (omega (arith, room)) g.0 h))
append_holds n base A H X xs (y ∷ z ∷ []) t1 t2 a1 a2 some two room g h =
    let zs = xs ++ fresh a1 ∷ [] in
    let len : length zs ≡ length xs + 1 = length-append xs (fresh a1 ∷ []) in
    let at : t2 ≡ (base + length zs) % n = g.1 ∙ ap (λ m. m % n) (omega (arith, len)) in
    let both : zs ++ fresh a2 ∷ [] ≡ xs ++ fresh y ∷ fresh z ∷ [] =
    append_assoc xs (fresh a1 ∷ []) (fresh a2 ∷ []) ∙ ap₂ (λ u v. xs ++ fresh u ∷ fresh v ∷ []) g.2 g.3 in
    let P : List Entry → Type 0 =
    λ l. Holds n base (λ k. words.mux (words.equal t2 k) a2 (words.mux (words.equal t1 k) a1 (A k)))
    (λ k. words.mux (words.equal t2 k) 0 (words.mux (words.equal t1 k) 0 (H k))) X l in
    subst P both
    (one_more n base t2 a2 (λ k. words.mux (words.equal t1 k) a1 (A k))
    (λ k. words.mux (words.equal t1 k) 0 (H k)) X zs (omega (arith, len, room)) at (one_more n base t1 a1 A H X xs (omega (arith, room)) g.0 h))
append_holds n base A H X xs (y ∷ z ∷ z' ∷ ys) t1 t2 a1 a2 some two room g h = absurd (omega (arith, two))

-- a write of entry j
set_holds : (n base j w : ℕ) (A H X E : ℕ → ℕ) (xs : List Entry)
    → j < length xs → ((k : ℕ) → E k ≡ words.equal ((base + j) % n) k) → Holds n base A H X xs
    → Holds n base A (λ k. words.mux (E k) 1 (H k)) (λ k. words.mux (E k) w (X k)) (set xs j (with_entry_value (entry_at xs j) w))
set_holds n base j w A H X E xs l e h =
    let g = with_entry_value (entry_at xs j) w in
    let s = (base + j) % n in
    let len : length (set xs j g) ≡ length xs = length-set xs j g in
    let here : entry_at (set xs j g) j ≡ g = get_or-set_same xs j g no_entry l in
    let on : E s ≡ 1 = e s ∙ eq_one s s refl in
    let off = λ (k : ℕ) (q : k ≢ s). e k ∙ eq_none s k (λ z. q (sym z)) in
    changed_holds n base j A H X A (λ k. words.mux (E k) 1 (H k)) (λ k. words.mux (E k) w (X k)) xs (set xs j g)
    (record {
      within = omega (arith, len, l);
      room = omega (arith, len, h.room);
      other = λ i m q. (omega (arith, len, m), get_or-set_other xs j i g no_entry q);
      addrs = λ k q. refl;
      bits = λ k q. mux_zero (E k) 1 (H k) (off k q);
      values = λ k q. mux_zero (E k) w (X k) (off k q);
      addr = h.has_addr j l ∙ ap (λ (x : Entry). x.addr) (sym here);
      full = mux_one (E s) 1 (H s) on ∙ ap (λ (x : Entry). bit (is_some x.value)) (sym here);
      value = λ v f. let z : Some w ≡ Some v = ap (λ (x : Entry). x.value) (sym here) ∙ f in mux_one (E s) w (X s) on ∙ (cc z);
    }) h

none_holds : (n base w : ℕ) (A H X E : ℕ → ℕ) (xs : List Entry)
    → 1 ≤ n → ((k : ℕ) → k < n → E k ≡ 0) → Holds n base A H X xs
    → Holds n base A (λ k. words.mux (E k) 1 (H k)) (λ k. words.mux (E k) w (X k)) xs
none_holds n base w A H X E xs some e h =
    holds_same n base A H X A (λ k. words.mux (E k) 1 (H k)) (λ k. words.mux (E k) w (X k)) xs some (λ k l. refl)
    (λ k l. mux_zero (E k) 1 (H k) (e k l)) (λ k l. mux_zero (E k) w (X k) (e k l)) h

-- slots hold the pending writes after a write port, where the slot of its ticket is filled if it is on
pub put_holds : (n base : ℕ) (w : WriteAct) (A H X E : ℕ → ℕ) (xs : List Entry)
    → 1 ≤ n → (w.on ≡ true → base ≤ w.ticket) → (w.on ≡ true → w.ticket - base < length xs)
    → ((k : ℕ) → w.on ≡ true → E k ≡ words.equal (w.ticket % n) k) → ((k : ℕ) → k < n → w.on ≡ false → E k ≡ 0)
    → Holds n base A H X xs
    → Holds n base A (λ k. words.mux (E k) 1 (H k)) (λ k. words.mux (E k) w.value (X k)) (with_write base w xs)
put_holds n base w A H X E xs some low i y z h =
    let P : List Entry → Type 0 = λ l. Holds n base A (λ k. words.mux (E k) 1 (H k)) (λ k. words.mux (E k) w.value (X k)) l in
    ⊎_elim
    (λ (o : w.on ≡ true).
    let e : w.ticket ≡ base + (w.ticket - base) = omega (arith, low o) in
    subst P (sym (if_true w.on _ xs o)) (set_holds n base (w.ticket - base) w.value A H X E xs (i o) (λ k. y k o ∙ ap (λ t. words.equal (t % n) k) e) h))
    (λ (o : w.on ≡ false). subst P (sym (if_false w.on _ xs o)) (none_holds n base w.value A H X E xs some (λ k l. z k l o) h))
    (cases_Bool w.on)

-- one write port more does its write after those before it
pub written-push : (base : ℕ) (ws : List WriteAct) (w : WriteAct) (xs : List Entry)
    → with_writes base (ws ++ w ∷ []) xs ≡ with_write base w (with_writes base ws xs)
written-push base [] w xs = refl
written-push base (v ∷ ws) w xs = written-push base ws w (with_write base v xs)

length-put : (base : ℕ) (w : WriteAct) (xs : List Entry) → length (with_write base w xs) ≡ length xs
length-put base w xs = ⊎_elim
    (λ (o : w.on ≡ true). ap length (if_true w.on (set xs (w.ticket - base) (with_entry_value (entry_at xs (w.ticket - base)) w.value)) xs o)
    ∙ length-set xs (w.ticket - base) _)
    (λ (o : w.on ≡ false). ap length (if_false w.on (set xs (w.ticket - base) (with_entry_value (entry_at xs (w.ticket - base)) w.value)) xs o))
    (cases_Bool w.on)

-- write ports leave as many pending writes as there were
pub length-written : (base : ℕ) (ws : List WriteAct) (xs : List Entry) → length (with_writes base ws xs) ≡ length xs
length-written base [] xs = refl
length-written base (w ∷ ws) xs = length-written base ws (with_write base w xs) ∙ length-put base w xs

-- the oldest ones taken out: no slot changes
pub drop_holds : (n base d : ℕ) (A H X : ℕ → ℕ) (xs : List Entry) → Holds n base A H X xs → Holds n (base + d) A H X (drop d xs)
drop_holds n base d A H X xs h =
    let len = length-drop d xs in
    let at = λ (i : ℕ). let z : entry_at (drop d xs) i ≡ entry_at xs (d + i) = get_or-drop d xs i no_entry in z in
    let slot = λ (i : ℕ). let z : (base + d + i) % n ≡ (base + (d + i)) % n = ap (λ m. m % n) (omega arith) in z in
    record {
      room = omega (arith, len, h.room);
      has_addr = λ i l. ap A (slot i) ∙ h.has_addr (d + i) (omega (arith, len, l)) ∙ ap (λ (e : Entry). e.addr) (sym (at i));
      is_full = λ i l. ap H (slot i) ∙ h.is_full (d + i) (omega (arith, len, l)) ∙ ap (λ (e : Entry). bit (is_some e.value)) (sym (at i));
      has_value = λ i v l f. ap X (slot i) ∙ h.has_value (d + i) v (omega (arith, len, l)) (ap (λ (e : Entry). e.value) (sym (at i)) ∙ f);
    }

-- the ones from d on dropped
pub take_holds : (n base d : ℕ) (A H X : ℕ → ℕ) (xs : List Entry) → Holds n base A H X xs → Holds n base A H X (take d xs)
take_holds n base d A H X xs h =
    let len = length-take d xs in
    let at = λ (i : ℕ) (l : i < d). get_or-take d xs i no_entry l in
    record {
      room = omega (arith, len, h.room);
      has_addr = λ i l. h.has_addr i (omega (arith, len, l)) ∙ ap (λ (e : Entry). e.addr) (sym (at i (omega (arith, len, l))));
      is_full = λ i l. h.is_full i (omega (arith, len, l)) ∙ ap (λ (e : Entry). bit (is_some e.value)) (sym (at i (omega (arith, len, l))));
      has_value = λ i v l f. h.has_value i v (omega (arith, len, l)) (ap (λ (e : Entry). e.value) (sym (at i (omega (arith, len, l)))) ∙ f);
    }

-- values that are the same in the slots of pending writes
pub values_same : (n base : ℕ) (A H X X' : ℕ → ℕ) (xs : List Entry)
    → ((i : ℕ) → i < length xs → X' ((base + i) % n) ≡ X ((base + i) % n)) → Holds n base A H X xs
    → Holds n base A H X' xs
values_same n base A H X X' xs x h = record {
  room = h.room;
  has_addr = h.has_addr;
  is_full = h.is_full;
  has_value = λ i v l f. x i l ∙ h.has_value i v l f;
}
