-- Places and the array: what a cycle's writes leave in it, and how places are exchanged at a release.
use Rattle.std.proofs.Common.{◌≡◌, ◌≢◌, ℕ, ◌+◌, ◌%◌, ◌<◌, List, [], ◌∷◌, ◌++◌, length, set, get_or, refl, sym, ap, ◌∙◌, arith, ⊎_elim, length-set, get_or-set_same, get_or-set_other}
use Rattle.std.specs.Prelude.{◌==◌, if◌then◌else◌, Bool, true, false}
use Rattle.std.proofs.lemmas.Bool.{cases_eq}
use Rattle.pdl_word.specs.Words as words
use Rattle.pdl_word.specs.Words.{bit}
use Rattle.pdl_net.specs.Circuit.{State}
use Rattle.pdl_net.specs.Meaning.{WriteSignal}
use Rattle.pdl_lockapi.specs.Laws.{after_writes}
use Rattle.pdl_lock_ring.proofs.SlotNumbers.{apart}
use Rattle.pdl_lock_ring.proofs.RingValues.{if_one, if_other, eq_one, eq_none}
use Rattle.pdl_rename.specs.Places.{AreApart}

-- after one write more an array has its value at its address, where the write is enabled
pub writes-push : (s : State) (ps : List WriteSignal) (p : WriteSignal) (xs : List ℕ)
    → after_writes s (ps ++ p ∷ []) xs
    ≡ (if p.enable.value s == 1 then set (after_writes s ps xs) (p.addr.value s) (p.value.value s) else after_writes s ps xs)
writes-push s [] p xs = refl
writes-push s (q ∷ ps) p xs = writes-push s ps p (if q.enable.value s == 1 then set xs (q.addr.value s) (q.value.value s) else xs)

-- the array has as many words after writes as before
pub length-writes : (s : State) (ps : List WriteSignal) (xs : List ℕ) → length (after_writes s ps xs) ≡ length xs
length-writes s [] xs = refl
length-writes s (p ∷ ps) xs = length-writes s ps (if p.enable.value s == 1 then set xs (p.addr.value s) (p.value.value s) else xs) ∙ ⊎_elim
    (λ (e : p.enable.value s ≡ 1). ap length (if_one (p.enable.value s) (set xs (p.addr.value s) (p.value.value s)) xs e)
    ∙ length-set xs (p.addr.value s) (p.value.value s))
    (λ (e : p.enable.value s ≢ 1). ap length (if_other (p.enable.value s) (set xs (p.addr.value s) (p.value.value s)) xs e))
    (cases_eq (p.enable.value s) 1)

-- the word at a place after one write
pub written_here : (xs : List ℕ) (i k v : ℕ) → i ≡ k → k < length xs → get_or (set xs i v) k 0 ≡ v
written_here xs i k v e h = ap (λ n. get_or (set xs n v) k 0) e ∙ get_or-set_same xs k v 0 h

-- a write leaves the words at other places as they were
pub written_there : (xs : List ℕ) (i k v : ℕ) → k ≢ i → get_or (set xs i v) k 0 ≡ get_or xs k 0
written_there xs i k v n = get_or-set_other xs i k v 0 n

-- a release exchanges the place of slot k with that of the word at an address
pub record AreExchanged (d n at k : ℕ) (word slot word' slot' : ℕ → ℕ) : Type 0 where
  pub here : word' at ≡ slot k
  pub there : (a : ℕ) → a < d → a ≢ at → word' a ≡ word a
  pub freed : slot' k ≡ word at
  pub other : (j : ℕ) → j < n → j ≢ k → slot' j ≡ slot j

-- the places stay within the array and different
pub exchanged_apart : (d n at k : ℕ) (word slot word' slot' : ℕ → ℕ)
    → k < n → at < d → AreExchanged d n at k word slot word' slot' → AreApart d n word slot → AreApart d n word' slot'
exchanged_apart d n at k word slot word' slot' some lt w p =
    let first = λ (a : ℕ) (e : a ≡ at). let q : word' a ≡ slot k = ap word' e ∙ w.here in q in
    let last = λ (j : ℕ) (e : j ≡ k). let q : slot' j ≡ word at = ap slot' e ∙ w.freed in q in
    record {
      words_in = λ a h. ⊎_elim
          (λ (e : a ≡ at). omega (arith, first a e, p.slots_in k some))
          (λ (e : a ≢ at). omega (arith, w.there a h e, p.words_in a h))
          (cases_eq a at);
      slots_in = λ j h. ⊎_elim
          (λ (e : j ≡ k). omega (arith, last j e, p.words_in at lt))
          (λ (e : j ≢ k). omega (arith, w.other j h e, p.slots_in j h))
          (cases_eq j k);
      words_apart = λ a b h i e. ⊎_elim
          (λ (x : a ≡ at). ⊎_elim
          (λ (y : b ≡ at). x ∙ sym y)
          (λ (y : b ≢ at). absurd (p.apart b k i some (sym (w.there b i y) ∙ sym e ∙ first a x)))
          (cases_eq b at))
          (λ (x : a ≢ at). ⊎_elim
          (λ (y : b ≡ at). absurd (p.apart a k h some (sym (w.there a h x) ∙ e ∙ first b y)))
          (λ (y : b ≢ at). p.words_apart a b h i (sym (w.there a h x) ∙ e ∙ w.there b i y))
          (cases_eq b at))
          (cases_eq a at);
      slots_apart = λ i j h g e. ⊎_elim
          (λ (x : i ≡ k). ⊎_elim
          (λ (y : j ≡ k). x ∙ sym y)
          (λ (y : j ≢ k). absurd (p.apart at j lt g (sym (last i x) ∙ e ∙ w.other j g y)))
          (cases_eq j k))
          (λ (x : i ≢ k). ⊎_elim
          (λ (y : j ≡ k). absurd (p.apart at i lt h (sym (last j y) ∙ sym e ∙ w.other i h x)))
          (λ (y : j ≢ k). p.slots_apart i j h g (sym (w.other i h x) ∙ e ∙ w.other j g y))
          (cases_eq j k))
          (cases_eq i k);
      apart = λ a j h g e. ⊎_elim
          (λ (x : a ≡ at). ⊎_elim
          (λ (y : j ≡ k). p.apart at k lt some (sym (last j y) ∙ sym e ∙ first a x))
          (λ (y : j ≢ k). y (sym (p.slots_apart k j some g (sym (first a x) ∙ e ∙ w.other j g y))))
          (cases_eq j k))
          (λ (x : a ≢ at). ⊎_elim
          (λ (y : j ≡ k). x (p.words_apart a at h lt (sym (w.there a h x) ∙ e ∙ last j y)))
          (λ (y : j ≢ k). p.apart a j h g (sym (w.there a h x) ∙ e ∙ w.other j g y))
          (cases_eq j k))
          (cases_eq a at);
    }

-- places are apart by other functions that agree on the words and slots
pub apart_same : (d n : ℕ) (word slot word' slot' : ℕ → ℕ)
    → ((a : ℕ) → a < d → word' a ≡ word a) → ((k : ℕ) → k < n → slot' k ≡ slot k) → AreApart d n word slot
    → AreApart d n word' slot'
apart_same d n word slot word' slot' w v p = record {
  words_in = λ k h. omega (arith, w k h, p.words_in k h);
  slots_in = λ k h. omega (arith, v k h, p.slots_in k h);
  words_apart = λ j k h g e. p.words_apart j k h g (sym (w j h) ∙ e ∙ w k g);
  slots_apart = λ j k h g e. p.slots_apart j k h g (sym (v j h) ∙ e ∙ v k g);
  apart = λ j k h g e. p.apart j k h g (sym (w j h) ∙ e ∙ v k g);
}

-- what is 1 as a bit is true
pub bit_one : (t : Bool) → bit t ≡ 1 → t ≡ true
bit_one true e = refl
bit_one false e = absurd (cc e)

-- a pending write that was taken out and one that is left have different slots
pub slot_apart : (n b d i j : ℕ) → j < d → d + i < n → (b + j) % n ≢ (b + d + i) % n
slot_apart n b d i j h g e =
    let q = apart n b j (d + i) (omega (arith, h, g)) g (e ∙ ap (λ m. m % n) (let z : b + d + i ≡ b + (d + i) = omega arith in z)) in
    omega (arith, q, h)

-- the comparison of equal numbers, either way round
pub both_equal : (u u' w w' : ℕ) → u ≡ u' → w ≡ w' → words.equal u w ≡ words.equal w' u'
unfolding words.equal
both_equal u u' w w' p q = ⊎_elim
    (λ (e : u ≡ w). eq_one u w e ∙ sym (eq_one w' u' (sym q ∙ sym e ∙ p)))
    (λ (e : u ≢ w). eq_none u w e ∙ sym (eq_none w' u' (λ r. e (p ∙ sym r ∙ sym q))))
    (cases_eq u w)
