-- Sizes, widths and numbers of a ring.
use Rattle.std.proofs.Common.{◌≡◌, ℕ, zero, suc, ◌+◌, ◌*◌, ◌-◌, ◌^◌, ◌<◌, ◌≤◌, inl, inr, false, IsTrue, [], ◌∷◌, ◌++◌, length, length-append, get_or, add-one, refl, sym, ap, ◌∙◌, subst, arith, ⊎_elim}
use Rattle.std.specs.Prelude.{◌==◌, ◌||◌}
use Rattle.std.proofs.Math.Pow.{pow_mono}
use Rattle.std.proofs.lemmas.Bool.{cases_lt}
use Rattle.std.proofs.lemmas.Bool.Decides.{eqb_tells}
use Rattle.std.proofs.lemmas.List.{get_or_append_left, get_or_push}
use Rattle.std.proofs.lemmas.Nat.{pow-add}
use Rattle.pdl_lock_ring.specs.declared.layout.RingLayout.{RingLayout}
use Rattle.pdl_lock_ring.specs.Slots.{IsSize, IsSized, ticket_bits, numbers_from, slot_numbers, slots_of}
use Rattle.pdl_word.specs.Words.{widest}

-- a power of two that is not below another, and below twice the other
double : (r : ℕ) → 2 * 2 ^ r ≡ 2 ^ (r + 1)
double r = omega (arith, pow-add 2 r 1)

-- what is so of each size
by_size : (P : ℕ → Type 0) → P 1 → P 2 → P 4 → P 8 → P 16 → (n : ℕ) → IsSize n → P n
by_size P a b c d e n h = elim (eqb_tells n 1) [
  | inl x ↦ subst P (sym x.1) a
  | inr x ↦ elim (eqb_tells n 2) [
    | inl y ↦ subst P (sym y.1) b
    | inr y ↦ elim (eqb_tells n 4) [
      | inl z ↦ subst P (sym z.1) c
      | inr z ↦ elim (eqb_tells n 8) [
        | inl w ↦ subst P (sym w.1) d
        | inr w ↦ elim (eqb_tells n 16) [
          | inl v ↦ subst P (sym v.1) e
          | inr v ↦ let f : ((n == 1) || (n == 2) || (n == 4) || (n == 8) || (n == 16)) ≡ false = rw (x.0, y.0, z.0, w.0, v.0) refl in
              absurd (cc (subst (λ t. IsTrue t) f h))
        ]
      ]
    ]
  ]
]

-- a size is at least 1
pub size_some : (n : ℕ) → IsSize n → 1 ≤ n
size_some = by_size (λ n. 1 ≤ n) (omega arith) (omega arith) (omega arith) (omega arith) (omega arith)

-- a size is at most 16
pub size_few : (n : ℕ) → IsSize n → n ≤ 16
size_few = by_size (λ n. n ≤ 16) (omega arith) (omega arith) (omega arith) (omega arith) (omega arith)

-- a ticket runs modulo twice the size
pub size_tickets : (n : ℕ) → IsSize n → 2 ^ ticket_bits n ≡ 2 * n
size_tickets = by_size (λ n. 2 ^ ticket_bits n ≡ 2 * n) refl refl refl refl refl

-- a ticket has at least 1 bit
pub ticket_some : (n : ℕ) → IsSize n → 1 ≤ ticket_bits n
ticket_some = by_size (λ n. 1 ≤ ticket_bits n) (omega arith) (omega arith) (omega arith) (omega arith) (omega arith)

-- a ticket has at most widest bits
pub ticket_few : (n : ℕ) → IsSize n → ticket_bits n ≤ widest
ticket_few = by_size (λ n. ticket_bits n ≤ widest) (omega arith) (omega arith) (omega arith) (omega arith) (omega arith)

-- a size is half of that power of two
pub size_power : (n : ℕ) → IsSize n → n ≡ 2 ^ (ticket_bits n - 1)
size_power = by_size (λ n. n ≡ 2 ^ (ticket_bits n - 1)) refl refl refl refl refl

-- a slot's number has few bits
pub few_bits : (l : RingLayout) → IsSized l → l.ticket - 1 ≤ 16
few_bits l z = ⊎_elim
    (λ (h : 16 < l.ticket - 1).
    let lo : 17 ≤ l.ticket - 1 = omega (arith, h) in
    let p : 2 ^ 17 ≤ 2 ^ (l.ticket - 1) = pow_mono lo in
    absurd (omega (arith, p, z.power, z.few)))
    (λ (h : l.ticket - 1 ≤ 16). h)
    (cases_lt 16 (l.ticket - 1))

pub ruleset sizes = (size_some, size_few, size_tickets, size_power, ticket_some, ticket_few)

-- the numbers from one on

numbers_more : (a n : ℕ) → numbers_from a (suc n) ≡ numbers_from a n ++ (a + n) ∷ []
numbers_more a zero = ap (λ x. x ∷ []) (omega arith)
numbers_more a (suc n) = ap (λ l. a ∷ l) (numbers_more (a + 1) n ∙ ap (λ x. numbers_from (a + 1) n ++ x ∷ []) (omega arith))

-- the numbers from one on with one more at their end
pub numbers_push : (a n : ℕ) → numbers_from a (n + 1) ≡ numbers_from a n ++ (a + n) ∷ []
numbers_push a n = ap (numbers_from a) (add-one n) ∙ numbers_more a n

-- there are n numbers in the list of n numbers from one on
pub numbers_length : (a n : ℕ) → length (numbers_from a n) ≡ n
numbers_length a zero = refl
numbers_length a (suc n) = ap suc (numbers_length (a + 1) n)

-- the k-th of the numbers from a on is a + k
pub numbers_at : (a n k : ℕ) → k < n → get_or (numbers_from a n) k 0 ≡ a + k
numbers_at a zero k h = absurd (omega arith)
numbers_at a (suc n) zero h = omega arith
numbers_at a (suc n) (suc k) h = numbers_at (a + 1) n k (omega arith) ∙ (omega arith)

-- the registers of one slot more
pub slots_push : (l : RingLayout) (n : ℕ) → slots_of l (n + 1) ≡ slots_of l n ++ slot_numbers l.content l n ∷ []
slots_push l n = ap (slots_of l) (add-one n)

-- the registers of the first n slots are n lists
pub slots_length : (l : RingLayout) (n : ℕ) → length (slots_of l n) ≡ n
slots_length l zero = refl
slots_length l (suc n) = length-append (slots_of l n) (slot_numbers l.content l n ∷ []) ∙ ap (λ k. k + 1) (slots_length l n) ∙ add-one n

-- the k-th of the lists of registers is that of slot k
pub slots_at : (l : RingLayout) (n k : ℕ) → k < n → get_or (slots_of l n) k [] ≡ slot_numbers l.content l k
slots_at l zero k h = absurd (omega arith)
slots_at l (suc n) k h = ⊎_elim
    (λ (i : k < n). get_or_append_left (slots_of l n) (slot_numbers l.content l n ∷ []) [] k (omega (arith, slots_length l n)) ∙ slots_at l n k i)
    (λ (i : n ≤ k).
    let e : n ≡ k = omega arith in
    get_or_push (slots_of l n) (slot_numbers l.content l n) [] k (slots_length l n ∙ e) ∙ ap (slot_numbers l.content l) e)
    (cases_lt k n)
