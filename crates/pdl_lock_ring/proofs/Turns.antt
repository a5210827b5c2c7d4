-- How many tickets of a slot lie below a ticket, and the word that tells of each slot whether they are odd or even in number.
use Rattle.std.proofs.Common.{◌≡◌, ◌≢◌, ℕ, zero, suc, ◌+◌, ◌-◌, ◌*◌, ◌/◌, ◌%◌, ◌^◌, ◌<◌, ◌≤◌, sym, ap, ap₂, ◌∙◌, arith, ◌⊎◌, inl, inr, ⊎_elim, lt-ltb, le-ltb, div-add-mod', add-one, suc-mul, pow_pos, mod-eq_of_lt}
use Rattle.std.specs.Prelude.{nat_lt, Bool, true, false, bit_xor, ◌==◌, if◌then◌else◌}
use Rattle.std.specs.Int.{bit_at}
use Rattle.std.proofs.lemmas.Bool.{cases_lt, cases_eq}
use Rattle.std.proofs.lemmas.Nat.{mod_below, mod-mul-add, div-mul-add, pow_below}
use Rattle.std.proofs.lemmas.Nat.Bits.{bit_at_xor, bit_at_ones, bit_at_ones_above, bit_at_mask_inside, bit_at_mask_below}
use Rattle.std.proofs.Math.Nat.{add-mod_right, mod-add-mod}
use Rattle.pdl_word.specs.Words.{bit}
use Rattle.pdl_lock_ring.proofs.SlotNumbers.{apart}
use Rattle.pdl_lock_ring.proofs.RingValues.{if_one, if_other}

-- a bit is 0 or 1
pub bit_few : (b : Bool) → bit b < 2
bit_few true = omega arith
bit_few false = omega arith

-- the bit of an order that holds is 1
pub less_is : (a b : ℕ) → a < b → bit (nat_lt a b) ≡ 1
less_is a b h = ap bit (lt-ltb a b h)

-- the bit of an order that doesn't hold is 0
pub less_not : (a b : ℕ) → b ≤ a → bit (nat_lt a b) ≡ 0
less_not a b h = ap bit (le-ltb a b h)

-- ---- the tickets of a slot that lie below a ticket

-- how many tickets of slot k of n are below ticket t
abbrev pub passes : ℕ → ℕ → ℕ → ℕ
passes n k t = t / n + bit (nat_lt k (t % n))

next_same : (n t : ℕ) → t % n + 1 < n → ((t + 1) % n ≡ t % n + 1) × ((t + 1) / n ≡ t / n)
next_same n t h =
    let q : t / n * n + t % n ≡ t = div-add-mod' t n in
    let e : t + 1 ≡ t / n * n + (t % n + 1) = omega (arith, q) in
    (ap (λ m. m % n) e ∙ mod-mul-add (t / n) n (t % n + 1) h, ap (λ m. m / n) e ∙ div-mul-add (t / n) n (t % n + 1) h)

next_round : (n t : ℕ) → 0 < n → t % n + 1 ≡ n → ((t + 1) % n ≡ 0) × ((t + 1) / n ≡ t / n + 1)
next_round n t some h =
    let q : t / n * n + t % n ≡ t = div-add-mod' t n in
    let two : (t / n + 1) * n ≡ t / n * n + n = ap (λ x. x * n) (add-one (t / n)) ∙ suc-mul (t / n) n in
    let e : t + 1 ≡ (t / n + 1) * n + 0 = omega (arith, q, two, h) in
    (ap (λ m. m % n) e ∙ mod-mul-add (t / n + 1) n 0 some, ap (λ m. m / n) e ∙ div-mul-add (t / n + 1) n 0 some)

passes_same : (n k t : ℕ) → k < n → t % n ≡ k → passes n k (t + 1) ≡ passes n k t + 1
passes_same n k t h e =
    let now = less_not k (t % n) (omega (arith, e)) in
    ⊎_elim
    (λ (lt : t % n + 1 < n).
    let s = next_same n t lt in
    let new = less_is k ((t + 1) % n) (let m = s.0 in omega (arith, m, e)) in
    let q = s.1 in omega (arith, q, now, new))
    (λ (le : n ≤ t % n + 1).
    let s = next_round n t (omega (arith, h)) (omega (arith, le, e, h)) in
    let new = less_not k ((t + 1) % n) (let m = s.0 in omega (arith, m)) in
    let q = s.1 in omega (arith, q, now, new))
    (cases_lt (t % n + 1) n)

passes_other : (n k t : ℕ) → k < n → t % n ≢ k → passes n k (t + 1) ≡ passes n k t
passes_other n k t h e =
    let below : t % n < n = mod_below t n (omega (arith, h)) in
    ⊎_elim
    (λ (lt : t % n + 1 < n).
    let s = next_same n t lt in
    let m = s.0 in
    let q = s.1 in
    ⊎_elim
    (λ (o : k < t % n). let now = less_is k (t % n) o in let new = less_is k ((t + 1) % n) (omega (arith, m, o)) in omega (arith, q, now, new))
    (λ (o : t % n ≤ k). let now = less_not k (t % n) o in let new = less_not k ((t + 1) % n) (omega (arith, m, o, e)) in omega (arith, q, now, new))
    (cases_lt k (t % n)))
    (λ (le : n ≤ t % n + 1).
    let s = next_round n t (omega (arith, h)) (omega (arith, le, below)) in
    let m = s.0 in
    let q = s.1 in
    let now = less_is k (t % n) (omega (arith, le, h, e)) in
    let new = less_not k ((t + 1) % n) (omega (arith, m)) in
    omega (arith, q, now, new))
    (cases_lt (t % n + 1) n)

-- the slots of numbers that differ by less than n more than one of them do are other ones
apart_wide : (n b i d : ℕ) → i < n → d < n + i → d ≢ i → (b + d) % n ≢ (b + i) % n
apart_wide n b i d h lt q e = ⊎_elim
    (λ (l : d < n). q (apart n b d i l h e))
    (λ (l : n ≤ d).
    let m = d - n in
    let w : b + d ≡ b + m + n = omega (arith, l) in
    let f : (b + m) % n ≡ (b + i) % n = sym (add-mod_right (b + m) n) ∙ ap (λ x. x % n) (sym w) ∙ e in
    let g : m ≡ i = apart n b m i (omega (arith, l, lt, h)) h f in
    absurd (omega (arith, g, l, lt)))
    (cases_lt d n)

same_order : (i d : ℕ) → d ≢ i → bit (nat_lt i (suc d)) ≡ bit (nat_lt i d)
same_order i d q = ⊎_elim
    (λ (l : i < d). less_is i (suc d) (omega (arith, l)) ∙ sym (less_is i d l))
    (λ (l : d ≤ i). less_not i (suc d) (omega (arith, l, q)) ∙ sym (less_not i d l))
    (cases_lt i d)

-- of the slot of the i-th number from b on one more ticket is below the d-th one where i is below d, up to n numbers after it
passed : (n b i d : ℕ) → i < n → d ≤ n + i → passes n ((b + i) % n) (b + d) ≡ passes n ((b + i) % n) b + bit (nat_lt i d)
passed n b i zero h le =
    let k = (b + i) % n in
    let z = less_not i zero (omega arith) in
    let e : b + zero ≡ b = omega arith in
    ap (λ t. passes n k t) e ∙ (omega (arith, z))
passed n b i (suc d) h le =
    let k = (b + i) % n in
    let below : k < n = mod_below (b + i) n (omega (arith, h)) in
    let r = passed n b i d h (omega (arith, le)) in
    let e : b + suc d ≡ b + d + 1 = omega arith in
    ⊎_elim
    (λ (q : d ≡ i).
    let s = passes_same n k (b + d) below (ap (λ m. (b + m) % n) q) in
    let now = less_not i d (omega (arith, q)) in
    let new = less_is i (suc d) (omega (arith, q)) in
    ap (λ t. passes n k t) e ∙ s ∙ (omega (arith, r, now, new)))
    (λ (q : d ≢ i).
    let s = passes_other n k (b + d) below (apart_wide n b i d h (omega (arith, le)) q) in
    ap (λ t. passes n k t) e ∙ s ∙ r ∙ ap (λ m. passes n k b + m) (sym (same_order i d q)))
    (cases_eq d i)

-- ---- the words

-- the slots from that of a ticket on; in every second round the slots before it
abbrev pub turn_word : ℕ → ℕ → ℕ
turn_word n t = if t / n % 2 == 1 then 2 ^ (t % n) - 1 else 2 ^ n - 2 ^ (t % n)

-- the word of the slots from v on has the others' bits 0
pub from_bit : (n v k : ℕ) → k < n → bit_at (2 ^ n - 2 ^ v) k ≡ 1 - bit (nat_lt k v)
from_bit n v k h = ⊎_elim
    (λ (l : k < v). let o = less_is k v l in bit_at_mask_below v n k l ∙ (omega (arith, o)))
    (λ (l : v ≤ k). let o = less_not k v l in bit_at_mask_inside v n k l h ∙ (omega (arith, o)))
    (cases_lt k v)

-- the word of the slots before v has the others' bits 0
pub before_bit : (v k : ℕ) → bit_at (2 ^ v - 1) k ≡ bit (nat_lt k v)
before_bit v k = ⊎_elim
    (λ (l : k < v). bit_at_ones v k l ∙ sym (less_is k v l))
    (λ (l : v ≤ k). bit_at_ones_above v k l ∙ sym (less_not k v l))
    (cases_lt k v)

-- a ticket's word tells of each slot whether an odd number of its tickets is below
turn_bit : (n k t : ℕ) → k < n → bit_at (turn_word n t) k ≡ (passes n k t + 1) % 2
turn_bit n k t h =
    let x = bit_few (nat_lt k (t % n)) in
    ⊎_elim
    (λ (o : t / n % 2 ≡ 1).
    ap (λ w. bit_at w k) (if_one (t / n % 2) (2 ^ (t % n) - 1) (2 ^ n - 2 ^ (t % n)) o) ∙ before_bit (t % n) k ∙ (omega (arith, o, x)))
    (λ (o : t / n % 2 ≢ 1).
    ap (λ w. bit_at w k) (if_other (t / n % 2) (2 ^ (t % n) - 1) (2 ^ n - 2 ^ (t % n)) o) ∙ from_bit n (t % n) k h ∙ (omega (arith, o, x)))
    (cases_eq (t / n % 2) 1)

-- the words of two tickets differ just in the slots between them, where these are less than two rounds away from the slot's first one
pub between_bit : (n b i d : ℕ) → i < n → d ≤ n + i → bit_at (bit_xor (turn_word n (b + d)) (turn_word n b)) ((b + i) % n) ≡ bit (nat_lt i d)
between_bit n b i d h le =
    let k = (b + i) % n in
    let below : k < n = mod_below (b + i) n (omega (arith, h)) in
    let r = passed n b i d h le in
    let x = bit_few (nat_lt i d) in
    bit_at_xor (turn_word n (b + d)) (turn_word n b) k
    ∙ ap₂ (λ u v. (u + v) % 2) (turn_bit n k (b + d) below) (turn_bit n k b below) ∙ (omega (arith, r, x))

-- a ticket's word has no more bits than there are slots
pub turn_few : (n t : ℕ) → 0 < n → turn_word n t < 2 ^ n
turn_few n t h =
    let v : 2 ^ (t % n) < 2 ^ n = pow_below (t % n) n (mod_below t n h) in
    let p = pow_pos (t % n) in
    ⊎_elim
    (λ (o : t / n % 2 ≡ 1). let e = if_one (t / n % 2) (2 ^ (t % n) - 1) (2 ^ n - 2 ^ (t % n)) o in omega (arith, e, v))
    (λ (o : t / n % 2 ≢ 1). let e = if_other (t / n % 2) (2 ^ (t % n) - 1) (2 ^ n - 2 ^ (t % n)) o in omega (arith, e, v, p))
    (cases_eq (t / n % 2) 1)

-- ---- the order of slots

-- the i-th number's slot is i after the first one's, or as many less a round
pub place : (n b i : ℕ) → i < n
    → ((b % n + i < n) × ((b + i) % n ≡ b % n + i)) ⊎ ((n ≤ b % n + i) × ((b + i) % n + n ≡ b % n + i))
place n b i h =
    let below : b % n < n = mod_below b n (omega (arith, h)) in
    let at : (b + i) % n ≡ (b % n + i) % n = sym (mod-add-mod b n i) in
    ⊎_elim
    (λ (l : b % n + i < n). inl (l, at ∙ mod-eq_of_lt l))
    (λ (l : n ≤ b % n + i).
    let m = b % n + i - n in
    let e : b % n + i ≡ m + n = omega (arith, l) in
    let f : (b + i) % n ≡ m = at ∙ ap (λ x. x % n) e ∙ add-mod_right m n ∙ mod-eq_of_lt (omega (arith, below, h)) in
    inr (l, omega (arith, e, f)))
    (cases_lt (b % n + i) n)
