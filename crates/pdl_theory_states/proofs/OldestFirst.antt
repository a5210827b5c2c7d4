-- The live threads of a stated state, oldest first, are those of the simulation in the other order.
use Rattle.std.proofs.Common.{◌≡◌, refl, sym, ap, ap₂, ◌∙◌, subst, ℕ, suc, ◌+◌, ◌<◌, Bool, true, false, ◌&&◌, List, [], ◌∷◌, ◌++◌, length, Some, None, ◌==◌, nat_lt, cond, arith, zero-add, add-suc, suc-add, ltb-true, ltb-false, lt-ltb}
use Rattle.std.proofs.lemmas.Bool.{eqb-true, eqb-false, ne_eqb}
use Rattle.pdl_semantics.specs.Flat.{Pipe, Stage, list_all}
use Rattle.pdl_semantics.specs.Machine.{State}
use Rattle.pdl_semantics.specs.Cycle.{for_stages}
use Rattle.pdl_semantics.specs.Sound.{put_in, live_from, live, all_pairs}
use Rattle.pdl_semantics.specs.Sound
use Rattle.pdl_theory_turns.proofs.Writes.{and_left, and_right}
use Rattle.pdl_theory_turns.proofs.Slots.{stages_same}
use Rattle.pdl_theory_simulation.proofs.Seats.{Live, seat, find, Ordered, Rises, Falls, falls_each, rises_hi, rises_from, find_none}
use Rattle.pdl_theory_simulation.proofs.ThreadFacts.{Pair, place, sorted, lives_of, EachPair, sorted_each, pairs_each, find_sorted, rises_sorted}
use Rattle.pdl_word.specs.Each.{Each}

-- a live thread as the tests of Sound state see it, and all of them, oldest first
abbrev pub told : Live → Sound.Live
told l = record { stage = l.thread.stage; thread = seat l }

-- all live threads as the tests of Sound state see them, oldest first
abbrev pub oldest_first : List Live → List Sound.Live
oldest_first [] = []
oldest_first (l ∷ ls) = oldest_first ls ++ told l ∷ []

-- something that holds of each
abbrev pub AllLive : (Sound.Live → Type 0) → List Sound.Live → Type 0
AllLive P [] = Unit {0}
AllLive P (l ∷ ls) = P l × AllLive P ls

live_snoc : (P : Sound.Live → Type 0) (xs : List Sound.Live) (l : Sound.Live) → AllLive P xs → P l → AllLive P (xs ++ l ∷ [])
live_snoc P [] l h k = (k, tt)
live_snoc P (x ∷ xs) l h k = (h.0, live_snoc P xs l h.1 k)

-- what holds of each live thread holds of each of them in the list that begins with the oldest
pub live_each : (P : Sound.Live → Type 0) (ls : List Live) → Each (λ l. P (told l)) ls → AllLive P (oldest_first ls)
live_each P [] h = tt
live_each P (l ∷ ls) h = live_snoc P (oldest_first ls) (told l) (live_each P ls h.1) h.0

-- by their numbers
abbrev by_number : List Live → List Sound.Live
by_number [] = []
by_number (l ∷ ls) = put_in (told l) (by_number ls)

abbrev number : Sound.Live → ℕ
number l = l.thread.number

-- threads of stages from s on
from_slots : (xs : List Stage) (s : ℕ) (ls : List Live) → Rises s (s + length xs) ls
    → live_from s (for_stages (λ q. find q ls) s xs) ≡ by_number ls
from_slots [] s [] r = refl
from_slots [] s (l ∷ ls) r = absurd (let h = r.0 in let k = r.1 in omega arith)
from_slots (x ∷ xs) s [] r = from_slots xs (suc s) [] tt
from_slots (x ∷ xs) s (l ∷ ls) r =
    at (l.thread.stage == s) refl
    (λ e. from_slots xs (suc s) ls
    (subst (λ n. Rises (suc n) (suc s + length xs) ls) e (rises_hi (suc l.thread.stage) _ _ ls (add-suc s (length xs) ∙ sym (suc-add s (length xs))) r.2)))
    (λ e. from_slots xs (suc s) (l ∷ ls)
    (rises_hi (suc s) _ _ (l ∷ ls) (add-suc s (length xs) ∙ sym (suc-add s (length xs))) (rises_from s (suc s) _ (l ∷ ls) r e refl)))
  where
    at : (b : Bool) → (l.thread.stage == s) ≡ b
        → (l.thread.stage ≡ s → live_from (suc s) (for_stages (λ q. find q ls) (suc s) xs) ≡ by_number ls)
        → (find s (l ∷ ls) ≡ None → live_from (suc s) (for_stages (λ q. find q (l ∷ ls)) (suc s) xs) ≡ by_number (l ∷ ls))
        → live_from s (find s (l ∷ ls) ∷ for_stages (λ q. find q (l ∷ ls)) (suc s) xs) ≡ by_number (l ∷ ls)
    at true e here later =
        ap₂ (λ b stages. live_from s (cond b (Some (seat l)) (find s ls) ∷ stages)) e
        (stages_same _ _ (suc s) xs
        (λ q k. ap (λ b. cond b (Some (seat l)) (find q ls)) (ne_eqb l.thread.stage q (λ i. absurd (let j = eqb-true l.thread.stage s e in omega arith)))))
        ∙ ap₂ (λ n rest. put_in (record { stage = n; thread = seat l }) rest) (sym (eqb-true l.thread.stage s e)) (here (eqb-true l.thread.stage s e))
    at false e here later =
        let none : find s (l ∷ ls) ≡ None =
        ap (λ b. cond b (Some (seat l)) (find s ls)) e
        ∙ find_none (suc l.thread.stage) _ s ls r.2 (let j = r.0 in let k = eqb-false l.thread.stage s e in omega arith) in
        ap (λ o. live_from s (o ∷ for_stages (λ q. find q (l ∷ ls)) (suc s) xs)) none ∙ later none

-- two threads may be put in in either order
swap : (a b : Sound.Live) (zs : List Sound.Live) → number a < number b → put_in a (put_in b zs) ≡ put_in b (put_in a zs)
swap a b [] h =
    ap (λ c. cond c (a ∷ b ∷ []) (b ∷ put_in a [])) (lt-ltb _ _ h)
    ∙ sym (ap (λ c. cond c (b ∷ a ∷ []) (a ∷ put_in b [])) (not_less _ _ h))
  where
    not_less : (m n : ℕ) → m < n → nat_lt n m ≡ false
    not_less m n i = at (nat_lt n m) refl
      where
        at : (c : Bool) → nat_lt n m ≡ c → nat_lt n m ≡ false
        at true e = absurd (let j = ltb-true n m e in omega arith)
        at false e = e
swap a b (k ∷ ks) h = at (nat_lt (number a) (number k)) refl (nat_lt (number b) (number k)) refl (swap a b ks h)
  where
    not_less : (m n : ℕ) → m < n → nat_lt n m ≡ false
    not_less m n i = at (nat_lt n m) refl
      where
        at : (c : Bool) → nat_lt n m ≡ c → nat_lt n m ≡ false
        at true e = absurd (let j = ltb-true n m e in omega arith)
        at false e = e

    at : (c : Bool) → nat_lt (number a) (number k) ≡ c → (d : Bool) → nat_lt (number b) (number k) ≡ d → put_in a (put_in b ks) ≡ put_in b (put_in a ks)
        → put_in a (cond (nat_lt (number b) (number k)) (b ∷ k ∷ ks) (k ∷ put_in b ks))
        ≡ put_in b (cond (nat_lt (number a) (number k)) (a ∷ k ∷ ks) (k ∷ put_in a ks))
    at true e true f r =
        ap (λ c. put_in a (cond c (b ∷ k ∷ ks) (k ∷ put_in b ks))) f ∙ ap (λ c. cond c (a ∷ b ∷ k ∷ ks) (b ∷ put_in a (k ∷ ks))) (lt-ltb _ _ h)
        ∙ sym
        (ap (λ c. put_in b (cond c (a ∷ k ∷ ks) (k ∷ put_in a ks))) e
        ∙ ap (λ c. cond c (b ∷ a ∷ k ∷ ks) (a ∷ put_in b (k ∷ ks))) (not_less _ _ h)
        ∙ ap (λ c. a ∷ cond c (b ∷ k ∷ ks) (k ∷ put_in b ks)) f)
    at true e false f r =
        ap (λ c. put_in a (cond c (b ∷ k ∷ ks) (k ∷ put_in b ks))) f ∙ ap (λ c. cond c (a ∷ k ∷ put_in b ks) (k ∷ put_in a (put_in b ks))) e
        ∙ sym
        (ap (λ c. put_in b (cond c (a ∷ k ∷ ks) (k ∷ put_in a ks))) e
        ∙ ap (λ c. cond c (b ∷ a ∷ k ∷ ks) (a ∷ put_in b (k ∷ ks))) (not_less _ _ h)
        ∙ ap (λ c. a ∷ cond c (b ∷ k ∷ ks) (k ∷ put_in b ks)) f)
    at false e true f r = absurd (let i = ltb-false _ _ e in let j = ltb-true _ _ f in omega arith)
    at false e false f r =
        ap (λ c. put_in a (cond c (b ∷ k ∷ ks) (k ∷ put_in b ks))) f ∙ ap (λ c. cond c (a ∷ k ∷ put_in b ks) (k ∷ put_in a (put_in b ks))) e
        ∙ ap (λ l. k ∷ l) r
        ∙ sym (ap (λ c. put_in b (cond c (a ∷ k ∷ ks) (k ∷ put_in a ks))) e ∙ ap (λ c. cond c (b ∷ k ∷ put_in a ks) (k ∷ put_in b (put_in a ks))) f)

by_place : (x : Pair) (ys : List Pair)
    → EachPair (λ y. y.live.number < x.live.number) ys
    → by_number (lives_of (place x ys)) ≡ put_in (told x.live) (by_number (lives_of ys))
by_place x [] h = refl
by_place x (y ∷ ys) h = at (nat_lt x.live.thread.stage y.live.thread.stage) (by_place x ys h.1)
  where
    at : (b : Bool) → by_number (lives_of (place x ys)) ≡ put_in (told x.live) (by_number (lives_of ys))
        → by_number (lives_of (cond b (x ∷ y ∷ ys) (y ∷ place x ys))) ≡ put_in (told x.live) (put_in (told y.live) (by_number (lives_of ys)))
    at true r = refl
    at false r = ap (put_in (told y.live)) r ∙ swap (told y.live) (told x.live) (by_number (lives_of ys)) h.0

put_last : (l : Sound.Live) (zs : List Sound.Live) → AllLive (λ z. number z < number l) zs → put_in l zs ≡ zs ++ l ∷ []
put_last l [] h = refl
put_last l (z ∷ zs) h = at (nat_lt (number l) (number z)) refl (put_last l zs h.1)
  where
    at : (b : Bool) → nat_lt (number l) (number z) ≡ b → put_in l zs ≡ zs ++ l ∷ []
        → cond (nat_lt (number l) (number z)) (l ∷ z ∷ zs) (z ∷ put_in l zs) ≡ z ∷ zs ++ l ∷ []
    at true e r = absurd (let i = ltb-true _ _ e in let j = h.0 in omega arith)
    at false e r = ap (λ c. cond c (l ∷ z ∷ zs) (z ∷ put_in l zs)) e ∙ ap (λ k. z ∷ k) r

by_sorted : (n : ℕ) (ls : List Live) → Falls n ls → by_number (lives_of (sorted ls)) ≡ oldest_first ls
by_sorted n [] f = refl
by_sorted n (l ∷ ls) f =
    by_place (record { live = l; older = ls }) (sorted ls)
    (sorted_each (λ y. y.live.number < l.number) ls (pairs_each (λ k. k.number < l.number) ls (falls_each l.number ls f.1)))
    ∙ ap (put_in (told l)) (by_sorted l.number ls f.1)
    ∙ put_last (told l) (oldest_first ls) (live_each (λ z. number z < l.number) ls (falls_each l.number ls f.1))

-- the live threads of a state whose stages hold these
pub live_is : (p : Pipe) (st : State) (n : ℕ) (ls : List Live)
    → st.stages ≡ for_stages (λ q. find q ls) 0 p.stages → Each (λ k. k.thread.stage < length p.stages) ls
    → Ordered p ls → Falls n ls → live st ≡ oldest_first ls
live_is p st n ls e low o f =
    ap (live_from 0) (e ∙ stages_same _ _ 0 p.stages (λ q i. sym (find_sorted p q ls o)))
    ∙ from_slots p.stages 0 (lives_of (sorted ls))
    (subst (λ h. Rises 0 h (lives_of (sorted ls))) (sym (zero-add (length p.stages))) (rises_sorted p (length p.stages) ls low o))
    ∙ by_sorted n ls f

-- TESTS OF ALL OF THEM

-- where all elements and one more pass a test, all of the list with that one at its end do
pub all_snoc : {X : Type 0} → (test : X → Bool) (xs : List X) (x : X)
    → list_all test xs ≡ true → test x ≡ true → list_all test (xs ++ x ∷ []) ≡ true
all_snoc test [] x h k = ap (λ b. b && true) k
all_snoc test (y ∷ xs) x h k = ap₂ (λ a b. a && b) (and_left _ _ h) (all_snoc test xs x (and_right (test y) _ h) k)

-- a test that passes of each live thread passes of all of them, oldest first
pub all_each : (test : Sound.Live → Bool) (ls : List Live) → Each (λ l. test (told l) ≡ true) ls → list_all test (oldest_first ls) ≡ true
all_each test [] h = refl
all_each test (l ∷ ls) h = all_snoc test (oldest_first ls) (told l) (all_each test ls h.1) h.0

-- an older one and a younger one
abbrev pub Pairwise : (Live → Live → Type 0) → List Live → Type 0
Pairwise P [] = Unit {0}
Pairwise P (l ∷ ls) = Each (λ k. P k l) ls × Pairwise P ls

pairs_snoc : {X : Type 0} → (test : X → X → Bool) (xs : List X) (x : X)
    → all_pairs test xs ≡ true → list_all (λ y. test y x) xs ≡ true → all_pairs test (xs ++ x ∷ []) ≡ true
pairs_snoc test [] x h k = refl
pairs_snoc test (y ∷ xs) x h k =
    ap₂ (λ a b. a && b) (all_snoc (test y) xs x (and_left _ _ h) (and_left _ _ k))
    (pairs_snoc test xs x (and_right (list_all (test y) xs) _ h) (and_right (test y x) _ k))

-- a test of each older and younger live thread passes for each two of the list, oldest first
pub pairs_all : (test : Sound.Live → Sound.Live → Bool) (ls : List Live)
    → Pairwise (λ k l. test (told k) (told l) ≡ true) ls → all_pairs test (oldest_first ls) ≡ true
pairs_all test [] h = refl
pairs_all test (l ∷ ls) h = pairs_snoc test (oldest_first ls) (told l) (pairs_all test ls h.1) (all_each (λ y. test y (told l)) ls h.0)
