-- Kept elements of a list, and how many of them stand before a place.
use Rattle.std.proofs.Common.{◌≡◌, ℕ, zero, suc, ◌+◌, ◌<◌, ◌≤◌, Bool, true, false, cond, List, [], ◌∷◌, ◌++◌, length, map, take, get_or, add-one, refl, sym, ap, ◌∙◌, arith}
use Rattle.std.proofs.lemmas.List.{take_all}
use Rattle.pdl_word.proofs.Bools.{untrue}
use Rattle.pdl_net_needed.specs.Pruned.{kept_of, kept_before}

-- of an empty list nothing is kept
pub kept_none : {A : Type 0} (bs : List Bool) → kept_of {A = A} bs [] ≡ []
kept_none [] = refl
kept_none (b ∷ bs) = refl

-- a kept element stands after the kept ones before it
pub kept_get : {A : Type 0} (bs : List Bool) (xs : List A) (n : ℕ) (d : A)
    → get_or bs n false ≡ true → get_or (kept_of bs xs) (kept_before bs n) d ≡ get_or xs n d
kept_get [] xs n d e = untrue e
kept_get (b ∷ bs) [] n d e = refl
kept_get (true ∷ bs) (x ∷ xs) zero d e = refl
kept_get (false ∷ bs) (x ∷ xs) zero d e = untrue e
kept_get (true ∷ bs) (x ∷ xs) (suc n) d e = kept_get bs xs n d e
kept_get (false ∷ bs) (x ∷ xs) (suc n) d e = kept_get bs xs n d e

-- as many elements are kept as marks are set, where there is a mark for each
pub kept_length : {A : Type 0} (bs : List Bool) (xs : List A) → length bs ≡ length xs → length (kept_of bs xs) ≡ kept_before bs (length bs)
kept_length [] xs e = refl
kept_length (b ∷ bs) [] e = absurd (omega (arith, e))
kept_length (true ∷ bs) (x ∷ xs) e = ap suc (kept_length bs xs (omega (arith, e)))
kept_length (false ∷ bs) (x ∷ xs) e = kept_length bs xs (omega (arith, e))

-- what is made of the kept elements is what is kept of that which is made of all
pub kept_map : {A B : Type 0} (f : A → B) (bs : List Bool) (xs : List A) → map f (kept_of bs xs) ≡ kept_of bs (map f xs)
kept_map f [] xs = refl
kept_map f (b ∷ bs) [] = refl
kept_map f (true ∷ bs) (x ∷ xs) = ap (λ ys. f x ∷ ys) (kept_map f bs xs)
kept_map f (false ∷ bs) (x ∷ xs) = kept_map f bs xs

-- one kept element more before a later place
pub kept_less : (bs : List Bool) (m n : ℕ) → m < n → get_or bs m false ≡ true → kept_before bs m < kept_before bs n
kept_less [] m n h e = untrue e
kept_less (b ∷ bs) m zero h e = absurd (omega arith)
kept_less (true ∷ bs) zero (suc n) h e = omega arith
kept_less (false ∷ bs) zero (suc n) h e = untrue e
kept_less (true ∷ bs) (suc m) (suc n) h e = let i = kept_less bs m n (omega arith) e in omega (arith, i)
kept_less (false ∷ bs) (suc m) (suc n) h e = kept_less bs m n (omega arith) e

-- a mark that is set is one of the marks
pub within_marks : (bs : List Bool) (n : ℕ) → get_or bs n false ≡ true → n < length bs
within_marks [] n e = untrue e
within_marks (b ∷ bs) zero e = omega arith
within_marks (b ∷ bs) (suc n) e = let i = within_marks bs n e in omega (arith, i)

-- a kept element has a place among the kept ones
pub kept_within : (bs : List Bool) (n : ℕ) → get_or bs n false ≡ true → kept_before bs n < kept_before bs (length bs)
kept_within bs n e = kept_less bs n (length bs) (within_marks bs n e) e

-- one place on, after a part of the marks
pub kept_next : (front : List Bool) (b : Bool) (bs : List Bool)
    → kept_before (front ++ b ∷ bs) (suc (length front))
    ≡ cond b (suc (kept_before (front ++ b ∷ bs) (length front))) (kept_before (front ++ b ∷ bs) (length front))
kept_next [] b [] = refl
kept_next [] b (c ∷ bs) = refl
kept_next (true ∷ front) true bs = ap suc (kept_next front true bs)
kept_next (true ∷ front) false bs = ap suc (kept_next front false bs)
kept_next (false ∷ front) true bs = kept_next front true bs
kept_next (false ∷ front) false bs = kept_next front false bs

-- each place among the kept ones is that of a kept element
pub record HasPlace (bs : List Bool) (i : ℕ) : Type 0 where
  pub old : ℕ
  pub kept : get_or bs old false ≡ true
  pub here : kept_before bs old ≡ i

-- each number below that of the kept elements is the place of one among them
pub kept_from : (bs : List Bool) (i : ℕ) → i < kept_before bs (length bs) → HasPlace bs i
kept_from [] i h = absurd (omega arith)
kept_from (true ∷ bs) zero h = record { old = zero; kept = refl; here = refl }
kept_from (true ∷ bs) (suc i) h = let p = kept_from bs i (omega arith) in record { old = suc p.old; kept = p.kept; here = ap suc p.here }
kept_from (false ∷ bs) i h = let p = kept_from bs i h in record { old = suc p.old; kept = p.kept; here = p.here }

kept_taken : {A B : Type 0} (f : A → B) (d : A) (bs : List Bool) (xs : List A) (i : ℕ)
    → i < length xs → get_or bs i false ≡ true
    → map f (kept_of (take (suc i) bs) (take (suc i) xs)) ≡ map f (kept_of (take i bs) (take i xs)) ++ f (get_or xs i d) ∷ []
kept_taken f d [] xs i l e = untrue e
kept_taken f d (b ∷ bs) [] i l e = absurd (omega arith)
kept_taken f d (true ∷ bs) (x ∷ xs) zero l e = refl
kept_taken f d (false ∷ bs) (x ∷ xs) zero l e = untrue e
kept_taken f d (true ∷ bs) (x ∷ xs) (suc i) l e = ap (λ ys. f x ∷ ys) (kept_taken f d bs xs i (omega arith) e)
kept_taken f d (false ∷ bs) (x ∷ xs) (suc i) l e = kept_taken f d bs xs i (omega arith) e

kept_left : {A B : Type 0} (f : A → B) (bs : List Bool) (xs : List A) (i : ℕ)
    → get_or bs i false ≡ false
    → map f (kept_of (take (suc i) bs) (take (suc i) xs)) ≡ map f (kept_of (take i bs) (take i xs))
kept_left f [] xs zero e = refl
kept_left f [] xs (suc i) e = refl
kept_left f (b ∷ bs) [] zero e = refl
kept_left f (b ∷ bs) [] (suc i) e = refl
kept_left f (true ∷ bs) (x ∷ xs) zero e = untrue (sym e)
kept_left f (false ∷ bs) (x ∷ xs) zero e = refl
kept_left f (true ∷ bs) (x ∷ xs) (suc i) e = ap (λ ys. f x ∷ ys) (kept_left f bs xs i e)
kept_left f (false ∷ bs) (x ∷ xs) (suc i) e = kept_left f bs xs i e

-- the kept ones among one element more
pub kept_more : {A B : Type 0} (f : A → B) (bs : List Bool) (xs : List A) (i : ℕ) (d : A)
    → i < length xs → get_or bs i false ≡ true
    → map f (kept_of (take (i + 1) bs) (take (i + 1) xs)) ≡ map f (kept_of (take i bs) (take i xs)) ++ f (get_or xs i d) ∷ []
kept_more f bs xs i d l e = rw add-one (kept_taken f d bs xs i l e)

-- the kept ones of the first i + 1 elements are those of the first i, where the last of these isn't kept
pub kept_fewer : {A B : Type 0} (f : A → B) (bs : List Bool) (xs : List A) (i : ℕ)
    → get_or bs i false ≡ false
    → map f (kept_of (take (i + 1) bs) (take (i + 1) xs)) ≡ map f (kept_of (take i bs) (take i xs))
kept_fewer f bs xs i e = rw add-one (kept_left f bs xs i e)

-- past the last element, the kept ones of the elements so far are all kept ones
pub kept_all : {A B : Type 0} (f : A → B) (bs : List Bool) (xs : List A) (i : ℕ)
    → length bs ≡ length xs → length xs ≤ i → map f (kept_of (take i bs) (take i xs)) ≡ map f (kept_of bs xs)
kept_all f bs xs i e l = ap (λ cs. map f (kept_of cs (take i xs))) (take_all i bs (omega arith)) ∙ ap (λ ys. map f (kept_of bs ys)) (take_all i xs l)

-- no kept element stands before the first place
pub none_before : (bs : List Bool) → kept_before bs zero ≡ zero
none_before [] = refl
none_before (b ∷ bs) = refl

-- one place on
kept_step : (bs : List Bool) (i : ℕ) → kept_before bs (suc i) ≡ cond (get_or bs i false) (suc (kept_before bs i)) (kept_before bs i)
kept_step [] zero = refl
kept_step [] (suc i) = refl
kept_step (true ∷ []) zero = refl
kept_step (false ∷ []) zero = refl
kept_step (true ∷ b ∷ bs) zero = refl
kept_step (false ∷ b ∷ bs) zero = refl
kept_step (true ∷ bs) (suc i) = ap suc (kept_step bs i) ∙ push (get_or bs i false)
  where
    push : (b : Bool) → suc (cond b (suc (kept_before bs i)) (kept_before bs i)) ≡ cond b (suc (suc (kept_before bs i))) (suc (kept_before bs i))
    push true = refl
    push false = refl
kept_step (false ∷ bs) (suc i) = kept_step bs i

-- one kept element more stands before place i + 1 than before place i, where the one there is kept
pub count_more : (bs : List Bool) (i : ℕ) → get_or bs i false ≡ true → kept_before bs (i + 1) ≡ kept_before bs i + 1
count_more bs i e = let s = kept_step bs i ∙ ap (λ b. cond b (suc (kept_before bs i)) (kept_before bs i)) e in
    let m : i + 1 ≡ suc i = omega arith in let n : kept_before bs i + 1 ≡ suc (kept_before bs i) = omega arith in
    ap (kept_before bs) m ∙ s ∙ sym n

-- no more kept ones stand before place i + 1 than before place i, where the one there isn't kept
pub count_same : (bs : List Bool) (i : ℕ) → get_or bs i false ≡ false → kept_before bs (i + 1) ≡ kept_before bs i
count_same bs i e = rw add-one (kept_step bs i ∙ ap (λ b. cond b (suc (kept_before bs i)) (kept_before bs i)) e)

pub ruleset kept_parts = (kept_more, kept_fewer, kept_all)

pub ruleset counts = (count_more, count_same)
