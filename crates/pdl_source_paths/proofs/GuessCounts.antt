-- Calls and guesses among places, counted, and the stages of places that pass a test.
use Rattle.std.proofs.Common.{◌≡◌, refl, sym, ap, ◌∙◌, ℕ, ◌+◌, ◌≤◌, ◌⊎◌, inl, inr, Bool, true, false, ◌&&◌, ◌||◌, not, List, [], ◌∷◌, ◌++◌, length, filter, cond, if◌then◌else◌, count_by, arith, append_assoc, append-nil, ⊎_elim}
use Rattle.std.proofs.lemmas.Bool.{false≢true, and_parts, or_parts, or_cases, or_left, or_right}
use Rattle.std.proofs.lemmas.List.Sums.{sum_by-append}
use Rattle.std.specs.List.{list_any}
use Rattle.pdl_semantics.specs.Tree.{Separator, CombRead, Bind, SpecCall, DelayedRead, Write, Reserve, Block, Release, If, Call, Verify, Update, SpecCheck, SpecBarrier}
use Rattle.pdl_rules.specs.Places.{Place, Statement}
use Rattle.pdl_rules.specs.Names.{OfGuess, Use, defines_use, is_given, is_delayed}
use Rattle.pdl_rules.specs.Limits.{is_separator}
use Rattle.pdl_rules.specs.Calls.{is_call}
use Rattle.pdl_rules.specs.Stages.{stage_of, stages_that}
use Rattle.pdl_rules.proofs.SingleWrites.{any_weaker, counted, count_cons, weight}
use Rattle.pdl_source_paths.proofs.Calls.{guess_calls}
use Rattle.pdl_word.proofs.Bytes.{bytes_same}

-- as many stages as places that pass
pub count_stages : (test : Place → Bool) (before xs : List Place) → length (stages_that test before xs) ≡ count_by test xs
count_stages test before [] = refl
count_stages test before (x ∷ xs) = at (test x) refl (count_stages test (before ++ x ∷ []) xs)
  where
    at : (b : Bool) → test x ≡ b → length (stages_that test (before ++ x ∷ []) xs) ≡ count_by test xs
        → length (if b then stage_of before x ∷ stages_that test (before ++ x ∷ []) xs else stages_that test (before ++ x ∷ []) xs) ≡ count_by test (x ∷ xs)
    at true e h = let f = count_cons test x xs in let g : weight (test x) ≡ 1 = ap weight e in omega arith
    at false e h = let f = count_cons test x xs in let g : weight (test x) ≡ 0 = ap weight e in omega arith

-- the places of two lists that pass a test
pub count_append : (test : Place → Bool) (xs ys : List Place) → count_by test (xs ++ ys) ≡ count_by test xs + count_by test ys
count_append test xs ys = sum_by-append (λ x. weight (test x)) xs ys

-- after places that fail a test, the stages of those that pass it are those of the rest
pub stages_past : (test : Place → Bool) (before xs ys : List Place)
    → list_any test xs ≡ false → stages_that test before (xs ++ ys) ≡ stages_that test (before ++ xs) ys
stages_past test before [] ys h = ap (λ l. stages_that test l ys) (sym (append-nil before))
stages_past test before (x ∷ xs) ys h =
    let parts = or_parts (test x) (list_any test xs) h in
    ap (λ b. if b then stage_of before x ∷ stages_that test (before ++ x ∷ []) (xs ++ ys) else stages_that test (before ++ x ∷ []) (xs ++ ys)) parts.0
    ∙ stages_past test (before ++ x ∷ []) xs ys parts.1
    ∙ ap (λ l. stages_that test l ys) (append_assoc before (x ∷ []) xs)

-- a test of the places on a path
pub any_on : (f test : Place → Bool) (xs : List Place) → list_any (λ y. f y && test y) xs ≡ list_any test (filter f xs)
any_on f test [] = refl
any_on f test (x ∷ xs) = at (f x) (any_on f test xs)
  where
    at : (b : Bool) → list_any (λ y. f y && test y) xs ≡ list_any test (filter f xs)
        → ((b && test x) || list_any (λ y. f y && test y) xs) ≡ list_any test (cond b (x ∷ filter f xs) (filter f xs))
    at true h = ap (λ b. test x || b) h
    at false h = h

-- a place makes one guess
one_name : (n g : List ℕ) (x : Place) → defines_use (OfGuess n) x ≡ true → defines_use (OfGuess g) x ≡ true → n ≡ g
one_name n g (Statement (SpecCall _ y _) bs) e f = bytes_same n y.name e ∙ sym (bytes_same g y.name f)
one_name n g (Statement (Call _ _) bs) e f = absurd (false≢true e)
one_name n g (Statement (Separator _) bs) e f = absurd (false≢true e)
one_name n g (Statement (CombRead _ _ _) bs) e f = absurd (false≢true e)
one_name n g (Statement (Bind _ _ _) bs) e f = absurd (false≢true e)
one_name n g (Statement (DelayedRead _ _ _) bs) e f = absurd (false≢true e)
one_name n g (Statement (Write _ _ _) bs) e f = absurd (false≢true e)
one_name n g (Statement (Reserve _ _ _) bs) e f = absurd (false≢true e)
one_name n g (Statement (Block _ _) bs) e f = absurd (false≢true e)
one_name n g (Statement (Release _ _) bs) e f = absurd (false≢true e)
one_name n g (Statement (If _ _ _ _) bs) e f = absurd (false≢true e)
one_name n g (Statement (Verify _ _ _) bs) e f = absurd (false≢true e)
one_name n g (Statement (Update _ _ _) bs) e f = absurd (false≢true e)
one_name n g (Statement (SpecCheck _) bs) e f = absurd (false≢true e)
one_name n g (Statement (SpecBarrier _) bs) e f = absurd (false≢true e)
one_name n g _ e f = absurd (false≢true e)

-- where at most one place calls, two guesses that are made are one
pub one_guess : (n g : List ℕ) (xs : List Place)
    → count_by is_call xs ≤ 1 → list_any (defines_use (OfGuess n)) xs ≡ true
    → list_any (defines_use (OfGuess g)) xs ≡ true → n ≡ g
one_guess n g [] few e f = absurd (false≢true e)
one_guess n g (x ∷ xs) few e f = by (or_cases (defines_use (OfGuess n) x) _ e) (or_cases (defines_use (OfGuess g) x) _ f) (one_guess n g xs fewer)
  where
    fewer : count_by is_call xs ≤ 1
    fewer = let sum = count_cons is_call x xs in omega arith

    more : (l : List ℕ) → is_call x ≡ true → list_any (defines_use (OfGuess l)) xs ≡ true → ⊥
    more l t u =
        let one : 1 ≤ count_by is_call xs = counted is_call xs (any_weaker _ _ (guess_calls l) xs u) in
        let here : weight (is_call x) ≡ 1 = ap weight t in
        let sum = count_cons is_call x xs in
        omega arith

    by : (defines_use (OfGuess n) x ≡ true) ⊎ (list_any (defines_use (OfGuess n)) xs ≡ true)
        → (defines_use (OfGuess g) x ≡ true) ⊎ (list_any (defines_use (OfGuess g)) xs ≡ true)
        → (list_any (defines_use (OfGuess n)) xs ≡ true → list_any (defines_use (OfGuess g)) xs ≡ true → n ≡ g) → n ≡ g
    by (inl a) (inl b) r = one_name n g x a b
    by (inl a) (inr b) r = absurd (more g (guess_calls n x a) b)
    by (inr a) (inl b) r = absurd (more n (guess_calls g x b) a)
    by (inr a) (inr b) r = r a b

-- a name that is given after some places is defined by one of them
pub given_any : (u : Use) (xs : List Place) → is_given xs u ≡ true → list_any (defines_use u) xs ≡ true
given_any u [] e = absurd (false≢true e)
given_any u (x ∷ xs) e =
    ⊎_elim (λ a. or_left _ _ (and_parts (defines_use u x) _ a).0) (λ a. or_right (defines_use u x) _ (given_any u xs a))
    (or_cases (defines_use u x && (not (is_delayed x) || list_any is_separator xs)) _ e)

-- the stages of places that pass a test are those of the first ones and then those of the others
pub stages_append : (test : Place → Bool) (before xs ys : List Place)
    → stages_that test before (xs ++ ys) ≡ stages_that test before xs ++ stages_that test (before ++ xs) ys
stages_append test before [] ys = ap (λ l. stages_that test l ys) (sym (append-nil before))
stages_append test before (x ∷ xs) ys =
    at (test x)
    (stages_append test (before ++ x ∷ []) xs ys
    ∙ ap (λ l. stages_that test (before ++ x ∷ []) xs ++ stages_that test l ys) (append_assoc before (x ∷ []) xs))
  where
    at : (b : Bool) → stages_that test (before ++ x ∷ []) (xs ++ ys) ≡ stages_that test (before ++ x ∷ []) xs ++ stages_that test (before ++ x ∷ xs) ys
        → cond b (stage_of before x ∷ stages_that test (before ++ x ∷ []) (xs ++ ys)) (stages_that test (before ++ x ∷ []) (xs ++ ys))
        ≡ cond b (stage_of before x ∷ stages_that test (before ++ x ∷ []) xs) (stages_that test (before ++ x ∷ []) xs)
        ++ stages_that test (before ++ x ∷ xs) ys
    at true h = ap (λ l. stage_of before x ∷ l) h
    at false h = h
