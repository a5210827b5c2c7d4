-- The last separator on a path, one place further.
use Rattle.std.proofs.Common.{◌≡◌, refl, sym, ap, ◌∙◌, subst, ℕ, zero, suc, ◌+◌, ◌<◌, ◌≤◌, ◌^◌, Bool, true, false, ◌||◌, ◌&&◌, List, [], ◌∷◌, ◌++◌, drop, length, get_or, nat_lt, if◌then◌else◌, arith, ◌⊎◌, inl, inr}
use Rattle.std.proofs.Math.Nat.{eq-or-lt_of_le}
use Rattle.std.specs.List.{list_any}
use Rattle.std.proofs.lemmas.List.Folds.{list_any-append}
use Rattle.pdl_rules.specs.Places.{Place, Guard, on_path}
use Rattle.pdl_rules.specs.Limits.{is_separator}
use Rattle.pdl_paths.specs.Masks.{path_of}
use Rattle.std.proofs.lemmas.Bool.{false≢true}
use Rattle.pdl_rules_names.proofs.Comparisons.{less_more, zero_less, none_less}
use Rattle.pdl_rules_names.specs.Ready.{is_separator_on, IsLast, AreLast, AreMarked}

or_false : (a : Bool) → a ≡ (a || false)
or_false true = refl
or_false false = refl

any_dropped : (t : Place → Bool) (before : List Place) (y : Place) (d : ℕ)
    → list_any t (drop (suc d) (before ++ y ∷ [])) ≡ (list_any t (drop (suc d) before) || (nat_lt d (length before) && t y))
any_dropped t [] y zero = ap (λ b. b && t y) (none_less 0)
any_dropped t [] y (suc d) = ap (λ b. b && t y) (none_less (suc d))
any_dropped t (x ∷ xs) y zero =
    list_any-append t xs (y ∷ []) ∙ ap (λ b. list_any t xs || b) (sym (or_false (t y))) ∙ ap (λ b. list_any t xs || (b && t y)) (zero_less (length xs))
any_dropped t (x ∷ xs) y (suc d) = any_dropped t xs y d ∙ ap (λ b. list_any t (drop (suc d) xs) || (b && t y)) (less_more d (length xs))

none_after : (t : Place → Bool) (before : List Place) (d : ℕ) → nat_lt d (length before) ≡ false → list_any t (drop (suc d) before) ≡ false
none_after t [] d h = refl
none_after t (x ∷ xs) zero h = absurd (false≢true (sym (zero_less (length xs) ∙ h)))
none_after t (x ∷ xs) (suc d) h = none_after t xs d (less_more d (length xs) ∙ h)

-- what a place adds
last_passed : (path : List Guard) (before : List Place) (y : Place) (m : ℕ) → IsLast path before m
    → IsLast path (before ++ y ∷ []) (if is_separator_on path y then length before else m)
last_passed path before y m h d = at (is_separator_on path y) ∙ sym (any_dropped (is_separator_on path) before y d)
  where
    after : Bool
    after = list_any (is_separator_on path) (drop (suc d) before)

    nothing : (a b : Bool) → a ≡ (a || (b && false))
    nothing true b = refl
    nothing false true = refl
    nothing false false = refl

    here : (b : Bool) → (b ≡ false → after ≡ false) → b ≡ (after || (b && true))
    here true e = at_true after
      where
        at_true : (a : Bool) → true ≡ (a || true)
        at_true true = refl
        at_true false = refl
    here false e = sym (ap (λ a. a || false) (e refl))

    at : (s : Bool) → nat_lt d (if s then length before else m) ≡ (after || (nat_lt d (length before) && s))
    at true = here (nat_lt d (length before)) (none_after (is_separator_on path) before d)
    at false = h d ∙ nothing after (nat_lt d (length before))

-- no separator
last_kept : (path : List Guard) (before : List Place) (y : Place) (m : ℕ)
    → is_separator y ≡ false → IsLast path before m → IsLast path (before ++ y ∷ []) m
last_kept path before y m e h = subst (λ b. IsLast path (before ++ y ∷ []) (if b && on_path path y then length before else m)) e (last_passed path before y m h)

last_marked : (path : List Guard) (before : List Place) (y : Place) (m k n : ℕ)
    → is_separator y ≡ true → k ≡ length before → n ≡ (if on_path path y then k else m) → IsLast path before m
    → IsLast path (before ++ y ∷ []) n
last_marked path before y m k n e i j h =
    subst (IsLast path (before ++ y ∷ [])) (sym (j ∙ ap (λ l. if on_path path y then l else m) i))
    (subst (λ b. IsLast path (before ++ y ∷ []) (if b && on_path path y then length before else m)) e (last_passed path before y m h))

-- a place that is no separator leaves the last separator of each path as it is
pub all_kept : (gs : List Guard) (before : List Place) (y : Place) (last : List ℕ)
    → is_separator y ≡ false → AreLast gs before last → AreLast gs (before ++ y ∷ []) last
all_kept gs before y last e h = record { count = h.count; each = λ b l. last_kept (path_of gs b) before y (get_or last b 0) e (h.each b l) }

-- with a separator marked on each path through it, the marks are those of the last separators on all paths
pub all_marked : (gs : List Guard) (before : List Place) (y : Place) (last new : List ℕ) (k : ℕ) → is_separator y ≡ true → k ≡ length before
    → AreMarked gs y k last new → AreLast gs before last → AreLast gs (before ++ y ∷ []) new
all_marked gs before y last new k e i made h =
    record { count = made.count; each = λ b l. last_marked (path_of gs b) before y (get_or last b 0) k (get_or new b 0) e i (made.each b l) (h.each b l) }

-- before the first place no path has a last separator
pub none_last : (gs : List Guard) (last : List ℕ) → length last ≡ 2 ^ length gs → ((b : ℕ) → get_or last b 0 ≡ 0) → AreLast gs [] last
none_last gs last e zeros = record { count = e; each = λ b l d. ap (nat_lt d) (zeros b) ∙ sym (none_less d) }

-- one number more
get_front : (xs : List ℕ) (v j : ℕ) → j < length xs → get_or (xs ++ v ∷ []) j 0 ≡ get_or xs j 0
get_front [] v j l = absurd (omega (arith, l))
get_front (x ∷ xs) v zero l = refl
get_front (x ∷ xs) v (suc j) l = get_front xs v j (omega (arith, l))

get_last : (xs : List ℕ) (v j : ℕ) → j ≡ length xs → get_or (xs ++ v ∷ []) j 0 ≡ v
get_last [] v zero e = refl
get_last [] v (suc j) e = absurd (omega (arith, e))
get_last (x ∷ xs) v zero e = absurd (omega (arith, e))
get_last (x ∷ xs) v (suc j) e = get_last xs v j (omega (arith, e))

-- a list of zeros, with one more at its end, has zeros alone
pub zeros_more : (xs : List ℕ) → ((b : ℕ) → get_or xs b 0 ≡ 0) → (b : ℕ) → get_or (xs ++ 0 ∷ []) b 0 ≡ 0
zeros_more [] h zero = refl
zeros_more [] h (suc b) = h b
zeros_more (x ∷ xs) h zero = h 0
zeros_more (x ∷ xs) h (suc b) = zeros_more xs (λ j. h (suc j)) b

-- what is true of the numbers of the first n paths is true with the number of one path more
pub marks_more : (P : ℕ → ℕ → Type 0) (xs : List ℕ) (v n : ℕ)
    → length xs ≡ n → ((j : ℕ) → j < n → P j (get_or xs j 0)) → P n v → (j : ℕ) → j < n + 1
    → P j (get_or (xs ++ v ∷ []) j 0)
marks_more P xs v n e h p j l = at (eq-or-lt_of_le (below j n l))
  where
    below : (a c : ℕ) → a < c + 1 → a ≤ c
    below a c m = omega (arith, m)

    at : (j ≡ n) ⊎ (j < n) → P j (get_or (xs ++ v ∷ []) j 0)
    at (inl i) = subst (P j) (sym (get_last xs v j (i ∙ sym e))) (subst (λ m. P m v) (sym i) p)
    at (inr m) = subst (P j) (sym (get_front xs v j (subst (λ c. j < c) (sym e) m))) (h j m)

-- a list with one more number at its end is longer by 1
pub length_more : (xs : List ℕ) (v : ℕ) → length (xs ++ v ∷ []) ≡ length xs + 1
length_more [] v = refl
length_more (x ∷ xs) v = ap suc (length_more xs v) ∙ moved (length xs)
  where
    moved : (n : ℕ) → suc (n + 1) ≡ suc n + 1
    moved n = omega arith
