-- Where a name stands among names that differ, and that it stands among none of another kind.
use Rattle.std.proofs.Common.{◌≡◌, ◌≢◌, ℕ, zero, suc, ◌+◌, ◌^◌, ◌<◌, ◌≤◌, cond, List, [], ◌∷◌, length, map, get_or, bytes_eq, Some, None, refl, sym, ap, ◌∙◌, arith}
use Rattle.std.specs.List.{AllPairs}
use Rattle.std.proofs.lemmas.Fmt.{decimal_injective}
use Rattle.pdl_word.proofs.Bools.{same_bools}
use Rattle.pdl_word.proofs.Bytes.{bytes_same, bytes_differ, same_bytes}
use Rattle.pdl_word.proofs.Lists.{tail_same}
use Rattle.pdl_vread_nets.specs.Wired.{place, shifted}
use Rattle.pdl_verilog.specs.Declared.{reg_name, cell_name}
use Rattle.pdl_word.specs.Each.{Each}

-- ---- one name

-- the first of names stands at 0
pub place_first : (y : List ℕ) (ys : List (List ℕ)) (x : List ℕ) → x ≡ y → place (y ∷ ys) x ≡ Some 0
place_first y ys x e = ap (λ b. cond b (Some 0) (shifted (place ys x))) (same_bytes x y e)

-- a name that isn't the first stands one place later than among the others
pub place_later : (y : List ℕ) (ys : List (List ℕ)) (x : List ℕ) → x ≢ y → place (y ∷ ys) x ≡ shifted (place ys x)
place_later y ys x h = ap (λ b. cond b (Some 0) (shifted (place ys x))) (bytes_differ x y h)

-- ---- names that differ

-- the i-th of names that differ stands at i
pub place_at : (ns : List (List ℕ)) (i : ℕ) (d : List ℕ) → AllPairs (λ a b. a ≢ b) ns → i < length ns → place ns (get_or ns i d) ≡ Some i
place_at [] i d h l = absurd (omega arith)
place_at (y ∷ ys) zero d h l = place_first y ys y refl
place_at (y ∷ ys) (suc i) d h l =
    place_later y ys (get_or ys i d) (λ e. h 0 (suc i) d (omega arith) l (sym e))
    ∙ ap shifted (place_at ys i d (λ j k e m o. h (suc j) (suc k) e (omega arith) (omega arith)) (omega arith))

-- names that are all made longer in one way stand where they stood
pub place_mapped : (g : List ℕ → List ℕ)
    → ((x y : List ℕ) → g x ≡ g y → x ≡ y) → (ns : List (List ℕ)) (x : List ℕ) → place (map g ns) (g x) ≡ place ns x
place_mapped g back [] x = refl
place_mapped g back (y ∷ ys) x =
    ap (λ o. cond (bytes_eq (g x) (g y)) (Some 0) (shifted o)) (place_mapped g back ys x)
    ∙ ap (λ b. cond b (Some 0) (shifted (place ys x)))
    (same_bools (bytes_eq (g x) (g y)) (bytes_eq x y) (λ e. same_bytes x y (back x y (bytes_same (g x) (g y) e)))
    (λ e. same_bytes (g x) (g y) (ap g (bytes_same x y e))))

-- ---- kinds of names

-- the first byte of a name tells its kind
abbrev pub Begins : ℕ → List ℕ → Type 0
Begins b x = get_or x 0 0 ≡ b

-- a name of one kind stands among no names of another
pub place_apart : (b c : ℕ) (ns : List (List ℕ)) (x : List ℕ) → Each (Begins b) ns → Begins c x → b ≢ c → place ns x ≡ None
place_apart b c [] x h k ne = refl
place_apart b c (y ∷ ys) x h k ne =
    place_later y ys x (λ e. ne (sym h.0 ∙ (ap (λ z. get_or z 0 0) (sym e) ∙ k))) ∙ ap shifted (place_apart b c ys x h.1 k ne)

-- ---- names with numbers

-- so many names, from that of a number on
abbrev pub numbered : (ℕ → List ℕ) → ℕ → ℕ → List (List ℕ)
numbered f k zero = []
numbered f k (suc n) = f k ∷ numbered f (suc k) n

-- what holds of the name of each number holds of each numbered name
pub each_numbered : (P : List ℕ → Type 0) (f : ℕ → List ℕ) → ((i : ℕ) → P (f i)) → (k n : ℕ) → Each P (numbered f k n)
each_numbered P f h k zero = tt
each_numbered P f h k (suc n) = (h k, each_numbered P f h (suc k) n)

-- numbers below a bound have different names
abbrev pub AreApart : (ℕ → List ℕ) → ℕ → Type 0
AreApart f m = (i j : ℕ) → i < m → j < m → f i ≡ f j → i ≡ j

-- the name of a number stands at its own place among numbered ones that are apart
pub place_numbered : (f : ℕ → List ℕ) (m : ℕ) → AreApart f m → (k n i j : ℕ)
    → k + n ≤ m → i < n → k + i ≡ j → place (numbered f k n) (f j) ≡ Some i
place_numbered f m h k zero i j b l e = absurd (omega arith)
place_numbered f m h k (suc n) zero j b l e =
    let q : j ≡ k = omega arith in
    place_first (f k) (numbered f (suc k) n) (f j) (ap f q)
place_numbered f m h k (suc n) (suc i) j b l e =
    let c : j < m = omega arith in
    let d : k < m = omega arith in
    place_later (f k) (numbered f (suc k) n) (f j) (λ q. let same = h j k c d q in absurd (omega arith))
    ∙ ap shifted (place_numbered f m h (suc k) n i j (omega arith) (omega arith) (omega arith))

-- the names of registers with numbers below 2^64 are apart
pub regs_apart : AreApart reg_name (2 ^ 64)
regs_apart i j a b e = decimal_injective i j a b (tail_same e)

-- the names of cells with numbers below 2^64 are apart
pub cells_apart : AreApart cell_name (2 ^ 64)
cells_apart i j a b e = decimal_injective i j a b (tail_same e)
