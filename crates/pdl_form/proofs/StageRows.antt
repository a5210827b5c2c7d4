-- The statements of each stage by their numbers.
use Rattle.std.proofs.Common.{◌≡◌, ℕ, zero, suc, ◌+◌, ◌<◌, ◌==◌, Bool, true, false, if◌then◌else◌, List, [], ◌∷◌, ◌++◌, map, length, get_or, refl, ap, ap₂, sym, ◌∙◌, subst, arith, append_assoc, length-append, ◌⊎◌, inl, inr}
use Rattle.pdl_semantics.specs.Flat.{Stmt}
use Rattle.pdl_semantics.specs.Stages.{in_stage}
use Rattle.pdl_form.specs.declared.form.FlatStage as r_stage
use Rattle.pdl_form.specs.View.{stages_view}
use Rattle.pdl_form.specs.Form.{rows_in, rows_below, stmt_at}

-- ELEMENTS OF TWO LISTS

at_front : {X : Type 0} (xs ys : List X) (k : ℕ) (d : X) → k < length xs → get_or (xs ++ ys) k d ≡ get_or xs k d
at_front [] ys k d h = absurd (omega arith)
at_front (x ∷ xs) ys zero d h = refl
at_front (x ∷ xs) ys (suc k) d h = at_front xs ys k d (omega arith)

at_seam : {X : Type 0} (xs ys : List X) (y d : X) → get_or (xs ++ y ∷ ys) (length xs) d ≡ y
at_seam [] ys y d = refl
at_seam (x ∷ xs) ys y d = at_seam xs ys y d

-- THE ROWS OF A STAGE

-- the numbers of statements are told for each stage below this one
pub rows_below-long : (n : ℕ) (xs : List Stmt) → length (rows_below n xs) ≡ n
rows_below-long zero xs = refl
rows_below-long (suc n) xs = length-append (rows_below n xs) (rows_in n 0 xs ∷ []) ∙ omega (arith, rows_below-long n xs)

-- what is told for a stage below this one is the numbers of its statements
pub rows_below-at : (n : ℕ) (xs : List Stmt) (k : ℕ) (d : List ℕ) → k < n → get_or (rows_below n xs) k d ≡ rows_in k 0 xs
rows_below-at zero xs k d h = absurd (omega arith)
rows_below-at (suc n) xs k d h = elim (split k n (omega arith)) [
  | inl low ↦ at_front (rows_below n xs) (rows_in n 0 xs ∷ []) k d (omega (arith, rows_below-long n xs)) ∙ rows_below-at n xs k d low
  | inr same ↦
      ap (λ j. get_or (rows_below n xs ++ rows_in n 0 xs ∷ []) j d) (same ∙ sym (rows_below-long n xs))
      ∙ at_seam (rows_below n xs) [] (rows_in n 0 xs) d
      ∙ ap (λ j. rows_in j 0 xs) (sym same)
]
  where
    split : (a b : ℕ) → a < suc b → (a < b) ⊎ (a ≡ b)
    split a b h = grind arith

row_step : (b : Bool) (k i : ℕ) (all : List Stmt) (x : Stmt) (rest : List ℕ) (xs : List Stmt)
    → stmt_at all i ≡ x → map (stmt_at all) rest ≡ xs
    → map (stmt_at all) (if b then i ∷ rest else rest) ≡ (if b then x ∷ xs else xs)
row_step true k i all x rest xs h e = ap₂ (λ y ys. y ∷ ys) h e
row_step false k i all x rest xs h e = e

rows_from : (k i : ℕ) (front xs : List Stmt) → i ≡ length front → map (stmt_at (front ++ xs)) (rows_in k i xs) ≡ in_stage k xs
rows_from k i front [] e = refl
rows_from k i front (x ∷ xs) e =
    let long : suc i ≡ length (front ++ x ∷ []) = ap suc e ∙ omega (arith, length-append front (x ∷ [])) in
    row_step (x.stage == k) k i (front ++ x ∷ xs) x (rows_in k (suc i) xs) (in_stage k xs)
    (ap (stmt_at (front ++ x ∷ xs)) e ∙ at_seam front xs x _)
    (ap (λ ys. map (stmt_at ys) (rows_in k (suc i) xs)) (sym (append_assoc front (x ∷ []) xs)) ∙ rows_from k (suc i) (front ++ x ∷ []) xs long)

-- the statements of a stage's numbers are those of the stage
pub rows_stmts : (k : ℕ) (xs : List Stmt) → map (stmt_at xs) (rows_in k 0 xs) ≡ in_stage k xs
rows_stmts k xs = rows_from k 0 [] xs refl

low_step : (b : Bool) (i n : ℕ) (rest : List ℕ) → i < n → ((j : ℕ) → j < length rest → get_or rest j 0 < n)
    → (j : ℕ) → j < length (if b then i ∷ rest else rest) → get_or (if b then i ∷ rest else rest) j 0 < n
low_step true i n rest low ih zero h = low
low_step true i n rest low ih (suc j) h = ih j (omega arith)
low_step false i n rest low ih j h = ih j h

rows_low : (k i n : ℕ) (xs : List Stmt) → n ≡ i + length xs → (j : ℕ) → j < length (rows_in k i xs) → get_or (rows_in k i xs) j 0 < n
rows_low k i n [] e j h = absurd (omega arith)
rows_low k i n (x ∷ xs) e j h = low_step (x.stage == k) i n (rows_in k (suc i) xs) (omega arith) (rows_low k (suc i) n xs (omega arith)) j h

-- the number of a stage's statement is below the count of all statements
pub rows_within : (k : ℕ) (xs : List Stmt) (j : ℕ) → j < length (rows_in k 0 xs) → get_or (rows_in k 0 xs) j 0 < length xs
rows_within k xs = rows_low k 0 (length xs) xs (omega arith)

-- a stage of the program's list
pub length_stages : (xs : List r_stage.FlatStage) → length (stages_view xs) ≡ length xs
length_stages [] = refl
length_stages (x ∷ xs) = ap suc (length_stages xs)
