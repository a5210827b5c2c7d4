-- A word that is written.
use Rattle.std.proofs.Common.{◌≡◌, refl, ap, ◌∙◌, ℕ, zero, suc, List, [], ◌∷◌, length, set, slice_set}
use Rattle.std.proofs.lemmas.List.{length-set}
use Rattle.pdl_seq.specs.Turns.{list_at, shape}

-- a memory has as many words as before
shape_at : (lists : List (List ℕ)) (m : ℕ) (l : List ℕ) → length l ≡ length (list_at lists m) → shape (set lists m l) ≡ shape lists
shape_at [] m l e = refl
shape_at (x ∷ lists) zero l e = ap (λ n. n ∷ shape lists) e
shape_at (x ∷ lists) (suc m) l e = ap (λ ns. length x ∷ ns) (shape_at lists m l e)

-- a word that is written keeps how many words each memory has
pub shape_set : (lists : List (List ℕ)) (m a v : ℕ) (l : List ℕ) → l ≡ slice_set (list_at lists m) a v → shape (set lists m l) ≡ shape lists
shape_set lists m a v l is = shape_at lists m l (ap length is ∙ length-set (list_at lists m) a v)
