-- What holds of each element of a list, and views by their numbers.
use Rattle.std.proofs.Common.{◌≡◌, ℕ, zero, suc, ◌+◌, ◌<◌, ◌≤◌, true, false, ◌⊎◌, inl, inr, List, [], ◌∷◌, length, get_or, refl, ap, ◌∙◌, subst, arith, leb}
use Rattle.std.proofs.lemmas.Bool.Decides.{leb_tells}
use Rattle.std.proofs.lemmas.List.{get_or-map}
use Rattle.pdl_net.specs.Circuit.{Circuit}
use Rattle.pdl_pipe_registers.specs.declared.nets.StageNets.{StageNets}
use Rattle.pdl_pipe_registers.specs.Stages.{view_in, views_in, no_view}
use Rattle.pdl_word.specs.Each.{Each}

-- what holds of each element of a list holds of its i-th one
pub each_at : {X : Type 0} (P : X → Type 0) (xs : List X) (i : ℕ) (d : X) → i < length xs → get_or xs i d ≡ d → Each P xs → P d
each_at P [] i d l e h = absurd (omega (arith, l))
each_at P (x ∷ xs) zero d l e h = subst P e h.0
each_at P (x ∷ xs) (suc i) d l e h = each_at P xs i d (omega (arith, l)) e h.1

-- what follows from a property of each element holds of each element
pub each_map : {X : Type 0} (P Q : X → Type 0) (xs : List X) → ((x : X) → P x → Q x) → Each P xs → Each Q xs
each_map P Q [] f h = tt
each_map P Q (x ∷ xs) f h = (f x h.0, each_map P Q xs f h.1)

-- the k-th view is that of the k-th stage
pub view_at : (c : Circuit) (ss : List StageNets) (k : ℕ) (s : StageNets)
    → k < length ss → get_or ss k s ≡ s → views_in c ss k ≡ view_in c s
view_at c ss k s l e = get_or-map (view_in c) ss k s no_view l ∙ ap (view_in c) e

-- the number after one below n is below n or is n
pub below_or : (k n : ℕ) → k < n → (suc k < n) ⊎ (suc k ≡ n)
below_or k n l = at (leb_tells (suc (suc k)) n)
  where
    at : ((leb (suc (suc k)) n ≡ true) × (suc (suc k) ≤ n)) ⊎ ((leb (suc (suc k)) n ≡ false) × (n < suc (suc k))) → (suc k < n) ⊎ (suc k ≡ n)
    at (inl q) = let r = q.1 in inl (omega (arith, r))
    at (inr q) = let r = q.1 in inr (omega (arith, r, l))

-- what holds from k + 1 on and at k holds from k on
pub from_here : (P : ℕ → Type 0) (k j : ℕ) → k ≤ j → (k < j → P j) → P k → P j
from_here P k j l later here = at (leb_tells (k + 1) j)
  where
    at : ((leb (k + 1) j ≡ true) × (k + 1 ≤ j)) ⊎ ((leb (k + 1) j ≡ false) × (j < k + 1)) → P j
    at (inl q) = let r = q.1 in later (omega (arith, r))
    at (inr q) = let r = q.1 in let e : k ≡ j = omega (arith, r, l) in subst P e here

-- a stage stands at each number
pub some_stage : (ss : List StageNets) (k : ℕ) → k < length ss → (s : StageNets) × (get_or ss k s ≡ s)
some_stage [] k l = absurd (omega (arith, l))
some_stage (s ∷ ss) zero l = (s, refl)
some_stage (s ∷ ss) (suc k) l = some_stage ss k (omega (arith, l))

-- what holds below i and at i holds below i + 1
pub up_to : (P : ℕ → Type 0) (i : ℕ) → ((j : ℕ) → j < i → P j) → P i → (j : ℕ) → j < i + 1 → P j
up_to P i h k j l = at (leb_tells (j + 1) i)
  where
    at : ((leb (j + 1) i ≡ true) × (j + 1 ≤ i)) ⊎ ((leb (j + 1) i ≡ false) × (i < j + 1)) → P j
    at (inl q) = let r = q.1 in h j (omega (arith, r))
    at (inr q) = let r = q.1 in let e : i ≡ j = omega (arith, r, l) in subst P e k
