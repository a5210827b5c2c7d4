-- The longest path: a guard that comes again among the later ones need not be tried before.
use Rattle.std.proofs.Common.{◌≡◌, ◌≢◌, ℕ, zero, suc, ◌+◌, ◌-◌, ◌<◌, ◌≤◌, max, eqb, Bool, true, false, ◌||◌, List, [], ◌∷◌, length, set, Option, Some, None, refl, ap, ap₂, sym, ◌∙◌, arith, eqb-true, eq-eqb}
use Rattle.std.specs.List.{list_any}
use Rattle.std.proofs.lemmas.Bool.{false≢true, true≢false}
use Rattle.std.proofs.lemmas.List.{set-set, set_comm}
use Rattle.pdl_semantics.specs.Flat.{Pipe}
use Rattle.pdl_semantics.specs.Stages.{longest, stages_on, onward, goes_to, stage_at}
use Rattle.pdl_stages.specs.Graph.{of_stages}

-- the same value of x, set once more
same_again : (path : List ℕ) (x y v b : ℕ) → y ≡ x → set (set path x v) y b ≡ set path y b
same_again path x y v b e = ap (λ k. set (set path x v) k b) e ∙ set-set path x v b ∙ ap (λ k. set path k b) (sym e)

longest_again : (p : Pipe) (x v : ℕ) (xs : List ℕ) (path : List ℕ)
    → list_any (λ y. eqb y x) xs ≡ true → longest p (set path x v) xs ≡ longest p path xs
longest_again p x v [] path h = absurd (false≢true h)
longest_again p x v (y ∷ ys) path h = by (eqb y x) refl h (λ q k. longest_again p x v ys q k)
  where
    by : (b : Bool) → eqb y x ≡ b → (b || list_any (λ z. eqb z x) ys) ≡ true
        → ((q : List ℕ) → list_any (λ z. eqb z x) ys ≡ true → longest p (set q x v) ys ≡ longest p q ys)
        → max (longest p (set (set path x v) y 0) ys) (longest p (set (set path x v) y 1) ys) ≡ max (longest p (set path y 0) ys) (longest p (set path y 1) ys)
    by true e k again = ap₂ max (ap (λ q. longest p q ys) (same_again path x y v 0 (eqb-true y x e)))
        (ap (λ q. longest p q ys) (same_again path x y v 1 (eqb-true y x e)))
    by false e k again = ap₂ max (later 0) (later 1)
      where
        other : x ≢ y
        other same = absurd (true≢false (sym (eq-eqb y x (sym same)) ∙ e))

        later : (b : ℕ) → longest p (set (set path x v) y b) ys ≡ longest p (set path y b) ys
        later b = ap (λ q. longest p q ys) (set_comm path x y v b other) ∙ again (set path y b) k

-- WHERE ONLY THE STAGES COUNT

onward_same : (f g : ℕ → ℕ) → ((s : ℕ) → f s ≡ g s) → (o : Option ℕ) → onward f o ≡ onward g o
onward_same f g h None = refl
onward_same f g h (Some s) = h s

stages_same : (p : Pipe) (path : List ℕ) (n s : ℕ) → stages_on (of_stages p.stages) path n s ≡ stages_on p path n s
stages_same p path zero s = refl
stages_same p path (suc n) s =
    ap suc (onward_same (stages_on (of_stages p.stages) path n) (stages_on p path n) (λ k. stages_same p path n k) (goes_to (stage_at p s).next path))

-- the greatest number of stages on a path hangs on the stages of a pipe alone
pub longest_same : (p : Pipe) (path : List ℕ) (xs : List ℕ) → longest (of_stages p.stages) path xs ≡ longest p path xs
longest_same p path [] = stages_same p path (length p.stages) 0
longest_same p path (x ∷ xs) = ap₂ max (longest_same p (set path x 0) xs) (longest_same p (set path x 1) xs)

-- with this stage counted, as many are counted in all from the next stage on
pub stage_passed : (p : Pipe) (path : List ℕ) (count limit stage next whole : ℕ)
    → count < limit → goes_to (stage_at p stage).next path ≡ Some next
    → count + stages_on p path (limit - count) stage ≡ whole
    → count + 1 + stages_on p path (limit - (count + 1)) next ≡ whole
stage_passed p path count limit stage next whole h got inv =
    let n = limit - (count + 1) in
    let more : limit - count ≡ suc n = omega arith in
    let split : count + stages_on p path (limit - count) stage ≡ count + suc (stages_on p path n next) =
    ap (λ m. count + stages_on p path m stage) more ∙ ap (λ o. count + suc (onward (stages_on p path n) o)) got in
    omega arith

max_same : (n : ℕ) → max n n ≡ n
max_same n = omega arith

-- a guard that comes again among the later ones leaves the greatest number of stages on a path as it is
pub over_again : (p : Pipe) (path : List ℕ) (x : ℕ) (xs : List ℕ)
    → list_any (λ y. eqb y x) xs ≡ true → longest p path xs ≡ longest p path (x ∷ xs)
over_again p path x xs h =
    sym (ap₂ max (longest_again p x 0 xs path h) (longest_again p x 1 xs path h) ∙ max_same (longest p path xs))
