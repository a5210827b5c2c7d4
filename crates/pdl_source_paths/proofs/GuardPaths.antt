-- Guards that do not contradict one another are taken on some path.
use Rattle.std.proofs.Common.{◌≡◌, refl, sym, ap, ◌∙◌, ℕ, zero, suc, ◌+◌, ◌<◌, ◌≤◌, Bool, true, false, ◌&&◌, not, List, [], ◌∷◌, length, replicate, if◌then◌else◌, ◌==◌, slice_index, slice_set, arith}
use Rattle.std.proofs.lemmas.Bool.{false≢true, and_from, or_parts, eqb-true, eqb-false}
use Rattle.std.proofs.lemmas.List.{get_or-set_same, get_or-set_other, length-set}
use Rattle.pdl_semantics.specs.Flat.{Guard, all_hold, takes_branch}
use Rattle.pdl_theory_turns.specs.Scans.{against, is_dead}

-- something that holds of each guard
abbrev pub AllGuards : (Guard → Type 0) → List Guard → Type 0
AllGuards P [] = Unit {0}
AllGuards P (g ∷ gs) = P g × AllGuards P gs

-- what follows from a property of guards holds of each of these guards, where the property does
pub guards_map : (P R : Guard → Type 0) → ((g : Guard) → P g → R g) → (gs : List Guard) → AllGuards P gs → AllGuards R gs
guards_map P R f [] h = tt
guards_map P R f (g ∷ gs) h = (f g h.0, guards_map P R f gs h.1)

-- more than each of their variables
abbrev above : List Guard → ℕ
above [] = 0
above (g ∷ gs) = suc g.var + above gs

abbrev truth_of : Bool → ℕ
truth_of b = if b then 1 else 0

-- values by which they are taken, of so many variables
abbrev values_for : ℕ → List Guard → List ℕ
values_for n [] = replicate n 0
values_for n (g ∷ gs) = slice_set (values_for n gs) g.var (truth_of g.first)

long : (n : ℕ) (gs : List Guard) → length (values_for n gs) ≡ n
long n [] = zeros n
  where
    zeros : (k : ℕ) → length {A = ℕ} (replicate k 0) ≡ k
    zeros zero = refl
    zeros (suc k) = ap suc (zeros k)
long n (g ∷ gs) = length-set (values_for n gs) g.var (truth_of g.first) ∙ long n gs

takes_truth : (b : Bool) (v : ℕ) → v ≡ truth_of b → takes_branch b v ≡ true
takes_truth true v e = ap (takes_branch true) e
takes_truth false v e = ap (takes_branch false) e

-- another guard keeps guards that it is not against
still_taken : (g : Guard) (gs : List Guard) (env : List ℕ)
    → g.var < length env → against g gs ≡ false → all_hold gs env ≡ true
    → all_hold gs (slice_set env g.var (truth_of g.first)) ≡ true
still_taken g [] env low h t = refl
still_taken g (k ∷ gs) env low h t =
    let parts = or_parts ((g.var == k.var) && (if g.first then not k.first else k.first)) (against g gs) h in
    let both = and_both (takes_branch k.first (slice_index env k.var)) (all_hold gs env) t in
    and_from _ _ (at (g.var == k.var) refl parts.0 both.0) (still_taken g gs env low parts.1 both.1)
  where
    and_both : (a b : Bool) → (a && b) ≡ true → (a ≡ true) × (b ≡ true)
    and_both true b e = (refl, e)
    and_both false b e = absurd (false≢true e)

    alike : (a b : Bool) → (if a then not b else b) ≡ false → a ≡ b
    alike true true e = refl
    alike true false e = absurd (false≢true (sym e))
    alike false true e = absurd (false≢true (sym e))
    alike false false e = refl

    at : (b : Bool) → (g.var == k.var) ≡ b → ((g.var == k.var) && (if g.first then not k.first else k.first)) ≡ false
        → takes_branch k.first (slice_index env k.var) ≡ true
        → takes_branch k.first (slice_index (slice_set env g.var (truth_of g.first)) k.var) ≡ true
    at true e f i =
        let same = alike g.first k.first (sym (ap (λ x. x && (if g.first then not k.first else k.first)) e) ∙ f) in
        takes_truth k.first (slice_index (slice_set env g.var (truth_of g.first)) k.var)
        (ap (slice_index (slice_set env g.var (truth_of g.first))) (sym (eqb-true g.var k.var e))
        ∙ get_or-set_same env g.var (truth_of g.first) 0 low ∙ ap truth_of same)
    at false e f i = ap (takes_branch k.first) (get_or-set_other env g.var k.var (truth_of g.first) 0 (λ j. eqb-false g.var k.var e (sym j))) ∙ i

taken_for : (n : ℕ) (gs : List Guard) → above gs ≤ n → is_dead gs ≡ false → all_hold gs (values_for n gs) ≡ true
taken_for n [] low h = refl
taken_for n (g ∷ gs) low h =
    let parts = or_parts (against g gs) (is_dead gs) h in
    let len = long n gs in
    and_from _ _
    (takes_truth g.first (slice_index (slice_set (values_for n gs) g.var (truth_of g.first)) g.var)
    (get_or-set_same (values_for n gs) g.var (truth_of g.first) 0 (omega arith)))
    (still_taken g gs (values_for n gs) (omega arith) parts.0 (taken_for n gs (omega arith) parts.1))

-- guards none of which is against another are taken on some path
pub some_path : (gs : List Guard) → is_dead gs ≡ false → (env : List ℕ) × (all_hold gs env ≡ true)
some_path gs h = (values_for (above gs) gs, taken_for (above gs) gs (let i : above gs ≤ above gs = omega arith in i) h)
