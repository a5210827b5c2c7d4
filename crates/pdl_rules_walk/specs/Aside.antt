-- A place that isn't on the path.
use Rattle.std.proofs.Common.{◌≡◌, sym, ap, ◌∙◌, subst, ℕ, zero, suc, ◌+◌, ◌<◌, ◌≤◌, false, Bool, ◌&&◌, List, [], ◌∷◌, ◌++◌, take, length, slice_get, Some, arith, ◌⊎◌, inl, inr}
use Rattle.std.proofs.Math.Nat.{eq-or-lt_of_le}
use Rattle.pdl_rules.specs.Places.{Place, Guard, on_path}
use Rattle.pdl_rules.specs.Parts.{is_some_and}
use Rattle.pdl_paths.specs.Masks.{path_of}
use Rattle.pdl_rules_on_paths.specs.Lowest.{on_this, breaks_at}
use Rattle.pdl_rules_on_paths.proofs.Nth.{take_next}
use Rattle.pdl_rules_on_paths.proofs.Steps.{up_to}
use Rattle.pdl_rules_walk.specs.Course.{by_bits, IsUnderWay, IsOnPath}

-- a place that isn't on the path breaks nothing there
pub off : (breaks : List Guard → List Place → Place → Bool) (path : List Guard) (xs : List Place) (k : ℕ) (x : Place)
    → slice_get xs k ≡ Some x → on_path path x ≡ false → breaks_at (on_this breaks path) xs k ≡ false
off breaks path xs k x got not_on = ap (is_some_and (on_this breaks path (take k xs))) got ∙ ap (λ o. o && breaks path (take k xs) x) not_on

-- one place more, which breaks nothing
pub one_more : (test : ℕ → ℕ → Bool) (S T : Type 0) (path k end lowest : ℕ) → IsUnderWay test S path k end lowest
    → test path k ≡ false → (k < lowest → S → T) → IsUnderWay test T path (k + 1) end lowest
one_more test S T path k end lowest h e step = record {
  earlier = h.earlier;
  passed = λ j l m. at j m (eq-or-lt_of_le (up_to j k l));
  state = λ l. let below : k < lowest = omega (arith, l) in let within : k ≤ lowest = omega (arith, l) in step below (h.state within);
}
  where
    at : (j : ℕ) → j < lowest → (j ≡ k) ⊎ (j < k) → test path j ≡ false
    at j m (inl i) = ap (test path) i ∙ e
    at j m (inr l) = h.passed j l m

-- a place that isn't on the path is passed, where what stands before it stands after it
pub aside : (breaks : List Guard → List Place → Place → Bool) (Stands : List Guard → List Place → Type 0)
    (gs : List Guard) (xs : List Place) (bits k lowest : ℕ) (x : Place)
    → ((path : List Guard) (before : List Place) → on_path path x ≡ false → Stands path before → Stands path (before ++ x ∷ []))
    → slice_get xs k ≡ Some x → on_path (path_of gs bits) x ≡ false → IsOnPath breaks Stands gs xs bits k lowest
    → IsOnPath breaks Stands gs xs bits (k + 1) lowest
aside breaks Stands gs xs bits k lowest x skips got not_on h =
    one_more (by_bits breaks gs xs) (Stands (path_of gs bits) (take k xs)) (Stands (path_of gs bits) (take (k + 1) xs)) bits k (length xs) lowest h
    (off breaks (path_of gs bits) xs k x got not_on)
    (λ l stands. subst (Stands (path_of gs bits)) (take_next xs k x got) (skips (path_of gs bits) (take k xs) not_on stands))
