-- Paths one after another, and what some path breaks.
use Rattle.std.proofs.Common.{◌≡◌, refl, sym, ap, ◌∙◌, subst, ℕ, ◌+◌, ◌<◌, ◌≤◌, ◌^◌, Bool, true, false, ◌&&◌, List, take, length, slice_get, Option, Some, None, arith, ◌⊎◌, inl, inr}
use Rattle.std.proofs.Math.Nat.{eq-or-lt_of_le}
use Rattle.std.proofs.lemmas.Bool.{both_ways, false_from_ne_true}
use Rattle.pdl_rules.specs.Places.{Place, Guard, on_path}
use Rattle.pdl_rules.specs.Parts.{is_some_and}
use Rattle.pdl_paths.specs.Masks.{path_of}
use Rattle.pdl_paths.proofs.Choices.{some_path, has_bits}
use Rattle.pdl_rules_on_paths.specs.Lowest.{on_this, on_some, breaks_at, IsLowest}
use Rattle.pdl_rules_on_paths.proofs.Steps.{up_to}
use Rattle.pdl_rules_walk.specs.Course.{by_bits, IsLowestSoFar, IsUnderWay}

-- before the first path no place was found
pub none_yet : (test : ℕ → ℕ → Bool) (end k : ℕ) → k ≡ end → IsLowestSoFar test 0 end k
none_yet test end k e = record { within = omega (arith, e); bits = 0; found = λ l. absurd (omega (arith, l, e)); others = λ b j l m. absurd (omega (arith, l)) }

-- before the first place of a path
pub begun : (test : ℕ → ℕ → Bool) (S : Type 0) (path end lowest : ℕ) → IsLowestSoFar test path end lowest → S
    → IsUnderWay test S path 0 end lowest
begun test S path end lowest h s = record { earlier = h; passed = λ j l m. absurd (omega (arith, l)); state = λ l. s }

-- a place that isn't below the lowest so far leaves that as it is
pub past : (test : ℕ → ℕ → Bool) (S T : Type 0) (path k end lowest : ℕ)
    → lowest ≤ k → IsUnderWay test S path k end lowest → IsUnderWay test T path (k + 1) end lowest
past test S T path k end lowest low h =
    record { earlier = h.earlier; passed = λ j l m. h.passed j (omega (arith, m, low)) m; state = λ l. absurd (omega (arith, l, low)) }

-- a place below it that breaks the rule
pub broken : (test : ℕ → ℕ → Bool) (S T : Type 0) (path k end lowest : ℕ)
    → k < lowest → test path k ≡ true → IsUnderWay test S path k end lowest → IsUnderWay test T path (k + 1) end k
broken test S T path k end lowest low e h =
    let wide : lowest ≤ end = h.earlier.within in
    record {
      earlier = record {
        within = omega (arith, low, wide);
        bits = path;
        found = λ l. e;
        others = λ b j l m. h.earlier.others b j l (omega (arith, m, low));
      };
      passed = λ j l m. h.passed j m (omega (arith, m, low));
      state = λ l. absurd (omega (arith, l));
    }

-- after the last place of a path the lowest place found is that of the paths so far and this one
pub walked : (test : ℕ → ℕ → Bool) (S : Type 0) (path end lowest : ℕ) → IsUnderWay test S path end end lowest
    → IsLowestSoFar test (path + 1) end lowest
walked test S path end lowest h =
    record { within = h.earlier.within; bits = h.earlier.bits; found = h.earlier.found; others = λ b j l m. at b j m (eq-or-lt_of_le (up_to b path l)) }
  where
    wide : lowest ≤ end
    wide = h.earlier.within

    at : (b j : ℕ) → j < lowest → (b ≡ path) ⊎ (b < path) → test b j ≡ false
    at b j m (inr l) = h.earlier.others b j l m
    at b j m (inl e) = ap (λ c. test c j) e ∙ h.passed j (omega (arith, m, wide)) m

all_paths : (breaks : List Guard → List Place → Place → Bool) (gs : List Guard) (before : List Place) (o : Option Place)
    → ((b : ℕ) → b < 2 ^ length gs → is_some_and (on_this breaks (path_of gs b) before) o ≡ false)
    → is_some_and (on_some breaks gs before) o ≡ false
all_paths breaks gs before None h = refl
all_paths breaks gs before (Some x) h =
    false_from_ne_true _ (λ e. let s = has_bits (λ path. on_path path x && breaks path before x) gs e in both_ways _ (h s.bits s.below) s.passes)

one_of_them : (breaks : List Guard → List Place → Place → Bool) (gs : List Guard) (before : List Place) (o : Option Place) (b : ℕ)
    → is_some_and (on_this breaks (path_of gs b) before) o ≡ true → is_some_and (on_some breaks gs before) o ≡ true
one_of_them breaks gs before None b e = e
one_of_them breaks gs before (Some x) b e = some_path (λ path. on_path path x && breaks path before x) gs b e

-- after all paths the lowest place found is the lowest that breaks the rule on some path
pub every_path : (breaks : List Guard → List Place → Place → Bool) (gs : List Guard) (xs : List Place) (c end k : ℕ) → c ≡ 2 ^ length gs
    → IsLowestSoFar (by_bits breaks gs xs) c end k → IsLowest (breaks_at (on_some breaks gs) xs) end k
every_path breaks gs xs c end k e h =
    record {
      within = h.within;
      found = λ l. one_of_them breaks gs (take k xs) (slice_get xs k) h.bits (h.found l);
      others = λ j l. all_paths breaks gs (take j xs) (slice_get xs j) (λ b m. h.others b j (subst (λ n. b < n) (sym e) m) l);
    }

-- a place on the path breaks the rule just where the test passes of it and the places before it
pub on : (breaks : List Guard → List Place → Place → Bool) (path : List Guard) (xs : List Place) (k : ℕ) (x : Place) (b : Bool)
    → slice_get xs k ≡ Some x → on_path path x ≡ true → b ≡ breaks path (take k xs) x
    → breaks_at (on_this breaks path) xs k ≡ b
on breaks path xs k x b got is_on e = ap (is_some_and (on_this breaks path (take k xs))) got ∙ ap (λ o. o && breaks path (take k xs) x) is_on ∙ sym e
