-- The tests on the branches of stages say what they are named for.
use Rattle.std.proofs.Common.{◌≡◌, refl, sym, ap, ap₂, ◌∙◌, subst, ℕ, Bool, true, false, ◌&&◌, ◌||◌, not, List, [], ◌∷◌, ◌++◌, ◌==◌, if◌then◌else◌, eq-eqb}
use Rattle.std.proofs.lemmas.Bool.{eqb-true, not-true}
use Rattle.pdl_semantics.specs.Flat.{Branch, Pipe}
use Rattle.pdl_semantics.specs.Stages.{stage_at}
use Rattle.pdl_theory_turns.proofs.Writes.{and_left, and_right}
use Rattle.pdl_theory_turns.specs.Graphs.{Home, Within}
use Rattle.pdl_theory_turns.specs.SoundChecks.{same_branch, same_branches, is_home, has_outer, is_within, all_outer}
use Rattle.pdl_theory.proofs.TestedPaths.{or_more}

same_is : (b c : Branch) → same_branch b c ≡ true → b ≡ c
same_is b c h =
    λ i. record { fork = eqb-true b.fork c.fork (and_left (b.fork == c.fork) _ h) i; first = alike b.first c.first (and_right (b.fork == c.fork) _ h) i }
  where
    alike : (x y : Bool) → (if x then y else not y) ≡ true → x ≡ y
    alike true y k = sym k
    alike false y k = sym (not-true y k)

is_same : (b : Branch) → same_branch b b ≡ true
is_same b = ap₂ (λ a b. a && b) (eq-eqb b.fork b.fork refl) (at b.first)
  where
    at : (b : Bool) → (if b then b else not b) ≡ true
    at true = refl
    at false = refl

-- lists of branches that pass the test of sameness are equal
pub branches_are : (bs cs : List Branch) → same_branches bs cs ≡ true → bs ≡ cs
branches_are [] [] h = refl
branches_are [] (c ∷ cs) h = absurd (cc h)
branches_are (b ∷ bs) [] h = absurd (cc h)
branches_are (b ∷ bs) (c ∷ cs) h = ap₂ (λ x xs. x ∷ xs) (same_is b c (and_left (same_branch b c) _ h)) (branches_are bs cs (and_right (same_branch b c) _ h))

same_self : (bs : List Branch) → same_branches bs bs ≡ true
same_self [] = refl
same_self (b ∷ bs) = ap₂ (λ a b. a && b) (is_same b) (same_self bs)

-- equal lists of branches pass it
pub are_branches : (bs cs : List Branch) → bs ≡ cs → same_branches bs cs ≡ true
are_branches bs cs e = subst (λ l. same_branches bs l ≡ true) e (same_self bs)

-- a stage that passes the test stands in just these branches
pub home_is : (p : Pipe) (c : List Branch) (s : ℕ) → is_home p c s ≡ true → Home p c s
home_is p c s h = branches_are (stage_at p s).branches c h

-- a stage in just these branches passes it
pub is_home_of : (p : Pipe) (c : List Branch) (s : ℕ) → Home p c s → is_home p c s ≡ true
is_home_of p c s h = are_branches (stage_at p s).branches c h

is_outer : (inner c : List Branch) → has_outer (inner ++ c) c ≡ true
is_outer [] [] = refl
is_outer [] (x ∷ c) = ap (λ b. b || has_outer c (x ∷ c)) (same_self (x ∷ c))
is_outer (y ∷ ys) c = or_more (same_branches (y ∷ (ys ++ c)) c) (is_outer ys c)

-- a stage within these branches passes it
pub is_within_of : (p : Pipe) (c : List Branch) (s : ℕ) → Within p c s → is_within p c s ≡ true
is_within_of p c s h = ap (λ l. has_outer l c) h.1 ∙ is_outer h.0 c

-- a test of some branches and of all around them
pub at_outer : (test : List Branch → Bool) (inner c bs : List Branch) → bs ≡ inner ++ c → all_outer test bs ≡ true → test c ≡ true
at_outer test inner c bs e h = at inner c (subst (λ l. all_outer test l ≡ true) e h)
  where
    at : (inner c : List Branch) → all_outer test (inner ++ c) ≡ true → test c ≡ true
    at [] [] k = k
    at [] (x ∷ c) k = and_left (test (x ∷ c)) _ k
    at (y ∷ ys) c k = at ys c (and_right (test (y ∷ (ys ++ c))) _ k)
