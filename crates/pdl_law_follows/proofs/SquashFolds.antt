-- What stands in a signal for each of the stages that may squash, taken together: whether one of them squashes or removes, and what the one that squashes has.
use Rattle.std.proofs.Common.{◌≡◌, refl, ap, ap₂, ◌∙◌, ℕ, inl, inr, Bool, true, false, ◌&&◌, ◌||◌, not, List, [], ◌∷◌, ◌==◌, nat_lt}
use Rattle.std.specs.Prelude.{if◌then◌else◌, filter}
use Rattle.std.proofs.lemmas.Bool.{eqb-true, eqb-false}
use Rattle.pdl_word.specs.Words.{bit}
use Rattle.pdl_word.specs.Each.{Each}
use Rattle.pdl_word.proofs.Each.{each_weaker}
use Rattle.pdl_semantics.specs.Stages.{list_any}
use Rattle.pdl_net.specs.Circuit.{State}
use Rattle.pdl_net.specs.Signal.{Signal, mux_signal}
use Rattle.pdl_law_parts.specs.Walk.{one, zero_bit}
use Rattle.pdl_law_parts.proofs.Signals.{mux_at, one_is, zero_is}
use Rattle.pdl_machine_inflight.specs.InFlight.{Some-of}
use Rattle.pdl_law_sides.specs.Sides.{unsquashed, any_of, of_squasher}

-- whether none of some is so, where the first counts or not
none_more : (s : State) (b : Bool) (f rest : Signal) (q r : Bool) → (b ≡ true → f.value s ≡ bit q) → rest.value s ≡ bit (not r)
    → (if b then mux_signal f zero_bit rest else rest).value s ≡ bit (not ((b && q) || r))
none_more s false f rest q r h e = e
none_more s true f rest q r h e = mux_at s f zero_bit rest q (h refl) ∙ ap₂ (λ x y. if q then x else y) (zero_is s) e ∙ neither q
  where
    neither : (q : Bool) → (if q then 0 else bit (not r)) ≡ bit (not (q || r))
    neither true = refl
    neither false = refl

each_passed : (test : ℕ → Bool) (P : ℕ → Type 0) (zs : List ℕ) → Each (λ z. test z ≡ true → P z) zs → Each P (filter test zs)
each_passed test P [] h = tt
each_passed test P (z ∷ zs) h = at (test z) refl (each_passed test P zs h.1)
  where
    at : (b : Bool) → test z ≡ b → Each P (filter test zs) → Each P (if b then z ∷ filter test zs else filter test zs)
    at true e r = (h.0 e, r)
    at false e r = r

any_passed : (test q : ℕ → Bool) (zs : List ℕ) → list_any q (filter test zs) ≡ list_any (λ (z : ℕ). test z && q z) zs
any_passed test q [] = refl
any_passed test q (z ∷ zs) = at (test z) (any_passed test q zs)
  where
    at : (b : Bool) → list_any q (filter test zs) ≡ list_any (λ (y : ℕ). test y && q y) zs
        → list_any q (if b then z ∷ filter test zs else filter test zs) ≡ ((b && q z) || list_any (λ (y : ℕ). test y && q y) zs)
    at true r = ap (λ c. q z || c) r
    at false r = r

module _ (s : State) (q : ℕ → Bool) where
  -- of each of these stages that passes a test a signal tells whether it is so
  abbrev pub Tells : (ℕ → Bool) → (ℕ → Signal) → List ℕ → Type 0
  Tells test f zs = Each (λ z. test z ≡ true → (f z).value s ≡ bit (q z)) zs

  all_told : (f : ℕ → Signal) (zs : List ℕ) → Each (λ z. (f z).value s ≡ bit (q z)) zs → (any_of zs f).value s ≡ bit (list_any q zs)
  all_told f [] h = zero_is s
  all_told f (z ∷ []) h = h.0 ∙ ap bit (alone (q z))
    where
      alone : (b : Bool) → b ≡ (b || false)
      alone true = refl
      alone false = refl
  all_told f (z ∷ y ∷ zs) h =
      mux_at s (f z) one (any_of (y ∷ zs) f) (q z) h.0 ∙ ap₂ (λ m n. if q z then m else n) (one_is s) (all_told f (y ∷ zs) h.1) ∙ either (q z)
    where
      either : (b : Bool) → (if b then 1 else bit (list_any q (y ∷ zs))) ≡ bit (b || list_any q (y ∷ zs))
      either true = refl
      either false = refl

  -- whether it is so of one of those that pass the test
  pub any_told : (test : ℕ → Bool) (f : ℕ → Signal) (zs : List ℕ) → Tells test f zs
      → (any_of (filter test zs) f).value s ≡ bit (list_any (λ (z : ℕ). test z && q z) zs)
  any_told test f zs h =
      all_told f (filter test zs) (each_passed test (λ z. (f z).value s ≡ bit (q z)) zs h) ∙ ap bit (any_passed test q zs)

  -- and of all
  pub some_told : (f : ℕ → Signal) (zs : List ℕ) → Tells (λ z. true) f zs → (any_of zs f).value s ≡ bit (list_any (λ (z : ℕ). true && q z) zs)
  some_told f zs h = all_told f zs (each_weaker (λ z. true ≡ true → (f z).value s ≡ bit (q z)) (λ z. (f z).value s ≡ bit (q z)) (λ z k. k refl) zs h)

  -- whether none of those that are later squashes
  pub unsquashed_at : (squash : ℕ → Signal) (k : ℕ) (zs : List ℕ) → Tells (nat_lt k) squash zs
      → (unsquashed zs k squash).value s ≡ bit (not (list_any (λ (z : ℕ). nat_lt k z && q z) zs))
  unsquashed_at squash k [] h = one_is s
  unsquashed_at squash k (z ∷ zs) h = none_more s (nat_lt k z) (squash z) (unsquashed zs k squash) (q z) _ h.0 (unsquashed_at squash k zs h.1)

  -- what the one that squashes has
  pub of_squasher_at : (squash of : ℕ → Signal) (none : Signal) (z : ℕ) → q z ≡ true → ((j : ℕ) → (j ≡ z → ⊥) → q j ≡ false) → (zs : List ℕ)
      → Some-of (λ (y : ℕ). y ≡ z) zs → Tells (λ z. true) squash zs → (of_squasher zs squash of none).value s ≡ (of z).value s
  of_squasher_at squash of none z on alone [] i h = absurd i
  of_squasher_at squash of none z on alone (y ∷ []) (inl e) h = ap (λ j. (of j).value s) e
  of_squasher_at squash of none z on alone (y ∷ []) (inr i) h = absurd i
  of_squasher_at squash of none z on alone (y ∷ x ∷ zs) i h =
      mux_at s (squash y) (of y) (of_squasher (x ∷ zs) squash of none) (q y) (h.0 refl) ∙ at (y == z) refl i
      (λ j. of_squasher_at squash of none z on alone (x ∷ zs) j h.1)
    where
      at : (b : Bool) → (y == z) ≡ b → Some-of (λ (w : ℕ). w ≡ z) (y ∷ x ∷ zs)
          → (Some-of (λ (w : ℕ). w ≡ z) (x ∷ zs) → (of_squasher (x ∷ zs) squash of none).value s ≡ (of z).value s)
          → (if q y then (of y).value s else (of_squasher (x ∷ zs) squash of none).value s) ≡ (of z).value s
      at true e j rest =
          let same = eqb-true y z e in
          ap (λ b. if b then (of y).value s else (of_squasher (x ∷ zs) squash of none).value s) (ap q same ∙ on) ∙ ap (λ w. (of w).value s) same
      at false e (inl j) rest = absurd (eqb-false y z e j)
      at false e (inr j) rest =
          ap (λ b. if b then (of y).value s else (of_squasher (x ∷ zs) squash of none).value s) (alone y (eqb-false y z e)) ∙ rest j

-- where what is asked of each beside is one truth value, it may be asked last
pub any_both : (test q : ℕ → Bool) (o : Bool) (zs : List ℕ)
    → list_any (λ (z : ℕ). test z && (q z && o)) zs ≡ (list_any (λ (z : ℕ). test z && q z) zs && o)
any_both test q o [] = refl
any_both test q o (z ∷ zs) =
    ap (λ r. (test z && (q z && o)) || r) (any_both test q o zs) ∙ table (test z) (q z) (list_any (λ (y : ℕ). test y && q y) zs) o
  where
    table : (a b r o : Bool) → ((a && (b && o)) || (r && o)) ≡ (((a && b) || r) && o)
    table false b r o = refl
    table true false r o = refl
    table true true r true = refl
    table true true true false = refl
    table true true false false = refl
