-- Last stages of variables, as one use after another is noted.
use Rattle.std.proofs.Common.{◌≡◌, ◌∙◌, ℕ, zero, suc, ◌+◌, ◌-◌, ◌<◌, ◌≤◌, Bool, true, false, List, ◌∷◌, length, drop, get_or, replicate, None, refl, sym, ap, ap₂, subst, inl, inr, arith}
use Rattle.std.specs.Prelude.{◌&&◌, ◌||◌, ◌⊎◌, Option, nat_le}
use Rattle.std.proofs.lemmas.Bool.Decides.{leb_tells}
use Rattle.std.proofs.lemmas.List.{at_drop_more}
use Rattle.pdl_semantics.specs.Flat.{Stage}
use Rattle.pdl_form.specs.declared.form.FlatStage.{FlatStage}
use Rattle.pdl_form.specs.View.{stage_view, stages_view}
use Rattle.pdl_law_parts.specs.Lives.{forks_by}
use Rattle.pdl_pipe_lives.specs.Needs.{any_forks_by, lasts_at, AreNoted, IsNoted, AreNotedBut}

or_or : (a b c : Bool) → ((a || b) || c) ≡ (a || (b || c))
or_or true b c = refl
or_or false b c = refl

either : (l a b : Bool) → (l && (a || b)) ≡ ((l && a) || (l && b))
either true a b = refl
either false a b = refl

module _ (a b c : List (Option ℕ)) (s : ℕ) (u v w : ℕ → Bool) where
  -- what a stage uses by two ways is noted by one after the other
  pub both_noted : IsNoted a b s u → IsNoted b c s v → ((x : ℕ) → w x ≡ (u x || v x)) → IsNoted a c s w
  both_noted h g e = record {
    count = g.count ∙ h.count;
    last = λ k x low. g.last k x (subst (λ n. x < n) (sym h.count) low)
        ∙ ap (λ t. t || (nat_le k s && v x)) (h.last k x low)
        ∙ or_or (lasts_at a k x) (nat_le k s && u x) (nat_le k s && v x)
        ∙ ap (λ t. lasts_at a k x || t) (sym (either (nat_le k s) (u x) (v x)) ∙ ap (λ t. nat_le k s && t) (sym (e x)));
  }

-- what is used in one of two ways is noted by one after the other
pub all_noted : (a b c : List (Option ℕ)) (u v : ℕ → ℕ → Bool) → AreNoted a b u → AreNoted b c v → AreNoted a c (λ k x. u k x || v k x)
all_noted a b c u v h g = record {
  count = g.count ∙ h.count;
  last = λ k x low. g.last k x (subst (λ n. x < n) (sym h.count) low)
      ∙ ap (λ t. t || v k x) (h.last k x low)
      ∙ or_or (lasts_at a k x) (u k x) (v k x);
}

-- a variable that isn't used lives nowhere
pub unused : (n k x : ℕ) → lasts_at (replicate n None) k x ≡ false
unused zero k x = refl
unused (suc n) k zero = refl
unused (suc n) k (suc x) = unused n k x

module _ (a b c : List (Option ℕ)) (u rest more whole : ℕ → ℕ → Bool) where
  -- one use of what is left is noted
  pub but_more : AreNotedBut a b rest whole → AreNoted b c u → ((k x : ℕ) → rest k x ≡ (u k x || more k x)) → AreNotedBut a c more whole
  but_more h g e = record {
    count = g.count ∙ h.count;
    last = λ k x low. ap (λ t. t || more k x) (g.last k x (subst (λ n. x < n) (sym h.count) low))
        ∙ or_or (lasts_at b k x) (u k x) (more k x)
        ∙ ap (λ t. lasts_at b k x || t) (sym (e k x))
        ∙ h.last k x low;
  }

-- a stage and those after it, of which the stage is the i-th, fork from the k-th on where the stage does, if k is not higher, or a later one
forks_more : (k i x : ℕ) (s : Stage) (ss : List Stage)
    → any_forks_by x (drop (k - i) (s ∷ ss)) ≡ ((nat_le k i && forks_by s.next x) || any_forks_by x (drop (k - (i + 1)) ss))
forks_more k i x s ss = by (leb_tells k i)
  where
    by : ((nat_le k i ≡ true) × (k ≤ i)) ⊎ ((nat_le k i ≡ false) × (i < k))
        → any_forks_by x (drop (k - i) (s ∷ ss)) ≡ ((nat_le k i && forks_by s.next x) || any_forks_by x (drop (k - (i + 1)) ss))
    by (inl q) =
        let low : k ≤ i = q.1 in
        let here : k - i ≡ 0 = omega arith in
        let next : k - (i + 1) ≡ 0 = omega arith in
        ap (λ n. any_forks_by x (drop n (s ∷ ss))) here
        ∙ sym (ap₂ (λ t n. (t && forks_by s.next x) || any_forks_by x (drop n ss)) q.0 next)
    by (inr q) =
        let low : i < k = q.1 in
        let here : k - i ≡ suc (k - (i + 1)) = omega arith in
        ap (λ n. any_forks_by x (drop n (s ∷ ss))) here
        ∙ sym (ap (λ t. (t && forks_by s.next x) || any_forks_by x (drop (k - (i + 1)) ss)) q.0)

-- the stages from the i-th on fork from the k-th on where the i-th does, if k is not higher, or a later one
pub forks_next : (k i x : ℕ) (ss : List FlatStage) (d : FlatStage) → i < length ss
    → any_forks_by x (drop (k - i) (stages_view (drop i ss)))
    ≡ ((nat_le k i && forks_by (stage_view (get_or ss i d)).next x) || any_forks_by x (drop (k - (i + 1)) (stages_view (drop (i + 1) ss))))
forks_next k i x ss d low =
    at_drop_more (λ (l : List FlatStage). any_forks_by x (drop (k - i) (stages_view l))) ss i d low
    ∙ forks_more k i x (stage_view (get_or ss i d)) (stages_view (drop (i + 1) ss))
