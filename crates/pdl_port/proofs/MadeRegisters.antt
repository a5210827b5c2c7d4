-- The registers of a port as they are made, and the nets of its answers.
use Rattle.std.proofs.Common.{◌≡◌, ℕ, ◌+◌, ◌<◌, List, [], ◌∷◌, ◌++◌, length, get_or, refl, sym, subst, ◌∙◌, arith, length-append}
use Rattle.std.proofs.lemmas.List.{get_or_push, get_or_append_left}
use Rattle.pdl_net.specs.declared.Net.TheVariants.{Reg}
use Rattle.pdl_net.specs.Circuit.{Circuit, HasReg, reg_width, reg_reset}
use Rattle.pdl_net.specs.Signal.{Signal, reg_signal}
use Rattle.pdl_net.specs.Meaning.{IsThere, signal, Means}
use Rattle.pdl_net.specs.Growth.{Extends}
use Rattle.pdl_net.proofs.Keeps.{means_kept}
use Rattle.pdl_build.specs.Change.{IsNewReg}
use Rattle.pdl_port.specs.declared.Answer.{Answer}
use Rattle.pdl_port.specs.declared.layout.PortLayout.{PortLayout}
use Rattle.pdl_port.specs.Laws.{answer_in, no_answer}
use Rattle.pdl_port.specs.Places.{HasPlaces, AreReset, owns_at}
use Rattle.pdl_port.specs.Nets.{AreAnswers, answered_signal, given_signal}
use Rattle.pdl_port.proofs.PortGrowth.{places_kept, reset_kept}
use Rattle.pdl_word.proofs.Numbers.{upto}

-- with one number more, the first n + 1 numbers follow one another
pub numbers_more : (xs : List ℕ) (from n : ℕ)
    → length xs ≡ n → ((k : ℕ) → k < n → get_or xs k 0 ≡ from + k) → (k : ℕ) → k < n + 1
    → get_or (xs ++ (from + n) ∷ []) k 0 ≡ from + k
numbers_more xs from n e h =
    upto (λ k. get_or (xs ++ (from + n) ∷ []) k 0 ≡ from + k) n (get_or_push xs (from + n) 0 n e)
    (λ k lt. get_or_append_left xs ((from + n) ∷ []) 0 k (omega (arith, e, lt)) ∙ h k lt)

-- a new register of an orphan is there for a port that has no place as yet
pub places_none : (c : Circuit) (l : PortLayout) → IsNewReg c l.from 1 0 → HasPlaces c l 0
places_none c l b = record {
  orphan_there = b.there;
  orphan = b.same;
  has_orphan = b.has;
  orphan_one = b.width;
  owns_there = λ k h. absurd (omega arith);
  owner = λ k h. absurd (omega arith);
  has_owns = λ k h. absurd (omega arith);
  owns_one = λ k h. absurd (omega arith);
}

-- with a new register for one place more the first k + 1 places have theirs
pub places_more : (c d : Circuit) (l : PortLayout) (k : ℕ) → HasPlaces c l k → Extends c d
    → IsNewReg d (owns_at l k) 1 0 → HasPlaces d l (k + 1)
places_more c d l k h e o =
    let g = places_kept c d l k h e in
    record {
      orphan_there = g.orphan_there;
      orphan = g.orphan;
      has_orphan = g.has_orphan;
      orphan_one = g.orphan_one;
      owns_there = upto (λ j. IsThere d (Reg (owns_at l j))) k o.there g.owns_there;
      owner = upto (λ j. signal d (Reg (owns_at l j)) ≡ reg_signal 1 (owns_at l j)) k o.same g.owner;
      has_owns = upto (λ j. HasReg d (owns_at l j)) k o.has g.has_owns;
      owns_one = upto (λ j. reg_width d (owns_at l j) ≡ 1) k o.width g.owns_one;
    }

-- a new register of an orphan is 0 at reset, with no place as yet
pub reset_none : (c : Circuit) (l : PortLayout) → IsNewReg c l.from 1 0 → AreReset c l 0
reset_none c l b = record { orphan = b.reset; owns = λ k h. absurd (omega arith) }

-- with a new register for one place more all of the first k + 1 are 0 at reset
pub reset_more : (c d : Circuit) (l : PortLayout) (k : ℕ) → HasPlaces c l k → AreReset c l k → Extends c d
    → IsNewReg d (owns_at l k) 1 0 → AreReset d l (k + 1)
reset_more c d l k h a e o =
    let g = reset_kept c d l k h a e in
    record {
      orphan = g.orphan;
      owns = upto (λ j. reg_reset d (owns_at l j) ≡ 0) k o.reset g.owns;
    }

-- before the first place there are no answers
pub answers_none : (c : Circuit) (l : PortLayout) (reply word : Signal) → AreAnswers c l reply word [] 0
answers_none c l reply word = record {
  count = refl;
  answered = λ k h. absurd (omega arith);
  given = λ k h. absurd (omega arith);
  value = λ k h. absurd (omega arith);
}

-- with the answers of one place more the nets of the first n + 1 places say what they should
pub answers_more : (a b : Circuit) (l : PortLayout) (reply word : Signal) (xs : List Answer) (x : Answer) (n : ℕ)
    → AreAnswers a l reply word xs n → Extends a b → Means b x.answered (answered_signal l reply n)
    → Means b x.given (given_signal l reply n) → Means b x.value word → AreAnswers b l reply word (xs ++ x ∷ []) (n + 1)
answers_more a b l reply word xs x n h e p q r =
    let here : answer_in (xs ++ x ∷ []) n ≡ x = get_or_push xs x no_answer n h.count in
    let before : (k : ℕ) → k < n → answer_in (xs ++ x ∷ []) k ≡ answer_in xs k =
    λ k lt. get_or_append_left xs (x ∷ []) no_answer k (omega (arith, h.count, lt)) in
    let P : ℕ → Answer → Type 0 = λ k y. Means b y.answered (answered_signal l reply k) in
    let Q : ℕ → Answer → Type 0 = λ k y. Means b y.given (given_signal l reply k) in
    let R : ℕ → Answer → Type 0 = λ k y. Means b y.value word in
    record {
      count = length-append xs (x ∷ []) ∙ omega (arith, h.count);
      answered =
          upto (λ k. P k (answer_in (xs ++ x ∷ []) k)) n (subst (P n) (sym here) p)
          (λ k lt. subst (P k) (sym (before k lt)) (means_kept a b _ _ e (h.answered k lt)));
      given =
          upto (λ k. Q k (answer_in (xs ++ x ∷ []) k)) n (subst (Q n) (sym here) q)
          (λ k lt. subst (Q k) (sym (before k lt)) (means_kept a b _ _ e (h.given k lt)));
      value =
          upto (λ k. R k (answer_in (xs ++ x ∷ []) k)) n (subst (R n) (sym here) r)
          (λ k lt. subst (R k) (sym (before k lt)) (means_kept a b _ _ e (h.value k lt)));
    }
