-- The acts of later stages, by their stages.
use Rattle.std.proofs.Common.{◌≡◌, refl, sym, ap, ap₂, ◌∙◌, subst, ℕ, zero, suc, ◌+◌, ◌-◌, ◌≤◌, ◌<◌, Bool, true, false, ◌&&◌, ◌||◌, List, ◌++◌, length, Option, Some, None, arith, ◌==◌}
use Rattle.std.proofs.lemmas.Bool.{eqb-true, eqb-false}
use Rattle.pdl_semantics.specs.Flat.{Pipe, list_all}
use Rattle.pdl_semantics.specs.Stages.{list_any}
use Rattle.pdl_semantics.specs.Machine.{Thread, State, deeds}
use Rattle.pdl_semantics.specs.Moves.{Act}
use Rattle.pdl_machine_facts.specs.Slots.{here, later_acts, stage_moves}
use Rattle.pdl_machine_facts.proofs.StagewiseActs.{seen, line_acts, after_are}

module _ (p : Pipe) (st : State) (bits : List Bool) where
  -- the act of the thread in a stage
  abbrev pub act_in : ℕ → Thread → Act
  act_in k t = record { stage = k; thread = t; does = deeds p st k t; moves = stage_moves p st bits k }

  module _ (test : Act → Bool) where
    -- of n stages, of which the first is k
    all_line : (n k : ℕ)
        → ((j : ℕ) (t : Thread) → k ≤ j → j < k + n → here p st bits j ≡ Some t → test (act_in j t) ≡ true)
        → list_all test (line_acts p st bits n k) ≡ true
    all_line zero k h = refl
    all_line (suc n) k h = at (here p st bits k) refl (all_line n (suc k) (λ j t low high e. h j t (omega (arith, low)) (omega (arith, high)) e))
      where
        at : (o : Option Thread) → here p st bits k ≡ o → list_all test (line_acts p st bits n (suc k)) ≡ true
            → list_all test (seen p st bits (stage_moves p st bits k) k o ++ line_acts p st bits n (suc k)) ≡ true
        at None e r = r
        at (Some t) e r = ap₂ (λ a b. a && b) (h k t (omega arith) (omega arith) e) r

    one_line : (n k j : ℕ) (t : Thread) → k ≤ j → j < k + n → here p st bits j ≡ Some t → test (act_in j t) ≡ false
        → list_all test (line_acts p st bits n k) ≡ false
    one_line zero k j t low high e f = absurd (omega (arith, low, high))
    one_line (suc n) k j t low high e f = at (k == j) refl (here p st bits k) refl (λ l. one_line n (suc k) j t l (omega (arith, high)) e f)
      where
        no : (b c : Bool) → c ≡ false → (b && c) ≡ false
        no true c g = g
        no false c g = refl

        at : (b : Bool) → (k == j) ≡ b → (o : Option Thread) → here p st bits k ≡ o
            → (suc k ≤ j → list_all test (line_acts p st bits n (suc k)) ≡ false)
            → list_all test (seen p st bits (stage_moves p st bits k) k o ++ line_acts p st bits n (suc k)) ≡ false
        at true g o i r =
            let same = eqb-true k j g in
            let o_is : o ≡ Some t = sym i ∙ ap (here p st bits) same ∙ e in
            subst (λ x. list_all test (seen p st bits (stage_moves p st bits k) k x ++ line_acts p st bits n (suc k)) ≡ false) (sym o_is)
            (ap (λ b. b && list_all test (line_acts p st bits n (suc k))) (subst (λ x. test (act_in x t) ≡ false) (sym same) f))
        at false g None i r = r (let d = eqb-false k j g in omega (arith, low, d))
        at false g (Some u) i r = no (test (act_in k u)) _ (r (let d = eqb-false k j g in omega (arith, low, d)))

    none_line : (n k : ℕ)
        → ((j : ℕ) (t : Thread) → k ≤ j → j < k + n → here p st bits j ≡ Some t → test (act_in j t) ≡ false)
        → list_any test (line_acts p st bits n k) ≡ false
    none_line zero k h = refl
    none_line (suc n) k h = at (here p st bits k) refl (none_line n (suc k) (λ j t low high e. h j t (omega (arith, low)) (omega (arith, high)) e))
      where
        at : (o : Option Thread) → here p st bits k ≡ o → list_any test (line_acts p st bits n (suc k)) ≡ false
            → list_any test (seen p st bits (stage_moves p st bits k) k o ++ line_acts p st bits n (suc k)) ≡ false
        at None e r = r
        at (Some t) e r = ap₂ (λ a b. a || b) (h k t (omega arith) (omega arith) e) r

    some_line : (n k j : ℕ) (t : Thread) → k ≤ j → j < k + n → here p st bits j ≡ Some t → test (act_in j t) ≡ true
        → list_any test (line_acts p st bits n k) ≡ true
    some_line zero k j t low high e f = absurd (omega (arith, low, high))
    some_line (suc n) k j t low high e f = at (k == j) refl (here p st bits k) refl (λ l. some_line n (suc k) j t l (omega (arith, high)) e f)
      where
        yes : (b c : Bool) → c ≡ true → (b || c) ≡ true
        yes true c g = refl
        yes false c g = g

        at : (b : Bool) → (k == j) ≡ b → (o : Option Thread) → here p st bits k ≡ o
            → (suc k ≤ j → list_any test (line_acts p st bits n (suc k)) ≡ true)
            → list_any test (seen p st bits (stage_moves p st bits k) k o ++ line_acts p st bits n (suc k)) ≡ true
        at true g o i r =
            let same = eqb-true k j g in
            let o_is : o ≡ Some t = sym i ∙ ap (here p st bits) same ∙ e in
            subst (λ x. list_any test (seen p st bits (stage_moves p st bits k) k x ++ line_acts p st bits n (suc k)) ≡ true) (sym o_is)
            (ap (λ b. b || list_any test (line_acts p st bits n (suc k))) (subst (λ x. test (act_in x t) ≡ true) (sym same) f))
        at false g None i r = r (let d = eqb-false k j g in omega (arith, low, d))
        at false g (Some u) i r = yes (test (act_in k u)) _ (r (let d = eqb-false k j g in omega (arith, low, d)))

    module _ (count : length st.stages ≡ length p.stages) (k : ℕ) where
      -- where the act of each thread in a later stage passes a test, all acts after stage k do
      pub all_later : ((j : ℕ) (t : Thread) → k < j → j < length p.stages → here p st bits j ≡ Some t → test (act_in j t) ≡ true)
          → list_all test (later_acts p st bits k) ≡ true
      all_later h =
          ap (list_all test) (after_are p st bits k)
          ∙ all_line (length st.stages - suc k) (suc k) (λ j t low high e. h j t (omega (arith, low)) (omega (arith, low, high, count)) e)

      -- where the act of a thread in a later stage fails a test, not all acts after stage k pass it
      pub not_all_later : (j : ℕ) (t : Thread) → k < j → j < length p.stages → here p st bits j ≡ Some t
          → test (act_in j t) ≡ false → list_all test (later_acts p st bits k) ≡ false
      not_all_later j t low high e f =
          ap (list_all test) (after_are p st bits k)
          ∙ one_line (length st.stages - suc k) (suc k) j t (omega (arith, low)) (omega (arith, low, high, count)) e f

      -- where no act of a thread in a later stage passes a test, none after stage k does
      pub none_later : ((j : ℕ) (t : Thread) → k < j → j < length p.stages → here p st bits j ≡ Some t → test (act_in j t) ≡ false)
          → list_any test (later_acts p st bits k) ≡ false
      none_later h =
          ap (list_any test) (after_are p st bits k)
          ∙ none_line (length st.stages - suc k) (suc k) (λ j t low high e. h j t (omega (arith, low)) (omega (arith, low, high, count)) e)

      -- where the act of a thread in a later stage passes a test, some act after stage k does
      pub some_later : (j : ℕ) (t : Thread) → k < j → j < length p.stages → here p st bits j ≡ Some t
          → test (act_in j t) ≡ true → list_any test (later_acts p st bits k) ≡ true
      some_later j t low high e f =
          ap (list_any test) (after_are p st bits k)
          ∙ some_line (length st.stages - suc k) (suc k) j t (omega (arith, low)) (omega (arith, low, high, count)) e f
