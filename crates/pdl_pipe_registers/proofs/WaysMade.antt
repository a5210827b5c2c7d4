-- The stages that may lead to a stage, one after the other.
use Rattle.std.proofs.Common.{◌≡◌, ℕ, suc, ◌+◌, ◌-◌, ◌<◌, ◌≤◌, true, false, List, [], ◌∷◌, ◌++◌, sym, ap, ◌∙◌, arith}
use Rattle.std.specs.Prelude.{if◌then◌else◌}
use Rattle.std.proofs.lemmas.List.{append_assoc}
use Rattle.pdl_semantics.specs.Flat.{Pipe}
use Rattle.pdl_semantics.specs.Stages.{stage_at}
use Rattle.pdl_machine_facts.specs.Slots.{leads_to, ways_from}

-- the stages from j on that may lead to q
abbrev pub ways_left : Pipe → ℕ → ℕ → List ℕ
ways_left p q j = ways_from p q (q - j) j

module _ (p : Pipe) (q j : ℕ) (low : j < q) where
  next_left : ways_left p q j ≡ (if leads_to (stage_at p j).next q then j ∷ ways_left p q (j + 1) else ways_left p q (j + 1))
  next_left =
      let n : q - j ≡ suc (q - (j + 1)) = omega (arith, low) in
      let s : suc j ≡ j + 1 = omega arith in
      ap (λ k. ways_from p q k j) n ∙ ap (λ k. if leads_to (stage_at p j).next q then j ∷ ways_from p q (q - (j + 1)) k else ways_from p q (q - (j + 1)) k) s

  -- where stage j leads to stage q, it and those after it are the stages from j on that do
  pub one_leads : (xs : List ℕ) → leads_to (stage_at p j).next q ≡ true → (xs ++ j ∷ []) ++ ways_left p q (j + 1) ≡ xs ++ ways_left p q j
  one_leads xs h =
      append_assoc xs (j ∷ []) (ways_left p q (j + 1))
      ∙ ap (λ ys. xs ++ ys) (sym (next_left ∙ ap (λ b. if b then j ∷ ways_left p q (j + 1) else ways_left p q (j + 1)) h))

  -- where stage j doesn't lead to stage q, those after it are the stages from j on that do
  pub none_leads : leads_to (stage_at p j).next q ≡ false → ways_left p q (j + 1) ≡ ways_left p q j
  none_leads h = sym (next_left ∙ ap (λ b. if b then j ∷ ways_left p q (j + 1) else ways_left p q (j + 1)) h)

-- from stage q on no stage is left that leads to q
pub none_left : (p : Pipe) (q j : ℕ) → q ≤ j → ways_left p q j ≡ []
none_left p q j l = let n : q - j ≡ 0 = omega (arith, l) in ap (λ k. ways_from p q k j) n
