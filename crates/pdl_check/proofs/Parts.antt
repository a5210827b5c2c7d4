-- Where none of some rules is broken, none of the first ones is, nor of the others.
use Rattle.std.proofs.Common.{◌≡◌, refl, ℕ, List, [], ◌∷◌, ◌++◌, Option, Some, None}
use Rattle.pdl_kit.specs.declared.rule.Rule.{Rule}
use Rattle.pdl_semantics.specs.Tree.{Pipe}
use Rattle.pdl_rules.specs.Places.{places}
use Rattle.pdl_rules.specs.Refusal.{broken_line, refused_at, first_broken}

-- where none of two lists of rules is broken, none of the first is, and none of the second
pub kept_parts : (rs others : List Rule) (p : Pipe)
    → first_broken (rs ++ others) p ≡ None → (first_broken rs p ≡ None) × (first_broken others p ≡ None)
kept_parts [] others p e = (refl, e)
kept_parts (r ∷ rs) others p e = go (broken_line r p [] (places p)) (λ h. kept_parts rs others p h) e
  where
    go : (o : Option ℕ) → (first_broken (rs ++ others) p ≡ None → (first_broken rs p ≡ None) × (first_broken others p ≡ None))
        → refused_at r o (first_broken (rs ++ others) p) ≡ None → (refused_at r o (first_broken rs p) ≡ None) × (first_broken others p ≡ None)
    go (Some line) later h = cc
    go None later h = later h
