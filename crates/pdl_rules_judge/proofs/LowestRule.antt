-- The lowest broken rule of a list of rules is that of its first part, or else that of the rest.
use Rattle.std.proofs.Common.{◌≡◌, refl, ℕ, List, [], ◌∷◌, ◌++◌, Option, Some, None}
use Rattle.pdl_kit.specs.declared.rule.Rule.{Rule}
use Rattle.pdl_semantics.specs.Tree.{Pipe}
use Rattle.pdl_rules.specs.Places.{places}
use Rattle.pdl_rules.specs.Refusal.{Refused, broken_line, refused_at, first_broken}

-- after rules that are kept the others decide
pub after_kept : (rs others : List Rule) (p : Pipe) → first_broken rs p ≡ None → first_broken (rs ++ others) p ≡ first_broken others p
after_kept [] others p e = refl
after_kept (r ∷ rs) others p e = go (broken_line r p [] (places p)) (λ h. after_kept rs others p h) e
  where
    go : (o : Option ℕ) → (first_broken rs p ≡ None → first_broken (rs ++ others) p ≡ first_broken others p)
        → refused_at r o (first_broken rs p) ≡ None → refused_at r o (first_broken (rs ++ others) p) ≡ first_broken others p
    go (Some line) later h = cc
    go None later h = later h

-- a broken one is the lowest, whatever the others
pub first_stays : (rs others : List Rule) (p : Pipe) (refused : Refused)
    → first_broken rs p ≡ Some refused → first_broken (rs ++ others) p ≡ Some refused
first_stays [] others p refused e = cc
first_stays (r ∷ rs) others p refused e = go (broken_line r p [] (places p)) (λ h. first_stays rs others p refused h) e
  where
    go : (o : Option ℕ) → (first_broken rs p ≡ Some refused → first_broken (rs ++ others) p ≡ Some refused)
        → refused_at r o (first_broken rs p) ≡ Some refused → refused_at r o (first_broken (rs ++ others) p) ≡ Some refused
    go (Some line) later h = h
    go None later h = later h
