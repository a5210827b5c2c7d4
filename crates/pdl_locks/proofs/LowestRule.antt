-- The lowest broken rule of some.
use Rattle.std.proofs.Common.{◌≡◌, ◌∙◌, sym, ap, subst, ℕ, List, [], ◌∷◌, Option, Some, None}
use Rattle.pdl_kit.specs.declared.rule.Rule.{Rule}
use Rattle.pdl_kit.specs.declared.rule.Rule.TheVariants.{L2, L3, L4, L5, L6, L7, L8}
use Rattle.pdl_kit.specs.declared.refusal.Refusal.{Refusal}
use Rattle.pdl_kit.specs.declared.refusal.Refusal.TheVariants.{Refused, NoMemory}
use Rattle.pdl_semantics.specs.Tree.{Pipe}
use Rattle.pdl_rules.specs.Places.{places}
use Rattle.pdl_rules.specs.Refusal.{broken_line, refused_at, first_broken}
use Rattle.pdl_locks.specs.Plan.{Tells, IsRefused}

-- a refusal by the first of the rules, at the line where the pipe breaks it, tells the lowest of them
pub told : (rule : Rule) (rest : List Rule) (p : Pipe) (e : Refusal) (line : Option ℕ) → IsRefused rule line e
    → line ≡ broken_line rule p [] (places p) → Tells (rule ∷ rest) p e
told rule rest p e None h i = absurd h
told rule rest p e (Some line) h i = subst (Tells (rule ∷ rest) p) (sym h) (ap (λ o. refused_at rule o (first_broken rest p)) (sym i))

-- the first is kept
kept : (rule : Rule) (rest : List Rule) (p : Pipe) (line : Option ℕ)
    → line ≡ None → line ≡ broken_line rule p [] (places p) → first_broken (rule ∷ rest) p ≡ first_broken rest p
kept rule rest p line h i = ap (λ o. refused_at rule o (first_broken rest p)) (sym i ∙ h)

-- a refusal that tells the lowest broken one of the later rules tells that of all, where the first is kept
pub later : (rule : Rule) (rest : List Rule) (p : Pipe) (e : Refusal) (line : Option ℕ)
    → line ≡ None → line ≡ broken_line rule p [] (places p) → Tells rest p e → Tells (rule ∷ rest) p e
later rule rest p (Refused r n) line h i t = kept rule rest p line h i ∙ t
later rule rest p NoMemory line h i t = t

-- no rule is broken where the first is kept and none of the later ones is broken
pub none_more : (rule : Rule) (rest : List Rule) (p : Pipe) (line : Option ℕ)
    → line ≡ None → line ≡ broken_line rule p [] (places p) → first_broken rest p ≡ None
    → first_broken (rule ∷ rest) p ≡ None
none_more rule rest p line h i t = kept rule rest p line h i ∙ t

-- the rules on locks after L7
abbrev pub after_l7 : List Rule
after_l7 = L8 ∷ []

-- the rules on locks after L6
abbrev pub after_l6 : List Rule
after_l6 = L7 ∷ after_l7

-- the rules on locks after L5
abbrev pub after_l5 : List Rule
after_l5 = L6 ∷ after_l6

-- the rules on locks after L4
abbrev pub after_l4 : List Rule
after_l4 = L5 ∷ after_l5

-- the rules on locks after L3
abbrev pub after_l3 : List Rule
after_l3 = L4 ∷ after_l4

-- the rules on locks after L2
abbrev pub after_l2 : List Rule
after_l2 = L3 ∷ after_l3

-- the rules on locks after L1
abbrev pub after_l1 : List Rule
after_l1 = L2 ∷ after_l2
