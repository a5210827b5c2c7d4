-- A source that breaks no rule breaks none without its updates.
use Rattle.std.proofs.Common.{◌≡◌, refl, sym, ap, ◌∙◌, false, List, ◌∷◌, ◌++◌}
use Rattle.pdl_kit.specs.declared.rule.Rule.{Rule}
use Rattle.pdl_kit.specs.declared.rule.Rule.TheVariants.{G1, Z2, Z3, Z4, Z5, Z6, Z7, N1, N2, N3, W1, W2, W3, W4, W5, W6, F1, F2, F3, F4, F5, L1, L2, L3, L4, L5, L6, L7, L8, S1, S2, S3, S4, S5, S6, S7, P1}
use Rattle.pdl_semantics.specs.Tree.{Pipe}
use Rattle.pdl_semantics.specs.UpdateFree.{without_update}
use Rattle.pdl_rules.specs.Places.{Place, places}
use Rattle.pdl_rules.specs.Refusal.{breaks_rule, KeepsRules}
use Rattle.pdl_rules.specs.Speculation.{is_update}
use Rattle.pdl_source.proofs.ThinPlaces.{thin_place, thin, places_thin, is_left}
use Rattle.pdl_source.proofs.ThinNames as names
use Rattle.pdl_source.proofs.ThinForks as forks
use Rattle.pdl_source.proofs.ThinLocks as locks
use Rattle.pdl_source.proofs.ThinGuesses as guesses

module _ (p : Pipe) (rules : KeepsRules p) (before : List Place) (x : Place) (later : List Place) (e : places p ≡ before ++ x ∷ later)
    (stays : is_update x ≡ false) where
  abbrev Keeps : Rule → Type 0
  Keeps r = breaks_rule r (without_update p) (thin before) (thin_place x) ≡ false

  -- a place that stays breaks no rule
  kept : (r : Rule) → Keeps r
  kept Z2 = names.z2 p rules before x later e
  kept Z3 = names.z3 before x ∙ rules Z3 before x later e
  kept Z4 = names.z4 before x ∙ rules Z4 before x later e
  kept Z5 = names.z5 before x ∙ rules Z5 before x later e
  kept Z6 = names.z6 before x ∙ rules Z6 before x later e
  kept Z7 = names.z7 x ∙ rules Z7 before x later e
  kept N1 = names.n1 p x ∙ rules N1 before x later e
  kept N2 = names.n2 p before x ∙ rules N2 before x later e
  kept N3 = names.n3 p before x ∙ rules N3 before x later e
  kept W1 = names.w1 p x ∙ rules W1 before x later e
  kept W2 = names.w2 p x ∙ rules W2 before x later e
  kept W3 = names.w3 p x ∙ rules W3 before x later e
  kept W4 = names.w4 p x ∙ rules W4 before x later e
  kept W5 = names.w5 p x ∙ rules W5 before x later e
  kept W6 = names.w6 p x ∙ rules W6 before x later e
  kept F1 = forks.f1 x ∙ rules F1 before x later e
  kept F2 = forks.f2 p rules before x later e stays
  kept F3 = forks.f3 p before x ∙ rules F3 before x later e
  kept F4 = names.f4 p x ∙ rules F4 before x later e
  kept F5 = names.f5 p x ∙ rules F5 before x later e
  kept L1 = locks.l1 p before x ∙ rules L1 before x later e
  kept L2 = locks.l2 before x ∙ rules L2 before x later e
  kept L3 = locks.l3 p before x ∙ rules L3 before x later e
  kept L4 = locks.l4 p before x ∙ rules L4 before x later e
  kept L5 = locks.l5 p before x ∙ rules L5 before x later e
  kept L6 = locks.l6 p before x ∙ rules L6 before x later e
  kept L7 = locks.l7 p before x ∙ rules L7 before x later e
  kept L8 = locks.l8 p before x later e stays ∙ rules L8 before x later e
  kept S1 = guesses.s1 p before x ∙ rules S1 before x later e
  kept S2 = guesses.s2 p before x ∙ rules S2 before x later e
  kept S3 = guesses.s3 before x ∙ rules S3 before x later e
  kept S4 = guesses.s4 p before x ∙ rules S4 before x later e
  kept S5 = guesses.s5 p before x ∙ rules S5 before x later e
  kept S6 = guesses.s6 p before x stays
  kept S7 = guesses.s7 before x stays
  kept P1 = names.p1 p x ∙ rules P1 before x later e
  kept G1 = refl
  kept _ = refl

-- without its updates the source breaks no rule either
pub keeps_without : (p : Pipe) → KeepsRules p → KeepsRules (without_update p)
keeps_without p rules r before' x' later' e' =
    let l = is_left (places p) before' x' later' (sym (places_thin p) ∙ e') in
    ap (λ b. breaks_rule r (without_update p) b x') l.front ∙ ap (breaks_rule r (without_update p) (thin l.before)) l.here
    ∙ kept p rules l.before l.x l.later l.whole l.stays r
