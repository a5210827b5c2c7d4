use Rattle.std.proofs.Common.{◌≡◌, ◌∙◌, refl, sym, ap, ◌+◌, suc, ◌∷◌, map, drop, true, false, arith}
use Rattle.pdl_rules.specs.Stages.{stage_from, are_outer}
use Rattle.pdl_paths.specs.Actions.{place_view}
use Rattle.pdl_paths.specs.Guards.{branch_view}
use Rattle.pdl_rules_stages.proofs.Nth.{ahead}
use Rattle.pdl_rules_stages.proofs.PlaceStages.{stage_step}
use Rattle.pdl_rules_stages.proofs.stages.stage_in.Goals as goal
use Rattle.pdl_rules_stages.proofs.stages.stage_in.Goals.{then-is_separator+then-are_outer, then-is_separator+else-are_outer, else-is_separator}

pub loop-place-preserved : goal.loop-place-preserved
loop-place-preserved c =
    let ps = c.args.before.now in
    let bs = map branch_view c.args.branches.now in
    let k = c.loop-place.place-index in
    let x = place_view c.place-item.result in
    let rest = map place_view (drop (k + 1) ps) in
    let begun = c.loop-place.begun in
    let found = c.loop-place.found in
    let one : begun + 1 ≡ suc begun = omega arith in
    let was : stage_from begun found bs (x ∷ rest) ≡ stage_from begun found bs (map place_view (drop k ps)) =
    ap (stage_from begun found bs) (sym (ahead place_view ps k c.place-item.result c.loop-place-test.true c.place-item.is)) in
    elim c.if-is_separator.branch [
      | then-is_separator+then-are_outer w ↦ (
        stage_step begun found c.if-is_separator.begun c.if-is_separator.found bs x rest true true (sym c.is_separator.ensures ∙ w.if-is_separator.true)
            (sym (w.are_outer.ensures ∙ ap (λ b. are_outer b bs) w.branches_at.ensures) ∙ w.if-are_outer.true) (w.begun-is ∙ one) (w.found-is ∙ one)
            ∙ was ∙ c.loop-place.invariant.0,
        omega (arith, c.loop-place.invariant.1, w.begun-is),
      )
      | then-is_separator+else-are_outer w ↦ (
        stage_step begun found c.if-is_separator.begun c.if-is_separator.found bs x rest true false (sym c.is_separator.ensures ∙ w.if-is_separator.true)
            (sym (w.are_outer.ensures ∙ ap (λ b. are_outer b bs) w.branches_at.ensures) ∙ w.if-are_outer.false) (w.begun-is ∙ one) w.found-is
            ∙ was ∙ c.loop-place.invariant.0,
        omega (arith, c.loop-place.invariant.1, w.begun-is),
      )
      | else-is_separator w ↦ (
        stage_step begun found c.if-is_separator.begun c.if-is_separator.found bs x rest false _
            (sym c.is_separator.ensures ∙ w.if-is_separator.false) refl w.begun-is w.found-is
            ∙ was ∙ c.loop-place.invariant.0,
        omega (arith, c.loop-place.invariant.1, w.begun-is),
      )
    ]
