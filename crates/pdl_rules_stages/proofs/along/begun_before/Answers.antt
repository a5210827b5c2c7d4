use Rattle.std.proofs.Common.{◌≡◌, ◌∙◌, sym, ap, ◌+◌, ◌∷◌, map, drop, arith}
use Rattle.pdl_rules.specs.Stages.{stage_after}
use Rattle.pdl_paths.specs.Actions.{place_view}
use Rattle.pdl_rules_stages.proofs.Nth.{ahead}
use Rattle.pdl_rules_stages.proofs.PlaceStages.{count_step}
use Rattle.pdl_rules_stages.proofs.along.begun_before.Goals as goal
use Rattle.pdl_rules_stages.proofs.along.begun_before.Goals.{then-is_separator, else-is_separator}

pub loop-place-preserved : goal.loop-place-preserved
loop-place-preserved c =
    let ps = c.args.before.now in
    let k = c.loop-place.place-index in
    let x = place_view c.place-item.result in
    let rest = map place_view (drop (k + 1) ps) in
    let split : stage_after (map place_view (drop k ps)) ≡ stage_after (x ∷ rest) =
    ap stage_after (ahead place_view ps k c.place-item.result c.loop-place-test.true c.place-item.is) in
    elim c.if-is_separator.branch [
      | then-is_separator w ↦
          let more : stage_after (x ∷ rest) ≡ 1 + stage_after rest = count_step x rest _ (sym c.is_separator.ensures ∙ w.if-is_separator.true) in
          (omega (arith, split, more, c.loop-place.invariant.0, w.begun-is), omega (arith, c.loop-place.invariant.1, w.begun-is))
      | else-is_separator w ↦
          let more : stage_after (x ∷ rest) ≡ 0 + stage_after rest = count_step x rest _ (sym c.is_separator.ensures ∙ w.if-is_separator.false) in
          (omega (arith, split, more, c.loop-place.invariant.0, w.begun-is), omega (arith, c.loop-place.invariant.1, w.begun-is))
    ]
