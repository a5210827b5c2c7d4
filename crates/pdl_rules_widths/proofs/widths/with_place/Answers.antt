use Rattle.std.proofs.Common.{subst, map}
use Rattle.pdl_kit.specs.declared.rule.Rule.TheVariants.{W1, W2, W3, W4, W5, W6}
use Rattle.pdl_syntax_tree.specs.View.{pipe_view, mem_view, param_view}
use Rattle.pdl_rules.specs.Refusal.{breaks_rule}
use Rattle.pdl_paths.specs.Actions.{place_view}
use Rattle.pdl_rules_on_texts.proofs.LineSteps.{line_next}
use Rattle.pdl_rules_widths.specs.Rules.{AreFaults}
use Rattle.pdl_rules_widths.proofs.widths.with_place.Goals as goal
use Rattle.pdl_rules_on_paths.proofs.Nth.{nth}

pub returns : goal.returns
returns c =
    let p = pipe_view c.args.pipe.now in
    let xs = map place_view c.args.places.now in
    let k = c.args.k in
    let r = c.index-places-k.result in
    let y = place_view r in
    let got = nth place_view c.args.places.now k r c.requires.here c.index-places-k.is in
    let f = c.faults_at-faults.result in
    let h =
    subst (λ vs. AreFaults vs p.mems p.params y f) c.requires.variables
    (subst (λ ps. AreFaults c.args.variables.now p.mems (map param_view ps) y f) c.as_slice-2.ensures
    (subst
    (λ ms. AreFaults c.args.variables.now (map mem_view ms) (map param_view c.as_slice-2.result.now) y f) c.as_slice.ensures c.faults_at-faults.ensures)) in
    record {
      w1 = line_next (breaks_rule W1 p) xs k y _ _ _ _ got h.w1 c.line.ensures c.with.ensures.w1 c.requires.lines.w1;
      w2 = line_next (breaks_rule W2 p) xs k y _ _ _ _ got h.w2 c.line.ensures c.with.ensures.w2 c.requires.lines.w2;
      w3 = line_next (breaks_rule W3 p) xs k y _ _ _ _ got h.w3 c.line.ensures c.with.ensures.w3 c.requires.lines.w3;
      w4 = line_next (breaks_rule W4 p) xs k y _ _ _ _ got h.w4 c.line.ensures c.with.ensures.w4 c.requires.lines.w4;
      w5 = line_next (breaks_rule W5 p) xs k y _ _ _ _ got h.w5 c.line.ensures c.with.ensures.w5 c.requires.lines.w5;
      w6 = line_next (breaks_rule W6 p) xs k y _ _ _ _ got h.w6 c.line.ensures c.with.ensures.w6 c.requires.lines.w6;
    }
