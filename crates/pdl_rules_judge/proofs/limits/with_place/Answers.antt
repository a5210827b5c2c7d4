use Rattle.std.proofs.Common.{refl, ◌&&◌, ◌==◌, ap, ◌∙◌, map, take, length}
use Rattle.pdl_kit.specs.declared.rule.Rule.TheVariants.{Z2, Z3, Z4, Z5, Z6, Z7}
use Rattle.pdl_rules.specs.Refusal.{breaks_rule}
use Rattle.pdl_rules.specs.Limits.{is_statement, is_separator, is_memory, is_binding, breaks_z6}
use Rattle.pdl_paths.specs.Actions.{place_view}
use Rattle.pdl_rules_on_texts.proofs.LineSteps.{line_next}
use Rattle.pdl_rules_judge.specs.Over.{adds_guard}
use Rattle.pdl_rules_judge.proofs.GuardSteps.{z6_parts, noted_if, none_noted}
use Rattle.pdl_rules_judge.proofs.limits.with_place.Goals as goal
use Rattle.pdl_rules_on_paths.proofs.Nth.{nth}

pub returns-clause-lines : goal.returns-clause-lines
returns-clause-lines c p h =
    let xs = map place_view c.args.places.now in
    let k = c.args.k in
    let r = c.index-places-k.result in
    let y = place_view r in
    let got = nth place_view c.args.places.now k r c.requires.here c.index-places-k.is in
    let o = c.over_at.ensures in
    record {
      z2 =
          line_next (breaks_rule Z2 p) xs k y _ _ _ _ got
          (o.z2 ∙ ap (λ n. is_statement y && (n == 1024)) c.requires.counts.statements) c.line.ensures c.with.ensures.z2 h.z2;
      z3 =
          line_next (breaks_rule Z3 p) xs k y _ _ _ _ got
          (o.z3 ∙ ap (λ n. is_separator y && (n == 63)) c.requires.counts.separators) c.line.ensures c.with.ensures.z3 h.z3;
      z4 =
          line_next (breaks_rule Z4 p) xs k y _ _ _ _ got
          (o.z4 ∙ ap (λ n. is_memory y && (n == 16)) c.requires.counts.memories) c.line.ensures c.with.ensures.z4 h.z4;
      z5 =
          line_next (breaks_rule Z5 p) xs k y _ _ _ _ got
          (o.z5 ∙ ap (λ n. is_binding y && (n == 512)) c.requires.counts.bindings) c.line.ensures c.with.ensures.z5 h.z5;
      z6 = line_next (breaks_rule Z6 p) xs k y c.args.lines.z6 _ (breaks_z6 (take k xs) y) _ got refl c.line.ensures
          (c.with.ensures.z6
          ∙ noted_if c.args.lines.z6 _ _ _ (λ e. o.z6 ∙ ap (λ gs. adds_guard gs y && (length gs == 10)) (c.requires.guards e) ∙ z6_parts (take k xs) y))
          h.z6;
      z7 = line_next (breaks_rule Z7 p) xs k y _ _ _ _ got o.z7 c.line.ensures c.with.ensures.z7 h.z7;
    }

pub returns-clause-few : goal.returns-clause-few
returns-clause-few c = none_noted c.args.lines.z6 _ _ _ c.with.ensures.z6
