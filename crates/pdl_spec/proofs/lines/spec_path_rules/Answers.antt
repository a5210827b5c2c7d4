use Rattle.std.proofs.Common.{◌∙◌, refl, ap, sym, subst, [], filter, map}
use Rattle.pdl_kit.specs.declared.rule.Rule.TheVariants.{S1, S2}
use Rattle.pdl_syntax_tree.specs.View.{pipe_view}
use Rattle.pdl_rules.specs.Places.{places, on_path}
use Rattle.pdl_rules.specs.Calls.{is_wrong_call}
use Rattle.pdl_rules.specs.Speculation.{is_unverified}
use Rattle.pdl_paths.specs.Actions.{place_view}
use Rattle.pdl_paths.specs.Masks.{are_distinct}
use Rattle.pdl_paths.proofs.DistinctGuards.{guards_distinct}
use Rattle.pdl_rules_on_paths.proofs.Lines.{rule_lines}
use Rattle.pdl_rules_walk.proofs.Lines.{at_places}
use Rattle.pdl_locks.specs.declared.numbers.Keys.TheVariants.{Locations}
use Rattle.pdl_locks.specs.Numbers.{AreNumbered}
use Rattle.pdl_spec.specs.Sure.{breaks_sure}
use Rattle.pdl_spec.specs.Checked.{breaks_checked}
use Rattle.pdl_spec.specs.Updated.{breaks_updated}
use Rattle.pdl_spec.proofs.PathlessParts.{sure_lines, checked_lines, updated_lines}
use Rattle.pdl_spec.proofs.lines.spec_path_rules.Goals as goal

pub returns-clause-suits : goal.returns-clause-suits
returns-clause-suits c =
    let rows = c.args.places.now in
    let by_text = c.as_slice-stages.ensures.value ∙ c.requires.facts.by_text in (
      (
        (
          tt,
          record {
            own = refl;
            text = c.requires.of;
            seen = refl;
            bits = c.all_true.ensures;
            paths =
                record {
                  few = c.requires.few;
                  distinct = ap are_distinct c.requires.own ∙ guards_distinct (map place_view rows);
                  masks = c.requires.masks;
                };
            by_text = by_text;
          },
        ),
        (
          record {
            numbers = subst (λ ns. AreNumbered Locations rows ns (map place_view rows)) (sym c.as_slice.ensures.value) c.requires.facts.locations;
            by_text = by_text;
          },
          by_text,
        ),
      ),
      by_text,
    )

pub returns-clause-lines : goal.returns-clause-lines
returns-clause-lines c lines h =
    let p = pipe_view c.args.pipe.now in
    let gs = c.args.guards.now in
    let xs = map place_view c.args.places.now in
    let verified = c.args.verified in
    record {
      one_call =
          h.0.0.0
          ∙ at_places (λ path before x. is_wrong_call (filter (on_path path) before) x) p gs xs c.requires.own c.requires.of
          ∙ rule_lines S1 p [] (places p);
      verified_once = h.0.0.1 ∙ at_places (is_unverified p) p gs xs c.requires.own c.requires.of ∙ rule_lines S2 p [] (places p);
      released_sure = h.0.1.0 ∙ at_places (breaks_sure verified) p gs xs c.requires.own c.requires.of ∙ sure_lines p verified c.requires.verified;
      checked_first = h.0.1.1 ∙ at_places (breaks_checked verified) p gs xs c.requires.own c.requires.of ∙ checked_lines p verified c.requires.verified;
      updated_once = h.1 ∙ at_places (breaks_updated verified) p gs xs c.requires.own c.requires.of ∙ updated_lines p verified c.requires.verified;
    }
