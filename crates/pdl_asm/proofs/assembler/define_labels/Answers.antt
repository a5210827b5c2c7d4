use Rattle.std.proofs.Common.{◌≡◌, ◌-◌, ◌+◌, fold, sym, ap, ◌∙◌, arith, subst, length, rules}
use Rattle.std.specs.Int.{cast_signed, cast_unsigned, w128}
use Rattle.std.proofs.lemmas.Bool.{eqb-true}
use Rattle.pdl_asm.specs.Places.{IsNear}
use Rattle.pdl_image.specs.Lines.{lines}
use Rattle.pdl_asm.specs.Assembly.{with_line}
use Rattle.pdl_asm.proofs.Steps.{labels_more, near_later, placed_first}
use Rattle.pdl_asm.proofs.LineSteps.{none_left_of}
use Rattle.pdl_asm.proofs.assembler.define_labels.Goals as goal

pub loop-rest-preserved : goal.loop-rest-preserved
loop-rest-preserved c =
    let later = lines c.split_line.result.1.now in
    let e = placed_first c.args.table.now _ _ c.split_line.result.0.now later (lines c.loop-rest.rest.now) c.in_ok-line.line
    c.split_line.ensures.value c.in_ok-line.ensures c.after_line-place.ensures.value in
    record {
      room = omega (arith, c.split_line.ensures.shorter);
      near =
          near_later (length c.args.text.now - length c.loop-rest.rest.now + 1) _ _ (c.after_line-place.ensures.near _ c.loop-rest.invariant.near)
          (omega (arith, c.split_line.ensures.shorter, c.loop-rest.invariant.room));
      labels = labels_more _ _ _ _ _ _ _ e c.in_ok-define_label.ensures c.loop-rest.invariant.labels;
    }

pub returns : goal.returns
returns c =
    ap (fold with_line c.loop-rest.labels) (sym (none_left_of c.args.table.now _ c.loop-rest.rest.now (eqb-true _ 0 (sym c.loop-rest-test.ensures))))
    ∙ c.loop-rest.invariant.labels
