use Rattle.std.proofs.Common.{◌≡◌, ◌-◌, ◌+◌, List, [], sym, subst, ◌∙◌, arith, pos, refl, length, rules, take}
use Rattle.std.proofs.lemmas.Int.{ints}
use Rattle.std.specs.Int.{cast_signed, cast_unsigned, w128}
use Rattle.std.proofs.lemmas.Bool.{eqb-true}
use Rattle.pdl_asm.specs.Places.{IsNear}
use Rattle.pdl_image.specs.Lines.{lines}
use Rattle.pdl_asm.specs.Assembly.{Placed, lines_from}
use Rattle.pdl_asm.proofs.FirstLabels.{defined_few, defined_next}
use Rattle.pdl_asm.proofs.Steps.{near_later, placed_first}
use Rattle.pdl_asm.proofs.LineSteps.{Taken, all_taken, none_left_of, refused_first, taken_more, taken_none}
use Rattle.pdl_asm.proofs.assembler.write_lines.Goals as goal

pub loop-rest-init : goal.loop-rest-init
loop-rest-init c =
    let t = c.args.table.now in
    let all = lines_from t (pos 0) (lines c.args.text.now) in
    let e = sym c.from_count-place.ensures in
    record {
      room = omega arith;
      near = subst (IsNear (length c.args.text.now - length c.args.text.now)) e (omega (arith, ints), omega (arith, ints));
      count = omega arith;
      few = omega arith;
      taken = subst (λ z. Taken t c.args.labels.now all 1 (lines_from t z (lines c.args.text.now)) [] c.args.words.now) e
          (taken_none t c.args.labels.now all c.args.words.now c.requires.empty);
    }

pub loop-rest-preserved : goal.loop-rest-preserved
loop-rest-preserved c =
    let t = c.args.table.now in
    let ls = c.args.labels.now in
    let all = lines_from t (pos 0) (lines c.args.text.now) in
    let later = lines c.split_line.result.1.now in
    let place = c.loop-rest.place in
    let e = placed_first t place _ c.split_line.result.0.now later (lines c.loop-rest.rest.now) c.in_ok-line.line
    c.split_line.ensures.value c.in_ok-line.ensures c.after_line-place.ensures.value in
    let P : List Placed → Type 0 = λ r. Taken t ls all c.loop-rest.number r (take c.loop-rest.before ls) c.loop-rest.words in
    record {
      room = omega (arith, c.split_line.ensures.shorter);
      near =
          near_later (length c.args.text.now - length c.loop-rest.rest.now + 1) _ _ (c.after_line-place.ensures.near _ c.loop-rest.invariant.near)
          (omega (arith, c.split_line.ensures.shorter, c.loop-rest.invariant.room));
      count = omega (arith, c.split_line.ensures.shorter);
      few =
          omega
          (arith, c.split_line.ensures.shorter, c.loop-rest.invariant.few, defined_few c.loop-rest.before c.in_ok-line.line, c.defined_after-before.ensures);
      taken =
          let f = subst P e c.loop-rest.invariant.taken in
          taken_more t ls all _ c.loop-rest.number place c.in_ok-line.line (take c.loop-rest.before ls) _ c.loop-rest.words _ f
          c.in-Ok.ensures.right
          (defined_next t ls c.loop-rest.before _ all _ c.loop-rest.number place c.in_ok-line.line _ c.loop-rest.words c.requires.known f c.in-Ok.ensures.right c.defined_after-before.ensures)
          c.in-Ok.ensures.word;
    }

pub loop-rest-preserved-in-Ok : goal.loop-rest-preserved-in-Ok
loop-rest-preserved-in-Ok c =
    let t = c.args.table.now in
    let ls = c.args.labels.now in
    let all = lines_from t (pos 0) (lines c.args.text.now) in
    let later = lines c.split_line.result.1.now in
    let place = c.loop-rest.place in
    let e = placed_first t place _ c.split_line.result.0.now later (lines c.loop-rest.rest.now) c.in_ok-line.line
    c.split_line.ensures.value c.in_ok-line.ensures c.after_line-place.ensures.value in
    let P : List Placed → Type 0 = λ r. Taken t ls all c.loop-rest.number r (take c.loop-rest.before ls) c.loop-rest.words in
    record {
      room = omega (arith, c.split_line.ensures.shorter);
      near =
          near_later (length c.args.text.now - length c.loop-rest.rest.now + 1) _ _ (c.after_line-place.ensures.near _ c.loop-rest.invariant.near)
          (omega (arith, c.split_line.ensures.shorter, c.loop-rest.invariant.room));
      count = omega (arith, c.split_line.ensures.shorter);
      few =
          omega
          (arith, c.split_line.ensures.shorter, c.loop-rest.invariant.few, defined_few c.loop-rest.before c.in_ok-line.line, c.defined_after-before.ensures);
      taken =
          let f = subst P e c.loop-rest.invariant.taken in
          taken_more t ls all _ c.loop-rest.number place c.in_ok-line.line (take c.loop-rest.before ls) _ c.loop-rest.words _ f
          c.in-Ok.ensures.right
          (defined_next t ls c.loop-rest.before _ all _ c.loop-rest.number place c.in_ok-line.line _ c.loop-rest.words c.requires.known f c.in-Ok.ensures.right c.defined_after-before.ensures)
          c.in-Ok.ensures.word;
    }

pub loop-rest-preserved-in-Ok-2 : goal.loop-rest-preserved-in-Ok-2
loop-rest-preserved-in-Ok-2 c =
    let t = c.args.table.now in
    let ls = c.args.labels.now in
    let all = lines_from t (pos 0) (lines c.args.text.now) in
    let later = lines c.split_line.result.1.now in
    let place = c.loop-rest.place in
    let e = placed_first t place _ c.split_line.result.0.now later (lines c.loop-rest.rest.now) c.in_ok-line.line
    c.split_line.ensures.value c.in_ok-line.ensures c.after_line-place.ensures.value in
    let P : List Placed → Type 0 = λ r. Taken t ls all c.loop-rest.number r (take c.loop-rest.before ls) c.loop-rest.words in
    record {
      room = omega (arith, c.split_line.ensures.shorter);
      near =
          near_later (length c.args.text.now - length c.loop-rest.rest.now + 1) _ _ (c.after_line-place.ensures.near _ c.loop-rest.invariant.near)
          (omega (arith, c.split_line.ensures.shorter, c.loop-rest.invariant.room));
      count = omega (arith, c.split_line.ensures.shorter);
      few =
          omega
          (arith, c.split_line.ensures.shorter, c.loop-rest.invariant.few, defined_few c.loop-rest.before c.in_ok-line.line, c.defined_after-before.ensures);
      taken =
          let f = subst P e c.loop-rest.invariant.taken in
          taken_more t ls all _ c.loop-rest.number place c.in_ok-line.line (take c.loop-rest.before ls) _ c.loop-rest.words _ f
          c.in-Ok.ensures.right
          (defined_next t ls c.loop-rest.before _ all _ c.loop-rest.number place c.in_ok-line.line _ c.loop-rest.words c.requires.known f c.in-Ok.ensures.right c.defined_after-before.ensures)
          c.in-Ok.ensures.word;
    }

pub loop-rest-preserved-in-Ok-3 : goal.loop-rest-preserved-in-Ok-3
loop-rest-preserved-in-Ok-3 c =
    let t = c.args.table.now in
    let ls = c.args.labels.now in
    let all = lines_from t (pos 0) (lines c.args.text.now) in
    let later = lines c.split_line.result.1.now in
    let place = c.loop-rest.place in
    let e = placed_first t place _ c.split_line.result.0.now later (lines c.loop-rest.rest.now) c.in_ok-line.line
    c.split_line.ensures.value c.in_ok-line.ensures c.after_line-place.ensures.value in
    let P : List Placed → Type 0 = λ r. Taken t ls all c.loop-rest.number r (take c.loop-rest.before ls) c.loop-rest.words in
    record {
      room = omega (arith, c.split_line.ensures.shorter);
      near =
          near_later (length c.args.text.now - length c.loop-rest.rest.now + 1) _ _ (c.after_line-place.ensures.near _ c.loop-rest.invariant.near)
          (omega (arith, c.split_line.ensures.shorter, c.loop-rest.invariant.room));
      count = omega (arith, c.split_line.ensures.shorter);
      few =
          omega
          (arith, c.split_line.ensures.shorter, c.loop-rest.invariant.few, defined_few c.loop-rest.before c.in_ok-line.line, c.defined_after-before.ensures);
      taken =
          let f = subst P e c.loop-rest.invariant.taken in
          taken_more t ls all _ c.loop-rest.number place c.in_ok-line.line (take c.loop-rest.before ls) _ c.loop-rest.words _ f
          c.in-Ok.ensures.right
          (defined_next t ls c.loop-rest.before _ all _ c.loop-rest.number place c.in_ok-line.line _ c.loop-rest.words c.requires.known f c.in-Ok.ensures.right c.defined_after-before.ensures)
          c.in-Ok.ensures.word;
    }

pub returns-in-Err : goal.returns-in-Err
returns-in-Err c =
    let t = c.args.table.now in
    let ls = c.args.labels.now in
    let all = lines_from t (pos 0) (lines c.args.text.now) in
    let later = lines c.split_line.result.1.now in
    let place = c.loop-rest.place in
    let e =
    placed_first t place _ c.split_line.result.0.now later
    (lines c.loop-rest.rest.now) c.in_ok-line.line c.split_line.ensures.value c.in_ok-line.ensures refl in
    let P : List Placed → Type 0 = λ r. Taken t ls all c.loop-rest.number r (take c.loop-rest.before ls) c.loop-rest.words in
    refused_first t ls all _ c.loop-rest.number place c.in_ok-line.line (take c.loop-rest.before ls) c.loop-rest.words _
    (subst P e c.loop-rest.invariant.taken) c.in-Err.ensures.refused

pub returns : goal.returns
returns c =
    let t = c.args.table.now in
    let ls = c.args.labels.now in
    let all = lines_from t (pos 0) (lines c.args.text.now) in
    let P : List Placed → Type 0 = λ r. Taken t ls all c.loop-rest.number r (take c.loop-rest.before ls) c.loop-rest.words in
    all_taken t ls all c.loop-rest.number (take c.loop-rest.before ls) c.loop-rest.words
    (subst P (none_left_of t _ c.loop-rest.rest.now (eqb-true _ 0 (sym c.loop-rest-test.ensures))) c.loop-rest.invariant.taken)
