use Rattle.std.proofs.Common.{◌≡◌, ℕ, ◌+◌, ◌-◌, ◌∙◌, sym, ap, subst, arith, Some}
use Rattle.std.proofs.lemmas.Bool.{eqb-true}
use Rattle.pdl_image.specs.Lines.{lines}
use Rattle.pdl_image.specs.declared.file_error.FileError.TheVariants.{Refused}
use Rattle.pdl_image.proofs.TakenLines.{Taken, taken_more, wrong_found, all_taken}
use Rattle.pdl_image.proofs.read.take_lines.Goals as goal

pub returns-in-Err : goal.returns-in-Err
returns-in-Err c =
    let t = c.loop-rest.invariant.taken in
    let e : c.loop-rest.number - 2 + 2 ≡ c.loop-rest.number = omega arith in
    wrong_found c.args.ranged _ _ _ _ _ _ _ _ t c.split_line.ensures.value (c.in-Err.ensures _ t.given) ∙ ap (λ k. Some (Refused c.in-Err.rule k)) e

pub loop-rest-preserved : goal.loop-rest-preserved
loop-rest-preserved c =
    let t = c.loop-rest.invariant.taken in
    let f = c.in_default.ensures _ t.given in
    let e : c.loop-rest.number - 2 + 1 ≡ c.loop-rest.number + 1 - 2 = omega arith in
    let P : ℕ → Type 0 = λ n. Taken c.args.ranged c.args.mems.now (lines c.args.text.now) n (lines c.split_line.result.1.now) c.take_line.new.slots in
    record {
      counted = omega arith;
      room = omega (arith, c.split_line.ensures.shorter);
      taken = subst P e (taken_more c.args.ranged _ _ _ _ _ _ _ _ t c.split_line.ensures.value f.0 f.1);
    }

pub returns : goal.returns
returns c = all_taken c.args.ranged _ _ _ _ _ c.loop-rest.invariant.taken (eqb-true _ 0 (sym c.loop-rest-test.ensures))
