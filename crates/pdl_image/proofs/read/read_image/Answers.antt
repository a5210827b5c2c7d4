use Rattle.std.proofs.Common.{◌≡◌, sym, ap, ◌∙◌, map, unwrap_or, Ok, arith}
use Rattle.std.proofs.lemmas.Grind.{common_steps}
use Rattle.std.proofs.lemmas.Result.{err_from_is_err_and}
use Rattle.pdl_image.proofs.WholeImage.{no_header, wrong_line, refusal_of, image_read, whole}
use Rattle.pdl_image.proofs.read.read_image.Goals as goal

pub returns-in_default-clause-refused : goal.returns-in_default-clause-refused
returns-in_default-clause-refused c = no_header _ _ c.in_default.ensures.value

pub returns-in_err-take_lines-clause-refused : goal.returns-in_err-take_lines-clause-refused
returns-in_err-take_lines-clause-refused c =
    let p = err_from_is_err_and c.from_residual-in_err-take_lines.result c.from_residual-in_err-take_lines.ensures.1 in
    rw (p.1, p.2) (refusal_of _ _ (wrong_line _ _ _ _ _ c.in-Some.ensures.value c.in_err-take_lines.ensures))

pub returns-clause-read : goal.returns-clause-read
returns-clause-read c =
    let s : c.as_slice.result.now ≡ c.take_lines.new.slots = grind (arith, common_steps) in
    image_read _ _ _ _ _ c.in-Some.ensures.value c.in_ok-take_lines.ensures.0 c.in_ok-take_lines.ensures.1
    ∙ ap Ok (sym (c.in_ok-to_image.ensures ∙ ap (map (λ row. map (λ o. unwrap_or o 0) row)) s))

pub returns-clause-whole : goal.returns-clause-whole
returns-clause-whole c =
    let s : c.as_slice.result.now ≡ c.take_lines.new.slots = grind (arith, common_steps) in
    let w : c.in_ok-to_image.field-0 ≡ map (λ row. map (λ o. unwrap_or o 0) row) c.take_lines.new.slots =
    c.in_ok-to_image.ensures ∙ ap (map (λ row. map (λ o. unwrap_or o 0) row)) s in
    whole _ _ _ _ _ c.requires.names c.in_ok-take_lines.ensures.0 c.in_ok-take_lines.ensures.1 w
