use Rattle.std.proofs.lemmas.Result.{err_from_is_err_and}
use Rattle.pdl_asm_table.proofs.PassedAnswers.{document_meets, no_document}
use Rattle.pdl_asm_table.proofs.read.read_table.Goals as goal

pub returns-in_err-document : goal.returns-in_err-document
returns-in_err-document c =
    let p = err_from_is_err_and c.from_residual.result c.from_residual.ensures.1 in
    rw (p.1, p.2) (no_document c.args.text.now _ c.in_err-document.ensures)

pub returns : goal.returns
returns c = document_meets c.args.text.now _ _ c.in_ok-document.ensures c.read_members.ensures
