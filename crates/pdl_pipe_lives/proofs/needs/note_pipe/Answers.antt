use Rattle.std.proofs.Common.{List, subst, drop}
use Rattle.pdl_semantics.specs.Flat.{Stmt, Stage}
use Rattle.pdl_form.specs.FormView.{form}
use Rattle.pdl_pipe_lives.specs.Needs.{rows_use, any_forks_by, AreNoted}
use Rattle.pdl_pipe_lives.proofs.LastStages.{all_noted}
use Rattle.pdl_pipe_lives.proofs.needs.note_pipe.Goals as goal

pub returns : goal.returns
returns c =
    let a = c.args.last.now in
    let b = c.note_statements.new.last in
    let d = c.note_forks.new.last in
    let p = (form c.args.pipe.now).pipe in
    all_noted a b d (λ k x. rows_use k x p.stmts) (λ k x. any_forks_by x (drop k p.stages))
    (subst (λ (l : List Stmt). AreNoted a b (λ k x. rows_use k x l)) c.stmts.ensures c.note_statements.ensures)
    (subst (λ (l : List Stage). AreNoted b d (λ k x. any_forks_by x (drop k l))) c.stages.ensures c.note_forks.ensures)
