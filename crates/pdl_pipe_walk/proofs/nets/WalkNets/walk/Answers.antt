use Rattle.std.proofs.Common.{List, ◌∙◌, sym, ap, subst}
use Rattle.std.specs.Prelude.{map, OnOk}
use Rattle.pdl_semantics.specs.Flat.{Stmt}
use Rattle.pdl_form.specs.FormView.{form}
use Rattle.pdl_form.specs.Form.{stmt_at}
use Rattle.pdl_pipe_walk.specs.Parts.{walk_in}
use Rattle.pdl_pipe_walk.specs.Locked.{members, locks_in, tickets_in}
use Rattle.pdl_pipe_walk.specs.Sized.{AreWalkedRows}
use Rattle.pdl_pipe_walk.specs.Steps.{AreSteps}
use Rattle.pdl_pipe_walk.proofs.RowSteps.{rows_walked}
use Rattle.pdl_pipe_walk.proofs.nets.WalkNets.walk.Goals as goal

pub walk_rows-requires-clause-typed : goal.walk_rows-requires-clause-typed
walk_rows-requires-clause-typed g c =
    subst (λ (xs : List Stmt). AreWalkedRows (form c.args.setting.now.pipe.now) xs c.rows-rows.result.now) (sym c.stmts.ensures)
    (rows_walked (form c.args.setting.now.pipe.now)
    (form c.args.setting.now.pipe.now).pipe.stmts c.rows-rows.result.now c.requires.typed c.rows-rows.ensures.within)

pub returns-clause-steps : goal.returns-clause-steps
returns-clause-steps g c =
    let a = c.args.b.now in
    let b = c.walk_rows.new.b in
    let ls = locks_in (members g.L.LockModule) (form c.args.setting.now.pipe.now).pipe a c.args.setting.now.locks.now in
    let same = ap (λ (xs : List Stmt). map (stmt_at xs) c.rows-rows.result.now) c.stmts.ensures ∙ c.rows-rows.ensures.stmts in
    subst
    (λ (xs : List Stmt). OnOk c.walk_rows.result
    (AreSteps b (form c.args.setting.now.pipe.now).pipe ls (tickets_in a c.args.setting.now.tickets.now) xs (walk_in a c.args.self.now)
    (walk_in b c.walk_rows.new.self))) same
    c.walk_rows.ensures.steps
