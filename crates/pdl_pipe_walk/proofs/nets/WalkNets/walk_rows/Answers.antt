use Rattle.std.proofs.Common.{ℕ, List, get_or, sym, ap, subst}
use Rattle.pdl_semantics.specs.Flat.{Stmt}
use Rattle.pdl_form.specs.FormView.{form}
use Rattle.pdl_form.specs.Form.{stmt_at}
use Rattle.pdl_form.specs.View.{stmt_view, stmts_view}
use Rattle.pdl_net.specs.Signal.{Signal}
use Rattle.pdl_net.proofs.Keeps.{extends_keeps, extends_trans}
use Rattle.pdl_pipe_exprs.proofs.NetLists.{bits_kept, nets_kept}
use Rattle.pdl_pipe_walk.specs.Parts.{walk_in}
use Rattle.pdl_pipe_walk.specs.Locked.{members, locks_in, tickets_in}
use Rattle.pdl_pipe_walk.specs.Sized.{IsWalked}
use Rattle.pdl_pipe_walk.specs.Steps.{AreSteps}
use Rattle.pdl_pipe_exprs.specs.Nets.{signal_at}
use Rattle.pdl_pipe_walk.proofs.MadeLocks.{locked_keep, tickets_keep, locks_same}
use Rattle.pdl_pipe_walk.proofs.RowSteps.{rows_split, rows_more, row_low, steps_push, step_here}
use Rattle.pdl_pipe_walk.proofs.nets.WalkNets.walk_rows.Goals as goal

pub row-s-requires : goal.row-s-requires
row-s-requires g c =
    row_low c.args.stmts.now _
    (rows_split c.args.rows.now c.loop-i.i-index c.loop-i-test.true (form c.args.setting.now.pipe.now)
    (stmts_view c.args.stmts.now) c.loop-i.invariant.typed).0.0

pub statement-requires-clause-bits : goal.statement-requires-clause-bits
statement-requires-clause-bits g c = bits_kept c.args.b.now c.loop-i.b c.args.setting.now.bits c.loop-i.invariant.extends c.requires.bits

pub statement-requires-clause-locks : goal.statement-requires-clause-locks
statement-requires-clause-locks g c =
    locked_keep (members g.L.LockModule) c.args.b.now c.loop-i.b
    (extends_keeps c.args.b.now c.loop-i.b c.loop-i.invariant.extends) g.met.L.LockModule.stays
    (form c.args.setting.now.pipe.now).pipe c.args.setting.now.locks.now c.requires.locks

pub statement-requires-clause-tickets : goal.statement-requires-clause-tickets
statement-requires-clause-tickets g c =
    tickets_keep (members g.L.LockModule) c.args.b.now c.loop-i.b
    (extends_keeps c.args.b.now c.loop-i.b c.loop-i.invariant.extends) g.met.L.LockModule.stays
    (form c.args.setting.now.pipe.now).pipe c.args.setting.now.locks.now c.requires.locks c.args.setting.now.tickets.now c.requires.tickets

pub statement-requires-clause-typed : goal.statement-requires-clause-typed
statement-requires-clause-typed g c =
    let now =
    (rows_split c.args.rows.now c.loop-i.i-index c.loop-i-test.true (form c.args.setting.now.pipe.now)
    (stmts_view c.args.stmts.now) c.loop-i.invariant.typed).0 in
    subst (IsWalked (form c.args.setting.now.pipe.now)) (sym c.row-s.ensures) now.1

pub loop-i-preserved : goal.loop-i-preserved
loop-i-preserved g c =
    let a = c.args.b.now in
    let mid = c.loop-i.b in
    let b = c.statement.new.b in
    let inv = c.loop-i.invariant in
    let e = c.statement.ensures.extends in
    let rows = c.args.rows.now in
    let ss = c.args.stmts.now in
    let i = c.loop-i.i-index in
    let low = c.loop-i-test.true in
    let k = get_or rows i 0 in
    let ls = locks_in (members g.L.LockModule) (form c.args.setting.now.pipe.now).pipe a c.args.setting.now.locks.now in
    let tickets = tickets_in a c.args.setting.now.tickets.now in
    let v = walk_in mid c.loop-i.self in
    let u = walk_in b c.statement.new.self in
    let now = (rows_split rows i low (form c.args.setting.now.pipe.now) (stmts_view ss) inv.typed).0 in
    let at = stmt_at (stmts_view ss) k in
    let pick : List Signal → ℕ → Signal = λ fs m. signal_at fs m in
    let same =
    locks_same (members g.L.LockModule) a mid (extends_keeps a mid inv.extends) g.met.L.LockModule.stays
    (form c.args.setting.now.pipe.now).pipe c.args.setting.now.locks.now c.requires.locks in
    let step =
    step_here b (form c.args.setting.now.pipe.now).pipe (stmt_view c.row-s.result.now) at c.row-s.ensures
    (locks_in (members g.L.LockModule) (form c.args.setting.now.pipe.now).pipe mid c.args.setting.now.locks.now) ls
    (tickets_in mid c.args.setting.now.tickets.now) tickets v u same
    (ap pick (nets_kept a mid c.args.setting.now.tickets.now inv.extends c.requires.tickets.there)) c.in_ok-statement.ensures.step in
    record {
      walk = c.in_ok-statement.ensures.walk;
      typed = (rows_split rows i low (form c.args.setting.now.pipe.now) (stmts_view ss) inv.typed).1;
      steps =
          subst (λ (xs : List Stmt). AreSteps b (form c.args.setting.now.pipe.now).pipe ls tickets xs (walk_in a c.args.self.now) u)
          (sym (rows_more rows i low (form c.args.setting.now.pipe.now) (stmts_view ss)))
          (steps_push mid b (form c.args.setting.now.pipe.now).pipe ls tickets _ at (walk_in a c.args.self.now) v u (extends_keeps mid b e) inv.steps step);
      extends = extends_trans a mid b inv.extends e;
    }
