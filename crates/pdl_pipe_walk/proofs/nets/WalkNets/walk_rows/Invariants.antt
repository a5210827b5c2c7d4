use Rattle.std.proofs.Common.{map, drop, take}
use Rattle.pdl_form.specs.FormView.{form}
use Rattle.pdl_form.specs.Form.{stmt_at}
use Rattle.pdl_form.specs.View.{stmts_view}
use Rattle.pdl_net.specs.Growth.{Extends}
use Rattle.pdl_pipe_walk.specs.Parts.{walk_in}
use Rattle.pdl_pipe_walk.specs.Locked.{members, locks_in, tickets_in}
use Rattle.pdl_pipe_walk.specs.Sized.{IsWalk, AreWalkedRows}
use Rattle.pdl_pipe_walk.specs.Steps.{AreSteps}
use Rattle.pdl_pipe_walk.proofs.nets.WalkNets.walk_rows.Given as goal

abbrev pub invariant-loop-i : goal.invariant-loop-i
invariant-loop-i g l = record {
  walk : IsWalk l.b (form l.setting.pipe.now).pipe (form l.setting.pipe.now).widths l.self;
  typed : AreWalkedRows (form l.setting.pipe.now) (stmts_view l.stmts) (drop l.i-index l.rows);
  steps : AreSteps l.b (form l.setting.pipe.now).pipe (locks_in (members g.L.LockModule) (form l.setting.pipe.now).pipe l.fn.b l.fn.setting.locks.now)
      (tickets_in l.fn.b l.fn.setting.tickets.now)
      (map (stmt_at (stmts_view l.stmts)) (take l.i-index l.rows)) (walk_in l.fn.b l.fn.self) (walk_in l.b l.self);
  extends : Extends l.fn.b l.b;
}
