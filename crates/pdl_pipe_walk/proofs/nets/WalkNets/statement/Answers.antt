use Rattle.std.proofs.Common.{◌≡◌, ◌∙◌, List, sym, ap, refl, subst, length}
use Rattle.pdl_semantics.specs.Flat as flat
use Rattle.pdl_net.proofs.Keeps.{extends_keeps}
use Rattle.pdl_form.specs.FormView.{form}
use Rattle.pdl_form.specs.View.{guards_view, act_view, expr_view, exprs_view}
use Rattle.pdl_form.specs.declared.form.Op as r_op
use Rattle.pdl_form_types.specs.Stmts.{AreGuards, IsTypedOp}
use Rattle.pdl_pipe_walk.specs.Parts.{parts_in, walk_of}
use Rattle.pdl_pipe_walk.specs.Locked.{members, locks_in, tickets_in}
use Rattle.pdl_form.specs.declared.form.FlatExpr as r_expr
use Rattle.pdl_form_types.specs.Stmts.{param_widths, AreArguments}
use Rattle.pdl_pipe_walk.proofs.Arguments.{arguments_typed, arguments_few, arguments_wide}
use Rattle.pdl_pipe_walk.proofs.Lists.{on_ok}
use Rattle.pdl_pipe_walk.proofs.MadeSteps.{nets_of, has_keep, bind_step, read_step, write_step, advice_bind_step, advice_read_step, advice_write_step, idle_step, reserve_step, block_step, release_step, call_step}
use Rattle.pdl_law_parts.specs.Rows.{HasRow}
use Rattle.pdl_pipe_walk.proofs.MadeGuesses.{ask_step, check_step, barrier_step, guess_step, compare_step}
use Rattle.pdl_pipe_walk.proofs.RowSteps.{typed_as, guards_as, step_as}
use Rattle.pdl_pipe_walk.proofs.nets.WalkNets.statement.Goals as goal

pub bind-requires-clause-low : goal.bind-requires-clause-low
bind-requires-clause-low g c = (typed_as (form c.args.setting.now.pipe.now) c.args.s.now _ c.requires.typed c.in-Bind.is).0

pub bind-requires-clause-typed : goal.bind-requires-clause-typed
bind-requires-clause-typed g c = (typed_as (form c.args.setting.now.pipe.now) c.args.s.now _ c.requires.typed c.in-Bind.is).1

pub bind-requires-clause-wide : goal.bind-requires-clause-wide
bind-requires-clause-wide g c = (typed_as (form c.args.setting.now.pipe.now) c.args.s.now _ c.requires.typed c.in-Bind.is).2

pub read-requires-clause-low : goal.read-requires-clause-low
read-requires-clause-low g c = (typed_as (form c.args.setting.now.pipe.now) c.args.s.now _ c.requires.typed c.in-CombRead.is).0

pub read-requires-clause-at : goal.read-requires-clause-at
read-requires-clause-at g c = (typed_as (form c.args.setting.now.pipe.now) c.args.s.now _ c.requires.typed c.in-CombRead.is).1

pub read-requires-clause-wide : goal.read-requires-clause-wide
read-requires-clause-wide g c = (typed_as (form c.args.setting.now.pipe.now) c.args.s.now _ c.requires.typed c.in-CombRead.is).2

pub read-requires-clause-at_once : goal.read-requires-clause-at_once
read-requires-clause-at_once g c = subst (λ (o : r_op.Op). HasRow (form c.args.setting.now.pipe.now).pipe (act_view o)) c.in-CombRead.is c.requires.typed.1

pub delayed_read-requires-clause-at : goal.delayed_read-requires-clause-at
delayed_read-requires-clause-at g c = (typed_as (form c.args.setting.now.pipe.now) c.args.s.now _ c.requires.typed c.in-DelayedRead.is).1

pub spec_call-requires-clause-typed : goal.spec_call-requires-clause-typed
spec_call-requires-clause-typed g c =
    let f = form c.args.setting.now.pipe.now in
    subst (λ (es : List r_expr.FlatExpr). AreArguments f.widths (param_widths f) (exprs_view es))
    (sym c.as_slice-in-SpecCall.ensures) (typed_as f c.args.s.now _ c.requires.typed c.in-SpecCall.is)

pub compare-requires-clause-typed : goal.compare-requires-clause-typed
compare-requires-clause-typed g c =
    let f = form c.args.setting.now.pipe.now in
    subst (λ (es : List r_expr.FlatExpr). AreArguments f.widths (param_widths f) (exprs_view es))
    (sym c.as_slice-in-Verify.ensures) (typed_as f c.args.s.now _ c.requires.typed c.in-Verify.is)

pub delayed_read-requires-clause-guards : goal.delayed_read-requires-clause-guards
delayed_read-requires-clause-guards g c =
    guards_as (form c.args.setting.now.pipe.now) c.args.s.now c.as_slice-guards.result.now c.requires.typed c.as_slice-guards.ensures

pub spec_call-requires-clause-guards : goal.spec_call-requires-clause-guards
spec_call-requires-clause-guards g c =
    guards_as (form c.args.setting.now.pipe.now) c.args.s.now c.as_slice-guards.result.now c.requires.typed c.as_slice-guards.ensures

pub compare-requires-clause-guards : goal.compare-requires-clause-guards
compare-requires-clause-guards g c =
    guards_as (form c.args.setting.now.pipe.now) c.args.s.now c.as_slice-guards.result.now c.requires.typed c.as_slice-guards.ensures

pub spec_barrier-requires-clause-guards : goal.spec_barrier-requires-clause-guards
spec_barrier-requires-clause-guards g c =
    guards_as (form c.args.setting.now.pipe.now) c.args.s.now c.as_slice-guards.result.now c.requires.typed c.as_slice-guards.ensures

pub write-requires-clause-low : goal.write-requires-clause-low
write-requires-clause-low g c = (typed_as (form c.args.setting.now.pipe.now) c.args.s.now _ c.requires.typed c.in-Write.is).0.memory

pub write-requires-clause-typed : goal.write-requires-clause-typed
write-requires-clause-typed g c = (typed_as (form c.args.setting.now.pipe.now) c.args.s.now _ c.requires.typed c.in-Write.is).1

pub write-requires-clause-wide : goal.write-requires-clause-wide
write-requires-clause-wide g c = (typed_as (form c.args.setting.now.pipe.now) c.args.s.now _ c.requires.typed c.in-Write.is).2

pub reserve-requires-clause-at : goal.reserve-requires-clause-at
reserve-requires-clause-at g c = (typed_as (form c.args.setting.now.pipe.now) c.args.s.now _ c.requires.typed c.in-ReserveWrite.is).0

pub reserve-requires-clause-locked : goal.reserve-requires-clause-locked
reserve-requires-clause-locked g c = (typed_as (form c.args.setting.now.pipe.now) c.args.s.now _ c.requires.typed c.in-ReserveWrite.is).1

pub block-requires-clause-at : goal.block-requires-clause-at
block-requires-clause-at g c = (typed_as (form c.args.setting.now.pipe.now) c.args.s.now _ c.requires.typed c.in-Block.is).0

pub block-requires-clause-locked : goal.block-requires-clause-locked
block-requires-clause-locked g c = (typed_as (form c.args.setting.now.pipe.now) c.args.s.now _ c.requires.typed c.in-Block.is).1

pub call-requires-clause-typed : goal.call-requires-clause-typed
call-requires-clause-typed g c =
    let f = form c.args.setting.now.pipe.now in
    subst (λ (es : List r_expr.FlatExpr). AreArguments f.widths (param_widths f) (exprs_view es))
    (sym c.as_slice.ensures) (typed_as f c.args.s.now _ c.requires.typed c.in-Call.is)

pub bind-requires-clause-guards : goal.bind-requires-clause-guards
bind-requires-clause-guards g c =
    guards_as (form c.args.setting.now.pipe.now) c.args.s.now c.as_slice-guards.result.now c.requires.typed c.as_slice-guards.ensures

pub read-requires-clause-guards : goal.read-requires-clause-guards
read-requires-clause-guards g c =
    guards_as (form c.args.setting.now.pipe.now) c.args.s.now c.as_slice-guards.result.now c.requires.typed c.as_slice-guards.ensures

pub write-requires-clause-guards : goal.write-requires-clause-guards
write-requires-clause-guards g c =
    guards_as (form c.args.setting.now.pipe.now) c.args.s.now c.as_slice-guards.result.now c.requires.typed c.as_slice-guards.ensures

pub reserve-requires-clause-guards : goal.reserve-requires-clause-guards
reserve-requires-clause-guards g c =
    guards_as (form c.args.setting.now.pipe.now) c.args.s.now c.as_slice-guards.result.now c.requires.typed c.as_slice-guards.ensures

pub block-requires-clause-guards : goal.block-requires-clause-guards
block-requires-clause-guards g c =
    guards_as (form c.args.setting.now.pipe.now) c.args.s.now c.as_slice-guards.result.now c.requires.typed c.as_slice-guards.ensures

pub release-requires-clause-guards : goal.release-requires-clause-guards
release-requires-clause-guards g c =
    guards_as (form c.args.setting.now.pipe.now) c.args.s.now c.as_slice-guards.result.now c.requires.typed c.as_slice-guards.ensures

pub call-requires-clause-guards : goal.call-requires-clause-guards
call-requires-clause-guards g c =
    guards_as (form c.args.setting.now.pipe.now) c.args.s.now c.as_slice-guards.result.now c.requires.typed c.as_slice-guards.ensures

pub returns-in-Bind-clause-step : goal.returns-in-Bind-clause-step
returns-in-Bind-clause-step g c =
    let a = c.args.b.now in
    let b = c.bind.new.b in
    let w = c.args.self.now in
    let ls = locks_in (members g.L.LockModule) (form c.args.setting.now.pipe.now).pipe a c.args.setting.now.locks.now in
    let tickets = tickets_in a c.args.setting.now.tickets.now in
    let gs = guards_view c.as_slice-guards.result.now in
    let same : gs ≡ guards_view c.args.s.now.guards = ap guards_view c.as_slice-guards.ensures in
    let guards = subst (λ l. AreGuards (form c.args.setting.now.pipe.now).widths l) (sym same) c.requires.typed.0.0 in
    let typed = subst (λ (o : r_op.Op). IsTypedOp (form c.args.setting.now.pipe.now) (act_view o)) c.in-Bind.is c.requires.typed.0.1 in
    let nets =
    has_keep a b (parts_in a w).vars (extends_keeps a b c.bind.ensures.extends)
    (nets_of a (form c.args.setting.now.pipe.now).pipe (form c.args.setting.now.pipe.now).widths w c.requires.walk) in
    let op = sym (ap act_view c.in-Bind.is) in
    on_ok c.bind.result
    (λ q. step_as b (form c.args.setting.now.pipe.now).pipe ls tickets gs (guards_view c.args.s.now.guards)
    (flat.Bind c.in-Bind.x (expr_view c.in-Bind.e)) (act_view c.args.s.now.op) (walk_of (parts_in a w))
    (walk_of (parts_in b c.bind.new.self)) same op
    (bind_step b (form c.args.setting.now.pipe.now).pipe (form c.args.setting.now.pipe.now).widths ls tickets gs
    (parts_in a w) nets c.requires.walk.sized refl guards c.in-Bind.x (expr_view c.in-Bind.e)
    (parts_in b c.bind.new.self) typed.0 typed.1 q))
    c.bind.ensures.parts

pub returns-in-CombRead-clause-step : goal.returns-in-CombRead-clause-step
returns-in-CombRead-clause-step g c =
    let a = c.args.b.now in
    let b = c.read.new.b in
    let w = c.args.self.now in
    let ls = locks_in (members g.L.LockModule) (form c.args.setting.now.pipe.now).pipe a c.args.setting.now.locks.now in
    let tickets = tickets_in a c.args.setting.now.tickets.now in
    let gs = guards_view c.as_slice-guards.result.now in
    let same : gs ≡ guards_view c.args.s.now.guards = ap guards_view c.as_slice-guards.ensures in
    let guards = subst (λ l. AreGuards (form c.args.setting.now.pipe.now).widths l) (sym same) c.requires.typed.0.0 in
    let typed = subst (λ (o : r_op.Op). IsTypedOp (form c.args.setting.now.pipe.now) (act_view o)) c.in-CombRead.is c.requires.typed.0.1 in
    let nets =
    has_keep a b (parts_in a w).vars (extends_keeps a b c.read.ensures.extends)
    (nets_of a (form c.args.setting.now.pipe.now).pipe (form c.args.setting.now.pipe.now).widths w c.requires.walk) in
    let op = sym (ap act_view c.in-CombRead.is) in
    on_ok c.read.result
    (λ q. step_as b (form c.args.setting.now.pipe.now).pipe ls tickets gs (guards_view c.args.s.now.guards)
    (flat.CombRead c.in-CombRead.x c.in-CombRead.m c.in-CombRead.a) (act_view c.args.s.now.op)
    (walk_of (parts_in a w)) (walk_of (parts_in b c.read.new.self)) same op
    (read_step b (form c.args.setting.now.pipe.now).pipe (form c.args.setting.now.pipe.now).widths ls tickets gs
    (parts_in a w) nets c.requires.walk.sized refl guards c.in-CombRead.x c.in-CombRead.m c.in-CombRead.a
    (parts_in b c.read.new.self) refl typed.0 typed.1 q))
    c.read.ensures.parts

pub returns-in-Write-clause-step : goal.returns-in-Write-clause-step
returns-in-Write-clause-step g c =
    let a = c.args.b.now in
    let b = c.write.new.b in
    let w = c.args.self.now in
    let ls = locks_in (members g.L.LockModule) (form c.args.setting.now.pipe.now).pipe a c.args.setting.now.locks.now in
    let tickets = tickets_in a c.args.setting.now.tickets.now in
    let gs = guards_view c.as_slice-guards.result.now in
    let same : gs ≡ guards_view c.args.s.now.guards = ap guards_view c.as_slice-guards.ensures in
    let guards = subst (λ l. AreGuards (form c.args.setting.now.pipe.now).widths l) (sym same) c.requires.typed.0.0 in
    let typed = subst (λ (o : r_op.Op). IsTypedOp (form c.args.setting.now.pipe.now) (act_view o)) c.in-Write.is c.requires.typed.0.1 in
    let nets =
    has_keep a b (parts_in a w).vars (extends_keeps a b c.write.ensures.extends)
    (nets_of a (form c.args.setting.now.pipe.now).pipe (form c.args.setting.now.pipe.now).widths w c.requires.walk) in
    let op = sym (ap act_view c.in-Write.is) in
    on_ok c.write.result
    (λ q. step_as b (form c.args.setting.now.pipe.now).pipe ls tickets gs (guards_view c.args.s.now.guards)
    (flat.Write c.in-Write.m c.in-Write.a (expr_view c.in-Write.e)) (act_view c.args.s.now.op)
    (walk_of (parts_in a w)) (walk_of (parts_in b c.write.new.self)) same op
    (write_step b (form c.args.setting.now.pipe.now).pipe (form c.args.setting.now.pipe.now).widths ls tickets gs
    (parts_in a w) nets c.requires.walk.sized refl guards c.in-Write.m c.in-Write.a (expr_view c.in-Write.e)
    (parts_in b c.write.new.self) typed.1 q))
    c.write.ensures.parts

pub returns-in-ReserveWrite-clause-step : goal.returns-in-ReserveWrite-clause-step
returns-in-ReserveWrite-clause-step g c =
    let a = c.args.b.now in
    let b = c.reserve.new.b in
    let w = c.args.self.now in
    let ls = locks_in (members g.L.LockModule) (form c.args.setting.now.pipe.now).pipe a c.args.setting.now.locks.now in
    let tickets = tickets_in a c.args.setting.now.tickets.now in
    let gs = guards_view c.as_slice-guards.result.now in
    let same : gs ≡ guards_view c.args.s.now.guards = ap guards_view c.as_slice-guards.ensures in
    let guards = subst (λ l. AreGuards (form c.args.setting.now.pipe.now).widths l) (sym same) c.requires.typed.0.0 in
    let typed = subst (λ (o : r_op.Op). IsTypedOp (form c.args.setting.now.pipe.now) (act_view o)) c.in-ReserveWrite.is c.requires.typed.0.1 in
    let nets =
    has_keep a b (parts_in a w).vars (extends_keeps a b c.reserve.ensures.extends)
    (nets_of a (form c.args.setting.now.pipe.now).pipe (form c.args.setting.now.pipe.now).widths w c.requires.walk) in
    let op = sym (ap act_view c.in-ReserveWrite.is) in
    on_ok c.reserve.result
    (λ q. step_as b (form c.args.setting.now.pipe.now).pipe ls tickets gs (guards_view c.args.s.now.guards)
    (flat.ReserveWrite c.in-ReserveWrite.m c.in-ReserveWrite.a) (act_view c.args.s.now.op) (walk_of (parts_in a w))
    (walk_of (parts_in b c.reserve.new.self)) same op
    (reserve_step b (form c.args.setting.now.pipe.now).pipe (form c.args.setting.now.pipe.now).widths ls tickets gs
    (parts_in a w) nets c.requires.walk.sized refl guards c.in-ReserveWrite.m c.in-ReserveWrite.a
    (parts_in b c.reserve.new.self) typed.0 typed.1 q))
    c.reserve.ensures.parts

pub returns-in-Block-clause-step : goal.returns-in-Block-clause-step
returns-in-Block-clause-step g c =
    let a = c.args.b.now in
    let b = c.block.new.b in
    let w = c.args.self.now in
    let ls = locks_in (members g.L.LockModule) (form c.args.setting.now.pipe.now).pipe a c.args.setting.now.locks.now in
    let tickets = tickets_in a c.args.setting.now.tickets.now in
    let gs = guards_view c.as_slice-guards.result.now in
    let same : gs ≡ guards_view c.args.s.now.guards = ap guards_view c.as_slice-guards.ensures in
    let guards = subst (λ l. AreGuards (form c.args.setting.now.pipe.now).widths l) (sym same) c.requires.typed.0.0 in
    let typed = subst (λ (o : r_op.Op). IsTypedOp (form c.args.setting.now.pipe.now) (act_view o)) c.in-Block.is c.requires.typed.0.1 in
    let nets =
    has_keep a b (parts_in a w).vars (extends_keeps a b c.block.ensures.extends)
    (nets_of a (form c.args.setting.now.pipe.now).pipe (form c.args.setting.now.pipe.now).widths w c.requires.walk) in
    let op = sym (ap act_view c.in-Block.is) in
    on_ok c.block.result
    (λ q. step_as b (form c.args.setting.now.pipe.now).pipe ls tickets gs (guards_view c.args.s.now.guards)
    (flat.Block c.in-Block.m c.in-Block.a) (act_view c.args.s.now.op) (walk_of (parts_in a w))
    (walk_of (parts_in b c.block.new.self)) same op
    (block_step b (form c.args.setting.now.pipe.now).pipe (form c.args.setting.now.pipe.now).widths ls tickets gs
    (parts_in a w) nets c.requires.walk.sized refl guards c.in-Block.m c.in-Block.a
    (parts_in b c.block.new.self) typed.1 q))
    c.block.ensures.parts

pub returns-in-Release-clause-step : goal.returns-in-Release-clause-step
returns-in-Release-clause-step g c =
    let a = c.args.b.now in
    let b = c.release.new.b in
    let w = c.args.self.now in
    let ls = locks_in (members g.L.LockModule) (form c.args.setting.now.pipe.now).pipe a c.args.setting.now.locks.now in
    let tickets = tickets_in a c.args.setting.now.tickets.now in
    let gs = guards_view c.as_slice-guards.result.now in
    let same : gs ≡ guards_view c.args.s.now.guards = ap guards_view c.as_slice-guards.ensures in
    let guards = subst (λ l. AreGuards (form c.args.setting.now.pipe.now).widths l) (sym same) c.requires.typed.0.0 in
    let typed = subst (λ (o : r_op.Op). IsTypedOp (form c.args.setting.now.pipe.now) (act_view o)) c.in-Release.is c.requires.typed.0.1 in
    let nets =
    has_keep a b (parts_in a w).vars (extends_keeps a b c.release.ensures.extends)
    (nets_of a (form c.args.setting.now.pipe.now).pipe (form c.args.setting.now.pipe.now).widths w c.requires.walk) in
    let op = sym (ap act_view c.in-Release.is) in
    on_ok c.release.result
    (λ q. step_as b (form c.args.setting.now.pipe.now).pipe ls tickets gs (guards_view c.args.s.now.guards)
    (flat.Release c.in-Release.m c.in-Release.a) (act_view c.args.s.now.op) (walk_of (parts_in a w))
    (walk_of (parts_in b c.release.new.self)) same op
    (release_step b (form c.args.setting.now.pipe.now).pipe (form c.args.setting.now.pipe.now).widths ls tickets gs
    (parts_in a w) nets c.requires.walk.sized refl guards c.in-Release.m c.in-Release.a
    (parts_in b c.release.new.self) q))
    c.release.ensures.parts

pub returns-in-Call-clause-step : goal.returns-in-Call-clause-step
returns-in-Call-clause-step g c =
    let a = c.args.b.now in
    let b = c.call.new.b in
    let w = c.args.self.now in
    let ls = locks_in (members g.L.LockModule) (form c.args.setting.now.pipe.now).pipe a c.args.setting.now.locks.now in
    let tickets = tickets_in a c.args.setting.now.tickets.now in
    let gs = guards_view c.as_slice-guards.result.now in
    let same : gs ≡ guards_view c.args.s.now.guards = ap guards_view c.as_slice-guards.ensures in
    let guards = subst (λ l. AreGuards (form c.args.setting.now.pipe.now).widths l) (sym same) c.requires.typed.0.0 in
    let typed = subst (λ (o : r_op.Op). IsTypedOp (form c.args.setting.now.pipe.now) (act_view o)) c.in-Call.is c.requires.typed.0.1 in
    let nets =
    has_keep a b (parts_in a w).vars (extends_keeps a b c.call.ensures.extends)
    (nets_of a (form c.args.setting.now.pipe.now).pipe (form c.args.setting.now.pipe.now).widths w c.requires.walk) in
    let es = exprs_view c.as_slice.result.now in
    let op = ap (λ (l : List r_expr.FlatExpr). flat.Call (exprs_view l)) c.as_slice.ensures ∙ sym (ap act_view c.in-Call.is) in
    let args =
    subst
    (λ (l : List r_expr.FlatExpr). AreArguments (form c.args.setting.now.pipe.now).widths (param_widths (form c.args.setting.now.pipe.now)) (exprs_view l))
    (sym c.as_slice.ensures) typed in
    let ws = (form c.args.setting.now.pipe.now).widths in
    let n = length (form c.args.setting.now.pipe.now).pipe.start in
    on_ok c.call.result
    (λ q. step_as b (form c.args.setting.now.pipe.now).pipe ls tickets gs (guards_view c.args.s.now.guards)
    (flat.Call es) (act_view c.args.s.now.op) (walk_of (parts_in a w))
    (walk_of (parts_in b c.call.new.self)) same op
    (call_step b (form c.args.setting.now.pipe.now).pipe (form c.args.setting.now.pipe.now).widths ls tickets gs
    (parts_in a w) nets c.requires.walk.sized refl guards es (parts_in b c.call.new.self)
    (arguments_few ws n es args) (arguments_typed ws (param_widths (form c.args.setting.now.pipe.now)) es args) q))
    c.call.ensures.parts

pub returns-in-ReserveRead-clause-step : goal.returns-in-ReserveRead-clause-step
returns-in-ReserveRead-clause-step g c =
    let a = c.args.b.now in
    let w = c.args.self.now in
    let ls = locks_in (members g.L.LockModule) (form c.args.setting.now.pipe.now).pipe a c.args.setting.now.locks.now in
    let tickets = tickets_in a c.args.setting.now.tickets.now in
    let gs = guards_view c.args.s.now.guards in
    let op : flat.ReserveRead c.in-ReserveRead.m c.in-ReserveRead.a ≡ act_view c.args.s.now.op = sym (ap act_view c.in-ReserveRead.is) in
    step_as a (form c.args.setting.now.pipe.now).pipe ls tickets gs gs (flat.ReserveRead c.in-ReserveRead.m c.in-ReserveRead.a)
    (act_view c.args.s.now.op) (walk_of (parts_in a w)) (walk_of (parts_in a w)) refl op
    (idle_step a (form c.args.setting.now.pipe.now).pipe (form c.args.setting.now.pipe.now).widths ls tickets gs (parts_in a w)
    (nets_of a (form c.args.setting.now.pipe.now).pipe
    (form c.args.setting.now.pipe.now).widths w c.requires.walk) c.requires.walk.sized refl c.requires.typed.0.0 c.in-ReserveRead.m c.in-ReserveRead.a)

pub returns-in-DelayedRead-clause-step : goal.returns-in-DelayedRead-clause-step
returns-in-DelayedRead-clause-step g c =
    let a = c.args.b.now in
    let b = c.delayed_read.new.b in
    let w = c.args.self.now in
    let ls = locks_in (members g.L.LockModule) (form c.args.setting.now.pipe.now).pipe a c.args.setting.now.locks.now in
    let tickets = tickets_in a c.args.setting.now.tickets.now in
    let gs = guards_view c.as_slice-guards.result.now in
    let same : gs ≡ guards_view c.args.s.now.guards = ap guards_view c.as_slice-guards.ensures in
    let guards = subst (λ l. AreGuards (form c.args.setting.now.pipe.now).widths l) (sym same) c.requires.typed.0.0 in
    let nets =
    has_keep a b (parts_in a w).vars (extends_keeps a b c.delayed_read.ensures.extends)
    (nets_of a (form c.args.setting.now.pipe.now).pipe (form c.args.setting.now.pipe.now).widths w c.requires.walk) in
    let op = sym (ap act_view c.in-DelayedRead.is) in
    on_ok c.delayed_read.result
    (λ q. step_as b (form c.args.setting.now.pipe.now).pipe ls tickets gs (guards_view c.args.s.now.guards)
    (flat.DelayedRead c.in-DelayedRead.x c.in-DelayedRead.m c.in-DelayedRead.a) (act_view c.args.s.now.op)
    (walk_of (parts_in a w)) (walk_of (parts_in b c.delayed_read.new.self)) same op
    (ask_step b (form c.args.setting.now.pipe.now).pipe (form c.args.setting.now.pipe.now).widths ls tickets gs
    (parts_in a w) nets c.requires.walk.sized refl guards c.in-DelayedRead.x c.in-DelayedRead.m c.in-DelayedRead.a
    (parts_in b c.delayed_read.new.self) q))
    c.delayed_read.ensures.parts

pub returns-in-SpecCall-clause-step : goal.returns-in-SpecCall-clause-step
returns-in-SpecCall-clause-step g c =
    let a = c.args.b.now in
    let b = c.spec_call.new.b in
    let w = c.args.self.now in
    let ls = locks_in (members g.L.LockModule) (form c.args.setting.now.pipe.now).pipe a c.args.setting.now.locks.now in
    let tickets = tickets_in a c.args.setting.now.tickets.now in
    let gs = guards_view c.as_slice-guards.result.now in
    let same : gs ≡ guards_view c.args.s.now.guards = ap guards_view c.as_slice-guards.ensures in
    let guards = subst (λ l. AreGuards (form c.args.setting.now.pipe.now).widths l) (sym same) c.requires.typed.0.0 in
    let nets =
    has_keep a b (parts_in a w).vars (extends_keeps a b c.spec_call.ensures.extends)
    (nets_of a (form c.args.setting.now.pipe.now).pipe (form c.args.setting.now.pipe.now).widths w c.requires.walk) in
    let typed = subst (λ (o : r_op.Op). IsTypedOp (form c.args.setting.now.pipe.now) (act_view o)) c.in-SpecCall.is c.requires.typed.0.1 in
    let es = exprs_view c.as_slice-in-SpecCall.result.now in
    let op = ap (λ (l : List r_expr.FlatExpr). flat.SpecCall (exprs_view l)) c.as_slice-in-SpecCall.ensures ∙ sym (ap act_view c.in-SpecCall.is) in
    let args =
    subst
    (λ (l : List r_expr.FlatExpr). AreArguments (form c.args.setting.now.pipe.now).widths (param_widths (form c.args.setting.now.pipe.now)) (exprs_view l))
    (sym c.as_slice-in-SpecCall.ensures) typed in
    let ws = (form c.args.setting.now.pipe.now).widths in
    let n = length (form c.args.setting.now.pipe.now).pipe.start in
    let wide =
    arguments_wide (parts_in a w).vars (param_widths (form c.args.setting.now.pipe.now)) es
    (subst (λ l. AreArguments l (param_widths (form c.args.setting.now.pipe.now)) es) (sym c.requires.walk.sized.vars) args)
    ∙ sym c.requires.walk.sized.guess in
    on_ok c.spec_call.result
    (λ q. step_as b (form c.args.setting.now.pipe.now).pipe ls tickets gs (guards_view c.args.s.now.guards)
    (flat.SpecCall es) (act_view c.args.s.now.op) (walk_of (parts_in a w))
    (walk_of (parts_in b c.spec_call.new.self)) same op
    (guess_step b (form c.args.setting.now.pipe.now).pipe (form c.args.setting.now.pipe.now).widths ls tickets gs
    (parts_in a w) nets c.requires.walk.sized refl guards es (arguments_few ws n es args)
    (arguments_typed ws (param_widths (form c.args.setting.now.pipe.now)) es args) wide (parts_in b c.spec_call.new.self) q))
    c.spec_call.ensures.parts

pub returns-in-Verify-clause-step : goal.returns-in-Verify-clause-step
returns-in-Verify-clause-step g c =
    let a = c.args.b.now in
    let b = c.compare.new.b in
    let w = c.args.self.now in
    let ls = locks_in (members g.L.LockModule) (form c.args.setting.now.pipe.now).pipe a c.args.setting.now.locks.now in
    let tickets = tickets_in a c.args.setting.now.tickets.now in
    let gs = guards_view c.as_slice-guards.result.now in
    let same : gs ≡ guards_view c.args.s.now.guards = ap guards_view c.as_slice-guards.ensures in
    let guards = subst (λ l. AreGuards (form c.args.setting.now.pipe.now).widths l) (sym same) c.requires.typed.0.0 in
    let nets =
    has_keep a b (parts_in a w).vars (extends_keeps a b c.compare.ensures.extends)
    (nets_of a (form c.args.setting.now.pipe.now).pipe (form c.args.setting.now.pipe.now).widths w c.requires.walk) in
    let typed = subst (λ (o : r_op.Op). IsTypedOp (form c.args.setting.now.pipe.now) (act_view o)) c.in-Verify.is c.requires.typed.0.1 in
    let es = exprs_view c.as_slice-in-Verify.result.now in
    let op =
    ap (λ (l : List r_expr.FlatExpr). flat.Verify c.in-Verify.last (exprs_view l)) c.as_slice-in-Verify.ensures ∙ sym (ap act_view c.in-Verify.is) in
    let args =
    subst
    (λ (l : List r_expr.FlatExpr). AreArguments (form c.args.setting.now.pipe.now).widths (param_widths (form c.args.setting.now.pipe.now)) (exprs_view l))
    (sym c.as_slice-in-Verify.ensures) typed in
    let ws = (form c.args.setting.now.pipe.now).widths in
    let n = length (form c.args.setting.now.pipe.now).pipe.start in
    let wide =
    arguments_wide (parts_in a w).vars (param_widths (form c.args.setting.now.pipe.now)) es
    (subst (λ l. AreArguments l (param_widths (form c.args.setting.now.pipe.now)) es) (sym c.requires.walk.sized.vars) args)
    ∙ sym c.requires.walk.sized.guess in
    on_ok c.compare.result
    (λ q. step_as b (form c.args.setting.now.pipe.now).pipe ls tickets gs (guards_view c.args.s.now.guards)
    (flat.Verify c.in-Verify.last es) (act_view c.args.s.now.op) (walk_of (parts_in a w))
    (walk_of (parts_in b c.compare.new.self)) same op
    (compare_step b (form c.args.setting.now.pipe.now).pipe (form c.args.setting.now.pipe.now).widths ls tickets gs
    (parts_in a w) nets c.requires.walk.sized refl guards es (arguments_few ws n es args)
    (arguments_typed ws (param_widths (form c.args.setting.now.pipe.now)) es args) wide c.in-Verify.last (parts_in b c.compare.new.self) q))
    c.compare.ensures.parts

pub returns-in-SpecBarrier-clause-step : goal.returns-in-SpecBarrier-clause-step
returns-in-SpecBarrier-clause-step g c =
    let a = c.args.b.now in
    let b = c.spec_barrier.new.b in
    let w = c.args.self.now in
    let ls = locks_in (members g.L.LockModule) (form c.args.setting.now.pipe.now).pipe a c.args.setting.now.locks.now in
    let tickets = tickets_in a c.args.setting.now.tickets.now in
    let gs = guards_view c.as_slice-guards.result.now in
    let same : gs ≡ guards_view c.args.s.now.guards = ap guards_view c.as_slice-guards.ensures in
    let guards = subst (λ l. AreGuards (form c.args.setting.now.pipe.now).widths l) (sym same) c.requires.typed.0.0 in
    let nets =
    has_keep a b (parts_in a w).vars (extends_keeps a b c.spec_barrier.ensures.extends)
    (nets_of a (form c.args.setting.now.pipe.now).pipe (form c.args.setting.now.pipe.now).widths w c.requires.walk) in
    let op = sym (ap act_view c.in-SpecBarrier.is) in
    on_ok c.spec_barrier.result
    (λ q. step_as b (form c.args.setting.now.pipe.now).pipe ls tickets gs (guards_view c.args.s.now.guards) flat.SpecBarrier (act_view c.args.s.now.op)
    (walk_of (parts_in a w)) (walk_of (parts_in b c.spec_barrier.new.self)) same op
    (barrier_step b (form c.args.setting.now.pipe.now).pipe (form c.args.setting.now.pipe.now).widths ls tickets gs
    (parts_in a w) nets c.requires.walk.sized refl guards (parts_in b c.spec_barrier.new.self) q))
    c.spec_barrier.ensures.parts

pub returns-in-SpecCheck-clause-step : goal.returns-in-SpecCheck-clause-step
returns-in-SpecCheck-clause-step g c =
    let a = c.args.b.now in
    let w = c.args.self.now in
    let ls = locks_in (members g.L.LockModule) (form c.args.setting.now.pipe.now).pipe a c.args.setting.now.locks.now in
    let tickets = tickets_in a c.args.setting.now.tickets.now in
    let gs = guards_view c.args.s.now.guards in
    let op : flat.SpecCheck ≡ act_view c.args.s.now.op = sym (ap act_view c.in-SpecCheck.is) in
    step_as a (form c.args.setting.now.pipe.now).pipe ls tickets gs gs flat.SpecCheck (act_view c.args.s.now.op)
    (walk_of (parts_in a w)) (walk_of (parts_in a w)) refl op
    (check_step a (form c.args.setting.now.pipe.now).pipe (form c.args.setting.now.pipe.now).widths ls tickets gs (parts_in a w)
    (nets_of a (form c.args.setting.now.pipe.now).pipe
    (form c.args.setting.now.pipe.now).widths w c.requires.walk) c.requires.walk.sized refl c.requires.typed.0.0)

pub bind-requires-in-AdviceBind-clause-low : goal.bind-requires-in-AdviceBind-clause-low
bind-requires-in-AdviceBind-clause-low g c = (typed_as (form c.args.setting.now.pipe.now) c.args.s.now _ c.requires.typed c.in-AdviceBind.is).0

pub bind-requires-in-AdviceBind-clause-typed : goal.bind-requires-in-AdviceBind-clause-typed
bind-requires-in-AdviceBind-clause-typed g c = (typed_as (form c.args.setting.now.pipe.now) c.args.s.now _ c.requires.typed c.in-AdviceBind.is).1

pub bind-requires-in-AdviceBind-clause-wide : goal.bind-requires-in-AdviceBind-clause-wide
bind-requires-in-AdviceBind-clause-wide g c = (typed_as (form c.args.setting.now.pipe.now) c.args.s.now _ c.requires.typed c.in-AdviceBind.is).2

pub read-requires-in-AdviceRead-clause-low : goal.read-requires-in-AdviceRead-clause-low
read-requires-in-AdviceRead-clause-low g c = (typed_as (form c.args.setting.now.pipe.now) c.args.s.now _ c.requires.typed c.in-AdviceRead.is).0

pub read-requires-in-AdviceRead-clause-at : goal.read-requires-in-AdviceRead-clause-at
read-requires-in-AdviceRead-clause-at g c = (typed_as (form c.args.setting.now.pipe.now) c.args.s.now _ c.requires.typed c.in-AdviceRead.is).1

pub read-requires-in-AdviceRead-clause-wide : goal.read-requires-in-AdviceRead-clause-wide
read-requires-in-AdviceRead-clause-wide g c = (typed_as (form c.args.setting.now.pipe.now) c.args.s.now _ c.requires.typed c.in-AdviceRead.is).2

pub read-requires-in-AdviceRead-clause-at_once : goal.read-requires-in-AdviceRead-clause-at_once
read-requires-in-AdviceRead-clause-at_once g c =
    (subst (λ (o : r_op.Op). HasRow (form c.args.setting.now.pipe.now).pipe (act_view o)) c.in-AdviceRead.is c.requires.typed.1).1

pub advise-requires-clause-at : goal.advise-requires-clause-at
advise-requires-clause-at g c = (typed_as (form c.args.setting.now.pipe.now) c.args.s.now _ c.requires.typed c.in-AdviceWrite.is).0

pub advise-requires-clause-typed : goal.advise-requires-clause-typed
advise-requires-clause-typed g c = (typed_as (form c.args.setting.now.pipe.now) c.args.s.now _ c.requires.typed c.in-AdviceWrite.is).1

pub advise-requires-clause-wide : goal.advise-requires-clause-wide
advise-requires-clause-wide g c = (typed_as (form c.args.setting.now.pipe.now) c.args.s.now _ c.requires.typed c.in-AdviceWrite.is).2

pub advise-requires-clause-unlocked : goal.advise-requires-clause-unlocked
advise-requires-clause-unlocked g c =
    subst (λ (o : r_op.Op). HasRow (form c.args.setting.now.pipe.now).pipe (act_view o)) c.in-AdviceWrite.is c.requires.typed.1

pub bind-requires-in-AdviceBind-clause-guards : goal.bind-requires-in-AdviceBind-clause-guards
bind-requires-in-AdviceBind-clause-guards g c =
    guards_as (form c.args.setting.now.pipe.now) c.args.s.now c.as_slice-guards.result.now c.requires.typed c.as_slice-guards.ensures

pub read-requires-in-AdviceRead-clause-guards : goal.read-requires-in-AdviceRead-clause-guards
read-requires-in-AdviceRead-clause-guards g c =
    guards_as (form c.args.setting.now.pipe.now) c.args.s.now c.as_slice-guards.result.now c.requires.typed c.as_slice-guards.ensures

pub advise-requires-clause-guards : goal.advise-requires-clause-guards
advise-requires-clause-guards g c =
    guards_as (form c.args.setting.now.pipe.now) c.args.s.now c.as_slice-guards.result.now c.requires.typed c.as_slice-guards.ensures

pub returns-in-AdviceBind-clause-step : goal.returns-in-AdviceBind-clause-step
returns-in-AdviceBind-clause-step g c =
    let a = c.args.b.now in
    let b = c.bind-in-AdviceBind.new.b in
    let w = c.args.self.now in
    let ls = locks_in (members g.L.LockModule) (form c.args.setting.now.pipe.now).pipe a c.args.setting.now.locks.now in
    let tickets = tickets_in a c.args.setting.now.tickets.now in
    let gs = guards_view c.as_slice-guards.result.now in
    let same : gs ≡ guards_view c.args.s.now.guards = ap guards_view c.as_slice-guards.ensures in
    let guards = subst (λ l. AreGuards (form c.args.setting.now.pipe.now).widths l) (sym same) c.requires.typed.0.0 in
    let typed = subst (λ (o : r_op.Op). IsTypedOp (form c.args.setting.now.pipe.now) (act_view o)) c.in-AdviceBind.is c.requires.typed.0.1 in
    let nets =
    has_keep a b (parts_in a w).vars (extends_keeps a b c.bind-in-AdviceBind.ensures.extends)
    (nets_of a (form c.args.setting.now.pipe.now).pipe (form c.args.setting.now.pipe.now).widths w c.requires.walk) in
    let op = sym (ap act_view c.in-AdviceBind.is) in
    on_ok c.bind-in-AdviceBind.result
    (λ q. step_as b (form c.args.setting.now.pipe.now).pipe ls tickets gs (guards_view c.args.s.now.guards)
    (flat.AdviceBind c.in-AdviceBind.x (expr_view c.in-AdviceBind.e)) (act_view c.args.s.now.op)
    (walk_of (parts_in a w)) (walk_of (parts_in b c.bind-in-AdviceBind.new.self)) same op
    (advice_bind_step b (form c.args.setting.now.pipe.now).pipe (form c.args.setting.now.pipe.now).widths ls tickets gs
    (parts_in a w) nets c.requires.walk.sized refl guards c.in-AdviceBind.x (expr_view c.in-AdviceBind.e)
    (parts_in b c.bind-in-AdviceBind.new.self) typed.0 typed.1 q))
    c.bind-in-AdviceBind.ensures.parts

pub returns-in-AdviceRead-clause-step : goal.returns-in-AdviceRead-clause-step
returns-in-AdviceRead-clause-step g c =
    let a = c.args.b.now in
    let b = c.read-in-AdviceRead.new.b in
    let w = c.args.self.now in
    let ls = locks_in (members g.L.LockModule) (form c.args.setting.now.pipe.now).pipe a c.args.setting.now.locks.now in
    let tickets = tickets_in a c.args.setting.now.tickets.now in
    let gs = guards_view c.as_slice-guards.result.now in
    let same : gs ≡ guards_view c.args.s.now.guards = ap guards_view c.as_slice-guards.ensures in
    let guards = subst (λ l. AreGuards (form c.args.setting.now.pipe.now).widths l) (sym same) c.requires.typed.0.0 in
    let typed = subst (λ (o : r_op.Op). IsTypedOp (form c.args.setting.now.pipe.now) (act_view o)) c.in-AdviceRead.is c.requires.typed.0.1 in
    let nets =
    has_keep a b (parts_in a w).vars (extends_keeps a b c.read-in-AdviceRead.ensures.extends)
    (nets_of a (form c.args.setting.now.pipe.now).pipe (form c.args.setting.now.pipe.now).widths w c.requires.walk) in
    let op = sym (ap act_view c.in-AdviceRead.is) in
    on_ok c.read-in-AdviceRead.result
    (λ q. step_as b (form c.args.setting.now.pipe.now).pipe ls tickets gs (guards_view c.args.s.now.guards)
    (flat.AdviceRead c.in-AdviceRead.x c.in-AdviceRead.m c.in-AdviceRead.a) (act_view c.args.s.now.op)
    (walk_of (parts_in a w)) (walk_of (parts_in b c.read-in-AdviceRead.new.self)) same op
    (advice_read_step b (form c.args.setting.now.pipe.now).pipe (form c.args.setting.now.pipe.now).widths ls tickets gs
    (parts_in a w) nets c.requires.walk.sized refl guards c.in-AdviceRead.x c.in-AdviceRead.m c.in-AdviceRead.a
    (parts_in b c.read-in-AdviceRead.new.self) refl typed.0 typed.1 q))
    c.read-in-AdviceRead.ensures.parts

pub returns-in-AdviceWrite-clause-step : goal.returns-in-AdviceWrite-clause-step
returns-in-AdviceWrite-clause-step g c =
    let a = c.args.b.now in
    let b = c.advise.new.b in
    let w = c.args.self.now in
    let ls = locks_in (members g.L.LockModule) (form c.args.setting.now.pipe.now).pipe a c.args.setting.now.locks.now in
    let tickets = tickets_in a c.args.setting.now.tickets.now in
    let gs = guards_view c.as_slice-guards.result.now in
    let same : gs ≡ guards_view c.args.s.now.guards = ap guards_view c.as_slice-guards.ensures in
    let guards = subst (λ l. AreGuards (form c.args.setting.now.pipe.now).widths l) (sym same) c.requires.typed.0.0 in
    let typed = subst (λ (o : r_op.Op). IsTypedOp (form c.args.setting.now.pipe.now) (act_view o)) c.in-AdviceWrite.is c.requires.typed.0.1 in
    let nets =
    has_keep a b (parts_in a w).vars (extends_keeps a b c.advise.ensures.extends)
    (nets_of a (form c.args.setting.now.pipe.now).pipe (form c.args.setting.now.pipe.now).widths w c.requires.walk) in
    let op = sym (ap act_view c.in-AdviceWrite.is) in
    on_ok c.advise.result
    (λ q. step_as b (form c.args.setting.now.pipe.now).pipe ls tickets gs (guards_view c.args.s.now.guards)
    (flat.AdviceWrite c.in-AdviceWrite.m c.in-AdviceWrite.a (expr_view c.in-AdviceWrite.e)) (act_view c.args.s.now.op)
    (walk_of (parts_in a w)) (walk_of (parts_in b c.advise.new.self)) same op
    (advice_write_step b (form c.args.setting.now.pipe.now).pipe (form c.args.setting.now.pipe.now).widths ls tickets gs
    (parts_in a w) nets c.requires.walk.sized refl guards c.in-AdviceWrite.m c.in-AdviceWrite.a (expr_view c.in-AdviceWrite.e)
    (parts_in b c.advise.new.self) typed.1 q))
    c.advise.ensures.parts
