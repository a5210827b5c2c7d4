use Rattle.std.proofs.Common.{ℕ, ◌+◌, ◌<◌, Bool, length, take, refl, sym, subst, arith}
use Rattle.pdl_form.specs.FormView.{form}
use Rattle.pdl_net.proofs.Keeps.{extends_keeps}
use Rattle.pdl_net.specs.Signal.{Signal}
use Rattle.pdl_pipe_exprs.specs.Nets.{signals_in}
use Rattle.pdl_law_parts.specs.Lives.{lives_from}
use Rattle.pdl_pipe_registers.specs.declared.nets.Item.TheVariants.{Var}
use Rattle.pdl_pipe_registers.specs.Begun.{earlier_views, earlier_count, IsSettledAfter, MayBegin}
use Rattle.pdl_pipe_registers.proofs.Begins.{SoFar, shared_keep, next_keep, earlier_now, ends_same, settled_as, begin_as, sofar_more}
use Rattle.pdl_pipe_registers.proofs.entry.begin_vars.Goals as goal

pub begin_var-requires-clause-shared : goal.begin_var-requires-clause-shared
begin_var-requires-clause-shared c =
    shared_keep c.args.b.now c.loop-x.b (form c.args.pipe.now) c.args.shared.now
    (extends_keeps c.args.b.now c.loop-x.b c.loop-x.invariant.extends) c.requires.shared

pub begin_var-requires-clause-earlier : goal.begin_var-requires-clause-earlier
begin_var-requires-clause-earlier c =
    earlier_now c.args.b.now c.loop-x.b (form c.args.pipe.now) c.args.shared.now c.args.earlier.now
    (extends_keeps c.args.b.now c.loop-x.b c.loop-x.invariant.extends) c.requires.shared c.requires.earlier

pub loop-x-preserved : goal.loop-x-preserved
loop-x-preserved c =
    let a = c.args.b.now in
    let b = c.loop-x.b in
    let d = c.begin_var.new.b in
    let f = form c.args.pipe.now in
    let x = c.args.earlier.now in
    let nexts = signals_in a c.args.shared.now.next in
    let k = earlier_count x in
    let e = extends_keeps a b c.loop-x.invariant.extends in
    let r = c.loop-x.regs in
    let t = c.begin_var.new.regs in
    let i = c.loop-x.x in
    let net = c.in_ok-net.net in
    let needed : ℕ → Bool = lives_from f.pipe k in
    let ws = f.widths in
    let low : i < length ws = (let t = c.loop-x-test.true in let n = c.vars-x-end.ensures in omega (arith, t, n)) in
    let may0 =
    subst (λ fs. MayBegin d f fs k (needed i) r t (Var i) net (IsSettledAfter b f x (Var i)))
    (next_keep a b f c.args.shared.now e c.requires.shared) c.in_ok-net.ensures.begins in
    let settled : ℕ → Signal → Type 0 = (λ y. IsSettledAfter a f x (Var y)) in
    let may =
    begin_as d f nexts k (needed i) r t (Var i) net (IsSettledAfter b f x (Var i)) (settled i)
    (λ g h. settled_as f.pipe (earlier_views b x)
    (earlier_views a x) k (Var i) g (λ j l. sym (ends_same a b f nexts x.stages.now (Var i) e c.requires.earlier.ended j l)) h) may0 in
    let more =
    sofar_more a f nexts k c.args.regs.now Var needed settled ws b d r t i c.loop-x.nets net low c.begin_var.ensures.extends may c.in_ok-net.ensures.last refl c.loop-x.invariant in
    subst (λ xs. SoFar a d f nexts k c.args.regs.now t Var needed settled (take (i + 1) ws) xs) (sym c.in_ok-push.ensures.ok) more
