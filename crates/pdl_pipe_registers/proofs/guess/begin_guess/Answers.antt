use Rattle.std.proofs.Common.{ℕ, ◌+◌, ◌<◌, Bool, length, take, sym, ap, ◌∙◌, subst, arith}
use Rattle.std.proofs.lemmas.List.{length-take}
use Rattle.pdl_form.specs.FormView.{form}
use Rattle.pdl_net.proofs.Keeps.{extends_keeps}
use Rattle.pdl_net.specs.Signal.{Signal}
use Rattle.pdl_pipe_exprs.specs.Nets.{signals_in, widths_of}
use Rattle.pdl_pipe_exprs.proofs.NetLists.{there_keeps, signals_keep}
use Rattle.pdl_law_parts.specs.Lives.{verifies_from}
use Rattle.pdl_pipe_registers.specs.declared.nets.Item.TheVariants.{Guess}
use Rattle.pdl_pipe_registers.specs.Begun.{earlier_views, earlier_count, IsSparedAfter, MayBegin}
use Rattle.pdl_pipe_registers.proofs.Begins.{SoFar, shared_keep, next_keep, earlier_now, ends_same, spared_as, begin_as, sofar_more}
use Rattle.pdl_pipe_registers.proofs.SettledItems.{take_index}
use Rattle.pdl_pipe_registers.proofs.guess.begin_guess.Goals as goal

pub begin_argument-requires-clause-shared : goal.begin_argument-requires-clause-shared
begin_argument-requires-clause-shared c =
    shared_keep c.args.b.now c.loop-i.b (form c.args.pipe.now) c.args.shared.now
    (extends_keeps c.args.b.now c.loop-i.b c.loop-i.invariant.extends) c.requires.shared

pub begin_argument-requires-clause-earlier : goal.begin_argument-requires-clause-earlier
begin_argument-requires-clause-earlier c =
    earlier_now c.args.b.now c.loop-i.b (form c.args.pipe.now) c.args.shared.now c.args.earlier.now
    (extends_keeps c.args.b.now c.loop-i.b c.loop-i.invariant.extends) c.requires.shared c.requires.earlier

pub begin_argument-requires-clause-vars : goal.begin_argument-requires-clause-vars
begin_argument-requires-clause-vars c =
    there_keeps c.args.b.now c.loop-i.b c.args.vars.now (extends_keeps c.args.b.now c.loop-i.b c.loop-i.invariant.extends) c.requires.vars

pub begin_argument-requires-clause-wide : goal.begin_argument-requires-clause-wide
begin_argument-requires-clause-wide c =
    ap widths_of (signals_keep c.args.b.now c.loop-i.b c.args.vars.now (extends_keeps c.args.b.now c.loop-i.b c.loop-i.invariant.extends) c.requires.vars)
    ∙ c.requires.wide

pub loop-i-preserved : goal.loop-i-preserved
loop-i-preserved c =
    let a = c.args.b.now in
    let b = c.loop-i.b in
    let d = c.begin_argument.new.b in
    let f = form c.args.pipe.now in
    let x = c.args.earlier.now in
    let nexts = signals_in a c.args.shared.now.next in
    let vars = c.args.vars.now in
    let k = earlier_count x in
    let e = extends_keeps a b c.loop-i.invariant.extends in
    let r = c.loop-i.regs in
    let t = c.begin_argument.new.regs in
    let i = c.loop-i.i in
    let net = c.in_ok-net.net in
    let needed : ℕ → Bool = (λ j. verifies_from f.pipe k) in
    let ws = take (length f.pipe.start) f.widths in
    let low : i < length ws =
    (let t = c.loop-i-test.true in let s = ap length c.start-i-end.ensures in
    let n = length-take (length f.pipe.start) f.widths in let p = c.requires.typed.params in
    omega (arith, t, s, n, p)) in
    let may0 =
    subst (λ fs. MayBegin d f fs k (needed i) r t (Guess i) net (IsSparedAfter b f x vars (Guess i)))
    (next_keep a b f c.args.shared.now e c.requires.shared) c.in_ok-net.ensures.begins in
    let spared : ℕ → Signal → Type 0 = (λ y. IsSparedAfter a f x vars (Guess y)) in
    let may = begin_as d f nexts k (needed i) r t (Guess i) net (IsSparedAfter b f x vars (Guess i)) (spared i)
    (λ g h. spared_as f.pipe (earlier_views b x) (earlier_views a x) k (signals_in b vars) (signals_in a vars)
    (Guess i) g (λ y j l. sym (ends_same a b f nexts x.stages.now y e c.requires.earlier.ended j l))
    (sym (signals_keep a b vars e c.requires.vars)) h) may0 in
    let more =
    sofar_more a f nexts k c.args.regs.now Guess needed spared ws b d r t i c.loop-i.nets net low c.begin_argument.ensures.extends may c.in_ok-net.ensures.last
    (sym (take_index (length f.pipe.start) i f.widths low)) c.loop-i.invariant in
    subst (λ xs. SoFar a d f nexts k c.args.regs.now t Guess needed spared (take (i + 1) ws) xs) (sym c.in_ok-push.ensures.ok) more
