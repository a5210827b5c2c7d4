use Rattle.std.proofs.Common.{◌≡◌, ◌+◌, ◌<◌, ◌++◌, ◌∷◌, [], length, sym, ap, ◌∙◌, subst, arith}
use Rattle.std.specs.Prelude.{Some}
use Rattle.pdl_machine_facts.specs.Slots.{ways}
use Rattle.pdl_net.specs.Meaning.{signal}
use Rattle.pdl_net.proofs.Keeps.{extends_keeps, extends_trans, keeps_trans}
use Rattle.pdl_net.proofs.KeptWidths.{width_meant}
use Rattle.pdl_pipe_exprs.specs.Nets.{signals_in}
use Rattle.pdl_pipe_registers.specs.Items.{item_at}
use Rattle.pdl_pipe_nexts.specs.Lines.{ValueAs, line_form, line_pipe, line_views, line_moves}
use Rattle.pdl_pipe_nexts.specs.Arrivals.{AreArrivals}
use Rattle.pdl_pipe_nexts.specs.Brings.{IsBrought, IsArgument, brought_width}
use Rattle.pdl_pipe_nexts.specs.Nexts.{AreNexts, staying, arriving}
use Rattle.pdl_pipe_nexts.proofs.LineGrowth.{line_keep, views_same, all_moves_same, staying_same, at_same}
use Rattle.pdl_pipe_nexts.proofs.ArrivalNets.{arrivals_keep}
use Rattle.pdl_pipe_nexts.proofs.NextsMade.{NextsSoFar, item_is, argument_is, reg_low, item_kept, kept_wide, nexts_first, nexts_more, nexts_all}
use Rattle.pdl_pipe_nexts.proofs.nexts.stage_nexts.Goals as goal

pub staying-requires-clause-line : goal.staying-requires-clause-line
staying-requires-clause-line c =
    line_keep c.args.b.now c.threads_into.new.b c.args.line.now (extends_keeps c.args.b.now c.threads_into.new.b c.threads_into.ensures.extends) c.requires.line

pub coming-requires-clause-line : goal.coming-requires-clause-line
coming-requires-clause-line c =
    let a = c.args.b.now in
    let b = c.threads_into.new.b in
    let d = c.staying.new.b in
    line_keep a d c.args.line.now
    (keeps_trans a b d (extends_keeps a b c.threads_into.ensures.extends) (extends_keeps b d c.staying.ensures.extends)) c.requires.line

pub coming-requires-clause-arrivals : goal.coming-requires-clause-arrivals
coming-requires-clause-arrivals c =
    let a = c.args.b.now in
    let b = c.threads_into.new.b in
    let d = c.staying.new.b in
    let x = c.args.line.now in
    let p = line_pipe x in
    let k = c.args.k in
    let e = keeps_trans a b d (extends_keeps a b c.threads_into.ensures.extends) (extends_keeps b d c.staying.ensures.extends) in
    let list =
    arrivals_keep b d p (line_views a x)
    (line_moves a x) k (ways p k) c.in_ok-list.list (extends_keeps b d c.staying.ensures.extends) c.in_ok-list.ensures.arrivals in
    let here = subst (λ xs. AreArrivals d p (line_views a x) (line_moves a x) k (ways p k) xs) (sym c.as_slice-arrivals.ensures) list in
    subst (λ vs. AreArrivals d p vs (line_moves d x) k (ways p k) c.as_slice-arrivals.result.now) (sym (views_same a d x e c.requires.line))
    (subst (λ ms. AreArrivals d p (line_views a x) ms k (ways p k) c.as_slice-arrivals.result.now) (sym (all_moves_same a d x e c.requires.line)) here)

pub loop-i-init : goal.loop-i-init
loop-i-init c =
    let a = c.args.b.now in
    let b = c.threads_into.new.b in
    let d = c.staying.new.b in
    let z = c.coming.new.b in
    let x = c.args.line.now in
    let p = line_pipe x in
    let k = c.args.k in
    let s = c.stage_of-s.result.now in
    let ad = extends_trans a b d c.threads_into.ensures.extends c.staying.ensures.extends in
    let bz = extends_trans b d z c.staying.ensures.extends c.coming.ensures.extends in
    let list = arrivals_keep b z p (line_views a x) (line_moves a x) k (ways p k) c.in_ok-list.list (extends_keeps b z bz) c.in_ok-list.ensures.arrivals in
    let stays = c.in_ok-stays.stays in
    let valid = c.in_ok-valid.valid in
    let none : c.new-nets.result ≡ [] = c.new-nets.ensures in
    let pushed : c.push.new.self ≡ valid ∷ [] = c.in_ok-push.ensures.ok ∙ ap (λ xs. xs ++ valid ∷ []) none in
    let line_b = line_keep a b x (extends_keeps a b c.threads_into.ensures.extends) c.requires.line in
    let means = c.in_ok-stays.ensures.means s (sym c.stage_of-s.ensures) in
    let db = extends_keeps b d c.staying.ensures.extends in
    let rest : signal d stays ≡ staying d x k s = means.same ∙ sym (staying_same b d x db line_b k s) in
    let first =
    nexts_first a d z x k s stays valid (extends_keeps a d ad) c.requires.line c.in_ok-valid.ensures.wide.there
    (c.in_ok-valid.ensures.wide.width ∙ c.in_ok-stays.ensures.wide) rest c.in_ok-valid.ensures.value in (
      extends_trans a d z ad c.coming.ensures.extends,
      c.coming.ensures.regs ∙ c.staying.ensures.regs ∙ c.threads_into.ensures.regs,
      subst (λ xs. AreArrivals z p (line_views a x) (line_moves a x) k (ways p k) xs) (sym c.as_slice-arrivals.ensures) list,
      subst (λ xs. NextsSoFar a z x k s xs 0) (sym pushed) first,
    )

pub kept-rest-requires-clause-vars : goal.kept-rest-requires-clause-vars
kept-rest-requires-clause-vars c =
    let a = c.args.b.now in
    let b = c.loop-i.b in
    let x = c.args.line.now in
    let s = c.stage_of-s.result.now in
    let line = line_keep a b x (extends_keeps a b c.loop-i.invariant.0) c.requires.line in
    let l = c.requires.low in
    let n = c.requires.line.count in
    (line.stages c.args.k s (omega (arith, l, n)) (sym c.stage_of-s.ensures)).nets.begun

pub kept-rest-requires-clause-item : goal.kept-rest-requires-clause-item
kept-rest-requires-clause-item c =
    let a = c.args.b.now in
    let b = c.loop-i.b in
    let x = c.args.line.now in
    let s = c.stage_of-s.result.now in
    let line = line_keep a b x (extends_keeps a b c.loop-i.invariant.0) c.requires.line in
    let l = c.requires.low in
    let n = c.requires.line.count in
    let t = c.loop-i-test.true in
    let m = c.len-i-end.ensures in
    item_kept b (line_form x)
    (signals_in b x.shared.now.next) c.args.k s
    (line.stages c.args.k s (omega (arith, l, n)) (sym c.stage_of-s.ensures)) c.loop-i.i
    (omega (arith, t, m)) line.params

pub kept-rest-requires-clause-reg : goal.kept-rest-requires-clause-reg
kept-rest-requires-clause-reg c =
    let a = c.args.b.now in
    let b = c.loop-i.b in
    let x = c.args.line.now in
    let s = c.stage_of-s.result.now in
    let line = line_keep a b x (extends_keeps a b c.loop-i.invariant.0) c.requires.line in
    let l = c.requires.low in
    let n = c.requires.line.count in
    let t = c.loop-i-test.true in
    let m = c.len-i-end.ensures in
    reg_low b (line_form x)
    (signals_in b x.shared.now.next) c.args.k s (line.stages c.args.k s (omega (arith, l, n)) (sym c.stage_of-s.ensures)) c.loop-i.i (omega (arith, t, m))

pub coming-requires-in-loop-i-clause-line : goal.coming-requires-in-loop-i-clause-line
coming-requires-in-loop-i-clause-line c =
    line_keep c.args.b.now c.loop-i.b c.args.line.now (extends_keeps c.args.b.now c.loop-i.b c.loop-i.invariant.0) c.requires.line

pub coming-requires-in-loop-i-clause-arrivals : goal.coming-requires-in-loop-i-clause-arrivals
coming-requires-in-loop-i-clause-arrivals c =
    let a = c.args.b.now in
    let b = c.loop-i.b in
    let x = c.args.line.now in
    let p = line_pipe x in
    let k = c.args.k in
    let e = extends_keeps a b c.loop-i.invariant.0 in
    subst (λ vs. AreArrivals b p vs (line_moves b x) k (ways p k) c.as_slice-arrivals.result.now) (sym (views_same a b x e c.requires.line))
    (subst (λ ms. AreArrivals b p (line_views a x) ms k (ways p k) c.as_slice-arrivals.result.now)
    (sym (all_moves_same a b x e c.requires.line)) c.loop-i.invariant.2)

pub coming-requires-in-loop-i-clause-what : goal.coming-requires-in-loop-i-clause-what
coming-requires-in-loop-i-clause-what c =
    let a = c.args.b.now in
    let x = c.args.line.now in
    let f = line_form x in
    let s = c.stage_of-s.result.now in
    let l = c.requires.low in
    let n = c.requires.line.count in
    let t = c.loop-i-test.true in
    let m = c.len-i-end.ensures in
    let is = c.item_of.ensures ∙ ap (λ ys. item_at ys c.loop-i.i) c.as_slice.ensures in
    subst (λ j. IsBrought f (Some j)) (sym is)
    (item_is a f (signals_in a x.shared.now.next) c.args.k s
    (c.requires.line.stages c.args.k s (omega (arith, l, n)) (sym c.stage_of-s.ensures)) c.loop-i.i
    (omega (arith, t, m)) c.requires.line.params)

pub coming-requires-in-loop-i-clause-new : goal.coming-requires-in-loop-i-clause-new
coming-requires-in-loop-i-clause-new c = λ e.
    let a = c.args.b.now in
    let x = c.args.line.now in
    let f = line_form x in
    let s = c.stage_of-s.result.now in
    let l = c.requires.low in
    let n = c.requires.line.count in
    let t = c.loop-i-test.true in
    let m = c.len-i-end.ensures in
    let is = c.item_of.ensures ∙ ap (λ ys. item_at ys c.loop-i.i) c.as_slice.ensures in
    subst (λ j. IsArgument f.pipe (Some j)) (sym is)
    (argument_is a f (signals_in a x.shared.now.next) c.args.k s
    (c.requires.line.stages c.args.k s (omega (arith, l, n)) (sym c.stage_of-s.ensures)) c.loop-i.i
    (omega (arith, t, m)) e)

pub coming-requires-in-loop-i-clause-rest : goal.coming-requires-in-loop-i-clause-rest
coming-requires-in-loop-i-clause-rest c =
    let a = c.args.b.now in
    let b = c.loop-i.b in
    let x = c.args.line.now in
    let f = line_form x in
    let s = c.stage_of-s.result.now in
    let line = line_keep a b x (extends_keeps a b c.loop-i.invariant.0) c.requires.line in
    let l = c.requires.low in
    let n = c.requires.line.count in
    let t = c.loop-i-test.true in
    let m = c.len-i-end.ensures in
    let is = c.item_of.ensures ∙ ap (λ ys. item_at ys c.loop-i.i) c.as_slice.ensures in
    width_meant b _ _ _ c.kept-rest.ensures
    (kept_wide b f (signals_in b x.shared.now.next) c.args.k s
    (line.stages c.args.k s (omega (arith, l, n)) (sym c.stage_of-s.ensures)) c.loop-i.i
    (omega (arith, t, m)) line.params
    ∙ ap (λ j. brought_width f (signals_in b x.shared.now.next) (Some j)) (sym is))

pub loop-i-preserved : goal.loop-i-preserved
loop-i-preserved c =
    let a = c.args.b.now in
    let b = c.loop-i.b in
    let d = c.coming-in-loop-i.new.b in
    let x = c.args.line.now in
    let p = line_pipe x in
    let f = line_form x in
    let k = c.args.k in
    let s = c.stage_of-s.result.now in
    let e = extends_keeps a b c.loop-i.invariant.0 in
    let bd = extends_keeps b d c.coming-in-loop-i.ensures.extends in
    let l = c.requires.low in
    let n = c.requires.line.count in
    let t = c.loop-i-test.true in
    let m = c.len-i-end.ensures in
    let low : c.loop-i.i < length s.regs.items = omega (arith, t, m) in
    let now = c.requires.line.stages k s (omega (arith, l, n)) (sym c.stage_of-s.ensures) in
    let is = c.item_of.ensures ∙ ap (λ ys. item_at ys c.loop-i.i) c.as_slice.ensures in
    let value = subst (λ j. ValueAs (signal d c.in_ok-net.net) (arriving b x k (Some j) (signal b c.kept-rest.result))) is c.in_ok-net.ensures.value in
    let more =
    nexts_more a b d x k s c.loop-i.nets c.loop-i.i c.kept-rest.result c.in_ok-net.net e bd c.requires.line now low c.kept-rest.ensures.same c.in_ok-net.ensures.wide.there c.in_ok-net.ensures.wide.width value c.loop-i.invariant.3 in (
      extends_trans a b d c.loop-i.invariant.0 c.coming-in-loop-i.ensures.extends,
      c.coming-in-loop-i.ensures.regs ∙ c.loop-i.invariant.1,
      arrivals_keep b d p (line_views a x) (line_moves a x) k (ways p k) c.as_slice-arrivals.result.now bd c.loop-i.invariant.2,
      subst (λ xs. NextsSoFar a d x k s xs (c.loop-i.i + 1)) (sym c.in_ok-push-2.ensures.ok) more,
    )

pub returns-clause-nexts : goal.returns-clause-nexts
returns-clause-nexts c = λ z is.
    let a = c.args.b.now in
    let b = c.loop-i.b in
    let x = c.args.line.now in
    let s = c.stage_of-s.result.now in
    let t = c.loop-i-test.false in
    let m = c.len-i-end.ensures in
    let h = c.loop-i.auto.i-end in
    let l = c.requires.low in
    let n = c.requires.line.count in
    let same : s ≡ z = at_same x.stages.now c.args.k s z (omega (arith, l, n)) (sym c.stage_of-s.ensures) is in
    subst (λ y. AreNexts a b x c.args.k y c.loop-i.nets) same
    (nexts_all a b x c.args.k s c.loop-i.nets c.loop-i.i (omega (arith, t, m, h)) c.loop-i.invariant.3)
