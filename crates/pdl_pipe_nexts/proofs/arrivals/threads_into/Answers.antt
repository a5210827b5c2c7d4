use Rattle.std.proofs.Common.{sym, ◌∙◌, ◌<◌, ◌+◌, ◌++◌, ◌∷◌, [], length, take, subst, arith, refl}
use Rattle.std.proofs.lemmas.List.{take_more}
use Rattle.std.specs.Prelude.{slice_index}
use Rattle.pdl_net.proofs.Keeps.{extends_keeps, extends_trans}
use Rattle.pdl_pipe_walk.proofs.Lists.{each_at as each_in}
use Rattle.pdl_pipe_registers.proofs.Begins.{each_way}
use Rattle.pdl_pipe_nexts.specs.declared.arrivals.Arrival.{Arrival}
use Rattle.pdl_pipe_nexts.specs.Lines.{line_pipe, line_views, line_moves}
use Rattle.pdl_pipe_nexts.specs.Arrivals.{AreArrivals}
use Rattle.pdl_pipe_nexts.proofs.LineGrowth.{line_keep, ended_same, moves_same}
use Rattle.pdl_pipe_nexts.proofs.ArrivalNets.{arrivals_keep, arrivals_push, comes_as}
use Rattle.pdl_pipe_nexts.proofs.arrivals.threads_into.Goals as goal
use Rattle.pdl_word.specs.Each.{Each}

pub comes-requires-clause-line : goal.comes-requires-clause-line
comes-requires-clause-line c = line_keep c.args.b.now c.loop-j.b c.args.line.now (extends_keeps c.args.b.now c.loop-j.b c.loop-j.invariant.0) c.requires.line

pub comes-requires-clause-low : goal.comes-requires-clause-low
comes-requires-clause-low c =
    let p = line_pipe c.args.line.now in
    let js = c.as_slice-j-items.result.now in
    let q = c.args.q in
    let low = c.requires.low in
    let is = c.as_slice-j-items.ensures.value ∙ c.in_ok-ways.ensures in
    let all = subst (Each (λ j. j < length p.stages)) (sym is) (each_way p q (λ j. j < length p.stages) (λ j l. omega (arith, l, low))) in
    each_in (λ j. j < length p.stages) js c.loop-j.j-index 0 (let t = c.loop-j-test.true in omega (arith, t)) all

pub loop-j-preserved : goal.loop-j-preserved
loop-j-preserved c =
    let a = c.args.b.now in
    let b = c.loop-j.b in
    let d = c.comes.new.b in
    let x = c.args.line.now in
    let p = line_pipe x in
    let q = c.args.q in
    let js = c.as_slice-j-items.result.now in
    let i = c.loop-j.j-index in
    let j = slice_index js i in
    let low : i < length js = (let t = c.loop-j-test.true in omega (arith, t)) in
    let e = extends_keeps a b c.loop-j.invariant.0 in
    let line = c.requires.line in
    let under : j < length x.stages.now =
    (let n = line.count in let l = c.requires.low in
    let is = c.as_slice-j-items.ensures.value ∙ c.in_ok-ways.ensures in
    let all = subst (Each (λ k. k < length x.stages.now)) (sym is) (each_way p q (λ k. k < length x.stages.now) (λ k m. omega (arith, m, l, n))) in
    each_in (λ k. k < length x.stages.now) js i 0 low all) in
    let now =
    comes_as d p (line_views b x) (line_views a x) (line_moves b x)
    (line_moves a x) q j c.in_ok-net.net (ended_same a b x e line j under)
    (moves_same a b x e line j) c.in_ok-net.ensures.arrives in
    let old =
    arrivals_keep b d p (line_views a x) (line_moves a x) q (take i js) c.loop-j.list (extends_keeps b d c.comes.ensures.extends) c.loop-j.invariant.2 in
    let new : Arrival = record { from = j; comes = c.in_ok-net.net } in
    let more = arrivals_push d p (line_views a x) (line_moves a x) q (take i js) c.loop-j.list j new old record { from = refl; comes = now } in (
      extends_trans a b d c.loop-j.invariant.0 c.comes.ensures.extends,
      c.comes.ensures.regs ∙ c.loop-j.invariant.1,
      subst (λ ys. AreArrivals d p (line_views a x) (line_moves a x) q (take (i + 1) js) ys) (sym c.in_ok-push.ensures.ok)
          (subst (λ ks. AreArrivals d p (line_views a x) (line_moves a x) q ks (c.loop-j.list ++ new ∷ [])) (sym (take_more js i 0 low)) more),
    )
