use Rattle.std.proofs.Common.{◌+◌, ◌∙◌, ◌∷◌, [], ℕ, ◌<◌, length, sym, ap, subst, arith}
use Rattle.std.proofs.lemmas.List.{length-append}
use Rattle.pdl_machine_facts.specs.Slots.{ways}
use Rattle.pdl_net.specs.Meaning.{signal}
use Rattle.pdl_net.proofs.Keeps.{extends_keeps, extends_trans, keeps_trans}
use Rattle.pdl_pipe_exprs.specs.Nets.{NetsThere, signals_in, signal_at}
use Rattle.pdl_pipe_exprs.proofs.NetLists.{net_more, there_keeps, signals_keep}
use Rattle.pdl_pipe_nexts.proofs.pipe_registers.Begins.{each_way}
use Rattle.pdl_pipe_nexts.specs.Lines.{line_pipe, line_views, line_moves}
use Rattle.pdl_pipe_nexts.specs.Arrivals.{AreArrivals}
use Rattle.pdl_pipe_tails.specs.Carried.{HaveTails, AreComing}
use Rattle.pdl_pipe_tails.specs.Tails.{IsTail}
use Rattle.pdl_pipe_tails.proofs.TailRegisters.{coming_keep, tails_keep}
use Rattle.pdl_pipe_tails.proofs.Rows.{arrivals_coming, tail_from, tails_more, stage_tail_is}
use Rattle.pdl_pipe_tails.proofs.carried.stage_tails.Goals as goal

pub stage_tail-requires-clause-fresh : goal.stage_tail-requires-clause-fresh
stage_tail-requires-clause-fresh c =
    let a = c.args.b.now in
    let b = c.threads_into.new.b in
    let d = c.loop-m.b in
    there_keeps a d c.args.fresh.now
    (keeps_trans a b d (extends_keeps a b c.threads_into.ensures.extends) (extends_keeps b d c.loop-m.invariant.extends)) c.requires.fresh.there

pub stage_tail-requires-clause-before : goal.stage_tail-requires-clause-before
stage_tail-requires-clause-before c =
    let a = c.args.b.now in
    let b = c.threads_into.new.b in
    let d = c.loop-m.b in
    let m = c.loop-m.m in
    let rows = c.args.before.now in
    let fresh = c.args.fresh.now in
    let e = keeps_trans a b d (extends_keeps a b c.threads_into.ensures.extends) (extends_keeps b d c.loop-m.invariant.extends) in
    subst (λ w. HaveTails d m w rows) (sym (ap (λ fs. (signal_at fs m).width) (signals_keep a d fresh e c.requires.fresh.there)))
    (tails_keep a d m (signal_at (signals_in a fresh) m).width rows e (c.requires.before m c.loop-m-test.true))

pub stage_tail-requires-clause-arrivals : goal.stage_tail-requires-clause-arrivals
stage_tail-requires-clause-arrivals c =
    let a = c.args.b.now in
    let b = c.threads_into.new.b in
    let d = c.loop-m.b in
    let x = c.args.line.now in
    let p = line_pipe x in
    let k = c.args.stage in
    let n = c.requires.count in
    let rows = c.args.before.now in
    let list = c.in_ok-list.list in
    coming_keep b d (length rows) c.as_slice-arrivals.result.now (extends_keeps b d c.loop-m.invariant.extends)
    (subst (λ ys. AreComing b (length rows) ys) (sym c.as_slice-arrivals.ensures)
    (arrivals_coming b p (line_views a x) (line_moves a x) k (length rows)
    (ways p k) list (each_way p k (λ j. j < length rows) (λ j l. omega (arith, l, n))) c.in_ok-list.ensures.arrivals))

pub loop-m-preserved : goal.loop-m-preserved
loop-m-preserved c =
    let a = c.args.b.now in
    let b = c.threads_into.new.b in
    let d = c.loop-m.b in
    let f = c.stage_tail.new.b in
    let x = c.args.line.now in
    let p = line_pipe x in
    let k = c.args.stage in
    let n = c.requires.count in
    let m = c.loop-m.m in
    let v = c.loop-m.invariant in
    let rows = c.args.before.now in
    let fresh = c.args.fresh.now in
    let xs = c.loop-m.nets in
    let new = c.in_ok-net.net in
    let ys = c.as_slice-arrivals.result.now in
    let ab = extends_keeps a b c.threads_into.ensures.extends in
    let bd = extends_keeps b d v.extends in
    let low = subst (λ zs. AreComing b (length rows) zs) (sym c.as_slice-arrivals.ensures)
    (arrivals_coming b p (line_views a x) (line_moves a x) k (length rows)
    (ways p k) c.in_ok-list.list (each_way p k (λ j. j < length rows) (λ j l. omega (arith, l, n))) c.in_ok-list.ensures.arrivals) in
    let w = (signal_at (signals_in a fresh) m).width in
    let have = tails_keep a b m w rows ab (c.requires.before m c.loop-m-test.true) in
    let here = tail_from b d f p fresh rows ys k m w (signal f new) bd (there_keeps a b fresh ab c.requires.fresh.there) low have c.in_ok-net.ensures.tail in
    let pushed = c.in_ok-push.ensures.ok in
    let grown = c.stage_tail.ensures.extends in
    record {
      there = subst (NetsThere f) (sym pushed) (net_more f xs new (there_keeps d f xs (extends_keeps d f grown) v.there) c.in_ok-net.ensures.there);
      count = ap length pushed ∙ length-append xs (new ∷ []) ∙ ap (λ i. i + 1) v.count;
      tails = subst (λ zs. (i : ℕ) → i < m + 1 → IsTail b f p fresh rows ys k i (signal_at (signals_in f zs) i)) (sym pushed)
          (tails_more b d f p fresh rows ys k xs m new grown v.there v.count v.tails here);
      extends = extends_trans b d f v.extends grown;
    }

pub returns-clause-tails : goal.returns-clause-tails
returns-clause-tails c = λ tails same.
    let a = c.args.b.now in
    let b = c.threads_into.new.b in
    let d = c.loop-m.b in
    let x = c.args.line.now in
    let p = line_pipe x in
    let k = c.args.stage in
    let v = c.loop-m.invariant in
    let rows = c.args.before.now in
    let fresh = c.args.fresh.now in
    let ys = c.as_slice-arrivals.result.now in
    let t = c.loop-m-test.false in
    let h = c.loop-m.auto.m-end in
    let n = v.count in
    let long = c.requires.fresh.count in
    let come =
    subst (λ zs. AreArrivals b p (line_views a x) (line_moves a x) k (ways p k) zs) (sym c.as_slice-arrivals.ensures) c.in_ok-list.ensures.arrivals in
    record {
      there = v.there;
      count = omega (arith, t, h, n, long);
      each = λ m l.
          let low : m < length fresh = omega (arith, l, n, h) in
          stage_tail_is a b d x fresh rows ys k m (signal_at (signals_in a fresh) m).width tails (signal_at (signals_in d c.loop-m.nets) m)
          (extends_keeps a b c.threads_into.ensures.extends) c.requires.fresh low (c.requires.before m low) c.requires.count come
          (λ j q. same j m q) (v.tails m (omega (arith, l, n)));
    }

pub returns-clause-extends : goal.returns-clause-extends
returns-clause-extends c = extends_trans c.args.b.now c.threads_into.new.b c.loop-m.b c.threads_into.ensures.extends c.loop-m.invariant.extends
