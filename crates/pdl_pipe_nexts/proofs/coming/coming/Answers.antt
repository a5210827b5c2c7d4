use Rattle.std.proofs.Common.{◌≡◌, ◌+◌, ◌-◌, ◌<◌, length, get_or, refl, rules, sym, ap, ◌∙◌, subst, arith}
use Rattle.std.proofs.lemmas.List.{drop_all}
use Rattle.std.specs.Prelude.{slice_index}
use Rattle.pdl_machine_facts.specs.Slots.{ways}
use Rattle.pdl_net.specs.Signal.{Signal}
use Rattle.pdl_net.specs.Meaning.{signal}
use Rattle.pdl_net.proofs.Keeps.{extends_keeps, extends_trans}
use Rattle.pdl_net.proofs.KeptWidths.{width_kept}
use Rattle.pdl_law_parts.specs.Views.{first_coming}
use Rattle.pdl_pipe_registers.proofs.Begins.{each_way, next_keep}
use Rattle.pdl_pipe_walk.proofs.Lists.{each_at as each_in}
use Rattle.pdl_pipe_nexts.specs.Lines.{line_form, line_pipe, line_views, line_moves}
use Rattle.pdl_pipe_nexts.specs.Brings.{brought_width, brought_signal}
use Rattle.pdl_pipe_nexts.proofs.LineGrowth.{line_keep, ended_same, tickets_same}
use Rattle.pdl_pipe_nexts.proofs.BroughtItems.{arrivals_count, arrival_nth, out_as, way_more}
use Rattle.pdl_pipe_nexts.proofs.coming.coming.Goals as goal

pub loop-i-init : goal.loop-i-init
loop-i-init c =
    let x = c.args.line.now in
    let p = line_pipe x in
    let a = c.args.b.now in
    let js = ways p c.args.q in
    let n = arrivals_count a p (line_views a x) (line_moves a x) c.args.q js c.args.arrivals.now c.requires.arrivals in
    record {
      there = c.requires.rest.there;
      value =
          λ s. sym
          (ap
          (λ ks.
          (first_coming (brought_signal c.args.what)
          (Rattle.std.proofs.Common.map (Rattle.pdl_law_parts.specs.Views.out_of p (line_views a x) (line_moves a x) c.args.q) ks)
          (signal a c.args.rest)).value s)
          (drop_all (length c.args.arrivals.now - 0) js (omega (arith, n))));
      wide = refl;
      extends = search rules;
      regs = refl;
    }

pub brings-value-requires-clause-line : goal.brings-value-requires-clause-line
brings-value-requires-clause-line c =
    line_keep c.args.b.now c.loop-i.b c.args.line.now (extends_keeps c.args.b.now c.loop-i.b c.loop-i.invariant.extends) c.requires.line

pub brings-value-requires-clause-low : goal.brings-value-requires-clause-low
brings-value-requires-clause-low c =
    let x = c.args.line.now in
    let p = line_pipe x in
    let a = c.args.b.now in
    let q = c.args.q in
    let xs = c.args.arrivals.now in
    let t = c.loop-i-test.true in
    let k = length xs - 1 - c.loop-i.i in
    let n = arrivals_count a p (line_views a x) (line_moves a x) q (ways p q) xs c.requires.arrivals in
    let is =
    arrival_nth a p (line_views a x)
    (line_moves a x) q (ways p q) xs k c.arrival_at-arrival.result (omega (arith, t)) c.arrival_at-arrival.ensures c.requires.arrivals in
    let low = c.requires.low in
    let count = c.requires.line.count in
    let from = each_in (λ j. j < q) (ways p q) k 0 (omega (arith, t, n)) (each_way p q (λ j. j < q) (λ j l. l)) in
    let same = is.from in
    omega (arith, from, same, low, count)

pub mux-requires-clause-choice : goal.mux-requires-clause-choice
mux-requires-clause-choice c =
    let x = c.args.line.now in
    let p = line_pipe x in
    let a = c.args.b.now in
    let q = c.args.q in
    let xs = c.args.arrivals.now in
    let t = c.loop-i-test.true in
    let is =
    arrival_nth a p (line_views a x)
    (line_moves a x) q (ways p q) xs (length xs - 1 - c.loop-i.i) c.arrival_at-arrival.result
    (omega (arith, t)) c.arrival_at-arrival.ensures c.requires.arrivals in
    width_kept a c.loop-i.b c.arrival_at-arrival.result.comes 1 c.loop-i.invariant.extends is.comes.bit

pub mux-requires-clause-widths : goal.mux-requires-clause-widths
mux-requires-clause-widths c =
    let x = c.args.line.now in
    let a = c.args.b.now in
    let b = c.loop-i.b in
    let f = line_form x in
    let same = next_keep a b f x.shared.now (extends_keeps a b c.loop-i.invariant.extends) c.requires.line.shared in
    c.brings-value.ensures.wide ∙ ap (λ fs. brought_width f fs c.args.what) same ∙ sym c.requires.rest.width ∙ sym c.loop-i.invariant.wide

pub loop-i-preserved : goal.loop-i-preserved
loop-i-preserved c =
    let x = c.args.line.now in
    let p = line_pipe x in
    let a = c.args.b.now in
    let b = c.loop-i.b in
    let d = c.mux.new.self in
    let q = c.args.q in
    let js = ways p q in
    let vs = line_views a x in
    let moves = line_moves a x in
    let xs = c.args.arrivals.now in
    let what = c.args.what in
    let t = c.loop-i-test.true in
    let n = arrivals_count a p vs moves q js xs c.requires.arrivals in
    let k = length xs - (c.loop-i.i + 1) in
    let at : length xs - 1 - c.loop-i.i ≡ k = omega (arith, t) in
    let later : length xs - c.loop-i.i ≡ k + 1 = omega (arith, t) in
    let y = c.arrival_at-arrival.result in
    let is = arrival_nth a p vs moves q js xs k y (omega (arith, t)) (subst (λ i. y ≡ get_or xs i y) at c.arrival_at-arrival.ensures) c.requires.arrivals in
    let e = extends_keeps a b c.loop-i.invariant.extends in
    let j = slice_index js k in
    let low = c.requires.low in
    let count = c.requires.line.count in
    let from = each_in (λ i. i < q) js k 0 (omega (arith, t, n)) (each_way p q (λ i. i < q) (λ i l. l)) in
    let under : j < length x.stages.now = omega (arith, from, low, count) in
    let value =
    c.brings-value.ensures.means.same
    ∙ ap (λ i. Rattle.pdl_pipe_nexts.specs.Brings.brought_out what (line_views b x i)) is.from
    ∙ out_as (line_views b x j) (vs j) what (ended_same a b x e c.requires.line j under) (tickets_same a b x e c.requires.line j under) in
    let rest = signal a c.args.rest in
    record {
      there = c.in_ok-net.ensures.means.there;
      value =
          way_more p vs moves q js what k (signal b y.comes) (signal b c.brings-value.result) (signal b c.loop-i.net)
          (signal d c.in_ok-net.net) rest (omega (arith, t, n)) c.in_ok-net.ensures.means.same
          (λ s. ap (λ (f : Signal). Rattle.pdl_law_parts.specs.Walk.is_on f s) (e.kept y.comes is.comes.bit.there) ∙ is.comes.on s) value
          (subst
          (λ i. Rattle.pdl_pipe_nexts.specs.Lines.ValueAs (signal b c.loop-i.net)
          (Rattle.pdl_pipe_nexts.proofs.BroughtItems.from_way p vs moves q js what i rest)) later c.loop-i.invariant.value);
      wide =
          ap (λ (f : Signal). f.width) c.in_ok-net.ensures.means.same ∙ c.brings-value.ensures.wide
          ∙ ap (λ fs. brought_width (line_form x) fs what) (next_keep a b (line_form x) x.shared.now e c.requires.line.shared)
          ∙ sym c.requires.rest.width;
      extends = extends_trans a b d c.loop-i.invariant.extends c.mux.ensures.extends;
      regs = c.mux.ensures.regs ∙ c.loop-i.invariant.regs;
    }
