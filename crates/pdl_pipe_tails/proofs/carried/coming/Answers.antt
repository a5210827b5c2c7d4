use Rattle.std.proofs.Common.{◌≡◌, ◌+◌, ◌-◌, ◌<◌, ◌∙◌, [], length, drop, get_or, refl, sym, ap, ap₂, subst, arith}
use Rattle.std.proofs.lemmas.List.{drop_all}
use Rattle.pdl_net.specs.Signal.{Signal, mux_signal}
use Rattle.pdl_net.specs.Meaning.{signal}
use Rattle.pdl_net.proofs.Keeps.{extends_keeps, extends_refl, extends_trans}
use Rattle.pdl_pipe_exprs.specs.Nets.{NetsThere, signals_in, signal_at}
use Rattle.pdl_pipe_tails.specs.Carried.{brought_tail, tail_in}
use Rattle.pdl_pipe_tails.proofs.TailRegisters.{coming_nth, tail_keep, tails_keep, brought_more}
use Rattle.pdl_pipe_tails.proofs.carried.coming.Goals as goal

pub loop-i-init : goal.loop-i-init
loop-i-init c =
    let a = c.args.b.now in
    let ys = c.args.arrivals.now in
    record {
      means =
          record {
            there = c.requires.rest;
            same = sym (ap (λ zs. brought_tail a c.args.before.now c.args.mem zs (signal a c.args.rest)) (drop_all (length ys - 0) ys (omega arith)));
          };
      wide = refl;
      extends = extends_refl a;
      regs = refl;
    }

pub row_at-row-requires : goal.row_at-row-requires
row_at-row-requires c =
    let t = c.loop-i-test.true in
    let ys = c.args.arrivals.now in
    (coming_nth c.args.b.now (length c.args.before.now) ys (length ys - 1 - c.loop-i.i) c.arrival_at-arrival.result
    (omega (arith, t)) c.arrival_at-arrival.ensures c.requires.arrivals).1

pub variable-tail-requires-clause-there : goal.variable-tail-requires-clause-there
variable-tail-requires-clause-there c =
    let a = c.args.b.now in
    let b = c.loop-i.b in
    let t = c.loop-i-test.true in
    let ys = c.args.arrivals.now in
    let rows = c.args.before.now in
    let from =
    coming_nth a (length rows) ys (length ys - 1 - c.loop-i.i) c.arrival_at-arrival.result
    (omega (arith, t)) c.arrival_at-arrival.ensures c.requires.arrivals in
    let row =
    tails_keep a b c.args.mem (signal a c.args.rest).width rows
    (extends_keeps a b c.loop-i.invariant.extends) c.requires.before c.arrival_at-arrival.result.from from.1 in
    subst (NetsThere b) (sym (c.as_slice.ensures ∙ c.row_at-row.ensures)) row.there

pub variable-tail-requires-clause-low : goal.variable-tail-requires-clause-low
variable-tail-requires-clause-low c =
    let a = c.args.b.now in
    let t = c.loop-i-test.true in
    let ys = c.args.arrivals.now in
    let rows = c.args.before.now in
    let from =
    coming_nth a (length rows) ys (length ys - 1 - c.loop-i.i) c.arrival_at-arrival.result
    (omega (arith, t)) c.arrival_at-arrival.ensures c.requires.arrivals in
    let row = c.requires.before c.arrival_at-arrival.result.from from.1 in
    subst (λ xs. c.args.mem < length xs) (sym (c.as_slice.ensures ∙ c.row_at-row.ensures)) row.low

pub mux-requires-clause-widths : goal.mux-requires-clause-widths
mux-requires-clause-widths c =
    let a = c.args.b.now in
    let b = c.loop-i.b in
    let m = c.args.mem in
    let t = c.loop-i-test.true in
    let ys = c.args.arrivals.now in
    let rows = c.args.before.now in
    let from =
    coming_nth a (length rows) ys (length ys - 1 - c.loop-i.i) c.arrival_at-arrival.result
    (omega (arith, t)) c.arrival_at-arrival.ensures c.requires.arrivals in
    let row =
    tails_keep a b m (signal a c.args.rest).width rows
    (extends_keeps a b c.loop-i.invariant.extends) c.requires.before c.arrival_at-arrival.result.from from.1 in
    ap (λ (g : Signal). g.width) (c.variable-tail.ensures.same ∙ ap (λ xs. signal_at (signals_in b xs) m) (c.as_slice.ensures ∙ c.row_at-row.ensures))
    ∙ row.wide ∙ sym c.loop-i.invariant.wide

pub loop-i-preserved : goal.loop-i-preserved
loop-i-preserved c =
    let a = c.args.b.now in
    let b = c.loop-i.b in
    let d = c.mux.new.self in
    let m = c.args.mem in
    let t = c.loop-i-test.true in
    let v = c.loop-i.invariant in
    let ys = c.args.arrivals.now in
    let rows = c.args.before.now in
    let rest = signal a c.args.rest in
    let y = c.arrival_at-arrival.result in
    let k = length ys - (c.loop-i.i + 1) in
    let at : length ys - 1 - c.loop-i.i ≡ k = omega (arith, t) in
    let later : length ys - c.loop-i.i ≡ k + 1 = omega (arith, t) in
    let low : k < length ys = omega (arith, t) in
    let is = subst (λ i. y ≡ get_or ys i y) at c.arrival_at-arrival.ensures in
    let from = coming_nth a (length rows) ys k y low is c.requires.arrivals in
    let e = extends_keeps a b v.extends in
    let tail =
    c.variable-tail.ensures.same
    ∙ ap (λ xs. signal_at (signals_in b xs) m) (c.as_slice.ensures ∙ c.row_at-row.ensures)
    ∙ tail_keep a b m rest.width rows y.from e from.1 c.requires.before in
    record {
      means = record {
        there = c.in_ok-net.ensures.means.there;
        same = c.in_ok-net.ensures.means.same
            ∙ ap₂ (λ f g. mux_signal f g (signal b c.loop-i.net)) (e.kept y.comes from.0.there) tail
            ∙ ap (mux_signal (signal a y.comes) (tail_in a rows [] y.from m)) (v.means.same ∙ ap (λ i. brought_tail a rows m (drop i ys) rest) later)
            ∙ sym (brought_more a rows m ys k y rest low is);
      };
      wide =
          ap (λ (g : Signal). g.width) (c.in_ok-net.ensures.means.same ∙ ap (λ g. mux_signal (signal b y.comes) g (signal b c.loop-i.net)) tail)
          ∙ (c.requires.before y.from from.1).wide;
      extends = extends_trans a b d v.extends c.mux.ensures.extends;
      regs = c.mux.ensures.regs ∙ v.regs;
    }
