use Rattle.std.proofs.Common.{◌<◌, ◌≤◌, ◌∷◌, ◌++◌, [], map, take, length, sym, ap, ap₂, ◌∙◌, subst, arith}
use Rattle.std.proofs.lemmas.List.{take_more, take_all, map-append}
use Rattle.std.specs.Prelude.{slice_index}
use Rattle.pdl_form.specs.FormView.{form}
use Rattle.pdl_net.specs.Growth.{Keeps}
use Rattle.pdl_net.proofs.Keeps.{extends_keeps, extends_trans}
use Rattle.pdl_pipe_exprs.specs.Nets.{NetsThere, signals_in}
use Rattle.pdl_pipe_exprs.proofs.NetLists.{there_keeps, signals_keep, net_more}
use Rattle.pdl_pipe_registers.specs.Stages.{zero_signal}
use Rattle.pdl_pipe_registers.proofs.Widths.{wide_low, wide_high}
use Rattle.pdl_pipe_registers.proofs.Begins.{signals_more}
use Rattle.pdl_pipe_registers.proofs.whole.zeros.Goals as goal
use Rattle.pdl_word.specs.Words.{widest}

pub constant-requires-clause-low : goal.constant-requires-clause-low
constant-requires-clause-low c =
    let n = c.vars-x-end.ensures in
    let t = c.loop-x-test.true in
    subst (λ w. 1 ≤ w) (sym c.width.ensures) (wide_low (form c.args.pipe.now).widths c.loop-x.x (omega (arith, n, t)) c.requires.wide)

pub constant-requires-clause-high : goal.constant-requires-clause-high
constant-requires-clause-high c =
    let n = c.vars-x-end.ensures in
    let t = c.loop-x-test.true in
    subst (λ w. w ≤ widest) (sym c.width.ensures) (wide_high (form c.args.pipe.now).widths c.loop-x.x (omega (arith, n, t)) c.requires.wide)

pub loop-x-preserved : goal.loop-x-preserved
loop-x-preserved c =
    let a = c.args.b.now in
    let b = c.loop-x.b in
    let d = c.constant.new.self in
    let ws = (form c.args.pipe.now).widths in
    let x = c.loop-x.x in
    let nets = c.loop-x.nets in
    let net = c.in_ok-net.net in
    let n = c.vars-x-end.ensures in
    let t = c.loop-x-test.true in
    let low : x < length ws = omega (arith, n, t) in
    let inv = c.loop-x.invariant in
    let e : Keeps b d = extends_keeps b d c.constant.ensures.extends in
    let means = c.in_ok-net.ensures.means in
    let pushed = c.in_ok-push.ensures.ok in
    record {
      there = subst (NetsThere d) (sym pushed) (net_more d nets net (there_keeps b d nets e inv.there) means.there);
      means = ap (signals_in d) pushed
          ∙ signals_more d nets net
          ∙ ap₂ (λ fs f. fs ++ f ∷ []) (signals_keep b d nets e inv.there ∙ inv.means) (means.same ∙ ap zero_signal c.width.ensures)
          ∙ sym (map-append zero_signal (take x ws) (slice_index ws x ∷ []))
          ∙ ap (map zero_signal) (sym (take_more ws x 0 low));
      extends = extends_trans a b d inv.extends c.constant.ensures.extends;
    }

pub returns-clause-means : goal.returns-clause-means
returns-clause-means c =
    let n = c.vars-x-end.ensures in
    let t = c.loop-x-test.false in
    c.loop-x.invariant.means ∙ ap (map zero_signal) (take_all c.loop-x.x (form c.args.pipe.now).widths (omega (arith, n, t)))
