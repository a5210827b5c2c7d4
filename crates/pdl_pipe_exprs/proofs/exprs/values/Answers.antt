use Rattle.std.proofs.Common.{List, sym, subst, ◌∙◌}
use Rattle.pdl_net.specs.declared.Net.{Net}
use Rattle.pdl_net.specs.Signal.{Signal}
use Rattle.pdl_net.specs.Meaning.{Means}
use Rattle.pdl_net.proofs.Keeps.{extends_trans}
use Rattle.pdl_pipe_exprs.specs.Nets.{NetsThere, signals_in, widths_of}
use Rattle.pdl_form.specs.View.{expr_view, exprs_view}
use Rattle.pdl_pipe_exprs.specs.Values.{value_signal, value_signals}
use Rattle.pdl_pipe_exprs.proofs.NetLists.{nets_there, nets_kept, net_more}
use Rattle.pdl_pipe_exprs.proofs.ListSteps.{typed_left, values_next}
use Rattle.pdl_pipe_exprs.proofs.exprs.values.Goals as goal

pub loop-e-preserved : goal.loop-e-preserved
loop-e-preserved c =
    let a = c.loop-e.b in
    let b = c.value.new.b in
    let e = c.value.ensures.extends in
    let inv = c.loop-e.invariant in
    let fs = signals_in c.args.b.now c.args.vars.now in
    let d = c.e-item.result in
    let x = c.in_ok-net.net in
    let pushed = c.in_ok-push.ensures.ok in
    record {
      there = nets_there a b c.args.vars.now e inv.there;
      same = nets_kept a b c.args.vars.now e inv.there ∙ inv.same;
      typed = (typed_left c.args.es.now c.loop-e.e-index d c.loop-e-test.true c.e-item.is (widths_of fs) inv.typed).1;
      nets =
          subst (λ (xs : List Net). NetsThere b xs) (sym pushed)
          (net_more b c.loop-e.nets x (nets_there a b c.loop-e.nets e inv.nets) c.in_ok-net.ensures.means.there);
      means =
          values_next c.args.es.now c.loop-e.e-index d c.loop-e-test.true c.e-item.is a b fs c.loop-e.nets c.push.new.self x
          (value_signals fs (exprs_view c.args.es.now)) e inv.nets
          (subst (λ (gs : List Signal). Means b x (value_signal gs (expr_view d))) inv.same c.in_ok-net.ensures.means) pushed inv.means;
      extends = extends_trans c.args.b.now a b inv.extends e;
      regs = c.value.ensures.regs ∙ inv.regs;
    }
