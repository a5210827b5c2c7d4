use Rattle.std.proofs.Common.{◌≡◌, ◌++◌, drop}
use Rattle.pdl_net.specs.Growth.{Extends}
use Rattle.pdl_pipe_exprs.specs.Nets.{NetsThere, signals_in, widths_of}
use Rattle.pdl_form.specs.View.{exprs_view}
use Rattle.pdl_pipe_exprs.specs.Values.{value_signals}
use Rattle.pdl_form_types.specs.Exprs.{AreTyped}
use Rattle.pdl_pipe_exprs.proofs.exprs.values.Given as goal

abbrev pub invariant-loop-e : goal.invariant-loop-e
invariant-loop-e l = record {
  there : NetsThere l.b l.vars;
  same : signals_in l.b l.vars ≡ signals_in l.fn.b l.fn.vars;
  typed : AreTyped (widths_of (signals_in l.fn.b l.fn.vars)) (exprs_view (drop l.e-index l.es));
  nets : NetsThere l.b l.nets;
  means : signals_in l.b l.nets ++ value_signals (signals_in l.fn.b l.fn.vars) (exprs_view (drop l.e-index l.es))
      ≡ value_signals (signals_in l.fn.b l.fn.vars) (exprs_view l.es);
  extends : Extends l.fn.b l.b;
  regs : l.b.regs ≡ l.fn.b.regs;
}
