use Rattle.std.proofs.Common.{◌≡◌, drop}
use Rattle.pdl_form.specs.View.{guards_view}
use Rattle.pdl_net.specs.Meaning.{IsThere, signal}
use Rattle.pdl_net.specs.Growth.{Extends}
use Rattle.pdl_pipe_exprs.specs.Nets.{NetsThere, signals_in, widths_of}
use Rattle.pdl_pipe_exprs.specs.Conditions.{AreBits, taken_from, taken_signal}
use Rattle.pdl_form_types.specs.Stmts.{AreGuards}
use Rattle.pdl_pipe_exprs.proofs.guards.all_taken.Given as goal

abbrev pub invariant-loop-g : goal.invariant-loop-g
invariant-loop-g l = record {
  bits : AreBits l.b l.bits;
  there : NetsThere l.b l.vars;
  same : signals_in l.b l.vars ≡ signals_in l.fn.b l.fn.vars;
  on : IsThere l.b l.on;
  one : (signal l.b l.on).width ≡ 1;
  guards : AreGuards (widths_of (signals_in l.fn.b l.fn.vars)) (guards_view (drop l.g-index l.guards));
  means : taken_from (signals_in l.fn.b l.fn.vars) (signal l.b l.on) (guards_view (drop l.g-index l.guards))
      ≡ taken_signal (signals_in l.fn.b l.fn.vars) (guards_view l.guards);
  extends : Extends l.fn.b l.b;
  regs : l.b.regs ≡ l.fn.b.regs;
}
