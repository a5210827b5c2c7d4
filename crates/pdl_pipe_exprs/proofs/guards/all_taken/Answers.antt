use Rattle.std.proofs.Common.{◌≡◌, false, List, get_or, subst, ◌∙◌}
use Rattle.pdl_form.specs.declared.form.FlatGuard.{FlatGuard}
use Rattle.pdl_form.specs.View.{guards_view}
use Rattle.pdl_net.specs.Signal.{Signal}
use Rattle.pdl_net.specs.Meaning.{signal}
use Rattle.pdl_net.proofs.Keeps.{extends_trans}
use Rattle.pdl_pipe_exprs.specs.Nets.{signals_in, signal_at, widths_of}
use Rattle.pdl_pipe_exprs.specs.Conditions.{both, literal, taken_signal}
use Rattle.pdl_pipe_exprs.proofs.NetLists.{nets_there, nets_kept, bits_kept}
use Rattle.pdl_pipe_exprs.proofs.ListSteps.{guards_left, taken_next}
use Rattle.pdl_pipe_exprs.proofs.guards.all_taken.Goals as goal

pub loop-g-preserved : goal.loop-g-preserved
loop-g-preserved c =
    let a = c.loop-g.b in
    let b = c.and_taken.new.b in
    let e = c.and_taken.ensures.extends in
    let inv = c.loop-g.invariant in
    let fs = signals_in c.args.b.now c.args.vars.now in
    let d : FlatGuard = record { var = 0; first = false } in
    let g = get_or c.args.guards.now c.loop-g.g-index d in
    let now : signal b c.in_ok-on.on ≡ both (signal a c.loop-g.on) (literal g.first (signal_at (signals_in a c.args.vars.now) g.var)) =
    c.in_ok-on.ensures.means.same in
    record {
      bits = bits_kept a b c.args.bits e inv.bits;
      there = nets_there a b c.args.vars.now e inv.there;
      same = nets_kept a b c.args.vars.now e inv.there ∙ inv.same;
      on = c.in_ok-on.ensures.means.there;
      one = c.in_ok-on.ensures.one;
      guards = guards_left c.args.guards.now c.loop-g.g-index d c.loop-g-test.true (widths_of fs) inv.guards;
      means =
          taken_next c.args.guards.now c.loop-g.g-index d c.loop-g-test.true fs (signal a c.loop-g.on)
          (signal b c.in_ok-on.on) (taken_signal fs (guards_view c.args.guards.now))
          (subst (λ (gs : List Signal). signal b c.in_ok-on.on ≡ both (signal a c.loop-g.on) (literal g.first (signal_at gs g.var))) inv.same now) inv.means;
      extends = extends_trans c.args.b.now a b inv.extends e;
      regs = c.and_taken.ensures.regs ∙ inv.regs;
    }
