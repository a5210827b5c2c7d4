use Rattle.std.proofs.Common.{◌∙◌, ap, arith, sym}
use Rattle.std.proofs.lemmas.List.{drop_all}
use Rattle.pdl_wave.specs.Moments.{changes}
use Rattle.pdl_wave.specs.Wave.{is_none}
use Rattle.pdl_netrun_wave.proofs.Texts.{still_quiet, not_quiet}
use Rattle.pdl_netrun_wave.proofs.cycles.is_quiet.Goals as goal

pub returns-then-port-value : goal.returns-then-port-value
returns-then-port-value c =
    let inside = c.loop-i-test.true in
    sym
    (c.loop-i.invariant
    ∙ not_quiet c.args.before.now c.args.sim.now.last.ports c.loop-i.i
    (omega (arith, c.requires.ports, inside)) inside (λ e. c.if-port-value.true (c.port.ensures ∙ sym e)))

pub loop-i-preserved : goal.loop-i-preserved
loop-i-preserved c =
    let inside = c.loop-i-test.true in
    c.loop-i.invariant
    ∙ still_quiet c.args.before.now c.args.sim.now.last.ports c.loop-i.i
    (omega (arith, c.requires.ports, inside)) inside (sym c.if-port-value.false ∙ c.port.ensures)

pub returns : goal.returns
returns c =
    let row = c.args.sim.now.last.ports in
    sym
    (c.loop-i.invariant
    ∙ ap (λ vs. is_none (changes c.loop-i.i c.args.before.now vs)) (drop_all c.loop-i.i row (omega (arith, c.requires.ports, c.loop-i-test.false))))
