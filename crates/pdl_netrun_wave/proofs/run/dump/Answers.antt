use Rattle.std.proofs.Common.{◌≡◌, ◌∙◌, arith, subst, sym}
use Rattle.std.specs.Prelude.{List}
use Rattle.std.proofs.lemmas.Grind.{common_steps}
use Rattle.pdl_net.specs.Run.{nports_from}
use Rattle.pdl_netrun.specs.Sim.{Run, run_at_start}
use Rattle.pdl_netrun_lines.specs.Printed.{schedule}
use Rattle.pdl_trace.specs.Passed.{Streams}
use Rattle.pdl_wave.specs.declared.port.WavePort.{WavePort}
use Rattle.pdl_wave.specs.Dump.{dump}
use Rattle.pdl_netrun_wave.specs.Cycles.{AreDumpable, IsFit}
use Rattle.pdl_netrun_wave.specs.Dumped.{wave_ports, rows_of}
use Rattle.pdl_netrun_wave.proofs.PortWidths.{dumpable, fit_start}
use Rattle.pdl_netrun_wave.proofs.run.dump.Goals as goal

pub print_dump-requires-clause-dumpable : goal.print_dump-requires-clause-dumpable
print_dump-requires-clause-dumpable g c =
    let same : c.deref.result.now ≡ wave_ports c.args.net.now = c.deref.ensures.value ∙ c.in_ok-ports.ensures in
    subst AreDumpable (sym same) (dumpable c.args.net.now c.requires.well.well c.requires.dumpable.few)

pub print_dump-requires-clause-fit : goal.print_dump-requires-clause-fit
print_dump-requires-clause-fit g c =
    let begun : c.in_ok-sim.sim ≡ run_at_start c.args.net.now c.args.image.now = grind (arith, common_steps) in
    subst (λ (r : Run). IsFit r.netlist r.held) (sym begun) (fit_start c.args.net.now c.args.image.now c.requires.well c.requires.image)

pub returns-clause-text : goal.returns-clause-text
returns-clause-text g c =
    let begun : c.in_ok-sim.sim ≡ run_at_start c.args.net.now c.args.image.now = grind (arith, common_steps) in
    let same : c.deref.result.now ≡ wave_ports c.args.net.now = c.deref.ensures.value ∙ c.in_ok-ports.ensures in
    let written = g.S.Sink.written c.args.sink.now in
    let now = g.S.Sink.written c.print_dump.new.sink in
    let before = g.S.Sink.faults c.args.sink.now in
    let after = g.S.Sink.faults c.print_dump.new.sink in
    let P : Run → Type 0 =
    λ s. Streams written now before after
    (dump c.args.net.now.name c.deref.result.now
    (rows_of (nports_from s.netlist s.held (schedule c.args.schedule.now.delays.now c.args.schedule.now.cycles)))) c.print_dump.result in
    let Q : List WavePort → Type 0 =
    λ ports. Streams written now before after
    (dump c.args.net.now.name ports
    (rows_of
    (nports_from (run_at_start c.args.net.now c.args.image.now).netlist
    (run_at_start c.args.net.now c.args.image.now).held
    (schedule c.args.schedule.now.delays.now c.args.schedule.now.cycles)))) c.print_dump.result in
    subst Q same (subst P begun c.print_dump.ensures.text)
