use Rattle.std.proofs.Common.{◌≡◌, refl}
use Rattle.pdl_netrun_lines.specs.Printed.{schedule}
use Rattle.pdl_netrun_wave.specs.Dumped.{run_dump}
use Rattle.pdl_cli_commands.proofs.Explanations.{streamed}
use Rattle.pdl_cli_commands.proofs.dumped.print_dump.Goals as goal

pub returns-clause-text : goal.returns-clause-text
returns-clause-text g c =
    let text = run_dump c.args.netlist.now c.args.start.now.image (schedule c.args.start.now.delays c.args.cycles) in
    streamed (λ t. t ≡ text) text (g.O.Sink.written c.args.out.now) (g.O.Sink.written c.dump.new.sink)
    (g.O.Sink.faults c.args.out.now)
    (g.O.Sink.faults c.dump.new.sink) c.dump.result c.in_text.result c.in_text.ensures refl c.dump.ensures.text
