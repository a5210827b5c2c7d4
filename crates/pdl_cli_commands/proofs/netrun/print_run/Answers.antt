use Rattle.std.proofs.Common.{◌≡◌, refl}
use Rattle.pdl_vread.proofs.Memories.{mems_wide}
use Rattle.pdl_netrun_lines.specs.Printed.{run_text, schedule}
use Rattle.pdl_cli_commands.proofs.OutputCount.{two_outputs}
use Rattle.pdl_cli_commands.proofs.Explanations.{streamed}
use Rattle.pdl_cli_commands.proofs.netrun.print_run.Goals as goal

pub run-requires-clause-widths : goal.run-requires-clause-widths
run-requires-clause-widths g c = λ k d l. (mems_wide c.args.netlist.now c.requires.well k d l).1

pub run-requires-clause-two : goal.run-requires-clause-two
run-requires-clause-two g c = two_outputs c.args.netlist.now c.requires.well.pipe

pub returns-clause-text : goal.returns-clause-text
returns-clause-text g c =
    let text = run_text c.args.netlist.now c.args.start.now.image (schedule c.args.start.now.delays c.args.cycles) in
    streamed (λ t. t ≡ text) text (g.O.Sink.written c.args.out.now) (g.O.Sink.written c.run.new.sink)
    (g.O.Sink.faults c.args.out.now)
    (g.O.Sink.faults c.run.new.sink) c.run.result c.in_text.result c.in_text.ensures refl c.run.ensures.text
