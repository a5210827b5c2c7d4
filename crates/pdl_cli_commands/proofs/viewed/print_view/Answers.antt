use Rattle.std.proofs.Common.{◌≡◌, refl}
use Rattle.pdl_syntax_tree.specs.View.{pipe_view}
use Rattle.pdl_netrun_lines.specs.Printed.{schedule}
use Rattle.pdl_machine_view.specs.Viewed.{view_text}
use Rattle.pdl_cli_commands.proofs.Explanations.{streamed}
use Rattle.pdl_cli_commands.proofs.viewed.print_view.Goals as goal

pub returns-clause-text : goal.returns-clause-text
returns-clause-text g c =
    let text = view_text (pipe_view c.args.accepted.now.typed.pipe) c.args.start.now.image (schedule c.args.start.now.delays c.args.cycles) in
    streamed (λ t. t ≡ text) text (g.O.Sink.written c.args.out.now) (g.O.Sink.written c.view.new.sink)
    (g.O.Sink.faults c.args.out.now)
    (g.O.Sink.faults c.view.new.sink) c.view.result c.in_text.result c.in_text.ensures refl c.view.ensures.text
