use Rattle.std.proofs.Common.{◌∷◌, refl}
use Rattle.pdl_syntax_tree.specs.View.{pipe_view}
use Rattle.pdl_source_written.proofs.SourceDumps.{dumpable}
use Rattle.pdl_cli_args.specs.Line.{wave}
use Rattle.pdl_cli_args.specs.View.{text_of}
use Rattle.pdl_cli_commands.specs.Reading.{listed}
use Rattle.pdl_cli_commands.proofs.Explanations.{out_of_memory}
use Rattle.pdl_cli_commands.proofs.dumped.dump_accepted.Goals as goal

pub dump_netlist-requires-clause-well : goal.dump_netlist-requires-clause-well
dump_netlist-requires-clause-well g c = c.in-Ok.ensures.follows.well_formed

pub dump_netlist-requires-clause-dumpable : goal.dump_netlist-requires-clause-dumpable
dump_netlist-requires-clause-dumpable g c =
    dumpable c.requires.accepted.0
    (pipe_view c.args.accepted.now.typed.pipe) c.in-Ok.netlist c.requires.accepted.1.text c.args.accepted.now.kept c.in-Ok.ensures.follows

pub returns-in-Ok-clause-explained : goal.returns-in-Ok-clause-explained
returns-in-Ok-clause-explained g c = λ source b taken.
    c.dump_netlist.ensures.explained source b (pipe_view c.args.accepted.now.typed.pipe) taken c.in-Ok.ensures.follows c.in-Ok.ensures.places

pub returns-in-Err-clause-explained : goal.returns-in-Err-clause-explained
returns-in-Err-clause-explained g c = λ source b taken.
    let image' = c.args.image.now in
    let delays = text_of c.args.delays in
    out_of_memory (wave source image' c.args.cycles delays) source b (image' ∷ listed delays) refl (g.F.Files.answers c.args.files.now)
    (g.F.Files.faults c.args.files.now) (g.F.Files.faults c.args.files.now) (g.O.Sink.written c.args.out.now)
    (g.O.Sink.faults c.args.out.now) (g.O.Sink.faults c.args.out.now)
