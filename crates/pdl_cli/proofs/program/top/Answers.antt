use Rattle.std.proofs.Common.{map}
use Rattle.std.specs.Prelude.{string_bytes}
use Rattle.pdl_cli_args.specs.Line.{line}
use Rattle.pdl_cli.proofs.ExitStatus.{decided_since}
use Rattle.pdl_cli.proofs.program.top.Goals as goal

pub returns-clause-decided : goal.returns-clause-decided
returns-clause-decided g c =
    decided_since (line (map string_bytes c.args.words.now.items)) (g.F.Files.answers c.args.files.now) (g.F.Files.answers c.obey-outcome.new.files)
    (g.F.Files.faults c.args.files.now) (g.F.Files.faults c.obey-outcome.new.files) (g.O.Sink.written c.args.out.now)
    (g.O.Sink.written c.obey-outcome.new.out) (g.O.Sink.faults c.args.out.now) (g.O.Sink.faults c.obey-outcome.new.out)
    c.obey-outcome.result c.status_of.result c.status_of.ensures c.obey-outcome.ensures.explained
