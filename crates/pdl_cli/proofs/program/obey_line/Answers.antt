use Rattle.pdl_cli_commands.proofs.Explanations.{generated_explains}
use Rattle.pdl_cli.proofs.program.obey_line.Goals as goal

pub returns-in-Gen-clause-explained : goal.returns-in-Gen-clause-explained
returns-in-Gen-clause-explained g c =
    rw (c.in-Gen.is)
    (generated_explains c.in-Gen.number (g.F.Files.answers c.args.files.now) (g.F.Files.faults c.args.files.now)
    (g.F.Files.faults c.args.files.now) (g.O.Sink.written c.args.out.now) (g.O.Sink.written c.write_text-in-Gen.new.out)
    (g.O.Sink.faults c.args.out.now) (g.O.Sink.faults c.write_text-in-Gen.new.out) c.generate.result c.write_text-in-Gen.result
    c.generate.ensures.ok c.generate.ensures.err c.write_text-in-Gen.ensures.made c.write_text-in-Gen.ensures.failed)
