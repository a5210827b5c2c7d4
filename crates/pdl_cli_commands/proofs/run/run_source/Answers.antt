use Rattle.std.proofs.Common.{◌∷◌, [], refl}
use Rattle.pdl_system.specs.Answers.{gave}
use Rattle.pdl_cli_args.specs.Line.{run}
use Rattle.pdl_cli_args.specs.View.{text_of}
use Rattle.pdl_cli_commands.specs.Reading.{listed}
use Rattle.pdl_cli_commands.specs.Begun.{IsRefusedSource}
use Rattle.pdl_cli_commands.proofs.Explanations.{after_first, first_fails}
use Rattle.pdl_cli_commands.proofs.run.run_source.Goals as goal

pub run_accepted-requires-clause-accepted : goal.run_accepted-requires-clause-accepted
run_accepted-requires-clause-accepted g c = (c.in-Ok.ensures.ok.0, c.in-Ok.ensures.ok.2)

pub returns-in-Ok-clause-explained : goal.returns-in-Ok-clause-explained
returns-in-Ok-clause-explained g c =
    let a = c.in-Ok.ensures.ok in
    let source = c.args.source.now in
    after_first (run source c.args.image.now c.args.cycles (text_of c.args.delays)) c.run_accepted.result
    (g.F.Files.answers c.args.files.now) (g.F.Files.answers c.accept.new.files)
    (g.F.Files.answers c.run_accepted.new.files) (gave source a.0) (g.F.Files.faults c.args.files.now) (g.F.Files.faults c.accept.new.files)
    (g.F.Files.faults c.run_accepted.new.files) (g.O.Sink.written c.args.out.now) (g.O.Sink.written c.run_accepted.new.out)
    (g.O.Sink.faults c.args.out.now) (g.O.Sink.faults c.run_accepted.new.out) a.1 c.accept.ensures.later
    (c.run_accepted.ensures.explained source a.0 a.2)

pub returns-in-Err-clause-explained : goal.returns-in-Err-clause-explained
returns-in-Err-clause-explained g c =
    let source = c.args.source.now in
    first_fails (run source c.args.image.now c.args.cycles (text_of c.args.delays)) source (c.args.image.now ∷ listed (text_of c.args.delays)) IsRefusedSource
    (g.F.Files.answers c.args.files.now) (g.F.Files.answers c.accept.new.files) (g.F.Files.faults c.args.files.now)
    (g.F.Files.faults c.accept.new.files) (g.O.Sink.written c.args.out.now) (g.O.Sink.faults c.args.out.now)
    (g.O.Sink.faults c.args.out.now) c.in-Err.failure refl (λ text rule position r. r) c.in-Err.ensures.err
