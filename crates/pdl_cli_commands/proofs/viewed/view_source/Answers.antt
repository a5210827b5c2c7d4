use Rattle.std.proofs.Common.{◌∷◌, [], refl}
use Rattle.pdl_system.specs.Answers.{gave}
use Rattle.pdl_cli_args.specs.Line.{view}
use Rattle.pdl_cli_args.specs.View.{text_of}
use Rattle.pdl_cli_commands.specs.Reading.{listed}
use Rattle.pdl_cli_commands.specs.Begun.{IsRefusedSource}
use Rattle.pdl_cli_commands.proofs.Explanations.{after_first, first_fails}
use Rattle.pdl_cli_commands.proofs.viewed.view_source.Goals as goal

pub view_accepted-requires-clause-accepted : goal.view_accepted-requires-clause-accepted
view_accepted-requires-clause-accepted g c = (c.in-Ok.ensures.ok.0, c.in-Ok.ensures.ok.2)

pub returns-in-Ok-clause-explained : goal.returns-in-Ok-clause-explained
returns-in-Ok-clause-explained g c =
    let a = c.in-Ok.ensures.ok in
    let source = c.args.source.now in
    after_first (view source c.args.image.now c.args.cycles (text_of c.args.delays)) c.view_accepted.result
    (g.F.Files.answers c.args.files.now) (g.F.Files.answers c.accept.new.files)
    (g.F.Files.answers c.view_accepted.new.files) (gave source a.0) (g.F.Files.faults c.args.files.now) (g.F.Files.faults c.accept.new.files)
    (g.F.Files.faults c.view_accepted.new.files) (g.O.Sink.written c.args.out.now) (g.O.Sink.written c.view_accepted.new.out)
    (g.O.Sink.faults c.args.out.now) (g.O.Sink.faults c.view_accepted.new.out) a.1 c.accept.ensures.later
    (c.view_accepted.ensures.explained source a.0 a.2)

pub returns-in-Err-clause-explained : goal.returns-in-Err-clause-explained
returns-in-Err-clause-explained g c =
    let source = c.args.source.now in
    first_fails (view source c.args.image.now c.args.cycles (text_of c.args.delays)) source (c.args.image.now ∷ listed (text_of c.args.delays)) IsRefusedSource
    (g.F.Files.answers c.args.files.now) (g.F.Files.answers c.accept.new.files) (g.F.Files.faults c.args.files.now)
    (g.F.Files.faults c.accept.new.files) (g.O.Sink.written c.args.out.now) (g.O.Sink.faults c.args.out.now)
    (g.O.Sink.faults c.args.out.now) c.in-Err.failure refl (λ text rule position r. r) c.in-Err.ensures.err
