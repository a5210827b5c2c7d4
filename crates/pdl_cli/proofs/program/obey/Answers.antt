use Rattle.std.proofs.Common.{◌≡◌, map, ap}
use Rattle.std.specs.Prelude.{string_bytes, Err}
use Rattle.pdl_cli_args.specs.Line.{line}
use Rattle.pdl_cli.proofs.WordFaults.{words_fail}
use Rattle.pdl_cli.proofs.program.obey.Goals as goal

pub returns-in-Err-clause-explained : goal.returns-in-Err-clause-explained
returns-in-Err-clause-explained g c =
    let words : c.as_slice.result.now ≡ c.args.words.now.items = c.as_slice.ensures.value in
    words_fail (line (map string_bytes c.args.words.now.items)) c.in-Err.error c.from.result (g.F.Files.answers c.args.files.now)
    (g.F.Files.faults c.args.files.now) (g.F.Files.faults c.args.files.now) (g.O.Sink.written c.args.out.now)
    (g.O.Sink.faults c.args.out.now) (g.O.Sink.faults c.args.out.now) c.from.ensures
    (λ e. rw (← words) (c.in-Err.ensures.usage (ap (λ x. Err x) e)))
