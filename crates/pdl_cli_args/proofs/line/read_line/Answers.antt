use Rattle.std.proofs.Common.{sym, ◌∙◌, map, string_bytes}
use Rattle.clap.specs.Words.{app_of}
use Rattle.pdl_cli_args.proofs.ParseResults.{err_line, ok_line}
use Rattle.pdl_cli_args.proofs.line.read_line.Goals as goal

pub returns-in-Some-clause-ok : goal.returns-in-Some-clause-ok
returns-in-Some-clause-ok c =
    let is =
    ok_line (app_of c.in_ok-command.command)
    (map string_bytes c.args.words.now) c.in-Ok.matches c.in_ok-command.ensures c.in-Ok.ensures.kinds c.in-Ok.ensures.matches in
    is ∙ sym c.in-Some.ensures

pub returns-in-Ok-clause-usage :
    goal.returns-in-Ok-clause-usage
returns-in-Ok-clause-usage c =
    let is =
    ok_line (app_of c.in_ok-command.command)
    (map string_bytes c.args.words.now) c.in-Ok.matches c.in_ok-command.ensures c.in-Ok.ensures.kinds c.in-Ok.ensures.matches in
    λ e. is ∙ sym c.in-None.ensures

pub returns : goal.returns
returns c = record {
  ok = tt;
  usage =
      λ e. err_line (app_of c.in_ok-command.command)
      (map string_bytes c.args.words.now) c.in-Err.error c.in_ok-command.ensures c.in-Err.ensures.kinds
      (λ m. c.in_default.not-OutOfMemory (c.kind.ensures ∙ m));
}
