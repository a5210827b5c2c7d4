use Rattle.std.proofs.Common.{rules}
use Rattle.std.proofs.lemmas.Str.Parse.{parse_digits}
use Rattle.pdl_cli_args.proofs.Numerals.{digits}
use Rattle.pdl_cli_args.proofs.number.number.Goals as goal

pub returns-in_default-2 : goal.returns-in_default-2
returns-in_default-2 c = search (rules, parse_digits digits 32 c.args.text.now _ c.parse.ensures.value.0)
