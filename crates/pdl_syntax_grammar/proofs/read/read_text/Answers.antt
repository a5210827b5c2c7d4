use Rattle.std.proofs.Common.{rules, ◌≡◌, ◌+◌, length, Ok, refl}
use Rattle.pdl_syntax_cursor.specs.Limits.{at_start}
use Rattle.pdl_syntax_cursor.specs.MarkedTokens.{marked_row}
use Rattle.pdl_syntax_grammar.specs.Reading.{parse}
use Rattle.pdl_syntax_tokens.specs.Tokens as lexed
use Rattle.pdl_syntax_tree.specs.View.{pipe_view}
use Rattle.pdl_syntax_grammar.proofs.Places.{read_whole}
use Rattle.pdl_syntax_grammar.proofs.read.read_text.Goals as goal

pub returns-in-Ok : goal.returns-in-Ok
returns-in-Ok c =
    let e : parse (length c.args.source.now + 1) (marked_row at_start (lexed.tokens c.args.source.now)) ≡ Ok (pipe_view c.in-Ok.pipe) = search rules in
    read_whole c.args.source.now (length c.args.source.now + 1) (pipe_view c.in-Ok.pipe) refl e
