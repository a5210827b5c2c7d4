-- The spellings that values of the program stand for.
use Rattle.std.specs.Prelude.{ℕ, List, map, Option, Some, None}
use Rattle.pdl_syntax_tokens.specs.declared.spelling.Spelling as r
use Rattle.pdl_syntax_tokens.specs.declared.spelling.Symbols.{Symbols}
use Rattle.pdl_syntax_tokens.specs.declared.spelling.Symbols.TheVariants.{One, Several}
use Rattle.pdl_syntax_tokens.specs.declared.token.TokenKind.TheVariants as kind
use Rattle.pdl_syntax_tokens.specs.Tokens.{Spelling, Piece, spelling_at, mark_or_bad}

-- the spelling that a value of the program stands for
abbrev pub spelling_view : r.Spelling → Spelling
spelling_view s = record { text = s.text.now; mark = s.mark }

-- the spellings that values of the program stand for, in their order
abbrev pub spellings_view : List r.Spelling → List Spelling
spellings_view = map spelling_view

-- the spelling that a value of the program stands for, if there is one
abbrev pub found_view : Option r.Spelling → Option Spelling
found_view (Some s) = Some (spelling_view s)
found_view None = None

-- the piece at the front of bytes that begin with a symbol of these, or else a bad byte
abbrev pub piece_among : Symbols → List ℕ → Piece
piece_among (One m) bytes = record { kind = Some (kind.Mark m); size = 1 }
piece_among (Several all) bytes = mark_or_bad (spelling_at (spellings_view all.now) bytes)
