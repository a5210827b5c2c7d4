-- What is asked of the tokens at the front.
use Rattle.std.specs.Prelude.{Bool, true, false, Option, Some}
use denote.Enum.Bare.{sameb}
use Rattle.pdl_syntax_tokens.specs.contracts.token.Mark.{the_type}
use Rattle.pdl_syntax_tokens.specs.declared.token.Mark.{Mark}
use Rattle.pdl_syntax_tokens.specs.declared.token.Mark.TheVariants as mark
use Rattle.pdl_syntax_tokens.specs.declared.token.TokenKind.{TokenKind}
use Rattle.pdl_syntax_tokens.specs.declared.token.TokenKind.TheVariants as kind
use Rattle.pdl_syntax_tokens.specs.Cursor.{next, first_kind}
use Rattle.pdl_syntax_tokens.specs.Tokens.{Row}

-- the token is this keyword or symbol
abbrev pub is_mark : Mark → Option TokenKind → Bool
is_mark m (Some (kind.Mark k)) = sameb the_type k m
is_mark m _ = false

-- a name, a square bracket and a name
abbrev pub is_place : Option TokenKind → Option TokenKind → Option TokenKind → Bool
is_place (Some kind.Name) (Some (kind.Mark mark.OpenSquare)) (Some kind.Name) = true
is_place _ _ _ = false

-- the tokens begin with a name, a square bracket and a name
abbrev pub begins_place : Row → Bool
begins_place ts = is_place (first_kind ts) (first_kind (next ts)) (first_kind (next (next ts)))
