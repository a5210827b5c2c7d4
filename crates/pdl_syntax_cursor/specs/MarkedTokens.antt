-- The tokens as a reader with limits sees them: those from the first over a limit on are bad ones.
use Rattle.std.specs.Prelude.{ℕ, cond, [], ◌∷◌, Option, Some, None}
use Rattle.pdl_syntax_cursor.specs.declared.limits.LimitCounts.{LimitCounts}
use Rattle.pdl_syntax_tokens.specs.declared.token.TokenKind.{TokenKind}
use Rattle.pdl_syntax_tokens.specs.declared.token.TokenKind.TheVariants.{Bad}
use Rattle.pdl_syntax_tokens.specs.Tokens.{Token}
use Rattle.pdl_syntax_tokens.specs.Tokens.{Row}
use Rattle.pdl_syntax_cursor.specs.Limits.{counts_after, is_within}

-- the counts after a token; once over a limit they stay so
abbrev pub counts_passing : LimitCounts → TokenKind → LimitCounts
counts_passing c k = cond (is_within c) (counts_after c k) c

-- what a token is, by the counts after it
abbrev pub kind_counted : LimitCounts → TokenKind → TokenKind
kind_counted c k = cond (is_within c) k Bad

-- the token itself, or a bad one in its place
abbrev pub mark_token : LimitCounts → Token → Token
mark_token c t = record { kind = kind_counted c t.kind; text = t.text; span = t.span }

-- the tokens after those that were counted
abbrev pub marked_row : LimitCounts → Row → Row
marked_row c [] = []
marked_row c (t ∷ ts) = mark_token (counts_passing c t.kind) t ∷ marked_row (counts_passing c t.kind) ts

-- the tokens of which the first was counted
abbrev pub headed_row : LimitCounts → Row → Row
headed_row c [] = []
headed_row c (t ∷ ts) = mark_token c t ∷ marked_row c ts

-- the counts after a token, if there is one
abbrev pub passed_if : LimitCounts → Option TokenKind → LimitCounts
passed_if c (Some k) = counts_passing c k
passed_if c None = c

-- what a token is by the counts after it, if there is one
abbrev pub seen_if : LimitCounts → Option TokenKind → Option TokenKind
seen_if c (Some k) = Some (kind_counted c k)
seen_if c None = None

-- the line of the first token
abbrev pub first_line : Row → Option ℕ
first_line [] = None
first_line (t ∷ ts) = Some t.span.line
