-- The limits of a text: how many brackets may be open, and how many operators and function words a statement may have.
use Rattle.std.specs.Prelude.{◌+◌, ◌-◌, Bool, true, false, ◌&&◌, nat_le, cond, [], ◌∷◌, IsTrue}
use Rattle.pdl_syntax_cursor.specs.declared.limits.LimitCounts.{LimitCounts}
use Rattle.pdl_syntax_tokens.specs.declared.token.Mark.{Mark}
use Rattle.pdl_syntax_tokens.specs.declared.token.Mark.TheVariants as mark
use Rattle.pdl_syntax_tokens.specs.declared.token.TokenKind.{TokenKind}
use Rattle.pdl_syntax_tokens.specs.declared.token.TokenKind.TheVariants as kind
use Rattle.pdl_syntax_tokens.specs.Tokens.{Row}

-- an operator or a function word; the `:` of a choice isn't counted, its `?` is
abbrev pub is_operator : Mark → Bool
is_operator mark.Tilde = true
is_operator mark.Star = true
is_operator mark.Plus = true
is_operator mark.Minus = true
is_operator mark.ShiftLeft = true
is_operator mark.ShiftRight = true
is_operator mark.Less = true
is_operator mark.Equal = true
is_operator mark.Differ = true
is_operator mark.Ampersand = true
is_operator mark.Caret = true
is_operator mark.Bar = true
is_operator mark.Question = true
is_operator mark.Cat = true
is_operator mark.LessSigned = true
is_operator mark.ZeroExtend = true
is_operator mark.SignExtend = true
is_operator _ = false

-- the counts with one more open bracket
abbrev pub after_open : LimitCounts → LimitCounts
after_open c = record { brackets = c.brackets + 1; in_body = c.in_body; operators = c.operators }

-- the counts with one open bracket less
abbrev pub after_close : LimitCounts → LimitCounts
after_close c = record { brackets = c.brackets - 1; in_body = c.in_body; operators = c.operators }

-- one more operator or function word of a statement; the `<` of a type stands in none
abbrev pub after_operator : LimitCounts → LimitCounts
after_operator c = record { brackets = c.brackets; in_body = c.in_body; operators = cond c.in_body (c.operators + 1) c.operators }

-- the next statement begins
abbrev pub afresh : LimitCounts → LimitCounts
afresh c = record { brackets = c.brackets; in_body = c.in_body; operators = 0 }

-- statements begin: those of the pipe, or of a branch
abbrev pub after_brace : LimitCounts → LimitCounts
after_brace c = record { brackets = c.brackets + 1; in_body = true; operators = 0 }

-- the counts after a token
abbrev pub counts_after : LimitCounts → TokenKind → LimitCounts
counts_after c (kind.Mark mark.OpenRound) = after_open c
counts_after c (kind.Mark mark.OpenSquare) = after_open c
counts_after c (kind.Mark mark.OpenBrace) = after_brace c
counts_after c (kind.Mark mark.CloseRound) = after_close c
counts_after c (kind.Mark mark.CloseSquare) = after_close c
counts_after c (kind.Mark mark.CloseBrace) = afresh (after_close c)
counts_after c (kind.Mark mark.Semicolon) = afresh c
counts_after c (kind.Mark mark.Separator) = afresh c
counts_after c (kind.Mark m) = cond (is_operator m) (after_operator c) c
counts_after c _ = c

-- at most 64 brackets are open, and at most 256 operators and function words stand in the statement
abbrev pub is_within : LimitCounts → Bool
is_within c = nat_le c.brackets 64 && nat_le c.operators 256

-- the counts before the first token
abbrev pub at_start : LimitCounts
at_start = record { brackets = 0; in_body = false; operators = 0 }

-- after each of the tokens the counts are within the limits
abbrev pub AreWithin : LimitCounts → Row → Type 0
AreWithin c [] = Unit {0}
AreWithin c (t ∷ ts) = IsTrue (is_within (counts_after c t.kind)) × AreWithin (counts_after c t.kind) ts
