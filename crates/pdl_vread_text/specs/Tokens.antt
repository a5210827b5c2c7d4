-- The tokens of a text: words, and symbols of one or two bytes; white space and comments part them.
use Rattle.std.specs.Prelude.{ℕ, zero, suc, ◌+◌, ◌-◌, Bool, true, false, ◌&&◌, ◌||◌, ◌==◌, nat_eq, nat_le, cond, List, [], ◌∷◌, ◌++◌, length, take, drop, count_by, codes}
use Rattle.std.specs.List.{prefix_len, starts_with}

-- a token: its bytes, and the line on which it stands
pub record Token : Type 0 where
  pub text : List ℕ
  pub line : ℕ

-- ---- bytes

-- a lower-case letter
abbrev pub is_lower : ℕ → Bool
is_lower c = nat_le 97 c && nat_le c 122

-- a decimal digit
abbrev pub is_digit : ℕ → Bool
is_digit c = nat_le 48 c && nat_le c 57

-- a digit of base 16, in lower case
abbrev pub is_hex : ℕ → Bool
is_hex c = is_digit c || (nat_le 97 c && nat_le c 102)

-- a byte of a word: a letter, a digit, `_`, `$`, or the `'` inside a constant
abbrev pub is_word : ℕ → Bool
is_word c = is_lower c || (nat_le 65 c && nat_le c 90) || is_digit c || c == 95 || c == 36 || c == 39

-- a line feed
abbrev pub is_line_end : ℕ → Bool
is_line_end c = c == 10

-- a byte of a comment
abbrev pub in_line : ℕ → Bool
in_line c = cond (is_line_end c) false true

-- space, tab, carriage return and line feed
abbrev pub is_blank : ℕ → Bool
is_blank c = c == 32 || c == 9 || c == 13 || c == 10

-- ---- pieces

-- what stands at the front: a token, or white space or a comment, and how many bytes it takes
pub record Piece : Type 0 where
  pub is_token : Bool
  pub size : ℕ

abbrev token_of : ℕ → Piece
token_of n = record { is_token = true; size = n }

abbrev blank_of : ℕ → Piece
blank_of n = record { is_token = false; size = n }

-- the bytes begin with a symbol of two bytes
abbrev pub begins_pair : List ℕ → Bool
begins_pair bytes =
    starts_with nat_eq bytes (codes "==") || (starts_with nat_eq bytes (codes "!=") || (starts_with nat_eq bytes (codes "<=")
    || (starts_with nat_eq bytes (codes "<<") || starts_with nat_eq bytes (codes ">>"))))

-- the piece at the front of bytes whose first is c; a byte that stands for nothing is a token that no rule takes
unfoldable pub piece_at : ℕ → List ℕ → Piece
piece_at c bytes =
    cond (is_blank c) (blank_of 1)
    (cond (is_word c) (token_of (prefix_len is_word bytes))
    (cond (starts_with nat_eq bytes (codes "//")) (blank_of (prefix_len in_line bytes))
    (cond (begins_pair bytes) (token_of 2) (token_of 1))))

-- ---- tokens

-- the line after a byte
abbrev pub line_after : ℕ → ℕ → ℕ
line_after c line = cond (is_line_end c) (line + 1) line

-- the token of a piece, if it is one
abbrev pub placed : Piece → ℕ → List ℕ → List Token
placed p line bytes = cond p.is_token (record { text = take p.size bytes; line = line } ∷ []) []

-- the tokens of the bytes from a line on, of which the first few belong to the piece before; only a piece of one byte holds a line feed
abbrev pub tokens_from : ℕ → ℕ → List ℕ → List Token
tokens_from inside line [] = []
tokens_from (suc k) line (c ∷ cs) = tokens_from k line cs
tokens_from zero line (c ∷ cs) = let p = piece_at c (c ∷ cs) in
    placed p line (c ∷ cs) ++ tokens_from (p.size - 1) (line_after c line) cs

-- the tokens of a whole text
abbrev pub tokens : List ℕ → List Token
tokens bytes = tokens_from 0 1 bytes

-- the line on which a text ends
abbrev pub last_line : List ℕ → ℕ
last_line bytes = count_by is_line_end bytes + 1
