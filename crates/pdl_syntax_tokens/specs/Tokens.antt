-- The tokens of a source text: at each place where nothing goes on, the longest piece that begins there.
use Rattle.std.specs.Prelude.{ℕ, zero, suc, ◌+◌, ◌-◌, ◌*◌, ◌^◌, Bool, true, false, ◌&&◌, ◌||◌, ◌==◌, nat_eq, nat_le, nat_lt, cond, List, [], ◌∷◌, ◌++◌, length, take, drop, take_while, count_by, codes, Option, Some, None}
use Rattle.std.specs.List.{prefix_len, starts_with}
use Rattle.std.specs.Cmp.Lexicographic.{pointwise}
use Rattle.pdl_semantics.specs.Tree.{Span}
use Rattle.pdl_syntax_tokens.specs.declared.token.Mark.{Mark}
use Rattle.pdl_syntax_tokens.specs.declared.token.Mark.TheVariants as mark
use Rattle.pdl_syntax_tokens.specs.declared.token.TokenKind.{TokenKind}
use Rattle.pdl_syntax_tokens.specs.declared.token.TokenKind.TheVariants as kind
use Rattle.pdl_word.specs.Digits.{most_hex, most_decimal}
use Rattle.pdl_word.specs.Words.{widest}

-- a token: what it is, its bytes, and where they stand
pub record Token : Type 0 where
  pub kind : TokenKind
  pub text : List ℕ
  pub span : Span

-- tokens one after another
abbrev pub Row : Type 0
Row = List Token

-- ---- bytes

-- a letter in lower case
abbrev pub is_lower : ℕ → Bool
is_lower c = nat_le 97 c && nat_le c 122

-- a digit of base 10
abbrev pub is_digit : ℕ → Bool
is_digit c = nat_le 48 c && nat_le c 57

-- a digit of base 16, in lower case
abbrev pub is_hex : ℕ → Bool
is_hex c = is_digit c || (nat_le 97 c && nat_le c 102)

-- a byte of a name, the underscore among them
abbrev pub is_word : ℕ → Bool
is_word c = is_lower c || (is_digit c || c == 95)

-- a line feed
abbrev pub is_line_end : ℕ → Bool
is_line_end c = c == 10

-- a byte of a comment
abbrev pub in_line : ℕ → Bool
in_line c = cond (is_line_end c) false true

-- space, tab, carriage return and line feed
abbrev pub is_blank : ℕ → Bool
is_blank c = c == 32 || (c == 9 || (c == 13 || c == 10))

-- ---- keywords and symbols

-- how a keyword or a symbol is written
pub record Spelling : Type 0 where
  pub text : List ℕ
  pub mark : Mark

abbrev spelt : List ℕ → Mark → Spelling
spelt t m = record { text = t; mark = m }

-- how the keywords are written
abbrev pub keywords : List Spelling
keywords = spelt (codes "pipe") mark.Pipe ∷ spelt (codes "start") mark.Start ∷ spelt (codes "uint") mark.Uint
    ∷ spelt (codes "comb") mark.Comb ∷ spelt (codes "delayed") mark.Delayed ∷ spelt (codes "advisory") mark.Advisory ∷ spelt (codes "lock") mark.Lock
    ∷ spelt (codes "queue") mark.Queue ∷ spelt (codes "bypass") mark.Bypass ∷ spelt (codes "rename") mark.Rename
    ∷ spelt (codes "if") mark.If ∷ spelt (codes "else") mark.Else ∷ spelt (codes "call") mark.Call
    ∷ spelt (codes "spec_call") mark.SpecCall ∷ spelt (codes "verify") mark.Verify ∷ spelt (codes "update") mark.Update
    ∷ spelt (codes "spec_check") mark.SpecCheck ∷ spelt (codes "spec_barrier") mark.SpecBarrier
    ∷ spelt (codes "reserve") mark.Reserve ∷ spelt (codes "acquire") mark.Acquire
    ∷ spelt (codes "block") mark.Block ∷ spelt (codes "release") mark.Release ∷ spelt (codes "cat") mark.Cat
    ∷ spelt (codes "zext") mark.ZeroExtend ∷ spelt (codes "sext") mark.SignExtend ∷ spelt (codes "lts") mark.LessSigned ∷ []

-- symbols, and the two capital letters; a longer one stands before those that begin it
abbrev pub symbols : List Spelling
symbols = spelt (codes "---") mark.Separator ∷ spelt (codes "<-") mark.Arrow ∷ spelt (codes "<<") mark.ShiftLeft
    ∷ spelt (codes ">>") mark.ShiftRight ∷ spelt (codes "==") mark.Equal ∷ spelt (codes "!=") mark.Differ
    ∷ spelt (codes "(") mark.OpenRound ∷ spelt (codes ")") mark.CloseRound ∷ spelt (codes "[") mark.OpenSquare
    ∷ spelt (codes "]") mark.CloseSquare ∷ spelt (codes "{") mark.OpenBrace ∷ spelt (codes "}") mark.CloseBrace
    ∷ spelt (codes "<") mark.Less ∷ spelt (codes ">") mark.Greater ∷ spelt (codes ":") mark.Colon
    ∷ spelt (codes ";") mark.Semicolon ∷ spelt (codes ",") mark.Comma ∷ spelt (codes "=") mark.Assign
    ∷ spelt (codes "+") mark.Plus ∷ spelt (codes "-") mark.Minus ∷ spelt (codes "*") mark.Star
    ∷ spelt (codes "&") mark.Ampersand ∷ spelt (codes "|") mark.Bar ∷ spelt (codes "^") mark.Caret
    ∷ spelt (codes "~") mark.Tilde ∷ spelt (codes "?") mark.Question ∷ spelt (codes "R") mark.R ∷ spelt (codes "W") mark.W ∷ []

-- the first spelling that is the text
abbrev pub spelling_of : List Spelling → List ℕ → Option Spelling
spelling_of [] text = None
spelling_of (s ∷ rest) text = cond (pointwise nat_eq text s.text) (Some s) (spelling_of rest text)

-- the first spelling with which the bytes begin
abbrev pub spelling_at : List Spelling → List ℕ → Option Spelling
spelling_at [] bytes = None
spelling_at (s ∷ rest) bytes = cond (starts_with nat_eq bytes s.text) (Some s) (spelling_at rest bytes)

-- ---- numbers

-- the value of a digit of base 10 or 16
abbrev pub digit_value : ℕ → ℕ
digit_value c = cond (is_digit c) (c - 48) (cond (is_hex c) (c - 87) 0)

-- the value of digits after others of the value v
abbrev pub value_from : ℕ → ℕ → List ℕ → ℕ
value_from base v [] = v
value_from base v (c ∷ cs) = value_from base (v * base + digit_value c) cs

-- the value of digits in a base
abbrev pub value_of : ℕ → List ℕ → ℕ
value_of base digits = value_from base 0 digits

-- the value where it fits the widest word
abbrev pub fitting : ℕ → Option ℕ
fitting v = cond (nat_lt v (2 ^ widest)) (Some v) None

-- ---- pieces

-- what stands at the front: a token, or white space or a comment, and how many bytes it takes
pub record Piece : Type 0 where
  pub kind : Option TokenKind
  pub size : ℕ

abbrev token_of : TokenKind → ℕ → Piece
token_of k n = record { kind = Some k; size = n }

-- white space or a comment of n bytes
abbrev pub blank_of : ℕ → Piece
blank_of n = record { kind = None; size = n }

-- the keyword that is so spelt, else a name
abbrev pub keyword_or_name : Option Spelling → TokenKind
keyword_or_name (Some s) = kind.Mark s.mark
keyword_or_name None = kind.Name

-- a keyword, or a name of at most 32 characters
abbrev pub word_kind : List ℕ → TokenKind
word_kind text = cond (nat_le (length text) 32) (keyword_or_name (spelling_of keywords text)) kind.Bad

-- the keyword or the name at the front, a bad token where that is too long
abbrev pub word_at : List ℕ → Piece
word_at bytes = token_of (word_kind (take_while is_word bytes)) (prefix_len is_word bytes)

-- a number of at most 10 digits
abbrev pub number_kind : List ℕ → TokenKind
number_kind digits = cond (nat_le (length digits) 10) (kind.Number (value_of 10 digits)) kind.Bad

-- how many digits of a base a literal may have: those of the widest words
abbrev pub most_digits : ℕ → ℕ
most_digits base = cond (base == 16) most_hex most_decimal

-- a literal: a number for its width, and at most so many digits in its base
abbrev pub literal_kind : List ℕ → ℕ → List ℕ → TokenKind
literal_kind width base digits = cond (nat_le (length width) 10 && nat_le (length digits) (most_digits base))
    (kind.Literal (value_of 10 width) (fitting (value_of base digits))) kind.Bad

-- the digits after a mark of their base, none where it doesn't stand there
abbrev pub digits_after : List ℕ → (ℕ → Bool) → List ℕ → List ℕ
digits_after base is bytes = cond (starts_with nat_eq bytes base) (take_while is (drop (length base) bytes)) []

-- a number, or a literal where digits with their base follow it
abbrev pub number_or_literal : List ℕ → List ℕ → List ℕ → Piece
number_or_literal number [] [] = token_of (number_kind number) (length number)
number_or_literal number [] (h ∷ hs) = token_of (literal_kind number 16 (h ∷ hs)) (length number + 2 + length (h ∷ hs))
number_or_literal number (d ∷ ds) hex = token_of (literal_kind number 10 (d ∷ ds)) (length number + 2 + length (d ∷ ds))

-- the number or the literal at the front, a bad token where it has too many digits
abbrev pub number_at : List ℕ → Piece
number_at bytes = let after = drop (prefix_len is_digit bytes) bytes in
    number_or_literal (take_while is_digit bytes) (digits_after (codes "'d") is_digit after) (digits_after (codes "'h") is_hex after)

-- the symbol that is so spelt, else a bad token of one byte
abbrev pub mark_or_bad : Option Spelling → Piece
mark_or_bad (Some s) = token_of (kind.Mark s.mark) (length s.text)
mark_or_bad None = token_of kind.Bad 1

-- the piece at the front of bytes whose first is c
unfoldable pub piece_at : ℕ → List ℕ → Piece
piece_at c bytes =
    cond (is_blank c) (blank_of 1)
    (cond (is_lower c) (word_at bytes)
    (cond (is_digit c) (number_at bytes)
    (cond (starts_with nat_eq bytes (codes "//")) (blank_of (prefix_len in_line bytes))
    (mark_or_bad (spelling_at symbols bytes)))))

-- ---- tokens

-- the line after a byte
abbrev pub line_after : ℕ → ℕ → ℕ
line_after c line = cond (is_line_end c) (line + 1) line

-- the token of a piece, if it is one, with its bytes and its place
abbrev pub placed_token : Piece → ℕ → ℕ → List ℕ → List Token
placed_token p start line bytes = placed_kind p.kind
  where
    placed_kind : Option TokenKind → List Token
    placed_kind None = []
    placed_kind (Some k) = record { kind = k; text = take p.size bytes; span = record { start = start; end = start + p.size; line = line } } ∷ []

-- the tokens of the bytes from a place on a line on, of which the first few belong to the piece before; only a piece of one byte holds a line feed
abbrev pub tokens_from : ℕ → ℕ → ℕ → List ℕ → List Token
tokens_from inside start line [] = []
tokens_from (suc k) start line (c ∷ cs) = tokens_from k (start + 1) line cs
tokens_from zero start line (c ∷ cs) = let p = piece_at c (c ∷ cs) in
    placed_token p start line (c ∷ cs) ++ tokens_from (p.size - 1) (start + 1) (line_after c line) cs

-- the tokens of a whole text
abbrev pub tokens : List ℕ → List Token
tokens bytes = tokens_from 0 0 1 bytes

-- the line on which a text ends
abbrev pub last_line : List ℕ → ℕ
last_line bytes = count_by is_line_end bytes + 1
