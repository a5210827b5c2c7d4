-- Names of a text have at most 32 characters.
use Rattle.std.proofs.Common.{◌≡◌, ℕ, zero, suc, ◌+◌, ◌-◌, ◌≤◌, Bool, true, false, cond, nat_le, nat_eq, leb-true, codes, List, [], ◌∷◌, ◌++◌, length, take, take_while, Option, Some, None, refl, ap, subst, arith}
use Rattle.std.specs.Prelude.{⊤}
use Rattle.std.specs.List.{starts_with}
use Rattle.std.proofs.lemmas.List.{length-take}
use Rattle.std.proofs.lemmas.List.Folds.{length-prefix_len}
use Rattle.pdl_semantics.specs.Tree.{LockDecl, Mem, Param, Pipe}
use Rattle.pdl_syntax_tokens.specs.declared.token.Mark.{Mark}
use Rattle.pdl_syntax_tokens.specs.declared.token.TokenKind.{TokenKind}
use Rattle.pdl_syntax_tokens.specs.declared.token.TokenKind.TheVariants as kind
use Rattle.pdl_syntax_tokens.specs.Tokens.{Token, Row, Piece, Spelling, tokens, tokens_from, placed_token, piece_at, word_at, keyword_or_name, spelling_of, keywords, number_or_literal, mark_or_bad, blank_of, is_word, is_blank, is_lower, is_digit, symbols, spelling_at, line_after}
use Rattle.pdl_syntax_grammar.specs.Grammar.{Listed, last, further, Memory, memory, advisory, Parameter, parameter, Lock, unlocked, locked, Text, text}
use Rattle.pdl_syntax_grammar.specs.Text.{IsText}
use Rattle.pdl_syntax_tokens.proofs.OtherKinds.{same_kind, number_no_name, literal_no_name}

-- ---- pieces

-- a piece that is a name is short
abbrev IsShortPiece : Piece → Type 0
IsShortPiece p = p.kind ≡ Some kind.Name → p.size ≤ 32

one_of : (b : Bool) (p q : Piece) → IsShortPiece p → IsShortPiece q → IsShortPiece (cond b p q)
one_of true p q h k = h
one_of false p q h k = k

blank_short : (n : ℕ) → IsShortPiece (blank_of n)
blank_short n e = absurd (cc e)

mark_short : (s : Option Spelling) → IsShortPiece (mark_or_bad s)
mark_short None e = absurd (cc e)
mark_short (Some s) e = absurd (cc e)

number_short : (n ds hs : List ℕ) → IsShortPiece (number_or_literal n ds hs)
number_short n [] [] e = absurd (number_no_name _ _ (same_kind _ _ e))
number_short n [] (h ∷ hs) e = absurd (literal_no_name _ _ _ (same_kind _ _ e))
number_short n (d ∷ ds) hs e = absurd (literal_no_name _ _ _ (same_kind _ _ e))

word_case : (b : Bool) (n : ℕ) (k : TokenKind) → nat_le n 32 ≡ b → cond b k kind.Bad ≡ kind.Name → n ≤ 32
word_case true n k e h = leb-true n 32 e
word_case false n k e h = absurd (cc h)

word_short : (bytes : List ℕ) → IsShortPiece (word_at bytes)
word_short bytes e =
    let w = take_while is_word bytes in
    let n : length w ≤ 32 = word_case (nat_le (length w) 32) (length w) (keyword_or_name (spelling_of keywords w)) refl (same_kind _ _ e) in
    subst (λ k. k ≤ 32) (length-prefix_len is_word bytes) n

piece_short : (c : ℕ) (bytes : List ℕ) → IsShortPiece (piece_at c bytes)
unfolding piece_at
piece_short c bytes =
    one_of (is_blank c) _ _ (blank_short 1)
    (one_of (is_lower c) _ _ (word_short bytes)
    (one_of (is_digit c) _ _ (number_short _ _ _)
    (one_of (starts_with nat_eq bytes (codes "//")) _ _ (blank_short _)
    (mark_short (spelling_at symbols bytes)))))

-- ---- tokens

-- a token that is a name is short
abbrev IsShort : Token → Type 0
IsShort t = t.kind ≡ kind.Name → length t.text ≤ 32

-- of some tokens, each that is a name is short
abbrev pub AreShort : List Token → Type 0
AreShort [] = ⊤
AreShort (t ∷ ts) = IsShort t × AreShort ts

taken : (n : ℕ) (xs : List ℕ) → n ≤ 32 → length (take n xs) ≤ 32
taken n xs h = let e = length-take n xs in omega (arith, e, h)

placed_short : (k : Option TokenKind) (n start line : ℕ) (bytes : List ℕ) → IsShortPiece (record { kind = k; size = n })
    → (rest : List Token) → AreShort rest
    → AreShort (placed_token (record { kind = k; size = n }) start line bytes ++ rest)
placed_short None n start line bytes h rest t = t
placed_short (Some k) n start line bytes h rest t = (λ e. taken n bytes (h (ap (λ (j : TokenKind). Some j) e)), t)

tokens_short : (inside start line : ℕ) (bytes : List ℕ) → AreShort (tokens_from inside start line bytes)
tokens_short inside start line [] = tt
tokens_short (suc k) start line (c ∷ cs) = tokens_short k (start + 1) line cs
tokens_short zero start line (c ∷ cs) =
    let p = piece_at c (c ∷ cs) in
    placed_short p.kind p.size start line (c ∷ cs) (piece_short c (c ∷ cs)) _ (tokens_short (p.size - 1) (start + 1) (line_after c line) cs)

-- ---- texts

-- the names of memories are short
abbrev pub HaveShortNames : List Mem → Type 0
HaveShortNames [] = ⊤
HaveShortNames (m ∷ ms) = (length m.name.name ≤ 32) × HaveShortNames ms

lock_rest : (l : Option LockDecl) (a r : Row) → Lock l a r → AreShort a → AreShort r
lock_rest l a r unlocked t = t
lock_rest l a r locked t = t.1.1.1.1.1

memory_short : (m : Mem) (a r : Row) → Memory m a r → AreShort a → (length m.name.name ≤ 32) × AreShort r
memory_short m a r (memory d k) t = (t.0 refl, lock_rest _ _ _ k t.1.1.1.1.1.1.1.1.1.1)
memory_short m a r advisory t = (t.0 refl, t.1.1.1.1.1.1.1.1.1.1)

memories_short : (c : Mark) (ms : List Mem) (a r : Row) → Listed Memory c ms a r → AreShort a → HaveShortNames ms
memories_short c ms a r (last k) t = ((memory_short _ _ _ k t).0, tt)
memories_short c ms a r (further k l) t = let h = memory_short _ _ _ k t in (h.0, memories_short c _ _ r l h.1.1)

parameter_rest : (x : Param) (a r : Row) → Parameter x a r → AreShort a → AreShort r
parameter_rest x a r parameter t = t.1.1.1.1.1.1

parameters_rest : (c : Mark) (xs : List Param) (a r : Row) → Listed Parameter c xs a r → AreShort a → AreShort r
parameters_rest c xs a r (last k) t = (parameter_rest _ _ _ k t).1
parameters_rest c xs a r (further k l) t = parameters_rest c _ _ r l (parameter_rest _ _ _ k t).1

whole_short : (p : Pipe) (a r : Row) → Text p a r → AreShort a → HaveShortNames p.mems
whole_short p a r (text params mems body start) t = memories_short _ _ _ _ mems (parameters_rest _ _ _ _ params t.1.1.1).1

-- the memories of a text have names of at most 32 characters
pub short_names : (source : List ℕ) (p : Pipe) → IsText source p → HaveShortNames p.mems
short_names source p t = whole_short p (tokens source) [] t.text (tokens_short 0 0 1 source)
